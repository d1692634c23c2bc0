-- The place of a node as plain data.
use Rattle.scr_num.specs.Rounding.{ends}
use Rattle.scr_board.specs.declared.places.Place.{Place}
use Rattle.scr_board.specs.declared.places.Place.TheVariants as TheVariants
use Rattle.scr_board.specs.BoardRounds.{Spot, Fixed, Node}

-- The plain value of a place: the ends of a fixed span, or the position of a node (own).
abbrev pub spot_of : Place → Spot
spot_of (TheVariants.Fixed span) = Fixed (ends span)
spot_of (TheVariants.Node n) = Node n
