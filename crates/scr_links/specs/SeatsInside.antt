-- The view of stored seats, in 16 or in 32 bits (own).
use Rattle.std.specs.Prelude.{map, min, vec_capacity}
use Rattle.scr_links.specs.Seats.{Seating, long_seat, short_none}
use Rattle.scr_links.specs.declared.seats.Kept.{Kept}
use Rattle.scr_links.specs.declared.seats.Kept.TheVariants.{Short, Long}
use Rattle.scr_links.specs.declared.seats.Seats.TheInside.{Inside}

-- What contracts see of stored seats (own). Memory for more seats than 16 bits distinguish counts as no room.
abbrev pub seating_of : Kept → Seating
seating_of (Short seats) = record { items = map long_seat seats.items; room = min short_none (vec_capacity seats) }
seating_of (Long seats) = record { items = seats.items; room = vec_capacity seats }

-- What contracts see of the seats (own).
abbrev pub seating : Inside → Seating
seating inside = seating_of inside.kept
