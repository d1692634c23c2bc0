-- The order in which the figures of the whole sheet can be computed (own).
use Rattle.std.specs.Prelude.{ℕ, suc}
use Rattle.scr_nodes.specs.declared.node.Whole.{Whole}
use Rattle.scr_nodes.specs.declared.node.Whole.TheVariants as wholes
use Rattle.scr_figure_ids.specs.Families.{whole_family}

-- The position of a figure in the order: the assets are first, and all others follow by their families (own).
abbrev pub turn_of : Whole → ℕ
turn_of wholes.Assets = 0
turn_of what = suc (whole_family what)
