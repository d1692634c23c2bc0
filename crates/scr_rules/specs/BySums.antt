-- Which rules see the figures of their sources by a sum alone (this project's own), as large sums do that are regrouped.
use Rattle.std.specs.Prelude.{Bool, true, false}
use Rattle.scr_nodes.specs.Own.{Own}
use Rattle.scr_nodes.specs.Own.Own.{Lost, Converted, Added, Spread, SquareRoot}

-- what is held of a class, of a group and of all groups; what a currency and a stress lose; spread risk and concentrations
abbrev pub is_of_sum : Own → Bool
is_of_sum Lost = true
is_of_sum Converted = true
is_of_sum Added = true
is_of_sum Spread = true
is_of_sum SquareRoot = true
is_of_sum own = false
