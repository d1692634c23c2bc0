-- The capital requirement for counterparty default risk as it is worked out, in grains (this project's own).
use Rattle.std.specs.Prelude.{ℕ, ◌+◌, ◌*◌, pos, [], ◌∷◌}
use Rattle.scr_num.specs.Rounding.{Ends, exact_ends, quad_ends}
use Rattle.scr_default.specs.Default.{default_correlations}

abbrev pub type2_ends : (overdue other : ℕ) → Ends
type2_ends overdue other = exact_ends (pos (900 * overdue + 150 * other))

abbrev pub default_ends : (type1 type2 : Ends) → Ends
default_ends type1 type2 = quad_ends (type1 ∷ type2 ∷ []) default_correlations
