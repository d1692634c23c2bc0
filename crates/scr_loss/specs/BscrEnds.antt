-- The Basic Solvency Capital Requirement as it is worked out, in grains, thousandths of a cent (this project's own).
use Rattle.std.specs.Prelude.{ℕ, ◌*◌, pos, ◌≤ℤ◌, List}
use Rattle.std.specs.List.{AllByRecursion}
use Rattle.scr_num.specs.Rounding.{Ends, exact_ends, add_ends, sub_ends, quad_ends}
use Rattle.scr_num.specs.Sums.{sum_ends}
use Rattle.scr_loss.specs.Bscr.{bscr_correlations}

-- no low end is below 0
abbrev pub LowsNotNegative : List Ends → Type 0
LowsNotNegative modules = AllByRecursion (λ e. pos 0 ≤ℤ e.low) modules

abbrev pub modules_ends : List Ends → Ends
modules_ends modules = quad_ends modules bscr_correlations

abbrev pub intangible_ends : ℕ → Ends
intangible_ends cents = exact_ends (pos (800 * cents))

abbrev pub bscr_ends : List Ends → (intangible : ℕ) → Ends
bscr_ends modules intangible = add_ends (modules_ends modules) (intangible_ends intangible)

abbrev pub diversification_ends : List Ends → Ends
diversification_ends modules = sub_ends (sum_ends modules) (modules_ends modules)

-- the same of a Basic Solvency Capital Requirement that is known: the sum of the modules less what it is without
-- intangible assets
abbrev pub known_diversification_ends : List Ends → (bscr : Ends) → (intangible : ℕ) → Ends
known_diversification_ends modules bscr intangible =
    sub_ends (sum_ends modules) (sub_ends bscr (intangible_ends intangible))
