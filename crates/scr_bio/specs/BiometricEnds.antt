-- The figures of the life and health modules as they are worked out, in grains, thousandths of a cent (this project's
-- own): each is rounded outward once.
use Rattle.std.specs.Prelude.{ℕ, List, [], ◌∷◌}
use Rattle.scr_num.specs.Rounding.{Ends, scale_ends, quad_ends}
use Rattle.scr_num.specs.Cents.{cents_ends}
use Rattle.scr_agg.specs.Correlated.{uncorrelated}
use Rattle.scr_bio.specs.Biometric.{life_correlations, slt_correlations, health_correlations}

-- how many units of 10^-18 cents make one grain
abbrev pub units_of_a_grain : ℕ
units_of_a_grain = 1_000_000_000_000_000

-- a sum of losses in 10^-18 cents, in grains
abbrev pub loss_ends : Ends → Ends
loss_ends sum = scale_ends sum 1 units_of_a_grain

abbrev pub life_ends : List Ends → Ends
life_ends parts = quad_ends parts life_correlations

abbrev pub slt_ends : List Ends → Ends
slt_ends parts = quad_ends parts slt_correlations

abbrev pub nslt_ends : (premium_reserve : Ends) → (lapse : ℕ) → Ends
nslt_ends premium_reserve lapse = quad_ends (premium_reserve ∷ cents_ends lapse ∷ []) (uncorrelated 2)

-- mass accidents, accident concentration and pandemics, in grains
abbrev pub health_cat_ends : List Ends → Ends
health_cat_ends parts = quad_ends parts (uncorrelated 3)

abbrev pub health_ends : (slt nslt cat : Ends) → Ends
health_ends slt nslt cat = quad_ends (slt ∷ nslt ∷ cat ∷ []) health_correlations
