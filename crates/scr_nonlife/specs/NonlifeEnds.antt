-- The figures of the non-life module as they are worked out, in grains, thousandths of a cent (this project's own):
-- each root is rounded outward once.
use Rattle.std.specs.Prelude.{ℕ, List, [], ◌∷◌, slice_index}
use Rattle.scr_num.specs.Rounding.{Ends, add_ends, scale_ends, quad_ends}
use Rattle.scr_num.specs.Cents.{cents_ends}
use Rattle.scr_num.specs.Table.{Table}
use Rattle.scr_agg.specs.Correlated.{uncorrelated}
use Rattle.scr_nonlife.specs.Nonlife.{nonlife_correlations}

abbrev pub premium_reserve_ends : List Ends → Table → Ends
premium_reserve_ends segments correlations = scale_ends (quad_ends segments correlations) 3 1

-- windstorm, earthquake, flood, hail and subsidence, in grains
abbrev pub nat_ends : (perils : List Ends) → Ends
nat_ends perils = quad_ends perils (uncorrelated 5)

-- motor, marine, aviation, fire, liability, and credit and suretyship, in grains
abbrev pub manmade_ends : (perils : List Ends) → Ends
manmade_ends perils = quad_ends perils (uncorrelated 6)

-- non-proportional property reinsurance is added to natural catastrophes before the outer root
abbrev pub cat_ends : (nat manmade property other : Ends) → Ends
cat_ends nat manmade property other = quad_ends (add_ends nat property ∷ manmade ∷ other ∷ []) (uncorrelated 3)

-- ---- from thirteen charges in cents
abbrev pub charge_ends : List ℕ → ℕ → Ends
charge_ends charges place = cents_ends (slice_index charges place)

abbrev pub natural_perils : List ℕ → List Ends
natural_perils charges =
    charge_ends charges 0 ∷ charge_ends charges 1 ∷ charge_ends charges 2 ∷ charge_ends charges 3 ∷ charge_ends charges 4 ∷ []

abbrev pub man_made_perils : List ℕ → List Ends
man_made_perils charges =
    charge_ends charges 6 ∷ charge_ends charges 7 ∷ charge_ends charges 8 ∷ charge_ends charges 9 ∷ charge_ends charges 10
    ∷ charge_ends charges 11 ∷ []

abbrev pub catastrophes_ends : List ℕ → Ends
catastrophes_ends charges =
    cat_ends (nat_ends (natural_perils charges)) (manmade_ends (man_made_perils charges)) (charge_ends charges 5)
    (charge_ends charges 12)

-- ---- the module
abbrev pub nonlife_ends : (premium_reserve cat : Ends) → (lapse : ℕ) → Ends
nonlife_ends premium_reserve cat lapse =
    quad_ends (premium_reserve ∷ cat ∷ cents_ends lapse ∷ []) nonlife_correlations
