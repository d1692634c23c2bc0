-- The exact figures of the non-life underwriting risk module: Articles 114, 115, 117, 119, 120 and 128 of Delegated
-- Regulation (EU) 2015/35; and of premium and reserve risk of NSLT health, health that is not similar to life: Articles
-- 146 and 148 and Annex XV. Nothing is rounded. The thirteen catastrophe charges are in cents, in this order: windstorm,
-- earthquake, flood, hail, subsidence, non-proportional property reinsurance, motor, marine, aviation, fire, liability,
-- credit and suretyship, and other non-life catastrophes.
use Rattle.std.specs.Prelude.{ℕ, pos, List, [], ◌∷◌, slice_index}
use Rattle.std.proofs.Common.{lit<}
use Rattle.scr_num.specs.Fraction.{Share}
use Rattle.scr_num.specs.Figure.{Figure, Figures}
use Rattle.scr_num.specs.Figure.Figure.{Sum, Times, Root}
use Rattle.scr_num.specs.Figure.Figures.{more, none}
use Rattle.scr_num.specs.Table.{Table}
use Rattle.scr_num.specs.Cents.{cents_figure}
use Rattle.scr_agg.specs.Correlated.{uncorrelated}

-- ---- premium and reserve risk
abbrev pub three : Share
three = record { num = 3; den = 1; positive = lit< tt }

-- three times the standard deviation over all segments: the root over the segments' standard deviations times volumes,
-- with the correlations between segments (Articles 115 and 117; for health Articles 146 and 148)
abbrev pub premium_reserve_figure : Figures → Table → Figure
premium_reserve_figure segments correlations = Times (Root segments correlations) three

-- any two of the four segments of health that is not similar to life are correlated 0.5 (Annex XV); the cells are
-- quarters
abbrev pub nslt_correlations : Table
nslt_correlations = record {
  den = 4;
  rows =
      (pos 4 ∷ pos 2 ∷ pos 2 ∷ pos 2 ∷ [])
      ∷ (pos 2 ∷ pos 4 ∷ pos 2 ∷ pos 2 ∷ [])
      ∷ (pos 2 ∷ pos 2 ∷ pos 4 ∷ pos 2 ∷ [])
      ∷ (pos 2 ∷ pos 2 ∷ pos 2 ∷ pos 4 ∷ [])
      ∷ [];
}

-- ---- catastrophe risk, in which no two perils and no two kinds of catastrophe are correlated
-- natural catastrophes: the root of the squares of windstorm, earthquake, flood, hail and subsidence (Article 120)
abbrev pub nat_figure : (perils : Figures) → Figure
nat_figure perils = Root perils (uncorrelated 5)

-- man-made catastrophes: the root of the squares of motor, marine, aviation, fire, liability, and credit and suretyship
-- (Article 128)
abbrev pub manmade_figure : (perils : Figures) → Figure
manmade_figure perils = Root perils (uncorrelated 6)

-- the root of the squares of natural catastrophes with non-proportional property reinsurance, of man-made ones and of
-- others (Article 119)
abbrev pub cat_figure : (nat manmade property other : Figure) → Figure
cat_figure nat manmade property other =
    Root (more (Sum nat property) (more manmade (more other none))) (uncorrelated 3)

-- ---- from thirteen charges in cents
abbrev pub charge_figure : List ℕ → ℕ → Figure
charge_figure charges place = cents_figure (slice_index charges place)

abbrev pub natural_figure : List ℕ → Figure
natural_figure charges =
    let charge = charge_figure charges in
    nat_figure (more (charge 0) (more (charge 1) (more (charge 2) (more (charge 3) (more (charge 4) none)))))

abbrev pub man_made_figure : List ℕ → Figure
man_made_figure charges =
    let charge = charge_figure charges in
    manmade_figure
    (more (charge 6) (more (charge 7) (more (charge 8) (more (charge 9) (more (charge 10) (more (charge 11) none))))))

abbrev pub catastrophes_figure : List ℕ → Figure
catastrophes_figure charges =
    cat_figure (natural_figure charges) (man_made_figure charges) (charge_figure charges 5) (charge_figure charges 12)

-- ---- the module
-- premium and reserve risk is correlated 0.25 with catastrophe risk, and lapse risk with neither (Article 114); the
-- cells are quarters
abbrev pub nonlife_correlations : Table
nonlife_correlations = record {
  den = 4;
  rows =
      (pos 4 ∷ pos 1 ∷ pos 0 ∷ [])
      ∷ (pos 1 ∷ pos 4 ∷ pos 0 ∷ [])
      ∷ (pos 0 ∷ pos 0 ∷ pos 4 ∷ [])
      ∷ [];
}

-- the root over premium and reserve, catastrophe and lapse risk, of which lapse risk is a charge in cents
abbrev pub nonlife_figure : (premium_reserve cat : Figure) → (lapse : ℕ) → Figure
nonlife_figure premium_reserve cat lapse =
    Root (more premium_reserve (more cat (more (cents_figure lapse) none))) nonlife_correlations
