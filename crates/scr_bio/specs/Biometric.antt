-- The exact figures of the life and of the health underwriting risk modules: Articles 136, 144, 145, 151 and 160 of
-- Delegated Regulation (EU) 2015/35. Nothing is rounded. The parts of a root stand in the order in which its article
-- names them.
use Rattle.std.specs.Prelude.{ℕ, pos, negsuc, [], ◌∷◌}
use Rattle.scr_num.specs.Figure.{Figure, Figures}
use Rattle.scr_num.specs.Figure.Figure.{Root}
use Rattle.scr_num.specs.Figure.Figures.{more, none}
use Rattle.scr_num.specs.Table.{Table}
use Rattle.scr_num.specs.Cents.{cents_figure}
use Rattle.scr_agg.specs.Correlated.{uncorrelated}

-- ---- life
-- mortality, longevity, disability-morbidity, life expense, revision, lapse and life catastrophe risk (Article 136);
-- the cells are quarters
abbrev pub life_correlations : Table
life_correlations = record {
  den = 4;
  rows =
      (pos 4 ∷ negsuc 0 ∷ pos 1 ∷ pos 1 ∷ pos 0 ∷ pos 0 ∷ pos 1 ∷ [])
      ∷ (negsuc 0 ∷ pos 4 ∷ pos 0 ∷ pos 1 ∷ pos 1 ∷ pos 1 ∷ pos 0 ∷ [])
      ∷ (pos 1 ∷ pos 0 ∷ pos 4 ∷ pos 2 ∷ pos 0 ∷ pos 0 ∷ pos 1 ∷ [])
      ∷ (pos 1 ∷ pos 1 ∷ pos 2 ∷ pos 4 ∷ pos 2 ∷ pos 2 ∷ pos 1 ∷ [])
      ∷ (pos 0 ∷ pos 1 ∷ pos 0 ∷ pos 2 ∷ pos 4 ∷ pos 0 ∷ pos 0 ∷ [])
      ∷ (pos 0 ∷ pos 1 ∷ pos 0 ∷ pos 2 ∷ pos 0 ∷ pos 4 ∷ pos 1 ∷ [])
      ∷ (pos 1 ∷ pos 0 ∷ pos 1 ∷ pos 1 ∷ pos 0 ∷ pos 1 ∷ pos 4 ∷ [])
      ∷ [];
}

-- the capital requirement for life underwriting risk, of those for its seven risks (Article 136)
abbrev pub life_figure : Figures → Figure
life_figure parts = Root parts life_correlations

-- ---- health similar to life
-- health mortality, longevity, disability-morbidity, expense, revision and SLT health lapse risk (Article 151); the
-- cells are quarters
abbrev pub slt_correlations : Table
slt_correlations = record {
  den = 4;
  rows =
      (pos 4 ∷ negsuc 0 ∷ pos 1 ∷ pos 1 ∷ pos 0 ∷ pos 0 ∷ [])
      ∷ (negsuc 0 ∷ pos 4 ∷ pos 0 ∷ pos 1 ∷ pos 1 ∷ pos 1 ∷ [])
      ∷ (pos 1 ∷ pos 0 ∷ pos 4 ∷ pos 2 ∷ pos 0 ∷ pos 0 ∷ [])
      ∷ (pos 1 ∷ pos 1 ∷ pos 2 ∷ pos 4 ∷ pos 2 ∷ pos 2 ∷ [])
      ∷ (pos 0 ∷ pos 1 ∷ pos 0 ∷ pos 2 ∷ pos 4 ∷ pos 0 ∷ [])
      ∷ (pos 0 ∷ pos 1 ∷ pos 0 ∷ pos 2 ∷ pos 0 ∷ pos 4 ∷ [])
      ∷ [];
}

-- the capital requirement for SLT health underwriting risk, of those for its six risks (Article 151)
abbrev pub slt_figure : Figures → Figure
slt_figure parts = Root parts slt_correlations

-- ---- health not similar to life
-- the root of the squares of NSLT health premium and reserve risk and of NSLT health lapse risk, of which lapse risk
-- is a charge in cents (Article 145)
abbrev pub nslt_figure : (premium_reserve : Figure) → (lapse : ℕ) → Figure
nslt_figure premium_reserve lapse = Root (more premium_reserve (more (cents_figure lapse) none)) (uncorrelated 2)

-- ---- health catastrophes
-- the root of the squares of the charges for mass accidents, accident concentration and pandemics (Article 160)
abbrev pub health_cat_figure : Figures → Figure
health_cat_figure parts = Root parts (uncorrelated 3)

-- ---- health
-- SLT health, NSLT health and health catastrophe risk (Article 144); the cells are quarters
abbrev pub health_correlations : Table
health_correlations = record {
  den = 4;
  rows =
      (pos 4 ∷ pos 2 ∷ pos 1 ∷ [])
      ∷ (pos 2 ∷ pos 4 ∷ pos 1 ∷ [])
      ∷ (pos 1 ∷ pos 1 ∷ pos 4 ∷ [])
      ∷ [];
}

-- the capital requirement for health underwriting risk (Article 144)
abbrev pub health_figure : (slt nslt cat : Figure) → Figure
health_figure slt nslt cat = Root (more slt (more nslt (more cat none))) health_correlations
