-- The rules of charges that are handed in, of segments, of catastrophes, and of the non-life and health modules, from the
-- figures of their sources (Articles 114 to 128, 144 to 148 and 160 of Delegated Regulation (EU) 2015/35; the rounding is
-- this project's own).
use Rattle.std.specs.Prelude.{ℕ, ◌*◌, pos, List}
use Rattle.scr_num.specs.Rounding.{Ends, exact_ends}
use Rattle.scr_agg.specs.Correlated.{table_of}
use Rattle.scr_profile.specs.declared.matrix.Matrix.{Matrix}
use Rattle.scr_bio.specs.BiometricEnds.{nslt_ends, health_cat_ends, health_ends}
use Rattle.scr_nonlife.specs.NonlifeEnds.{premium_reserve_ends, nat_ends, manmade_ends, cat_ends, nonlife_ends}
use Rattle.scr_rules.specs.Figures.{figure_at, figures_from}

-- so many grains for each of so many cents
abbrev pub charged_ends : (times cents : ℕ) → Ends
charged_ends times cents = exact_ends (pos (times * cents))

-- ---- premium and reserve risk

abbrev pub premium_reserve_from : Matrix → List Ends → Ends
premium_reserve_from correlations figures = premium_reserve_ends figures (table_of correlations)

-- ---- catastrophes

-- natural ones: the root over windstorm, earthquake, flood, hail and subsidence (Article 120)
abbrev pub natural_from : List Ends → Ends
natural_from figures = nat_ends (figures_from figures 0 5)

-- man-made ones: the root over motor, marine, aviation, fire, liability, and credit and suretyship (Article 128)
abbrev pub man_made_from : List Ends → Ends
man_made_from figures = manmade_ends (figures_from figures 0 6)

-- all: the root over natural ones with non-proportional property reinsurance, man-made ones and others (Article 119)
abbrev pub catastrophes_from : List Ends → Ends
catastrophes_from figures =
    cat_ends (figure_at figures 0) (figure_at figures 1) (figure_at figures 2) (figure_at figures 3)

-- those of health: the root over mass accidents, accident concentration and pandemics (Article 160)
abbrev pub health_catastrophe_from : List Ends → Ends
health_catastrophe_from figures = health_cat_ends (figures_from figures 0 3)

-- ---- modules

abbrev pub nonlife_from : (lapse : ℕ) → List Ends → Ends
nonlife_from lapse figures = nonlife_ends (figure_at figures 0) (figure_at figures 1) lapse

abbrev pub nslt_from : (lapse : ℕ) → List Ends → Ends
nslt_from lapse figures = nslt_ends (figure_at figures 0) lapse

abbrev pub health_from : List Ends → Ends
health_from figures = health_ends (figure_at figures 0) (figure_at figures 1) (figure_at figures 2)
