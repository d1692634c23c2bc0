-- The capital requirement for counterparty default risk, in cents: Articles 189 and 202 of Delegated Regulation (EU)
-- 2015/35. Nothing is rounded.
use Rattle.std.specs.Prelude.{ℕ, pos, [], ◌∷◌}
use Rattle.scr_num.specs.Fraction.{Fraction, percent, plus, product}
use Rattle.scr_num.specs.Figure.{Figure}
use Rattle.scr_num.specs.Figure.Figure.{Frac, Root}
use Rattle.scr_num.specs.Figure.Figures.{more, none}
use Rattle.scr_num.specs.Table.{Table}
use Rattle.scr_default.specs.Losses.{cents}

-- 90 percent of what intermediaries have owed for more than three months, and 15 percent of all other type 2 exposures
-- (Article 202)
abbrev pub type2_exact : (overdue other : ℕ) → Fraction
type2_exact overdue other = plus (product (percent 90) (cents overdue)) (product (percent 15) (cents other))

abbrev pub type2_figure : (overdue other : ℕ) → Figure
type2_figure overdue other = Frac (type2_exact overdue other)

-- type 1 and type 2 exposures are correlated 0.75, so that the sum under the root is the first square, 1.5 times the
-- product of both and the second square (Article 189(1)); the cells are quarters
abbrev pub default_correlations : Table
default_correlations = record { den = 4; rows = (pos 4 ∷ pos 3 ∷ []) ∷ (pos 3 ∷ pos 4 ∷ []) ∷ [] }

abbrev pub default_figure : (type1 type2 : Figure) → Figure
default_figure type1 type2 = Root (more type1 (more type2 none)) default_correlations
