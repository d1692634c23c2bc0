-- The exact figures of the Basic Solvency Capital Requirement: Articles 87 and 203 of Delegated Regulation (EU)
-- 2015/35 and Directive 2009/138/EC, Annex IV. Nothing is rounded. The modules are market, default, life, health and
-- non-life, in this order.
use Rattle.std.specs.Prelude.{ℕ, pos, List, [], ◌∷◌}
use Rattle.scr_num.specs.Fraction.{whole, percent, product}
use Rattle.scr_num.specs.Figure.{Figure}
use Rattle.scr_num.specs.Figure.Figure.{Frac, Sum, Diff, Root}
use Rattle.scr_num.specs.Sums.{sum_figure, parts_of}
use Rattle.scr_num.specs.Table.{Table}

-- the correlations of the five modules (Annex IV, point 1); the cells are quarters
abbrev pub bscr_correlations : Table
bscr_correlations = record {
  den = 4;
  rows =
      (pos 4 ∷ pos 1 ∷ pos 1 ∷ pos 1 ∷ pos 1 ∷ [])
      ∷ (pos 1 ∷ pos 4 ∷ pos 1 ∷ pos 1 ∷ pos 2 ∷ [])
      ∷ (pos 1 ∷ pos 1 ∷ pos 4 ∷ pos 1 ∷ pos 0 ∷ [])
      ∷ (pos 1 ∷ pos 1 ∷ pos 1 ∷ pos 4 ∷ pos 0 ∷ [])
      ∷ (pos 1 ∷ pos 2 ∷ pos 0 ∷ pos 0 ∷ pos 4 ∷ [])
      ∷ [];
}

-- the root over the modules
abbrev pub modules_figure : List Figure → Figure
modules_figure modules = Root (parts_of modules) bscr_correlations

-- 80 percent of the value of intangible assets, in cents (Article 203)
abbrev pub intangible_figure : ℕ → Figure
intangible_figure cents = Frac (product (percent 80) (whole (pos cents)))

-- the root over the modules and the requirement for intangible assets (Article 87)
abbrev pub bscr_figure : List Figure → (intangible : ℕ) → Figure
bscr_figure modules intangible = Sum (modules_figure modules) (intangible_figure intangible)

-- what the sum of the modules is above the root over them, which is the Basic Solvency Capital Requirement without
-- intangible assets (this project's own)
abbrev pub diversification_figure : List Figure → Figure
diversification_figure modules = Diff (sum_figure modules) (modules_figure modules)
