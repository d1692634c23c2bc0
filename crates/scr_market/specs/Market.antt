-- The exact figure of the market risk module: Article 164 of Delegated Regulation (EU) 2015/35. Nothing is rounded. The
-- parts are interest rate, equity, property, spread, concentration and currency risk, in this order.
use Rattle.std.specs.Prelude.{ℕ, zero, suc, ℤ, pos, [], ◌∷◌}
use Rattle.scr_num.specs.Figure.{Figure, Figures}
use Rattle.scr_num.specs.Figure.Figure.{Root}
use Rattle.scr_num.specs.Table.{Table}

-- the correlations of the six sub-modules, of which A is that of interest rate risk with equity, property and spread
-- risk (Article 164(3)); the cells are quarters
abbrev pub correlations_with : (a : ℤ) → Table
correlations_with a = record {
  den = 4;
  rows =
      (pos 4 ∷ a ∷ a ∷ a ∷ pos 0 ∷ pos 1 ∷ [])
      ∷ (a ∷ pos 4 ∷ pos 3 ∷ pos 3 ∷ pos 0 ∷ pos 1 ∷ [])
      ∷ (a ∷ pos 3 ∷ pos 4 ∷ pos 2 ∷ pos 0 ∷ pos 1 ∷ [])
      ∷ (a ∷ pos 3 ∷ pos 2 ∷ pos 4 ∷ pos 0 ∷ pos 1 ∷ [])
      ∷ (pos 0 ∷ pos 0 ∷ pos 0 ∷ pos 0 ∷ pos 4 ∷ pos 0 ∷ [])
      ∷ (pos 1 ∷ pos 1 ∷ pos 1 ∷ pos 1 ∷ pos 0 ∷ pos 4 ∷ [])
      ∷ [];
}

-- A is 0 where the rise of interest rates decides, the scenario at place 0, and 0.5 where the fall does, at place 1
-- (Article 164(3)).
abbrev pub market_correlations : ℕ → Table
market_correlations zero = correlations_with (pos 0)
market_correlations (suc place) = correlations_with (pos 2)

-- the capital requirement for market risk, of those for the six sub-modules (Article 164(2))
abbrev pub market_figure : (decisive : ℕ) → Figures → Figure
market_figure decisive parts = Root parts (market_correlations decisive)
