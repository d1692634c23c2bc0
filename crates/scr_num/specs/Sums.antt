-- Sums of any number of figures, of fractions and of ends, and sums of amounts by what one of each is worth (this
-- project's own).
use Rattle.std.specs.Prelude.{ℕ, ◌+◌, ℤ, pos, List, [], ◌∷◌}
use Rattle.scr_num.specs.Fraction.{Fraction, ◌≼◌, whole, zero_fraction, plus, product}
use Rattle.scr_num.specs.Figure.{Figure, Figures}
use Rattle.scr_num.specs.Figure.Figure.{Frac, Sum}
use Rattle.scr_num.specs.Figure.Figures.{none, more}
use Rattle.scr_num.specs.Rounding.{Ends, exact_ends, add_ends}
use Rattle.scr_num.specs.Enclosure.{Encloses}

-- the two fractions are one number
pub record Equals (p q : Fraction) : Type 0 where
  pub below : p ≼ q
  pub above : q ≼ p

abbrev pub sum_fraction : List Fraction → Fraction
sum_fraction [] = zero_fraction
sum_fraction (p ∷ ps) = plus p (sum_fraction ps)

abbrev pub sum_figure : List Figure → Figure
sum_figure [] = Frac zero_fraction
sum_figure (f ∷ fs) = Sum f (sum_figure fs)

abbrev pub sum_ends : List Ends → Ends
sum_ends [] = exact_ends (pos 0)
sum_ends (e ∷ es) = add_ends e (sum_ends es)

-- a list of figures as the parts of a root
abbrev pub parts_of : List Figure → Figures
parts_of [] = none
parts_of (f ∷ fs) = more f (parts_of fs)

-- `Encloses`, place by place
abbrev pub EncloseEach : ℕ → List Ends → List Figure → Type 0
EncloseEach unit [] [] = Unit {0}
EncloseEach unit (e ∷ es) (f ∷ fs) = Encloses unit e.low e.high f × EncloseEach unit es fs
EncloseEach unit [] (f ∷ fs) = ⊥
EncloseEach unit (e ∷ es) [] = ⊥

-- the sum of amounts at `place` and the places after it, each times what one is worth at its place
unfoldable pub weighted_sum : (ℕ → Fraction) → ℕ → List ℤ → Fraction
weighted_sum worth place [] = zero_fraction
weighted_sum worth place (amount ∷ amounts) =
    plus (product (whole amount) (worth place)) (weighted_sum worth (place + 1) amounts)
