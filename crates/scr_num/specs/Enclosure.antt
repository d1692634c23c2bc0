-- When two whole numbers enclose an exact figure, this project's own.
use Rattle.std.specs.Prelude.{◌≡◌, ℕ, ◌*◌, ◌<◌, ℤ, pos, ◌*ℤ◌, ◌≤ℤ◌, List, [], ◌∷◌}
use Rattle.scr_num.specs.Fraction.{Fraction, Share, over}
use Rattle.scr_num.specs.Figure.{Figure, Figures, none, more, AtMost, AtLeast}
use Rattle.scr_num.specs.Rounding.{Ends}

-- The low number is at most the figure, and the high one at least, both counted in a unit of which `unit` make one
-- of the figure's: a figure in cents is enclosed in grains with a `unit` of 1000.
pub record Encloses (unit : ℕ) (low high : ℤ) (figure : Figure) : Type 0 where
  pub positive : 0 < unit
  pub at_most : AtMost (over low unit positive) figure
  pub at_least : AtLeast (over high unit positive) figure

-- v units, of which `unit` make one, are exactly p
pub record Measures (unit : ℕ) (v : ℤ) (p : Fraction) : Type 0 where
  pub positive : 0 < unit
  pub equal : v *ℤ pos p.den ≡ p.num *ℤ pos unit

-- A number of old units times num / den is, in new units, that share of it. Where the two units are one, the share
-- is num / den itself; from cents to grains, 390 / 1 is the share 39 / 100.
pub record Converts (old new num den : ℕ) (share : Share) : Type 0 where
  pub positive : 0 < new
  pub equal : share.num * (den * new) ≡ share.den * (num * old)

-- `Encloses`, place by place, of ends that are not negative
abbrev pub EncloseAll : ℕ → List Ends → Figures → Type 0
EncloseAll unit [] none = Unit {0}
EncloseAll unit (part ∷ parts) (more f fs) =
    (pos 0 ≤ℤ part.low) × Encloses unit part.low part.high f × EncloseAll unit parts fs
EncloseAll unit [] (more f fs) = ⊥
EncloseAll unit (part ∷ parts) none = ⊥
