-- Exact figures, and the two relations between a fraction and a figure, this project's own. A figure is
-- written as the formula of the Regulation has it, with roots that no fraction need equal. What can be
-- said of it in fractions is what lies at most at it and what lies at least at it.
use Rattle.std.specs.Prelude.{◌<◌, ◌⊎◌, ℤ, pos, negsuc, List, [], ◌∷◌, length}
use Rattle.scr_num.specs.Fraction.{Fraction, Share, ◌≼◌, whole, zero_fraction, plus, minus, product, square, times}
use Rattle.scr_num.specs.Table.{Table, IsSquare, sum_over}

mutual
  pub data Figure : Type 0 where
    -- a fraction
    Frac : Fraction → Figure
    Sum : Figure → Figure → Figure
    Diff : Figure → Figure → Figure
    -- the greater, and the smaller
    Max : Figure → Figure → Figure
    Min : Figure → Figure → Figure
    -- that share of a figure
    Times : Figure → Share → Figure
    -- the square root
    RootOf : Figure → Figure
    -- the square root of the sum, over all pairs of parts, of correlation times part times part
    Root : Figures → Table → Figure

  -- a list of figures
  pub data Figures : Type 0 where
    none : Figures
    more : Figure → Figures → Figures

-- what is known of one part of a root
pub record Bounds : Type 0 where
  pub low : Fraction
  pub high : Fraction

-- A product of two parts that are not negative is least with both lows; times a negative correlation it
-- is least with both highs.
abbrev pub lower_term : ℤ → Bounds → Bounds → Fraction
lower_term (pos c) x y = product (whole (pos c)) (product x.low y.low)
lower_term (negsuc c) x y = product (whole (negsuc c)) (product x.high y.high)

abbrev pub upper_term : ℤ → Bounds → Bounds → Fraction
upper_term (pos c) x y = product (whole (pos c)) (product x.high y.high)
upper_term (negsuc c) x y = product (whole (negsuc c)) (product x.low y.low)

-- what no value of a table's form within the bounds of its parts is below, and what none is above: each cell's least
-- term, and each cell's greatest
unfoldable pub lower_form : Table → List Bounds → Fraction
lower_form table parts = sum_over zero_fraction plus lower_term table.rows parts parts

unfoldable pub upper_form : Table → List Bounds → Fraction
upper_form table parts = sum_over zero_fraction plus upper_term table.rows parts parts

-- the square of q, in the table's denominator
abbrev pub scaled_square : Table → Fraction → Fraction
scaled_square table q = product (whole (pos table.den)) (square q)

-- A root over a table is bounded only where the table has a denominator, and as many rows and columns as there are
-- parts: its cells are their correlations then.
unfoldable mutual
  -- q is at most the figure
  pub AtMost : Fraction → Figure → Type 0
  AtMost q (Frac p) = q ≼ p
  AtMost q (Sum f g) = (a : Fraction) × (b : Fraction) × AtMost a f × AtMost b g × (q ≼ plus a b)
  AtMost q (Diff f g) = (a : Fraction) × (b : Fraction) × AtMost a f × AtLeast b g × (q ≼ minus a b)
  AtMost q (Max f g) = AtMost q f ⊎ AtMost q g
  AtMost q (Min f g) = AtMost q f × AtMost q g
  AtMost q (Times f p) = (a : Fraction) × AtMost a f × (q ≼ times a p)
  AtMost q (RootOf f) = (q ≼ zero_fraction) ⊎ ((a : Fraction) × AtMost a f × (square q ≼ a))
  AtMost q (Root parts table) =
      (q ≼ zero_fraction)
      ⊎ ((bounds : List Bounds) × AreBounds bounds parts × (0 < table.den) × IsSquare (length bounds) table
      × (scaled_square table q ≼ lower_form table bounds))

  -- q is at least the figure
  pub AtLeast : Fraction → Figure → Type 0
  AtLeast q (Frac p) = p ≼ q
  AtLeast q (Sum f g) = (a : Fraction) × (b : Fraction) × AtLeast a f × AtLeast b g × (plus a b ≼ q)
  AtLeast q (Diff f g) = (a : Fraction) × (b : Fraction) × AtLeast a f × AtMost b g × (minus a b ≼ q)
  AtLeast q (Max f g) = AtLeast q f × AtLeast q g
  AtLeast q (Min f g) = AtLeast q f ⊎ AtLeast q g
  AtLeast q (Times f p) = (a : Fraction) × AtLeast a f × (times a p ≼ q)
  AtLeast q (RootOf f) = (zero_fraction ≼ q) × ((b : Fraction) × AtLeast b f × (b ≼ square q))
  AtLeast q (Root parts table) =
      (zero_fraction ≼ q)
      × ((bounds : List Bounds) × AreBounds bounds parts × (0 < table.den) × IsSquare (length bounds) table
      × (upper_form table bounds ≼ scaled_square table q))

  -- each part lies within its bounds, the lower of which is not negative
  pub AreBounds : List Bounds → Figures → Type 0
  AreBounds [] none = Unit {0}
  AreBounds (b ∷ bs) (more f fs) = (zero_fraction ≼ b.low) × AtMost b.low f × AtLeast b.high f × AreBounds bs fs
  AreBounds [] (more f fs) = ⊥
  AreBounds (b ∷ bs) none = ⊥
