-- The exact figures of the equity risk sub-module, in cents: Articles 164a, 164b and 168 to 173 of Delegated Regulation
-- (EU) 2015/35. Nothing is rounded. The symmetric adjustment of Article 172 is in millionths.
use Rattle.std.specs.Prelude.{ℕ, ℤ, pos, List, [], ◌∷◌, slice_index}
use Rattle.scr_num.specs.Fraction.{Fraction, whole, percent, millionths, plus, product}
use Rattle.scr_num.specs.Figure.{Figure}
use Rattle.scr_num.specs.Figure.Figure.{Frac, Sum, Root}
use Rattle.scr_num.specs.Figure.Figures.{more, none}
use Rattle.scr_num.specs.Table.{Table}

-- a share of so many cents
abbrev pub part_of : ℕ → Fraction → Fraction
part_of cents share = product (whole (pos cents)) share

-- a fall of so many percent and the adjustment, and one of 22 percent for strategic equities (Articles 169 and 171)
abbrev pub fall_of : (cents strategic base : ℕ) → ℤ → Fraction
fall_of cents strategic base sym =
    plus (part_of cents (plus (percent base) (millionths sym))) (part_of strategic (percent 22))

-- type 1 equities fall by 39 percent and the adjustment (Article 169(1))
abbrev pub type1_figure : (cents strategic : ℕ) → ℤ → Figure
type1_figure cents strategic sym = Frac (fall_of cents strategic 39 sym)

-- type 2 equities by 49 percent and the adjustment (Article 169(2))
abbrev pub type2_figure : (cents strategic : ℕ) → ℤ → Figure
type2_figure cents strategic sym = Frac (fall_of cents strategic 49 sym)

-- equities of qualifying infrastructure by 30 percent and 77 percent of the adjustment (Articles 164a and 169(3))
abbrev pub infra_figure : ℕ → ℤ → Figure
infra_figure cents sym = Frac (part_of cents (plus (percent 30) (product (percent 77) (millionths sym))))

-- equities of qualifying infrastructure corporates by 36 percent and 92 percent of the adjustment (Articles 164b and
-- 169(4))
abbrev pub infracorp_figure : ℕ → ℤ → Figure
infracorp_figure cents sym = Frac (part_of cents (plus (percent 36) (product (percent 92) (millionths sym))))

-- type 1 equities and all others are correlated 0.75 (Article 168(4)); the cells are quarters
abbrev pub equity_correlations : Table
equity_correlations = record { den = 4; rows = (pos 4 ∷ pos 3 ∷ []) ∷ (pos 3 ∷ pos 4 ∷ []) ∷ [] }

-- the capital requirement for equity risk, from those for type 1 equities and for all others (Article 168(4))
abbrev pub equity_root_figure : (type1 others : Figure) → Figure
equity_root_figure type1 others = Root (more type1 (more others none)) equity_correlations

-- ---- from the six sums: the cents held in type 1 equities and in strategic ones of type 1, in type 2 equities and in
-- strategic ones of type 2, and in equities of qualifying infrastructure and of qualifying infrastructure corporates

-- what type 2 equities and those of infrastructure come to
abbrev pub others_figure : List ℕ → ℤ → Figure
others_figure sums sym =
    Sum (Sum (type2_figure (slice_index sums 2) (slice_index sums 3) sym) (infra_figure (slice_index sums 4) sym))
    (infracorp_figure (slice_index sums 5) sym)

-- the capital requirement for equity risk
abbrev pub equity_figure : List ℕ → ℤ → Figure
equity_figure sums sym =
    equity_root_figure (type1_figure (slice_index sums 0) (slice_index sums 1) sym) (others_figure sums sym)
