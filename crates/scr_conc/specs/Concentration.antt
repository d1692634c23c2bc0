-- The capital requirement for market risk concentrations, in cents: Articles 182 to 187 of Delegated Regulation (EU)
-- 2015/35. Nothing is rounded.
use Rattle.std.specs.Prelude.{ℕ, pos, List, map, Option}
use Rattle.scr_num.specs.Fraction.{Fraction, whole, minus, product, square, greater, zero_fraction}
use Rattle.scr_num.specs.Figure.{Figure}
use Rattle.scr_num.specs.Figure.Figure.{Frac, RootOf}
use Rattle.scr_num.specs.Sums.{sum_fraction}
use Rattle.scr_profile.specs.declared.group_kind.GroupKind.{GroupKind}
use Rattle.scr_conc.specs.Thresholds.{threshold_exact, factor_exact}

-- what is exposed to a group of counterparties, in cents, and what decides its threshold and its factor
pub record Exposure : Type 0 where
  pub cents : ℕ
  pub kind : GroupKind
  pub step : Option ℕ

-- the excess of an exposure over that share of the assets, and no less than 0 (Article 184(1))
abbrev pub excess_exact : (assets exposure threshold : Fraction) → Fraction
excess_exact assets exposure threshold = greater zero_fraction (minus exposure (product threshold assets))

-- that share of the excess (Article 183(2))
abbrev pub requirement_exact : (assets exposure threshold factor : Fraction) → Fraction
requirement_exact assets exposure threshold factor = product (excess_exact assets exposure threshold) factor

-- the square of the requirement for one exposure, of which the assets are in cents
abbrev pub square_exact : ℕ → Exposure → Fraction
square_exact assets e =
    square
    (requirement_exact (whole (pos assets)) (whole (pos e.cents)) (threshold_exact e.kind e.step)
    (factor_exact e.kind e.step))

-- the sum of the squares of all, and its root (Article 183(1))
abbrev pub squares_exact : ℕ → List Exposure → Fraction
squares_exact assets exposures = sum_fraction (map (square_exact assets) exposures)

abbrev pub concentration_figure : ℕ → List Exposure → Figure
concentration_figure assets exposures = RootOf (Frac (squares_exact assets exposures))
