-- The exact figures of one segment of premium and reserve risk, in cents: Articles 116 and 117 of Delegated Regulation
-- (EU) 2015/35, and, for health that is not similar to life, Articles 147 and 148. Nothing is rounded. The volumes are
-- the volume measures for premium and for reserve risk of each geographical region; the standard deviations are in
-- millionths.
use Rattle.std.specs.Prelude.{ℕ, zero, suc, ◌+◌, ◌*◌, pos, List, sum_by}
use Rattle.std.proofs.Common.{lit<, mul-pos, zero-lt-suc}
use Rattle.scr_num.specs.Fraction.{Share, whole, millionths, plus, product, square}
use Rattle.scr_num.specs.Figure.{Figure}
use Rattle.scr_num.specs.Figure.Figure.{Frac, Times, RootOf}

-- the volumes of all regions
abbrev pub premium_volume : List (ℕ × ℕ) → ℕ
premium_volume volumes = sum_by (λ region. region.0) volumes

abbrev pub reserve_volume : List (ℕ × ℕ) → ℕ
reserve_volume volumes = sum_by (λ region. region.1) volumes

-- both volumes of one region, and of all of them
abbrev pub regional_volume : ℕ × ℕ → ℕ
regional_volume region = region.0 + region.1

abbrev pub total_volume : List (ℕ × ℕ) → ℕ
total_volume volumes = sum_by regional_volume volumes

-- the sum of the squares of the regional volumes
abbrev pub squared_volumes : List (ℕ × ℕ) → ℕ
squared_volumes volumes = sum_by (λ region. regional_volume region * regional_volume region) volumes

-- the first number as a share of the second, and 1 where that is 0
abbrev pub share_of : ℕ → ℕ → Share
share_of num zero = record { num = 1; den = 1; positive = lit< tt }
share_of num (suc n) = record { num = num; den = suc n; positive = zero-lt-suc n }

-- the geographical diversification: the squares of the regional volumes over the square of their sum (Article 116 and
-- Annex III), of every segment, and 1 where there is no volume (both this project's own)
abbrev pub diversification : List (ℕ × ℕ) → Share
diversification volumes = share_of (squared_volumes volumes) (total_volume volumes * total_volume volumes)

-- 0.75 + 0.25 * DIV, by which the sum of a segment's volumes is multiplied for its volume measure (Article 116)
abbrev pub diversified : Share → Share
diversified share = record {
  num = 3 * share.den + share.num;
  den = 4 * share.den;
  positive = mul-pos (lit< tt) share.positive;
}

-- the standard deviation of a segment times its volume for premium and reserve risk: the root of p² + p·r + r², where p and
-- r are the standard deviation of premium and of reserve risk, each times its own volume (Article 117)
abbrev pub deviation_figure : List (ℕ × ℕ) → (premium reserve : ℕ) → Figure
deviation_figure volumes premium reserve =
    let p = product (millionths (pos premium)) (whole (pos (premium_volume volumes))) in
    let r = product (millionths (pos reserve)) (whole (pos (reserve_volume volumes))) in
    RootOf (Frac (plus (plus (square p) (product p r)) (square r)))

-- the standard deviation of a segment times its volume measure
abbrev pub segment_figure : List (ℕ × ℕ) → (premium reserve : ℕ) → Figure
segment_figure volumes premium reserve =
    Times (deviation_figure volumes premium reserve) (diversified (diversification volumes))
