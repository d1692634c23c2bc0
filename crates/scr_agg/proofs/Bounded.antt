-- How large a form is: at most the denominator times the square of the sum of its parts.
use Rattle.std.proofs.Common.{◌≡◌, ℕ, suc, ◌+◌, ◌*◌, ◌<◌, ◌≤◌, List, [], ◌∷◌, ℤ, pos, negsuc, ◌≤ℤ◌, neg_ℤ, map, length}
use Rattle.std.proofs.Common.{get_or, refl, arith, mul-le-mul_right, unsigned_abs}
use Rattle.std.proofs.lemmas.Int.{ints}
use Rattle.std.proofs.lemmas.Nat.{mul-le}
use Rattle.std.proofs.lemmas.List.{length-map}
use Rattle.scr_num.specs.Table.{row_sum, sum_over}
use Rattle.scr_num.specs.Rounding.{or_zero}
use Rattle.scr_num.proofs.Forms.{Related, sum_over-related}
use Rattle.scr_num.specs.declared.span.Span.{Span}
use Rattle.scr_agg.specs.declared.form.Side.{Side}
use Rattle.scr_agg.specs.declared.form.Side.TheVariants.{Low, High}
use Rattle.scr_agg.specs.declared.form.Sign.{Sign}
use Rattle.scr_agg.specs.declared.form.Sign.TheVariants.{Positive, Negative}
use Rattle.scr_agg.specs.Correlated.{NotNegative, total_high}
use Rattle.scr_agg.specs.Forms.{end_of, weight_of, weighed}

abbrev pub total : List ℕ → ℕ
total [] = 0
total (y ∷ ys) = y + total ys

-- ---- the bound
row_bound : (sign : Sign) (den x : ℕ) (cells : List ℤ) (ys : List ℕ)
    → ((j : ℕ) → j < length ys → weight_of sign (get_or cells j (pos 0)) ≤ den)
    → row_sum 0 ◌+◌ (weighed sign) x cells ys ≤ den * (x * total ys)
unfolding row_sum
row_bound sign den x [] ys h = omega arith
row_bound sign den x (c ∷ cells) [] h = omega arith
row_bound sign den x (c ∷ cells) (y ∷ ys) h =
    let here : weight_of sign c ≤ den = h 0 (omega arith) in
    omega (arith, mul-le-mul_right (x * y) here, row_bound sign den x cells ys (λ j lt. h (suc j) (omega arith)))

pub sum_bound : (sign : Sign) (den : ℕ) (rows : List (List ℤ)) (xs all : List ℕ)
    → ((i j : ℕ) → i < length xs → j < length all → weight_of sign (get_or (get_or rows i []) j (pos 0)) ≤ den)
    → sum_over 0 ◌+◌ (weighed sign) rows xs all ≤ den * (total xs * total all)
unfolding sum_over
sum_bound sign den [] xs all h = omega arith
sum_bound sign den (row ∷ rows) [] all h = omega arith
sum_bound sign den (row ∷ rows) (x ∷ xs) all h =
    omega (
      arith,
      row_bound sign den x row all (λ j lt. h 0 j (omega arith) lt),
      sum_bound sign den rows xs all (λ i j lt lt'. h (suc i) j (omega arith) lt'),
    )

-- a coefficient from -1 to 1 has a weight of at most the denominator
pub weight_within : (sign : Sign) (c den : ℤ) → neg_ℤ den ≤ℤ c → c ≤ℤ den → pos 0 ≤ℤ den
    → weight_of sign c ≤ or_zero den
weight_within sign c (negsuc d) h k positive = absurd (omega (arith, ints))
weight_within Positive (pos c) (pos d) h k positive = omega (arith, ints)
weight_within Positive (negsuc c) (pos d) h k positive = omega (arith, ints)
weight_within Negative (pos c) (pos d) h k positive = omega (arith, ints)
weight_within Negative (negsuc c) (pos d) h k positive = omega (arith, ints)

-- ---- the ends of the parts
high_is : (low high : ℤ) → pos 0 ≤ℤ low → low ≤ℤ high → unsigned_abs high ≡ or_zero high
high_is low (pos h) a b = refl
high_is low (negsuc h) a b = absurd (omega (arith, ints))

low_below : (low high : ℤ) → pos 0 ≤ℤ low → low ≤ℤ high → unsigned_abs low ≤ or_zero high
low_below (pos l) (pos h) a b = omega (arith, ints)
low_below (pos l) (negsuc h) a b = absurd (omega (arith, ints))
low_below (negsuc l) high a b = absurd (omega (arith, ints))

pub side_total : (side : Side) (parts : List Span) → NotNegative parts
    → total (map (end_of side) parts) ≤ total_high parts
side_total side [] h = omega arith
side_total Low (part ∷ parts) h = omega (arith, low_below part.low part.high h.0 part.ordered, side_total Low parts h.1)
side_total High (part ∷ parts) h = omega (arith, high_is part.low part.high h.0 part.ordered, side_total High parts h.1)

pub rising : (parts : List Span) → NotNegative parts → Related ◌≤◌ (map (end_of Low) parts) (map (end_of High) parts)
rising [] h = tt
rising (part ∷ parts) h = (
  omega (arith, low_below part.low part.high h.0 part.ordered, high_is part.low part.high h.0 part.ordered),
  rising parts h.1,
)

-- the form of the low ends is at most that of the high ones
pub form_rises : (sign : Sign) (rows : List (List ℤ)) (parts : List Span) → NotNegative parts
    → sum_over 0 ◌+◌ (weighed sign) rows (map (end_of Low) parts) (map (end_of Low) parts)
    ≤ sum_over 0 ◌+◌ (weighed sign) rows (map (end_of High) parts) (map (end_of High) parts)
form_rises sign rows parts h =
    sum_over-related ◌≤◌ ◌≤◌ 0 0 ◌+◌ ◌+◌ (weighed sign) (weighed sign) (omega arith) (λ x x' y y' a b. omega arith)
    (λ c x x' y y' a b. omega
    (arith, mul-le (weight_of sign c) (x * y) (weight_of sign c) (x' * y') (omega arith) (mul-le x y x' y' a b)))
    rows _ _ _ _ (rising parts h) (rising parts h)

-- each of the four sums over a matrix
pub form_bound : (side : Side) (sign : Sign) (den : ℤ) (n : ℕ) (rows : List (List ℤ)) (parts : List Span)
    → length parts ≡ n → NotNegative parts → pos 0 ≤ℤ den
    → ((i j : ℕ) → i < n → j < n → (neg_ℤ den ≤ℤ get_or (get_or rows i []) j (pos 0))
    × (get_or (get_or rows i []) j (pos 0) ≤ℤ den))
    → sum_over 0 ◌+◌ (weighed sign) rows (map (end_of side) parts) (map (end_of side) parts)
    ≤ or_zero den * (total_high parts * total_high parts)
form_bound side sign den n rows parts count h positive within =
    let same : length (map (end_of side) parts) ≡ n = rw length-map count in
    let below = side_total side parts h in
    let bound = sum_bound sign (or_zero den) rows (map (end_of side) parts) (map (end_of side) parts)
    (λ i j a b. let cell = within i j (omega arith) (omega arith) in
    weight_within sign (get_or (get_or rows i []) j (pos 0)) den cell.0 cell.1 positive) in
    let square = mul-le (total (map (end_of side) parts)) (total (map (end_of side) parts)) (total_high parts)
    (total_high parts) below below in
    omega (
      arith,
      bound,
      mul-le (or_zero den) (total (map (end_of side) parts) * total (map (end_of side) parts))
          (or_zero den) (total_high parts * total_high parts) (omega arith) square,
    )
