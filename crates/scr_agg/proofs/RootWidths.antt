-- How far apart the ends of a root over the table of a matrix are.
use Rattle.std.proofs.Common.{◌≡◌, ℕ, suc, ◌+◌, ◌-◌, ◌*◌, ◌/◌, ◌<◌, ◌≤◌, List, [], ◌∷◌, ℤ, pos, negsuc, ◌+ℤ◌, ◌*ℤ◌, ◌≤ℤ◌, neg_ℤ, length, map, sum_by, unsigned_abs, refl, sym, ap, subst, ◌∙◌, arith, mul-le-mul_right}
use Rattle.std.proofs.lemmas.Int.{ints}
use Rattle.std.proofs.lemmas.Nat.{mul-le}
use Rattle.std.proofs.lemmas.List.{length-map}
use Rattle.std.proofs.lemmas.List.Sums.{sum_by-cons}
use Rattle.scr_num.specs.Table.{row_sum, sum_over}
use Rattle.scr_num.specs.Rounding.{Ends, or_zero, floor_root, ceil_div, quad_ends}
use Rattle.scr_num.specs.Amounts.{AreAmounts}
use Rattle.scr_num.specs.Narrow.{IsNarrow, AreNarrow}
use Rattle.scr_num.specs.declared.span.Span.{Span}
use Rattle.scr_num.proofs.Roots.{floor_root-next}
use Rattle.scr_profile.specs.declared.matrix.Matrix.{Matrix}
use Rattle.scr_profile.specs.declared.correlations.TheConstants.{LIFE, SLT}
use Rattle.scr_profile.specs.Matrix.{entry, IsCorrelation}
use Rattle.scr_profile.proofs.CorrelationRules.{is_correlation-holds}
use Rattle.scr_agg.specs.Correlated.{table_of, NotNegative, all_ends}
use Rattle.scr_agg.specs.Forms.{end_of, weight_of, weighed}
use Rattle.scr_agg.specs.declared.form.Side.{Side}
use Rattle.scr_agg.specs.declared.form.Side.TheVariants.{Low, High}
use Rattle.scr_agg.specs.declared.form.Sign.TheVariants.{Positive, Negative}
use Rattle.scr_agg.proofs.Bounded.{total, rising, sum_bound, form_rises}
use Rattle.scr_agg.proofs.Roots.{sum_of, root_over, root_over_sums, root_at_most}
use Rattle.scr_agg.proofs.RootSizes.{or_zero-positive, spans_of, ends_are, lows_are, length-spans_of}
use Rattle.scr_agg.proofs.Squares.{squares, square_of_total, twice_product, spread_of_sums, spread_of_differences}
use Rattle.scr_agg.proofs.FormSpreads.{magnitude, sum_spreads, total-rises, diagonal_within}

-- ---- from the sums to the root
under_next : (q t r den : ℕ) → q < t * den + den → t < suc r * suc r → q ≤ den * (suc r * suc r)
under_next q t r den h k = omega (arith, mul-le (suc t) den (suc r * suc r) den (omega arith) (omega arith))

quotient_next : (q den : ℕ) → 0 < den → q < q / den * den + den
quotient_next q den positive = omega arith

under_root : (q den : ℕ) → 0 < den → q ≤ den * (suc (floor_root (q / den)) * suc (floor_root (q / den)))
under_root q den positive =
    under_next q (q / den) (floor_root (q / den)) den (quotient_next q den positive) (floor_root-next (q / den))

narrow-root_over : (l h den w : ℕ) → 0 < den
    → h ≤ den * ((suc (floor_root (l / den)) + w) * (suc (floor_root (l / den)) + w))
    → IsNarrow (w + 1) (root_over (pos l) (pos h) den)
narrow-root_over l h den w positive small =
    let whole : pos h *ℤ pos 1 ≡ pos h = omega (arith, ints) in
    let most = root_at_most (ceil_div (pos h) den) h den (suc (floor_root (l / den)) + w) positive small
    (ap (λ z. ceil_div z den) (sym whole)) in
    record { apart = omega (arith, ints, most) }

-- ---- the cells
magnitude_within : (c den : ℤ) → neg_ℤ den ≤ℤ c → c ≤ℤ den → magnitude c ≤ or_zero den
magnitude_within (pos c) (pos d) h k = omega (arith, ints)
magnitude_within (negsuc c) (pos d) h k = omega (arith, ints)
magnitude_within (pos c) (negsuc d) h k = absurd (omega (arith, ints))
magnitude_within (negsuc c) (negsuc d) h k = absurd (omega (arith, ints))

no_negative : (c : ℤ) → pos 0 ≤ℤ c → weight_of Negative c ≤ 0
no_negative (pos c) h = omega arith
no_negative (negsuc c) h = absurd (omega (arith, ints))

or_zero-weight : (c : ℤ) → or_zero c ≤ weight_of Positive c
or_zero-weight (pos c) = omega arith
or_zero-weight (negsuc c) = omega arith

-- the differences spread by no more than the sums of both signs do
differences : (pl nl ph nh a b : ℕ) → a ≤ b → (ph + nh) + a ≤ (pl + nl) + b → (ph - nl) + a ≤ (pl - nh) + b
differences pl nl ph nh a b h k = omega arith

module _ (m : Matrix) (is : IsCorrelation m) (parts : List Span) (count : length parts ≡ m.n)
    (lows : NotNegative parts) where
  length-ends_at : (side : Side) → length (map (end_of side) parts) ≡ m.n
  length-ends_at side = rw length-map count

  pub order : total (map (end_of Low) parts) ≤ total (map (end_of High) parts)
  order = total-rises (map (end_of Low) parts) (map (end_of High) parts) (rising parts lows)

  spread : (sum_of High Positive m parts - sum_of Low Negative m parts)
      + or_zero m.den * (total (map (end_of Low) parts) * total (map (end_of Low) parts))
      ≤ (sum_of Low Positive m parts - sum_of High Negative m parts)
      + or_zero m.den * (total (map (end_of High) parts) * total (map (end_of High) parts))
  spread =
      differences (sum_of Low Positive m parts) (sum_of Low Negative m parts) (sum_of High Positive m parts)
      (sum_of High Negative m parts)
      (or_zero m.den * (total (map (end_of Low) parts) * total (map (end_of Low) parts)))
      (or_zero m.den * (total (map (end_of High) parts) * total (map (end_of High) parts)))
      (mul-le (or_zero m.den) (total (map (end_of Low) parts) * total (map (end_of Low) parts)) (or_zero m.den)
      (total (map (end_of High) parts) * total (map (end_of High) parts)) (omega arith)
      (mul-le (total (map (end_of Low) parts)) (total (map (end_of Low) parts)) (total (map (end_of High) parts))
      (total (map (end_of High) parts)) order order))
      (sum_spreads (or_zero m.den) m.cells (map (end_of Low) parts) (map (end_of High) parts)
      (map (end_of Low) parts) (map (end_of High) parts) (rising parts lows) (rising parts lows)
      (λ i j a b. let long = length-ends_at Low in let cell = is.within i j (omega arith) (omega arith) in
      magnitude_within (entry m i j) m.den cell.0 cell.1))

  -- the squares of the ends of one side are in the sum of the cells of at least 0
  diagonal : (side : Side) → or_zero m.den * squares (map (end_of side) parts) ≤ sum_of side Positive m parts
  diagonal side =
      diagonal_within (or_zero m.den) m.cells (map (end_of side) parts)
      (λ i a. let long = length-ends_at side in
      subst (λ (c : ℤ). or_zero m.den ≤ weight_of Positive c) (sym (is.diagonal i (omega arith)))
      (or_zero-weight m.den))

  no_negatives : ((i j : ℕ) → i < m.n → j < m.n → pos 0 ≤ℤ entry m i j) → (side : Side)
      → sum_of side Negative m parts ≤ 0
  no_negatives none side =
      let long = length-ends_at side in
      let bound = sum_bound Negative 0 m.cells (map (end_of side) parts) (map (end_of side) parts)
      (λ i j a b. no_negative (entry m i j) (none i j (omega arith) (omega arith))) in
      omega (arith, bound)

-- ---- where no cell is below 0
most_of_squares : (den sq n kk aa low : ℕ) → aa ≤ n * sq → n ≤ kk → den * sq ≤ low → den * aa ≤ kk * low
most_of_squares den sq n kk aa low h k le =
    let first : n * sq ≤ kk * sq = mul-le-mul_right sq k in
    let second : den * aa ≤ den * (kk * sq) = mul-le den aa den (kk * sq) (omega arith) (omega arith) in
    let third : kk * (den * sq) ≤ kk * low = mul-le kk (den * sq) kk low (omega arith) le in
    omega (arith, second, third)

spans-table : (m : Matrix) (k s : ℕ) (parts : List Span) → IsCorrelation m
    → ((i j : ℕ) → i < m.n → j < m.n → pos 0 ≤ℤ entry m i j) → 0 < k → m.n ≤ k * k → length parts ≡ m.n
    → NotNegative parts → total (map (end_of High) parts) ≤ total (map (end_of Low) parts) + s
    → IsNarrow (k * s + 1) (quad_ends (all_ends parts) (table_of m))
spans-table m k s parts is none some size count lows near =
    let positive = or_zero-positive m.den is.denominator in
    let low = sum_of Low Positive m parts - sum_of High Negative m parts in
    let high = sum_of High Positive m parts - sum_of Low Negative m parts in
    let nothing = no_negatives m is parts count lows none High in
    let diagonals = diagonal m is parts count lows Low in
    let long = length-ends_at m is parts count lows Low in
    let below = most_of_squares (or_zero m.den) (squares (map (end_of Low) parts)) (length (map (end_of Low) parts))
    (k * k) (total (map (end_of Low) parts) * total (map (end_of Low) parts)) low
    (square_of_total (map (end_of Low) parts)) (omega arith) (omega arith) in
    let small = spread_of_sums (or_zero m.den) (suc (floor_root (low / or_zero m.den))) k s
    (total (map (end_of Low) parts)) (total (map (end_of High) parts)) low high positive some near
    (under_root low (or_zero m.den) positive) below (spread m is parts count lows) in
    subst (IsNarrow (k * s + 1)) (root_over_sums m parts count lows positive)
    (narrow-root_over low high (or_zero m.den) (k * s) positive small)

-- ---- where the cells below 0 take at most a quarter of the squares
mild : (den sq n bb p nn nl high : ℕ) → bb ≤ n * sq → n ≤ 7 → den * sq ≤ p → 4 * nn ≤ den * sq → nl ≤ nn
    → high ≡ p - nl → 3 * (den * bb) ≤ 28 * high
mild den sq n bb p nn nl high h k le quarter rises e =
    let first : n * sq ≤ 7 * sq = mul-le-mul_right sq k in
    let second : den * bb ≤ den * (7 * sq) = mul-le den bb den (7 * sq) (omega arith) (omega arith) in
    omega (arith, second)

spans-life : (m : Matrix) (s : ℕ) (parts : List Span) → IsCorrelation m → m.n ≤ 7
    → ((xs : List ℕ) → length xs ≡ m.n
    → 4 * sum_over 0 ◌+◌ (weighed Negative) m.cells xs xs ≤ or_zero m.den * squares xs)
    → length parts ≡ m.n → NotNegative parts
    → total (map (end_of High) parts) ≤ total (map (end_of Low) parts) + s
    → IsNarrow (7 * s + 1) (quad_ends (all_ends parts) (table_of m))
spans-life m s parts is size quarter count lows near =
    let positive = or_zero-positive m.den is.denominator in
    let low = sum_of Low Positive m parts - sum_of High Negative m parts in
    let high = sum_of High Positive m parts - sum_of Low Negative m parts in
    let diagonals = diagonal m is parts count lows High in
    let long = length-ends_at m is parts count lows High in
    let most = mild (or_zero m.den) (squares (map (end_of High) parts)) (length (map (end_of High) parts))
    (total (map (end_of High) parts) * total (map (end_of High) parts)) (sum_of High Positive m parts)
    (sum_of High Negative m parts) (sum_of Low Negative m parts) high
    (square_of_total (map (end_of High) parts)) (omega arith) diagonals (quarter (map (end_of High) parts) long)
    (form_rises Negative m.cells parts lows) refl in
    let small = spread_of_differences (or_zero m.den) (suc (floor_root (low / or_zero m.den))) s
    (total (map (end_of Low) parts)) (total (map (end_of High) parts)) low high positive (omega arith)
    (order m is parts count lows) near (under_root low (or_zero m.den) positive) most (spread m is parts count lows) in
    subst (IsNarrow (7 * s + 1)) (root_over_sums m parts count lows positive)
    (narrow-root_over low high (or_zero m.den) (7 * s) positive small)

-- ---- of any ends that are in order
side_near : (low high : ℤ) (w : ℕ) → pos 0 ≤ℤ low → low ≤ℤ high → high ≤ℤ (low +ℤ pos w)
    → unsigned_abs high ≤ unsigned_abs low + w
side_near (pos l) (pos h) w a b c = omega (arith, ints)
side_near (pos l) (negsuc h) w a b c = absurd (omega (arith, ints))
side_near (negsuc l) high w a b c = absurd (omega (arith, ints))

sides_near : (mosts widths : List ℕ) (es : List Ends) (h : AreAmounts mosts es) → AreNarrow widths es
    → total (map (end_of High) (spans_of mosts es h))
    ≤ total (map (end_of Low) (spans_of mosts es h)) + sum_by (λ w. w) widths
unfolding spans_of
sides_near [] [] [] h k = omega arith
sides_near [] (w ∷ widths) [] h k = absurd k
sides_near [] widths (e ∷ es) h k = absurd h
sides_near (most ∷ mosts) widths [] h k = absurd h
sides_near (most ∷ mosts) [] (e ∷ es) h k = absurd k
sides_near (most ∷ mosts) (w ∷ widths) (e ∷ es) h k =
    omega (
      arith,
      side_near e.low e.high w h.0.not_negative h.0.ordered k.0.apart,
      sides_near mosts widths es h.1 k.1,
      sum_by-cons (λ (n : ℕ). n) w widths,
    )

pub narrow-table : (m : Matrix) (k : ℕ) (mosts widths : List ℕ) (parts : List Ends) → IsCorrelation m
    → ((i j : ℕ) → i < m.n → j < m.n → pos 0 ≤ℤ entry m i j) → 0 < k → m.n ≤ k * k → length parts ≡ m.n
    → AreAmounts mosts parts → AreNarrow widths parts
    → IsNarrow (k * sum_by (λ w. w) widths + 1) (quad_ends parts (table_of m))
narrow-table m k mosts widths parts is none some size count h g =
    let spans = spans_of mosts parts h in
    subst (λ (es : List Ends). IsNarrow (k * sum_by (λ w. w) widths + 1) (quad_ends es (table_of m)))
    (ends_are mosts parts h)
    (spans-table m k (sum_by (λ w. w) widths) spans is none some size (length-spans_of mosts parts h ∙ count)
    (lows_are mosts parts h) (sides_near mosts widths parts h g))

narrow-mild : (m : Matrix) (mosts widths : List ℕ) (parts : List Ends) → IsCorrelation m → m.n ≤ 7
    → ((xs : List ℕ) → length xs ≡ m.n
    → 4 * sum_over 0 ◌+◌ (weighed Negative) m.cells xs xs ≤ or_zero m.den * squares xs)
    → length parts ≡ m.n → AreAmounts mosts parts → AreNarrow widths parts
    → IsNarrow (7 * sum_by (λ w. w) widths + 1) (quad_ends parts (table_of m))
narrow-mild m mosts widths parts is size quarter count h g =
    let spans = spans_of mosts parts h in
    subst (λ (es : List Ends). IsNarrow (7 * sum_by (λ w. w) widths + 1) (quad_ends es (table_of m)))
    (ends_are mosts parts h)
    (spans-life m (sum_by (λ w. w) widths) spans is size quarter (length-spans_of mosts parts h ∙ count)
    (lows_are mosts parts h) (sides_near mosts widths parts h g))

-- ---- life and SLT health: of mortality and longevity alone each offsets the other
life_quarter : (xs : List ℕ) → length xs ≡ 7
    → 4 * sum_over 0 ◌+◌ (weighed Negative) LIFE.cells xs xs ≤ 4 * squares xs
unfolding row_sum sum_over
life_quarter (a ∷ b ∷ c ∷ d ∷ f ∷ g ∷ h ∷ []) e = omega (arith, twice_product a b)
life_quarter [] e = absurd (omega arith)
life_quarter (a ∷ []) e = absurd (omega arith)
life_quarter (a ∷ b ∷ []) e = absurd (omega arith)
life_quarter (a ∷ b ∷ c ∷ []) e = absurd (omega arith)
life_quarter (a ∷ b ∷ c ∷ d ∷ []) e = absurd (omega arith)
life_quarter (a ∷ b ∷ c ∷ d ∷ f ∷ []) e = absurd (omega arith)
life_quarter (a ∷ b ∷ c ∷ d ∷ f ∷ g ∷ []) e = absurd (omega arith)
life_quarter (a ∷ b ∷ c ∷ d ∷ f ∷ g ∷ h ∷ i ∷ xs) e = absurd (omega arith)

slt_quarter : (xs : List ℕ) → length xs ≡ 6
    → 4 * sum_over 0 ◌+◌ (weighed Negative) SLT.cells xs xs ≤ 4 * squares xs
unfolding row_sum sum_over
slt_quarter (a ∷ b ∷ c ∷ d ∷ f ∷ g ∷ []) e = omega (arith, twice_product a b)
slt_quarter [] e = absurd (omega arith)
slt_quarter (a ∷ []) e = absurd (omega arith)
slt_quarter (a ∷ b ∷ []) e = absurd (omega arith)
slt_quarter (a ∷ b ∷ c ∷ []) e = absurd (omega arith)
slt_quarter (a ∷ b ∷ c ∷ d ∷ []) e = absurd (omega arith)
slt_quarter (a ∷ b ∷ c ∷ d ∷ f ∷ []) e = absurd (omega arith)
slt_quarter (a ∷ b ∷ c ∷ d ∷ f ∷ g ∷ h ∷ xs) e = absurd (omega arith)

pub narrow-life : (mosts widths : List ℕ) (parts : List Ends) → length parts ≡ 7 → AreAmounts mosts parts
    → AreNarrow widths parts
    → IsNarrow (7 * sum_by (λ w. w) widths + 1) (quad_ends parts (table_of LIFE))
narrow-life mosts widths parts count h g =
    narrow-mild LIFE mosts widths parts (is_correlation-holds LIFE refl) (omega arith) life_quarter count h g

pub narrow-slt : (mosts widths : List ℕ) (parts : List Ends) → length parts ≡ 6 → AreAmounts mosts parts
    → AreNarrow widths parts
    → IsNarrow (7 * sum_by (λ w. w) widths + 1) (quad_ends parts (table_of SLT))
narrow-slt mosts widths parts count h g =
    narrow-mild SLT mosts widths parts (is_correlation-holds SLT refl) (omega arith) slt_quarter count h g
