-- The band of the exact standard deviation is among those that its ends leave possible, and so the charge is right.
use Rattle.std.proofs.Common.{◌≡◌, ◌↔◌, ℕ, zero, suc, ◌+◌, ◌*◌, ◌^◌, ◌<◌, ◌≤◌, nat_le, nat_lt, Bool, true, false, ◌&&◌, int_lt, inl, inr, ℤ, pos, negsuc, ◌*ℤ◌, ◌≤ℤ◌, List, [], ◌∷◌, map, fold, filter, length, sum_by, refl, sym, ap, subst, arith, lit<, mul-le-mul}
use Rattle.std.specs.Prelude.{IsBitSet}
use Rattle.std.specs.Int.RustNames.{count_ones}
use Rattle.std.specs.Int.Signed.{≤ℤ_refl}
use Rattle.std.proofs.lemmas.Bool.{cond_both, cases_lt, and_from, le-leb, lt-ltb, leb-false, true≢false}
use Rattle.std.proofs.lemmas.Int.{ints, clamps}
use Rattle.scr_num.specs.Fraction.{Fraction, ◌≼◌, over, percent, product, square, is_less}
use Rattle.scr_num.specs.Figure.{Frac}
use Rattle.scr_num.specs.Rounding.{Ends, hull_ends, root_ends, floor_root, ceil_root, or_zero}
use Rattle.scr_num.specs.Enclosure.{Encloses}
use Rattle.scr_num.proofs.AddedEnds.{same_ends}
use Rattle.scr_num.proofs.AmountBounds.{is_amount, amount-high, amount-exact, amount-hull, amount-scale}
use Rattle.scr_num.proofs.Fractions.{≼_trans}
use Rattle.scr_num.proofs.Roots.{floor_root-square, ceil_root-square, ceil_root-least, floor_root-le-ceil_root, root_below}
use Rattle.scr_num.proofs.Enclosing.{Encloses-exact, Encloses-root_of, Encloses-scale, Encloses-wider}
use Rattle.scr_agg.specs.Unbeaten.{Covers, HasSeveral, hull_of}
use Rattle.scr_agg.proofs.Chosen.{not_less}
use Rattle.scr_agg.proofs.Enclosed.{low_below, high_above}
use Rattle.scr_agg.proofs.Hulls.{covers_same, hull_left, hull_right}
use Rattle.scr_default.specs.Losses.{grains}
use Rattle.scr_default.specs.Type1.{is_above, band_of, multiple, deviation_figure, charge_figure, type1_figure}
use Rattle.scr_default.specs.Type1Ends.{is_possible, charge_ends, possible_bands, type1_mask, type1_ends, hull_of_bands, bit_of}
use Rattle.scr_num.specs.Amounts.{IsAmount}

-- ---- squares in order
pub less_not : (p q : Fraction) → is_less p q ≡ true → q ≼ p → ⊥
less_not p q e h = both (p.num *ℤ pos q.den) (q.num *ℤ pos p.den) e h.cross
  where
    both : (a b : ℤ) → int_lt a b ≡ true → b ≤ℤ a → ⊥
    both a b e h = grind (arith, ints)

below_by_squares : (a b : ℕ) → a * a ≤ b * b → a ≤ b
below_by_squares a b h = root_below a b (omega arith)

share_at_least : (z : ℤ) (s : ℕ) → (z *ℤ pos 10000000000) ≤ℤ (pos s *ℤ pos 1000000) → 10000 * or_zero z ≤ s
share_at_least (pos n) s h = omega (arith, ints)
share_at_least (negsuc n) s h = omega arith

-- a deviation that is not above a share of the total
not_above : (p total : ℕ) (low : ℤ) (v : Fraction) (positive : 0 < 1000000) → over low 1000000 positive ≼ v
    → is_above (percent p) (grains total) v ≡ false
    → 100 * floor_root (or_zero low) ≤ p * total
not_above p total low v positive h e =
    let s = square (product (percent p) (grains total)) in
    let along = ≼_trans (over low 1000000 positive) v s h (not_less s v e) in
    let share = share_at_least low (p * total * (p * total)) along.cross in
    let r = floor_root (or_zero low) in
    below_by_squares (100 * r) (p * total) (omega (arith, share, floor_root-square (or_zero low)))

share_at_most : (z : ℤ) (c t : ℕ) → or_zero z ≤ c * c → 100 * c ≤ t
    → (z *ℤ pos 10000000000) ≤ℤ (pos (t * t) *ℤ pos 1000000)
share_at_most (pos n) c t h k = let squares : 100 * c * (100 * c) ≤ t * t = mul-le-mul k k in omega (arith, ints)
share_at_most (negsuc n) c t h k = omega (arith, ints)

-- and one that is
above : (p total : ℕ) (high : ℤ) (v : Fraction) (positive : 0 < 1000000) → v ≼ over high 1000000 positive
    → is_above (percent p) (grains total) v ≡ true
    → p * total < 100 * ceil_root (or_zero high)
above p total high v positive h e =
    let s = square (product (percent p) (grains total)) in
    let c = ceil_root (or_zero high) in
    elim (cases_lt (p * total) (100 * c)) [
      | inl lt ↦ lt
      | inr le ↦
          absurd (less_not s v e (≼_trans v (over high 1000000 positive) s h (record {
            cross = share_at_most high c (p * total) (ceil_root-square (or_zero high)) le;
          })))
    ]

pub band_is_possible : (total : ℕ) (variance : Ends) (v : Fraction)
    → Encloses 1000000 variance.low variance.high (Frac v)
    → is_possible (root_ends variance) total (band_of (grains total) v) ≡ true
band_is_possible total variance v h =
    let low = low_below 1000000 variance.low variance.high v h in
    let high = high_above 1000000 variance.low variance.high v h in
    cond_both (is_above (percent 20) (grains total) v) _ _ (λ band. is_possible (root_ends variance) total band ≡ true)
    (λ e. lt-ltb total (5 * ceil_root (or_zero variance.high))
    (omega (arith, above 20 total variance.high v h.positive high e)))
    (λ e. let below = not_above 20 total variance.low v h.positive low e in
    cond_both (is_above (percent 7) (grains total) v) _ _ (λ band. is_possible (root_ends variance) total band ≡ true)
    (λ e'. and_from _ _ (lt-ltb _ _ (above 7 total variance.high v h.positive high e'))
    (le-leb _ _ (omega (arith, below))))
    (λ e'. le-leb _ _ (not_above 7 total variance.low v h.positive low e')))

-- ---- what a band charges
pub charge-encloses : (total : ℕ) (variance : Ends) (v : Fraction) (band : ℕ)
    → Encloses 1000000 variance.low variance.high (Frac v)
    → let e = charge_ends (root_ends variance) total band in
    Encloses 1000 e.low e.high (charge_figure band (grains total) v)
charge-encloses total variance v zero h =
    Encloses-scale 1000 1000 3 1 _ _ (deviation_figure v) (multiple 3) (lit< tt)
    (record { positive = lit< tt; equal = refl })
    (Encloses-root_of 1000 variance.low variance.high (Frac v) h)
charge-encloses total variance v (suc zero) h =
    Encloses-scale 1000 1000 5 1 _ _ (deviation_figure v) (multiple 5) (lit< tt)
    (record { positive = lit< tt; equal = refl })
    (Encloses-root_of 1000 variance.low variance.high (Frac v) h)
charge-encloses total variance v (suc (suc _)) h =
    Encloses-exact 1000 (pos total) (grains total) (record { positive = lit< tt; equal = refl })

-- ---- the hull of the possible bands
keeps : (so_far : Ends) (es : List Ends) (e : Ends) → Covers so_far e → Covers (fold hull_ends so_far es) e
keeps so_far [] e h = h
keeps so_far (x ∷ es) e h = keeps (hull_ends so_far x) es e (hull_left so_far x e h)

-- the bands that three tests let through
abbrev pub select : (x y z : Bool) → List ℕ
select x y z = filter (λ band. three x y z band) (0 ∷ 1 ∷ 2 ∷ [])
  where
    three : (x y z : Bool) → ℕ → Bool
    three x y z zero = x
    three x y z (suc zero) = y
    three x y z (suc (suc _)) = z

first_held : (e : ℕ → Ends) (y z : Bool) → Covers (hull_of (map e (select true y z))) (e 0)
first_held e true true = keeps (e 0) (e 1 ∷ e 2 ∷ []) (e 0) (covers_same (e 0))
first_held e true false = keeps (e 0) (e 1 ∷ []) (e 0) (covers_same (e 0))
first_held e false true = keeps (e 0) (e 2 ∷ []) (e 0) (covers_same (e 0))
first_held e false false = covers_same (e 0)

second_held : (e : ℕ → Ends) (x z : Bool) → Covers (hull_of (map e (select x true z))) (e 1)
second_held e true true = keeps (hull_ends (e 0) (e 1)) (e 2 ∷ []) (e 1) (hull_right (e 0) (e 1))
second_held e true false = hull_right (e 0) (e 1)
second_held e false true = keeps (e 1) (e 2 ∷ []) (e 1) (covers_same (e 1))
second_held e false false = covers_same (e 1)

third_held : (e : ℕ → Ends) (x y : Bool) → Covers (hull_of (map e (select x y true))) (e 2)
third_held e true true = hull_right (hull_ends (e 0) (e 1)) (e 2)
third_held e true false = hull_right (e 0) (e 2)
third_held e false true = hull_right (e 1) (e 2)
third_held e false false = covers_same (e 2)

-- the charge of a possible band lies within
held : (e : ℕ → Ends) (p : ℕ → Bool) (band : ℕ) → band < 3 → p band ≡ true
    → Covers (hull_of (map e (filter p (0 ∷ 1 ∷ 2 ∷ [])))) (e band)
held e p zero lt h = rw h (first_held e (p 1) (p 2))
held e p (suc zero) lt h = rw h (second_held e (p 0) (p 2))
held e p (suc (suc zero)) lt h = rw h (third_held e (p 0) (p 1))
held e p (suc (suc (suc n))) lt h = absurd (omega arith)

band-below : (total variance : Fraction) → band_of total variance < 3
band-below total variance =
    cond_both (is_above (percent 20) total variance) _ _ (λ band. band < 3) (λ e. lit< tt)
    (λ e. cond_both (is_above (percent 7) total variance) _ _ (λ band. band < 3) (λ e'. lit< tt) (λ e'. lit< tt))

pub type1-encloses : (total : ℕ) (variance : Ends) (v : Fraction) → Encloses 1000000 variance.low variance.high (Frac v)
    → let e = type1_ends total variance in Encloses 1000 e.low e.high (type1_figure (grains total) v)
type1-encloses total variance v h =
    let band = band_of (grains total) v in
    let charges = charge_ends (root_ends variance) total in
    let within = held charges (is_possible (root_ends variance) total) band (band-below (grains total) v)
    (band_is_possible total variance v h) in
    Encloses-wider 1000 _ _ _ _ (charge_figure band (grains total) v) within.low within.high
    (charge-encloses total variance v band h)

-- ---- the bits
first_set : (y z : Bool) → IsBitSet (sum_by (λ band. 2 ^ band) (select true y z)) 0
first_set true true h = absurd (omega (arith, h))
first_set true false h = absurd (omega (arith, h))
first_set false true h = absurd (omega (arith, h))
first_set false false h = absurd (omega (arith, h))

second_set : (x z : Bool) → IsBitSet (sum_by (λ band. 2 ^ band) (select x true z)) 1
second_set true true h = absurd (omega (arith, h))
second_set true false h = absurd (omega (arith, h))
second_set false true h = absurd (omega (arith, h))
second_set false false h = absurd (omega (arith, h))

third_set : (x y : Bool) → IsBitSet (sum_by (λ band. 2 ^ band) (select x y true)) 2
third_set true true h = absurd (omega (arith, h))
third_set true false h = absurd (omega (arith, h))
third_set false true h = absurd (omega (arith, h))
third_set false false h = absurd (omega (arith, h))

set : (p : ℕ → Bool) (band : ℕ) → band < 3 → p band ≡ true
    → IsBitSet (sum_by (λ band. 2 ^ band) (filter p (0 ∷ 1 ∷ 2 ∷ []))) band
set p zero lt h = rw h (first_set (p 1) (p 2))
set p (suc zero) lt h = rw h (second_set (p 0) (p 2))
set p (suc (suc zero)) lt h = rw h (third_set (p 0) (p 1))
set p (suc (suc (suc n))) lt h = absurd (omega arith)

pub type1-bit : (total : ℕ) (variance : Ends) (v : Fraction) → Encloses 1000000 variance.low variance.high (Frac v)
    → IsBitSet (type1_mask total variance) (band_of (grains total) v)
type1-bit total variance v h =
    set (is_possible (root_ends variance) total) (band_of (grains total) v) (band-below (grains total) v)
    (band_is_possible total variance v h)

-- one of the three at least, and no bit beyond them
pub mask-below : (p : ℕ → Bool) → sum_by (λ band. 2 ^ band) (filter p (0 ∷ 1 ∷ 2 ∷ [])) < 8
mask-below p = all (p 0) (p 1) (p 2)
  where
    all : (x y z : Bool) → sum_by (λ band. 2 ^ band) (select x y z) < 8
    all true true true = lit< tt
    all true true false = lit< tt
    all true false true = lit< tt
    all true false false = lit< tt
    all false true true = lit< tt
    all false true false = lit< tt
    all false false true = lit< tt
    all false false false = lit< tt

-- as many bits are set as bands are possible
bits_set : (x y z : Bool) → count_ones (sum_by (λ band. 2 ^ band) (select x y z)) ≡ length (select x y z)
unfolding count_ones
bits_set true true true = refl
bits_set true true false = refl
bits_set true false true = refl
bits_set true false false = refl
bits_set false true true = refl
bits_set false true false = refl
bits_set false false true = refl
bits_set false false false = refl

pub several : (p : ℕ → Bool) → HasSeveral (sum_by (λ band. 2 ^ band) (filter p (0 ∷ 1 ∷ 2 ∷ [])))
    ↔ (2 ≤ length (filter p (0 ∷ 1 ∷ 2 ∷ [])))
several p =
    let count = bits_set (p 0) (p 1) (p 2) in
    (λ h. subst (λ (n : ℕ). 2 ≤ n) count h, λ h. subst (λ (n : ℕ). 2 ≤ n) (sym count) h)

-- where neither of the first two bands is possible, the third is
pub third_possible : (deviation : Ends) (total : ℕ) → or_zero deviation.low ≤ or_zero deviation.high
    → is_possible deviation total 0 ≡ false
    → is_possible deviation total 1 ≡ false → is_possible deviation total 2 ≡ true
third_possible deviation total order a b =
    lt-ltb _ _ (last (or_zero deviation.low) (or_zero deviation.high) order a b)
  where
    last : (low high : ℕ) → low ≤ high → nat_le (100 * low) (7 * total) ≡ false
        → (nat_lt (7 * total) (100 * high) && nat_le (5 * low) total) ≡ false → total < 5 * high
    last low high order a b = grind (arith, leb-false (100 * low) (7 * total) a)

pub rises : (variance : Ends) → variance.low ≤ℤ variance.high
    → or_zero (root_ends variance).low ≤ or_zero (root_ends variance).high
rises variance order = floor_root-le-ceil_root (or_zero variance.low) (or_zero variance.high)
    (or_zero-rises variance.low variance.high order)
  where
    or_zero-rises : (a b : ℤ) → a ≤ℤ b → or_zero a ≤ or_zero b
    or_zero-rises (pos a) (pos b) h = omega (arith, ints)
    or_zero-rises (pos a) (negsuc b) h = absurd (omega (arith, ints))
    or_zero-rises (negsuc a) b h = omega arith

pub mask-positive : (total : ℕ) (variance : Ends) → variance.low ≤ℤ variance.high → 1 ≤ type1_mask total variance
mask-positive total variance order =
    some (is_possible (root_ends variance) total 0) (is_possible (root_ends variance) total 1)
    (is_possible (root_ends variance) total 2)
    (third_possible (root_ends variance) total (rises variance order))
  where
    some : (x y z : Bool) → (x ≡ false → y ≡ false → z ≡ true) → 1 ≤ sum_by (λ band. 2 ^ band) (select x y z)
    some true true true h = omega arith
    some true true false h = omega arith
    some true false true h = omega arith
    some true false false h = omega arith
    some false true true h = omega arith
    some false true false h = omega arith
    some false false true h = omega arith
    some false false false h = absurd (true≢false (sym (h refl refl)))

-- ---- how large it is
fold-amount : (most : ℕ) (e : ℕ → Ends) → ((band : ℕ) → IsAmount most (e band)) → (so_far : Ends) (bands : List ℕ)
    → IsAmount most so_far → IsAmount most (fold hull_ends so_far (map e bands))
fold-amount most e each so_far [] h = h
fold-amount most e each so_far (band ∷ bands) h =
    fold-amount most e each (hull_ends so_far (e band)) bands (amount-hull most so_far (e band) h (each band))

hull_of-amount : (most : ℕ) (e : ℕ → Ends) (bands : List ℕ) → ((band : ℕ) → IsAmount most (e band))
    → IsAmount most (hull_of (map e bands))
hull_of-amount most e [] each = amount-exact most 0 (omega arith)
hull_of-amount most e (band ∷ bands) each = fold-amount most e each (e band) bands (each band)

deviation-amount : (variance : Ends) → IsAmount (10 ^ 33) variance → IsAmount (32 * 10 ^ 15) (root_ends variance)
deviation-amount variance h =
    is_amount (32 * 10 ^ 15) (root_ends variance) (omega (arith, ints)) (omega (arith, ints, rises variance h.ordered))
    (omega (
      arith,
      ints,
      ceil_root-least (or_zero variance.high) (32 * 10 ^ 15)
          (most variance.high (amount-high (10 ^ 33) variance h)),
    ))
  where
    most : (z : ℤ) → z ≤ℤ pos (10 ^ 33) → or_zero z ≤ 32 * 10 ^ 15 * (32 * 10 ^ 15)
    most (pos n) h = omega (arith, ints)
    most (negsuc n) h = omega arith

charge-amount : (total : ℕ) (deviation : Ends) (band : ℕ) → total ≤ 10 ^ 16 → IsAmount (32 * 10 ^ 15) deviation
    → IsAmount (16 * 10 ^ 16) (charge_ends deviation total band)
charge-amount total deviation zero few h = amount-scale (32 * 10 ^ 15) (16 * 10 ^ 16) 3 1 deviation (lit< tt)
    (omega arith) h
charge-amount total deviation (suc zero) few h =
    amount-scale (32 * 10 ^ 15) (16 * 10 ^ 16) 5 1 deviation (lit< tt) (omega arith) h
charge-amount total deviation (suc (suc _)) few h = amount-exact (16 * 10 ^ 16) total (omega arith)

pub type1-size : (total : ℕ) (variance : Ends) → total ≤ 10 ^ 16 → IsAmount (10 ^ 33) variance
    → IsAmount (16 * 10 ^ 16) (type1_ends total variance)
type1-size total variance few h =
    hull_of-amount (16 * 10 ^ 16) (charge_ends (root_ends variance) total) (possible_bands (root_ends variance) total)
    (λ band. charge-amount total (root_ends variance) band few (deviation-amount variance h))

-- ---- the same band by band
hull_same : (e : Ends) → hull_ends e e ≡ e
hull_same e = same_ends _ _ e.low e.high (omega (arith, ints, clamps)) (omega (arith, ints, clamps))

pub hull-is : (e : ℕ → Ends) (x y z : Bool) → (x ≡ false → y ≡ false → z ≡ true)
    → hull_of_bands x y z (e 0) (e 1) (e 2) ≡ hull_of (map e (select x y z))
hull-is e true true true h = refl
hull-is e true true false h = refl
hull-is e true false true h = refl
hull-is e true false false h = refl
hull-is e false true true h = ap (λ (d : Ends). hull_ends d (e 2)) (hull_same (e 1))
hull-is e false true false h = hull_same (e 1)
hull-is e false false true h = hull_same (e 2)
hull-is e false false false h = absurd (true≢false (sym (h refl refl)))

pub mask-is : (x y z : Bool) → bit_of x 1 + bit_of y 2 + bit_of z 4 ≡ sum_by (λ band. 2 ^ band) (select x y z)
mask-is true true true = refl
mask-is true true false = refl
mask-is true false true = refl
mask-is true false false = refl
mask-is false true true = refl
mask-is false true false = refl
mask-is false false true = refl
mask-is false false false = refl
