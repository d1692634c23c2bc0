-- The ends of an amount, and what the operators make of them.
use Rattle.std.proofs.Common.{ℕ, suc, ◌+◌, ◌*◌, ◌<◌, ◌≤◌, ℤ, pos, negsuc, ◌+ℤ◌, ◌*ℤ◌, ◌≤ℤ◌, ◌<ℤ◌, List, [], ◌∷◌, length, sum_by, arith, mul-le-mul_right, lt_of_mul-lt-mul_right}
use Rattle.std.specs.List.{AllByRecursion}
use Rattle.std.proofs.lemmas.Int.{ints, clamps}
use Rattle.std.proofs.lemmas.List.Sums.{sum_by-cons}
use Rattle.scr_num.specs.Rounding.{Ends, exact_ends, add_ends, max_ends, hull_ends, scale_ends, floor_div, ceil_div}
use Rattle.scr_num.specs.Amounts.{IsAmount, AreAmounts}
use Rattle.scr_num.specs.Sums.{sum_ends}
use Rattle.scr_num.proofs.Quotients.{ceil_div-next, floor_div-le-ceil_div, times_le}

pub is_amount : (most : ℕ) (e : Ends) → pos 0 ≤ℤ e.low → e.low ≤ℤ e.high → e.high ≤ℤ pos most → IsAmount most e
is_amount most e low order high = record {
  not_negative = low;
  ordered = order;
  low_size = omega (arith, ints);
  high_size = omega (arith, ints);
}

pub amount-high : (most : ℕ) (e : Ends) → IsAmount most e → e.high ≤ℤ pos most
amount-high most e h = let order = h.ordered in let low = h.not_negative in let size = h.high_size in
    omega (arith, ints)

pub amount-exact : (most n : ℕ) → n ≤ most → IsAmount most (exact_ends (pos n))
amount-exact most n h = is_amount most (exact_ends (pos n)) (omega (arith, ints)) (omega (arith, ints))
    (omega (arith, ints))

pub amount-wider : (most more : ℕ) (e : Ends) → most ≤ more → IsAmount most e → IsAmount more e
amount-wider most more e le h = record {
  not_negative = h.not_negative;
  ordered = h.ordered;
  low_size = omega (arith, h.low_size);
  high_size = omega (arith, h.high_size);
}

pub amount-add : (a b : ℕ) (e f : Ends) → IsAmount a e → IsAmount b f → IsAmount (a + b) (add_ends e f)
amount-add a b e f h k =
    let above = amount-high a e h in
    let over = amount-high b f k in
    let low = h.not_negative in
    let bottom = k.not_negative in
    let order = h.ordered in
    let rising = k.ordered in
    is_amount (a + b) (add_ends e f) (omega (arith, ints)) (omega (arith, ints)) (omega (arith, ints))

pub amount-sum : (most : ℕ) (es : List Ends) → AllByRecursion (IsAmount most) es
    → IsAmount (length es * most) (sum_ends es)
amount-sum most [] h = amount-exact (0 * most) 0 (omega arith)
amount-sum most (e ∷ es) h =
    amount-wider (most + length es * most) (suc (length es) * most) (add_ends e (sum_ends es)) (omega arith)
    (amount-add most (length es * most) e (sum_ends es) h.0 (amount-sum most es h.1))

pub amount-total : (mosts : List ℕ) (es : List Ends) → AreAmounts mosts es
    → IsAmount (sum_by (λ most. most) mosts) (sum_ends es)
amount-total [] [] h = amount-exact 0 0 (omega arith)
amount-total [] (e ∷ es) h = absurd h
amount-total (most ∷ mosts) [] h = absurd h
amount-total (most ∷ mosts) (e ∷ es) h =
    rw (sum_by-cons (λ (n : ℕ). n) most mosts)
    (amount-add most (sum_by (λ n. n) mosts) e (sum_ends es) h.0 (amount-total mosts es h.1))

pub amount-max : (most : ℕ) (e f : Ends) → IsAmount most e → IsAmount most f → IsAmount most (max_ends e f)
amount-max most e f h k =
    let above = amount-high most e h in
    let over = amount-high most f k in
    let low = h.not_negative in
    let order = h.ordered in
    let rising = k.ordered in
    is_amount most (max_ends e f) (omega (arith, ints, clamps)) (omega (arith, ints, clamps))
    (omega (arith, ints, clamps))

pub amount-hull : (most : ℕ) (e f : Ends) → IsAmount most e → IsAmount most f → IsAmount most (hull_ends e f)
amount-hull most e f h k =
    let above = amount-high most e h in
    let over = amount-high most f k in
    let low = h.not_negative in
    let bottom = k.not_negative in
    let order = h.ordered in
    is_amount most (hull_ends e f) (omega (arith, ints, clamps)) (omega (arith, ints, clamps))
    (omega (arith, ints, clamps))

-- a gain counts as nil
pub amount-cut : (most : ℕ) (e : Ends) → e.low ≤ℤ e.high → e.high ≤ℤ pos most
    → IsAmount most (max_ends (exact_ends (pos 0)) e)
amount-cut most e order high =
    is_amount most (max_ends (exact_ends (pos 0)) e) (omega (arith, ints, clamps)) (omega (arith, ints, clamps))
    (omega (arith, ints, clamps))

-- ---- a share
pub ceil_div-least : (z : ℤ) (d b : ℕ) → 0 < d → z ≤ℤ pos (b * d) → ceil_div z d ≤ℤ pos b
ceil_div-least z d b positive h = quotient (ceil_div z d) (ceil_div-next z d positive)
  where
    quotient : (q : ℤ) → (q *ℤ pos d) <ℤ (z +ℤ pos d) → q ≤ℤ pos b
    quotient (negsuc k) lt = omega (arith, ints)
    quotient (pos k) lt =
        let more : k * d < (b + 1) * d = omega (arith, ints) in
        let below : k < b + 1 = lt_of_mul-lt-mul_right d more in
        omega (arith, ints)

floor_div-low : (z : ℤ) (d : ℕ) → pos 0 ≤ℤ z → pos 0 ≤ℤ floor_div z d
floor_div-low (pos n) d h = omega (arith, ints)
floor_div-low (negsuc n) d h = absurd (omega (arith, ints))

product-low : (z : ℤ) (n : ℕ) → pos 0 ≤ℤ z → pos 0 ≤ℤ (z *ℤ pos n)
product-low (pos z) n h = omega (arith, ints)
product-low (negsuc z) n h = absurd (omega (arith, ints))

product-high : (z : ℤ) (a n m : ℕ) → z ≤ℤ pos a → a * n ≤ m → (z *ℤ pos n) ≤ℤ pos m
product-high (negsuc z) a n m h k = omega (arith, ints)
product-high (pos z) a n m h k = let small : z * n ≤ a * n = mul-le-mul_right n (omega (arith, ints)) in
    omega (arith, ints)

pub amount-scale : (a b num den : ℕ) (e : Ends) → 0 < den → a * num ≤ b * den → IsAmount a e
    → IsAmount b (scale_ends e num den)
amount-scale a b num den e positive h k =
    is_amount b (scale_ends e num den)
    (floor_div-low (e.low *ℤ pos num) den (product-low e.low num k.not_negative))
    (floor_div-le-ceil_div (e.low *ℤ pos num) (e.high *ℤ pos num) den positive (times_le e.low e.high num k.ordered))
    (ceil_div-least (e.high *ℤ pos num) den b positive (product-high e.high a num (b * den) (amount-high a e k) h))
