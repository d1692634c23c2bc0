-- The floor and the ceiling of a quotient of a whole number by a natural one.
use Rattle.std.proofs.Common.{◌≡◌, ℕ, zero, suc, ◌+◌, ◌*◌, ◌/◌, ◌%◌, ◌<◌, ◌≤◌, ℤ, pos, negsuc, ◌+ℤ◌, ◌*ℤ◌, neg_ℤ, ◌≤ℤ◌, ◌<ℤ◌, unsigned_abs, arith, ap, sym, ◌∙◌, le_of_mul-le-mul_right, mul-le-mul_right, div-le_self, inl, inr}
use Rattle.std.proofs.lemmas.Int.{ints}
use Rattle.std.specs.Int.{div_ceil}
use Rattle.std.proofs.lemmas.Nat.{div-mul-add, mod-mul-add}
use Rattle.std.proofs.lemmas.Bool.{cases_lt}
use borrow.Author.Differences.{up, down, at_most_in}
use Rattle.scr_num.specs.Rounding.{floor_div, ceil_div}

-- ---- what the floor and the ceiling are
pub floor_div-times : (z : ℤ) (d : ℕ) → 0 < d → (floor_div z d *ℤ pos d) ≤ℤ z
floor_div-times (pos n) d h = omega (arith, ints)
floor_div-times (negsuc n) d h = omega (arith, ints)

pub floor_div-next : (z : ℤ) (d : ℕ) → 0 < d → z <ℤ (floor_div z d *ℤ pos d +ℤ pos d)
floor_div-next (pos n) d h = omega (arith, ints)
floor_div-next (negsuc n) d h = omega (arith, ints)

neg-*ℤ-pos : (q : ℤ) (d : ℕ) → neg_ℤ q *ℤ pos d ≡ neg_ℤ (q *ℤ pos d)
neg-*ℤ-pos (pos zero) d = omega (arith, ints)
neg-*ℤ-pos (pos (suc q)) d = omega (arith, ints)
neg-*ℤ-pos (negsuc q) d = omega (arith, ints)

times_turned : (q z : ℤ) (d : ℕ) → (q *ℤ pos d) ≤ℤ neg_ℤ z → z ≤ℤ (neg_ℤ q *ℤ pos d)
times_turned q z d h = rw neg-*ℤ-pos (omega (arith, ints))

next_turned : (q z : ℤ) (d : ℕ) → neg_ℤ z <ℤ (q *ℤ pos d +ℤ pos d) → (neg_ℤ q *ℤ pos d) <ℤ (z +ℤ pos d)
next_turned q z d h = rw neg-*ℤ-pos (omega (arith, ints))

pub ceil_div-times : (z : ℤ) (d : ℕ) → 0 < d → z ≤ℤ (ceil_div z d *ℤ pos d)
ceil_div-times z d h = times_turned (floor_div (neg_ℤ z) d) z d (floor_div-times (neg_ℤ z) d h)

pub ceil_div-next : (z : ℤ) (d : ℕ) → 0 < d → (ceil_div z d *ℤ pos d) <ℤ (z +ℤ pos d)
ceil_div-next z d h = next_turned (floor_div (neg_ℤ z) d) z d (floor_div-next (neg_ℤ z) d h)

-- ---- order
pub times_cancel : (a b : ℤ) (d : ℕ) → 0 < d → (a *ℤ pos d) ≤ℤ (b *ℤ pos d) → a ≤ℤ b
times_cancel a b d h k =
    let m : (up a + down b) * d ≤ (up b + down a) * d = omega (arith, ints) in
    at_most_in a b (le_of_mul-le-mul_right m h)

pub floor_div-le-ceil_div : (y z : ℤ) (d : ℕ) → 0 < d → y ≤ℤ z → floor_div y d ≤ℤ ceil_div z d
floor_div-le-ceil_div y z d h k =
    times_cancel (floor_div y d) (ceil_div z d) d h (along _ _ _ _ (floor_div-times y d h) k (ceil_div-times z d h))
  where
    along : (a b c e : ℤ) → a ≤ℤ b → b ≤ℤ c → c ≤ℤ e → a ≤ℤ e
    along a b c e p q r = omega (arith, ints)

pub times_le : (a b : ℤ) (n : ℕ) → a ≤ℤ b → (a *ℤ pos n) ≤ℤ (b *ℤ pos n)
times_le a b n h =
    let m : (up a + down b) * n ≤ (up b + down a) * n = mul-le-mul_right n (omega (arith, ints)) in omega (arith, ints)

-- ---- by the magnitude, as the code goes
product_of_negative : (v : ℤ) (n : ℕ) → v <ℤ pos 0 → v *ℤ pos n ≡ neg_ℤ (pos (unsigned_abs v * n))
product_of_negative (pos v) n h = absurd (omega (arith, ints))
product_of_negative (negsuc v) n h = omega (arith, ints)

product_of_positive : (v : ℤ) (n : ℕ) → pos 0 ≤ℤ v → v *ℤ pos n ≡ pos (unsigned_abs v * n)
product_of_positive (pos v) n h = omega (arith, ints)
product_of_positive (negsuc v) n h = absurd (omega (arith, ints))

div_ceil-suc : (n d : ℕ) → 0 < d → div_ceil (suc n) d ≡ suc (n / d)
div_ceil-suc n d h =
    let split : suc n ≡ n / d * d + suc (n % d) = omega arith in
    elim (cases_lt (suc (n % d)) d) [
      | inl below ↦ rw (split, div-mul-add (n / d) d (suc (n % d)) below, mod-mul-add (n / d) d (suc (n % d)) below)
          (omega arith)
      | inr above ↦
          let turned : suc n ≡ suc (n / d) * d + 0 = omega arith in
          rw (turned, div-mul-add (suc (n / d)) d 0 h, mod-mul-add (suc (n / d)) d 0 h) (omega arith)
    ]

floor_div-neg : (p d : ℕ) → 0 < d → floor_div (neg_ℤ (pos p)) d ≡ neg_ℤ (pos (div_ceil p d))
floor_div-neg zero d h = omega (arith, ints)
floor_div-neg (suc n) d h = ap (λ (x : ℕ). neg_ℤ (pos x)) (sym (div_ceil-suc n d h))

neg-neg : (z : ℤ) → neg_ℤ (neg_ℤ z) ≡ z
neg-neg z = omega (arith, ints)

pub div_ceil-le : (p d : ℕ) → 0 < d → div_ceil p d ≤ p
div_ceil-le zero d h = omega arith
div_ceil-le (suc n) d h = rw (div_ceil-suc n d h) (omega (arith, div-le_self n d))

pub floor_div-negative : (v : ℤ) (n d q : ℕ) → v <ℤ pos 0 → 0 < d → q ≡ div_ceil (unsigned_abs v * n) d
    → floor_div (v *ℤ pos n) d ≡ neg_ℤ (pos q)
floor_div-negative v n d q h k e =
    ap (λ (z : ℤ). floor_div z d) (product_of_negative v n h) ∙ floor_div-neg (unsigned_abs v * n) d k
    ∙ ap (λ (x : ℕ). neg_ℤ (pos x)) (sym e)

pub ceil_div-positive : (v : ℤ) (n d q : ℕ) → pos 0 ≤ℤ v → 0 < d → q ≡ div_ceil (unsigned_abs v * n) d
    → ceil_div (v *ℤ pos n) d ≡ pos q
ceil_div-positive v n d q h k e =
    ap (λ (z : ℤ). ceil_div z d) (product_of_positive v n h)
    ∙ ap neg_ℤ (floor_div-neg (unsigned_abs v * n) d k)
    ∙ neg-neg (pos (div_ceil (unsigned_abs v * n) d))
    ∙ ap pos (sym e)

-- the quotient is less than one away from the exact one
pub floor_div-size : (v : ℤ) (n d : ℕ) → 0 < d → unsigned_abs (floor_div (v *ℤ pos n) d) * d < unsigned_abs v * n + d
floor_div-size v n d h = size (floor_div (v *ℤ pos n) d) v n d (floor_div-times (v *ℤ pos n) d h)
    (floor_div-next (v *ℤ pos n) d h)
  where
    size : (q v : ℤ) (n d : ℕ) → (q *ℤ pos d) ≤ℤ (v *ℤ pos n) → (v *ℤ pos n) <ℤ (q *ℤ pos d +ℤ pos d)
        → unsigned_abs q * d < unsigned_abs v * n + d
    size (pos q) (pos v) n d a b = omega (arith, ints)
    size (pos q) (negsuc v) n d a b = omega (arith, ints)
    size (negsuc q) (pos v) n d a b = omega (arith, ints)
    size (negsuc q) (negsuc v) n d a b = omega (arith, ints)
