-- Differences of amounts year by year: how large they are, and what they are worth.
use Rattle.std.proofs.Common.{◌≡◌, ℕ, zero, suc, ◌+◌, ◌*◌, ◌≤◌, refl, ap, sym, map, sum_by, unsigned_abs, ℤ, pos, ◌+ℤ◌, ◌-ℤ◌, ◌*ℤ◌, arith}
use Rattle.std.specs.List.{range_with_len}
use Rattle.std.proofs.lemmas.Int.{ints}
use Rattle.std.proofs.lemmas.List.Sums.{sum_by-cons}
use borrow.Author.Differences.{up, down}
use Rattle.scr_num.specs.Fraction.{Fraction, over, whole, zero_fraction, plus, minus, product}
use Rattle.scr_num.specs.Sums.{Equals, weighted_sum}
use Rattle.scr_num.proofs.Fractions.{≼_refl, ≼_trans, plus_mono, minus_mono, over-minus_le, over-minus_ge, times_split}

-- ---- how large they are
module _ (f g : ℕ → ℤ) where
  abbrev apart : ℕ → ℤ
  apart k = f k -ℤ g k

  abbrev sizes : (ℕ → ℤ) → ℕ → ℕ → ℕ
  sizes h first n = sum_by unsigned_abs (map h (range_with_len first n))

  pub apart-small : (first n : ℕ) → sizes apart first n ≤ sizes f first n + sizes g first n
  apart-small first zero = omega arith
  apart-small first (suc n) =
      let here : unsigned_abs (f first -ℤ g first) ≤ unsigned_abs (f first) + unsigned_abs (g first) = omega (arith, ints) in
      omega (
        arith,
        here,
        apart-small (first + 1) n,
        sum_by-cons unsigned_abs (f first -ℤ g first) (map apart (range_with_len (first + 1) n)),
        sum_by-cons unsigned_abs (f first) (map f (range_with_len (first + 1) n)),
        sum_by-cons unsigned_abs (g first) (map g (range_with_len (first + 1) n)),
      )

-- ---- what they are worth
pub equals-trans : (p q r : Fraction) → Equals p q → Equals q r → Equals p r
equals-trans p q r h k = record { below = ≼_trans p q r h.below k.below; above = ≼_trans r q p k.above h.above }

pub equals-minus : (p p' q q' : Fraction) → Equals p p' → Equals q q' → Equals (minus p q) (minus p' q')
equals-minus p p' q q' h k = record { below = minus_mono p p' q q' h.below k.above; above = minus_mono p' p q' q h.above k.below }

equals-plus : (p p' q q' : Fraction) → Equals p p' → Equals q q' → Equals (plus p q) (plus p' q')
equals-plus p p' q q' h k = record { below = plus_mono p p' q q' h.below k.below; above = plus_mono p' p q' q h.above k.above }

equals-same : (p q : Fraction) → p.num ≡ q.num → p.den ≡ q.den → Equals p q
equals-same p q e f = record { below = ≼_refl p q e f; above = ≼_refl q p (sym e) (sym f) }

-- a difference of sums as a sum of differences
minus-crossed : (a b c d : Fraction) → Equals (plus (minus a b) (minus c d)) (minus (plus a c) (plus b d))
minus-crossed a b c d =
    equals-same (plus (minus a b) (minus c d)) (minus (plus a c) (plus b d)) (nums a.num b.num c.num d.num a.den b.den c.den d.den) (omega arith)
  where
    nums : (a b c d : ℤ) (m n o p : ℕ)
        → (a *ℤ pos n -ℤ b *ℤ pos m) *ℤ pos (o * p) +ℤ (c *ℤ pos p -ℤ d *ℤ pos o) *ℤ pos (m * n)
        ≡ (a *ℤ pos o +ℤ c *ℤ pos m) *ℤ pos (n * p) -ℤ (b *ℤ pos p +ℤ d *ℤ pos n) *ℤ pos (m * o)
    nums a b c d m n o p =
        let ab = times_split (a *ℤ pos n -ℤ b *ℤ pos m) (up a * n + down b * m) (down a * n + up b * m) (o * p) (omega (arith, ints)) in
        let cd = times_split (c *ℤ pos p -ℤ d *ℤ pos o) (up c * p + down d * o) (down c * p + up d * o) (m * n) (omega (arith, ints)) in
        let ac = times_split (a *ℤ pos o +ℤ c *ℤ pos m) (up a * o + up c * m) (down a * o + down c * m) (n * p) (omega (arith, ints)) in
        let bd = times_split (b *ℤ pos p +ℤ d *ℤ pos n) (up b * p + up d * n) (down b * p + down d * n) (m * o) (omega (arith, ints)) in
        omega (arith, ints, ab, cd, ac, bd)

-- a product with a difference
product-split : (z w : ℤ) (u d : ℕ) → up z + d ≡ u + down z → up (z *ℤ w) + (d * up w + u * down w) ≡ (u * up w + d * down w) + down (z *ℤ w)
product-split z w u d h =
    let e : (up z + d) * up w ≡ (u + down z) * up w = ap (λ (x : ℕ). x * up w) h in
    let f : (up z + d) * down w ≡ (u + down z) * down w = ap (λ (x : ℕ). x * down w) h in
    omega (arith, ints, e, f)

difference-times : (a b w : ℤ) → (a -ℤ b) *ℤ w ≡ a *ℤ w -ℤ b *ℤ w
difference-times a b w = let s = product-split (a -ℤ b) w (up a + down b) (down a + up b) (omega (arith, ints)) in omega (arith, ints, s)

product-minus : (a b : ℤ) (p : Fraction) → Equals (product (whole (a -ℤ b)) p) (minus (product (whole a) p) (product (whole b) p))
product-minus a b p =
    let d = 1 * p.den in
    let positive = (product (whole a) p).positive in
    let difference = over (a *ℤ p.num -ℤ b *ℤ p.num) d positive in
    let split = equals-same (product (whole (a -ℤ b)) p) difference (difference-times a b p.num) refl in
    let parts : Equals difference (minus (product (whole a) p) (product (whole b) p)) =
    record { below = over-minus_le (a *ℤ p.num) (b *ℤ p.num) d positive positive positive; above = over-minus_ge (a *ℤ p.num) (b *ℤ p.num) d positive positive positive } in
    equals-trans _ difference _ split parts

module _ (worth : ℕ → Fraction) (f g : ℕ → ℤ) where
  abbrev along : (ℕ → ℤ) → ℕ → ℕ → Fraction
  along h first n = weighted_sum worth first (map h (range_with_len first n))

  pub apart-worth : (first n : ℕ) → Equals (along (λ k. f k -ℤ g k) first n) (minus (along f first n) (along g first n))
  unfolding weighted_sum
  apart-worth first zero = equals-same zero_fraction (minus zero_fraction zero_fraction) refl refl
  apart-worth first (suc n) =
      let w = worth first in
      let a = product (whole (f first)) w in
      let b = product (whole (g first)) w in
      equals-trans _ (plus (minus a b) (minus (along f (first + 1) n) (along g (first + 1) n))) _
      (equals-plus _ (minus a b) _ _ (product-minus (f first) (g first) w) (apart-worth (first + 1) n))
      (minus-crossed a b (along f (first + 1) n) (along g (first + 1) n))
