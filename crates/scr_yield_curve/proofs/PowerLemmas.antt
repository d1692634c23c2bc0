-- The steps of a discount, and the power of the growth that its ends lie about.
use Rattle.std.proofs.Common.{◌≡◌, ℕ, zero, suc, ◌+◌, ◌*◌, ◌/◌, ◌<◌, ◌≤◌, refl, ap, ap₂, ℤ, pos, negsuc, ◌+ℤ◌, ◌*ℤ◌, ◌≤ℤ◌, ◌<ℤ◌, arith, mul-pos, mul-le-mul_right, le_of_mul-le-mul_right, lit≤, lit<, le_refl, inl, inr}
use Rattle.std.proofs.lemmas.Bool.{cases_lt}
use Rattle.std.proofs.lemmas.Int.{ints}
use Rattle.std.proofs.lemmas.Nat.{mul-le}
use borrow.Author.Differences.{up, down}
use Rattle.scr_num.specs.Fraction.{Fraction, ◌≼◌, over, whole, product, reciprocal_of}
use Rattle.scr_num.specs.Figure.{Frac, AtMost}
use Rattle.scr_num.specs.Rounding.{floor_div, ceil_div, or_zero}
use Rattle.scr_num.specs.Enclosure.{Encloses, Measures}
use Rattle.scr_num.proofs.Quotients.{floor_div-times, ceil_div-times, ceil_div-next, times_cancel, times_le}
use Rattle.scr_yield_curve.specs.Discount.{growth, power, discount_exact}
use Rattle.scr_yield_curve.specs.declared.table.TheConstants.{MAX_DISCOUNT}
use Rattle.scr_yield_curve.specs.Parts.{parts, IsRateInParts}
use Rattle.scr_yield_curve.specs.DiscountEnds.{one, discount_ends, IsDiscount, IsAboutPower}

-- ---- powers
abbrev pub power_of : ℕ → ℕ → ℕ
power_of a zero = 1
power_of a (suc times) = a * power_of a times

pub power_of-pos : (a times : ℕ) → 0 < a → 0 < power_of a times
power_of-pos a zero h = lit< tt
power_of-pos a (suc times) h = mul-pos h (power_of-pos a times h)

pub power-num : (p : Fraction) (a times : ℕ) → p.num ≡ pos a → (power p times).num ≡ pos (power_of a times)
unfolding power
power-num p a zero e = refl
power-num p a (suc times) e = ap₂ (λ (x : ℤ) (y : ℤ). x *ℤ y) e (power-num p a times e)

pub power-den : (p : Fraction) (times : ℕ) → (power p times).den ≡ power_of p.den times
unfolding power
power-den p zero = refl
power-den p (suc times) = ap (λ (y : ℕ). p.den * y) (power-den p times)

-- ---- one plus a rate, in parts and as a fraction
abbrev pub grown : ℤ → ℕ
grown rate = or_zero (pos parts +ℤ rate)

or_zero-pos : (z : ℤ) → pos 0 ≤ℤ z → pos (or_zero z) ≡ z
or_zero-pos (pos n) h = refl
or_zero-pos (negsuc n) h = absurd (omega (arith, ints))

pub grown_is : (rate : ℤ) → IsRateInParts rate → pos (grown rate) ≡ pos parts +ℤ rate
grown_is rate h = let low = h.low in or_zero-pos (pos parts +ℤ rate) (omega (arith, ints))

pub grown_large : (rate : ℤ) → IsRateInParts rate → 6930000000 ≤ grown rate
grown_large rate h = let low = h.low in omega (arith, ints, grown_is rate h)

-- the numerator of the growth, as many of its denominator as the rate is of the parts
pub record IsGrowth (rate : ℤ) (p : Fraction) (a : ℕ) : Type 0 where
  pub num : (growth p).num ≡ pos a
  pub positive : 0 < a
  pub cross : a * parts ≡ grown rate * (growth p).den

cross_plain : (rate num : ℤ) (g d : ℕ) → pos g ≡ pos parts +ℤ rate → rate *ℤ pos d ≡ num *ℤ pos parts → (pos 1 *ℤ pos d +ℤ num *ℤ pos 1) *ℤ pos parts ≡ pos (g * d)
cross_plain rate num g d whole equal =
    let scaled : (g + down rate) * d ≡ (parts + up rate) * d = ap (λ (x : ℕ). x * d) (omega (arith, ints, whole)) in
    omega (arith, ints, scaled, equal)

growth_cross : (rate : ℤ) (p : Fraction) → IsRateInParts rate → Measures parts rate p → (growth p).num *ℤ pos parts ≡ pos (grown rate * p.den)
growth_cross rate p h m = cross_plain rate p.num (grown rate) p.den (grown_is rate h) m.equal

growth_from : (z : ℤ) (g d : ℕ) → 0 < g → 0 < d → z *ℤ pos parts ≡ pos (g * d) → (z ≡ pos (or_zero z)) × (0 < or_zero z) × (or_zero z * parts ≡ g * (1 * d))
growth_from (pos n) g d hg hd e =
    let some : 0 < g * d = mul-pos hg hd in
    (refl, omega (arith, ints, e, some), omega (arith, ints, e))
growth_from (negsuc n) g d hg hd e = absurd (omega (arith, ints, e))

pub growth_is : (rate : ℤ) (p : Fraction) → IsRateInParts rate → Measures parts rate p → IsGrowth rate p (or_zero (growth p).num)
growth_is rate p h m =
    let large = grown_large rate h in
    let f = growth_from (growth p).num (grown rate) p.den (omega (arith, large)) p.positive (growth_cross rate p h m) in
    record { num = f.0; positive = f.1; cross = f.2 }

-- ---- one year
nonneg_floor : (z : ℤ) (m d : ℕ) → pos 0 ≤ℤ z → pos 0 ≤ℤ floor_div (z *ℤ pos m) d
nonneg_floor (pos n) m d h = omega (arith, ints)
nonneg_floor (negsuc n) m d h = absurd (omega (arith, ints))

nonneg_from : (c : ℤ) (x d : ℕ) → 0 < d → pos x ≤ℤ (c *ℤ pos d) → pos 0 ≤ℤ c
nonneg_from (pos c) x d h k = omega (arith, ints)
nonneg_from (negsuc c) x d h k = absurd (omega (arith, ints))

nonneg_ceil : (z : ℤ) (m d : ℕ) → 0 < d → pos 0 ≤ℤ z → pos 0 ≤ℤ ceil_div (z *ℤ pos m) d
nonneg_ceil (pos n) m d h k = nonneg_from (ceil_div (pos n *ℤ pos m) d) (n * m) d h (ceil_div-times (pos n *ℤ pos m) d h)
nonneg_ceil (negsuc n) m d h k = absurd (omega (arith, ints))

low_step : (z : ℤ) (m d : ℕ) → 0 < d → pos 0 ≤ℤ z → or_zero (floor_div (z *ℤ pos m) d) * d ≤ or_zero z * m
low_step (pos n) m d h k = omega arith
low_step (negsuc n) m d h k = absurd (omega (arith, ints))

high_from : (c : ℤ) (x d : ℕ) → pos x ≤ℤ (c *ℤ pos d) → x ≤ or_zero c * d
high_from (pos c) x d h = omega (arith, ints)
high_from (negsuc c) x d h = omega (arith, ints)

high_step : (z : ℤ) (m d : ℕ) → 0 < d → pos 0 ≤ℤ z → or_zero z * m ≤ or_zero (ceil_div (z *ℤ pos m) d) * d
high_step (pos n) m d h k = high_from (ceil_div (pos n *ℤ pos m) d) (n * m) d (ceil_div-times (pos n *ℤ pos m) d h)
high_step (negsuc n) m d h k = absurd (omega (arith, ints))

next_from : (c : ℤ) (x d : ℕ) → 0 < d → (c *ℤ pos d) <ℤ (pos x +ℤ pos d) → or_zero c * d < x + d
next_from (pos c) x d h k = omega (arith, ints)
next_from (negsuc c) x d h k = omega (arith, ints)

high_next : (z : ℤ) (m d : ℕ) → 0 < d → pos 0 ≤ℤ z → or_zero (ceil_div (z *ℤ pos m) d) * d < or_zero z * m + d
high_next (pos n) m d h k = next_from (ceil_div (pos n *ℤ pos m) d) (n * m) d h (ceil_div-next (pos n *ℤ pos m) d h)
high_next (negsuc n) m d h k = absurd (omega (arith, ints))

-- ---- the ends are not negative
positive_of : (rate : ℤ) → IsRateInParts rate → 0 < grown rate
positive_of rate h = let large = grown_large rate h in omega (arith, large)

pub low_nonneg : (rate : ℤ) (years : ℕ) → IsRateInParts rate → pos 0 ≤ℤ (discount_ends rate years).low
unfolding discount_ends
low_nonneg rate zero h = omega (arith, ints)
low_nonneg rate (suc years) h = nonneg_floor (discount_ends rate years).low parts (grown rate) (low_nonneg rate years h)

pub high_nonneg : (rate : ℤ) (years : ℕ) → IsRateInParts rate → pos 0 ≤ℤ (discount_ends rate years).high
unfolding discount_ends
high_nonneg rate zero h = omega (arith, ints)
high_nonneg rate (suc years) h = nonneg_ceil (discount_ends rate years).high parts (grown rate) (positive_of rate h) (high_nonneg rate years h)

-- ---- the limit of the high end: a hundred years at -1 %, each rounded up
abbrev most : ℕ → ℕ
most zero = one
most (suc years) = most years * 100 / 99 + 1

most_to : (top years : ℕ) → years ≤ top → most years ≤ most top
most_to zero zero le = le_refl (most zero)
most_to zero (suc years) le = absurd (omega arith)
most_to (suc top) years le =
    elim (cases_lt years (suc top)) [
      | inl below ↦ let before = most_to top years (omega arith) in omega (arith, before)
      | inr above ↦ let same : years ≡ suc top = omega arith in rw same (le_refl (most (suc top)))
    ]

most_step : (c h g bound : ℕ) → 6930000000 ≤ g → c * g < h * parts + g → h ≤ bound → c ≤ bound * 100 / 99 + 1
most_step zero h g bound large next le = omega arith
most_step (suc c) h g bound large next le =
    let a : c * 6930000000 ≤ c * g = mul-le c 6930000000 c g (le_refl c) large in omega (arith, a, next)

high_most : (rate : ℤ) (years : ℕ) → IsRateInParts rate → or_zero (discount_ends rate years).high ≤ most years
unfolding discount_ends
high_most rate zero h = le_refl one
high_most rate (suc years) h =
    most_step (or_zero (discount_ends rate (suc years)).high) (or_zero (discount_ends rate years).high) (grown rate) (most years) (grown_large rate h)
    (high_next (discount_ends rate years).high parts (grown rate) (positive_of rate h) (high_nonneg rate years h))
    (high_most rate years h)

most_of_all : most 100 ≤ MAX_DISCOUNT
most_of_all = lit≤ tt

-- the low end is no more than the high one
order_step : (l h : ℤ) (m d : ℕ) → 0 < d → l ≤ℤ h → floor_div (l *ℤ pos m) d ≤ℤ ceil_div (h *ℤ pos m) d
order_step l h m d positive le =
    times_cancel (floor_div (l *ℤ pos m) d) (ceil_div (h *ℤ pos m) d) d positive
    (≤ℤ_trans _ (l *ℤ pos m) _ (floor_div-times (l *ℤ pos m) d positive) (≤ℤ_trans _ (h *ℤ pos m) _ (times_le l h m le) (ceil_div-times (h *ℤ pos m) d positive)))
  where
    ≤ℤ_trans : (x y z : ℤ) → x ≤ℤ y → y ≤ℤ z → x ≤ℤ z
    ≤ℤ_trans x y z a b = omega (arith, ints, a, b)

ends_ordered : (rate : ℤ) (years : ℕ) → IsRateInParts rate → (discount_ends rate years).low ≤ℤ (discount_ends rate years).high
unfolding discount_ends
ends_ordered rate zero h = omega (arith, ints)
ends_ordered rate (suc years) h =
    order_step (discount_ends rate years).low (discount_ends rate years).high parts (grown rate) (positive_of rate h) (ends_ordered rate years h)

pub in_range : (rate : ℤ) (years : ℕ) → IsRateInParts rate → years ≤ 100 → IsDiscount (discount_ends rate years)
in_range rate years h le = record {
  low = low_nonneg rate years h;
  ordered = ends_ordered rate years h;
  high =
      let a = high_most rate years h in
      let b = most_to 100 years le in
      let c = or_zero-pos (discount_ends rate years).high (high_nonneg rate years h) in omega (arith, ints, a, b, c, most_of_all);
}

-- ---- the powers
pub below_step : (l l' g a b x w : ℕ) → l' * g ≤ l * parts → a * parts ≡ g * b → l * x ≤ w → l' * (a * x) ≤ b * w
below_step l l' g a b x w h e k =
    let scaled = mul-le-mul_right b h in
    let turned : l' * (a * parts) ≡ l' * (g * b) = ap (λ (y : ℕ). l' * y) e in
    let year : (l' * a) * parts ≤ (l * b) * parts = omega (arith, scaled, turned) in
    let cancelled : l' * a ≤ l * b = le_of_mul-le-mul_right year (lit< tt) in
    omega (arith, mul-le-mul_right x cancelled, mul-le-mul_right b k)

pub above_step : (h h' g a b x w : ℕ) → h * parts ≤ h' * g → a * parts ≡ g * b → w ≤ h * x → b * w ≤ h' * (a * x)
above_step h h' g a b x w up e k =
    let scaled = mul-le-mul_right b up in
    let turned : h' * (a * parts) ≡ h' * (g * b) = ap (λ (y : ℕ). h' * y) e in
    let year : (h * b) * parts ≤ (h' * a) * parts = omega (arith, scaled, turned) in
    let cancelled : h * b ≤ h' * a = le_of_mul-le-mul_right year (lit< tt) in
    omega (arith, mul-le-mul_right x cancelled, mul-le-mul_right b k)

below_power : (rate : ℤ) (a b years : ℕ) → IsRateInParts rate → a * parts ≡ grown rate * b
    → or_zero (discount_ends rate years).low * power_of a years ≤ power_of b years * one
unfolding discount_ends
below_power rate a b zero h e = lit≤ tt
below_power rate a b (suc years) h e =
    let next = below_step (or_zero (discount_ends rate years).low) (or_zero (discount_ends rate (suc years)).low) (grown rate) a b (power_of a years) (power_of b years * one)
    (low_step (discount_ends rate years).low parts (grown rate) (positive_of rate h) (low_nonneg rate years h)) e (below_power rate a b years h e) in
    omega (arith, next)

above_power : (rate : ℤ) (a b years : ℕ) → IsRateInParts rate → a * parts ≡ grown rate * b
    → power_of b years * one ≤ or_zero (discount_ends rate years).high * power_of a years
unfolding discount_ends
above_power rate a b zero h e = lit≤ tt
above_power rate a b (suc years) h e =
    let next = above_step (or_zero (discount_ends rate years).high) (or_zero (discount_ends rate (suc years)).high) (grown rate) a b (power_of a years) (power_of b years * one)
    (high_step (discount_ends rate years).high parts (grown rate) (positive_of rate h) (high_nonneg rate years h)) e (above_power rate a b years h e) in
    omega (arith, next)

-- numerator and denominator of the power, and the ends, as natural numbers
below_fraction : (l : ℤ) (x y : ℕ) (p : Fraction) → pos 0 ≤ℤ l → p.num ≡ pos x → p.den ≡ y → or_zero l * x ≤ y * one → product (whole l) p ≼ whole (pos one)
below_fraction (pos l) x y p h e f k = record { cross = rw (e, f) (omega (arith, ints, k)) }
below_fraction (negsuc l) x y p h e f k = absurd (omega (arith, ints))

above_fraction : (l : ℤ) (x y : ℕ) (p : Fraction) → pos 0 ≤ℤ l → p.num ≡ pos x → p.den ≡ y → y * one ≤ or_zero l * x → whole (pos one) ≼ product (whole l) p
above_fraction (pos l) x y p h e f k = record { cross = rw (e, f) (omega (arith, ints, k)) }
above_fraction (negsuc l) x y p h e f k = absurd (omega (arith, ints))

pub about_power : (rate : ℤ) (p : Fraction) (years : ℕ) → IsRateInParts rate → Measures parts rate p → IsAboutPower (discount_ends rate years) p years
about_power rate p years h m =
    let g = growth_is rate p h m in
    let a = or_zero (growth p).num in
    let b = (growth p).den in
    let num = power-num (growth p) a years g.num in
    let den = power-den (growth p) years in
    record {
      low = below_fraction (discount_ends rate years).low (power_of a years) (power_of b years) (power (growth p) years) (low_nonneg rate years h) num den
          (below_power rate a b years h g.cross);
      high = above_fraction (discount_ends rate years).high (power_of a years) (power_of b years) (power (growth p) years) (high_nonneg rate years h) num den
          (above_power rate a b years h g.cross);
    }

-- ---- the discount
pub below_reciprocal : (l : ℤ) (n : ℤ) (x y : ℕ) (positive : 0 < one) → pos 0 ≤ℤ l → n ≡ pos x → 0 < x → or_zero l * x ≤ y * one → over l one positive ≼ reciprocal_of n y
below_reciprocal (pos l) (pos zero) x y positive h e k m = absurd (omega (arith, ints))
below_reciprocal (pos l) (pos (suc n)) x y positive h e k m = let s : suc n ≡ x = omega (arith, ints) in record { cross = rw s (omega (arith, ints, m)) }
below_reciprocal (pos l) (negsuc n) x y positive h e k m = absurd (omega (arith, ints))
below_reciprocal (negsuc l) n x y positive h e k m = absurd (omega (arith, ints))

pub above_reciprocal : (l : ℤ) (n : ℤ) (x y : ℕ) (positive : 0 < one) → pos 0 ≤ℤ l → n ≡ pos x → 0 < x → y * one ≤ or_zero l * x → reciprocal_of n y ≼ over l one positive
above_reciprocal (pos l) (pos zero) x y positive h e k m = absurd (omega (arith, ints))
above_reciprocal (pos l) (pos (suc n)) x y positive h e k m = let s : suc n ≡ x = omega (arith, ints) in record { cross = rw s (omega (arith, ints, m)) }
above_reciprocal (pos l) (negsuc n) x y positive h e k m = absurd (omega (arith, ints))
above_reciprocal (negsuc l) n x y positive h e k m = absurd (omega (arith, ints))

pub encloses_discount : (rate : ℤ) (p : Fraction) (years : ℕ) → IsRateInParts rate → Measures parts rate p
    → Encloses one (discount_ends rate years).low (discount_ends rate years).high (Frac (discount_exact p years))
unfolding discount_exact AtMost
encloses_discount rate p years h m =
    let g = growth_is rate p h m in
    let a = or_zero (growth p).num in
    let num = power-num (growth p) a years g.num in
    let den = power-den (growth p) years in
    record {
      positive = lit< tt;
      at_most = below_reciprocal (discount_ends rate years).low (power (growth p) years).num (power_of a years) (power (growth p) years).den (lit< tt)
          (low_nonneg rate years h) num (power_of-pos a years g.positive) (rw den (below_power rate a (growth p).den years h g.cross));
      at_least = above_reciprocal (discount_ends rate years).high (power (growth p) years).num (power_of a years) (power (growth p) years).den (lit< tt)
          (high_nonneg rate years h) num (power_of-pos a years g.positive) (rw den (above_power rate a (growth p).den years h g.cross));
    }
