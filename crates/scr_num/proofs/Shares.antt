-- Quotients in two halves of their digits, and products of a figure with a share that lies between two ends.
use Rattle.std.proofs.Common.{inl, inr, ◌≡◌, refl, ℕ, ◌+◌, ◌*◌, ◌/◌, ◌%◌, ◌<◌, ◌≤◌, ℤ, pos, negsuc, ◌+ℤ◌, ◌*ℤ◌, ◌≤ℤ◌, ◌<ℤ◌, arith, ap, sym, ◌∙◌, lit<, mul-pos, mul-le-mul_right, lt_of_mul-lt-mul_right, le_of_mul-le-mul_right}
use Rattle.std.specs.Int.{div_ceil}
use Rattle.std.proofs.lemmas.Int.{ints}
use Rattle.std.proofs.lemmas.Nat.{div-mul-add, mod-mul-add}
use Rattle.scr_num.specs.Fraction.{Fraction, Share, ◌≼◌, over, zero_fraction, times}
use Rattle.scr_num.specs.Figure.{Figure, Frac, Times, AtMost, AtLeast}
use Rattle.scr_num.specs.Rounding.{Ends}
use Rattle.scr_num.specs.Enclosure.{Encloses}
use Rattle.scr_num.specs.Ratio.{ratio_unit, ratio_ends, fraction_of, IsAtMostShare, product_ends}
use Rattle.scr_num.proofs.Quotients.{floor_div-times, ceil_div-times, ceil_div-next, ceil_div-positive, times_le, times_cancel}
use Rattle.scr_num.proofs.Fractions.{≼_trans}
use Rattle.scr_num.proofs.Witnesses.{lower-le-upper, sign}
use Rattle.scr_num.proofs.Enclosing.{Encloses-exact, Encloses-coarser, Encloses-overlap}

-- ---- a quotient in two steps
div-shifted : (n a k den : ℕ) → 0 < den → n ≡ a * den + k → n / den ≡ a + k / den
div-shifted n a k den h e =
    let split : n ≡ (a + k / den) * den + k % den = omega (arith, e) in
    ap (λ (x : ℕ). x / den) split ∙ div-mul-add (a + k / den) den (k % den) (omega arith)

mod-shifted : (n a k den : ℕ) → 0 < den → n ≡ a * den + k → n % den ≡ k % den
mod-shifted n a k den h e =
    let split : n ≡ (a + k / den) * den + k % den = omega (arith, e) in
    ap (λ (x : ℕ). x % den) split ∙ mod-mul-add (a + k / den) den (k % den) (omega arith)

-- the product is what the front half of the digits takes and the rest
in_halves : (num den : ℕ) → 0 < den
    → ratio_unit * num ≡ num * 1_000_000_000 / den * 1_000_000_000 * den + num * 1_000_000_000 % den * 1_000_000_000
in_halves num den h =
    let split : num * 1_000_000_000 ≡ num * 1_000_000_000 / den * den + num * 1_000_000_000 % den = omega arith in
    let twice : num * 1_000_000_000 * 1_000_000_000 ≡ (num * 1_000_000_000 / den * den + num * 1_000_000_000 % den) * 1_000_000_000 =
    ap (λ (x : ℕ). x * 1_000_000_000) split in
    omega (arith, twice)

pub ratio-floor : (num den : ℕ) → 0 < den
    → num * 1_000_000_000 / den * 1_000_000_000 + num * 1_000_000_000 % den * 1_000_000_000 / den ≡ ratio_unit * num / den
ratio-floor num den h =
    sym (div-shifted (ratio_unit * num) (num * 1_000_000_000 / den * 1_000_000_000) (num * 1_000_000_000 % den * 1_000_000_000) den h (in_halves num den h))

pub ratio-ceil : (num den : ℕ) → 0 < den
    → num * 1_000_000_000 / den * 1_000_000_000 + div_ceil (num * 1_000_000_000 % den * 1_000_000_000) den ≡ div_ceil (ratio_unit * num) den
ratio-ceil num den h =
    let front = num * 1_000_000_000 / den * 1_000_000_000 in
    let rest = num * 1_000_000_000 % den * 1_000_000_000 in
    let d = div-shifted (ratio_unit * num) front rest den h (in_halves num den h) in
    let m = mod-shifted (ratio_unit * num) front rest den h (in_halves num den h) in
    rw (d, m) (omega arith)

pub Encloses-ratio : (num den : ℕ) (positive : 0 < den) → let e = ratio_ends num den in Encloses ratio_unit e.low e.high (Frac (over (pos num) den positive))
Encloses-ratio num den positive =
    Encloses-coarser ratio_unit den (pos ratio_unit *ℤ pos num) (pos ratio_unit *ℤ pos num) (Frac (over (pos num) den positive)) positive
    (Encloses-exact (ratio_unit * den) (pos ratio_unit *ℤ pos num) (over (pos num) den positive)
    (record { positive = mul-pos (lit< tt) positive; equal = omega (arith, ints) }))

-- ---- a figure of at least 0 times a share grows with the share
times-grows : (n den pn pd qn qd : ℕ) → pn * qd ≤ qn * pd → n * pn * (den * qd) ≤ n * qn * (den * pd)
times-grows n den pn pd qn qd h = omega (arith, mul-le-mul_right (n * den) h)

times-share_mono : (a : Fraction) (p q : Share) → zero_fraction ≼ a → IsAtMostShare p q → times a p ≼ times a q
times-share_mono a p q h k = record { cross = of a.num a.den h.cross }
  where
    of : (z : ℤ) (den : ℕ) → (pos 0 *ℤ pos den) ≤ℤ (z *ℤ pos 1) → ((z *ℤ pos p.num) *ℤ pos (den * q.den)) ≤ℤ ((z *ℤ pos q.num) *ℤ pos (den * p.den))
    of (pos n) den h = omega (arith, ints, times-grows n den p.num p.den q.num q.den k.cross)
    of (negsuc n) den h = absurd (omega (arith, ints))

-- an answer as it is worked out
pub ratio-is : (num den ceiling : ℕ) (l h : ℤ) → 0 < den
    → l ≡ pos (num * 1_000_000_000 / den * 1_000_000_000 + num * 1_000_000_000 % den * 1_000_000_000 / den)
    → h ≡ pos (num * 1_000_000_000 / den * 1_000_000_000 + ceiling)
    → ceiling ≡ div_ceil (num * 1_000_000_000 % den * 1_000_000_000) den
    → (l ≡ (ratio_ends num den).low) × (h ≡ (ratio_ends num den).high)
ratio-is num den ceiling l h positive p q e = (
  p ∙ ap (λ (x : ℕ). pos x) (ratio-floor num den positive),
  q ∙ ap (λ (x : ℕ). pos (num * 1_000_000_000 / den * 1_000_000_000 + x)) e ∙ ap (λ (x : ℕ). pos x) (ratio-ceil num den positive) ∙ sym (ceil_div-positive (pos ratio_unit) num den (div_ceil (ratio_unit * num) den) (omega (arith, ints)) positive refl),
)

pub ratio-at_most_one : (num den : ℕ) → 0 < den → num ≤ den → (ratio_ends num den).high ≤ℤ pos ratio_unit
ratio-at_most_one num den positive h = below (ratio_ends num den).high (ceil_div-next (pos ratio_unit *ℤ pos num) den positive)
  where
    below : (z : ℤ) → (z *ℤ pos den) <ℤ ((pos ratio_unit *ℤ pos num) +ℤ pos den) → z ≤ℤ pos ratio_unit
    below (negsuc n) lt = omega (arith, ints)
    below (pos n) lt =
        let more : n * den < (ratio_unit + 1) * den = omega (arith, ints, mul-le-mul_right ratio_unit h) in
        let less : n < ratio_unit + 1 = lt_of_mul-lt-mul_right den more in
        omega (arith, ints)

-- ---- a figure of at least 0 times a share, which grows with the share
negative-below : (a : Fraction) (x : Fraction) (p q : Share) → (a ≼ zero_fraction) → x ≼ times a p → x ≼ times zero_fraction q
negative-below a x p q h k = ≼_trans x (times a p) (times zero_fraction q) k (record { cross = of a.num a.den h.cross })
  where
    of : (z : ℤ) (den : ℕ) → (z *ℤ pos 1) ≤ℤ (pos 0 *ℤ pos den) → ((z *ℤ pos p.num) *ℤ pos (1 * q.den)) ≤ℤ ((pos 0 *ℤ pos q.num) *ℤ pos (den * p.den))
    of (pos n) den h = let none : n ≡ 0 = omega (arith, ints) in rw none (omega (arith, ints))
    of (negsuc n) den h =
        let least : (negsuc n *ℤ pos p.num) ≤ℤ pos 0 = omega (arith, ints) in
        let less : ((negsuc n *ℤ pos p.num) *ℤ pos (1 * q.den)) ≤ℤ (pos 0 *ℤ pos (1 * q.den)) = times_le (negsuc n *ℤ pos p.num) (pos 0) (1 * q.den) least in
        omega (arith, ints, less)

pub AtMost-share : (f : Figure) (p q : Share) (x : Fraction) → AtMost zero_fraction f → IsAtMostShare p q → AtMost x (Times f p) → AtMost x (Times f q)
unfolding AtMost
AtMost-share f p q x least h k =
    elim (sign k.0) [
      | inl below ↦ (zero_fraction, least, negative-below k.0 x p q below k.2)
      | inr above ↦ (k.0, k.1, ≼_trans x (times k.0 p) (times k.0 q) k.2 (times-share_mono k.0 p q above h))
    ]

pub AtLeast-share : (f : Figure) (p q : Share) (x : Fraction) → AtMost zero_fraction f → IsAtMostShare p q → AtLeast x (Times f q) → AtLeast x (Times f p)
unfolding AtMost
AtLeast-share f p q x least h k =
    (k.0, k.1, ≼_trans (times k.0 p) (times k.0 q) x (times-share_mono k.0 p q (lower-le-upper f zero_fraction k.0 least k.1) h) k.2)

-- ---- ends of at least 0 times the ends of a share
product-below : (q a s : ℤ) (den old unit new num share : ℕ) → 0 < den → den * new ≡ old * unit → pos 0 ≤ℤ a → pos 0 ≤ℤ s
    → (q *ℤ pos den) ≤ℤ (a *ℤ s) → (s *ℤ pos share) ≤ℤ (pos num *ℤ pos unit)
    → (q *ℤ pos (old * share)) ≤ℤ ((a *ℤ pos num) *ℤ pos new)
product-below q (negsuc n) s den old unit new num share positive e least least' h k = absurd (omega (arith, ints))
product-below q (pos n) (negsuc t) den old unit new num share positive e least least' h k = absurd (omega (arith, ints))
product-below (negsuc m) (pos n) (pos t) den old unit new num share positive e least least' h k = omega (arith, ints)
product-below (pos m) (pos n) (pos t) den old unit new num share positive e least least' h k =
    let one : m * den ≤ n * t = omega (arith, ints) in
    let two : t * share ≤ num * unit = omega (arith, ints) in
    let a = mul-le-mul_right (old * share) one in
    let b = mul-le-mul_right (n * old) two in
    let c : m * (old * share) * den ≤ n * num * new * den = omega (arith, a, b, ap (λ (x : ℕ). n * num * x) e) in
    let d = le_of_mul-le-mul_right c positive in
    omega (arith, ints, d)

product-above : (q a s : ℤ) (den old unit new num share : ℕ) → 0 < den → den * new ≡ old * unit → pos 0 ≤ℤ a → pos 0 ≤ℤ s
    → (a *ℤ s) ≤ℤ (q *ℤ pos den) → (pos num *ℤ pos unit) ≤ℤ (s *ℤ pos share)
    → ((a *ℤ pos num) *ℤ pos new) ≤ℤ (q *ℤ pos (old * share))
product-above q (negsuc n) s den old unit new num share positive e least least' h k = absurd (omega (arith, ints))
product-above q (pos n) (negsuc t) den old unit new num share positive e least least' h k = absurd (omega (arith, ints))
product-above (negsuc m) (pos n) (pos t) den old unit new num share positive e least least' h k = absurd (below_zero m den positive (omega (arith, ints, h)))
  where
    below_zero : (m den : ℕ) → 0 < den → pos 0 ≤ℤ (negsuc m *ℤ pos den) → ⊥
    below_zero m den h k = omega (arith, ints)
product-above (pos m) (pos n) (pos t) den old unit new num share positive e least least' h k =
    let one : n * t ≤ m * den = omega (arith, ints) in
    let two : num * unit ≤ t * share = omega (arith, ints) in
    let a = mul-le-mul_right (old * share) one in
    let b = mul-le-mul_right (n * old) two in
    let c : n * num * new * den ≤ m * (old * share) * den = omega (arith, a, b, ap (λ (x : ℕ). n * num * x) e) in
    let d = le_of_mul-le-mul_right c positive in
    omega (arith, ints, d)

-- the high end of an enclosed figure is not negative where the low one is not
pub high-not_negative : (unit : ℕ) (low high : ℤ) (f : Figure) → pos 0 ≤ℤ low → Encloses unit low high f → pos 0 ≤ℤ high
high-not_negative unit low high f least h =
    times_cancel (pos 0) high unit h.positive (along low (Encloses-overlap unit unit low high low high f h h) least)
  where
    along : (z : ℤ) → (z *ℤ pos unit) ≤ℤ (high *ℤ pos unit) → pos 0 ≤ℤ z → (pos 0 *ℤ pos unit) ≤ℤ (high *ℤ pos unit)
    along (pos n) k l = omega (arith, ints)
    along (negsuc n) k l = absurd (omega (arith, ints))

pub Encloses-product : (old unit new den : ℕ) (a shares : Ends) (f : Figure) (share : Share) → 0 < den → 0 < new → den * new ≡ old * unit
    → pos 0 ≤ℤ a.low → pos 0 ≤ℤ shares.low → Encloses old a.low a.high f → Encloses unit shares.low shares.high (Frac (fraction_of share))
    → Encloses new (product_ends a shares den).low (product_ends a shares den).high (Times f share)
unfolding AtMost
Encloses-product old unit new den a shares f share positive finer e least least' h k = record {
  positive = finer;
  at_most = (
    over a.low old h.positive,
    h.at_most,
    record {
      cross = product-below _ a.low shares.low den old unit new share.num share.den positive e least least'
          (floor_div-times (a.low *ℤ shares.low) den positive) k.at_most.cross;
    },
  );
  at_least = (
    over a.high old h.positive,
    h.at_least,
    record {
      cross = product-above _ a.high shares.high den old unit new share.num share.den positive e
          (high-not_negative old a.low a.high f least h) (high-not_negative unit shares.low shares.high (Frac (fraction_of share)) least' k)
          (ceil_div-times (a.high *ℤ shares.high) den positive) k.at_least.cross;
    },
  );
}
