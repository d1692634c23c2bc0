-- The order of fractions, and what the operations do to it.
use Rattle.std.proofs.Common.{◌+ℤ◌, ◌-ℤ◌, ◌≡◌, ℕ, suc, ◌+◌, ◌*◌, ◌<◌, ◌≤◌, ℤ, pos, negsuc, ◌*ℤ◌, ◌≤ℤ◌, arith, ap, mul-le-mul, mul-le-mul_right, le_of_mul-le-mul_right, refl}
use Rattle.std.proofs.lemmas.Int.{ints}
use Rattle.std.specs.Int.Signed.{≤ℤ_refl}
use borrow.Author.Differences.{up, down, at_most_in}
use Rattle.scr_num.specs.Fraction.{Fraction, Share, ◌≼◌, over, whole, zero_fraction, plus, minus, product, square, times}
use Rattle.scr_num.proofs.Roots.{root_below}
use Rattle.scr_num.proofs.Quotients.{times_le}

-- ---- cross products on natural numbers
-- p is at most q, with each numerator as a difference: pu - pd is that of p, and qu - qd that of q
Crossed : (pu pd pden qu qd qden : ℕ) → Type 0
Crossed pu pd pden qu qd qden = pu * qden + qd * pden ≤ qu * pden + pd * qden

pub times_split : (z : ℤ) (u d n : ℕ) → up z + d ≡ u + down z → up (z *ℤ pos n) + d * n ≡ u * n + down (z *ℤ pos n)
times_split z u d n h = let e : (up z + d) * n ≡ (u + down z) * n = ap (λ (x : ℕ). x * n) h in omega (arith, ints)

crossed_in : (p q : Fraction) (pu pd qu qd : ℕ) → up p.num + pd ≡ pu + down p.num → up q.num + qd ≡ qu + down q.num
    → Crossed pu pd p.den qu qd q.den → p ≼ q
unfolding Crossed
crossed_in p q pu pd qu qd e f h =
    record { cross = at_most_in _ _ (omega (arith, times_split p.num pu pd q.den e, times_split q.num qu qd p.den f)) }

pub ≼-by : (p q : Fraction) (pu pd qu qd : ℕ) → up p.num + pd ≡ pu + down p.num → up q.num + qd ≡ qu + down q.num
    → pu * q.den + qd * p.den ≤ qu * p.den + pd * q.den → p ≼ q
unfolding Crossed
≼-by p q pu pd qu qd e f h = crossed_in p q pu pd qu qd e f h

crossed_out : (p q : Fraction) → p ≼ q → Crossed (up p.num) (down p.num) p.den (up q.num) (down q.num) q.den
unfolding Crossed
crossed_out p q h = let k = h.cross in omega (arith, ints)

crossed_from : (p q : Fraction) (pu pd qu qd : ℕ) → p ≼ q → up p.num + pd ≡ pu + down p.num
    → up q.num + qd ≡ qu + down q.num → Crossed pu pd p.den qu qd q.den
unfolding Crossed
crossed_from p q pu pd qu qd h e f =
    let k = h.cross in omega (arith, ints, times_split p.num pu pd q.den e, times_split q.num qu qd p.den f)

-- ---- the order
pub ≼_refl : (p q : Fraction) → p.num ≡ q.num → p.den ≡ q.den → p ≼ q
≼_refl p q e f = record { cross = rw (e, f) (≤ℤ_refl (q.num *ℤ pos q.den)) }

pub ≼_trans : (p q r : Fraction) → p ≼ q → q ≼ r → p ≼ r
unfolding Crossed
≼_trans p q r h k =
    let a = mul-le-mul_right r.den (crossed_out p q h) in
    let b = mul-le-mul_right p.den (crossed_out q r k) in
    let c : (up p.num * r.den + down r.num * p.den) * q.den ≤ (up r.num * p.den + down p.num * r.den) * q.den =
    omega (arith, a, b) in
    crossed_in p r _ _ _ _ refl refl (le_of_mul-le-mul_right c q.positive)

pub plus_mono : (p p' q q' : Fraction) → p ≼ p' → q ≼ q' → plus p q ≼ plus p' q'
unfolding Crossed
plus_mono p p' q q' h k =
    let a = mul-le-mul_right (q.den * q'.den) (crossed_out p p' h) in
    let b = mul-le-mul_right (p.den * p'.den) (crossed_out q q' k) in
    crossed_in (plus p q) (plus p' q')
    (up p.num * q.den + up q.num * p.den) (down p.num * q.den + down q.num * p.den)
    (up p'.num * q'.den + up q'.num * p'.den) (down p'.num * q'.den + down q'.num * p'.den)
    (omega (arith, ints)) (omega (arith, ints)) (omega (arith, a, b))

pub minus_mono : (p p' q q' : Fraction) → p ≼ p' → q' ≼ q → minus p q ≼ minus p' q'
unfolding Crossed
minus_mono p p' q q' h k =
    let a = mul-le-mul_right (q.den * q'.den) (crossed_out p p' h) in
    let b = mul-le-mul_right (p.den * p'.den) (crossed_out q' q k) in
    crossed_in (minus p q) (minus p' q')
    (up p.num * q.den + down q.num * p.den) (down p.num * q.den + up q.num * p.den)
    (up p'.num * q'.den + down q'.num * p'.den) (down p'.num * q'.den + up q'.num * p'.den)
    (omega (arith, ints)) (omega (arith, ints)) (omega (arith, a, b))

pub times_mono : (p p' : Fraction) (share : Share) → p ≼ p' → times p share ≼ times p' share
unfolding Crossed
times_mono p p' share h =
    let a = mul-le-mul_right (share.num * share.den) (crossed_out p p' h) in
    crossed_in (times p share) (times p' share)
    (up p.num * share.num) (down p.num * share.num) (up p'.num * share.num) (down p'.num * share.num)
    (omega (arith, ints)) (omega (arith, ints)) (omega (arith, a))

-- ---- products of fractions of at least 0
product_mono_ℤ : (a a' b b' : ℤ) (ad ad' bd bd' : ℕ) → pos 0 ≤ℤ a → pos 0 ≤ℤ a' → pos 0 ≤ℤ b → pos 0 ≤ℤ b'
    → (a *ℤ pos ad') ≤ℤ (a' *ℤ pos ad) → (b *ℤ pos bd') ≤ℤ (b' *ℤ pos bd)
    → ((a *ℤ b) *ℤ pos (ad' * bd')) ≤ℤ ((a' *ℤ b') *ℤ pos (ad * bd))
product_mono_ℤ (negsuc a) a' b b' ad ad' bd bd' ha ha' hb hb' h k = absurd (omega (arith, ints))
product_mono_ℤ (pos a) (negsuc a') b b' ad ad' bd bd' ha ha' hb hb' h k = absurd (omega (arith, ints))
product_mono_ℤ (pos a) (pos a') (negsuc b) b' ad ad' bd bd' ha ha' hb hb' h k = absurd (omega (arith, ints))
product_mono_ℤ (pos a) (pos a') (pos b) (negsuc b') ad ad' bd bd' ha ha' hb hb' h k = absurd (omega (arith, ints))
product_mono_ℤ (pos a) (pos a') (pos b) (pos b') ad ad' bd bd' ha ha' hb hb' h k =
    let x : a * ad' ≤ a' * ad = omega (arith, ints) in
    let y : b * bd' ≤ b' * bd = omega (arith, ints) in
    omega (arith, ints, mul-le-mul x y)

pub num_nonneg : (p : Fraction) → zero_fraction ≼ p → pos 0 ≤ℤ p.num
num_nonneg p h = let k = h.cross in omega (arith, ints)

pub product_mono : (p p' q q' : Fraction) → zero_fraction ≼ p → p ≼ p' → zero_fraction ≼ q → q ≼ q'
    → product p q ≼ product p' q'
product_mono p p' q q' hp h hq k = record {
  cross = product_mono_ℤ p.num p'.num q.num q'.num p.den p'.den q.den q'.den (num_nonneg p hp)
      (num_nonneg p' (≼_trans zero_fraction p p' hp h)) (num_nonneg q hq)
      (num_nonneg q' (≼_trans zero_fraction q q' hq k)) h.cross k.cross;
}

root_order_ℤ : (a b : ℤ) (ad bd : ℕ) → pos 0 ≤ℤ b → ((a *ℤ a) *ℤ pos (bd * bd)) ≤ℤ ((b *ℤ b) *ℤ pos (ad * ad))
    → (a *ℤ pos bd) ≤ℤ (b *ℤ pos ad)
root_order_ℤ a (negsuc b) ad bd hb h = absurd (omega (arith, ints))
root_order_ℤ (negsuc a) (pos b) ad bd hb h = omega (arith, ints)
root_order_ℤ (pos a) (pos b) ad bd hb h =
    let x : a * bd ≤ b * ad = root_below (a * bd) (b * ad) (omega (arith, ints)) in omega (arith, ints)

-- of two squares in order the roots are in order, the greater of which is not negative
pub square_reflects : (q r : Fraction) → zero_fraction ≼ r → square q ≼ square r → q ≼ r
square_reflects q r hr h = record { cross = root_order_ℤ q.num r.num q.den r.den (num_nonneg r hr) h.cross }

-- a product with a whole number of at least 0, and with one below 0
pub multiple_mono : (n : ℕ) (p q : Fraction) → p ≼ q → product (whole (pos n)) p ≼ product (whole (pos n)) q
unfolding Crossed
multiple_mono n p q h =
    let a = mul-le-mul_right n (crossed_out p q h) in
    crossed_in (product (whole (pos n)) p) (product (whole (pos n)) q)
    (n * up p.num) (n * down p.num) (n * up q.num) (n * down q.num)
    (omega (arith, ints)) (omega (arith, ints)) (omega (arith, a))

pub negative_multiple_mono : (n : ℕ) (p q : Fraction) → p ≼ q
    → product (whole (negsuc n)) q ≼ product (whole (negsuc n)) p
unfolding Crossed
negative_multiple_mono n p q h =
    let a = mul-le-mul_right (suc n) (crossed_out p q h) in
    crossed_in (product (whole (negsuc n)) q) (product (whole (negsuc n)) p)
    (suc n * down q.num) (suc n * up q.num) (suc n * down p.num) (suc n * up p.num)
    (omega (arith, ints)) (omega (arith, ints)) (omega (arith, a))

pub multiple_cancel : (n : ℕ) (p q : Fraction) → 0 < n → product (whole (pos n)) p ≼ product (whole (pos n)) q → p ≼ q
unfolding Crossed
multiple_cancel n p q hn h =
    let a = crossed_from (product (whole (pos n)) p) (product (whole (pos n)) q)
    (n * up p.num) (n * down p.num) (n * up q.num) (n * down q.num) h (omega (arith, ints)) (omega (arith, ints)) in
    let b : (up p.num * q.den + down q.num * p.den) * n ≤ (up q.num * p.den + down p.num * q.den) * n =
    omega (arith, a) in
    crossed_in p q _ _ _ _ refl refl (le_of_mul-le-mul_right b hn)

-- ---- fractions with one denominator
pub over_mono : (z w : ℤ) (den : ℕ) (positive positive' : 0 < den) → z ≤ℤ w → over z den positive ≼ over w den positive'
over_mono z w den positive positive' h = record { cross = times_le z w den h }

pub over-plus_le : (z w : ℤ) (den : ℕ) (a b c : 0 < den) → over (z +ℤ w) den a ≼ plus (over z den b) (over w den c)
unfolding Crossed
over-plus_le z w den a b c =
    crossed_in (over (z +ℤ w) den a) (plus (over z den b) (over w den c))
    (up z + up w) (down z + down w) (up z * den + up w * den) (down z * den + down w * den)
    (omega (arith, ints)) (omega (arith, ints)) (omega arith)

pub over-plus_ge : (z w : ℤ) (den : ℕ) (a b c : 0 < den) → plus (over z den b) (over w den c) ≼ over (z +ℤ w) den a
unfolding Crossed
over-plus_ge z w den a b c =
    crossed_in (plus (over z den b) (over w den c)) (over (z +ℤ w) den a)
    (up z * den + up w * den) (down z * den + down w * den) (up z + up w) (down z + down w)
    (omega (arith, ints)) (omega (arith, ints)) (omega arith)

pub over-minus_le : (z w : ℤ) (den : ℕ) (a b c : 0 < den) → over (z -ℤ w) den a ≼ minus (over z den b) (over w den c)
unfolding Crossed
over-minus_le z w den a b c =
    crossed_in (over (z -ℤ w) den a) (minus (over z den b) (over w den c))
    (up z + down w) (down z + up w) (up z * den + down w * den) (down z * den + up w * den)
    (omega (arith, ints)) (omega (arith, ints)) (omega arith)

pub over-minus_ge : (z w : ℤ) (den : ℕ) (a b c : 0 < den) → minus (over z den b) (over w den c) ≼ over (z -ℤ w) den a
unfolding Crossed
over-minus_ge z w den a b c =
    crossed_in (minus (over z den b) (over w den c)) (over (z -ℤ w) den a)
    (up z * den + down w * den) (down z * den + up w * den) (up z + down w) (down z + up w)
    (omega (arith, ints)) (omega (arith, ints)) (omega arith)
