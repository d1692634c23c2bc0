-- Fractions of one value have one discount.
use Rattle.std.proofs.Common.{◌≡◌, ℕ, zero, suc, ◌+◌, ◌*◌, ◌<◌, refl, ap, sym, ℤ, pos, negsuc, ◌+ℤ◌, ◌*ℤ◌, arith}
use Rattle.std.proofs.lemmas.Int.{ints}
use Rattle.std.specs.Int.Signed.{≤ℤ_refl}
use borrow.Author.Differences.{up, down}
use Rattle.scr_num.specs.Fraction.{Fraction, ◌≼◌, product, reciprocal_of}
use Rattle.scr_num.specs.Enclosure.{Measures}
use Rattle.scr_num.proofs.Fractions.{times_split}
use Rattle.scr_yield_curve.specs.Discount.{growth, power, discount_exact}
use Rattle.scr_yield_curve.specs.Parts.{parts}

-- two fractions of one value
pub record Same (p q : Fraction) : Type 0 where
  pub cross : p.num *ℤ pos q.den ≡ q.num *ℤ pos p.den

pub Same-below : (p q : Fraction) → Same p q → p ≼ q
Same-below p q h = record { cross = rw h.cross (≤ℤ_refl (q.num *ℤ pos p.den)) }

pub Same-turned : (p q : Fraction) → Same p q → Same q p
Same-turned p q h = record { cross = sym h.cross }

measured_once : (n a c : ℤ) (b d : ℕ) → n *ℤ pos b ≡ a *ℤ pos parts → n *ℤ pos d ≡ c *ℤ pos parts → a *ℤ pos d ≡ c *ℤ pos b
measured_once n a c b d e f =
    let first : (up n * b + down a * parts) * d ≡ (up a * parts + down n * b) * d = ap (λ (x : ℕ). x * d) (omega (arith, ints, e)) in
    let second : (up n * d + down c * parts) * b ≡ (up c * parts + down n * d) * b = ap (λ (x : ℕ). x * b) (omega (arith, ints, f)) in
    omega (arith, ints, first, second)

pub Same-rates : (n : ℤ) (p q : Fraction) → Measures parts n p → Measures parts n q → Same p q
Same-rates n p q h k = record { cross = measured_once n p.num q.num p.den q.den h.equal k.equal }

growth_cross : (a c : ℤ) (b d : ℕ) → a *ℤ pos d ≡ c *ℤ pos b
    → (pos 1 *ℤ pos b +ℤ a *ℤ pos 1) *ℤ pos (1 * d) ≡ (pos 1 *ℤ pos d +ℤ c *ℤ pos 1) *ℤ pos (1 * b)
growth_cross a c b d e =
    let left = times_split (pos 1 *ℤ pos b +ℤ a *ℤ pos 1) (b + up a) (down a) (1 * d) (omega (arith, ints)) in
    let right = times_split (pos 1 *ℤ pos d +ℤ c *ℤ pos 1) (d + up c) (down c) (1 * b) (omega (arith, ints)) in
    omega (arith, ints, left, right, e)

Same-growth : (p q : Fraction) → Same p q → Same (growth p) (growth q)
Same-growth p q h = record { cross = growth_cross p.num q.num p.den q.den h.cross }

product_cross : (a c e g : ℤ) (b d f h : ℕ) → a *ℤ pos d ≡ c *ℤ pos b → e *ℤ pos h ≡ g *ℤ pos f
    → (a *ℤ e) *ℤ pos (d * h) ≡ (c *ℤ g) *ℤ pos (b * f)
product_cross a c e g b d f h one_ two =
    let x : up a * d + down c * b ≡ up c * b + down a * d = omega (arith, ints, one_) in
    let y : up e * h + down g * f ≡ up g * f + down e * h = omega (arith, ints, two) in
    let left = times_split (a *ℤ e) (up a * up e + down a * down e) (up a * down e + down a * up e) (d * h) (omega (arith, ints)) in
    let right = times_split (c *ℤ g) (up c * up g + down c * down g) (up c * down g + down c * up g) (b * f) (omega (arith, ints)) in
    let xu = ap (λ (z : ℕ). z * (up e * h)) x in
    let xd = ap (λ (z : ℕ). z * (down e * h)) x in
    let yu = ap (λ (z : ℕ). z * (up c * b)) y in
    let yd = ap (λ (z : ℕ). z * (down c * b)) y in
    omega (arith, ints, left, right, xu, xd, yu, yd)

Same-product : (p q r s : Fraction) → Same p q → Same r s → Same (product p r) (product q s)
Same-product p q r s h k = record { cross = product_cross p.num q.num r.num s.num p.den q.den r.den s.den h.cross k.cross }

Same-power : (p q : Fraction) (times : ℕ) → Same p q → Same (power p times) (power q times)
unfolding power
Same-power p q zero h = record { cross = refl }
Same-power p q (suc times) h = Same-product p q (power p times) (power q times) h (Same-power p q times h)

Same-reciprocal : (a c : ℤ) (b d : ℕ) → 0 < b → 0 < d → a *ℤ pos d ≡ c *ℤ pos b → Same (reciprocal_of a b) (reciprocal_of c d)
Same-reciprocal (pos zero) (pos zero) b d hb hd e = record { cross = refl }
Same-reciprocal (pos zero) (pos (suc c)) b d hb hd e = absurd (omega (arith, ints, e))
Same-reciprocal (pos zero) (negsuc c) b d hb hd e = absurd (omega (arith, ints, e))
Same-reciprocal (pos (suc a)) (pos zero) b d hb hd e = absurd (omega (arith, ints, e))
Same-reciprocal (pos (suc a)) (pos (suc c)) b d hb hd e = record { cross = omega (arith, ints, e) }
Same-reciprocal (pos (suc a)) (negsuc c) b d hb hd e = absurd (omega (arith, ints, e))
Same-reciprocal (negsuc a) (pos zero) b d hb hd e = absurd (omega (arith, ints, e))
Same-reciprocal (negsuc a) (pos (suc c)) b d hb hd e = absurd (omega (arith, ints, e))
Same-reciprocal (negsuc a) (negsuc c) b d hb hd e = record { cross = refl }

pub Same-discount : (p q : Fraction) (years : ℕ) → Same p q → Same (discount_exact p years) (discount_exact q years)
unfolding discount_exact
Same-discount p q years h =
    let powers = Same-power (growth p) (growth q) years (Same-growth p q h) in
    Same-reciprocal (power (growth p) years).num (power (growth q) years).num (power (growth p) years).den (power (growth q) years).den
    (power (growth p) years).positive (power (growth q) years).positive powers.cross
