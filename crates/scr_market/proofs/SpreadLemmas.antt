-- Spread risk.
use Rattle.std.proofs.Common.{◌≡◌, ℕ, ◌+◌, ◌-◌, ◌*◌, ◌<◌, ◌≤◌, ℤ, pos, negsuc, ◌*ℤ◌, Bool, true, false, cond, min}
use Rattle.std.proofs.Common.{int_lt, refl, ap, arith, lit<, mul-le-mul_right}
use Rattle.std.proofs.lemmas.Int.{ints}
use Rattle.scr_num.specs.Fraction.{Fraction, is_less, percent, millionths, plus, product}
use Rattle.scr_num.specs.Figure.{Figure, Frac}
use Rattle.scr_num.specs.Rounding.{Ends}
use Rattle.scr_num.specs.Amounts.{IsAmount}
use Rattle.scr_num.specs.Enclosure.{Encloses, Measures}
use Rattle.scr_num.proofs.Enclosing.{Encloses-exact, Encloses-divided}
use Rattle.scr_num.proofs.AmountBounds.{amount-exact, amount-scale}
use Rattle.scr_factors.specs.Values.{FactorValues, spread_at}
use Rattle.scr_market.specs.Equity.{part_of}
use Rattle.scr_market.specs.Spread.{thousandths, lesser, counted_duration, band_of, start_of, stress_exact, bond_loss_exact}
use Rattle.scr_market.specs.SpreadEnds.{stress_units, bond_loss_ends, spread_ends}

-- a + b · x for a and b in millionths and x in thousandths, and no more than 100 percent
module _ (a b x : ℕ) where
  uncut : Fraction
  uncut = plus (millionths (pos a)) (product (millionths (pos b)) (thousandths x))

  worked : ℕ
  worked = 1000 * a + b * x

  below : int_lt (uncut.num *ℤ pos 100) (pos 100 *ℤ pos uncut.den) ≡ true → worked < 1000000000
  unfolding uncut worked
  below e = grind (arith, ints)

  above : int_lt (uncut.num *ℤ pos 100) (pos 100 *ℤ pos uncut.den) ≡ false → 1000000000 ≤ worked
  unfolding uncut worked
  above e = grind (arith, ints)

  measures : (t : Bool) → is_less uncut (percent 100) ≡ t
      → Measures 1000000000 (pos (min worked 1000000000)) (cond t uncut (percent 100))
  unfolding uncut worked
  measures true e =
      let small = below e in
      let least : min (1000 * a + b * x) 1000000000 ≡ 1000 * a + b * x = omega arith in
      record { positive = lit< tt; equal = rw least (omega (arith, ints)) }
  measures false e =
      let large = above e in
      let least : min (1000 * a + b * x) 1000000000 ≡ 1000000000 = omega arith in
      record { positive = lit< tt; equal = rw least refl }

  pub share-measured : Measures 1000000000 (pos (min (1000 * a + b * x) 1000000000))
      (lesser (percent 100) (plus (millionths (pos a)) (product (millionths (pos b)) (thousandths x))))
  unfolding uncut worked
  share-measured = measures (is_less uncut (percent 100)) refl

pub stress-measured : (factors : FactorValues) (row duration : ℕ)
    → Measures 1000000000 (pos (stress_units factors row duration)) (stress_exact factors row duration)
stress-measured factors row duration =
    let counted = counted_duration duration in
    let band = band_of counted in
    let factor = spread_at factors row band in
    share-measured factor.0 factor.1 (counted - start_of band)

bond_numbers : (cents s : ℕ) (p : Fraction) → pos s *ℤ pos p.den ≡ p.num *ℤ pos 1000000000
    → pos (cents * s) *ℤ pos (1 * p.den) ≡ (pos cents *ℤ p.num) *ℤ pos 1000000000
bond_numbers cents s p e = numbers p.num p.den e
  where
    numbers : (z : ℤ) (d : ℕ) → pos s *ℤ pos d ≡ z *ℤ pos 1000000000
        → pos (cents * s) *ℤ pos (1 * d) ≡ (pos cents *ℤ z) *ℤ pos 1000000000
    numbers (pos n) d h =
        let product : s * d ≡ n * 1000000000 = omega (arith, ints) in
        let more : cents * (s * d) ≡ cents * (n * 1000000000) = ap (λ (k : ℕ). cents * k) product in
        omega (arith, ints, more)
    numbers (negsuc n) d h = absurd (omega (arith, ints))

pub bond-encloses : (factors : FactorValues) (cents row duration : ℕ) → let e = bond_loss_ends factors cents row duration in
    Encloses 1000000000 e.low e.high (Frac (bond_loss_exact factors cents row duration))
bond-encloses factors cents row duration =
    let s = stress_units factors row duration in
    let measured = stress-measured factors row duration in
    Encloses-exact 1000000000 (pos (cents * s)) (part_of cents (stress_exact factors row duration))
    (record { positive = lit< tt; equal = bond_numbers cents s (stress_exact factors row duration) measured.equal })

pub stress-size : (factors : FactorValues) (row duration : ℕ) → stress_units factors row duration ≤ 1000000000
stress-size factors row duration = omega arith

pub bond-size : (factors : FactorValues) (cents row duration : ℕ)
    → IsAmount (cents * 1000000000) (bond_loss_ends factors cents row duration)
bond-size factors cents row duration =
    amount-exact (cents * 1000000000) (cents * stress_units factors row duration)
    (omega (arith, mul-le-mul_right cents (stress-size factors row duration)))

pub spread-encloses : (sum : Ends) (f : Figure) → Encloses 1000000000 sum.low sum.high f → let e = spread_ends sum in
    Encloses 1000 e.low e.high f
spread-encloses sum f h = Encloses-divided 1000 1000000 sum f (lit< tt) h

pub spread-size : (most : ℕ) (sum : Ends) → IsAmount (most * 1000000) sum → IsAmount most (spread_ends sum)
spread-size most sum h = amount-scale (most * 1000000) most 1 1000000 sum (lit< tt) (omega arith) h
