-- Amounts in grains, and ends of which it is known how large they are.
use Rattle.std.proofs.Common.{◌≡◌, ℕ, ◌*◌, ◌<◌, ◌≤◌, ℤ, pos, negsuc, ◌≤ℤ◌, arith, lit<}
use Rattle.std.proofs.lemmas.Int.{ints}
use Rattle.std.proofs.lemmas.Nat.{mul-le}
use Rattle.scr_num.specs.Fraction.{whole, zero_fraction}
use Rattle.scr_num.specs.Figure.{Figure, Frac}
use Rattle.scr_num.specs.Rounding.{or_zero}
use Rattle.scr_num.specs.Enclosure.{Encloses}
use Rattle.scr_num.specs.Cents.{cents_figure}
use Rattle.scr_num.proofs.Quotients.{times_cancel}
use Rattle.scr_num.proofs.Enclosing.{Encloses-exact, Encloses-overlap}

pub Encloses-cents : (cents : ℕ) → Encloses 1000 (pos (1000 * cents)) (pos (1000 * cents)) (cents_figure cents)
Encloses-cents cents = Encloses-exact 1000 (pos (1000 * cents)) (whole (pos cents)) (record { positive = lit< tt; equal = omega (arith, ints) })

pub Encloses-nothing : Encloses 1000 (pos 0) (pos 0) (Frac zero_fraction)
Encloses-nothing = Encloses-exact 1000 (pos 0) zero_fraction (record { positive = lit< tt; equal = omega (arith, ints) })

pub cents-not_negative : (cents : ℕ) → pos 0 ≤ℤ pos (1000 * cents)
cents-not_negative cents = omega (arith, ints)

-- ---- ends that enclose a figure are in order
pub enclosing-in_order : (unit : ℕ) (low high : ℤ) (f : Figure) → Encloses unit low high f → low ≤ℤ high
enclosing-in_order unit low high f h = times_cancel low high unit h.positive (Encloses-overlap unit unit low high low high f h h)

-- ---- numbers of at least 0
pub or_zero-at_most : (z : ℤ) (n : ℕ) → z ≤ℤ pos n → or_zero z ≤ n
or_zero-at_most (pos m) n h = omega (arith, ints)
or_zero-at_most (negsuc m) n h = omega arith

pub or_zero-is : (z : ℤ) → pos 0 ≤ℤ z → pos (or_zero z) ≡ z
or_zero-is (pos m) h = omega (arith, ints)
or_zero-is (negsuc m) h = absurd (omega (arith, ints))

-- a sum that is small enough for a root over a table
pub square-small : (den s most : ℕ) → s ≤ most → den * (most * most) < 170141183460469231731687303715884105728 → den * (s * s) < 170141183460469231731687303715884105728
square-small den s most h k = omega (arith, k, mul-le den (s * s) den (most * most) (omega arith) (mul-le s s most most h h))
