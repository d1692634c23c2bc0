-- The share of so many cents of a unit, of which only the low end is divided.
use Rattle.std.proofs.Common.{◌≡◌, ℕ, ◌+◌, ◌*◌, ◌/◌, ◌<◌, ◌≤◌, ℤ, pos, ◌+ℤ◌, ◌*ℤ◌, unsigned_abs, arith, lit<}
use Rattle.std.proofs.lemmas.Int.{ints, unsigned_abs-mul}
use Rattle.std.proofs.lemmas.Nat.{mul-le}
use Rattle.scr_num.specs.Rounding.{floor_div, ceil_div}
use Rattle.scr_flow.proofs.OneValue.{sum-times}
use Rattle.scr_num.proofs.Quotients.{floor_div-times, floor_div-next, ceil_div-times, ceil_div-next}

pub floor-is : (z q : ℤ) (r : ℕ) → z ≡ q *ℤ pos 1_000_000 +ℤ pos r → r < 1_000_000 → q ≡ floor_div z 1_000_000
floor-is z q r is less =
    let below = floor_div-times z 1_000_000 (lit< tt) in
    let next = floor_div-next z 1_000_000 (lit< tt) in
    omega (arith, ints, below, next, is, less)

pub ceil-is : (low q : ℤ) (width cents r m : ℕ) → low *ℤ pos cents ≡ q *ℤ pos 1_000_000 +ℤ pos r → m ≡ (r + width * cents + 999_999) / 1_000_000
    → q +ℤ pos m ≡ ceil_div ((low +ℤ pos width) *ℤ pos cents) 1_000_000
ceil-is low q width cents r m is more =
    let all : (low +ℤ pos width) *ℤ pos cents ≡ low *ℤ pos cents +ℤ pos (width * cents) = sum-times low (pos width) (pos cents) in
    let above = ceil_div-times ((low +ℤ pos width) *ℤ pos cents) 1_000_000 (lit< tt) in
    let next = ceil_div-next ((low +ℤ pos width) *ℤ pos cents) 1_000_000 (lit< tt) in
    omega (arith, ints, more, all, is, above, next)

-- a product with few cents, and the same lifted
pub small-product : (unit : ℤ) (cents : ℕ) → unsigned_abs unit ≤ 13_700_000_000_000_000_000_000_000 → cents ≤ 4_294_967_295
    → unsigned_abs (unit *ℤ pos cents) ≤ 58_841_051_941_500_000_000_000_000_000_000_000
small-product unit cents u c =
    let times : unsigned_abs unit * cents ≤ 13_700_000_000_000_000_000_000_000 * 4_294_967_295 = mul-le (unsigned_abs unit) cents 13_700_000_000_000_000_000_000_000 4_294_967_295 u c in
    omega (arith, unsigned_abs-mul unit (pos cents), times)

pub lifted-is : (z : ℤ) → unsigned_abs z ≤ 58_841_051_941_500_000_000_000_000_000_000_000 → pos (unsigned_abs (z +ℤ pos 100_000_000_000_000_000_000_000_000_000_000_000)) ≡ z +ℤ pos 100_000_000_000_000_000_000_000_000_000_000_000
lifted-is z h = omega (arith, ints, h)

pub lifted-most : (z : ℤ) → unsigned_abs z ≤ 58_841_051_941_500_000_000_000_000_000_000_000 → unsigned_abs (z +ℤ pos 100_000_000_000_000_000_000_000_000_000_000_000) ≤ 200_000_000_000_000_000_000_000_000_000_000_000
lifted-most z h = omega (arith, ints, h)
