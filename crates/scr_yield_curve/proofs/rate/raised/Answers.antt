use Rattle.std.proofs.Common.{◌≡◌, ◌*◌, ◌≤◌, ◌+ℤ◌, ◌*ℤ◌, pos, unsigned_abs, FitsSigned, w32, w64, to_z-of_z, arith, rules, refl}
use Rattle.std.specs.Int.{int_max}
use Rattle.std.proofs.lemmas.Int.{ints, clamps, unsigned_abs-mul, fits_signed_from_abs}
use Rattle.std.proofs.lemmas.Nat.{mul-le}
use Rattle.scr_yield_curve.proofs.rate.raised.Goals as goal

pub returns : goal.returns
returns c =
    let base_fits : FitsSigned w32 c.args.base = search rules in
    let base : c.from-base.result ≡ c.args.base = simp to_z-of_z at c.from-base.ensures in
    let share : c.from.result ≡ pos c.args.share = c.from.ensures in
    let wide_base : FitsSigned w64 c.from-base.result = search rules in
    let wide_share : FitsSigned w64 c.from.result = search rules in
    let wide_max : FitsSigned w64 c.max.result = search rules in
    let small : unsigned_abs (c.args.base *ℤ pos c.args.share) ≤ 2147483648 * 65536 =
    rw unsigned_abs-mul (mul-le (unsigned_abs c.args.base) (unsigned_abs (pos c.args.share)) 2147483648 65536 (omega (arith, ints)) (omega (arith, ints))) in
    let product : FitsSigned w64 (c.from-base.result *ℤ c.from.result) =
    rw (base, share) (fits_signed_from_abs w64 (c.args.base *ℤ pos c.args.share) (omega (arith, small))) in
    let greater : c.max.result ≡ int_max (c.args.base *ℤ pos c.args.share) (pos 70000000) =
    rw (base, share) at (simp to_z-of_z at c.max.ensures.value) in
    let part : FitsSigned w64 (c.from-base.result *ℤ pos 7000) = fits_signed_from_abs w64 _ (omega (arith, ints, base)) in
    let sum : FitsSigned w64 (c.from-base.result *ℤ pos 7000 +ℤ c.max.result) =
    fits_signed_from_abs w64 _ (omega (arith, ints, clamps, base, greater, small)) in
    simp to_z-of_z (rw (base, greater) refl)
