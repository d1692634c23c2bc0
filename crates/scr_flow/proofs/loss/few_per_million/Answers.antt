use Rattle.std.proofs.Common.{◌≡◌, ◌<◌, pos, ◌+◌, ◌*◌, ◌/◌, ◌≤◌, refl, ◌+ℤ◌, ◌*ℤ◌, FitsSigned, to_z-of_z, arith, rules}
use Rattle.std.specs.Int.{w128}
use Rattle.std.proofs.lemmas.Int.{ints, fits_signed_from_abs}
use Rattle.std.proofs.lemmas.Nat.{mul-le}
use Rattle.scr_num.specs.Rounding.{floor_div, ceil_div}
use Rattle.scr_num.proofs.AddedEnds.{same_ends}
use Rattle.scr_flow.proofs.Shares.{floor-is, ceil-is}
use Rattle.scr_flow.proofs.loss.few_per_million.Goals as goal

pub returns : goal.returns
returns c =
    let low : FitsSigned w128 c.args.low = search rules in
    let floor : FitsSigned w128 c.shared-floor.result.0 = fits_signed_from_abs w128 _ (omega (arith, c.shared-floor.ensures.size)) in
    let wide : FitsSigned w128 c.from.result = search rules in
    let more = (c.shared-floor.result.1 + c.args.width * c.args.cents + 999_999) / 1_000_000 in
    let small : c.args.width * c.args.cents ≤ 4_294_967_295 * 4_294_967_295 = mul-le c.args.width c.args.cents 4_294_967_295 4_294_967_295 c.requires.narrow c.requires.few in
    let few : (c.shared-floor.result.1 + c.args.width * c.args.cents + 999_999) / 1_000_000 < 18_446_744_073_709_551_616 = omega (arith, small, c.shared-floor.ensures.less) in
    let sum : FitsSigned w128 (c.shared-floor.result.0 +ℤ c.from.result) = rw c.from.ensures (fits_signed_from_abs w128 _ (omega (arith, ints, c.shared-floor.ensures.size, few))) in
    let share = simp to_z-of_z at c.shared-floor.ensures.share in
    let low_end : c.shared-floor.result.0 ≡ floor_div (c.args.low *ℤ pos c.args.cents) 1_000_000 =
    floor-is (c.args.low *ℤ pos c.args.cents) c.shared-floor.result.0 c.shared-floor.result.1 share c.shared-floor.ensures.less in
    let high_end : c.shared-floor.result.0 +ℤ c.from.result ≡ ceil_div ((c.args.low +ℤ pos c.args.width) *ℤ pos c.args.cents) 1_000_000 =
    rw c.from.ensures (ceil-is c.args.low c.shared-floor.result.0 c.args.width c.args.cents c.shared-floor.result.1 more share refl) in
    simp to_z-of_z (same_ends c.shared-floor.result.0 (c.shared-floor.result.0 +ℤ c.from.result) _ _ low_end high_end)
