use Rattle.std.proofs.Common.{◌≡◌, ◌*ℤ◌, FitsSigned, w64, to_z-of_z, arith, rules}
use Rattle.std.specs.Int.{w128}
use Rattle.std.proofs.lemmas.Int.{fits_signed_from_abs}
use Rattle.scr_flow.proofs.SumLemmas.{most, size_of_product}
use Rattle.scr_flow.proofs.value.product.Goals as goal

pub returns-clause-size : goal.returns-clause-size
returns-clause-size c =
    let flow_fits : FitsSigned w64 c.args.flow = search rules in
    let end_fits : FitsSigned w128 c.args.end = search rules in
    let end_narrow : FitsSigned w64 c.args.end = fits_signed_from_abs w64 _ (omega (arith, c.requires.end_in)) in
    let flow : c.from.result ≡ c.args.flow = simp to_z-of_z at c.from.ensures in
    let end : c.from-2.result ≡ c.args.end = simp to_z-of_z at c.from-2.ensures in
    let small = size_of_product c.args.flow c.args.end most c.requires.end_in in
    let wide_flow : FitsSigned w128 c.from.result = search rules in
    let wide_end : FitsSigned w128 c.from-2.result = search rules in
    let product : FitsSigned w128 (c.from.result *ℤ c.from-2.result) = rw (flow, end) (fits_signed_from_abs w128 _ (omega (arith, small))) in
    simp to_z-of_z (rw (flow, end) small)
