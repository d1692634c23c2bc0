use Rattle.std.proofs.Common.{◌≡◌, pos, ◌+ℤ◌, ◌*ℤ◌, FitsSigned, to_z-of_z, arith, rules}
use Rattle.std.specs.Int.{w128}
use Rattle.std.proofs.lemmas.Int.{ints, fits_signed_from_abs}
use Rattle.scr_flow.proofs.Shares.{small-product, lifted-is, lifted-most}
use Rattle.scr_flow.proofs.loss.lifted.Goals as goal

pub returns-clause-value : goal.returns-clause-value
returns-clause-value c =
    let unit : FitsSigned w128 c.args.unit = search rules in
    let wide : FitsSigned w128 c.from.result = search rules in
    let cents = c.from.ensures in
    let small = small-product c.args.unit c.args.cents c.requires.unit_in c.requires.few in
    let product : FitsSigned w128 (c.args.unit *ℤ c.from.result) = rw cents (fits_signed_from_abs w128 _ (omega (arith, small))) in
    let sum : FitsSigned w128 (c.args.unit *ℤ c.from.result +ℤ pos 100_000_000_000_000_000_000_000_000_000_000_000) =
    rw cents (fits_signed_from_abs w128 _ (omega (arith, ints, small))) in
    simp to_z-of_z (rw cents (lifted-is (c.args.unit *ℤ pos c.args.cents) small))

pub returns-clause-most : goal.returns-clause-most
returns-clause-most c =
    let unit : FitsSigned w128 c.args.unit = search rules in
    let wide : FitsSigned w128 c.from.result = search rules in
    let cents = c.from.ensures in
    let small = small-product c.args.unit c.args.cents c.requires.unit_in c.requires.few in
    let product : FitsSigned w128 (c.args.unit *ℤ c.from.result) = rw cents (fits_signed_from_abs w128 _ (omega (arith, small))) in
    let sum : FitsSigned w128 (c.args.unit *ℤ c.from.result +ℤ pos 100_000_000_000_000_000_000_000_000_000_000_000) =
    rw cents (fits_signed_from_abs w128 _ (omega (arith, ints, small))) in
    simp to_z-of_z (rw cents (lifted-most (c.args.unit *ℤ pos c.args.cents) small))
