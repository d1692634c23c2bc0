use Rattle.std.proofs.Common.{FitsSigned, to_z-of_z, arith, rules}
use Rattle.std.specs.Int.{w128}
use Rattle.std.proofs.lemmas.Int.{ints}
use Rattle.scr_flow.proofs.loss.shared.Goals as goal

pub returns-clause-share : goal.returns-clause-share
returns-clause-share c =
    let unit : FitsSigned w128 c.args.unit = search rules in
    let value = simp to_z-of_z at c.lifted-lifted.ensures.value in
    omega (arith, ints, value, c.lowered.ensures)
