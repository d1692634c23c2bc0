use Rattle.std.proofs.Common.{◌∙◌, arith}
use Rattle.scr_rules.proofs.CodeLemmas.{item-weight, summed-small}
use Rattle.scr_rules.proofs.held.all_weights.Goals as goal

pub overflow_add-all : goal.overflow_add-all
overflow_add-all c =
    let item = c.loop-weight-item.result in
    let size = c.unsigned_abs-all.ensures.value ∙ item-weight c.args.components.now c.loop-weight.weight-index item c.requires c.loop-weight-test.true c.loop-weight-item.is in
    let small = summed-small c.args.components.now c.loop-weight.weight-index c.loop-weight.all c.unsigned_abs-all.result item c.requires c.loop-weight-test.true c.loop-weight-item.is size c.loop-weight.invariant in
    omega (arith, small)
