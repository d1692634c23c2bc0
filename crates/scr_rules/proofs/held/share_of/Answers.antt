use Rattle.std.proofs.Common.{arith}
use Rattle.scr_rules.proofs.CodeLemmas.{through-small}
use Rattle.scr_rules.proofs.held.share_of.Goals as goal

pub overflow_add-result : goal.overflow_add-result
overflow_add-result c =
    let small = through-small c.args.name.now c.args.stake.now c.as_slice-components.result.now c.requires c.as_slice-components.ensures in
    omega (arith, small, c.in_ok-before.ensures.2)
