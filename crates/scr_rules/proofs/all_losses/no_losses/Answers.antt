use Rattle.scr_rules.proofs.GroupSums.{none-entered}
use Rattle.scr_rules.proofs.all_losses.no_losses.Goals as goal

pub returns : goal.returns
returns c =
    none-entered c.args.sheet.now c.in_ok-sums.sums.items c.len.result c.len.ensures.count
    (c.in_ok-sums.ensures.items_if_clones_equal (λ y e. e))
