use Rattle.std.proofs.Common.{take, sym, subst}
use Rattle.scr_reachability.specs.LinkedDues.{numbers_of}
use Rattle.scr_reachability.specs.Relinking.{AreUnlinked}
use Rattle.scr_reachability.proofs.Cutting.{unlinked-more}
use Rattle.scr_reachability.proofs.Joining.{numbers-more}
use Rattle.scr_reachability.proofs.relinking.unlink_all.Goals as goal

pub loop-due-preserved : goal.loop-due-preserved
loop-due-preserved c =
    let dues = c.args.dues.now in
    let k = c.loop-due.due-index in
    subst (λ list. AreUnlinked list c.args.links.now c.unlink.new.links)
    (sym (numbers-more dues k c.due-item.result c.loop-due-test.true c.due-item.is))
    (unlinked-more (numbers_of (take k dues)) (c.due-item.result).number c.args.links.now c.loop-due.links
    c.unlink.new.links c.loop-due.invariant c.unlink.ensures)
