use Rattle.std.proofs.Common.{◌+◌, take, sym, subst}
use Rattle.std.proofs.lemmas.List.{take_more}
use Rattle.scr_tree.specs.Starts.{AreFormer}
use Rattle.scr_tree.proofs.StartRows.{former-next}
use Rattle.scr_tree.proofs.starts.linked_dues.Goals as goal

pub loop-number-preserved : goal.loop-number-preserved
loop-number-preserved c =
    let numbers = c.args.numbers.now in
    let k = c.loop-number.number-index in
    subst (AreFormer (take (k + 1) numbers) c.args.links.now.edges) (sym c.in_ok-push.ensures.items)
    (former-next c.args.links.now.edges (take (k + 1) numbers) (take k numbers) c.loop-number.dues.items _ c.loop-number.invariant
    c.in_ok-sources.ensures (take_more numbers k _ c.loop-number-test.true))
