use Rattle.std.proofs.Common.{◌≡◌, subst, arith}
use Rattle.scr_tree.specs.First.{AreDoneTo}
use Rattle.scr_tree.specs.Turns.{turn}
use Rattle.scr_tree.proofs.left.put_whole_blocks.Goals as goal

pub returns : goal.returns
returns g c =
    let end : c.loop-number.number ≡ 153 = omega (arith, c.loop-number-test.false, c.loop-number.auto.number-end) in
    subst (λ n. AreDoneTo c.args.ground c.loop-number.figures (turn 7 0 0) (turn 7 0 n)) end c.loop-number.invariant
