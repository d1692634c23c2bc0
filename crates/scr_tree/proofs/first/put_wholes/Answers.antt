use Rattle.std.proofs.Common.{◌≡◌, ◌+◌, ◌≤◌, ◌<◌, sym, ap, subst, arith}
use Rattle.scr_nodes.specs.declared.node.Node.TheVariants as nodes
use Rattle.scr_figure_ids.specs.Families.{whole_family}
use Rattle.scr_tree.specs.Turns.{next, turn, turn_of}
use Rattle.scr_tree.proofs.BlockTurns.{whole-read}
use Rattle.scr_tree.proofs.Grounds.{turned, whole-turn}
use Rattle.scr_tree.proofs.Turns.{stage-of-whole}
use Rattle.scr_tree.proofs.first.put_wholes.Goals as goal

pub put_live-requires-clause-later : goal.put_live-requires-clause-later
put_live-requires-clause-later g c =
    let few : whole_family c.whole_at.result < 153 =
    subst (λ n. n < 153) (sym c.whole_at.ensures) (omega (arith, c.loop-number-test.true)) in
    subst (λ s. 2 ≤ s) (sym (stage-of-whole c.whole_at.result few)) (omega arith)

pub put_live-requires-clause-read : goal.put_live-requires-clause-read
put_live-requires-clause-read g c = whole-read c.whole_at.result

pub put_live-requires-clause-done : goal.put_live-requires-clause-done
put_live-requires-clause-done g c =
    turned c.args.linked.ground c.requires.linked.ground c.loop-number.making.figures (turn 7 0 c.loop-number.number)
    (turn_of (nodes.Whole c.whole_at.result) 0)
    (sym (whole-turn c.whole_at.result c.loop-number.number c.whole_at.ensures
    (omega (arith, c.loop-number-test.true)))) c.loop-number.invariant

pub loop-number-preserved : goal.loop-number-preserved
loop-number-preserved g c =
    turned c.args.linked.ground c.requires.linked.ground c.put_live.new.making.figures (next (turn_of (nodes.Whole c.whole_at.result) 0))
    (turn 7 0 (c.loop-number.number + 1))
    (ap next (whole-turn c.whole_at.result c.loop-number.number c.whole_at.ensures
    (omega (arith, c.loop-number-test.true)))) c.in_ok-put_live.ensures

pub returns : goal.returns
returns g c =
    let e : c.loop-number.number ≡ 153 = omega (arith, c.loop-number-test.false, c.loop-number.auto.number-end) in
    turned c.args.linked.ground c.requires.linked.ground c.loop-number.making.figures (turn 7 0 c.loop-number.number) (turn 7 0 153)
    (ap (turn 7 0) e) c.loop-number.invariant
