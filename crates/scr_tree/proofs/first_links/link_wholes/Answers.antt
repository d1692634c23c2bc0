use Rattle.std.proofs.Common.{◌≡◌, ◌+◌, sym, ap, arith}
use Rattle.scr_nodes.specs.declared.node.Node.TheVariants as nodes
use Rattle.scr_tree.specs.Turns.{next, turn, turn_of}
use Rattle.scr_tree.proofs.Grounds.{whole-turn}
use Rattle.scr_tree.proofs.Linking.{linked-turned}
use Rattle.scr_tree.proofs.first_links.link_wholes.Goals as goal

pub link_if_there-requires-clause-linked : goal.link_if_there-requires-clause-linked
link_if_there-requires-clause-linked c =
    linked-turned c.args.ground c.requires.ground c.loop-number.links (turn 7 0 c.loop-number.number)
    (turn_of (nodes.Whole c.whole_at.result) 0)
    (sym (whole-turn c.whole_at.result c.loop-number.number c.whole_at.ensures
    (omega (arith, c.loop-number-test.true)))) c.loop-number.invariant

pub loop-number-preserved : goal.loop-number-preserved
loop-number-preserved c =
    linked-turned c.args.ground c.requires.ground c.link_if_there.new.links (next (turn_of (nodes.Whole c.whole_at.result) 0))
    (turn 7 0 (c.loop-number.number + 1))
    (ap next (whole-turn c.whole_at.result c.loop-number.number c.whole_at.ensures
    (omega (arith, c.loop-number-test.true)))) c.in_ok-link_if_there.ensures

pub returns : goal.returns
returns c =
    let e : c.loop-number.number ≡ 153 = omega (arith, c.loop-number-test.false, c.loop-number.auto.number-end) in
    linked-turned c.args.ground c.requires.ground c.loop-number.links (turn 7 0 c.loop-number.number) (turn 7 0 153)
    (ap (turn 7 0) e) c.loop-number.invariant
