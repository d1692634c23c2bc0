use Rattle.std.proofs.Common.{◌<◌, ◌≤◌, All, length, sym, subst, arith}
use Rattle.scr_reachability.specs.Relinking.{IsJoined}
use Rattle.scr_reachability.proofs.Joining.{due-room, due-within, joined-all, linked-next, linked-none}
use Rattle.scr_reachability.proofs.relinking.link_all.Goals as goal

pub loop-due-init : goal.loop-due-init
loop-due-init c = linked-none c.args.dues.now c.args.links.now c.requires.linkable

pub link-requires-clause-number : goal.link-requires-clause-number
link-requires-clause-number c =
    (due-within c.args.dues.now c.loop-due.due-index c.due-item.result c.args.links.now c.loop-due.links
    c.loop-due-test.true c.due-item.is c.loop-due.invariant c.requires.linkable).number

pub link-requires-clause-sources : goal.link-requires-clause-sources
link-requires-clause-sources c =
    subst (All (λ source. source < c.loop-due.links.size)) (sym c.as_slice.ensures.value)
    (due-within c.args.dues.now c.loop-due.due-index c.due-item.result c.args.links.now c.loop-due.links
    c.loop-due-test.true c.due-item.is c.loop-due.invariant c.requires.linkable).sources

pub link-requires-clause-spare : goal.link-requires-clause-spare
link-requires-clause-spare c =
    subst (λ list. length list ≤ c.loop-due.links.spare) (sym c.as_slice.ensures.value)
    (due-room c.args.dues.now c.loop-due.due-index c.due-item.result c.args.links.now c.loop-due.links
    c.loop-due-test.true c.due-item.is c.loop-due.invariant)

pub loop-due-preserved : goal.loop-due-preserved
loop-due-preserved c =
    linked-next c.args.dues.now c.loop-due.due-index c.due-item.result c.args.links.now c.loop-due.links
    c.loop-due-test.true c.due-item.is c.loop-due.invariant c.link.new.links c.requires.linkable c.requires.free
    (subst (λ list. IsJoined (c.due-item.result).number list c.loop-due.links c.link.new.links) c.as_slice.ensures.value
    c.link.ensures)

pub returns : goal.returns
returns c = joined-all c.args.dues.now c.loop-due.due-index c.args.links.now c.loop-due.links
    (omega (arith, c.loop-due-test.false)) c.loop-due.invariant
