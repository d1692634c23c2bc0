use Rattle.std.proofs.Common.{◌≡◌, ◌∙◌, ap, arith, subst}
use Rattle.scr_sum_slots.specs.Parts.{AreOwn, size_of}
use Rattle.scr_tree.proofs.GroupsMade.{groups-begun, groups-ended}
use Rattle.scr_tree.proofs.groups.put_groups.Goals as goal

pub loop-slot-init : goal.loop-slot-init
loop-slot-init g c = groups-begun c.args.ground c.requires.ground c.args.figures.now c.requires.done

pub returns : goal.returns
returns g c =
    let end : c.loop-slot.slot ≡ c.len-slot-end.result = omega (arith, c.loop-slot-test.false, c.loop-slot.auto.slot-end) in
    groups-ended c.args.ground c.requires.ground (subst AreOwn c.parts.ensures c.len-slot-end.ensures.own) c.loop-slot.figures c.loop-slot.slot
    (end ∙ c.len-slot-end.ensures.size ∙ ap size_of c.parts.ensures) c.loop-slot.invariant
