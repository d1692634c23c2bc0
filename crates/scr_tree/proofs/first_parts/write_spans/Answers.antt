use Rattle.std.proofs.Common.{◌+◌, Some, sym, ap, subst, ◌∙◌, arith}
use Rattle.std.proofs.lemmas.Option.{slice_get-get_or}
use Rattle.scr_tree.proofs.Writing.{AreWrittenYet, all-yet, none-yet, one-yet}
use Rattle.scr_tree.proofs.first_parts.write_spans.Goals as goal

pub loop-j-init : goal.loop-j-init
loop-j-init c = none-yet c.args.first c.args.spans.now c.args.figures.now

pub loop-j-preserved : goal.loop-j-preserved
loop-j-preserved c =
    let spans = c.args.spans.now in
    let j = c.loop-j.j in
    let span = c.index-spans-j.result in
    let low = c.loop-j-test.true in
    let room = c.requires in
    let count = c.loop-j.invariant.count in
    subst (AreWrittenYet c.args.first (j + 1) spans c.args.figures.now) (sym c.set.ensures)
    (one-yet c.args.first j spans c.args.figures.now c.loop-j.figures span
    (slice_get-get_or spans j span low ∙ ap Some (sym c.index-spans-j.is)) (omega (arith, room, count, low)) c.loop-j.invariant)

pub returns : goal.returns
returns c =
    all-yet c.args.first c.loop-j.j c.args.spans.now c.args.figures.now c.loop-j.figures
    (omega (arith, c.loop-j-test.false, c.loop-j.auto.j-end)) c.loop-j.invariant
