use Rattle.std.proofs.Common.{sym}
use Rattle.scr_factors.proofs.SegmentLemmas.{searched_to-start, searched_to-found, searched_to-next}
use Rattle.scr_factors.proofs.segments.first_asymmetry.Goals as goal

pub loop-i-init : goal.loop-i-init
loop-i-init c = searched_to-start c.args.rows.now

pub returns-in-Some-clause-value : goal.returns-in-Some-clause-value
returns-in-Some-clause-value c =
    sym (searched_to-found c.args.rows.now c.loop-i.i c.in-Some.j c.loop-i-test.true c.loop-i.invariant
    (sym c.in-Some.ensures.value))

pub loop-i-preserved : goal.loop-i-preserved
loop-i-preserved c =
    searched_to-next c.args.rows.now c.loop-i.i c.loop-i-test.true c.loop-i.invariant (sym c.in_default.ensures.value)
