use Rattle.std.proofs.Common.{ap, arith, length, subst, sym}
use Rattle.std.proofs.lemmas.List.{length_push}
use Rattle.scr_tests.specs.Ladders.{AreRungs}
use Rattle.scr_tests.proofs.Rungs.{rungs-push}
use Rattle.scr_tests.proofs.board.rungs.Goals as goal

pub loop-number-preserved : goal.loop-number-preserved
loop-number-preserved c =
    let so_far = c.loop-number.invariant.long in
    let number = c.in_ok-rung.ensures.number in
    let more = ap (λ dues. length dues) c.in_ok-push.ensures.items in
    let one = length_push c.loop-number.dues.items c.in_ok-rung.field-0 in
    record {
      rungs = subst (AreRungs 0) (sym c.in_ok-push.ensures.items)
          (rungs-push 0 c.loop-number.dues.items c.in_ok-rung.field-0 c.loop-number.invariant.rungs (omega (arith, so_far, number)) c.in_ok-rung.ensures.rung);
      long = omega (arith, so_far, more, one);
    }
