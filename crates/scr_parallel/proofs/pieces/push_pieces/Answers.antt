use Rattle.std.proofs.Common.{◌≤◌, arith}
use Rattle.scr_parallel.proofs.Pushed.{pieced-next}
use Rattle.scr_parallel.proofs.pieces.push_pieces.Goals as goal
use Rattle.scr_parallel.proofs.pieces.push_pieces.Goals.{then-rows-from, else-rows-from}

pub loop-from-preserved : goal.loop-from-preserved
loop-from-preserved g c =
    let more = c.loop-from-test.true in
    let rows = c.rows-rows.ensures in
    let ordered : c.loop-from.from ≤ c.if-rows-from.end = elim c.if-rows-from.branch [
      | then-rows-from w ↦ let is = w.end-is in omega (arith, is, more)
      | else-rows-from w ↦ let is = w.end-is in omega (arith, is)
    ] in
    let low : c.if-rows-from.end ≤ c.rows-rows.result = elim c.if-rows-from.branch [
      | then-rows-from w ↦ let is = w.end-is in omega (arith, is)
      | else-rows-from w ↦ let is = w.end-is in let room = w.if-rows-from.false in omega (arith, is, room, more)
    ] in
    let next = pieced-next (g.P.RowPlan.count c.args.plan.now) c.args.pieces.now.items c.loop-from.pieces.items c.push.new.self.items c.args.sort
    c.loop-from.from c.if-rows-from.end ordered (omega (arith, low, rows)) c.loop-from.invariant.rows_are c.loop-from.invariant.within
    c.in_ok-push.ensures.items in
    record { low = low; rows_are = next.0; within = next.1 }
