use Rattle.std.proofs.Common.{arith}
use Rattle.scr_ids.proofs.Back.{put-back}
use Rattle.scr_ids.proofs.places.Places.put_back.Goals as goal

pub returns : goal.returns
returns c =
    put-back c.args.table c.args.k c.args.self.now c.revive.new.self c.loop-m.self c.revive.ensures c.loop-m.m c.count-end.result
    (omega (arith, c.loop-m.invariant.from)) c.count-end.ensures.count c.loop-m.invariant.rising
