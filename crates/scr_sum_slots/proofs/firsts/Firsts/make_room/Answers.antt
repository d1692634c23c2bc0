use Rattle.std.proofs.Common.{◌+◌, subst, sym, ◌∙◌}
use Rattle.scr_sum_slots.specs.Firsts.{FirstLists}
use Rattle.scr_sum_slots.proofs.Followed.{HasRoom, none-roomy, roomy-free, roomy-more, roomy-room, roomy-still}
use Rattle.scr_sum_slots.proofs.firsts.Firsts.make_room.Goals.{then-roll+in_ok-reserve, else-roll}
use Rattle.scr_sum_slots.proofs.firsts.Firsts.make_room.Goals as goal

pub loop-seat-init : goal.loop-seat-init
loop-seat-init c = none-roomy c.args.seats.now c.args.self.now

pub returns-in_err-reserve-clause-still : goal.returns-in_err-reserve-clause-still
returns-in_err-reserve-clause-still c =
    roomy-still c.args.seats.now c.loop-seat.seat c.args.self.now c.loop-seat.self c.loop-seat.invariant c.roll-then-roll.result c.reserve.new.self c.reserve.ensures.still

pub returns-in_err-reserve-clause-room : goal.returns-in_err-reserve-clause-room
returns-in_err-reserve-clause-room c =
    roomy-room c.args.seats.now c.loop-seat.seat c.args.self.now c.loop-seat.self c.loop-seat.invariant c.roll-then-roll.result c.reserve.new.self c.reserve.ensures.still

pub loop-seat-preserved : goal.loop-seat-preserved
loop-seat-preserved c =
    elim c.if-roll.branch [
      | then-roll+in_ok-reserve w ↦
          subst (λ (now : FirstLists). HasRoom c.args.seats.now (c.loop-seat.seat + 1) c.args.self.now now) (sym w.self-is)
          (roomy-more c.args.seats.now c.loop-seat.seat c.args.self.now c.loop-seat.self c.loop-seat.invariant w.roll-then-roll.result w.reserve.new.self
          w.roll-then-roll.ensures w.reserve.ensures.still w.in_ok-reserve.ensures.ok)
      | else-roll w ↦
          roomy-free c.args.seats.now c.loop-seat.seat c.args.self.now c.loop-seat.self c.loop-seat.invariant c.if-roll.self
          (sym c.roll.ensures ∙ w.if-roll.false) w.self-is
    ]
