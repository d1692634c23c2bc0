use Rattle.std.proofs.Common.{ℕ, subst, sym, ◌∙◌, arith}
use Rattle.scr_member_lists.specs.Seatings.{place_in, roll_in}
use Rattle.scr_sum_slots.specs.Filling.{IsWritten}
use Rattle.scr_sum_slots.specs.Firsts.{FirstLists}
use Rattle.scr_sum_slots.proofs.Filled.{entered-all, seat-free, seat-written}
use Rattle.scr_sum_slots.proofs.firsts.Firsts.enter.Goals.{then-roll+in_ok-write, else-roll}
use Rattle.scr_sum_slots.proofs.firsts.Firsts.enter.Goals as goal

pub loop-seat-preserved : goal.loop-seat-preserved
loop-seat-preserved g c =
    let seats = c.args.seats.now in
    let seat = c.loop-seat.seat in
    elim c.if-roll.branch [
      | then-roll+in_ok-write w ↦
          seat-written seats c.args.first seat c.args.self.now c.loop-seat.self c.if-roll.self c.loop-seat.invariant
          (λ e. w.if-roll.true (c.roll.ensures ∙ e))
          (subst (λ (now : FirstLists). IsWritten (roll_in seat seats) (place_in seat seats) c.args.first c.loop-seat.self now) (sym w.self-is)
          (subst (λ (list : ℕ). IsWritten list (place_in seat seats) c.args.first c.loop-seat.self w.write.new.self) w.roll-then-roll.ensures
          (subst (λ (place : ℕ). IsWritten w.roll-then-roll.result place c.args.first c.loop-seat.self w.write.new.self) w.place.ensures w.in_ok-write.ensures)))
      | else-roll w ↦
          seat-free seats c.args.first seat c.args.self.now c.loop-seat.self c.if-roll.self c.loop-seat.invariant
          (sym c.roll.ensures ∙ w.if-roll.false) w.self-is
    ]

pub returns : goal.returns
returns g c =
    let few = c.width-seat-end.ensures.few in
    entered-all c.args.seats.now c.args.first c.loop-seat.seat c.args.self.now c.loop-seat.self
    (omega (arith, few, c.loop-seat.auto.seat-end))
    (λ seat past. c.width-seat-end.ensures.beyond seat (omega (arith, past, c.loop-seat-test.false)))
    c.loop-seat.invariant
