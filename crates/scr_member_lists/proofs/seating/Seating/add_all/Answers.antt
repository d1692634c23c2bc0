use Rattle.std.proofs.Common.{slice_index_or, refl, sym, ap, ◌∙◌}
use Rattle.scr_member_lists.specs.Seatings.{seat_of}
use Rattle.scr_member_lists.proofs.SeatGrowth.{added-more}
use Rattle.scr_member_lists.proofs.seating.Seating.add_all.Goals as goal

pub loop-seat-preserved : goal.loop-seat-preserved
loop-seat-preserved g c =
    let told = c.in_ok-add.ensures in
    added-more c.args.seats.now c.loop-seat.seat-index (slice_index_or c.args.seats.now c.loop-seat.seat-index 0) c.args.self.now c.loop-seat.self c.add.new.self
    c.loop-seat.invariant refl (c.requires.eleven c.loop-seat.seat-index) told.count told.few
    (ap (λ n. seat_of n c.add.new.self.rolls) (sym told.number) ∙ told.seat)
    c.add.ensures.own c.add.ensures.names c.add.ensures.room c.add.ensures.seats c.add.ensures.rows
