use Rattle.std.proofs.Common.{Some, None, map, eqb, ap, ◌∙◌}
use Rattle.std.specs.Prelude.{if◌then◌else◌}
use Rattle.scr_member_lists.specs.Members.{name_at, returned}
use Rattle.scr_member_lists.specs.Seatings.{names_of, roll_in, seat_at, seat_of}
use Rattle.scr_member_lists.proofs.SeatLoops.{back-change, back-goes, done-more}
use Rattle.scr_member_lists.proofs.seating.Seating.restore.Goals as goal

pub loop-seat-preserved : goal.loop-seat-preserved
loop-seat-preserved g c =
    let told = c.put_back.ensures in
    done-more (map g.R.Row.name_of c.args.rows.now) c.args.place (back-goes c.args.before.now)
    (back-change c.args.before.now (name_at c.args.place (map g.R.Row.name_of c.args.rows.now))) c.loop-seat.seat c.args.self.now c.loop-seat.self c.loop-seat.invariant
    c.put_back.new.self told.seated told.seats
    (λ s. told.own s ∙ ap (λ r. if eqb c.loop-seat.seat s then r else roll_in s (seat_at c.args.place c.loop-seat.self.seats)) c.roll.ensures)
    (λ n h. told.names n h
    ∙ ap (λ r. if eqb (seat_of n c.loop-seat.self.rolls) c.loop-seat.seat
    then returned (name_at c.args.place (map g.R.Row.name_of c.args.rows.now)) (if eqb r n then Some c.place.result else None) (names_of n c.loop-seat.self.rolls)
    else names_of n c.loop-seat.self.rolls) c.roll.ensures
    ∙ ap (λ p. if eqb (seat_of n c.loop-seat.self.rolls) c.loop-seat.seat
    then returned (name_at c.args.place (map g.R.Row.name_of c.args.rows.now)) (if eqb (roll_in c.loop-seat.seat c.args.before.now) n then Some p else None)
    (names_of n c.loop-seat.self.rolls) else names_of n c.loop-seat.self.rolls) c.place.ensures)
    told.room told.rows
