use Rattle.std.proofs.Common.{◌≡◌, ℕ, length, sym, ap, subst, ◌∙◌, arith}
use Rattle.std.proofs.lemmas.List.{length-replicate}
use Rattle.scr_member_lists.specs.Seatings.{NOWHERE}
use Rattle.scr_member_lists.specs.declared.seats.Seats.{Seats}
use Rattle.scr_member_lists.proofs.Benches.{AreRead, long, read-all, read-more, same-seats}
use Rattle.scr_member_lists.proofs.seats.Bench.seats.Goals as goal

pub loop-seat-init : goal.loop-seat-init
loop-seat-init g c =
    subst (λ (f : Seats). AreRead NOWHERE c.args.self.now.rolls 0 f.rolls × AreRead 0 c.args.self.now.places 0 f.places) (sym c.free-seats.ensures)
    ((length-replicate {A = ℕ} 11 NOWHERE, λ s h. absurd (omega (arith, h))), (length-replicate {A = ℕ} 11 0, λ s h. absurd (omega (arith, h))))

pub loop-seat-preserved : goal.loop-seat-preserved
loop-seat-preserved g c = (
  read-more NOWHERE c.args.self.now.rolls c.loop-seat.seat c.loop-seat.seats.rolls c.roll.result c.loop-seat.invariant.0 (omega (arith, c.loop-seat-test.true)) c.roll.ensures,
  read-more 0 c.args.self.now.places c.loop-seat.seat c.loop-seat.seats.places c.place.result c.loop-seat.invariant.1 (omega (arith, c.loop-seat-test.true)) c.place.ensures,
)

pub returns : goal.returns
returns g c =
    same-seats c.loop-seat.seats.rolls c.loop-seat.seats.places c.args.self.now.rolls c.args.self.now.places
    (read-all NOWHERE c.args.self.now.rolls c.loop-seat.seat c.loop-seat.seats.rolls c.loop-seat.invariant.0 (omega (arith, c.loop-seat-test.false))
    (ap (λ (o : Seats). length o.rolls) (sym c.self.view_is) ∙ long NOWHERE c.self.inside.rolls))
    (read-all 0 c.args.self.now.places c.loop-seat.seat c.loop-seat.seats.places c.loop-seat.invariant.1 (omega (arith, c.loop-seat-test.false))
    (ap (λ (o : Seats). length o.places) (sym c.self.view_is) ∙ long 0 c.self.inside.places))
