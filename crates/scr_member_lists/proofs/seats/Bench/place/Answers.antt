use Rattle.std.proofs.Common.{sym, ap, ◌∙◌, arith}
use Rattle.std.proofs.lemmas.List.{get_or_past}
use Rattle.scr_member_lists.specs.Seatings.{place_in}
use Rattle.scr_member_lists.proofs.Benches.{widened-in}
use Rattle.scr_member_lists.proofs.seats.Bench.place.Goals as goal

pub returns-then-seat : goal.returns-then-seat
returns-then-seat g c =
    sym (widened-in 0 c.self.inside.places c.args.seat c.requires) ∙ ap (place_in c.args.seat) c.self.view_is

pub returns-else-seat : goal.returns-else-seat
returns-else-seat g c =
    let count = c.self.invariant.1 in
    sym (get_or_past c.self.inside.places c.args.seat 0 (omega (arith, c.if-seat.false, count)))
    ∙ sym (widened-in 0 c.self.inside.places c.args.seat c.requires) ∙ ap (place_in c.args.seat) c.self.view_is
