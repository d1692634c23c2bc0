use Rattle.std.proofs.Common.{sym, ap, ◌∙◌, arith}
use Rattle.std.proofs.lemmas.List.{get_or_default, get_or_past}
use Rattle.scr_member_lists.specs.Seatings.{NOWHERE, roll_in}
use Rattle.scr_member_lists.proofs.Benches.{widened-in}
use Rattle.scr_member_lists.proofs.seats.Bench.roll.Goals as goal

pub returns-then-seat : goal.returns-then-seat
returns-then-seat g c =
    let count = c.self.invariant.0 in
    get_or_default c.self.inside.rolls c.args.seat 0 NOWHERE (omega (arith, c.if-seat.true, count))
    ∙ sym (widened-in NOWHERE c.self.inside.rolls c.args.seat c.requires) ∙ ap (roll_in c.args.seat) c.self.view_is

pub returns-else-seat : goal.returns-else-seat
returns-else-seat g c =
    let count = c.self.invariant.0 in
    sym (get_or_past c.self.inside.rolls c.args.seat NOWHERE (omega (arith, c.if-seat.false, count)))
    ∙ sym (widened-in NOWHERE c.self.inside.rolls c.args.seat c.requires) ∙ ap (roll_in c.args.seat) c.self.view_is
