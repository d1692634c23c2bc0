use Rattle.std.proofs.Common.{eqb, ap, ◌∙◌, arith}
use Rattle.std.specs.Prelude.{if◌then◌else◌}
use Rattle.scr_member_lists.specs.Seatings.{NOWHERE, place_in, roll_in}
use Rattle.scr_member_lists.specs.declared.seats.Seats.{Seats}
use Rattle.scr_member_lists.proofs.Benches.{widened-set}
use Rattle.scr_member_lists.proofs.seats.Bench.put.Goals as goal

pub returns-clause-rolls : goal.returns-clause-rolls
returns-clause-rolls g c =
    let width = c.requires.width in
    let count = c.self.invariant.0 in
    λ s. widened-set NOWHERE c.self.inside.rolls c.args.seat c.args.roll (omega (arith, width, count)) c.requires.seat s
    ∙ ap (λ (o : Seats). if eqb c.args.seat s then c.args.roll else roll_in s o) c.self.view_is

pub returns-clause-places : goal.returns-clause-places
returns-clause-places g c =
    let width = c.requires.width in
    let count = c.self.invariant.1 in
    λ s. widened-set 0 c.self.inside.places c.args.seat c.args.place (omega (arith, width, count)) c.requires.seat s
    ∙ ap (λ (o : Seats). if eqb c.args.seat s then c.args.place else place_in s o) c.self.view_is
