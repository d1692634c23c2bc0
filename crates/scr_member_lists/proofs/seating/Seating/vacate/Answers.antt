use Rattle.std.proofs.Common.{map, replicate, arith}
use Rattle.std.proofs.lemmas.List.{get_or-replicate, length-map, length-replicate}
use Rattle.scr_member_lists.specs.Seatings.{NOWHERE, roll_in, seat_at}
use Rattle.scr_member_lists.proofs.SeatLoops.{vacated-names, vacated-own}
use Rattle.scr_member_lists.proofs.seating.Seating.vacate.Goals as goal

pub returns-clause-own : goal.returns-clause-own
returns-clause-own g c =
    let h = c.requires.place in
    let long = length-map c.args.rows.now g.R.Row.name_of in
    vacated-own (map g.R.Row.name_of c.args.rows.now) c.args.place c.args.self.now c.arrange.new.self c.requires.seated c.len-count.ensures.apart
    (omega (arith, h, long)) (replicate 11 NOWHERE)
    (λ s within. get_or-replicate 11 s NOWHERE (roll_in s (seat_at c.args.place c.args.self.now.seats)) within)
    (omega (arith, length-replicate 11 NOWHERE)) c.arrange.ensures.own

pub returns-clause-names : goal.returns-clause-names
returns-clause-names g c =
    let h = c.requires.place in
    let long = length-map c.args.rows.now g.R.Row.name_of in
    vacated-names (map g.R.Row.name_of c.args.rows.now) c.args.place c.args.self.now c.arrange.new.self c.requires.seated c.len-count.ensures.apart
    (omega (arith, h, long)) (replicate 11 NOWHERE)
    (λ s within. get_or-replicate 11 s NOWHERE (roll_in s (seat_at c.args.place c.args.self.now.seats)) within)
    (omega (arith, length-replicate 11 NOWHERE)) c.arrange.ensures.seats c.arrange.ensures.names
