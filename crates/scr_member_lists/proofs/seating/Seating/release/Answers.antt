use Rattle.std.proofs.Common.{false, sym, ap, ◌∙◌}
use Rattle.scr_member_lists.specs.Members.{has, moved}
use Rattle.scr_member_lists.specs.Seatings.{names_of}
use Rattle.scr_member_lists.proofs.SeatComings.{gone-none, names-none}
use Rattle.scr_member_lists.proofs.SeatLists.{named-at}
use Rattle.scr_member_lists.proofs.SeatTables.{gone}
use Rattle.scr_member_lists.proofs.seating.Seating.release.Goals as goal

pub returns-in-Some-clause-seated : goal.returns-in-Some-clause-seated
returns-in-Some-clause-seated g c =
    gone g.R.Row.name_of c.args.name.now c.in-Some.place c.args.rows.now c.vacate.new.self c.gone.new.self c.vacate.ensures.seated c.len-count.ensures.apart
    c.in-Some.ensures.place c.vacate.ensures.own c.gone.ensures.rolls c.gone.ensures.seats

pub returns-in-Some-clause-names : goal.returns-in-Some-clause-names
returns-in-Some-clause-names g c =
    let named = named-at g.R.Row.name_of c.args.rows.now c.in-Some.place c.args.name.now c.in-Some.ensures.place in
    λ n. ap (λ rolls. names_of n rolls) c.gone.ensures.rolls ∙ c.vacate.ensures.names n
    ∙ ap (λ y. moved y (has y (names_of n c.args.self.now.rolls)) false (names_of n c.args.self.now.rolls)) named.1

pub returns-in_default-clause-seated : goal.returns-in_default-clause-seated
returns-in_default-clause-seated g c =
    gone-none g.R.Row.name_of c.args.name.now c.args.rows.now c.args.self.now c.requires (sym c.in_default.ensures.there)

pub returns-in_default-clause-names : goal.returns-in_default-clause-names
returns-in_default-clause-names g c =
    names-none g.R.Row.name_of c.args.name.now c.args.rows.now c.args.self.now c.requires (sym c.in_default.ensures.there)
