use Rattle.std.proofs.Common.{Option, Some, sym, subst, ◌∙◌}
use Rattle.scr_member_lists.specs.declared.seats.Seats.{Seats}
use Rattle.scr_book.specs.Rolls.{HaveReturned, IsReturning}
use Rattle.scr_book.specs.declared.rolls.Standing.{Standing}
use Rattle.scr_book.proofs.RollGrowth.{same-numbers}
use Rattle.scr_book.proofs.RollsLeft.{returned-then, returning-can}
use Rattle.scr_book.proofs.rolls.Rolls.restore.Goals as goal

pub regain-requires : goal.regain-requires
regain-requires c =
    returning-can c.in-Some.standing.table c.in-Some.standing.name c.in-Some-seats.seats c.args.sheet.now c.requires.0 c.args.self.now
    (subst (λ (s : Option Seats). IsReturning (Some (record { table = c.in-Some.standing.table; name = c.in-Some.standing.name; seats = s })) c.args.sheet.now c.requires.0 c.args.self.now) c.in-Some-seats.is
    (subst (λ (o : Option Standing). IsReturning o c.args.sheet.now c.requires.0 c.args.self.now) c.in-Some.is c.requires.1))

pub returns-in-Some-seats-clause-returns : goal.returns-in-Some-seats-clause-returns
returns-in-Some-seats-clause-returns c = λ first returning.
    subst (λ (o : Option Standing). HaveReturned o c.args.sheet.now first c.regain.new.self) (sym c.in-Some.is)
    (subst (λ (s : Option Seats). HaveReturned (Some (record { table = c.in-Some.standing.table; name = c.in-Some.standing.name; seats = s })) c.args.sheet.now first c.regain.new.self) (sym c.in-Some-seats.is)
    (returned-then c.in-Some.standing.table c.in-Some.standing.name c.in-Some-seats.seats c.args.sheet.now first c.args.self.now c.regain.new.self
    (subst (λ (s : Option Seats). IsReturning (Some (record { table = c.in-Some.standing.table; name = c.in-Some.standing.name; seats = s })) c.args.sheet.now first c.args.self.now) c.in-Some-seats.is
    (subst (λ (o : Option Standing). IsReturning o c.args.sheet.now first c.args.self.now) c.in-Some.is returning)) c.regain.ensures))

pub returns-in-Some-seats-clause-numbers : goal.returns-in-Some-seats-clause-numbers
returns-in-Some-seats-clause-numbers c = λ roll number e.
    same-numbers roll c.args.self.now c.regain.new.self c.regain.ensures.of_groups c.regain.ensures.of_assets c.regain.ensures.of_lines ∙ e
