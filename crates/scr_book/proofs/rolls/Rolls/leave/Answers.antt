use Rattle.std.proofs.Common.{◌≡◌, not, Option, None, sym, ap, subst, ◌∙◌}
use Rattle.scr_tables.proofs.PastRows.{missing}
use Rattle.scr_book.specs.Rolls.{CanGoBack, IsReturning}
use Rattle.scr_book.specs.declared.rolls.Standing.{Standing}
use Rattle.scr_book.proofs.RollsLeft.{returning-made, returning-none}
use Rattle.scr_book.proofs.rolls.Rolls.leave.Goals as goal

pub returns-then-is_none-clause-leaves : goal.returns-then-is_none-clause-leaves
returns-then-is_none-clause-leaves c = λ goal_sheet goes.
    let none : c.in-Some.standing.seats ≡ None = missing c.in-Some.standing.seats (c.is_none.ensures ∙ ap not c.if-is_none.true) in
    subst (λ (o : Option Standing). IsReturning o goal_sheet c.args.self.now c.release.new.self) (sym c.in-Some.is)
    (returning-made c.in-Some.standing.table c.in-Some.standing.name c.in-Some.standing.seats goal_sheet c.args.sheet.now c.args.self.now c.release.new.self none c.requires.valid c.requires.rolls
    (subst (λ (o : Option Standing). CanGoBack o goal_sheet c.args.sheet.now c.args.self.now) c.in-Some.is goes) c.release.ensures)

pub returns-in_default-clause-leaves : goal.returns-in_default-clause-leaves
returns-in_default-clause-leaves c = λ goal_sheet goes.
    subst (λ (o : Option Standing). IsReturning o goal_sheet c.args.self.now c.args.self.now) (sym c.in_default.is)
    (returning-none goal_sheet c.args.sheet.now c.args.self.now c.requires.rolls (subst (λ (o : Option Standing). CanGoBack o goal_sheet c.args.sheet.now c.args.self.now) c.in_default.is goes))

pub returns-then-is_none-clause-numbers : goal.returns-then-is_none-clause-numbers
returns-then-is_none-clause-numbers c = c.release.ensures.ready.numbers
