use Rattle.std.proofs.Common.{◌≡◌, ℕ, List, ap, subst, ◌∙◌}
use Rattle.std.specs.List.{IsDistinct}
use Rattle.scr_tables.specs.Names.{same_name}
use Rattle.scr_member_lists.specs.Members.{has}
use Rattle.scr_sheet.specs.Members.{is_member}
use Rattle.scr_book.specs.RolledSheets.{RolledSheet}
use Rattle.scr_book.specs.Rolls.{roll_of}
use Rattle.scr_book.proofs.RollSteps.{distinct-kept}
use Rattle.scr_book.proofs.book.Book.roll.Goals as goal

pub roll-requires : goal.roll-requires
roll-requires c = (c.self.inside.ledger, c.self.invariant.rolls)

pub returns-clause-names : goal.returns-clause-names
returns-clause-names c = c.roll.ensures ∙ ap (λ (b : RolledSheet). roll_of c.args.roll b.rolls) c.self.view_is

pub returns-clause-apart : goal.returns-clause-apart
returns-clause-apart c =
    subst (λ (b : RolledSheet). IsDistinct same_name (roll_of c.args.roll b.rolls)) c.self.view_is
    (distinct-kept c.self.inside.ledger c.self.inside.rolls c.self.invariant.rolls c.args.roll)

pub returns-clause-members : goal.returns-clause-members
returns-clause-members c =
    subst (λ (b : RolledSheet). (name : List ℕ) → has name (roll_of c.args.roll b.rolls) ≡ is_member c.args.roll name b.sheet)
    c.self.view_is (c.self.invariant.rolls.members c.args.roll)
