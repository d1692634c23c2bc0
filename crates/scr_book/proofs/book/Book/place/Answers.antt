use Rattle.std.proofs.Common.{is_some, position, ap, ◌∙◌}
use Rattle.scr_tables.specs.Names.{same_name}
use Rattle.scr_member_lists.proofs.Settled.{has-position}
use Rattle.scr_sheet.specs.Members.{is_member}
use Rattle.scr_book.specs.RolledSheets.{RolledSheet}
use Rattle.scr_book.specs.Rolls.{roll_of}
use Rattle.scr_book.proofs.book.Book.place.Goals as goal

pub returns-clause-place : goal.returns-clause-place
returns-clause-place c = c.place.ensures ∙ ap (λ (b : RolledSheet). position (same_name c.args.name.now) (roll_of c.args.roll b.rolls)) c.self.view_is

pub returns-clause-member : goal.returns-clause-member
returns-clause-member c =
    ap is_some c.place.ensures ∙ has-position (same_name c.args.name.now) (roll_of c.args.roll c.self.inside.rolls)
    ∙ c.self.invariant.rolls.members c.args.roll c.args.name.now
    ∙ ap (λ (b : RolledSheet). is_member c.args.roll c.args.name.now b.sheet) c.self.view_is
