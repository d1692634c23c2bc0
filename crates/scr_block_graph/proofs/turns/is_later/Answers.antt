use Rattle.std.proofs.Common.{sym, ap, subst, ◌∙◌}
use Rattle.scr_row_change.specs.Changes.{after}
use Rattle.scr_sheet.specs.Members.{is_member}
use Rattle.scr_sheet.specs.Validity.{Valid}
use Rattle.scr_block_graph.specs.Sums.{roll_of}
use Rattle.scr_block_graph.proofs.turns.is_later.Goals as goal

pub is_member_after-requires-clause-valid : goal.is_member_after-requires-clause-valid
is_member_after-requires-clause-valid c = subst Valid (sym c.sheet.ensures.sheet) c.sheet.ensures.valid

pub returns-clause-is : goal.returns-clause-is
returns-clause-is c =
    c.is_member_after.ensures ∙ ap (λ s. is_member (roll_of c.args.sum.now) c.args.name.now (after c.args.change.now s)) c.sheet.ensures.sheet
