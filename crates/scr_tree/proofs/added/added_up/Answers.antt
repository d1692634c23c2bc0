use Rattle.std.proofs.Common.{ap, ◌∙◌}
use Rattle.scr_member_index.specs.Lists.{members_of}
use Rattle.scr_tree.proofs.added.added_up.Goals as goal

pub renewed_from-requires-clause-members : goal.renewed_from-requires-clause-members
renewed_from-requires-clause-members c =
    let b = c.args.basis in
    c.members-members.ensures ∙ ap (λ roll. members_of roll b.inputs.book.now.rolls b.lists.now) c.roll.ensures

pub added_over-requires-clause-members : goal.added_over-requires-clause-members
added_over-requires-clause-members c =
    let b = c.args.basis in
    c.members-members.ensures ∙ ap (λ roll. members_of roll b.inputs.book.now.rolls b.lists.now) c.roll.ensures
