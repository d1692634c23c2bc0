use Rattle.std.proofs.Common.{◌∙◌, ap, length, sym, subst}
use Rattle.scr_member_index.specs.Lists.{members_of}
use Rattle.scr_partial_sums.specs.Written.{AreNumbered}
use Rattle.scr_tree.proofs.SumNumbers.{as-many}
use Rattle.scr_tree.proofs.sums.pass_blocks.Goals as goal

pub pass_level-requires : goal.pass_level-requires
pass_level-requires g c =
    let numbers = c.args.numbers in
    subst (AreNumbered c.in-Some.blocks)
    (sym (ap length (c.members-members.ensures ∙ ap (λ roll. members_of roll numbers.book.now.rolls numbers.lists.now) c.roll.ensures)
    ∙ as-many numbers c.requires.numbers c.requires.valid c.args.sum.now))
    c.in-Some.ensures.there.numbered

pub pass_level-requires-in-Some : goal.pass_level-requires-in-Some
pass_level-requires-in-Some g c =
    let numbers = c.args.numbers in
    subst (AreNumbered c.in-Some.blocks)
    (sym (ap length (c.members-members.ensures ∙ ap (λ roll. members_of roll numbers.book.now.rolls numbers.lists.now) c.roll.ensures)
    ∙ as-many numbers c.requires.numbers c.requires.valid c.args.sum.now))
    c.in-Some.ensures.there.numbered
