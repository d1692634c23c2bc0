use Rattle.std.proofs.Common.{◌≡◌, [], length, ◌∙◌, ap, refl, sym}
use Rattle.scr_sum_tree.specs.Blocks.{blocks_at}
use Rattle.scr_sum_tree.specs.declared.blocks.Level.TheVariants as levels
use Rattle.scr_member_index.specs.Lists.{members_of}
use Rattle.scr_tree.specs.Summed.{count_on, family_in, firsts_on}
use Rattle.scr_tree.proofs.SumNumbers.{as-counted, as-many, members-few, members-off, members-within, none-off, none-on, room-is, written-off, written-on}
use Rattle.scr_tree.proofs.sums.put_blocks.Goals as goal

-- of a list that is too short for Blocks
pub returns-then-count-eq0-clause-blocks : goal.returns-then-count-eq0-clause-blocks
returns-then-count-eq0-clause-blocks g c =
    let numbers = c.args.numbers in
    let firsts : c.members-firsts.result.now ≡ firsts_on numbers c.args.sum.now =
    c.members-firsts.ensures ∙ ap (λ roll. members_of roll numbers.book.now.rolls numbers.lists.now) c.roll.ensures in
    let none : blocks_at (count_on numbers c.args.sum.now) levels.First ≡ 0 =
    ap (λ n. blocks_at n levels.First) (sym (ap length firsts ∙ as-many numbers c.requires.numbers c.requires.valid c.args.sum.now))
    ∙ sym c.blocks_at-count.ensures ∙ c.if-count-eq0.true in
    none-on numbers c.requires.numbers c.requires.valid c.args.sum.now c.requires.reads (firsts_on numbers c.args.sum.now) refl
    (family_in c.args.sum.now) refl c.args.figures.now none

pub returns-then-count-eq0-clause-others : goal.returns-then-count-eq0-clause-others
returns-then-count-eq0-clause-others g c =
    let numbers = c.args.numbers in
    none-off numbers c.requires.numbers c.requires.valid c.args.sum.now c.requires.reads (firsts_on numbers c.args.sum.now) refl
    (family_in c.args.sum.now) refl c.args.figures.now

-- the first numbers and the family of the members
pub put_all-requires-clause-numbered : goal.put_all-requires-clause-numbered
put_all-requires-clause-numbered g c =
    let numbers = c.args.numbers in
    let firsts : c.members-firsts.result.now ≡ firsts_on numbers c.args.sum.now =
    c.members-firsts.ensures ∙ ap (λ roll. members_of roll numbers.book.now.rolls numbers.lists.now) c.roll.ensures in
    as-counted numbers c.requires.numbers c.requires.valid c.args.sum.now c.requires.reads c.members-firsts.result.now firsts
    c.member_family.result (c.member_family.ensures []) c.in-Some.blocks c.in-Some.ensures.there.numbered

pub put_all-requires-clause-room : goal.put_all-requires-clause-room
put_all-requires-clause-room g c =
    let numbers = c.args.numbers in
    let firsts : c.members-firsts.result.now ≡ firsts_on numbers c.args.sum.now =
    c.members-firsts.ensures ∙ ap (λ roll. members_of roll numbers.book.now.rolls numbers.lists.now) c.roll.ensures in
    room-is numbers c.requires.numbers c.requires.valid c.args.sum.now c.requires.reads c.members-firsts.result.now firsts
    c.member_family.result (c.member_family.ensures []) c.in-Some.blocks c.in-Some.ensures.there c.args.figures.now c.requires.count

pub put_all-requires-clause-within : goal.put_all-requires-clause-within
put_all-requires-clause-within g c =
    let numbers = c.args.numbers in
    let firsts : c.members-firsts.result.now ≡ firsts_on numbers c.args.sum.now =
    c.members-firsts.ensures ∙ ap (λ roll. members_of roll numbers.book.now.rolls numbers.lists.now) c.roll.ensures in
    members-within numbers c.requires.numbers c.requires.valid c.args.sum.now c.requires.reads c.members-firsts.result.now firsts
    c.member_family.result (c.member_family.ensures []) c.args.figures.now c.requires.count

pub put_all-requires-clause-off : goal.put_all-requires-clause-off
put_all-requires-clause-off g c =
    let numbers = c.args.numbers in
    let firsts : c.members-firsts.result.now ≡ firsts_on numbers c.args.sum.now =
    c.members-firsts.ensures ∙ ap (λ roll. members_of roll numbers.book.now.rolls numbers.lists.now) c.roll.ensures in
    members-off numbers c.requires.numbers c.requires.valid c.args.sum.now c.requires.reads c.members-firsts.result.now firsts
    c.member_family.result (c.member_family.ensures []) c.in-Some.blocks c.in-Some.ensures.there

pub put_all-requires-clause-together : goal.put_all-requires-clause-together
put_all-requires-clause-together g c =
    let numbers = c.args.numbers in
    let firsts : c.members-firsts.result.now ≡ firsts_on numbers c.args.sum.now =
    c.members-firsts.ensures ∙ ap (λ roll. members_of roll numbers.book.now.rolls numbers.lists.now) c.roll.ensures in
    members-few numbers c.requires.numbers c.requires.valid c.args.sum.now c.requires.reads c.members-firsts.result.now firsts
    c.member_family.result (c.member_family.ensures []) c.args.figures.now c.requires.members

pub returns-in-Some-clause-blocks : goal.returns-in-Some-clause-blocks
returns-in-Some-clause-blocks g c =
    let numbers = c.args.numbers in
    let firsts : c.members-firsts.result.now ≡ firsts_on numbers c.args.sum.now =
    c.members-firsts.ensures ∙ ap (λ roll. members_of roll numbers.book.now.rolls numbers.lists.now) c.roll.ensures in
    written-on numbers c.requires.numbers c.requires.valid c.args.sum.now c.requires.reads c.members-firsts.result.now firsts
    c.member_family.result (c.member_family.ensures []) c.in-Some.blocks c.in-Some.ensures.there c.args.figures.now c.put_all.new.figures
    c.put_all.ensures.sums c.put_all.ensures.kept c.put_all.ensures.settled

pub returns-in-Some-clause-others : goal.returns-in-Some-clause-others
returns-in-Some-clause-others g c =
    let numbers = c.args.numbers in
    let firsts : c.members-firsts.result.now ≡ firsts_on numbers c.args.sum.now =
    c.members-firsts.ensures ∙ ap (λ roll. members_of roll numbers.book.now.rolls numbers.lists.now) c.roll.ensures in
    written-off numbers c.requires.numbers c.requires.valid c.args.sum.now c.requires.reads c.members-firsts.result.now firsts
    c.member_family.result (c.member_family.ensures []) c.in-Some.blocks c.in-Some.ensures.there c.args.figures.now c.put_all.new.figures
    c.put_all.ensures.sums c.put_all.ensures.kept c.put_all.ensures.long

pub returns-in-None-clause-blocks : goal.returns-in-None-clause-blocks
returns-in-None-clause-blocks g c =
    let numbers = c.args.numbers in
    none-on numbers c.requires.numbers c.requires.valid c.args.sum.now c.requires.reads (firsts_on numbers c.args.sum.now) refl
    (family_in c.args.sum.now) refl c.args.figures.now (c.in-None.ensures.absent refl)

pub returns-in-None-clause-others : goal.returns-in-None-clause-others
returns-in-None-clause-others g c =
    let numbers = c.args.numbers in
    none-off numbers c.requires.numbers c.requires.valid c.args.sum.now c.requires.reads (firsts_on numbers c.args.sum.now) refl
    (family_in c.args.sum.now) refl c.args.figures.now
