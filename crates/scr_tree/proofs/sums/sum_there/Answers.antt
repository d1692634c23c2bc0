use Rattle.std.proofs.Common.{◌≡◌, [], ◌∙◌, ap}
use Rattle.scr_num.specs.Sums.{sum_ends}
use Rattle.scr_member_index.specs.Lists.{members_of}
use Rattle.scr_tree.specs.Summed.{firsts_on}
use Rattle.scr_tree.proofs.SumNumbers.{as-counted, ends-same, members-few, members-within, room-is, summed-on}
use Rattle.scr_tree.proofs.sums.sum_there.Goals as goal

pub sum-requires-clause-numbered : goal.sum-requires-clause-numbered
sum-requires-clause-numbered c =
    let numbers = c.args.numbers in
    let firsts : c.members-firsts.result.now ≡ firsts_on numbers c.args.sum.now =
    c.members-firsts.ensures ∙ ap (λ roll. members_of roll numbers.book.now.rolls numbers.lists.now) c.roll.ensures in
    as-counted numbers c.requires.numbers c.requires.valid c.args.sum.now c.requires.reads c.members-firsts.result.now firsts
    c.member_family-family.result (c.member_family-family.ensures []) c.in-Some.blocks c.in-Some.ensures.there.numbered

pub sum-requires-clause-room : goal.sum-requires-clause-room
sum-requires-clause-room c =
    let numbers = c.args.numbers in
    let firsts : c.members-firsts.result.now ≡ firsts_on numbers c.args.sum.now =
    c.members-firsts.ensures ∙ ap (λ roll. members_of roll numbers.book.now.rolls numbers.lists.now) c.roll.ensures in
    room-is numbers c.requires.numbers c.requires.valid c.args.sum.now c.requires.reads c.members-firsts.result.now firsts
    c.member_family-family.result (c.member_family-family.ensures []) c.in-Some.blocks c.in-Some.ensures.there c.args.figures.now c.requires.count

pub sum-requires-clause-within : goal.sum-requires-clause-within
sum-requires-clause-within c =
    let numbers = c.args.numbers in
    let firsts : c.members-firsts.result.now ≡ firsts_on numbers c.args.sum.now =
    c.members-firsts.ensures ∙ ap (λ roll. members_of roll numbers.book.now.rolls numbers.lists.now) c.roll.ensures in
    members-within numbers c.requires.numbers c.requires.valid c.args.sum.now c.requires.reads c.members-firsts.result.now firsts
    c.member_family-family.result (c.member_family-family.ensures []) c.args.figures.now c.requires.count

pub sum-requires-clause-sums : goal.sum-requires-clause-sums
sum-requires-clause-sums c =
    let numbers = c.args.numbers in
    let firsts : c.members-firsts.result.now ≡ firsts_on numbers c.args.sum.now =
    c.members-firsts.ensures ∙ ap (λ roll. members_of roll numbers.book.now.rolls numbers.lists.now) c.roll.ensures in
    summed-on numbers c.requires.numbers c.requires.valid c.args.sum.now c.requires.reads c.members-firsts.result.now firsts
    c.member_family-family.result (c.member_family-family.ensures []) c.in-Some.blocks c.in-Some.ensures.there c.args.figures.now c.requires.blocks

pub sum-requires-clause-together : goal.sum-requires-clause-together
sum-requires-clause-together c =
    let numbers = c.args.numbers in
    let firsts : c.members-firsts.result.now ≡ firsts_on numbers c.args.sum.now =
    c.members-firsts.ensures ∙ ap (λ roll. members_of roll numbers.book.now.rolls numbers.lists.now) c.roll.ensures in
    members-few numbers c.requires.numbers c.requires.valid c.args.sum.now c.requires.reads c.members-firsts.result.now firsts
    c.member_family-family.result (c.member_family-family.ensures []) c.args.figures.now c.requires.members

pub returns-in-Some : goal.returns-in-Some
returns-in-Some c =
    let numbers = c.args.numbers in
    let firsts : c.members-firsts.result.now ≡ firsts_on numbers c.args.sum.now =
    c.members-firsts.ensures ∙ ap (λ roll. members_of roll numbers.book.now.rolls numbers.lists.now) c.roll.ensures in
    c.sum.ensures
    ∙ ap sum_ends (ends-same numbers c.requires.numbers c.requires.valid c.args.sum.now c.requires.reads c.members-firsts.result.now firsts
    c.member_family-family.result (c.member_family-family.ensures []) c.args.figures.now)

pub add_members-requires-clause-within : goal.add_members-requires-clause-within
add_members-requires-clause-within c =
    let numbers = c.args.numbers in
    let firsts : c.members-firsts.result.now ≡ firsts_on numbers c.args.sum.now =
    c.members-firsts.ensures ∙ ap (λ roll. members_of roll numbers.book.now.rolls numbers.lists.now) c.roll.ensures in
    members-within numbers c.requires.numbers c.requires.valid c.args.sum.now c.requires.reads c.members-firsts.result.now firsts
    c.member_family-family.result (c.member_family-family.ensures []) c.args.figures.now c.requires.count

pub add_members-requires-clause-together : goal.add_members-requires-clause-together
add_members-requires-clause-together c =
    let numbers = c.args.numbers in
    let firsts : c.members-firsts.result.now ≡ firsts_on numbers c.args.sum.now =
    c.members-firsts.ensures ∙ ap (λ roll. members_of roll numbers.book.now.rolls numbers.lists.now) c.roll.ensures in
    members-few numbers c.requires.numbers c.requires.valid c.args.sum.now c.requires.reads c.members-firsts.result.now firsts
    c.member_family-family.result (c.member_family-family.ensures []) c.args.figures.now c.requires.members

pub returns-in-None : goal.returns-in-None
returns-in-None c =
    let numbers = c.args.numbers in
    let firsts : c.members-firsts.result.now ≡ firsts_on numbers c.args.sum.now =
    c.members-firsts.ensures ∙ ap (λ roll. members_of roll numbers.book.now.rolls numbers.lists.now) c.roll.ensures in
    c.add_members.ensures
    ∙ ap sum_ends (ends-same numbers c.requires.numbers c.requires.valid c.args.sum.now c.requires.reads c.members-firsts.result.now firsts
    c.member_family-family.result (c.member_family-family.ensures []) c.args.figures.now)
