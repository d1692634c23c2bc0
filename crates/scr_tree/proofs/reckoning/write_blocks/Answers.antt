use Rattle.std.proofs.Common.{◌≡◌, inl, inr, ◌+◌, Some, drop, length, set, slice_get, refl, sym, ap, subst, ◌∙◌, arith}
use Rattle.std.proofs.lemmas.Bool.{cases_lt}
use Rattle.std.proofs.lemmas.List.{length-set}
use Rattle.scr_member_index.specs.Lists.{members_of}
use Rattle.scr_block_graph.specs.declared.sum.Sum.TheVariants as sums
use Rattle.scr_tree.specs.Ready.{AreKnownBut}
use Rattle.scr_tree.specs.SquareRun.{IsBlockAtOn}
use Rattle.scr_tree.specs.Summed.{firsts_on}
use Rattle.scr_tree.specs.declared.graph.Numbers.{Numbers}
use Rattle.scr_tree.proofs.Here.{numbers-here}
use Rattle.scr_tree.proofs.SquareBlocks.{block-comes, block-not, block-own, blocks-over, none-over, past-blocks, squares-few, squares-numbered, valid-numbers}
use Rattle.scr_tree.proofs.SquareRun.{known-more, next-ready, next-within}
use Rattle.scr_tree.proofs.reckoning.write_blocks.Goals as goal

pub blocks_of-requires-clause-numbers : goal.blocks_of-requires-clause-numbers
blocks_of-requires-clause-numbers g c = numbers-here c.args.basis c.requires.basis c.numbers-numbers.result c.numbers-numbers.ensures

pub blocks_of-requires-clause-valid : goal.blocks_of-requires-clause-valid
blocks_of-requires-clause-valid g c = valid-numbers c.args.basis c.requires.basis c.numbers-numbers.result c.numbers-numbers.ensures

pub loop-index-init : goal.loop-index-init
loop-index-init g c = record {
  count = omega arith;
  numbers = refl;
  each = λ index low. absurd (omega (arith, low));
  long = refl;
  known = c.requires.known;
  kept = λ before is. is;
  steps = omega arith;
}

pub number-number-requires-clause-numbered : goal.number-number-requires-clause-numbered
number-number-requires-clause-numbered g c =
    let numbers = c.numbers-numbers.result in
    let all : c.members-members.result.now ≡ firsts_on numbers sums.Squares =
    c.members-members.ensures ∙ ap (λ roll. members_of roll numbers.book.now.rolls numbers.lists.now) c.roll.ensures in
    squares-numbered c.args.basis c.requires.basis numbers c.numbers-numbers.ensures c.members-members.result.now all c.in-Some.blocks
    c.in-Some.ensures.there

pub number-number-requires-clause-there : goal.number-number-requires-clause-there
number-number-requires-clause-there g c = omega (arith, c.blocks_at-index-end.ensures, c.loop-index-test.true)

pub overflow_cast-index : goal.overflow_cast-index
overflow_cast-index g c =
    let numbers = c.numbers-numbers.result in
    let all : c.members-members.result.now ≡ firsts_on numbers sums.Squares =
    c.members-members.ensures ∙ ap (λ roll. members_of roll numbers.book.now.rolls numbers.lists.now) c.roll.ensures in
    let few = squares-few c.args.basis c.requires.basis numbers c.numbers-numbers.ensures c.members-members.result.now all in
    omega (arith, few, c.blocks_at-index-end.ensures, c.loop-index-test.true)

pub block_at-figure-requires-clause-still : goal.block_at-figure-requires-clause-still
block_at-figure-requires-clause-still g c = c.requires.still

pub block_at-figure-requires-clause-members : goal.block_at-figure-requires-clause-members
block_at-figure-requires-clause-members g c =
    let numbers = c.numbers-numbers.result in
    let all : c.members-members.result.now ≡ firsts_on numbers sums.Squares =
    c.members-members.ensures ∙ ap (λ roll. members_of roll numbers.book.now.rolls numbers.lists.now) c.roll.ensures in
    all ∙ ap (λ (n : Numbers). firsts_on n sums.Squares) c.numbers-numbers.ensures

pub block_at-figure-requires-clause-own : goal.block_at-figure-requires-clause-own
block_at-figure-requires-clause-own g c =
    let numbers = c.numbers-numbers.result in
    let all : c.members-members.result.now ≡ firsts_on numbers sums.Squares =
    c.members-members.ensures ∙ ap (λ roll. members_of roll numbers.book.now.rolls numbers.lists.now) c.roll.ensures in
    block-own c.args.basis c.requires.basis numbers c.numbers-numbers.ensures c.members-members.result.now all c.in-Some.blocks
    c.in-Some.ensures.there c.loop-index.index c.number-number.result (omega (arith, c.blocks_at-index-end.ensures, c.loop-index-test.true))
    c.number-number.ensures.number

pub block_at-figure-requires-clause-ready : goal.block_at-figure-requires-clause-ready
block_at-figure-requires-clause-ready g c =
    let k = c.loop-index.journal.next in
    let number = c.number-number.result in
    next-ready c.args.basis c.requires.basis c.args.journal.now.numbers.items c.requires.turn k c.loop-index.figures number
    (subst (λ ns. slice_get ns k ≡ Some number) c.loop-index.invariant.numbers (c.is_next.ensures.yes c.if-not-is_next.false))
    c.loop-index.invariant.known

pub write-requires-clause-next : goal.write-requires-clause-next
write-requires-clause-next g c = c.is_next.ensures.yes c.if-not-is_next.false

pub write-requires-clause-within : goal.write-requires-clause-within
write-requires-clause-within g c =
    let k = c.loop-index.journal.next in
    let number = c.number-number.result in
    let long = c.loop-index.invariant.long in
    let room = c.requires.room in
    next-within c.args.basis c.requires.basis c.args.journal.now.numbers.items c.requires.turn k c.loop-index.figures number
    (subst (λ ns. slice_get ns k ≡ Some number) c.loop-index.invariant.numbers (c.is_next.ensures.yes c.if-not-is_next.false))
    (omega (arith, long, room))

pub loop-index-preserved : goal.loop-index-preserved
loop-index-preserved g c =
    let b = c.args.basis in
    let numbers = c.args.journal.now.numbers.items in
    let number = c.number-number.result in
    let figure = c.block_at-figure.result in
    let k = c.loop-index.journal.next in
    let old = c.loop-index.figures in
    let now = c.write.new.figures in
    let at : slice_get numbers k ≡ Some number =
    subst (λ ns. slice_get ns k ≡ Some number) c.loop-index.invariant.numbers (c.is_next.ensures.yes c.if-not-is_next.false) in
    let more = c.write.ensures.next in
    let far = c.loop-index.invariant.count in
    let table = c.numbers-numbers.result in
    let all : c.members-members.result.now ≡ firsts_on table sums.Squares =
    c.members-members.ensures ∙ ap (λ roll. members_of roll table.book.now.rolls table.lists.now) c.roll.ensures in
    let start = c.args.journal.now.next in
    let index = c.loop-index.index in
    let own : IsBlockAtOn b index numbers (start + index) =
    block-comes b c.requires.basis table c.numbers-numbers.ensures c.members-members.result.now all c.in-Some.blocks c.in-Some.ensures.there
    index number (omega (arith, c.blocks_at-index-end.ensures, c.loop-index-test.true)) c.number-number.ensures.number numbers (start + index)
    (subst (λ place. slice_get numbers place ≡ Some number) far at) in
    let long = c.loop-index.invariant.long in
    let room = c.requires.room in
    let written : now ≡ set old number figure = c.write.ensures.written in
    let known : AreKnownBut b (set old number figure) (drop (k + 1) numbers) =
    known-more b c.requires.basis numbers c.requires.turn k old number at figure c.block_at-figure.ensures (omega (arith, long, room))
    c.loop-index.invariant.known in
    record {
      count = omega (arith, more, far);
      numbers = c.write.ensures.numbers ∙ c.loop-index.invariant.numbers;
      each = λ other less. elim (cases_lt other index) [
        | inl before ↦ c.loop-index.invariant.each other before
        | inr not ↦ (let same : index ≡ other = omega (arith, less, not) in subst (λ r. IsBlockAtOn b r numbers (start + r)) same own)
      ];
      long = ap length written ∙ length-set old number figure ∙ long;
      known = subst (λ figures. AreKnownBut b figures (drop c.write.new.self.next numbers)) (sym written)
          (subst (λ place. AreKnownBut b (set old number figure) (drop place numbers)) (sym more) known);
      kept = λ before is. c.write.ensures.journaled before (c.loop-index.invariant.kept before is);
      steps = let step = c.tick.ensures in let so_far = c.loop-index.invariant.steps in omega (arith, step, so_far);
    }

-- ---- none comes, or none more

pub returns-in_default-clause-run : goal.returns-in_default-clause-run
returns-in_default-clause-run g c =
    let b = c.args.basis in
    let numbers = c.args.journal.now.numbers.items in
    let start = c.args.journal.now.next in
    blocks-over b numbers start start 0 (omega arith) (λ other low. absurd (omega (arith, low)))
    (none-over b c.requires.basis c.numbers-numbers.result c.numbers-numbers.ensures (c.in_default.ensures.absent refl) 0 numbers start)

pub returns-then-not-is_next-clause-run : goal.returns-then-not-is_next-clause-run
returns-then-not-is_next-clause-run g c =
    let b = c.args.basis in
    let numbers = c.args.journal.now.numbers.items in
    let k = c.loop-index.journal.next in
    let table = c.numbers-numbers.result in
    let all : c.members-members.result.now ≡ firsts_on table sums.Squares =
    c.members-members.ensures ∙ ap (λ roll. members_of roll table.book.now.rolls table.lists.now) c.roll.ensures in
    blocks-over b numbers c.args.journal.now.next k c.loop-index.index c.loop-index.invariant.count c.loop-index.invariant.each
    (block-not b c.requires.basis table c.numbers-numbers.ensures c.members-members.result.now all c.in-Some.blocks c.in-Some.ensures.there
    c.loop-index.index c.number-number.result (omega (arith, c.blocks_at-index-end.ensures, c.loop-index-test.true)) c.number-number.ensures.number numbers k
    (λ on. c.is_next.ensures.not c.if-not-is_next.true (ap (λ ns. slice_get ns k) c.loop-index.invariant.numbers ∙ on)))

pub returns-then-not-is_next-clause-known : goal.returns-then-not-is_next-clause-known
returns-then-not-is_next-clause-known g c = c.loop-index.invariant.known

pub returns-then-not-is_next-clause-journaled : goal.returns-then-not-is_next-clause-journaled
returns-then-not-is_next-clause-journaled g c = c.loop-index.invariant.kept

pub returns-then-not-is_next-clause-steps : goal.returns-then-not-is_next-clause-steps
returns-then-not-is_next-clause-steps g c = omega (arith, c.loop-index.invariant.steps, c.loop-index.invariant.count)

pub returns-clause-run : goal.returns-clause-run
returns-clause-run g c =
    let b = c.args.basis in
    let numbers = c.args.journal.now.numbers.items in
    let k = c.loop-index.journal.next in
    let table = c.numbers-numbers.result in
    let all : c.members-members.result.now ≡ firsts_on table sums.Squares =
    c.members-members.ensures ∙ ap (λ roll. members_of roll table.book.now.rolls table.lists.now) c.roll.ensures in
    blocks-over b numbers c.args.journal.now.next k c.loop-index.index c.loop-index.invariant.count c.loop-index.invariant.each
    (past-blocks b c.requires.basis table c.numbers-numbers.ensures c.members-members.result.now all c.loop-index.index
    (omega (arith, c.blocks_at-index-end.ensures, c.loop-index-test.false)) numbers k)

pub returns-clause-known : goal.returns-clause-known
returns-clause-known g c = c.loop-index.invariant.known

pub returns-clause-journaled : goal.returns-clause-journaled
returns-clause-journaled g c = c.loop-index.invariant.kept

pub returns-clause-steps : goal.returns-clause-steps
returns-clause-steps g c = omega (arith, c.loop-index.invariant.steps, c.loop-index.invariant.count)
