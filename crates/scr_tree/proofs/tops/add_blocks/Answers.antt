use Rattle.std.proofs.Common.{◌≡◌, ℕ, ◌+◌, ◌-◌, ◌<◌, ◌≤◌, ◌^◌, length, sym, ap, subst, refl, ◌∙◌, arith}
use Rattle.scr_sum_tree.specs.Blocks.{blocks_at}
use Rattle.scr_sum_tree.specs.declared.blocks.Level.TheVariants as levels
use Rattle.scr_num.specs.Sizes.{AreTogether}
use Rattle.scr_num.specs.Sums.{sum_ends}
use Rattle.scr_partial_sums.specs.Written.{AreNumbered, number_of}
use Rattle.scr_block_graph.specs.Books.{rolled_of}
use Rattle.scr_block_graph.specs.Graph.{block_point, roll_in}
use Rattle.scr_tree.specs.Ready.{StandsOn, numbers_on}
use Rattle.scr_tree.specs.Summed.{AreOwnBlocks}
use Rattle.scr_tree.specs.declared.graph.Numbers.{Numbers}
use Rattle.scr_tree.proofs.Here.{numbers-here}
use Rattle.scr_tree.proofs.SquareBlocks.{valid-numbers}
use Rattle.scr_tree.proofs.Topped.{blocks-open, blocks-within, blocks-worth, none-at, nothing-added}
use Rattle.scr_tree.proofs.tops.add_blocks.Goals as goal

pub blocks_of-requires-clause-numbers : goal.blocks_of-requires-clause-numbers
blocks_of-requires-clause-numbers c = numbers-here c.args.basis c.requires.basis c.numbers.result c.numbers.ensures

pub blocks_of-requires-clause-valid : goal.blocks_of-requires-clause-valid
blocks_of-requires-clause-valid c = valid-numbers c.args.basis c.requires.basis c.numbers.result c.numbers.ensures

pub add_blocks-requires-clause-numbered : goal.add_blocks-requires-clause-numbered
add_blocks-requires-clause-numbered c =
    let b = c.args.basis in
    let sum = c.args.sum.now in
    let level = c.args.level in
    let start = c.args.among.start in
    let end = c.args.among.end in
    let blocks = c.in-Some.blocks in
    let own : AreOwnBlocks (numbers_on b) sum blocks = subst (λ (n : Numbers). AreOwnBlocks n sum blocks) c.numbers.ensures c.in-Some.ensures.there in
    let there : end ≤ blocks_at (length (roll_in (rolled_of b.inputs.book.now) sum)) level =
    (let low = c.requires.there in let count = ap (λ n. blocks_at n level) c.requires.count in omega (arith, low, count)) in
    let stand : (i : ℕ) → start ≤ i → i < start + (end - start) → StandsOn b (block_point sum level i) (number_of blocks level i) =
    (λ i from low. own.at level i (omega (arith, from, low, there))) in
    subst (AreNumbered blocks) (sym c.requires.count) own.numbered

pub add_blocks-requires-clause-within : goal.add_blocks-requires-clause-within
add_blocks-requires-clause-within c =
    let b = c.args.basis in
    let sum = c.args.sum.now in
    let level = c.args.level in
    let start = c.args.among.start in
    let end = c.args.among.end in
    let blocks = c.in-Some.blocks in
    let own : AreOwnBlocks (numbers_on b) sum blocks = subst (λ (n : Numbers). AreOwnBlocks n sum blocks) c.numbers.ensures c.in-Some.ensures.there in
    let there : end ≤ blocks_at (length (roll_in (rolled_of b.inputs.book.now) sum)) level =
    (let low = c.requires.there in let count = ap (λ n. blocks_at n level) c.requires.count in omega (arith, low, count)) in
    let stand : (i : ℕ) → start ≤ i → i < start + (end - start) → StandsOn b (block_point sum level i) (number_of blocks level i) =
    (λ i from low. own.at level i (omega (arith, from, low, there))) in
    (λ i from low. blocks-within b c.requires.basis c.args.figures.now sum level start (end - start) blocks stand c.requires.known i from (omega (arith, from, low)))

pub add_blocks-requires-clause-together : goal.add_blocks-requires-clause-together
add_blocks-requires-clause-together c =
    let b = c.args.basis in
    let sum = c.args.sum.now in
    let level = c.args.level in
    let start = c.args.among.start in
    let end = c.args.among.end in
    let blocks = c.in-Some.blocks in
    let own : AreOwnBlocks (numbers_on b) sum blocks = subst (λ (n : Numbers). AreOwnBlocks n sum blocks) c.numbers.ensures c.in-Some.ensures.there in
    let there : end ≤ blocks_at (length (roll_in (rolled_of b.inputs.book.now) sum)) level =
    (let low = c.requires.there in let count = ap (λ n. blocks_at n level) c.requires.count in omega (arith, low, count)) in
    let stand : (i : ℕ) → start ≤ i → i < start + (end - start) → StandsOn b (block_point sum level i) (number_of blocks level i) =
    (λ i from low. own.at level i (omega (arith, from, low, there))) in
    subst (AreTogether (2 ^ 124))
    (sym (blocks-worth b c.requires.basis c.args.figures.now sum level start (end - start) blocks stand c.requires.known)) c.requires.together

pub returns-in-Some : goal.returns-in-Some
returns-in-Some c =
    let b = c.args.basis in
    let sum = c.args.sum.now in
    let level = c.args.level in
    let start = c.args.among.start in
    let end = c.args.among.end in
    let blocks = c.in-Some.blocks in
    let own : AreOwnBlocks (numbers_on b) sum blocks = subst (λ (n : Numbers). AreOwnBlocks n sum blocks) c.numbers.ensures c.in-Some.ensures.there in
    let there : end ≤ blocks_at (length (roll_in (rolled_of b.inputs.book.now) sum)) level =
    (let low = c.requires.there in let count = ap (λ n. blocks_at n level) c.requires.count in omega (arith, low, count)) in
    let stand : (i : ℕ) → start ≤ i → i < start + (end - start) → StandsOn b (block_point sum level i) (number_of blocks level i) =
    (λ i from low. own.at level i (omega (arith, from, low, there))) in
    record {
      span = c.add_blocks.ensures.span
          ∙ ap sum_ends (blocks-worth b c.requires.basis c.args.figures.now sum level start (end - start) blocks stand c.requires.known);
      close = c.add_blocks.ensures.close ∙ blocks-open b c.requires.basis c.args.figures.now sum level start (end - start) blocks stand c.requires.known;
    }

pub returns-in-None : goal.returns-in-None
returns-in-None c =
    let b = c.args.basis in
    let sum = c.args.sum.now in
    let level = c.args.level in
    let there = c.requires.there in
    let absent : blocks_at (length (roll_in (rolled_of b.inputs.book.now) sum)) levels.First ≡ 0 =
    subst (λ (n : Numbers). blocks_at (length (roll_in (rolled_of n.book.now) sum)) levels.First ≡ 0) c.numbers.ensures (c.in-None.ensures.absent refl) in
    let none = none-at c.args.count level (ap (λ n. blocks_at n levels.First) c.requires.count ∙ absent) in
    nothing-added b c.requires.basis sum level c.args.among.start c.args.among.end c.nothing.result (omega (arith, there, none))
    c.nothing.ensures.span c.nothing.ensures.close
