use Rattle.std.proofs.Common.{◌≡◌, ℕ, ◌-◌, ◌^◌, ◌<◌, length, sym, ap, subst, ◌∙◌, arith}
use Rattle.scr_sum_tree.specs.Blocks.{parts}
use Rattle.scr_sum_tree.specs.declared.blocks.Level.TheVariants as levels
use Rattle.scr_sum_tree.proofs.BlockTests.{over-many}
use Rattle.scr_num.specs.Sizes.{AreTogether}
use Rattle.scr_num.specs.Sums.{sum_ends}
use Rattle.scr_partial_sums.specs.Written.{blocks_ends}
use Rattle.scr_partial_sums.proofs.Numbered.{number-within}
use Rattle.scr_partial_sums.proofs.Summed.{firsts-sum, firsts-together, over-some, seconds-sum, seconds-together}
use Rattle.scr_partial_sums.proofs.writing.Subtotals.sum.Goals as goal

pub add_blocks-requires-clause-together : goal.add_blocks-requires-clause-together
add_blocks-requires-clause-together c =
    let s = c.args.self.now in
    let figures = c.args.figures.now in
    let firsts = c.args.firsts.now in
    let some = c.if-blocks-eq0.false in
    let blocks = c.blocks_at-blocks.ensures in
    let many : 32 < length firsts = over-some (length firsts) (omega (arith, some, blocks)) in
    let is : c.blocks_at-blocks.result - 0 ≡ parts (length firsts) = omega (arith, blocks, over-many (length firsts) many) in
    subst (λ (k : ℕ). AreTogether (2 ^ 124) (blocks_ends figures s levels.First 0 k)) (sym is)
    (firsts-together figures s c.args.family firsts c.requires.sums (2 ^ 124) many c.requires.together)

pub add_blocks-requires-else-seconds-eq0-clause-together : goal.add_blocks-requires-else-seconds-eq0-clause-together
add_blocks-requires-else-seconds-eq0-clause-together c =
    let s = c.args.self.now in
    let figures = c.args.figures.now in
    let firsts = c.args.firsts.now in
    let some = c.if-seconds-eq0.false in
    let blocks = c.blocks_at-seconds.ensures in
    let many : 32 < parts (length firsts) = over-some (parts (length firsts)) (omega (arith, some, blocks)) in
    let is : c.blocks_at-seconds.result - 0 ≡ parts (parts (length firsts)) = omega (arith, blocks, over-many (parts (length firsts)) many) in
    subst (λ (k : ℕ). AreTogether (2 ^ 124) (blocks_ends figures s levels.Second 0 k)) (sym is)
    (seconds-together figures s c.args.family firsts c.requires.sums (2 ^ 124) many c.requires.together)

pub returns-then-seconds-eq0 : goal.returns-then-seconds-eq0
returns-then-seconds-eq0 c =
    let s = c.args.self.now in
    let figures = c.args.figures.now in
    let firsts = c.args.firsts.now in
    let some = c.if-blocks-eq0.false in
    let blocks = c.blocks_at-blocks.ensures in
    let many : 32 < length firsts = over-some (length firsts) (omega (arith, some, blocks)) in
    let is : c.blocks_at-blocks.result - 0 ≡ parts (length firsts) = omega (arith, blocks, over-many (length firsts) many) in
    c.add_blocks.ensures.span ∙ ap (λ (k : ℕ). sum_ends (blocks_ends figures s levels.First 0 k)) is
    ∙ firsts-sum figures s c.args.family firsts c.requires.sums many

pub returns-else-seconds-eq0 : goal.returns-else-seconds-eq0
returns-else-seconds-eq0 c =
    let s = c.args.self.now in
    let figures = c.args.figures.now in
    let firsts = c.args.firsts.now in
    let some = c.if-seconds-eq0.false in
    let blocks = c.blocks_at-seconds.ensures in
    let many : 32 < parts (length firsts) = over-some (parts (length firsts)) (omega (arith, some, blocks)) in
    let is : c.blocks_at-seconds.result - 0 ≡ parts (parts (length firsts)) = omega (arith, blocks, over-many (parts (length firsts)) many) in
    c.add_blocks-else-seconds-eq0.ensures.span ∙ ap (λ (k : ℕ). sum_ends (blocks_ends figures s levels.Second 0 k)) is
    ∙ seconds-sum figures s c.args.family firsts c.requires.sums many

pub add_blocks-requires-clause-within : goal.add_blocks-requires-clause-within
add_blocks-requires-clause-within c = λ k from low.
    let there = number-within c.args.self.now (length c.args.firsts.now) c.requires.numbered levels.First k (omega (arith, low, c.blocks_at-blocks.ensures)) in
    omega (arith, there, c.requires.room)

pub add_blocks-requires-else-seconds-eq0-clause-within : goal.add_blocks-requires-else-seconds-eq0-clause-within
add_blocks-requires-else-seconds-eq0-clause-within c = λ k from low.
    let there = number-within c.args.self.now (length c.args.firsts.now) c.requires.numbered levels.Second k (omega (arith, low, c.blocks_at-seconds.ensures)) in
    omega (arith, there, c.requires.room)
