use Rattle.std.proofs.Common.{◌≡◌, ◌+◌, ◌-◌, ◌*◌, ◌^◌, min, List, sym, ap, subst, ◌∙◌, arith}
use Rattle.scr_sum_tree.specs.Blocks.{blocks_at, part}
use Rattle.scr_sum_tree.specs.declared.blocks.Level.TheVariants as levels
use Rattle.scr_num.specs.Rounding.{Ends}
use Rattle.scr_num.specs.Sizes.{AreTogether}
use Rattle.scr_num.specs.Sums.{sum_ends}
use Rattle.scr_partial_sums.specs.Figures.{ends_at}
use Rattle.scr_partial_sums.specs.Written.{IsPut, blocks_ends, number_of, second_ends}
use Rattle.scr_partial_sums.specs.declared.figure.Figure.{Figure}
use Rattle.scr_partial_sums.proofs.Numbered.{number-within}
use Rattle.scr_partial_sums.proofs.Parted.{together-part}
use Rattle.scr_partial_sums.proofs.Putting.{one-put}
use Rattle.scr_partial_sums.proofs.Seconds.{blocks-kept, part-of_range}
use Rattle.scr_partial_sums.proofs.writing.Subtotals.put_seconds.Goals as goal

pub add_blocks-sum-requires-clause-together : goal.add_blocks-sum-requires-clause-together
add_blocks-sum-requires-clause-together c =
    let s = c.args.self.now in
    let before = c.args.figures.now in
    let now = c.loop-index.figures in
    let i = c.loop-index.index in
    let low = c.loop-index-test.true in
    let many = c.blocks_at-index-end.ensures in
    let start = c.places-among.result.start in
    let end = c.places-among.result.end in
    let firsts = blocks_at c.args.count levels.First in
    let from : start ≡ min firsts (32 * i) = c.places-among.ensures.start ∙ ap (λ n. min n (32 * i)) c.blocks_at-firsts.ensures in
    let to : end ≡ min firsts (32 * i + 32) = c.places-among.ensures.end ∙ ap (λ n. min n (32 * i + 32)) c.blocks_at-firsts.ensures in
    let same : blocks_ends now s levels.First start (end - start) ≡ part i (blocks_ends before s levels.First 0 firsts) =
    blocks-kept s c.args.count c.requires.numbered i (second_ends before s c.args.count) before now c.loop-index.invariant (omega (arith, low, many))
    start (end - start) (omega (arith, from, to))
    ∙ part-of_range (λ k. ends_at before (number_of s levels.First k)) firsts i start end from to in
    subst (λ (es : List Ends). AreTogether (2 ^ 124) es) (sym same)
    (together-part (2 ^ 124) i (blocks_ends before s levels.First 0 firsts) c.requires.together)

pub loop-index-preserved : goal.loop-index-preserved
loop-index-preserved c =
    let s = c.args.self.now in
    let before = c.args.figures.now in
    let now = c.loop-index.figures in
    let i = c.loop-index.index in
    let low = c.loop-index-test.true in
    let many = c.blocks_at-index-end.ensures in
    let start = c.places-among.result.start in
    let end = c.places-among.result.end in
    let firsts = blocks_at c.args.count levels.First in
    let from : start ≡ min firsts (32 * i) = c.places-among.ensures.start ∙ ap (λ n. min n (32 * i)) c.blocks_at-firsts.ensures in
    let to : end ≡ min firsts (32 * i + 32) = c.places-among.ensures.end ∙ ap (λ n. min n (32 * i + 32)) c.blocks_at-firsts.ensures in
    let same : blocks_ends now s levels.First start (end - start) ≡ part i (blocks_ends before s levels.First 0 firsts) =
    blocks-kept s c.args.count c.requires.numbered i (second_ends before s c.args.count) before now c.loop-index.invariant (omega (arith, low, many))
    start (end - start) (omega (arith, from, to))
    ∙ part-of_range (λ k. ends_at before (number_of s levels.First k)) firsts i start end from to in
    subst (λ (figures : List Figure). IsPut s levels.Second (i + 1) (second_ends before s c.args.count) before figures) (sym c.put.ensures)
    (one-put s c.args.count c.requires.numbered levels.Second (second_ends before s c.args.count) before i now c.add_blocks-sum.result.span
    (omega (arith, low, many)) c.requires.room (c.add_blocks-sum.ensures.span ∙ ap sum_ends same) c.loop-index.invariant)

pub add_blocks-sum-requires-clause-within : goal.add_blocks-sum-requires-clause-within
add_blocks-sum-requires-clause-within c = λ k from low.
    let s = c.args.self.now in
    let i = c.loop-index.index in
    let to = c.places-among.ensures.end in
    let firsts = c.blocks_at-firsts.ensures in
    let there = number-within s c.args.count c.requires.numbered levels.First k (omega (arith, low, to, firsts)) in
    omega (arith, there, c.requires.room, c.loop-index.invariant.kept.long)
