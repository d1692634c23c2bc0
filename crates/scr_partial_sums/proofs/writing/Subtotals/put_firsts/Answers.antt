use Rattle.std.proofs.Common.{◌≡◌, ℕ, ◌+◌, ◌^◌, ◌<◌, List, length, sym, ap, subst, ◌∙◌, arith}
use Rattle.std.specs.Prelude.{All}
use Rattle.scr_sum_tree.specs.Blocks.{part}
use Rattle.scr_sum_tree.specs.declared.blocks.Level.TheVariants as levels
use Rattle.scr_num.specs.Rounding.{Ends}
use Rattle.scr_num.specs.Sizes.{AreTogether}
use Rattle.scr_num.specs.Sums.{sum_ends}
use Rattle.scr_partial_sums.specs.Figures.{members_ends}
use Rattle.scr_partial_sums.specs.Written.{IsPut, part_ends}
use Rattle.scr_partial_sums.specs.declared.figure.Figure.{Figure}
use Rattle.scr_partial_sums.proofs.Parted.{all-part, members-part, part-kept, together-part}
use Rattle.scr_partial_sums.proofs.Putting.{one-put}
use Rattle.scr_partial_sums.proofs.writing.Subtotals.put_firsts.Goals as goal

pub add_members-span-requires-clause-within : goal.add_members-span-requires-clause-within
add_members-span-requires-clause-within c =
    let now = c.loop-index.figures in
    let long = c.loop-index.invariant.kept.long in
    let family = c.args.family in
    subst (λ (xs : List ℕ). All (λ first. first + family < length now) xs) (sym c.part.ensures)
    (all-part (λ first. first + family < length now) c.loop-index.index c.args.firsts.now
    (λ k d low. let within = c.requires.within k d low in omega (arith, within, long)))

pub add_members-span-requires-clause-together : goal.add_members-span-requires-clause-together
add_members-span-requires-clause-together c =
    let before = c.args.figures.now in
    let now = c.loop-index.figures in
    let i = c.loop-index.index in
    let family = c.args.family in
    let firsts = c.args.firsts.now in
    let low = c.loop-index-test.true in
    let many = c.blocks_at-index-end.ensures in
    let same : members_ends now family c.part.result.now ≡ part i (members_ends before family firsts) =
    ap (members_ends now family) c.part.ensures
    ∙ part-kept c.args.self.now levels.First i (part_ends before family firsts) before now c.loop-index.invariant family firsts (omega (arith, low, many))
    c.requires.off i
    ∙ sym (members-part before family firsts i) in
    subst (λ (es : List Ends). AreTogether (2 ^ 124) es) (sym same) (together-part (2 ^ 124) i (members_ends before family firsts) c.requires.together)

pub loop-index-preserved : goal.loop-index-preserved
loop-index-preserved c =
    let before = c.args.figures.now in
    let now = c.loop-index.figures in
    let i = c.loop-index.index in
    let family = c.args.family in
    let firsts = c.args.firsts.now in
    let low = c.loop-index-test.true in
    let many = c.blocks_at-index-end.ensures in
    let same : members_ends now family c.part.result.now ≡ members_ends before family (part i firsts) =
    ap (members_ends now family) c.part.ensures
    ∙ part-kept c.args.self.now levels.First i (part_ends before family firsts) before now c.loop-index.invariant family firsts (omega (arith, low, many))
    c.requires.off i in
    subst (λ (figures : List Figure). IsPut c.args.self.now levels.First (i + 1) (part_ends before family firsts) before figures) (sym c.put.ensures)
    (one-put c.args.self.now (length firsts) c.requires.numbered levels.First (part_ends before family firsts) before i now c.add_members-span.result
    (omega (arith, low, many)) c.requires.room (c.add_members-span.ensures ∙ ap sum_ends same) c.loop-index.invariant)
