use Rattle.std.proofs.Common.{◌^◌, map, refl, sym, ap, subst, ◌∙◌, arith}
use Rattle.std.specs.List.{list_any}
use Rattle.scr_num.specs.Sizes.{AreTogether}
use Rattle.scr_num.specs.Sums.{sum_ends}
use Rattle.scr_block_graph.specs.declared.point.Point.TheVariants as points
use Rattle.scr_tree.specs.Adding.{AreKnownAt, worked_of}
use Rattle.scr_tree.specs.Ready.{reckoning_on}
use Rattle.scr_tree.proofs.PointSources.{counted-are, second-beside}
use Rattle.scr_tree.proofs.Spanned.{point-right}
use Rattle.scr_tree.proofs.SumWorth.{block-small, block-sum}
use Rattle.scr_tree.proofs.Topped.{sources-known}
use Rattle.scr_tree.proofs.Upright.{rolls-are}
use Rattle.scr_tree.proofs.tops.second_level_up.Goals as goal

pub add_blocks-requires-clause-count : goal.add_blocks-requires-clause-count
add_blocks-requires-clause-count c =
    let b = c.args.basis in
    counted-are b.inputs.book.now b.places.now b.lists.now c.requires.basis.graph.numbers_of c.requires.basis.valid c.args.block.now.sum c.roll.result
    c.members-members.result.now c.members-members.ensures c.roll.ensures

pub add_blocks-requires-clause-there : goal.add_blocks-requires-clause-there
add_blocks-requires-clause-there c =
    let until = c.places-among.ensures.end in
    omega (arith, c.blocks_at-firsts.ensures, until)

pub add_blocks-requires-clause-known : goal.add_blocks-requires-clause-known
add_blocks-requires-clause-known c =
    let b = c.args.basis in
    let of = c.requires.basis.graph.numbers_of in
    let block = c.args.block.now in
    let below = second-beside b.inputs.book.now b.places.now b.lists.now of c.requires.basis.valid block c.requires.live c.requires.second c.roll.result c.roll.ensures
    c.members-members.result.now c.members-members.ensures c.blocks_at-firsts.result c.places-among.result.start c.places-among.result.end c.blocks_at-firsts.ensures
    c.places-among.ensures.start c.places-among.ensures.end in
    subst (AreKnownAt b c.args.figures.now) (sym below)
    (sources-known b c.requires.basis c.args.figures.now c.args.number c.requires.ready (points.Block block) c.requires.at)

pub add_blocks-requires-clause-together : goal.add_blocks-requires-clause-together
add_blocks-requires-clause-together c =
    let b = c.args.basis in
    let of = c.requires.basis.graph.numbers_of in
    let block = c.args.block.now in
    let below = second-beside b.inputs.book.now b.places.now b.lists.now of c.requires.basis.valid block c.requires.live c.requires.second c.roll.result c.roll.ensures
    c.members-members.result.now c.members-members.ensures c.blocks_at-firsts.result c.places-among.result.start c.places-among.result.end c.blocks_at-firsts.ensures
    c.places-among.ensures.start c.places-among.ensures.end in
    subst (AreTogether (2 ^ 124)) (sym (ap (map (worked_of b)) below))
    (block-small b.inputs.factors.now b.inputs.book.now c.requires.basis.valid (rolls-are b.inputs.book.now of.rolls) c.known.ensures block c.requires.live)

pub returns : goal.returns
returns c =
    let b = c.args.basis in
    let of = c.requires.basis.graph.numbers_of in
    let block = c.args.block.now in
    let below = second-beside b.inputs.book.now b.places.now b.lists.now of c.requires.basis.valid block c.requires.live c.requires.second c.roll.result c.roll.ensures
    c.members-members.result.now c.members-members.ensures c.blocks_at-firsts.result c.places-among.result.start c.places-among.result.end c.blocks_at-firsts.ensures
    c.places-among.ensures.start c.places-among.ensures.end in
    let close = c.add_blocks.ensures.close ∙ ap (λ ps. list_any (λ t. t) (map (λ p. ((reckoning_on b).worth p).close) ps)) below in
    point-right b c.requires.basis (points.Block block) c.add_blocks.result.span c.add_blocks.result.close c.add_blocks.result.close
    (c.add_blocks.ensures.span ∙ ap (λ ps. sum_ends (map (worked_of b) ps)) below
    ∙ block-sum b.inputs.factors.now b.inputs.book.now c.requires.basis.valid (rolls-are b.inputs.book.now of.rolls) block)
    close refl
