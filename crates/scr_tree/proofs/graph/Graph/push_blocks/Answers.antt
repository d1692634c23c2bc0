use Rattle.std.proofs.Common.{ap, subst, sym, arith}
use Rattle.scr_sum_tree.specs.Blocks.{blocks_at}
use Rattle.scr_partial_sums.specs.Written.{AreNumbered}
use Rattle.scr_block_graph.specs.Graph.{block_point}
use Rattle.scr_tree.specs.Points.{StandsIn}
use Rattle.scr_tree.proofs.PointSources.{all-blocks, next-block, no-blocks}
use Rattle.scr_tree.proofs.graph.Graph.push_blocks.Goals as goal

pub loop-index-init : goal.loop-index-init
loop-index-init c =
    let numbers = c.args.self.now.numbers in
    no-blocks numbers.book.now numbers.places.now numbers.lists.now c.args.sum.now c.args.level c.args.among.start c.args.among.end c.args.list.now.items

pub number-requires-clause-numbered : goal.number-requires-clause-numbered
number-requires-clause-numbered c = subst (AreNumbered c.in-Some.blocks) (sym c.requires.count) c.in-Some.ensures.there.numbered

pub number-requires-clause-there : goal.number-requires-clause-there
number-requires-clause-there c =
    let there = c.requires.there in
    let count = ap (λ n. blocks_at n c.args.level) c.requires.count in
    omega (arith, there, count, c.loop-index-test.true)

pub loop-index-preserved : goal.loop-index-preserved
loop-index-preserved c =
    let numbers = c.args.self.now.numbers in
    let sum = c.args.sum.now in
    let level = c.args.level in
    let index = c.loop-index.index in
    let there = c.requires.there in
    let stands : StandsIn numbers.book.now numbers.places.now numbers.lists.now (block_point sum level index) c.number.result =
    subst (StandsIn numbers.book.now numbers.places.now numbers.lists.now (block_point sum level index)) (sym c.number.ensures.number)
    (c.in-Some.ensures.there.at level index (omega (arith, there, c.loop-index-test.true))) in
    next-block numbers.book.now numbers.places.now numbers.lists.now sum level c.args.among.start c.args.among.end c.args.list.now.items c.requires.numbers
    index c.loop-index.list.items c.push.new.self.items c.number.result c.loop-index-test.true stands c.in_ok-push.ensures.items
    c.loop-index.invariant

pub returns : goal.returns
returns c =
    let numbers = c.args.self.now.numbers in
    all-blocks numbers.book.now numbers.places.now numbers.lists.now c.args.sum.now c.args.level c.args.among.start c.args.among.end c.args.list.now.items
    c.loop-index.index c.loop-index.list.items (omega (arith, c.loop-index-test.false)) c.loop-index.invariant
