use Rattle.std.proofs.Common.{arith}
use Rattle.scr_block_graph.specs.Graph.{block_point}
use Rattle.scr_tree.proofs.MarkedMore.{ok-then}
use Rattle.scr_tree.proofs.SumReaders.{found-within, index-small, point-marked}
use Rattle.scr_tree.proofs.graph.Graph.mark_block.Goals as goal

pub overflow_cast-block : goal.overflow_cast-block
overflow_cast-block c =
    let numbers = c.args.self.now.numbers in
    let small = index-small numbers.book.now numbers.places.now numbers.lists.now c.requires.numbers c.requires.valid c.args.sum.now c.args.level c.args.index c.requires.there in
    omega (arith, small)

pub mark_some-requires : goal.mark_some-requires
mark_some-requires c =
    let numbers = c.args.self.now.numbers in
    found-within numbers.book.now numbers.places.now numbers.lists.now c.requires.numbers (block_point c.args.sum.now c.args.level c.args.index) c.number_of.result c.number_of.ensures.there
    c.args.marks.now.size c.requires.room

pub returns-clause-marked : goal.returns-clause-marked
returns-clause-marked c =
    let numbers = c.args.self.now.numbers in
    ok-then c.mark_some.result c.mark_some.ensures.marked
    (point-marked numbers.book.now numbers.places.now numbers.lists.now c.requires.numbers (block_point c.args.sum.now c.args.level c.args.index) c.number_of.result c.number_of.ensures.there
    c.number_of.ensures.absent c.args.marks.now.list c.mark_some.new.marks.list)
