use Rattle.std.proofs.Common.{length, sym, subst}
use Rattle.scr_sum_tree.specs.Readers.{IsReader}
use Rattle.scr_block_graph.specs.Books.{rolled_of}
use Rattle.scr_block_graph.specs.Graph.{roll_in}
use Rattle.scr_tree.specs.Marking.{AreMarkedMore, IsReaderAt}
use Rattle.scr_tree.proofs.MarkedMore.{ok-then}
use Rattle.scr_tree.proofs.SumReaders.{block-marked}
use Rattle.scr_tree.proofs.graph.Graph.mark_read.Goals as goal

pub returns-in-Block-clause-marked : goal.returns-in-Block-clause-marked
returns-in-Block-clause-marked c =
    let numbers = c.args.self.now.numbers in
    ok-then c.mark_block.result c.mark_block.ensures.marked (λ m.
    subst (λ r. AreMarkedMore (IsReaderAt numbers.book.now numbers.places.now numbers.lists.now c.args.sum.now r) c.args.marks.now.list c.mark_block.new.marks.list) (sym c.in-Block.is)
    (block-marked numbers.book.now numbers.places.now numbers.lists.now c.requires.numbers c.args.sum.now c.in-Block.level c.in-Block.index c.requires.reads
    (subst (IsReader (length (roll_in (rolled_of numbers.book.now) c.args.sum.now))) c.in-Block.is c.requires.reader)
    c.args.marks.now.list c.mark_block.new.marks.list m))
