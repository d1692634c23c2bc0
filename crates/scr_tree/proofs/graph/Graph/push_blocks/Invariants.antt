use Rattle.scr_tree.proofs.PointSources.{AreBlocksSoFar}
use Rattle.scr_tree.proofs.graph.Graph.push_blocks.Given as goal

-- the numbers of the Blocks so far stand behind what stood there
abbrev pub invariant-loop-index : goal.invariant-loop-index
invariant-loop-index l =
    AreBlocksSoFar l.self.numbers.book.now l.self.numbers.places.now l.self.numbers.lists.now l.sum l.level l.fn.among.start l.fn.among.end l.initial.list.items l.index
    l.list.items
