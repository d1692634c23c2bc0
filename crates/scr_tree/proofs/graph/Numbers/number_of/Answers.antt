use Rattle.std.proofs.Common.{subst, sym}
use Rattle.scr_block_graph.specs.BlockNumbers.{BlockAt}
use Rattle.scr_block_graph.specs.declared.point.Point.{Point}
use Rattle.scr_tree.specs.Points.{StandsIn, list_numbers}
use Rattle.scr_tree.proofs.graph.Numbers.number_of.Goals as goal

pub returns-in-Block-clause-absent : goal.returns-in-Block-clause-absent
returns-in-Block-clause-absent c = λ none number at.
    let book = c.args.self.now.book.now in
    let places = c.args.self.now.places.now in
    let block = c.in-Block.block in
    c.block_number.ensures.absent none number
    (subst (λ parts. BlockAt (list_numbers book.rolls) parts places block number) (sym c.parts.ensures)
    (subst (λ (point : Point). StandsIn book places c.args.self.now.lists.now point number) c.in-Block.is at))
