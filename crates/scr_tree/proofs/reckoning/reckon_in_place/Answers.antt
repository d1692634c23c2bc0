use Rattle.std.proofs.Common.{sym, subst}
use Rattle.scr_tree.specs.Ready.{AreInTurnOn, StandsOn}
use Rattle.scr_tree.proofs.Journaled.{journaled-long}
use Rattle.scr_tree.proofs.Turning.{in-turn}
use Rattle.scr_tree.proofs.reckoning.reckon_in_place.Goals as goal
use Rattle.scr_block_graph.specs.Books.{rolled_of}
use Rattle.scr_tree.specs.Points.{book_graph}

pub write_in_turn-requires-clause-turn : goal.write_in_turn-requires-clause-turn
write_in_turn-requires-clause-turn g c =
    let basis = c.args.basis in
    let order = c.requires.order in
    subst (AreInTurnOn basis) (sym c.in_ok-journal.ensures.numbers)
    (in-turn (book_graph (rolled_of basis.inputs.book.now)) (StandsOn basis) order.0 c.args.order.numbers.items c.args.order.ends.items order.1)

pub undo-requires : goal.undo-requires
undo-requires g c = c.write_in_turn.ensures.journaled.within

pub returns-in-Ok-clause-count : goal.returns-in-Ok-clause-count
returns-in-Ok-clause-count g c =
    journaled-long c.write_in_turn.new.journal.former.items c.args.figures.now c.write_in_turn.new.figures
    c.write_in_turn.ensures.journaled
