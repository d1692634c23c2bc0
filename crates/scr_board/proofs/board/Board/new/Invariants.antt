use Rattle.scr_board.specs.BoardRounds.{lists_of}
use Rattle.scr_board.proofs.board.Board.new.Given as goal

abbrev pub ghosts-opened : goal.ghosts-opened
ghosts-opened g a = record { round = lists_of (g.G.Graph.round a._graph.now); workers = a.self.now.workers }
