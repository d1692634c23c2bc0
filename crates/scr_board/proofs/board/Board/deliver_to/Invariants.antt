use Rattle.scr_board.proofs.board.Board.deliver_to.Given as goal

abbrev pub ghosts-deliver_as : goal.ghosts-deliver_as
ghosts-deliver_as a = record { node = a._node; place = a._place }
