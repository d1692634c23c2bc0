use Rattle.scr_board.proofs.Passing.{pass_drawn}
use Rattle.scr_board.proofs.board.Board.draw.Goals as goal

pub returns-clause-pass : goal.returns-clause-pass
returns-clause-pass c = pass_drawn c.args.self.now c.args.pass.now _ c.requires.pass c.next_ticket-ticket.ensures.seat c.next_ticket-ticket.result c.next_ticket-ticket.ensures.view
