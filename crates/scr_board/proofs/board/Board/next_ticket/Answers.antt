use Rattle.std.proofs.Common.{rules, ap}
use mathlib.Core.Option.{none}
use Rattle.atomic_table.specs.Table.{step}
use Rattle.scr_board.specs.Plays.{Sat}
use Rattle.scr_board.proofs.Seats.{seat_drawn}
use Rattle.scr_board.proofs.Allowed.{draw_allowed}
use Rattle.scr_board.proofs.board.Board.next_ticket.Goals as goal

pub fetch_add-requires : goal.fetch_add-requires
fetch_add-requires c = (search rules, search rules, draw_allowed _ _ _ (step 0 0 0 0 none) c.requires.seat.part c.requires.unmarked)

pub returns-clause-seat : goal.returns-clause-seat
returns-clause-seat c = seat_drawn c.args.self.now c.args.seat.now c.fetch_add.new.seat c.requires.seat c.fetch_add.ensures.0 c.fetch_add.result c.fetch_add.ensures.2.0

pub returns-clause-view : goal.returns-clause-view
returns-clause-view c = ap (λ (m : Sat). m.0) c.fetch_add.ensures.2.0

pub returns-clause-once : goal.returns-clause-once
returns-clause-once c = c.fetch_add.ensures.2.1
