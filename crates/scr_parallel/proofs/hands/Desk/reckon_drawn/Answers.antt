use Rattle.std.proofs.Common.{length, pos, arith}
use Rattle.scr_num.specs.Rounding.{exact_ends}
use Rattle.scr_board.proofs.Delivered.{taken_node}
use Rattle.scr_parallel.specs.Apart.{apart_round}
use Rattle.scr_parallel.specs.PieceForming.{got-same, long-places}
use Rattle.scr_parallel.proofs.Drawn.{put-next}
use Rattle.scr_parallel.proofs.Pushed.{each-piece}
use Rattle.scr_parallel.specs.Rows.{IsWithin}
use Rattle.scr_parallel.proofs.hands.Desk.reckon_drawn.Goals as goal

pub bounds-self-n : goal.bounds-self-n
bounds-self-n g c =
    let many = length c.args.self.now.pieces.now in
    let low = taken_node c.args.self.now.board.now (apart_round many) c.args.hand.now.pass c.args.n c.requires.drawn.taken in
    let places = long-places many in
    omega (arith, low, places)

pub put-requires-clause-worked : goal.put-requires-clause-worked
put-requires-clause-worked g c =
    let many = length c.args.self.now.pieces.now in
    let low = taken_node c.args.self.now.board.now (apart_round many) c.args.hand.now.pass c.args.n c.requires.drawn.taken in
    let places = long-places many in (
      apart_round many,
      c.requires.drawn.taken.ready.lists,
      got-same (exact_ends (pos 0)) many c.args.n (omega (arith, low, places)),
    )

pub returns-in-Ok-clause-work : goal.returns-in-Ok-clause-work
returns-in-Ok-clause-work g c = λ not_full.
    let many = length c.args.self.now.pieces.now in
    let low = taken_node c.args.self.now.board.now (apart_round many) c.args.hand.now.pass c.args.n c.requires.drawn.taken in
    let places = long-places many in
    put-next (g.P.RowPlan.count c.args.self.now.plan.now) (g.P.RowPlan.is_row c.args.self.now.plan.now) c.args.self.now.pieces.now
    c.args.self.now.board.now c.args.hand.now c.args.n c.requires.drawn c.put.new.pass c.reckon_piece.new.part c.put.ensures.pass c.put.ensures.room
    c.put.ensures.put c.put.ensures.once c.in-Ok.ensures
    (each-piece (IsWithin (g.P.RowPlan.count c.args.self.now.plan.now)) c.args.self.now.pieces.now c.args.n c.requires.within (omega (arith, low, places)))
