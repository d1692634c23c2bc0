use Rattle.std.proofs.Common.{◌≡◌, ◌-◌, arith, length, subst, suc}
use Rattle.scr_board.specs.Making.{IsUnused}
use Rattle.scr_board.proofs.Unused.{unused_splits}
use Rattle.scr_board.proofs.board.Board.passes.Goals as goal

pub split_seat-part-requires : goal.split_seat-part-requires
split_seat-part-requires g c =
    let seat = c.loop-seat.invariant.seat in
    let words = seat.of_board.words in
    let ok = c.loop-seat.passes.ok in
    let long = c.len.ensures in
    let more = c.loop-seat-test.true in
    let share : c.args.self.now.workers - length c.loop-seat.passes.items ≡ suc (c.args.self.now.workers - length c.loop-seat.passes.items - 1)
    = omega (arith, ok, long, more) in (
      seat.of_board.table,
      omega (arith, words),
      unused_splits c.args.self.now (g.G.Graph.round c.args.graph.now) (c.args.self.now.workers - length c.loop-seat.passes.items - 1) _ c.loop-seat.seat
          (subst (λ n. IsUnused c.args.self.now (g.G.Graph.round c.args.graph.now) n c.loop-seat.seat) share seat) (omega (arith, ok, long, more)),
    )
