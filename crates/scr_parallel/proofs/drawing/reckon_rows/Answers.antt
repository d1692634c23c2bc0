use Rattle.std.proofs.Common.{◌≡◌, length, sym, ap, subst, arith}
use Rattle.std.specs.List.{AllByRecursion}
use Rattle.scr_board.specs.Working.{IsFresh}
use Rattle.scr_parallel.specs.Apart.{apart_round}
use Rattle.scr_parallel.specs.Hands.{IsOpen}
use Rattle.scr_parallel.proofs.drawing.reckon_rows.Goals as goal

pub work_all-requires-clause-open : goal.work_all-requires-clause-open
work_all-requires-clause-open g c κs within =
    let board = c.in_ok-board.board in
    let pieces = c.in_ok-pieces.pieces.items in
    let starts = ap (λ xs. length xs) c.as_slice.ensures.value in
    let count = c.in_ok-starts.ensures.count in
    let nodes = c.len-nodes.ensures in
    let ok = c.in_ok-pieces.pieces.ok in
    let many : length c.as_slice.result.now ≡ length pieces = omega (arith, starts, count, nodes, ok) in
    let fresh = subst (λ n. AllByRecursion (IsFresh board (apart_round n)) c.in_ok-board.passes.items) many c.in_ok-board.ensures.fresh in
    subst (λ ps. AllByRecursion (IsOpen board ps) c.as_mut_slice.result.now) (sym c.as_slice-2.ensures.value)
    (subst (λ hs. AllByRecursion (IsOpen board pieces) hs) (sym c.as_mut_slice.ensures.value) (c.in_ok-hands.ensures.open board pieces fresh))
