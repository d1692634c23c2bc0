use Rattle.std.proofs.Common.{◌∙◌, ◌++◌, ◌+◌, ℕ, List, drop, ap, refl, sym, arith}
use Rattle.scr_cells.specs.Table.{table}
use Rattle.scr_explanation.specs.Moves.{all_bounds, moves, moves_in}
use Rattle.scr_explanation.proofs.MovedCells.{bounds-place, length_table, moves-end, moves-more}
use Rattle.scr_explanation.proofs.moves.push_from.Goals as goal

pub loop-k-init : goal.loop-k-init
unfolding moves
loop-k-init c = refl

pub bounds_in-requires : goal.bounds_in-requires
bounds_in-requires c = omega (arith, length_table, c.requires, c.loop-k-test.true)

pub loop-k-preserved : goal.loop-k-preserved
loop-k-preserved c =
    let factors = c.args.engine.now.factors in
    let sheet = c.args.engine.now.sheet in
    let olds = c.args.olds.now in
    let news = all_bounds factors sheet in
    let k = c.loop-k.k in
    ap (λ (items : List ℕ). items ++ moves_in (drop (k + 1) table) (drop (k + 1) olds) (drop (k + 1) news)) c.in_ok-push_move.ensures
    ∙ moves-more c.loop-k.out.items k olds news _ _ _ c.cell_name.ensures c.bounds_in.ensures
    (bounds-place factors sheet k _ c.bounds_at-new.ensures)
    ∙ c.loop-k.invariant

pub returns : goal.returns
returns c =
    sym (moves-end c.loop-k.out.items c.loop-k.k c.args.olds.now (all_bounds c.args.engine.now.factors c.args.engine.now.sheet)
    c.loop-k-test.false)
    ∙ c.loop-k.invariant
