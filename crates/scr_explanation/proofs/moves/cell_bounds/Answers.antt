use Rattle.std.proofs.Common.{◌∙◌, ◌++◌, ◌+◌, List, drop, map, ap}
use Rattle.scr_cells.specs.Table.{table}
use Rattle.scr_explanation.specs.Moves.{all_bounds, cell_bounds}
use Rattle.scr_amounts.specs.declared.bounds.Bounds.{Bounds}
use Rattle.scr_explanation.proofs.MovedCells.{all-there, as-many, bounds-more}
use Rattle.scr_explanation.proofs.moves.cell_bounds.Goals as goal

pub loop-k-init : goal.loop-k-init
unfolding all_bounds
loop-k-init c =
    ap (λ (items : List Bounds). items ++ map (cell_bounds c.args.engine.now.factors c.args.engine.now.sheet) table)
    c.new-bounds.ensures.items

pub loop-k-preserved : goal.loop-k-preserved
loop-k-preserved c =
    let shown = cell_bounds c.args.engine.now.factors c.args.engine.now.sheet in
    ap (λ (items : List Bounds). items ++ map shown (drop (c.loop-k.k + 1) table)) c.in_ok-push.ensures.items
    ∙ bounds-more shown c.loop-k.bounds.items c.loop-k.k c.bounds_at.result c.bounds_at.ensures
    ∙ c.loop-k.invariant

pub invariant_of-result : goal.invariant_of-result
invariant_of-result c =
    as-many c.args.engine.now.factors c.args.engine.now.sheet c.loop-k.bounds.items c.loop-k.k c.loop-k-test.false c.loop-k.invariant

pub returns : goal.returns
returns c =
    all-there c.args.engine.now.factors c.args.engine.now.sheet c.loop-k.bounds.items c.loop-k.k c.loop-k-test.false c.loop-k.invariant
