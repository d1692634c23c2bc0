use Rattle.std.proofs.Common.{◌≡◌, ◌∙◌, ◌++◌, ℕ, List, ap, ap₂, sym, unwrap_or}
use Rattle.scr_cells.specs.Block.{cell_line, requirement_line}
use Rattle.scr_cells.specs.Table.{NamedFigure, requirement_cell, seen, table}
use Rattle.scr_cells.proofs.LiveCells.{live_at}
use Rattle.scr_cells.proofs.block.requirement_line.Goals as goal

pub push_cell-requires : goal.push_cell-requires
push_cell-requires c = live_at c.args.engine.now.sheet 16 _ c.entry_of.ensures

pub returns : goal.returns
unfolding requirement_line table
returns c =
    let is : seen c.entry_of.result.now ≡ requirement_cell = sym (ap (λ o. unwrap_or o requirement_cell) c.entry_of.ensures) in
    c.in_ok-push_cell.ensures
    ∙ ap₂ (λ (front : List ℕ) (cell : NamedFigure). front ++ cell_line c.args.engine.now.factors c.args.engine.now.sheet cell)
    c.new-line.ensures.items is
