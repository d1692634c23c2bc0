use Rattle.std.proofs.Common.{ap}
use Rattle.std.specs.Prelude.{option_map}
use Rattle.scr_cells.specs.Table.{NamedFigure}
use Rattle.scr_cells.proofs.LiveCells.{live_at}
use Rattle.scr_cells.proofs.table.cell_node.Goals as goal

pub returns-clause-node : goal.returns-clause-node
returns-clause-node c = ap (option_map (λ (cell : NamedFigure). cell.node)) c.entry_of.ensures

pub returns-clause-live : goal.returns-clause-live
returns-clause-live c = λ sheet. live_at sheet c.args.k _ c.entry_of.ensures
