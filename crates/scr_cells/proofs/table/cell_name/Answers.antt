use Rattle.std.proofs.Common.{ap}
use Rattle.std.specs.Prelude.{option_map}
use Rattle.scr_cells.specs.Table.{NamedFigure}
use Rattle.scr_cells.proofs.table.cell_name.Goals as goal

pub returns : goal.returns
returns c = ap (option_map (λ (cell : NamedFigure). cell.name)) c.entry_of.ensures
