use Rattle.scr_cells.proofs.LiveCells.{all_live, in_grains, length-table}
use Rattle.scr_cells.proofs.laws.figures.Goals as goal

pub returns : goal.returns
returns c = record { count = length-table; live = all_live; grains = in_grains }
