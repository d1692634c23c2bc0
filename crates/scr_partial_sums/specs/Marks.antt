-- The figure that a mark stands for (own).
use Rattle.scr_partial_sums.specs.Cells.{close_in, high_in, low_in}
use Rattle.scr_partial_sums.specs.declared.cell.Mark.{Mark}
use Rattle.scr_partial_sums.specs.declared.figure.Figure.{Figure}

-- The figure in the bits of a mark (own).
abbrev pub figure_of : Mark → Figure
figure_of mark = record { span = record { low = low_in mark.bits; high = high_in mark.bits; ordered = mark.ordered }; close = close_in mark.bits }
