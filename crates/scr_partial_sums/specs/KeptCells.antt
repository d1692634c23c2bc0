-- The meaning of a cell's bits (own): from 2^127 on an index into the wide figures, and below a narrow figure.
use Rattle.std.specs.Prelude.{◌-◌, ◌^◌, nat_le, if◌then◌else◌}
use Rattle.scr_partial_sums.specs.Cells.{close_in, high_in, low_in}
use Rattle.scr_partial_sums.specs.declared.cell.Cell.TheInside.{Inside}
use Rattle.scr_partial_sums.specs.declared.cell.Kept.{Kept}
use Rattle.scr_partial_sums.specs.declared.cell.Kept.TheVariants as kept
use Rattle.scr_partial_sums.specs.declared.figure.Figure.{Figure}

-- The narrow figure that a cell holds (own).
abbrev pub narrow_in : Inside → Figure
narrow_in cell = record { span = record { low = low_in cell.bits; high = high_in cell.bits; ordered = cell.ordered }; close = close_in cell.bits }

-- What a cell holds: a narrow figure, or the index of a wide one (own).
abbrev pub kept_in : Inside → Kept
kept_in cell = if nat_le (2 ^ 127) cell.bits then kept.Apart (cell.bits - 2 ^ 127) else kept.Here (narrow_in cell)
