-- The figure in its stored form (own).
use Rattle.scr_partial_sums.specs.declared.figure.Figure.{Figure}
use Rattle.scr_partial_sums.specs.declared.kept.KeptFigure.TheInside.{Inside}

-- The figure that a stored one stands for (own).
abbrev pub figure_in : Inside → Figure
figure_in kept = record { span = record { low = kept.low; high = kept.high; ordered = kept.ordered }; close = kept.close }
