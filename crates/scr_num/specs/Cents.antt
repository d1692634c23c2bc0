-- Whole cents as figures, and in grains, thousandths of a cent, this project's own.
use Rattle.std.specs.Prelude.{ℕ, ◌*◌, pos}
use Rattle.scr_num.specs.Fraction.{whole}
use Rattle.scr_num.specs.Figure.{Figure}
use Rattle.scr_num.specs.Figure.Figure.{Frac}
use Rattle.scr_num.specs.Rounding.{Ends, exact_ends}

abbrev pub cents_figure : ℕ → Figure
cents_figure cents = Frac (whole (pos cents))

abbrev pub cents_ends : ℕ → Ends
cents_ends cents = exact_ends (pos (1000 * cents))
