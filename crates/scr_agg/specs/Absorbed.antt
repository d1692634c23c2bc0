-- Capital requirements net of the loss absorbency of technical provisions: what is left of a gross figure, after
-- Article 206(2) of Delegated Regulation (EU) 2015/35, where the absorption of the scenario is handed in.
use Rattle.std.specs.Prelude.{ℕ, ◌*◌, pos}
use Rattle.scr_num.specs.Fraction.{Fraction, zero_fraction, whole, minus, greater}
use Rattle.scr_num.specs.Figure.{Figure}
use Rattle.scr_num.specs.Figure.Figure.{Frac, Diff, Max}
use Rattle.scr_num.specs.Rounding.{Ends, exact_ends, sub_ends, max_ends}

-- the gross figure less so many cents, and no less than 0
abbrev pub net_figure : Figure → ℕ → Figure
net_figure gross absorb = Max (Frac zero_fraction) (Diff gross (Frac (whole (pos absorb))))

-- the same of ends in grains, thousandths of a cent
abbrev pub net_ends : Ends → ℕ → Ends
net_ends gross absorb = max_ends (exact_ends (pos 0)) (sub_ends gross (exact_ends (pos (1000 * absorb))))

-- what is left of an exact amount
abbrev pub net_exact : Fraction → ℕ → Fraction
net_exact gross absorb = greater zero_fraction (minus gross (whole (pos absorb)))
