-- What is told of a figure (this project's own): its bounds in hundredths of a unit that a person reads, rounded outward.
use Rattle.std.specs.Prelude.{ℕ, ◌&&◌, not, ◌==◌, Bool, List, if◌then◌else◌, count_by, filter, length, map, nat_le, nat_lt, unsigned_abs}
use Rattle.scr_num.specs.Rounding.{floor_div, ceil_div}
use Rattle.scr_factors.specs.Values.{FactorValues}
use Rattle.scr_sheet.specs.declared.sheet.BalanceSheet.{BalanceSheet}
use Rattle.scr_nodes.specs.declared.node.Node.{Node}
use Rattle.scr_rules.specs.Worked.{worked}
use Rattle.scr_figure_titles.specs.Titles.{unit_of}
use Rattle.scr_figure_titles.specs.Units.{scale}
use Rattle.scr_amounts.specs.declared.bounds.Bounds.{Bounds}

abbrev pub told_bounds : FactorValues → BalanceSheet → Node → Bounds
told_bounds factors sheet node = record {
  low = floor_div (worked factors sheet node).low (scale (unit_of node));
  high = ceil_div (worked factors sheet node).high (scale (unit_of node));
}

-- how large a figure is, in its own unit
abbrev pub size : FactorValues → BalanceSheet → Node → ℕ
size factors sheet node = unsigned_abs (worked factors sheet node).high

-- ---- which of many sources are told

-- fewer than so many of the sizes are larger than this one
abbrev pub has_fewer_larger : List ℕ → ℕ → ℕ → Bool
has_fewer_larger sizes top own = nat_lt (count_by (λ other. nat_lt own other) sizes) top

-- it is not nil, and among the so many largest
abbrev pub is_among_largest : FactorValues → BalanceSheet → ℕ → List Node → Node → Bool
is_among_largest factors sheet top sources node =
    let own = size factors sheet node in
    not (own == 0) && has_fewer_larger (map (size factors sheet) sources) top own

-- all sources, in the order of the rule, where there are no more than so many; of more the largest, in that order, and
-- all that are as large as the last of these
abbrev pub shown : FactorValues → BalanceSheet → ℕ → List Node → List Node
shown factors sheet top sources =
    if nat_le (length sources) top then sources else filter (is_among_largest factors sheet top sources) sources
