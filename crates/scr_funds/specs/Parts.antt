-- How a fund's value is shared out among its components (Article 84 of Delegated Regulation (EU) 2015/35, the
-- look-through approach; the rounding is this project's own).
use Rattle.std.specs.Prelude.{ℕ, ◌+◌, ◌-◌, ◌*◌, ◌/◌, List, sum, take}

-- what the first k components have together: the value times the sum of their weights over the sum of all, rounded down
abbrev pub first_parts : ℕ → List ℕ → ℕ → ℕ
first_parts value weights k = value * sum (take k weights) / sum weights

-- the part of the component at place k, counted from 0: what the first k + 1 have together, less what the first k have
abbrev pub part_of : ℕ → List ℕ → ℕ → ℕ
part_of value weights k = first_parts value weights (k + 1) - first_parts value weights k
