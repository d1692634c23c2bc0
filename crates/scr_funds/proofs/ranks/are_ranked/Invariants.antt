-- The funds so far are above their components.
use Rattle.std.proofs.Common.{ℕ, ◌<◌, All}
use Rattle.scr_funds.specs.Components.{components_of}
use Rattle.scr_funds.specs.Ranks.{rank_of}
use Rattle.scr_funds.specs.Search.{rows_of}
use Rattle.scr_funds.proofs.ranks.are_ranked.Given as goal

abbrev pub invariant-loop-fund : goal.invariant-loop-fund
invariant-loop-fund l = (fund : ℕ) → fund < l.fund
    → All (λ component. rank_of l.ranks component < rank_of l.ranks fund) (components_of (rows_of l.rows) fund)
