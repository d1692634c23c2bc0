use Rattle.std.proofs.Common.{◌≡◌, ◌++◌, drop}
use Rattle.std.specs.List.{flat_map}
use Rattle.scr_touched.specs.Funds.{totals_of}
use Rattle.scr_touched.proofs.funds.push_totals.Given as goal

-- what is pushed so far and what the rest gives are what all give
abbrev pub invariant-loop-name : goal.invariant-loop-name
invariant-loop-name l =
    l.list.items ++ flat_map (λ c. totals_of c.0) (drop l.name-index l.name-items)
    ≡ l.initial.list.items ++ flat_map (λ c. totals_of c.0) l.stake.fund.components
