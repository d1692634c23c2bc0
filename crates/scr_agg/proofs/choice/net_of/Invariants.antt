use Rattle.std.proofs.Common.{◌≡◌, drop, fold, map}
use Rattle.scr_num.specs.Rounding.{ends, max_ends}
use Rattle.scr_agg.specs.Unbeaten.{Alternative, alternatives, chosen_net}
use Rattle.scr_agg.proofs.choice.net_of.Given as goal

abbrev pub invariant-loop-i : goal.invariant-loop-i
invariant-loop-i l = fold max_ends (ends l.net) (drop l.i (map (λ (a : Alternative). a.net) (alternatives l.list)))
    ≡ chosen_net (alternatives l.list)
