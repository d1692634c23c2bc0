-- The numbers so far have their names.
use Rattle.std.proofs.Common.{◌≡◌, map, take, slice_index_or}
use Rattle.scr_fund_graph.proofs.graph.FundGraph.names.Given as goal

abbrev pub invariant-loop-number : goal.invariant-loop-number
invariant-loop-number l = l.names.items ≡ map (λ k. slice_index_or l.self.names k l.fund)
    (take l.number-index l.numbers)
