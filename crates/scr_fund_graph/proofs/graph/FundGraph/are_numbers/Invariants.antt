use Rattle.std.proofs.Common.{◌≡◌, drop}
use Rattle.scr_fund_graph.specs.KeptNumbers.{are_numbers}
use Rattle.scr_fund_graph.proofs.graph.FundGraph.are_numbers.Given as goal

abbrev pub invariant-loop-k : goal.invariant-loop-k
invariant-loop-k l = are_numbers l.below (drop l.k l.numbers) (drop l.k l.components) l.self ≡ are_numbers l.below l.numbers l.components l.self
