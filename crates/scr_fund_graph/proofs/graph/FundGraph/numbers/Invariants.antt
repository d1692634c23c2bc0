-- The known ones of the components so far have their numbers.
use Rattle.std.proofs.Common.{◌≡◌, map, take}
use Rattle.scr_fund_graph.specs.Graph.{number_in, known_among}
use Rattle.scr_fund_graph.proofs.graph.FundGraph.numbers.Given as goal

abbrev pub invariant-loop-name : goal.invariant-loop-name
invariant-loop-name l = l.numbers.items ≡ map (λ c. number_in l.self.names c.0) (known_among l.fund (take l.name-index l.components) l.self)
