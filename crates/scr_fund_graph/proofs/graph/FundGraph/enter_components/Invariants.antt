-- The components so far are entered, and have their numbers; what holds what has stayed.
use Rattle.std.proofs.Common.{◌≡◌, take}
use Rattle.scr_fund_graph.specs.Graph.{components_under}
use Rattle.scr_fund_graph.proofs.Entering.{HaveEntered}
use Rattle.scr_fund_graph.proofs.graph.FundGraph.enter_components.Given as goal

abbrev pub invariant-loop-name : goal.invariant-loop-name
invariant-loop-name l =
    HaveEntered l.initial.self.names l.self.names l.numbers.items (take l.name-index l.components) × (l.self.components ≡ l.initial.self.components)
    × (components_under l.self ≡ components_under l.initial.self)
