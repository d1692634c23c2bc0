use Rattle.std.proofs.Common.{sym, ap, ◌∙◌}
use Rattle.scr_fund_graph.specs.Graph.{Graph, number_in}
use Rattle.scr_fund_graph.proofs.Places.{number_at}
use Rattle.scr_fund_graph.proofs.graph.FundGraph.known.Goals as goal

pub returns-in-Some-clause-number : goal.returns-in-Some-clause-number
returns-in-Some-clause-number c =
    sym (number_at c.self.inside.names.keys c.args.name.now c.in-Some.place c.in-Some.ensures.index)
    ∙ ap (λ (g : Graph). number_in g.names c.args.name.now) c.self.view_is
