use Rattle.std.proofs.Common.{sym, ap, ◌∙◌}
use Rattle.scr_fund_graph.specs.Graph.{Graph, number_in}
use Rattle.scr_fund_graph.proofs.Places.{number_at, number_past}
use Rattle.scr_fund_graph.proofs.graph.FundGraph.number.Goals as goal

pub returns-in-Some : goal.returns-in-Some
returns-in-Some c =
    sym (number_at c.self.inside.names.keys c.args.name.now c.in-Some.place c.in-Some.ensures.index)
    ∙ ap (λ (g : Graph). number_in g.names c.args.name.now) c.self.view_is

pub returns-in-None : goal.returns-in-None
returns-in-None c =
    c.len.ensures.len ∙ sym (number_past c.self.inside.names.keys c.args.name.now c.in-None.ensures.index)
    ∙ ap (λ (g : Graph). number_in g.names c.args.name.now) c.self.view_is
