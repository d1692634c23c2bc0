use Rattle.std.proofs.Common.{◌≡◌, sym, ap, ◌∙◌, rules}
use Rattle.indexmap.specs.IndexSet.{insert_key}
use Rattle.scr_tables.specs.Names.{same_name}
use Rattle.scr_fund_graph.specs.Graph.{Graph, number_in, components_under}
use Rattle.scr_fund_graph.proofs.Places.{number_before, under_once}
use Rattle.scr_fund_graph.proofs.graph.FundGraph.enter.Goals as goal

pub returns-clause-number : goal.returns-clause-number
returns-clause-number c =
    c.in-Ok.ensures.index ∙ sym (number_before c.self.inside.names.keys c.args.name.now)
    ∙ ap (λ (g : Graph). number_in g.names c.args.name.now) c.self.view_is

pub returns-clause-under : goal.returns-clause-under
returns-clause-under c =
    let keys : c.insert_full.new.self.keys ≡ insert_key same_name c.self.inside.names.keys c.args.name.now = search rules in
    ap (λ ns. components_under (record { names = ns; components = c.self.inside.order })) keys
    ∙ under_once c.self.inside.names.keys c.self.inside.order c.self.invariant.named c.self.invariant.order c.args.name.now
    ∙ ap components_under c.self.view_is
