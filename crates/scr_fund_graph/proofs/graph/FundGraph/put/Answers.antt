use Rattle.std.proofs.Common.{◌∷◌, ◌||◌, map, ap, ◌∙◌}
use Rattle.std.specs.List.{list_any}
use Rattle.scr_tables.specs.Names.{same_name}
use Rattle.scr_fund_graph.specs.Graph.{entered_in}
use Rattle.scr_fund_graph.proofs.Entering.{any-names, any-with_names}
use Rattle.scr_fund_graph.proofs.graph.FundGraph.put.Goals as goal

pub returns-in-Ok-clause-entered : goal.returns-in-Ok-clause-entered
returns-in-Ok-clause-entered c = λ x.
    let fund = c.args.fund.now in
    let components = c.args.components.now in
    ap (list_any (same_name x)) c.in-Ok.ensures.entered
    ∙ any-with_names (fund ∷ map (λ c. c.0) components) c.args.self.now.names x
    ∙ ap (λ t. (same_name x fund || t) || entered_in c.args.self.now x) (any-names components x)
