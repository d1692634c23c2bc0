use Rattle.std.proofs.Common.{◌≡◌, true, cond, Some, None, sym, ap, ◌∙◌, ◌||◌}
use Rattle.scr_tables.specs.Names.{same_name}
use Rattle.scr_fund_graph.specs.Graph.{Graph, number_in, entered_in, is_known}
use Rattle.scr_fund_graph.proofs.Entering.{still}
use Rattle.scr_fund_graph.proofs.Places.{number_at, number_past}
use Rattle.scr_fund_graph.proofs.graph.FundGraph.known_number.Goals as goal

pub returns-in-Some : goal.returns-in-Some
returns-in-Some c =
    let graph = c.args.self.now in
    let name = c.args.name.now in
    let number : c.in-Some.place ≡ number_in graph.names name =
    sym (number_at c.self.inside.names.keys name c.in-Some.place c.in-Some.ensures.index)
    ∙ ap (λ (g : Graph). number_in g.names name) c.self.view_is in
    let there : entered_in graph name ≡ true = sym (c.in-Some.ensures.found ∙ ap (λ (g : Graph). entered_in g name) c.self.view_is) in
    ap (λ n. Some n) number
    ∙ sym (ap (λ t. cond t (Some (number_in graph.names name)) None) (still (same_name name c.args.fund.now) (entered_in graph name) there))

pub returns-in-None : goal.returns-in-None
returns-in-None c =
    let graph = c.args.self.now in
    let name = c.args.name.now in
    let number : c.len.result ≡ number_in graph.names name =
    c.len.ensures.len ∙ sym (number_past c.self.inside.names.keys name c.in-None.ensures.index)
    ∙ ap (λ (g : Graph). number_in g.names name) c.self.view_is in
    let own : same_name name c.args.fund.now ≡ true = sym c.eq.ensures ∙ c.if-eq.true in
    ap (λ n. Some n) number
    ∙ sym (ap (λ t. cond (t || entered_in graph name) (Some (number_in graph.names name)) None) own)
