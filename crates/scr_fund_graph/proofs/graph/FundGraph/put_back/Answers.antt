use Rattle.std.proofs.Common.{sym, ap, subst, ◌∙◌}
use Rattle.scr_funds.specs.Components.{size_of}
use Rattle.scr_fund_graph.specs.Graph.{Graph, components_under}
use Rattle.scr_fund_graph.specs.KeptNumbers.{is_number, are_numbers}
use Rattle.scr_fund_graph.proofs.Graphs.{Sound, sound-from_inside}
use Rattle.scr_fund_graph.proofs.KeptRows.{both_true, own-entered, back-under, put-below, put-whole, put-acyclic}
use Rattle.scr_fund_graph.proofs.graph.FundGraph.put_back.Goals as goal

pub put_back-requires-clause-below : goal.put_back-requires-clause-below
put_back-requires-clause-below c =
    let s = subst Sound c.self.view_is (sound-from_inside c.self.inside c.self.invariant) in
    let graph = c.args.self.now in
    let told = both_true (is_number (size_of graph.components) c.args.kept.number c.args.fund.now graph) (are_numbers (size_of graph.components) c.args.kept.components.items c.args.components.now graph) (sym c.stands_for.ensures ∙ c.if-stands_for.true) in
    put-below graph.names graph.components s.distinct s.few s.order c.args.fund.now c.args.components.now c.args.kept.number c.args.kept.components.items told.0 told.1 c.requires.apart
    c.self.inside.order c.remove.new.self (ap (λ (g : Graph). g.components) c.self.view_is) c.remove.ensures.after c.new.result c.new.ensures

pub put_back-requires-clause-acyclic : goal.put_back-requires-clause-acyclic
put_back-requires-clause-acyclic c =
    let s = subst Sound c.self.view_is (sound-from_inside c.self.inside c.self.invariant) in
    let graph = c.args.self.now in
    let told = both_true (is_number (size_of graph.components) c.args.kept.number c.args.fund.now graph) (are_numbers (size_of graph.components) c.args.kept.components.items c.args.components.now graph) (sym c.stands_for.ensures ∙ c.if-stands_for.true) in
    put-acyclic graph.names graph.components s.distinct s.few s.order c.args.fund.now c.args.components.now c.args.kept.number c.args.kept.components.items told.0 told.1 c.requires.apart
    c.self.inside.order c.remove.new.self (ap (λ (g : Graph). g.components) c.self.view_is) c.remove.ensures.after c.new.result c.new.ensures

pub returns-then-stands_for-clause-back : goal.returns-then-stands_for-clause-back
returns-then-stands_for-clause-back c = λ yes.
    let s = subst Sound c.self.view_is (sound-from_inside c.self.inside c.self.invariant) in
    let graph = c.args.self.now in
    let told = both_true (is_number (size_of graph.components) c.args.kept.number c.args.fund.now graph) (are_numbers (size_of graph.components) c.args.kept.components.items c.args.components.now graph) (sym c.stands_for.ensures ∙ c.if-stands_for.true) in
    let whole = put-whole graph.names graph.components s.distinct s.few s.order c.args.fund.now c.args.components.now c.args.kept.number c.args.kept.components.items told.0 told.1 c.requires.apart
    c.self.inside.order c.remove.new.self (ap (λ (g : Graph). g.components) c.self.view_is) c.remove.ensures.after c.new.result c.new.ensures in
    ap (λ (g : Graph). components_under (record { names = g.names; components = c.put_back.new.self })) c.self.view_is
    ∙ ap (λ cs. components_under (record { names = graph.names; components = cs })) (c.put_back.ensures.after ∙ whole)
    ∙ back-under graph.names graph.components s.distinct s.few s.order c.args.fund.now c.args.components.now c.args.kept.number c.args.kept.components.items told.0 told.1 c.requires.apart

pub returns-then-stands_for-clause-own : goal.returns-then-stands_for-clause-own
returns-then-stands_for-clause-own c = λ yes.
    let s = subst Sound c.self.view_is (sound-from_inside c.self.inside c.self.invariant) in
    let graph = c.args.self.now in
    let told = both_true (is_number (size_of graph.components) c.args.kept.number c.args.fund.now graph) (are_numbers (size_of graph.components) c.args.kept.components.items c.args.components.now graph) (sym c.stands_for.ensures ∙ c.if-stands_for.true) in
    own-entered graph.names graph.components s.distinct s.few s.order c.args.fund.now c.args.components.now c.args.kept.number c.args.kept.components.items told.0 told.1 c.requires.apart
