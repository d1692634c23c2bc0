use Rattle.std.proofs.Common.{◌≡◌, [], sym, ap, subst, ◌∙◌, arith}
use Rattle.std.proofs.lemmas.List.{length-set}
use Rattle.scr_funds.specs.Components.{IsOrder, with_components, size_of}
use Rattle.scr_funds.proofs.Rows.{order_removed}
use Rattle.scr_fund_graph.specs.Graph.{Graph, components_under, components_after, number_in}
use Rattle.scr_fund_graph.proofs.Graphs.{sound-from_inside, acyclic-under, under-clear}
use Rattle.scr_fund_graph.proofs.graph.FundGraph.clear.Goals as goal

after : (c : goal.After-drop-remove) → c.remove.new.self
    ≡ with_components (number_in c.self.inside.names.keys c.args.fund.now) [] c.self.inside.order
after c =
    c.remove.ensures.after
    ∙ ap (λ k. with_components k [] c.self.inside.order)
    (c.number-number.ensures ∙ ap (λ (g : Graph). number_in g.names c.args.fund.now) (sym c.self.view_is))

pub invariant_of-self : goal.invariant_of-self
invariant_of-self c =
    let size = ap size_of (after c) ∙ length-set c.self.inside.order
    (number_in c.self.inside.names.keys c.args.fund.now) [] in
    let named = c.self.invariant.named in
    record {
      distinct = c.self.invariant.distinct;
      few = c.self.invariant.few;
      named = omega (arith, size, named);
      order = subst IsOrder (sym (after c))
          (order_removed (number_in c.self.inside.names.keys c.args.fund.now) c.self.inside.order
          c.self.invariant.order);
    }

pub returns-clause-components : goal.returns-clause-components
returns-clause-components c =
    let named = c.self.invariant.named in
    ap (λ all. components_under (record { names = c.self.inside.names.keys; components = all })) (after c)
    ∙ under-clear c.self.inside.names.keys c.self.inside.order (omega (arith, named)) c.args.fund.now
    ∙ ap (components_after c.args.fund.now []) c.self.view_is

pub returns-clause-acyclic : goal.returns-clause-acyclic
returns-clause-acyclic c =
    acyclic-under (record { names = c.self.inside.names.keys; components = c.remove.new.self })
    (sound-from_inside (record { names = c.self.inside.names; order = c.remove.new.self }) (invariant_of-self c))
