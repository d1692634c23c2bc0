use Rattle.std.proofs.Common.{◌≡◌, Err, map, get_or, Some, sym, ap, subst, ◌∙◌}
use Rattle.scr_funds.specs.Answers.{Answers as Found}
use Rattle.scr_funds.specs.Chains.{LeadsTo, IsFirstShortest}
use Rattle.scr_funds.specs.Components.{components_with}
use Rattle.scr_fund_graph.specs.Graph.{Graph, number_in, known_among}
use Rattle.scr_fund_graph.proofs.Graphs.{Sound, sound-from_inside, carried, apart_named, no_path, path}
use Rattle.scr_fund_graph.proofs.Known.{all_known, known_path, known_none, known_apart}
use Rattle.scr_fund_graph.proofs.graph.FundGraph.check.Goals as goal

-- with no chain among the numbers there is none among the names
none : (c : goal.In-Ok-check_edges) → ¬ LeadsTo
    (components_with (number_in c.args.self.now.names c.args.fund.now)
    (map (λ x. number_in c.args.self.now.names x.0) (known_among c.args.fund.now c.args.components.now c.args.self.now)) c.args.self.now.components)
    (number_in c.args.self.now.names c.args.fund.now) (number_in c.args.self.now.names c.args.fund.now)
none c =
    carried (λ from members all. ¬ LeadsTo (components_with from members all) from from) c.number.result
    (number_in c.args.self.now.names c.args.fund.now) c.deref.result.now
    (map (λ x. number_in c.args.self.now.names x.0) (known_among c.args.fund.now c.args.components.now c.args.self.now))
    c.self.inside.order c.args.self.now.components c.number.ensures (c.deref.ensures.value ∙ c.in-Ok.ensures)
    (ap (λ (g : Graph). g.components) c.self.view_is) c.in-Ok-check_edges.ensures.answer

pub returns-in-Ok-check_edges-clause-answer : goal.returns-in-Ok-check_edges-clause-answer
returns-in-Ok-check_edges-clause-answer c = λ most holders holds enough.
    let s = subst Sound c.self.view_is (sound-from_inside c.self.inside c.self.invariant) in
    let graph = c.args.self.now in
    let fund = c.args.fund.now in
    let known = known_among fund c.args.components.now graph in
    sym (known_path graph s.few fund c.args.components.now most)
    ∙ no_path graph.names graph.components s.distinct s.few s.order fund known
    (all_known graph s.few fund c.args.components.now) most (none c)

pub returns-in-Ok-check_edges-clause-apart : goal.returns-in-Ok-check_edges-clause-apart
returns-in-Ok-check_edges-clause-apart c =
    let s = subst Sound c.self.view_is (sound-from_inside c.self.inside c.self.invariant) in
    let graph = c.args.self.now in
    let fund = c.args.fund.now in
    let known = known_among fund c.args.components.now graph in
    known_apart graph s.few fund c.args.components.now
    (apart_named graph.names graph.components s.distinct s.few s.order fund known
    (all_known graph s.few fund c.args.components.now) (none c))

-- a chain among the numbers is one among the names
told : (c : goal.After-drop-numbers-in-Ok-names)
    → IsFirstShortest
    (components_with (number_in c.args.self.now.names c.args.fund.now)
    (map (λ x. number_in c.args.self.now.names x.0) (known_among c.args.fund.now c.args.components.now c.args.self.now)) c.args.self.now.components)
    (number_in c.args.self.now.names c.args.fund.now)
    (number_in c.args.self.now.names c.args.fund.now) c.in-Err-Cycle.path
told c =
    carried (λ from members all. IsFirstShortest (components_with from members all) from from c.in-Err-Cycle.path)
    c.number.result (number_in c.args.self.now.names c.args.fund.now) c.deref.result.now
    (map (λ x. number_in c.args.self.now.names x.0) (known_among c.args.fund.now c.args.components.now c.args.self.now)) c.self.inside.order
    c.args.self.now.components c.number.ensures (c.deref.ensures.value ∙ c.in-Ok.ensures)
    (ap (λ (g : Graph). g.components) c.self.view_is)
    (subst (λ fault. Found {A = Unit {0}} (components_with c.number.result c.deref.result.now c.self.inside.order)
    c.number.result (Err fault)) c.in-Err-Cycle.field-0-is c.in-Err-Cycle.ensures.answer)

pub returns-in-Ok-names-clause-answer : goal.returns-in-Ok-names-clause-answer
returns-in-Ok-names-clause-answer c = λ most holders holds enough.
    let s = subst Sound c.self.view_is (sound-from_inside c.self.inside c.self.invariant) in
    let names : c.new.result ≡ map (λ k. get_or c.args.self.now.names k c.args.fund.now) c.in-Err-Cycle.path =
    c.new.ensures ∙ c.in-Ok-names.ensures ∙ ap (map (λ k. get_or c.args.self.now.names k c.args.fund.now))
    c.as_slice.ensures in
    let graph = c.args.self.now in
    let fund = c.args.fund.now in
    let known = known_among fund c.args.components.now graph in
    sym (known_path graph s.few fund c.args.components.now most)
    ∙ path graph.names graph.components s.distinct s.few s.order fund known
    (all_known graph s.few fund c.args.components.now) most holders
    (λ x has. holds x (λ none. has (known_none graph s.few fund c.args.components.now x none)))
    enough c.in-Err-Cycle.path (told c)
    ∙ ap (λ path. Some path) (sym names)
