use Rattle.std.proofs.Common.{◌≡◌, ℕ, ℤ, true, List, [], ◌∷◌, length, map, sym, ap, subst, ◌∙◌, arith}
use Rattle.scr_funds.specs.Chains.{LeadsTo}
use Rattle.scr_funds.specs.Components.{components_of, components_with, with_edges, size_of}
use Rattle.scr_funds.proofs.Rows.{with_edges-is}
use Rattle.scr_fund_graph.specs.Graph.{Graph, number_in, entered_in, components_under, with_names, BeginsWith}
use Rattle.scr_fund_graph.proofs.Graphs.{Sound, AreEntered, sound-from_inside, acyclic-under, after-same, carried, entered_or-from_entered, apart_numbered, under-put, size_put}
use Rattle.scr_fund_graph.proofs.Entering.{begins-with_names, fund-there, fund-number, all-there}
use Rattle.scr_fund_graph.proofs.graph.FundGraph.enter_and_put.Goals as goal

-- the fund and its components were entered
named : (old entered now : Graph) (fund : List ℕ) (components : List (List ℕ × ℤ)) → entered.names ≡ with_names (fund ∷ []) old.names
    → now.names ≡ with_names (map (λ x. x.0) components) entered.names → now.names ≡ with_names (fund ∷ map (λ x. x.0) components) old.names
named old entered now fund components one all = all ∙ ap (with_names (map (λ x. x.0) components)) one

module _ (old now : Graph) (fund : List ℕ) (components : List (List ℕ × ℤ)) (is : now.names ≡ with_names (fund ∷ map (λ x. x.0) components) old.names) where
  there : entered_in now fund ≡ true
  there = fund-there old.names now.names fund components is

  all : AreEntered components now
  all = all-there old.names now.names fund components is now.components

  number : (k : ℕ) → k ≡ number_in old.names fund → k ≡ number_in now.names fund
  number k own = own ∙ sym (fund-number old.names now.names fund components is)

  begins : BeginsWith old.names now.names
  begins = subst (BeginsWith old.names) (sym is) (begins-with_names (fund ∷ map (λ x. x.0) components) old.names)

pub replace-requires : goal.replace-requires
replace-requires c =
    let s = subst Sound c.self.view_is (sound-from_inside c.self.inside c.self.invariant) in
    let graph = c.enter_components.new.self in
    let fund = c.args.fund.now in
    let components = c.args.components.now in
    let is = named c.args.self.now c.enter.new.self graph fund components c.in_ok-number.ensures.entered c.in_ok-numbers.ensures.entered in
    record {
      apart = carried (λ from members all. ¬ LeadsTo (components_with from members all) from from)
          (number_in graph.names fund) c.in_ok-number.number
          (map (λ x. number_in graph.names x.0) components) c.in_ok-numbers.numbers.items
          graph.components c.self.inside.order
          (sym (number c.args.self.now graph fund components is c.in_ok-number.number c.in_ok-number.ensures.number)) (sym c.in_ok-numbers.ensures.numbers)
          (sym (ap (λ (g : Graph). g.components) c.self.view_is))
          (apart_numbered graph.names graph.components s.distinct s.few s.order fund components
          (entered_or-from_entered fund components graph (all c.args.self.now graph fund components is))
          (subst (λ f. ¬ LeadsTo f fund fund) (sym (after-same fund components c.args.self.now graph (c.in_ok-numbers.ensures.under ∙ c.in_ok-number.ensures.under))) c.requires));
    }

-- the edges are those of the numbers
after : (c : goal.In_ok-replace) → c.replace.new.self
    ≡ with_edges (number_in c.enter_components.new.self.names c.args.fund.now)
    (map (λ x. number_in c.enter_components.new.self.names x.0) c.args.components.now) c.enter_components.new.self.components
after c =
    let graph = c.enter_components.new.self in
    let fund = c.args.fund.now in
    let components = c.args.components.now in
    let is = named c.args.self.now c.enter.new.self graph fund components c.in_ok-number.ensures.entered c.in_ok-numbers.ensures.entered in
    carried (λ from members all. c.replace.new.self ≡ with_edges from members all)
    c.in_ok-number.number (number_in graph.names fund)
    c.in_ok-numbers.numbers.items (map (λ x. number_in graph.names x.0) c.args.components.now)
    c.self.inside.order graph.components
    (number c.args.self.now graph fund components is c.in_ok-number.number c.in_ok-number.ensures.number) c.in_ok-numbers.ensures.numbers
    (ap (λ (g : Graph). g.components) c.self.view_is) c.in_ok-replace.ensures.ok

pub invariant_of-self-2 : goal.invariant_of-self-2
invariant_of-self-2 c =
    let s = subst Sound c.self.view_is (sound-from_inside c.self.inside c.self.invariant) in
    let graph = c.enter_components.new.self in
    let fund = c.args.fund.now in
    let components = c.args.components.now in
    let is = named c.args.self.now c.enter.new.self graph fund components c.in_ok-number.ensures.entered c.in_ok-numbers.ensures.entered in
    let size = ap size_of (after c) in
    let most = size_put graph.names graph.components s.distinct s.few s.order fund components (there c.args.self.now graph fund components is) (all c.args.self.now graph fund components is) in
    let count = ap (λ (g : Graph). length g.names) c.self.view_is in
    record {
      distinct = c.self.invariant.distinct;
      few = c.self.invariant.few;
      named = omega (arith, size, most, count);
      order = c.in_ok-replace.ensures.order;
    }

pub returns-clause-ok : goal.returns-clause-ok
returns-clause-ok c =
    let s = subst Sound c.self.view_is (sound-from_inside c.self.inside c.self.invariant) in
    let graph = c.enter_components.new.self in
    let fund = c.args.fund.now in
    let components = c.args.components.now in
    let is = named c.args.self.now c.enter.new.self graph fund components c.in_ok-number.ensures.entered c.in_ok-numbers.ensures.entered in
    ap (λ (g : Graph). components_under (record { names = g.names; components = c.replace.new.self })) c.self.view_is
    ∙ under-put graph.names graph.components s.distinct s.few s.order fund components (there c.args.self.now graph fund components is) (all c.args.self.now graph fund components is) c.replace.new.self
    (ap components_of (after c)
    ∙ with_edges-is (number_in graph.names fund) (map (λ x. number_in graph.names x.0) components) graph.components)
    ∙ after-same fund components c.args.self.now graph (c.in_ok-numbers.ensures.under ∙ c.in_ok-number.ensures.under)

pub returns-clause-acyclic : goal.returns-clause-acyclic
returns-clause-acyclic c =
    acyclic-under (record { names = c.self.inside.names.keys; components = c.replace.new.self })
    (sound-from_inside (record { names = c.self.inside.names; order = c.replace.new.self }) (invariant_of-self-2 c))

pub returns-in_err-replace-clause-names : goal.returns-in_err-replace-clause-names
returns-in_err-replace-clause-names c =
    let graph = c.enter_components.new.self in
    let fund = c.args.fund.now in
    let components = c.args.components.now in
    let is = named c.args.self.now c.enter.new.self graph fund components c.in_ok-number.ensures.entered c.in_ok-numbers.ensures.entered in
    subst (λ (g : Graph). BeginsWith c.args.self.now.names g.names) (sym c.self.view_is) (begins c.args.self.now graph fund components is)

pub returns-clause-names : goal.returns-clause-names
returns-clause-names c =
    let graph = c.enter_components.new.self in
    let fund = c.args.fund.now in
    let components = c.args.components.now in
    let is = named c.args.self.now c.enter.new.self graph fund components c.in_ok-number.ensures.entered c.in_ok-numbers.ensures.entered in
    subst (λ (g : Graph). BeginsWith c.args.self.now.names g.names) (sym c.self.view_is) (begins c.args.self.now graph fund components is)
