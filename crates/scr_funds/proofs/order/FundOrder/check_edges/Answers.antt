use Rattle.std.proofs.Common.{◌≡◌, ℕ, List, Vec, Option, MatchOption, subst, sym, ap, ◌∙◌}
use Rattle.std.specs.Global.{Global}
use Rattle.scr_funds.specs.Chains.{LeadsTo, IsFirstShortest}
use Rattle.scr_funds.specs.Components.{Components, components_with}
use Rattle.scr_funds.specs.Ranks.{rank_of}
use Rattle.scr_funds.specs.Search.{rows_of}
use Rattle.scr_funds.proofs.Marks.{no_way_back}
use Rattle.scr_funds.proofs.Members.{not_contains-any}
use Rattle.scr_funds.proofs.Ranked.{goes_on-back, ranked-lent}
use Rattle.scr_funds.proofs.order.FundOrder.check_edges.Goals as goal

-- what the search answers over the components of all funds
abbrev Found : ℕ → List ℕ → Components → Option (Vec ℕ Global) → Type 0
Found from members all found = MatchOption found (¬ LeadsTo (components_with from members all) from from)
    (λ path. IsFirstShortest (components_with from members all) from from path.items)

found_is : (from : ℕ) (members : List ℕ) (rows all : Components) (found is : Option (Vec ℕ Global)) → rows ≡ all
    → found ≡ is → Found from members rows found → Found from members all is
found_is from members rows all found is same there h =
    subst (Found from members all) there (subst (λ components. Found from members components found) same h)

-- whatever leads back to the fund is above it
pub first_chain-requires : goal.first_chain-requires
first_chain-requires c =
    goes_on-back c.args.from c.args.to.now (rows_of c.deref.result.now) (rank_of c.deref-2.result.now)
    c.self.inside.are_ranked
    (ranked-lent c.self.inside.rows.items c.deref.result.now c.self.inside.ranks.items c.deref-2.result.now
    c.self.inside.are_ranked c.deref.ensures.value c.deref-2.ensures.value c.self.invariant.ranked)

-- neither a component nor among those that it would get
pub returns-then-not-contains-clause-answer : goal.returns-then-not-contains-clause-answer
returns-then-not-contains-clause-answer c =
    no_way_back c.args.from c.args.to.now c.args.self.now (c.was_component.ensures.none c.if-not-was_component.true)
    (not_contains-any c.args.to.now c.args.from (sym c.contains.ensures.value ∙ c.if-not-contains.true))

pub returns-in-Some-clause-answer : goal.returns-in-Some-clause-answer
returns-in-Some-clause-answer c =
    let chain = found_is c.args.from c.args.to.now (rows_of c.deref.result.now) c.args.self.now c.in_ok-path.field-0 _
    (ap rows_of c.deref.ensures.value ∙ c.self.view_is) c.in-Some.is c.in_ok-path.ensures in
    subst (IsFirstShortest (components_with c.args.from c.args.to.now c.args.self.now) c.args.from c.args.from)
    (sym c.new.ensures) chain

pub returns-in-None-clause-answer : goal.returns-in-None-clause-answer
returns-in-None-clause-answer c =
    found_is c.args.from c.args.to.now (rows_of c.deref.result.now) c.args.self.now c.in_ok-path.field-0 _
    (ap rows_of c.deref.ensures.value ∙ c.self.view_is) c.in-None.is c.in_ok-path.ensures
