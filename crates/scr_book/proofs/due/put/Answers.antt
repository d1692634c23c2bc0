use Rattle.std.proofs.Common.{◌≡◌, ℕ, ℤ, List, ◌∷◌, sym, ap, subst, ◌∙◌, rules}
use Rattle.scr_funds.specs.Chains.{LeadsTo}
use Rattle.scr_fund_graph.specs.Graph.{components_after, components_under}
use Rattle.scr_sheet.specs.declared.rows.Stake.{Stake}
use Rattle.scr_book.proofs.Anew.{HavePut, put-none, put-apart, put-next}
use Rattle.scr_book.proofs.due.put.Goals as goal

pub loop-stake-init : goal.loop-stake-init
loop-stake-init c =
    let all : c.into_iter-stake-iterator.result ≡ c.args.funds.now = search rules in
    subst (λ (rest : List Stake). HavePut c.args.graph.now rest c.args.funds.now) (sym all) (put-none c.args.graph.now c.args.funds.now c.requires.none c.requires.apart)

pub put-requires : goal.put-requires
put-requires c =
    let step : c.loop-stake.stake-iterator ≡ c.in-Some.stake.now ∷ c.next.new.self = search rules in
    let so_far = subst (λ (rest : List Stake). HavePut c.loop-stake.graph rest c.args.funds.now) step c.loop-stake.invariant in
    let name = c.in-Some.stake.now.fund.name in
    subst (λ (xs : List (List ℕ × ℤ)). ¬ LeadsTo (components_after name xs c.loop-stake.graph) name name) (sym c.as_slice.ensures)
    (put-apart c.loop-stake.graph c.in-Some.stake.now c.next.new.self c.args.funds.now so_far c.requires.acyclic)

pub loop-stake-preserved : goal.loop-stake-preserved
loop-stake-preserved c =
    let step : c.loop-stake.stake-iterator ≡ c.in-Some.stake.now ∷ c.next.new.self = search rules in
    let so_far = subst (λ (rest : List Stake). HavePut c.loop-stake.graph rest c.args.funds.now) step c.loop-stake.invariant in
    let new : components_under c.put.new.self ≡ components_after c.in-Some.stake.now.fund.name c.in-Some.stake.now.fund.components c.loop-stake.graph =
    c.in_ok-put.ensures.ok ∙ ap (λ (xs : List (List ℕ × ℤ)). components_after c.in-Some.stake.now.fund.name xs c.loop-stake.graph) c.as_slice.ensures in
    put-next c.loop-stake.graph c.in-Some.stake.now c.next.new.self c.args.funds.now so_far c.put.new.self new
