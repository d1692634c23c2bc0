use Rattle.std.proofs.Common.{ℕ, List, IfOk, MatchOption, sym, subst, ap, ◌∙◌}
use Rattle.scr_funds.specs.Chains.{LeadsTo, IsFirstShortest}
use Rattle.scr_funds.specs.Components.{components_of, components_with}
use Rattle.scr_funds.specs.Ranks.{rank_of}
use Rattle.scr_funds.specs.Search.{rows_of}
use Rattle.scr_funds.proofs.Ranked.{goes_on-own, ranked-lent}
use Rattle.scr_funds.proofs.Rows.{with-same}
use Rattle.scr_funds.proofs.order.FundOrder.path.Goals as goal

-- whatever leads to the end is above it
pub first_chain-requires : goal.first_chain-requires
first_chain-requires c = λ fund apart.
    goes_on-own c.args.from c.row_of.result.now (rows_of c.deref.result.now) (rank_of c.deref-2.result.now)
    c.self.inside.are_ranked
    (ranked-lent c.self.inside.rows.items c.deref.result.now c.self.inside.ranks.items c.deref-2.result.now
    c.self.inside.are_ranked c.deref.ensures.value c.deref-2.ensures.value c.self.invariant.ranked)
    (c.row_of.ensures ∙ ap (λ rows. components_of (rows_of rows) c.args.from)
    (c.deref-3.ensures.value ∙ sym c.deref.ensures.value)) c.args.to fund

pub returns : goal.returns
returns c =
    let Answer : (ℕ → List ℕ) → Type 0 = λ next. IfOk c.first_chain.result
    (λ found. MatchOption found (¬ LeadsTo next c.args.from c.args.to)
    (λ path. IsFirstShortest next c.args.from c.args.to path.items)) in
    let own = c.row_of.ensures ∙ ap (λ rows. components_of (rows_of rows) c.args.from) c.deref-3.ensures.value in
    subst Answer (ap (λ rows. components_with c.args.from c.row_of.result.now (rows_of rows)) c.deref.ensures.value
    ∙ with-same c.args.from c.row_of.result.now (rows_of c.self.inside.rows.items) own
    ∙ ap components_of c.self.view_is) c.first_chain.ensures
