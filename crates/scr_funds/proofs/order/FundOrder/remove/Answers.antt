use Rattle.std.proofs.Common.{◌≡◌, ◌⊎◌, ◌<◌, ◌≤◌, [], inl, inr, subst, sym, ap, ◌∙◌}
use Rattle.std.proofs.lemmas.Bool.{cases_lt}
use Rattle.std.proofs.lemmas.List.{get_or_past}
use Rattle.scr_funds.specs.Components.{components_of, with_components, size_of}
use Rattle.scr_funds.specs.Inside.{IsRankedOrder}
use Rattle.scr_funds.specs.Search.{rows_of}
use Rattle.scr_funds.proofs.Ranked.{order_ranked-removed}
use Rattle.scr_funds.proofs.Rows.{put_back-removed}
use Rattle.scr_funds.proofs.order.FundOrder.remove.Goals as goal

after : (c : goal.After-exchange-edges) → rows_of c.exchange-edges.new.rows.items
    ≡ with_components c.args.from [] (rows_of c.self.inside.rows.items)
after c = c.exchange-edges.ensures.after
    ∙ ap (λ row. with_components c.args.from row (rows_of c.self.inside.rows.items)) c.new-none.ensures.items

edges : (c : goal.After-exchange-edges) → c.exchange-edges.result.items
    ≡ components_of (rows_of c.self.inside.rows.items) c.args.from
edges c = by (cases_lt c.args.from (size_of (rows_of c.self.inside.rows.items)))
  where
    by : (c.args.from < size_of (rows_of c.self.inside.rows.items))
        ⊎ (size_of (rows_of c.self.inside.rows.items) ≤ c.args.from)
        → c.exchange-edges.result.items ≡ components_of (rows_of c.self.inside.rows.items) c.args.from
    by (inl l) = c.exchange-edges.ensures.old l
    by (inr l) = c.exchange-edges.ensures.past l ∙ c.new-none.ensures.items
        ∙ sym (get_or_past (rows_of c.self.inside.rows.items) c.args.from [] l)

pub invariant_of-self : goal.invariant_of-self
invariant_of-self c =
    subst
    (λ all. IsRankedOrder all c.self.inside.marks.items c.self.inside.ranks.items c.self.inside.are_ranked)
    (sym (after c))
    (order_ranked-removed (rows_of c.self.inside.rows.items) c.self.inside.marks.items c.self.inside.ranks.items
    c.self.inside.are_ranked c.self.invariant c.args.from)

pub returns-clause-back : goal.returns-clause-back
returns-clause-back c =
    ap (λ row. with_components c.args.from row (rows_of c.exchange-edges.new.rows.items)) (edges c)
    ∙ ap (with_components c.args.from (components_of (rows_of c.self.inside.rows.items) c.args.from)) (after c)
    ∙ put_back-removed c.args.from (rows_of c.self.inside.rows.items) ∙ c.self.view_is
