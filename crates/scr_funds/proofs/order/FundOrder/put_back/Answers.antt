use Rattle.std.proofs.Common.{◌≡◌, ◌<◌, All, subst, sym, ap, ◌∙◌, arith}
use Rattle.std.proofs.lemmas.Bool.{true≢false}
use Rattle.std.proofs.lemmas.List.{length-set}
use Rattle.scr_funds.specs.Components.{Components, components_of, with_components}
use Rattle.scr_funds.specs.Inside.{IsRankedOrder}
use Rattle.scr_funds.specs.KeptEdges.{KeptEdges}
use Rattle.scr_funds.specs.Marks.{with_marks}
use Rattle.scr_funds.specs.Ranks.{AreRanked, rank_of}
use Rattle.scr_funds.specs.Search.{rows_of}
use Rattle.scr_funds.proofs.Marks.{marks_put_back}
use Rattle.scr_funds.proofs.Ranked.{both, marks_of, ranked_put_back}
use Rattle.scr_funds.proofs.Rows.{edges_put_back}
use Rattle.scr_funds.proofs.order.FundOrder.put_back.Goals as goal
use Rattle.scr_funds.proofs.order.FundOrder.put_back.Goals.{then-self, else-self}

-- the rows with the edges that were kept
after : (inside kept : KeptEdges) (old new all : Components) → new ≡ with_components inside.from inside.edges old
    → inside ≡ kept → old ≡ all → new ≡ with_components kept.from kept.edges all
after inside kept old new all e f g =
    e ∙ ap (λ (k : KeptEdges). with_components k.from k.edges old) f ∙ ap (with_components kept.from kept.edges) g

-- where what is put back is in order with the rest, a rank falls along each edge as before
pub keep_or_settle-self-inside-requires : goal.keep_or_settle-self-inside-requires
keep_or_settle-self-inside-requires c = elim c.if-self.branch [
  | then-self w ↦ λ kept.
      let old = rows_of c.self.inside.rows.items in
      let ranks = c.self.inside.ranks.items in
      let ranked = subst (λ all. AreRanked (components_of all) (rank_of ranks)) c.self.view_is
      (c.self.invariant.ranked w.if-self.true) in
      let above = w.is_above-is_kept.ensures (sym w.is_kept-is ∙ kept) in
      let here = subst (λ rs. All (λ component. rank_of rs component < rank_of rs c.kept.inside.from)
      w.deref-then-self-2.result.now) w.deref-then-self.ensures.value above in
      let kept_edges = subst (All (λ component. rank_of ranks component < rank_of ranks c.kept.inside.from))
      w.deref-then-self-2.ensures.value here in
      let seen = subst (λ (k : KeptEdges). All (λ component. rank_of ranks component < rank_of ranks k.from) k.edges)
      c.kept.view_is kept_edges in
      subst (λ rs. AreRanked (components_of rs) (rank_of ranks))
      (sym (ap rows_of c.deref-2.ensures.value ∙ (after (record { from = c.kept.inside.from; edges = c.kept.inside.edges.items }) c.args.kept
      (rows_of c.self.inside.rows.items) (rows_of c.exchange.new.rows.items) c.args.self.now c.exchange.ensures.after
      c.kept.view_is c.self.view_is)))
      (ranked_put_back c.args.self.now ranks ranked c.args.kept.from c.args.kept.edges seen
      (edges_put_back c.args.kept.from c.args.kept.edges c.args.self.now c.requires.below))
  | else-self w ↦ λ kept. absurd (true≢false (sym kept ∙ w.is_kept-is ∙ w.if-self.false))
]

pub invariant_of-self : goal.invariant_of-self
invariant_of-self c =
    let edges = c.deref.ensures.value ∙ ap (λ (kept : KeptEdges). kept.edges) c.kept.view_is in
    let before = subst (λ all. IsRankedOrder all c.self.inside.marks.items c.self.inside.ranks.items
    c.self.inside.are_ranked) c.self.view_is c.self.invariant in
    let marks = marks_put_back c.args.self.now c.self.inside.marks.items
    (marks_of c.args.self.now c.self.inside.marks.items c.self.inside.ranks.items c.self.inside.are_ranked before)
    c.args.kept.from c.args.kept.edges c.requires.below c.requires.acyclic in
    let places = before.places in
    let long = c.keep_or_settle-self-inside.ensures.long in
    let size = length-set c.args.self.now c.args.kept.from c.args.kept.edges in
    subst (λ all. IsRankedOrder all c.mark.new.marks.items c.keep_or_settle-self-inside.new.ranks.items
    c.keep_or_settle-self-inside.result) (sym (after (record { from = c.kept.inside.from; edges = c.kept.inside.edges.items }) c.args.kept
    (rows_of c.self.inside.rows.items) (rows_of c.exchange.new.rows.items) c.args.self.now c.exchange.ensures.after
    c.kept.view_is c.self.view_is))
    (subst (λ ms. IsRankedOrder (with_components c.args.kept.from c.args.kept.edges c.args.self.now) ms
    c.keep_or_settle-self-inside.new.ranks.items c.keep_or_settle-self-inside.result)
    (sym (c.mark.ensures ∙ ap (λ numbers. with_marks numbers c.self.inside.marks.items) edges))
    (both (with_components c.args.kept.from c.args.kept.edges c.args.self.now)
    (with_marks c.args.kept.edges c.self.inside.marks.items) c.keep_or_settle-self-inside.new.ranks.items
    c.keep_or_settle-self-inside.result marks
    (λ on. subst (λ rs. AreRanked (components_of rs) (rank_of c.keep_or_settle-self-inside.new.ranks.items))
    (ap rows_of c.deref-2.ensures.value ∙ (after (record { from = c.kept.inside.from; edges = c.kept.inside.edges.items }) c.args.kept
    (rows_of c.self.inside.rows.items) (rows_of c.exchange.new.rows.items) c.args.self.now c.exchange.ensures.after
    c.kept.view_is c.self.view_is)) (c.keep_or_settle-self-inside.ensures.ranked on))
    (omega (arith, places, long, size))))

pub returns-clause-edges : goal.returns-clause-edges
returns-clause-edges c =
    ap (λ rows. components_of rows c.args.kept.from) (after (record { from = c.kept.inside.from; edges = c.kept.inside.edges.items }) c.args.kept
    (rows_of c.self.inside.rows.items) (rows_of c.exchange.new.rows.items) c.args.self.now c.exchange.ensures.after
    c.kept.view_is c.self.view_is)
    ∙ edges_put_back c.args.kept.from c.args.kept.edges c.args.self.now c.requires.below

pub returns-clause-order : goal.returns-clause-order
returns-clause-order c = (invariant_of-self c).order
