use Rattle.std.proofs.Common.{◌≡◌, ◌⊎◌, inl, inr, true, false, sym, ap, ◌∙◌}
use Rattle.std.specs.Prelude.{is_some}
use Rattle.scr_block_graph.specs.Sums.{first_sum}
use Rattle.scr_tree.specs.Points.{is_linked}
use Rattle.scr_sheet.specs.declared.sheet.BalanceSheet.{BalanceSheet}
use Rattle.scr_nodes.specs.Live.{is_live}
use Rattle.scr_tree.proofs.Grounds.{dead-done}
use Rattle.scr_tree.proofs.making.put_live.Goals as goal

pub put_linked-requires-clause-live : goal.put_linked-requires-clause-live
put_linked-requires-clause-live g c =
    sym (ap (λ (s : BalanceSheet). is_live s c.args.node.now) c.sheet.ensures.sheet)
    ∙ (sym c.is_live.ensures ∙ c.if-not-is_live.false)

pub put_linked-requires-clause-linked_node : goal.put_linked-requires-clause-linked_node
put_linked-requires-clause-linked_node g c = by c.requires.read
  where
    none : is_some (first_sum c.args.node.now) ≡ false
    none = ap is_some (sym c.first_sum.ensures ∙ c.in-None.is)

    by : (is_some (first_sum c.args.node.now) ≡ true) ⊎ (is_linked c.args.node.now ≡ true) → is_linked c.args.node.now ≡ true
    by (inl some) = let clash : true ≡ false = sym some ∙ none in absurd (cc)
    by (inr links) = links

pub put_summed-requires-clause-live : goal.put_summed-requires-clause-live
put_summed-requires-clause-live g c =
    sym (ap (λ (s : BalanceSheet). is_live s c.args.node.now) c.sheet.ensures.sheet)
    ∙ (sym c.is_live.ensures ∙ c.if-not-is_live.false)

pub put_summed-requires-clause-summed : goal.put_summed-requires-clause-summed
put_summed-requires-clause-summed g c = ap is_some (sym c.first_sum.ensures ∙ c.in-Some.is)

pub returns-then-not-is_live : goal.returns-then-not-is_live
returns-then-not-is_live g c =
    dead-done c.args.linked.ground c.requires.linked.ground c.args.node.now c.args.row c.requires.row
    (λ live.
    let clash : true ≡ false =
    sym live ∙ (sym (ap (λ (s : BalanceSheet). is_live s c.args.node.now) c.sheet.ensures.sheet)
    ∙ (sym c.is_live.ensures ∙ c.if-not-is_live.true)) in
    absurd (cc))
    c.args.making.now.figures c.requires.done
