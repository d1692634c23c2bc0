use Rattle.std.proofs.Common.{sym, ◌∙◌, arith}
use Rattle.scr_nodes.specs.Selections.{group_figure, is_counterparty}
use Rattle.scr_nodes.proofs.Walks.{found, one_more, none_more}
use Rattle.scr_nodes.proofs.nth.nth_of_groups.Goals as goal
use Rattle.scr_nodes.proofs.nth.nth_of_groups.Goals.{then-is_counterparty+else-left-eq0, else-is_counterparty}

pub returns-then-left-eq0 : goal.returns-then-left-eq0
returns-then-left-eq0 c =
    found (is_counterparty c.args.counterparties) (group_figure c.args.what) c.args.sheet.now.groups c.loop-k.k c.args.place
    c.loop-k.left c.at-group.result.now c.at-group.ensures (sym c.is_counterparty.ensures ∙ c.if-is_counterparty.true)
    c.loop-k.invariant c.if-left-eq0.true

pub loop-k-preserved : goal.loop-k-preserved
loop-k-preserved c =
    elim c.if-is_counterparty.branch [
      | then-is_counterparty+else-left-eq0 w ↦ one_more
          (is_counterparty c.args.counterparties) c.args.sheet.now.groups c.loop-k.k c.args.place c.loop-k.left
          c.if-is_counterparty.left c.at-group.result.now c.at-group.ensures
          (sym c.is_counterparty.ensures ∙ w.if-is_counterparty.true) c.loop-k.invariant
          (omega (arith, w.if-left-eq0.false)) w.left-is
      | else-is_counterparty w ↦ none_more
          (is_counterparty c.args.counterparties) c.args.sheet.now.groups c.loop-k.k c.args.place c.loop-k.left
          c.if-is_counterparty.left c.at-group.result.now c.at-group.ensures
          (sym c.is_counterparty.ensures ∙ w.if-is_counterparty.false) c.loop-k.invariant w.left-is
    ]
