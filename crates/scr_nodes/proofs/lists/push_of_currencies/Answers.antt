use Rattle.std.proofs.Common.{sym, ◌∙◌}
use Rattle.scr_nodes.specs.Selections.{currency_figure, is_currency}
use Rattle.scr_nodes.proofs.Walks.{pushed, passed_over}
use Rattle.scr_nodes.proofs.lists.push_of_currencies.Goals as goal
use Rattle.scr_nodes.proofs.lists.push_of_currencies.Goals.{then-is_currency+in_ok-push, else-is_currency}

pub loop-k-preserved : goal.loop-k-preserved
loop-k-preserved c =
    elim c.if-is_currency.branch [
      | then-is_currency+in_ok-push w ↦ pushed (is_currency c.args.sheet.now c.args.currencies)
          (currency_figure c.args.what) c.loop-k.list.items c.args.list.now.items c.if-is_currency.list.items
          c.args.sheet.now.curves c.loop-k.k c.at-curve.result.now c.at-curve.ensures
          (sym c.is_currency.ensures ∙ w.if-is_currency.true) c.loop-k.invariant (cc (w.list-is, w.in_ok-push.ensures.items))
      | else-is_currency w ↦ passed_over (is_currency c.args.sheet.now c.args.currencies)
          (currency_figure c.args.what) c.loop-k.list.items c.args.list.now.items c.if-is_currency.list.items
          c.args.sheet.now.curves c.loop-k.k c.at-curve.result.now c.at-curve.ensures
          (sym c.is_currency.ensures ∙ w.if-is_currency.false) c.loop-k.invariant (cc (w.list-is))
    ]
