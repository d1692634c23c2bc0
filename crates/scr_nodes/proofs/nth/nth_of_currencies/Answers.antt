use Rattle.std.proofs.Common.{sym, ◌∙◌, arith}
use Rattle.scr_nodes.specs.Selections.{currency_figure, is_currency}
use Rattle.scr_nodes.proofs.Walks.{found, one_more, none_more}
use Rattle.scr_nodes.proofs.nth.nth_of_currencies.Goals as goal
use Rattle.scr_nodes.proofs.nth.nth_of_currencies.Goals.{then-is_currency+else-left-eq0, else-is_currency}

pub returns-then-left-eq0 : goal.returns-then-left-eq0
returns-then-left-eq0 c =
    found (is_currency c.args.sheet.now c.args.currencies) (currency_figure c.args.what) c.args.sheet.now.curves c.loop-k.k c.args.place
    c.loop-k.left c.at-curve.result.now c.at-curve.ensures (sym c.is_currency.ensures ∙ c.if-is_currency.true)
    c.loop-k.invariant c.if-left-eq0.true

pub loop-k-preserved : goal.loop-k-preserved
loop-k-preserved c =
    elim c.if-is_currency.branch [
      | then-is_currency+else-left-eq0 w ↦ one_more
          (is_currency c.args.sheet.now c.args.currencies) c.args.sheet.now.curves c.loop-k.k c.args.place c.loop-k.left
          c.if-is_currency.left c.at-curve.result.now c.at-curve.ensures
          (sym c.is_currency.ensures ∙ w.if-is_currency.true) c.loop-k.invariant
          (omega (arith, w.if-left-eq0.false)) w.left-is
      | else-is_currency w ↦ none_more
          (is_currency c.args.sheet.now c.args.currencies) c.args.sheet.now.curves c.loop-k.k c.args.place c.loop-k.left
          c.if-is_currency.left c.at-curve.result.now c.at-curve.ensures
          (sym c.is_currency.ensures ∙ w.if-is_currency.false) c.loop-k.invariant w.left-is
    ]
