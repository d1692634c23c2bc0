use Rattle.std.proofs.Common.{sym, ◌∙◌, arith}
use Rattle.scr_nodes.specs.Selections.{is_obligation, liability_figure}
use Rattle.scr_nodes.proofs.Walks.{found, one_more, none_more}
use Rattle.scr_nodes.proofs.nth.nth_of_liabilities.Goals as goal
use Rattle.scr_nodes.proofs.nth.nth_of_liabilities.Goals.{then-is_obligation+else-left-eq0, else-is_obligation}

pub returns-then-left-eq0 : goal.returns-then-left-eq0
returns-then-left-eq0 c =
    found (is_obligation c.args.obligations.now) (liability_figure c.args.what) c.args.sheet.now.liabilities c.loop-k.k c.args.place
    c.loop-k.left c.at-liability.result.now c.at-liability.ensures (sym c.is_obligation.ensures ∙ c.if-is_obligation.true)
    c.loop-k.invariant c.if-left-eq0.true

pub loop-k-preserved : goal.loop-k-preserved
loop-k-preserved c =
    elim c.if-is_obligation.branch [
      | then-is_obligation+else-left-eq0 w ↦ one_more
          (is_obligation c.args.obligations.now) c.args.sheet.now.liabilities c.loop-k.k c.args.place c.loop-k.left
          c.if-is_obligation.left c.at-liability.result.now c.at-liability.ensures
          (sym c.is_obligation.ensures ∙ w.if-is_obligation.true) c.loop-k.invariant
          (omega (arith, w.if-left-eq0.false)) w.left-is
      | else-is_obligation w ↦ none_more
          (is_obligation c.args.obligations.now) c.args.sheet.now.liabilities c.loop-k.k c.args.place c.loop-k.left
          c.if-is_obligation.left c.at-liability.result.now c.at-liability.ensures
          (sym c.is_obligation.ensures ∙ w.if-is_obligation.false) c.loop-k.invariant w.left-is
    ]
