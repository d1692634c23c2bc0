use Rattle.std.proofs.Common.{sym, ◌∙◌, arith}
use Rattle.scr_nodes.specs.Selections.{fund_figure, is_holder}
use Rattle.scr_nodes.proofs.Walks.{found, one_more, none_more}
use Rattle.scr_nodes.proofs.nth.nth_of_funds.Goals as goal
use Rattle.scr_nodes.proofs.nth.nth_of_funds.Goals.{then-is_holder+else-left-eq0, else-is_holder}

pub returns-then-left-eq0 : goal.returns-then-left-eq0
returns-then-left-eq0 c =
    found (is_holder c.args.holders.now) (fund_figure c.args.what) c.args.sheet.now.funds c.loop-k.k c.args.place
    c.loop-k.left c.at-stake.result.now c.at-stake.ensures (sym c.is_holder.ensures ∙ c.if-is_holder.true)
    c.loop-k.invariant c.if-left-eq0.true

pub loop-k-preserved : goal.loop-k-preserved
loop-k-preserved c =
    elim c.if-is_holder.branch [
      | then-is_holder+else-left-eq0 w ↦ one_more
          (is_holder c.args.holders.now) c.args.sheet.now.funds c.loop-k.k c.args.place c.loop-k.left
          c.if-is_holder.left c.at-stake.result.now c.at-stake.ensures
          (sym c.is_holder.ensures ∙ w.if-is_holder.true) c.loop-k.invariant
          (omega (arith, w.if-left-eq0.false)) w.left-is
      | else-is_holder w ↦ none_more
          (is_holder c.args.holders.now) c.args.sheet.now.funds c.loop-k.k c.args.place c.loop-k.left
          c.if-is_holder.left c.at-stake.result.now c.at-stake.ensures
          (sym c.is_holder.ensures ∙ w.if-is_holder.false) c.loop-k.invariant w.left-is
    ]
