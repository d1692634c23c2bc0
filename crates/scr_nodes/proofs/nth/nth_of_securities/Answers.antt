use Rattle.std.proofs.Common.{sym, ◌∙◌, arith}
use Rattle.scr_nodes.specs.Selections.{is_counted, security_figure}
use Rattle.scr_nodes.proofs.Walks.{found, one_more, none_more}
use Rattle.scr_nodes.proofs.nth.nth_of_securities.Goals as goal
use Rattle.scr_nodes.proofs.nth.nth_of_securities.Goals.{then-is_counted+else-left-eq0, else-is_counted}

pub returns-then-left-eq0 : goal.returns-then-left-eq0
returns-then-left-eq0 c =
    found (is_counted c.args.holdings.now) (security_figure c.args.what) c.args.sheet.now.securities c.loop-k.k c.args.place
    c.loop-k.left c.at-position.result.now c.at-position.ensures (sym c.is_counted.ensures ∙ c.if-is_counted.true)
    c.loop-k.invariant c.if-left-eq0.true

pub loop-k-preserved : goal.loop-k-preserved
loop-k-preserved c =
    elim c.if-is_counted.branch [
      | then-is_counted+else-left-eq0 w ↦ one_more
          (is_counted c.args.holdings.now) c.args.sheet.now.securities c.loop-k.k c.args.place c.loop-k.left
          c.if-is_counted.left c.at-position.result.now c.at-position.ensures
          (sym c.is_counted.ensures ∙ w.if-is_counted.true) c.loop-k.invariant
          (omega (arith, w.if-left-eq0.false)) w.left-is
      | else-is_counted w ↦ none_more
          (is_counted c.args.holdings.now) c.args.sheet.now.securities c.loop-k.k c.args.place c.loop-k.left
          c.if-is_counted.left c.at-position.result.now c.at-position.ensures
          (sym c.is_counted.ensures ∙ w.if-is_counted.false) c.loop-k.invariant w.left-is
    ]
