use Rattle.std.proofs.Common.{◌∙◌, sym, arith}
use Rattle.scr_nodes.specs.Rows.{is_foreign}
use Rattle.scr_widths.proofs.RowSums.{count-no, count-yes}
use Rattle.scr_widths.proofs.scale.foreign.Goals as goal
use Rattle.scr_widths.proofs.scale.foreign.Goals.{then-is_foreign, else-is_foreign}

pub loop-k-preserved : goal.loop-k-preserved
loop-k-preserved c =
    let sheet = c.args.sheet.now in
    elim c.if-is_foreign.branch [
      | then-is_foreign w ↦
          omega (arith, w.count-is, count-yes sheet.curves c.loop-k.k c.at.result.now c.at.ensures (is_foreign sheet) (sym c.is_foreign.ensures ∙ w.if-is_foreign.true))
      | else-is_foreign w ↦
          omega (arith, w.count-is, count-no sheet.curves c.loop-k.k c.at.result.now c.at.ensures (is_foreign sheet) (sym c.is_foreign.ensures ∙ w.if-is_foreign.false))
    ]
