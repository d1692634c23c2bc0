use Rattle.std.proofs.Common.{arith}
use Rattle.scr_sheet.specs.declared.rows.Position.{Position}
use Rattle.scr_widths.proofs.RowSums.{sum-more, sum-within}
use Rattle.scr_widths.proofs.scale.securities_held.Goals as goal

pub overflow_add-held : goal.overflow_add-held
overflow_add-held c =
    omega (arith, sum-within c.args.sheet.now.securities c.loop-k.k c.at.result.now c.at.ensures (λ (p : Position). p.held))

pub loop-k-preserved : goal.loop-k-preserved
loop-k-preserved c =
    omega (arith, sum-more c.args.sheet.now.securities c.loop-k.k c.at.result.now c.at.ensures (λ (p : Position). p.held))
