use Rattle.std.proofs.Common.{◌∙◌, ℕ, ap, arith}
use Rattle.scr_sheet.specs.CashFlows.{flows_under, total}
use Rattle.scr_sheet.specs.declared.keys.Projection.{Projection}
use Rattle.scr_sheet.specs.declared.rows.Liability.{Liability}
use Rattle.scr_widths.proofs.RowSums.{sum-more, sum-within}
use Rattle.scr_widths.proofs.scale.flows_under.Goals as goal

-- what a liability pays under the projection
abbrev paid : Projection → Liability → ℕ
paid projection liability = total (flows_under projection liability.flows)

pub overflow_cast-flows : goal.overflow_cast-flows
overflow_cast-flows c =
    let size = c.total.ensures.sum ∙ ap total c.under.ensures in
    let within = sum-within c.args.sheet.now.liabilities c.loop-k.k c.at.result.now c.at.ensures (paid c.args.projection) in
    omega (arith, size, within)

pub overflow_add-flows : goal.overflow_add-flows
overflow_add-flows c =
    let size = c.total.ensures.sum ∙ ap total c.under.ensures in
    let within = sum-within c.args.sheet.now.liabilities c.loop-k.k c.at.result.now c.at.ensures (paid c.args.projection) in
    omega (arith, size, within)

pub loop-k-preserved : goal.loop-k-preserved
loop-k-preserved c =
    let size = c.total.ensures.sum ∙ ap total c.under.ensures in
    let more = sum-more c.args.sheet.now.liabilities c.loop-k.k c.at.result.now c.at.ensures (paid c.args.projection) in
    omega (arith, size, more)
