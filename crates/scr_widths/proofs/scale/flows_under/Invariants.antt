use Rattle.std.proofs.Common.{◌≡◌, sum_by, take}
use Rattle.scr_sheet.specs.CashFlows.{flows_under, total}
use Rattle.scr_sheet.specs.declared.rows.Liability.{Liability}
use Rattle.scr_widths.proofs.scale.flows_under.Given as goal

abbrev pub invariant-loop-k : goal.invariant-loop-k
invariant-loop-k l =
    l.flows ≡ sum_by (λ (liability : Liability). total (flows_under l.projection liability.flows)) (take l.k l.sheet.liabilities)
