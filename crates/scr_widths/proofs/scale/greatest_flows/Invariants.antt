use Rattle.std.proofs.Common.{◌≡◌, ◌≤◌, drop}
use Rattle.std.specs.Prelude.{max}
use Rattle.scr_profile.specs.declared.limits.TheConstants.{MAX_LIABILITY_FLOWS}
use Rattle.scr_sheet.specs.BalanceSheet.{greatest, liability_flows_total}
use Rattle.scr_sheet.specs.CashFlows.{all_projections}
use Rattle.scr_sheet.specs.declared.keys.Projection.{Projection}
use Rattle.scr_widths.proofs.scale.greatest_flows.Given as goal

-- the greatest so far, and those of the projections that are left
abbrev pub invariant-loop-projection : goal.invariant-loop-projection
invariant-loop-projection l = record {
  whole : max l.greatest (greatest (λ (p : Projection). liability_flows_total p l.sheet) (drop l.projection-index all_projections))
      ≡ greatest (λ (p : Projection). liability_flows_total p l.sheet) all_projections;
  small : l.greatest ≤ MAX_LIABILITY_FLOWS;
}
