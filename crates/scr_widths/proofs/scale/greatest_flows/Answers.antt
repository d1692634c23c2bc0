use Rattle.std.proofs.Common.{◌∙◌, ◌+◌, ℕ, ap, drop, arith}
use Rattle.std.specs.Prelude.{max}
use Rattle.scr_sheet.specs.BalanceSheet.{greatest, liability_flows_total}
use Rattle.scr_sheet.specs.CashFlows.{all_projections}
use Rattle.scr_sheet.specs.declared.keys.Projection.{Projection}
use Rattle.scr_widths.proofs.RowSums.{greatest-more}
use Rattle.scr_widths.proofs.scale.greatest_flows.Goals as goal

pub loop-projection-preserved : goal.loop-projection-preserved
loop-projection-preserved c =
    let flows = λ (projection : Projection). liability_flows_total projection c.args.sheet.now in
    let so_far = c.loop-projection.greatest in
    let k = c.loop-projection.projection-index in
    record {
      whole =
          ap (λ (n : ℕ). max n (greatest flows (drop (k + 1) all_projections)))
          (c.max-greatest.ensures ∙ ap (λ (n : ℕ). max n so_far) c.flows_under.ensures.value)
          ∙ greatest-more flows all_projections k _ so_far c.loop-projection-test.true
          ∙ c.loop-projection.invariant.whole;
      small = omega (arith, c.max-greatest.ensures, c.flows_under.ensures.small, c.loop-projection.invariant.small);
    }
