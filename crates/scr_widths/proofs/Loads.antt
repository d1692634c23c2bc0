-- What is held and what liabilities pay is within the load, and the load within the multiple of a scale.
use Rattle.std.proofs.Common.{◌≡◌, ℕ, ◌+◌, ◌*◌, ◌/◌, ◌≤◌, sum_by, arith}
use Rattle.scr_sheet.specs.BalanceSheet.{greatest, held_total, liability_flows_total}
use Rattle.scr_sheet.specs.CashFlows.{all_projections}
use Rattle.scr_sheet.specs.Totals.{securities_total}
use Rattle.scr_sheet.specs.Validity.{Valid}
use Rattle.scr_sheet.specs.declared.keys.Projection.{Projection}
use Rattle.scr_sheet.specs.declared.sheet.BalanceSheet.{BalanceSheet}
use Rattle.scr_sheet.proofs.Greatest.{le-greatest}
use Rattle.scr_sheet.proofs.Projections.{each_projection}
use Rattle.scr_sheet.proofs.SeenThrough.{all-seen}
use Rattle.scr_widths.specs.Widths.{load, scale_of, seen_total}

pub seen-held : (sheet : BalanceSheet) → Valid sheet → seen_total sheet ≡ held_total sheet
seen-held sheet valid = all-seen sheet valid

module _ (sheet : BalanceSheet) where
  -- what is paid under a projection is no more than under the one that has the greatest flows
  flows-within : (projection : Projection)
      → liability_flows_total projection sheet ≤ greatest (λ p. liability_flows_total p sheet) all_projections
  flows-within =
      each_projection (λ q. liability_flows_total q sheet ≤ greatest (λ p. liability_flows_total p sheet) all_projections)
      (le-greatest (λ p. liability_flows_total p sheet) all_projections)

  load-below : load sheet ≤ (scale_of sheet).multiple * 10_000_000_000_000
  load-below = below (load sheet)
    where
      below : (n : ℕ) → n ≤ (1 + n / 10_000_000_000_000) * 10_000_000_000_000
      below n = omega arith

  -- what securities promise and what liabilities pay under a projection
  pub loaded : (projection : Projection)
      → 5 * securities_total sheet + liability_flows_total projection sheet ≤ (scale_of sheet).multiple * 10_000_000_000_000
  loaded projection = omega (arith, load-below, flows-within projection)

  pub flows-loaded : (projection : Projection)
      → liability_flows_total projection sheet ≤ (scale_of sheet).multiple * 10_000_000_000_000
  flows-loaded projection = omega (arith, loaded projection)
