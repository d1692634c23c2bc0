-- How large what payments are worth is.
use Rattle.std.proofs.Common.{ℕ, ◌*◌, ◌≤◌, ℤ, List, sum_by, unsigned_abs, le_refl, arith}
use Rattle.std.specs.Prelude.{All}
use Rattle.std.proofs.lemmas.Nat.{mul-le}
use Rattle.scr_num.specs.Sizes.{IsWithin}
use Rattle.scr_yield_curve.specs.DiscountEnds.{table_ends, IsDiscount}
use Rattle.scr_yield_curve.specs.Parts.{IsCurveInMillionths, rates_in_parts}
use Rattle.scr_yield_curve.specs.declared.table.TheConstants.{MAX_DISCOUNT}
use Rattle.scr_yield_curve.specs.declared.tilt.Tilt.TheVariants as tilts
use Rattle.scr_yield_curve.proofs.RateLemmas.{rates_in_range, length-rates_in_parts}
use Rattle.scr_yield_curve.proofs.TableLemmas.{table_in_range}
use Rattle.scr_dates.specs.Payments.{total}
use Rattle.scr_flow.specs.Due.{dues}
use Rattle.scr_flow.proofs.SizeLemmas.{present-within, dues-within}
use Rattle.scr_nodes.specs.Own.{Valued}
use Rattle.scr_discounts.specs.Discounts.{discounts_at}
use Rattle.scr_rules.specs.MarketRules.{worth_ends}

module _ (valued : Valued) (curve : IsCurveInMillionths valued.rates) where
  abbrev parts : List ℤ
  parts = rates_in_parts valued.rates tilts.Base

  base-table : All IsDiscount (table_ends parts)
  base-table = table_in_range parts (rates_in_range valued.rates tilts.Base curve) (let count = length-rates_in_parts valued.rates tilts.Base in omega (arith, count))

  pub worth-within : (most : ℕ) → total valued.payments ≤ most → IsWithin (MAX_DISCOUNT * most) (worth_ends valued (discounts_at valued.rates))
  unfolding worth_ends discounts_at
  worth-within most small =
      let own = present-within (dues valued.asof valued.payments) (table_ends parts) base-table in
      let le = mul-le MAX_DISCOUNT (sum_by unsigned_abs (dues valued.asof valued.payments)) MAX_DISCOUNT most (le_refl MAX_DISCOUNT) (omega (arith, small, dues-within valued.asof valued.payments)) in
      record { low = omega (arith, le, own.low); high = omega (arith, le, own.high) }
