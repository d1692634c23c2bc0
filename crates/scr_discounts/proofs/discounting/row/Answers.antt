use Rattle.std.proofs.Common.{◌≡◌, ℤ, List, refl}
use Rattle.scr_num.specs.Rounding.{Ends}
use Rattle.scr_yield_curve.specs.DiscountEnds.{table_ends}
use Rattle.scr_yield_curve.specs.Parts.{rates_in_parts}
use Rattle.scr_yield_curve.specs.declared.tilt.Tilt.TheVariants as tilts
use Rattle.scr_discounts.specs.Discounts.{CurrencyDiscounts, discounts_at}
use Rattle.scr_discounts.proofs.discounting.row.Goals as goal

three : (rates : List ℤ) (a b c : List Ends) → a ≡ table_ends (rates_in_parts rates tilts.Base) → b ≡ table_ends (rates_in_parts rates tilts.Up) → c ≡ table_ends (rates_in_parts rates tilts.Down)
    → ◌≡◌ {A = CurrencyDiscounts} (record { base = a; up = b; down = c }) (discounts_at rates)
unfolding discounts_at
three rates a b c x y z = rw (x, y, z) refl

pub returns : goal.returns
returns c =
    three c.args.curve.now.rates _ _ _
    (rw (c.yearly.ensures.value, c.as_slice-rates.ensures) at c.discounts.ensures.ends)
    (rw (c.yearly-2.ensures.value, c.as_slice-rates.ensures) at c.discounts-2.ensures.ends)
    (rw (c.yearly-3.ensures.value, c.as_slice-rates.ensures) at c.discounts-3.ensures.ends)
