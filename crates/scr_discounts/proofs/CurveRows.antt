-- The rows of discounts of all curves: their rates are in range, and their discounts may be discounted by.
use Rattle.std.proofs.Common.{◌≡◌, ◌≤◌, ℤ, List, [], ◌∷◌, length, map, ◌∙◌, arith}
use Rattle.std.specs.List.{AllByRecursion}
use Rattle.std.proofs.lemmas.Int.{ints}
use Rattle.std.proofs.lemmas.List.Elements.{All-from_recursion}
use Rattle.scr_profile.specs.declared.limits.TheConstants.{MIN_RATE, MAX_RATE}
use Rattle.scr_yield_curve.specs.DiscountEnds.{table_ends}
use Rattle.scr_yield_curve.specs.Parts.{IsRateInMillionths, IsCurveInMillionths, rates_in_parts}
use Rattle.scr_yield_curve.specs.Rate.{rate}
use Rattle.scr_yield_curve.specs.declared.tilt.Tilt.{Tilt}
use Rattle.scr_yield_curve.specs.declared.tilt.Tilt.TheVariants as tilts
use Rattle.scr_yield_curve.proofs.RateLemmas.{rates_are, rates_in_range, length-rates_in_parts}
use Rattle.scr_yield_curve.proofs.TableLemmas.{length-ends_from, table_in_range, table_encloses}
use Rattle.scr_sheet.specs.Validity.{Valid, IsBetween, IsCurve}
use Rattle.scr_sheet.specs.declared.{rows.Curve.Curve, sheet.BalanceSheet.BalanceSheet}
use Rattle.scr_discounts.specs.Discounts.{discounts_at}
use Rattle.scr_discounts.specs.Kept.{IsTable, AreDiscountsAt, AreDiscountsOf, all_discounts}

-- ---- the rates of a curve
in_millionths : (r : ℤ) → IsBetween MIN_RATE MAX_RATE r → IsRateInMillionths r
in_millionths r h =
    let low = h.0 in
    let high = h.1 in
    record { low = omega (arith, ints); high = omega (arith, ints) }

all_in_millionths : (rates : List ℤ) → AllByRecursion (IsBetween MIN_RATE MAX_RATE) rates → AllByRecursion IsRateInMillionths rates
all_in_millionths [] all = tt
all_in_millionths (r ∷ rates) all = (in_millionths r all.0, all_in_millionths rates all.1)

pub record HasRates (rates : List ℤ) : Type 0 where
  pub curve : IsCurveInMillionths rates
  pub count : length rates ≤ 100

pub curve-rates : (curve : Curve) → IsCurve curve → HasRates curve.rates
curve-rates curve valid = record {
  curve = record { some = valid.2; limits = All-from_recursion IsRateInMillionths curve.rates (all_in_millionths curve.rates valid.1) };
  count = valid.3;
}

-- ---- those of all curves may be discounted by
is-table : (rates : List ℤ) (tilt : Tilt) → IsCurveInMillionths rates → IsTable (rate rates tilt) (table_ends (rates_in_parts rates tilt))
is-table rates tilt curve = record {
  count = length-ends_from 1 (rates_in_parts rates tilt) ∙ length-rates_in_parts rates tilt;
  in_range = table_in_range (rates_in_parts rates tilt) (rates_in_range rates tilt curve) (let count = length-rates_in_parts rates tilt in omega (arith, count));
  encloses = table_encloses (rates_in_parts rates tilt) (rate rates tilt) (rates_in_range rates tilt curve) (rates_are rates tilt curve);
}

pub at-rates : (rates : List ℤ) → IsCurveInMillionths rates → AreDiscountsAt rates (discounts_at rates)
unfolding discounts_at
at-rates rates curve = record { base = is-table rates tilts.Base curve; up = is-table rates tilts.Up curve; down = is-table rates tilts.Down curve }

all-curves : (curves : List Curve) → AllByRecursion IsCurve curves → AreDiscountsOf curves (map (λ (curve : Curve). discounts_at curve.rates) curves)
all-curves [] valid = tt
all-curves (curve ∷ curves) valid = (at-rates curve.rates (curve-rates curve valid.0).curve, all-curves curves valid.1)

pub all-are : (sheet : BalanceSheet) → Valid sheet → AreDiscountsOf sheet.curves (all_discounts sheet)
all-are sheet valid = all-curves sheet.curves valid.curves
