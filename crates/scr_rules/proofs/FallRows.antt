-- The falls that are kept of each currency's discounts: found under its place, and what payments lose by them.
use Rattle.std.proofs.Common.{◌≡◌, ℕ, ◌<◌, ℤ, List, [], Option, Some, None, Bor, IfSome, length, map, slice_get, get_or, refl, ap, subst, ◌∙◌, arith}
use Rattle.std.specs.Option.{option_map}
use Rattle.std.proofs.lemmas.Option.{slice_get-get_or, slice_get_within}
use Rattle.scr_num.specs.Rounding.{Ends}
use Rattle.scr_dates.specs.declared.day.Day.{Day}
use Rattle.scr_yield_curve.specs.declared.table.Discounts.{Discounts}
use Rattle.scr_flow.specs.Due.{dues}
use Rattle.scr_yield_curve.specs.declared.tilt.Tilt.TheVariants as tilts
use Rattle.scr_flow.specs.Sums.{weighted_ends}
use Rattle.scr_sheet.specs.BalanceSheet.{curve_name}
use Rattle.scr_sheet.specs.Validity.{Valid}
use Rattle.scr_sheet.specs.declared.{rows.Curve.Curve, sheet.BalanceSheet.BalanceSheet}
use Rattle.scr_nodes.specs.declared.node.Direction.{Direction}
use Rattle.scr_nodes.specs.declared.node.Direction.TheVariants as directions
use Rattle.scr_discounts.specs.Discounts.{CurrencyDiscounts}
use Rattle.scr_discounts.specs.Kept.{AreDiscountsOf, row_in, tables, rows_of}
use Rattle.scr_discounts.specs.KeptRates.{AreRatesOf, falls_at}
use Rattle.scr_rules.specs.Discounts.{falls_in}
use Rattle.scr_rules.specs.Paid.{paid_in}
use Rattle.scr_rules.specs.Rules.{paid_ends}
use Rattle.scr_discounts.specs.declared.known.CurrencyFalls.{CurrencyFalls}
use Rattle.scr_discounts.specs.declared.known.Rates.{Rates}
use Rattle.scr_discounts.proofs.FallRows.{length-falls, falls-there, row-there, place-within}
use Rattle.scr_rules.proofs.CodeLemmas.{IsRowAt, row-found, paid-up, paid-down}
use Rattle.scr_rules.proofs.MarketCode.{curve-there}

-- ---- what payments lose by the falls at the place of their currency
module _ (sheet : BalanceSheet) (currency : List ℕ) (payments : List (Day × ℤ)) (rows : List CurrencyDiscounts) (row : CurrencyDiscounts) (rates flows : List ℤ) (e : Ends)
    (found : IsRowAt currency sheet.curves rows row rates) (flows_are : flows ≡ dues sheet.numbers.asof.number payments) where
  lost-by : (direction : Direction) → e ≡ weighted_ends flows (falls_in direction (falls_at rates row)) → e ≡ paid_ends (paid_in sheet currency payments direction) (row_in currency sheet.curves rows)
  lost-by directions.Up is = paid-up sheet currency payments rows row rates flows e row.base row.up found flows_are refl directions.Up refl refl is
  lost-by directions.Down is = paid-down sheet currency payments rows row rates flows e row.base row.down found flows_are refl directions.Down refl refl is

module _ (sheet : BalanceSheet) (valid : Valid sheet) (currency : List ℕ) (rows : List (List Discounts)) (kept : Rates) (k : ℕ)
    (are : AreDiscountsOf sheet.curves (rows_of rows)) (rates : AreRatesOf sheet (rows_of rows) kept) (named : option_map curve_name (slice_get sheet.curves k) ≡ Some currency) where
  pub falls-within : k < length kept.falls.items
  falls-within =
      let curve = curve-there (slice_get sheet.curves k) currency named in
      let count = length-falls sheet.curves (rows_of rows) are in
      let same = ap length rates.falls in
      omega (arith, count, same, slice_get_within sheet.curves k curve.0 curve.1)

  pub kept-paid : (payments : List (Day × ℤ)) (direction : Direction) (flows : List ℤ) (falls : List Ends) (e : Ends)
      → ((row : CurrencyFalls) → slice_get kept.falls.items k ≡ Some row → falls ≡ falls_in direction row)
      → flows ≡ dues sheet.numbers.asof.number payments → e ≡ weighted_ends flows falls
      → e ≡ paid_ends (paid_in sheet currency payments direction) (row_in currency sheet.curves (rows_of rows))
  kept-paid payments direction flows falls e at flows_are is =
      let curve = curve-there (slice_get sheet.curves k) currency named in
      let within = place-within sheet rows k curve.0 are curve.1 in
      let row = get_or rows k [] in
      let there = slice_get-get_or rows k [] within in
      let found = row-found sheet valid currency rows k curve.0 row are named curve.1 there in
      let same = at (falls_at curve.0.rates (tables row)) (ap (λ (l : List CurrencyFalls). slice_get l k) rates.falls ∙ falls-there sheet.curves (rows_of rows) k curve.0 (tables row) curve.1 (row-there rows k row there)) in
      lost-by sheet currency payments (rows_of rows) (tables row) curve.0.rates flows e found flows_are direction (is ∙ ap (weighted_ends flows) same)

-- ---- what is kept, if it is
pub kept-years : (sheet : BalanceSheet) (rows : List CurrencyDiscounts) (kept : Option (Bor Rates)) → IfSome kept (λ rates. AreRatesOf sheet rows rates.now)
    → IfSome kept (λ rates. rates.now.years ≡ sheet.numbers.asof.number)
kept-years sheet rows None known = known
kept-years sheet rows (Some rates) known = known.asof

pub kept-rates : (sheet : BalanceSheet) (rows : List CurrencyDiscounts) (kept : Option (Bor Rates)) (rates : Bor Rates) → IfSome kept (λ r. AreRatesOf sheet rows r.now) → kept ≡ Some rates
    → AreRatesOf sheet rows rates.now
kept-rates sheet rows kept rates known is = subst (λ (o : Option (Bor Rates)). IfSome o (λ r. AreRatesOf sheet rows r.now)) is known
