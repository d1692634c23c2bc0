-- The rows of discounts and of falls that are kept of all currencies, found under their places.
use Rattle.std.proofs.Common.{◌≡◌, ℕ, zero, suc, ◌+◌, ◌<◌, Bool, true, false, if◌then◌else◌, ℤ, List, [], ◌∷◌, ◌++◌, Some, length, map, slice_get, get_or, take, refl, sym, ap, ap₂, subst, ◌∙◌, arith}
use Rattle.std.specs.Prelude.{All}
use Rattle.std.specs.Option.{option_map}
use Rattle.std.proofs.lemmas.List.{get_or-map, length-map, map-append, map_more, take_more, take_all}
use Rattle.std.proofs.lemmas.List.Elements.{All-from_recursion}
use Rattle.std.proofs.lemmas.Option.{slice_get-map, slice_get_within, get_or_from_slice_get}
use Rattle.scr_num.specs.Rounding.{Ends, ends}
use Rattle.scr_num.specs.declared.span.Span.{Span}
use Rattle.scr_yield_curve.specs.DiscountEnds.{IsDiscount}
use Rattle.scr_yield_curve.specs.Falls.{differences}
use Rattle.scr_yield_curve.specs.Parts.{rates_in_parts}
use Rattle.scr_yield_curve.specs.declared.table.Discounts.{Discounts}
use Rattle.scr_yield_curve.specs.declared.tilt.Tilt.TheVariants as tilts
use Rattle.scr_tables.specs.Names.{same_name}
use Rattle.scr_tables.specs.Tables.{with_row}
use Rattle.scr_tables.proofs.TableRows.{same_name-itself}
use Rattle.scr_sheet.specs.BalanceSheet.{curve_name}
use Rattle.scr_sheet.specs.Validity.{IsCurve, Valid}
use Rattle.scr_sheet.specs.declared.{rows.Curve.Curve, sheet.BalanceSheet.BalanceSheet}
use Rattle.scr_discounts.specs.Discounts.{CurrencyDiscounts, discounts_at}
use Rattle.scr_discounts.specs.Kept.{AreDiscountsAt, AreDiscountsOf, tables, rows_of, all_discounts}
use Rattle.scr_discounts.specs.KeptRates.{AreKeptBut, AreRatesOf, KnownRates, falls_at, falls_of, known_of, all_rates}
use Rattle.scr_discounts.specs.declared.known.CurrencyFalls.{CurrencyFalls}
use Rattle.scr_discounts.specs.declared.known.Rates.{Rates}
use Rattle.scr_discounts.proofs.CurveRows.{HasRates, curve-rates}

-- ---- rows of discounts
pub tables-are : (row : List Discounts) (a b c : Discounts) → length row ≡ 3
    → tables row ≡ record { base = map ends (get_or row 0 a).at; up = map ends (get_or row 1 b).at; down = map ends (get_or row 2 c).at }
tables-are [] a b c count = absurd (omega (arith, count))
tables-are (p ∷ []) a b c count = absurd (omega (arith, count))
tables-are (p ∷ q ∷ []) a b c count = absurd (omega (arith, count))
tables-are (p ∷ q ∷ r ∷ rest) a b c count = refl

pub count-rows : (curves : List Curve) (rows : List CurrencyDiscounts) → AreDiscountsOf curves rows → length rows ≡ length curves
count-rows [] [] are = refl
count-rows [] (r ∷ rows) are = absurd are
count-rows (c ∷ curves) [] are = absurd are
count-rows (c ∷ curves) (r ∷ rows) are = ap suc (count-rows curves rows are.1)

pub place-within : (sheet : BalanceSheet) (rows : List (List Discounts)) (k : ℕ) (curve : Curve) → AreDiscountsOf sheet.curves (rows_of rows) → slice_get sheet.curves k ≡ Some curve → k < length rows
place-within sheet rows k curve are is = omega (arith, slice_get_within sheet.curves k curve is, count-rows sheet.curves (rows_of rows) are, length-map rows tables)

-- what holds of a table of ends holds of its spans
pub along-table : (spans : List Span) → All IsDiscount (map ends spans) → All (λ (span : Span). IsDiscount (ends span)) spans
along-table spans all = λ k d within.
    subst IsDiscount (get_or-map ends spans k d (ends d) within) (all k (ends d) (omega (arith, within, length-map spans ends)))

-- ---- a row at its place
pub length-falls : (curves : List Curve) (rows : List CurrencyDiscounts) → AreDiscountsOf curves rows → length (falls_of curves rows) ≡ length curves
length-falls [] [] are = refl
length-falls [] (r ∷ rows) are = absurd are
length-falls (c ∷ curves) [] are = absurd are
length-falls (c ∷ curves) (r ∷ rows) are = ap suc (length-falls curves rows are.1)

pub falls-there : (curves : List Curve) (rows : List CurrencyDiscounts) (k : ℕ) (curve : Curve) (row : CurrencyDiscounts)
    → slice_get curves k ≡ Some curve → slice_get rows k ≡ Some row → slice_get (falls_of curves rows) k ≡ Some (falls_at curve.rates row)
falls-there [] rows k curve row is there = absurd (cc)
falls-there (c ∷ curves) [] k curve row is there = absurd (cc)
falls-there (c ∷ curves) (r ∷ rows) zero curve row is there =
    let a : c ≡ curve = cc in
    let b : r ≡ row = cc in
    rw (a, b) refl
falls-there (c ∷ curves) (r ∷ rows) (suc k) curve row is there = falls-there curves rows k curve row is there

pub discounts-there : (curves : List Curve) (rows : List CurrencyDiscounts) (k : ℕ) (curve : Curve) (row : CurrencyDiscounts) → AreDiscountsOf curves rows
    → slice_get curves k ≡ Some curve → slice_get rows k ≡ Some row → AreDiscountsAt curve.rates row
discounts-there [] rows k curve row are is there = absurd (cc)
discounts-there (c ∷ curves) [] k curve row are is there = absurd are
discounts-there (c ∷ curves) (r ∷ rows) zero curve row are is there =
    let a : c ≡ curve = cc in
    let b : r ≡ row = cc in
    subst (λ (x : Curve). AreDiscountsAt x.rates row) a (subst (AreDiscountsAt c.rates) b are.0)
discounts-there (c ∷ curves) (r ∷ rows) (suc k) curve row are is there = discounts-there curves rows k curve row are.1 is there

pub row-there : (rows : List (List Discounts)) (k : ℕ) (row : List Discounts) → slice_get rows k ≡ Some row → slice_get (rows_of rows) k ≡ Some (tables row)
row-there rows k row is = slice_get-map tables rows k ∙ ap (option_map tables) is

-- one more row
pub falls-next : (curves : List Curve) (rows : List CurrencyDiscounts) (k : ℕ) (curve : Curve) (row : CurrencyDiscounts) (so_far after : List CurrencyFalls) (falls : CurrencyFalls)
    → slice_get curves k ≡ Some curve → slice_get rows k ≡ Some row → falls ≡ falls_at curve.rates row → after ≡ so_far ++ falls ∷ []
    → so_far ≡ take k (falls_of curves rows) → after ≡ take (k + 1) (falls_of curves rows)
falls-next curves rows k curve row so_far after falls is there here pushed before =
    let all = falls_of curves rows in
    let at = falls-there curves rows k curve row is there in
    pushed ∙ ap₂ (λ (xs : List CurrencyFalls) (x : CurrencyFalls). xs ++ x ∷ []) before (here ∙ sym (get_or_from_slice_get all k (falls_at curve.rates row) (falls_at curve.rates row) at))
    ∙ sym (take_more all k (falls_at curve.rates row) (slice_get_within all k (falls_at curve.rates row) at))

pub falls-whole : (curves : List Curve) (rows : List CurrencyDiscounts) (n : ℕ) (found : List CurrencyFalls) → AreDiscountsOf curves rows → n ≡ length curves
    → found ≡ take n (falls_of curves rows) → found ≡ falls_of curves rows
falls-whole curves rows n found are is h = let count = length-falls curves rows are in h ∙ take_all n (falls_of curves rows) (omega (arith, count, is))

-- one more row of discounts
pub rows-more : (rows after : List (List Discounts)) (row : List Discounts) (curves : List Curve) (k : ℕ) (curve : Curve) → after ≡ rows ++ row ∷ [] → tables row ≡ discounts_at curve.rates
    → slice_get curves k ≡ Some curve → rows_of rows ≡ map (λ (c : Curve). discounts_at c.rates) (take k curves) → rows_of after ≡ map (λ (c : Curve). discounts_at c.rates) (take (k + 1) curves)
rows-more rows after row curves k curve pushed here is so_far =
    ap rows_of pushed ∙ map-append tables rows (row ∷ []) ∙ ap₂ (λ (xs : List CurrencyDiscounts) (x : CurrencyDiscounts). xs ++ x ∷ []) so_far
    (here ∙ ap (λ (c : Curve). discounts_at c.rates) (sym (get_or_from_slice_get curves k curve curve is)))
    ∙ sym (map_more (λ (c : Curve). discounts_at c.rates) curves k curve (slice_get_within curves k curve is))

pub kept-row : (rows : List (List Discounts)) (k : ℕ) (row : List Discounts) (rates : List ℤ) → slice_get (rows_of rows) k ≡ Some (discounts_at rates) → slice_get rows k ≡ Some row → tables row ≡ discounts_at rates
kept-row rows k row rates is there = let here = row-there rows k row there in cc

pub kept-row-within : (rows : List (List Discounts)) (k : ℕ) (rates : List ℤ) → slice_get (rows_of rows) k ≡ Some (discounts_at rates) → k < length rows
kept-row-within rows k rates is = omega (arith, slice_get_within (rows_of rows) k (discounts_at rates) is, length-map rows tables)

-- where a curve comes or changes, the rows of all others are at their places
not-itself : (a b : Curve) → Some a ≡ Some b → same_name a.currency b.currency ≡ false → ⊥
not-itself a b is other =
    let same : a ≡ b = cc in
    let itself : same_name a.currency b.currency ≡ true = subst (λ (x : Curve). same_name a.currency x.currency ≡ true) same (same_name-itself a.currency) in
    cc

pub kept-but : (curves : List Curve) (new : Curve) → AreKeptBut new.currency (with_row curve_name new curves) (map (λ (curve : Curve). discounts_at curve.rates) curves)
kept-but [] new zero curve is other = absurd (not-itself new curve is other)
kept-but [] new (suc k) curve is other = absurd (cc)
kept-but (c ∷ curves) new k curve is other = by (same_name new.currency c.currency) k (λ j there. kept-but curves new j curve there other) is
  where
    by : (b : Bool) (k : ℕ) → ((j : ℕ) → slice_get (with_row curve_name new curves) j ≡ Some curve → slice_get (map (λ (curve : Curve). discounts_at curve.rates) curves) j ≡ Some (discounts_at curve.rates))
        → slice_get (if b then new ∷ curves else c ∷ with_row curve_name new curves) k ≡ Some curve
        → slice_get (map (λ (curve : Curve). discounts_at curve.rates) (c ∷ curves)) k ≡ Some (discounts_at curve.rates)
    by true zero later is = absurd (not-itself new curve is other)
    by true (suc k) later is = slice_get-map (λ (curve : Curve). discounts_at curve.rates) curves k ∙ ap (option_map (λ (curve : Curve). discounts_at curve.rates)) is
    by false zero later is = ap (option_map (λ (curve : Curve). discounts_at curve.rates)) is
    by false (suc k) later is = later k is

-- ---- rates as they are worked out
pub worked-rates : (sheet : BalanceSheet) (rates : Rates) → known_of rates ≡ all_rates sheet → AreRatesOf sheet (rows_of rates.curves) rates
worked-rates sheet rates is = record {
  asof = ap (λ (k : KnownRates). k.asof) is;
  falls = ap (λ (k : KnownRates). k.falls) is ∙ ap (falls_of sheet.curves) (sym (ap (λ (k : KnownRates). k.rows) is));
}

pub known-is : (sheet : BalanceSheet) (rates : Rates) → rows_of rates.curves ≡ all_discounts sheet → rates.years ≡ sheet.numbers.asof.number → rates.falls.items ≡ falls_of sheet.curves (rows_of rates.curves)
    → known_of rates ≡ all_rates sheet
known-is sheet rates rows asof falls = rw (rows, asof, rw rows at falls) refl

-- ---- of one currency
pub rates-there : (sheet : BalanceSheet) → Valid sheet → (k : ℕ) (curve : Curve) → slice_get sheet.curves k ≡ Some curve → HasRates curve.rates
rates-there sheet valid k curve is =
    curve-rates curve (subst IsCurve (get_or_from_slice_get sheet.curves k curve curve is) (All-from_recursion IsCurve sheet.curves valid.curves k curve (slice_get_within sheet.curves k curve is)))

pub falls-are : (rates : List ℤ) (row : CurrencyDiscounts) (base up down a b : List Ends) → row ≡ record { base = base; up = up; down = down }
    → a ≡ differences (rates_in_parts rates tilts.Base) base (rates_in_parts rates tilts.Up) up → b ≡ differences (rates_in_parts rates tilts.Base) base (rates_in_parts rates tilts.Down) down
    → ◌≡◌ {A = CurrencyFalls} (record { up = a; down = b }) (falls_at rates row)
falls-are rates row base up down a b is x y = rw (is, x, y) refl
