use Rattle.std.proofs.Common.{◌≡◌, ◌≤◌, length, slice_get, subst, sym, ap, ◌∙◌, rules}
use Rattle.std.proofs.lemmas.Option.{slice_get_within}
use Rattle.scr_num.specs.Rounding.{ends}
use Rattle.scr_yield_curve.specs.Parts.{IsCurveInMillionths}
use Rattle.scr_yield_curve.specs.Rate.{rate}
use Rattle.scr_yield_curve.specs.declared.tilt.Tilt.TheVariants as tilts
use Rattle.scr_discounts.specs.Discounts.{CurrencyDiscounts}
use Rattle.scr_discounts.specs.Kept.{IsTable, rows_of, tables}
use Rattle.scr_rules.proofs.CodeLemmas.{row-found, paid-up, paid-down}
use Rattle.scr_discounts.proofs.FallRows.{place-within, tables-are}
use Rattle.scr_rules.proofs.MarketCode.{curve-there}
use Rattle.scr_rules.proofs.FallRows.{falls-within, kept-paid, kept-rates, kept-years}
use Rattle.scr_rules.proofs.paid.paid.Goals as goal

pub bucketed-flows-requires-clause-kept : goal.bucketed-flows-requires-clause-kept
bucketed-flows-requires-clause-kept c = kept-years c.args.sheet.now (rows_of c.args.curves.now) c.args.kept c.requires.kept

pub falls_of-requires : goal.falls_of-requires
falls_of-requires c =
    falls-within c.args.sheet.now c.requires.valid c.args.currency.now c.args.curves.now c.in-Some-kept.rates.now c.in-Some.place c.requires.rows
    (kept-rates c.args.sheet.now (rows_of c.args.curves.now) c.args.kept c.in-Some-kept.rates c.requires.kept c.in-Some-kept.is) c.in-Some.ensures.place

pub returns-in-Some-kept-clause-value : goal.returns-in-Some-kept-clause-value
returns-in-Some-kept-clause-value c =
    kept-paid c.args.sheet.now c.requires.valid c.args.currency.now c.args.curves.now c.in-Some-kept.rates.now c.in-Some.place c.requires.rows
    (kept-rates c.args.sheet.now (rows_of c.args.curves.now) c.args.kept c.in-Some-kept.rates c.requires.kept c.in-Some-kept.is) c.in-Some.ensures.place
    c.args.payments.now c.args.direction c.bucketed-flows.result c.falls_of.result.now (ends c.fallen.result) c.falls_of.ensures c.bucketed-flows.ensures.value c.fallen.ensures.value

pub at-requires : goal.at-requires
at-requires c =
    let curve = curve-there (slice_get c.args.sheet.now.curves c.in-Some.place) c.args.currency.now c.in-Some.ensures.place in
    slice_get_within c.args.sheet.now.curves c.in-Some.place curve.0 curve.1

pub row-requires : goal.row-requires
row-requires c = place-within c.args.sheet.now c.args.curves.now c.in-Some.place c.at.result.now c.requires.rows c.at.ensures

pub loss-requires-clause-curve : goal.loss-requires-clause-curve
loss-requires-clause-curve c =
    let found = row-found c.args.sheet.now c.requires.valid c.args.currency.now c.args.curves.now c.in-Some.place c.at.result.now c.row.result.now c.requires.rows c.in-Some.ensures.place c.at.ensures c.row.ensures in
    subst IsCurveInMillionths (found.rates_are ∙ sym c.as_slice-rates.ensures) c.requires.fits.rates

pub loss-requires-clause-count : goal.loss-requires-clause-count
loss-requires-clause-count c =
    let found = row-found c.args.sheet.now c.requires.valid c.args.currency.now c.args.curves.now c.in-Some.place c.at.result.now c.row.result.now c.requires.rows c.in-Some.ensures.place c.at.ensures c.row.ensures in
    subst (λ rates. length rates ≤ 100) (found.rates_are ∙ sym c.as_slice-rates.ensures) c.requires.fits.count

pub loss-requires-clause-from : goal.loss-requires-clause-from
loss-requires-clause-from c =
    let found = row-found c.args.sheet.now c.requires.valid c.args.currency.now c.args.curves.now c.in-Some.place c.at.result.now c.row.result.now c.requires.rows c.in-Some.ensures.place c.at.ensures c.row.ensures in
    let count : length c.row.result.now ≡ 3 = search rules in
    let is = tables-are c.row.result.now c.index-row-0.result c.index-row-1.result c.index-row-2.result count in
    rw c.as_slice-rates.ensures (subst (IsTable (rate c.at.result.now.rates tilts.Base)) (ap (λ (d : CurrencyDiscounts). d.base) is) found.discounts.base)

pub loss-requires-clause-to : goal.loss-requires-clause-to
loss-requires-clause-to c =
    let found = row-found c.args.sheet.now c.requires.valid c.args.currency.now c.args.curves.now c.in-Some.place c.at.result.now c.row.result.now c.requires.rows c.in-Some.ensures.place c.at.ensures c.row.ensures in
    let count : length c.row.result.now ≡ 3 = search rules in
    let is = tables-are c.row.result.now c.index-row-0.result c.index-row-1.result c.index-row-2.result count in
    rw c.as_slice-rates.ensures (subst (IsTable (rate c.at.result.now.rates tilts.Up)) (ap (λ (d : CurrencyDiscounts). d.up) is) found.discounts.up)

pub returns-in-Up-clause-value : goal.returns-in-Up-clause-value
returns-in-Up-clause-value c =
    let found = row-found c.args.sheet.now c.requires.valid c.args.currency.now c.args.curves.now c.in-Some.place c.at.result.now c.row.result.now c.requires.rows c.in-Some.ensures.place c.at.ensures c.row.ensures in
    let count : length c.row.result.now ≡ 3 = search rules in
    let is = tables-are c.row.result.now c.index-row-0.result c.index-row-1.result c.index-row-2.result count in
    paid-up c.args.sheet.now c.args.currency.now c.args.payments.now (rows_of c.args.curves.now) (tables c.row.result.now) c.at.result.now.rates c.bucketed-flows.result (ends c.loss.result) _ _ found
    c.bucketed-flows.ensures.value (ap (λ (d : CurrencyDiscounts). d.base) is) c.args.direction c.in-Up.is (ap (λ (d : CurrencyDiscounts). d.up) is)
    (rw c.as_slice-rates.ensures at c.loss.ensures.value)

pub loss-requires-in-Down-clause-curve : goal.loss-requires-in-Down-clause-curve
loss-requires-in-Down-clause-curve c =
    let found = row-found c.args.sheet.now c.requires.valid c.args.currency.now c.args.curves.now c.in-Some.place c.at.result.now c.row.result.now c.requires.rows c.in-Some.ensures.place c.at.ensures c.row.ensures in
    subst IsCurveInMillionths (found.rates_are ∙ sym c.as_slice-rates.ensures) c.requires.fits.rates

pub loss-requires-in-Down-clause-count : goal.loss-requires-in-Down-clause-count
loss-requires-in-Down-clause-count c =
    let found = row-found c.args.sheet.now c.requires.valid c.args.currency.now c.args.curves.now c.in-Some.place c.at.result.now c.row.result.now c.requires.rows c.in-Some.ensures.place c.at.ensures c.row.ensures in
    subst (λ rates. length rates ≤ 100) (found.rates_are ∙ sym c.as_slice-rates.ensures) c.requires.fits.count

pub loss-requires-in-Down-clause-from : goal.loss-requires-in-Down-clause-from
loss-requires-in-Down-clause-from c =
    let found = row-found c.args.sheet.now c.requires.valid c.args.currency.now c.args.curves.now c.in-Some.place c.at.result.now c.row.result.now c.requires.rows c.in-Some.ensures.place c.at.ensures c.row.ensures in
    let count : length c.row.result.now ≡ 3 = search rules in
    let is = tables-are c.row.result.now c.index-row-0.result c.index-row-1.result c.index-row-2.result count in
    rw c.as_slice-rates.ensures (subst (IsTable (rate c.at.result.now.rates tilts.Base)) (ap (λ (d : CurrencyDiscounts). d.base) is) found.discounts.base)

pub loss-requires-in-Down-clause-to : goal.loss-requires-in-Down-clause-to
loss-requires-in-Down-clause-to c =
    let found = row-found c.args.sheet.now c.requires.valid c.args.currency.now c.args.curves.now c.in-Some.place c.at.result.now c.row.result.now c.requires.rows c.in-Some.ensures.place c.at.ensures c.row.ensures in
    let count : length c.row.result.now ≡ 3 = search rules in
    let is = tables-are c.row.result.now c.index-row-0.result c.index-row-1.result c.index-row-2.result count in
    rw c.as_slice-rates.ensures (subst (IsTable (rate c.at.result.now.rates tilts.Down)) (ap (λ (d : CurrencyDiscounts). d.down) is) found.discounts.down)

pub returns-in-Down-clause-value : goal.returns-in-Down-clause-value
returns-in-Down-clause-value c =
    let found = row-found c.args.sheet.now c.requires.valid c.args.currency.now c.args.curves.now c.in-Some.place c.at.result.now c.row.result.now c.requires.rows c.in-Some.ensures.place c.at.ensures c.row.ensures in
    let count : length c.row.result.now ≡ 3 = search rules in
    let is = tables-are c.row.result.now c.index-row-0.result c.index-row-1.result c.index-row-2.result count in
    paid-down c.args.sheet.now c.args.currency.now c.args.payments.now (rows_of c.args.curves.now) (tables c.row.result.now) c.at.result.now.rates c.bucketed-flows.result (ends c.loss-in-Down.result) _ _ found
    c.bucketed-flows.ensures.value (ap (λ (d : CurrencyDiscounts). d.base) is) c.args.direction c.in-Down.is (ap (λ (d : CurrencyDiscounts). d.down) is)
    (rw c.as_slice-rates.ensures at c.loss-in-Down.ensures.value)
