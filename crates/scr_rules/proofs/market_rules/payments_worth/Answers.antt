use Rattle.std.proofs.Common.{slice_get, refl}
use Rattle.scr_num.specs.Rounding.{ends}
use Rattle.scr_discounts.specs.Kept.{rows_of, tables}
use Rattle.scr_rules.proofs.CodeLemmas.{row-found}
use Rattle.scr_discounts.proofs.FallRows.{place-within}
use Rattle.scr_rules.proofs.MarketCode.{curve-there, worth-at}
use Rattle.scr_rules.proofs.FallRows.{kept-years}
use Rattle.scr_rules.proofs.market_rules.payments_worth.Goals as goal

pub bucketed-flows-requires-clause-kept : goal.bucketed-flows-requires-clause-kept
bucketed-flows-requires-clause-kept c = kept-years c.args.sheet.now (rows_of c.args.curves.now) c.args.kept c.requires.kept

pub row-requires : goal.row-requires
row-requires c =
    let curve = curve-there (slice_get c.args.sheet.now.curves c.in-Some.place) c.args.currency.now c.in-Some.ensures.place in
    place-within c.args.sheet.now c.args.curves.now c.in-Some.place curve.0 c.requires.rows curve.1

pub base_worth-requires-clause-in_range : goal.base_worth-requires-clause-in_range
base_worth-requires-clause-in_range c =
    let curve = curve-there (slice_get c.args.sheet.now.curves c.in-Some.place) c.args.currency.now c.in-Some.ensures.place in
    let found = row-found c.args.sheet.now c.requires.valid c.args.currency.now c.args.curves.now c.in-Some.place curve.0 c.row.result.now c.requires.rows c.in-Some.ensures.place curve.1 c.row.ensures in
    found.discounts.base.in_range

pub returns : goal.returns
returns c =
    let curve = curve-there (slice_get c.args.sheet.now.curves c.in-Some.place) c.args.currency.now c.in-Some.ensures.place in
    let found = row-found c.args.sheet.now c.requires.valid c.args.currency.now c.args.curves.now c.in-Some.place curve.0 c.row.result.now c.requires.rows c.in-Some.ensures.place curve.1 c.row.ensures in
    record {
      value = worth-at c.args.sheet.now c.args.currency.now c.args.payments.now (rows_of c.args.curves.now) (tables c.row.result.now) curve.0.rates c.bucketed-flows.result (ends c.base_worth.result)
          (tables c.row.result.now).base found c.bucketed-flows.ensures.value refl c.base_worth.ensures;
    }
