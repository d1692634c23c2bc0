use Rattle.std.proofs.Common.{◌≡◌, true, false, arith, ◌∙◌}
use Rattle.scr_num.specs.Rounding.{ends}
use Rattle.scr_nodes.specs.declared.node.Direction.TheVariants as directions
use Rattle.scr_rules.proofs.FallRows.{falls-within}
use Rattle.scr_rules.proofs.RowFigures.{owed-fits, owed-known, row-within, row-in-range, rate-here, present-here}
use Rattle.scr_rules.proofs.liability_rows.liability_estimate.Goals as goal

pub bucket_by-dues-requires-clause-days_in : goal.bucket_by-dues-requires-clause-days_in
bucket_by-dues-requires-clause-days_in c = rw c.as_slice.ensures (owed-fits c.args.book.now.sheet c.args.liability.now c.requires.row c.sheet-sheet.ensures.valid).days

pub bucket_by-dues-requires-clause-near : goal.bucket_by-dues-requires-clause-near
bucket_by-dues-requires-clause-near c = rw (c.as_slice.ensures, c.requires.rates.asof) (owed-fits c.args.book.now.sheet c.args.liability.now c.requires.row c.sheet-sheet.ensures.valid).near

pub bucket_by-dues-requires-clause-small : goal.bucket_by-dues-requires-clause-small
bucket_by-dues-requires-clause-small c = rw c.as_slice.ensures (owed-fits c.args.book.now.sheet c.args.liability.now c.requires.row c.sheet-sheet.ensures.valid).small

pub falls_of-up-requires : goal.falls_of-up-requires
falls_of-up-requires c =
    falls-within c.args.book.now.sheet c.sheet-sheet.ensures.valid c.args.liability.now.currency c.args.rates.now.curves c.args.rates.now c.in-Some.currency c.requires.rows c.requires.rates (rw c.sheet-sheet.ensures.sheet at c.in-Some.ensures.place)

pub falls_of-down-requires : goal.falls_of-down-requires
falls_of-down-requires c =
    falls-within c.args.book.now.sheet c.sheet-sheet.ensures.valid c.args.liability.now.currency c.args.rates.now.curves c.args.rates.now c.in-Some.currency c.requires.rows c.requires.rates (rw c.sheet-sheet.ensures.sheet at c.in-Some.ensures.place)

pub row-discounts-requires : goal.row-discounts-requires
row-discounts-requires c = row-within c.args.book.now.sheet c.args.liability.now c.requires.row c.sheet-sheet.ensures.valid c.args.rates.now.curves c.in-Some.currency c.requires.rows (rw c.sheet-sheet.ensures.sheet at c.in-Some.ensures.place)

pub costs-rate_up-requires : goal.costs-rate_up-requires
costs-rate_up-requires c =
    let few = (owed-fits c.args.book.now.sheet c.args.liability.now c.requires.row c.sheet-sheet.ensures.valid).small in
    omega (arith, few, rw c.as_slice.ensures at c.bucket_by-dues.ensures.no_larger)

pub costs-rate_down-requires : goal.costs-rate_down-requires
costs-rate_down-requires c =
    let few = (owed-fits c.args.book.now.sheet c.args.liability.now c.requires.row c.sheet-sheet.ensures.valid).small in
    omega (arith, few, rw c.as_slice.ensures at c.bucket_by-dues.ensures.no_larger)

pub base_worth-present-requires-clause-small : goal.base_worth-present-requires-clause-small
base_worth-present-requires-clause-small c =
    let few = (owed-fits c.args.book.now.sheet c.args.liability.now c.requires.row c.sheet-sheet.ensures.valid).small in
    omega (arith, few, rw c.as_slice.ensures at c.bucket_by-dues.ensures.no_larger)

pub base_worth-present-requires-clause-in_range : goal.base_worth-present-requires-clause-in_range
base_worth-present-requires-clause-in_range c =
    row-in-range c.args.book.now.sheet c.args.liability.now c.requires.row c.sheet-sheet.ensures.valid c.args.rates.now.curves c.in-Some.currency c.requires.rows (rw c.sheet-sheet.ensures.sheet at c.in-Some.ensures.place) c.row-discounts.result.now c.row-discounts.ensures

pub returns-clause-rate_up : goal.returns-clause-rate_up
returns-clause-rate_up c =
    rate-here c.args.book.now.sheet c.args.liability.now c.requires.row c.sheet-sheet.ensures.valid c.args.rates.now.curves c.in-Some.currency c.requires.rows (rw c.sheet-sheet.ensures.sheet at c.in-Some.ensures.place) c.args.rates.now c.requires.rates
    directions.Up c.bucket_by-dues.result c.falls_of-up.result.now (ends c.costs-rate_up.result) c.falls_of-up.ensures
    (rw (c.as_slice.ensures, c.requires.rates.asof) at c.bucket_by-dues.ensures.value) c.costs-rate_up.ensures

pub returns-clause-rate_down : goal.returns-clause-rate_down
returns-clause-rate_down c =
    rate-here c.args.book.now.sheet c.args.liability.now c.requires.row c.sheet-sheet.ensures.valid c.args.rates.now.curves c.in-Some.currency c.requires.rows (rw c.sheet-sheet.ensures.sheet at c.in-Some.ensures.place) c.args.rates.now c.requires.rates
    directions.Down c.bucket_by-dues.result c.falls_of-down.result.now (ends c.costs-rate_down.result) c.falls_of-down.ensures
    (rw (c.as_slice.ensures, c.requires.rates.asof) at c.bucket_by-dues.ensures.value) c.costs-rate_down.ensures

pub returns-clause-present : goal.returns-clause-present
returns-clause-present c =
    present-here c.args.book.now.sheet c.args.liability.now c.requires.row c.sheet-sheet.ensures.valid c.args.rates.now.curves c.in-Some.currency c.requires.rows (rw c.sheet-sheet.ensures.sheet at c.in-Some.ensures.place) c.row-discounts.result.now
    c.bucket_by-dues.result (ends c.base_worth-present.result) c.row-discounts.ensures
    (rw (c.as_slice.ensures, c.requires.rates.asof) at c.bucket_by-dues.ensures.value) c.base_worth-present.ensures

pub returns-clause-kept : goal.returns-clause-kept
returns-clause-kept c = record {
  currency = (rw c.sheet-sheet.ensures.sheet at c.in-Some.ensures.place);
  dues = rw (c.as_slice.ensures, c.requires.rates.asof) at c.bucket_by-dues.ensures.value;
}

pub unreachable-requires : goal.unreachable-requires
unreachable-requires c =
    let has = (owed-known c.args.book.now.sheet c.args.liability.now c.requires.row c.sheet-sheet.ensures.valid).currency in
    let none = rw c.sheet-sheet.ensures.sheet at c.in_default.ensures.there in
    let never : false ≡ true = none ∙ has in
    cc
