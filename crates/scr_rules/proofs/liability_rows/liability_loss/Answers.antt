use Rattle.std.proofs.Common.{arith}
use Rattle.scr_num.specs.Rounding.{ends}
use Rattle.scr_rules.proofs.LifeSizes.{sortable}
use Rattle.scr_rules.proofs.RowFigures.{base-small, row-within, row-in-range, loss-here, less-small}
use Rattle.scr_rules.proofs.liability_rows.liability_loss.Goals as goal

pub bucket_by-stressed-requires-clause-days_in : goal.bucket_by-stressed-requires-clause-days_in
bucket_by-stressed-requires-clause-days_in c = rw (c.as_slice.ensures, c.under.ensures) (sortable c.args.book.now.sheet c.sheet.ensures.valid c.args.projection c.args.liability.now.name c.args.liability.now c.requires.row).days

pub bucket_by-stressed-requires-clause-near : goal.bucket_by-stressed-requires-clause-near
bucket_by-stressed-requires-clause-near c = rw (c.as_slice.ensures, c.under.ensures, c.requires.rates.asof) (sortable c.args.book.now.sheet c.sheet.ensures.valid c.args.projection c.args.liability.now.name c.args.liability.now c.requires.row).near

pub bucket_by-stressed-requires-clause-small : goal.bucket_by-stressed-requires-clause-small
bucket_by-stressed-requires-clause-small c = rw (c.as_slice.ensures, c.under.ensures) (sortable c.args.book.now.sheet c.sheet.ensures.valid c.args.projection c.args.liability.now.name c.args.liability.now c.requires.row).small

pub row-discounts-requires : goal.row-discounts-requires
row-discounts-requires c = row-within c.args.book.now.sheet c.args.liability.now c.requires.row c.sheet.ensures.valid c.args.rates.now.curves c.args.estimate.now.currency c.requires.rows c.requires.estimate.currency

pub worth_above-requires-clause-small : goal.worth_above-requires-clause-small
worth_above-requires-clause-small c =
    less-small c.args.book.now.sheet c.args.liability.now c.requires.row c.sheet.ensures.valid c.bucket_by-stressed.result c.args.estimate.now.dues c.args.projection
    (rw (c.as_slice.ensures, c.under.ensures, c.requires.rates.asof) at c.bucket_by-stressed.ensures.value) c.requires.estimate.dues

pub worth_above-requires-clause-in_range : goal.worth_above-requires-clause-in_range
worth_above-requires-clause-in_range c =
    row-in-range c.args.book.now.sheet c.args.liability.now c.requires.row c.sheet.ensures.valid c.args.rates.now.curves c.args.estimate.now.currency c.requires.rows c.requires.estimate.currency c.row-discounts.result.now c.row-discounts.ensures

pub returns : goal.returns
returns c =
    loss-here c.args.book.now.sheet c.args.liability.now c.requires.row c.sheet.ensures.valid c.args.rates.now.curves c.args.estimate.now.currency c.requires.rows c.requires.estimate.currency c.row-discounts.result.now
    c.bucket_by-stressed.result c.args.estimate.now.dues c.args.projection (ends c.worth_above.result) c.row-discounts.ensures
    (rw (c.as_slice.ensures, c.under.ensures, c.requires.rates.asof) at c.bucket_by-stressed.ensures.value) c.requires.estimate.dues c.worth_above.ensures

pub worth_above-requires-clause-stressed : goal.worth_above-requires-clause-stressed
worth_above-requires-clause-stressed c =
    let few = (sortable c.args.book.now.sheet c.sheet.ensures.valid c.args.projection c.args.liability.now.name c.args.liability.now c.requires.row).small in
    omega (arith, few, rw (c.as_slice.ensures, c.under.ensures) at c.bucket_by-stressed.ensures.no_larger)

pub worth_above-requires-clause-base : goal.worth_above-requires-clause-base
worth_above-requires-clause-base c = base-small c.args.book.now.sheet c.args.liability.now c.requires.row c.sheet.ensures.valid c.args.estimate.now.dues c.requires.estimate.dues
