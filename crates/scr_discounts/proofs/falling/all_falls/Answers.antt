use Rattle.std.proofs.Common.{◌≤◌, length, subst, sym, arith}
use Rattle.scr_yield_curve.specs.Parts.{IsCurveInMillionths}
use Rattle.scr_discounts.specs.Kept.{AreDiscountsAt, rows_of, tables}
use Rattle.scr_discounts.proofs.FallRows.{place-within, discounts-there, row-there, rates-there, falls-next, falls-whole}
use Rattle.scr_discounts.proofs.falling.all_falls.Goals as goal

pub row-requires : goal.row-requires
row-requires c = place-within c.args.sheet.now c.args.curves.now c.loop-k.k c.at.result.now c.requires.rows c.at.ensures

pub currency_falls-requires-clause-curve : goal.currency_falls-requires-clause-curve
currency_falls-requires-clause-curve c =
    let has = rates-there c.args.sheet.now c.requires.valid c.loop-k.k c.at.result.now c.at.ensures in
    subst IsCurveInMillionths (sym c.as_slice.ensures) has.curve

pub currency_falls-requires-clause-count : goal.currency_falls-requires-clause-count
currency_falls-requires-clause-count c =
    let has = rates-there c.args.sheet.now c.requires.valid c.loop-k.k c.at.result.now c.at.ensures in
    subst (λ rates. length rates ≤ 100) (sym c.as_slice.ensures) has.count

pub currency_falls-requires-clause-row : goal.currency_falls-requires-clause-row
currency_falls-requires-clause-row c =
    subst (λ rates. AreDiscountsAt rates (tables c.row.result.now)) (sym c.as_slice.ensures)
    (discounts-there c.args.sheet.now.curves (rows_of c.args.curves.now) c.loop-k.k c.at.result.now (tables c.row.result.now) c.requires.rows c.at.ensures
    (row-there c.args.curves.now c.loop-k.k c.row.result.now c.row.ensures))

pub loop-k-preserved : goal.loop-k-preserved
loop-k-preserved c =
    falls-next c.args.sheet.now.curves (rows_of c.args.curves.now) c.loop-k.k c.at.result.now (tables c.row.result.now) c.loop-k.falls.items _ c.currency_falls.result c.at.ensures
    (row-there c.args.curves.now c.loop-k.k c.row.result.now c.row.ensures) (rw c.as_slice.ensures at c.currency_falls.ensures) c.in_ok-push.ensures.items c.loop-k.invariant

pub returns : goal.returns
returns c =
    falls-whole c.args.sheet.now.curves (rows_of c.args.curves.now) c.loop-k.k c.loop-k.falls.items c.requires.rows (omega arith) c.loop-k.invariant
