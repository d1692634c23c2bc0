use Rattle.std.proofs.Common.{◌≡◌, length, subst, ap, rules}
use Rattle.std.specs.Prelude.{All}
use Rattle.scr_yield_curve.specs.DiscountEnds.{IsDiscount}
use Rattle.scr_discounts.specs.Discounts.{CurrencyDiscounts}
use Rattle.scr_discounts.proofs.FallRows.{tables-are, falls-are}
use Rattle.scr_discounts.proofs.falling.currency_falls.Goals as goal

pub tilted_falls-rising-requires-clause-from : goal.tilted_falls-rising-requires-clause-from
tilted_falls-rising-requires-clause-from c =
    let count : length c.args.row.now ≡ 3 = search rules in
    let is = tables-are c.args.row.now c.index-row-0.result c.index-row-1.result c.index-row-2.result count in
    subst (All IsDiscount) (ap (λ (d : CurrencyDiscounts). d.base) is) c.requires.row.base.in_range

pub tilted_falls-rising-requires-clause-to : goal.tilted_falls-rising-requires-clause-to
tilted_falls-rising-requires-clause-to c =
    let count : length c.args.row.now ≡ 3 = search rules in
    let is = tables-are c.args.row.now c.index-row-0.result c.index-row-1.result c.index-row-2.result count in
    subst (All IsDiscount) (ap (λ (d : CurrencyDiscounts). d.up) is) c.requires.row.up.in_range

pub tilted_falls-falling-requires-clause-from : goal.tilted_falls-falling-requires-clause-from
tilted_falls-falling-requires-clause-from c =
    let count : length c.args.row.now ≡ 3 = search rules in
    let is = tables-are c.args.row.now c.index-row-0.result c.index-row-1.result c.index-row-2.result count in
    subst (All IsDiscount) (ap (λ (d : CurrencyDiscounts). d.base) is) c.requires.row.base.in_range

pub tilted_falls-falling-requires-clause-to : goal.tilted_falls-falling-requires-clause-to
tilted_falls-falling-requires-clause-to c =
    let count : length c.args.row.now ≡ 3 = search rules in
    let is = tables-are c.args.row.now c.index-row-0.result c.index-row-1.result c.index-row-2.result count in
    subst (All IsDiscount) (ap (λ (d : CurrencyDiscounts). d.down) is) c.requires.row.down.in_range

pub returns : goal.returns
returns c =
    let count : length c.args.row.now ≡ 3 = search rules in
    let is = tables-are c.args.row.now c.index-row-0.result c.index-row-1.result c.index-row-2.result count in
    falls-are c.args.rates.now _ _ _ _ _ _ is c.tilted_falls-rising.ensures c.tilted_falls-falling.ensures
