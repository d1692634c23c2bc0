use Rattle.std.proofs.Common.{◌≡◌, length, get_or, rules, subst, sym, ap, ◌∙◌}
use Rattle.std.specs.Prelude.{All}
use Rattle.scr_yield_curve.specs.DiscountEnds.{IsDiscount}
use Rattle.scr_flow.specs.LossEnds.{present_ends}
use Rattle.scr_discounts.specs.Discounts.{CurrencyDiscounts}
use Rattle.scr_discounts.proofs.FallRows.{tables-are, along-table}
use Rattle.scr_rules.proofs.market_rules.base_worth.Goals as goal

pub present-requires-clause-in_range : goal.present-requires-clause-in_range
present-requires-clause-in_range c =
    let count : length c.args.row.now ≡ 3 = search rules in
    let first = c.index-row-0.result in
    let is = tables-are c.args.row.now first first first count in
    along-table (get_or c.args.row.now 0 first).at (subst (All IsDiscount) (ap (λ (d : CurrencyDiscounts). d.base) is) c.requires.in_range)

pub returns : goal.returns
returns c =
    let count : length c.args.row.now ≡ 3 = search rules in
    let first = c.index-row-0.result in
    let is = tables-are c.args.row.now first first first count in
    c.present.ensures.ends ∙ ap (present_ends c.args.flows.now) (sym (ap (λ (d : CurrencyDiscounts). d.base) is))
