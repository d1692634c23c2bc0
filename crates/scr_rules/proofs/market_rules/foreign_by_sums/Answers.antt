use Rattle.std.proofs.Common.{ap, ◌∙◌}
use Rattle.scr_market.specs.CurrencyEnds.{currency_rise_ends, currency_fall_ends}
use Rattle.scr_num.specs.Rounding.{ends}
use Rattle.scr_rules.proofs.MarketCode.{first-of-two, second-of-two}
use Rattle.scr_rules.proofs.market_rules.foreign_by_sums.Goals as goal

pub returns-in-Up : goal.returns-in-Up
returns-in-Up c = rw c.in-Up.is
    (first-of-two c.currency.result c.index-currency-0.result _ _ c.currency.ensures.ends
    ∙ ap (λ cents. currency_rise_ends cents (ends c.args.owed)) c.amount.ensures.value)

pub returns-in-Down : goal.returns-in-Down
returns-in-Down c = rw c.in-Down.is
    (second-of-two c.currency.result c.index-currency-1.result _ _ c.currency.ensures.ends
    ∙ ap (λ cents. currency_fall_ends cents (ends c.args.owed)) c.amount.ensures.value)
