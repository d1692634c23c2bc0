-- The exact figures of interest rate risk for a balance sheet, in cents (Articles 165 to 167 and 206(2) of Delegated
-- Regulation (EU) 2015/35). Nothing is rounded, and each payment is discounted by itself.
use Rattle.std.specs.Prelude.{ℕ, ℤ, pos, Bool, List, [], ◌∷◌, map, if◌then◌else◌}
use Rattle.std.proofs.Common.{lit<}
use Rattle.scr_num.specs.Fraction.{Fraction, over, zero_fraction, plus, minus, product}
use Rattle.scr_dates.specs.declared.day.Day.{Day}
use Rattle.scr_yield_curve.specs.Discount.{discount_exact}
use Rattle.scr_yield_curve.specs.Rate.{rate}
use Rattle.scr_yield_curve.specs.declared.tilt.Tilt.TheVariants as tilts
use Rattle.scr_flow.specs.Payments.{payments_exact, payments_loss_exact}
use Rattle.scr_agg.specs.Choice.{Outcome, chosen}
use Rattle.scr_rate.specs.Interest.{scenario_outcome, interest_outcome}
use Rattle.scr_sheet.specs.declared.sheet.BalanceSheet.{BalanceSheet}
use Rattle.scr_sheet.specs.Absorptions.{absorbed}
use Rattle.scr_sheet.specs.declared.keys.AbsorbKey.TheVariants as absorb
use Rattle.scr_sheet.specs.declared.rows.Position.{Position}
use Rattle.scr_sheet.specs.declared.rows.Liability.{Liability}
use Rattle.scr_sheet.specs.declared.rows.Curve.{Curve}
use Rattle.scr_nodes.specs.declared.node.Direction.{Direction}
use Rattle.scr_nodes.specs.declared.node.Direction.TheVariants as directions
use Rattle.scr_nodes.specs.Rows.{is_held_in, is_owed_in, rates_of}
use Rattle.scr_rules.specs.Discounts.{tilt_of}
use Rattle.scr_rules.specs.Holdings.{security_cents}

-- a sum over the rows that pass a test
abbrev pub sum_where : {Row : Type 0} → (Row → Bool) → (Row → Fraction) → List Row → Fraction
sum_where test part [] = zero_fraction
sum_where test part (row ∷ rows) = plus (if test row then part row else zero_fraction) (sum_where test part rows)

-- the present value of payments in a currency, each by the discount of its own maturity (Directive 2009/138/EC, Article
-- 77(2))
abbrev pub present_value : BalanceSheet → (currency : List ℕ) → (payments : List (Day × ℤ)) → Fraction
present_value sheet currency payments =
    let rates = rates_of currency sheet in
    payments_exact (λ years. discount_exact (rate rates tilts.Base years) years) sheet.numbers.asof.number payments

-- what payments in a currency lose of their present value where its rates change
abbrev pub payments_loss : BalanceSheet → Direction → List ℕ → List (Day × ℤ) → Fraction
payments_loss sheet direction currency payments =
    let rates = rates_of currency sheet in
    payments_loss_exact sheet.numbers.asof.number payments (rate rates tilts.Base) (rate rates (tilt_of direction))

-- what the payments of a security lose, which are per 1,000,000 of its value
unfoldable pub security_unit_loss : BalanceSheet → Direction → Position → Fraction
security_unit_loss sheet direction p = payments_loss sheet direction p.security.currency p.security.flows

-- what is held of the security loses as much of each million
unfoldable pub security_loss : BalanceSheet → Direction → Position → Fraction
security_loss sheet direction p = product (over (pos (security_cents sheet p)) 1_000_000 (lit< tt)) (security_unit_loss sheet direction p)

-- what is owed to policyholders costs more where its present value rises
unfoldable pub liability_cost : BalanceSheet → Direction → Liability → Fraction
liability_cost sheet direction liability = minus zero_fraction (payments_loss sheet direction liability.currency liability.flows.base)

-- what the change costs in one currency; a gain is below 0
unfoldable pub currency_loss : BalanceSheet → Direction → List ℕ → Fraction
currency_loss sheet direction currency =
    plus (sum_where (is_held_in currency) (security_loss sheet direction) sheet.securities)
    (sum_where (is_owed_in currency) (liability_cost sheet direction) sheet.liabilities)

-- in each currency, in the order of the curves
abbrev pub losses : BalanceSheet → Direction → List Fraction
losses sheet direction = map (λ (curve : Curve). currency_loss sheet direction curve.currency) sheet.curves

-- what technical provisions absorb of each scenario, in cents
abbrev pub up_absorption : BalanceSheet → ℕ
up_absorption sheet = absorbed absorb.InterestUp sheet.numbers

abbrev pub down_absorption : BalanceSheet → ℕ
down_absorption sheet = absorbed absorb.InterestDown sheet.numbers

-- the rise, the fall, and the one of the two that decides
unfoldable pub scenario_of : BalanceSheet → Direction → Outcome
scenario_of sheet directions.Up = scenario_outcome (losses sheet directions.Up) (up_absorption sheet)
scenario_of sheet directions.Down = scenario_outcome (losses sheet directions.Down) (down_absorption sheet)

unfoldable pub decisive_outcome : BalanceSheet → Outcome
decisive_outcome sheet =
    interest_outcome (losses sheet directions.Up) (losses sheet directions.Down) (up_absorption sheet) (down_absorption sheet)

-- its place: 0 of the rise, 1 of the fall
abbrev pub decisive_place : BalanceSheet → ℕ
decisive_place sheet = chosen (scenario_of sheet directions.Up ∷ scenario_of sheet directions.Down ∷ [])
