-- The exact figures of market risk besides interest rate risk, for a balance sheet, in cents (Articles 164, 164a, 164b and
-- 168 to 188 of Delegated Regulation (EU) 2015/35). Nothing is rounded, and each payment is discounted by itself.
use Rattle.std.specs.Prelude.{ℕ, List, [], ◌∷◌, map}
use Rattle.scr_num.specs.Fraction.{Fraction}
use Rattle.scr_num.specs.Figure.{Figure}
use Rattle.scr_num.specs.Figure.Figure.{Frac, Sum}
use Rattle.scr_num.specs.Sums.{parts_of}
use Rattle.scr_agg.specs.Absorbed.{net_exact}
use Rattle.scr_agg.specs.Choice.{Outcome, outcome_at, chosen}
use Rattle.scr_factors.specs.Values.{FactorValues}
use Rattle.scr_market.specs.Currency.{currency_rise_exact, currency_fall_exact}
use Rattle.scr_market.specs.Equity.{type1_figure, type2_figure, infra_figure, infracorp_figure, equity_root_figure}
use Rattle.scr_market.specs.Market.{market_figure}
use Rattle.scr_market.specs.Property.{property_figure}
use Rattle.scr_market.specs.Spread.{row_of, bond_loss_exact}
use Rattle.scr_conc.specs.Concentration.{square_exact, concentration_figure}
use Rattle.scr_sheet.specs.declared.sheet.BalanceSheet.{BalanceSheet}
use Rattle.scr_sheet.specs.declared.rows.Class.TheVariants as classes
use Rattle.scr_sheet.specs.declared.rows.Group.{Group}
use Rattle.scr_sheet.specs.declared.rows.Liability.{Liability}
use Rattle.scr_sheet.specs.declared.rows.Position.{Position}
use Rattle.scr_nodes.specs.declared.node.Direction.{Direction}
use Rattle.scr_nodes.specs.declared.node.Direction.TheVariants as directions
use Rattle.scr_nodes.specs.declared.node.Equities.{Equities}
use Rattle.scr_nodes.specs.declared.node.Equities.TheVariants as equities
use Rattle.scr_nodes.specs.declared.node.Measure.{Measure}
use Rattle.scr_nodes.specs.declared.node.Risk.TheVariants as risks
use Rattle.scr_nodes.specs.OwnOf.{currency_absorbed}
use Rattle.scr_nodes.specs.Rows.{has_class, is_owed_in, is_foreign, step_of}
use Rattle.scr_rules.specs.Holdings.{security_cents, class_total, assets_in, assets_cents, exposure_to}
use Rattle.scr_exact.specs.InterestExact.{sum_where, present_value, decisive_outcome, decisive_place}
use Rattle.scr_exact.specs.Measured.{measured, absorbed_part}

-- ---- equity risk

-- one kind of equities, by the symmetric adjustment as it stands (Articles 164a, 164b, 169, 171 and 172)
abbrev pub equities_exact : BalanceSheet → Equities → Figure
equities_exact sheet equities.Type1 =
    type1_figure (class_total classes.Type1Equity sheet) (class_total classes.Type1Strategic sheet) sheet.numbers.sym
equities_exact sheet equities.Type2 =
    type2_figure (class_total classes.Type2Equity sheet) (class_total classes.Type2Strategic sheet) sheet.numbers.sym
equities_exact sheet equities.Infrastructure = infra_figure (class_total classes.Infrastructure sheet) sheet.numbers.sym
equities_exact sheet equities.InfrastructureCorporate =
    infracorp_figure (class_total classes.InfrastructureCorporate sheet) sheet.numbers.sym

-- all of them: the root over type 1 equities and the sum of all others (Article 168(4))
unfoldable pub equity_exact : BalanceSheet → Figure
equity_exact sheet =
    equity_root_figure (equities_exact sheet equities.Type1)
    (Sum (Sum (equities_exact sheet equities.Type2) (equities_exact sheet equities.Infrastructure))
    (equities_exact sheet equities.InfrastructureCorporate))

-- ---- currency risk (Article 188)

-- the present value of a liability by the best estimate (Directive 2009/138/EC, Article 77(2))
unfoldable pub liability_worth : BalanceSheet → Liability → Fraction
liability_worth sheet liability = present_value sheet liability.currency liability.flows.base

-- what the liabilities in a currency are worth
unfoldable pub liabilities_in : List ℕ → BalanceSheet → Fraction
liabilities_in currency sheet = sum_where (is_owed_in currency) (liability_worth sheet) sheet.liabilities

abbrev pub change_cost : Direction → ℕ → Fraction → Fraction
change_cost directions.Up assets liabilities = currency_rise_exact assets liabilities
change_cost directions.Down assets liabilities = currency_fall_exact assets liabilities

-- what a rise or a fall of the currency costs before and after absorption
unfoldable pub change_outcome : BalanceSheet → List ℕ → Direction → Outcome
change_outcome sheet currency direction =
    let gross = change_cost direction (assets_in currency sheet) (liabilities_in currency sheet) in
    record { gross = gross; net = net_exact gross (currency_absorbed sheet currency direction) }

-- the rise, listed first, and the fall
abbrev pub change_outcomes : BalanceSheet → List ℕ → List Outcome
change_outcomes sheet currency =
    change_outcome sheet currency directions.Up ∷ change_outcome sheet currency directions.Down ∷ []

-- the one of the two that decides (Articles 188(2) and 206(2))
unfoldable pub decisive_change : BalanceSheet → List ℕ → Outcome
decisive_change sheet currency =
    let outcomes = change_outcomes sheet currency in outcome_at outcomes (chosen outcomes)

-- the sum over all foreign currencies, before or after absorption (Article 188(1))
unfoldable pub currency_exact : Measure → BalanceSheet → Fraction
currency_exact measure sheet =
    sum_where (is_foreign sheet) (λ curve. measured measure (decisive_change sheet curve.currency)) sheet.curves

-- ---- property and spread risk (Articles 174 to 176)

abbrev pub property_exact : BalanceSheet → Figure
property_exact sheet = property_figure (class_total classes.Property sheet)

-- what a bond loses
abbrev pub bond_exact : FactorValues → BalanceSheet → Position → Fraction
bond_exact factors sheet p =
    bond_loss_exact factors (security_cents sheet p) (row_of (step_of sheet p)) p.security.duration

-- what all bonds lose
unfoldable pub spread_exact : FactorValues → BalanceSheet → Figure
spread_exact factors sheet =
    Frac (sum_where (has_class classes.Bond) (bond_exact factors sheet) sheet.securities)

-- ---- market risk concentrations (Articles 182 to 187)

-- the square of the requirement for a group
abbrev pub group_square_exact : BalanceSheet → Group → Fraction
group_square_exact sheet group = square_exact (assets_cents sheet) (exposure_to sheet group)

unfoldable pub concentration_exact : BalanceSheet → Figure
concentration_exact sheet = concentration_figure (assets_cents sheet) (map (exposure_to sheet) sheet.groups)

-- ---- the module

-- interest rate, equity, property, spread, concentration and currency risk, before or after absorption
abbrev pub market_parts_exact : FactorValues → BalanceSheet → Measure → List Figure
market_parts_exact factors sheet measure =
    Frac (measured measure (decisive_outcome sheet)) ∷ absorbed_part sheet measure risks.Equity (equity_exact sheet)
    ∷ absorbed_part sheet measure risks.Property (property_exact sheet)
    ∷ absorbed_part sheet measure risks.Spread (spread_exact factors sheet)
    ∷ absorbed_part sheet measure risks.Concentration (concentration_exact sheet)
    ∷ Frac (currency_exact measure sheet) ∷ []

-- their root, where the scenario that decides sets the correlation of interest rate risk (Article 164)
unfoldable pub market_exact : FactorValues → BalanceSheet → Measure → Figure
market_exact factors sheet measure =
    market_figure (decisive_place sheet) (parts_of (market_parts_exact factors sheet measure))
