-- The exact figure of each node, in the words of the Regulation (Delegated Regulation (EU) 2015/35, Articles 84, 87, 114 to
-- 207, and Article 103 of Directive 2009/138/EC). Nothing is rounded, and no step of the reckoning is named. In the files
-- named `Exact` each definition is the exact figure of a balance sheet: a fraction, or a formula where there are roots.
use Rattle.std.specs.Prelude.{ℕ, pos, Option, Some, None, [], ◌∷◌}
use Rattle.std.specs.Option.{option_map_or}
use Rattle.scr_num.specs.Fraction.{whole, zero_fraction}
use Rattle.scr_num.specs.Figure.{Figure}
use Rattle.scr_num.specs.Figure.Figure.{Frac}
use Rattle.scr_agg.specs.Absorbed.{net_figure}
use Rattle.scr_rate.specs.Interest.{counted}
use Rattle.scr_factors.specs.Values.{FactorValues}
use Rattle.scr_sheet.specs.declared.sheet.BalanceSheet.{BalanceSheet}
use Rattle.scr_sheet.specs.Absorptions.{absorbed}
use Rattle.scr_sheet.specs.BalanceSheet.{position_of}
use Rattle.scr_sheet.specs.Totals.{total_of}
use Rattle.scr_nodes.specs.declared.node.Alternatives.TheVariants as alternatives
use Rattle.scr_nodes.specs.declared.node.Biometric.TheVariants as biometrics
use Rattle.scr_nodes.specs.declared.node.Direction.TheVariants as directions
use Rattle.scr_nodes.specs.declared.node.Measure.TheVariants as measures
use Rattle.scr_nodes.specs.declared.node.Node.{Node}
use Rattle.scr_nodes.specs.declared.node.Node.TheVariants as nodes
use Rattle.scr_nodes.specs.declared.node.OfFund.TheVariants as of_funds
use Rattle.scr_nodes.specs.declared.node.OfSecurity.TheVariants as of_securities
use Rattle.scr_nodes.specs.declared.node.OfLiability.TheVariants as of_liabilities
use Rattle.scr_nodes.specs.declared.node.OfCurrency.TheVariants as of_currencies
use Rattle.scr_nodes.specs.declared.node.OfGroup.TheVariants as of_groups
use Rattle.scr_nodes.specs.declared.node.Whole.TheVariants as wholes
use Rattle.scr_nodes.specs.declared.node.Risk.TheVariants as risks
use Rattle.scr_nodes.specs.OwnOf.{risk_key}
use Rattle.scr_nodes.specs.Rows.{group_of, liability_of}
use Rattle.scr_loss.specs.Bscr.{intangible_figure}
use Rattle.scr_rules.specs.Alternatives.{Outcomes}
use Rattle.scr_rules.specs.Holdings.{class_total, group_cents, assets_cents}
use Rattle.scr_exact.specs.LifeExact.{stress_loss, stress_outcome, lapse_outcomes, lapse_outcome, life_exact, slt_exact}
use Rattle.scr_exact.specs.DefaultExact.{group_loss, class_loss, class_square, default_variance, type1_exact, due_exact, default_exact}
use Rattle.scr_exact.specs.Measured.{measured}
use Rattle.scr_exact.specs.LossExact.{bscr_exact, diversification_exact, operational_exact, adjustment_exact, scr_exact}
use Rattle.scr_exact.specs.NonlifeExact.{catastrophe_charge, lapse_charge, segment_exact, premium_reserve_exact, natural_exact}
use Rattle.scr_exact.specs.NonlifeExact.{man_made_exact, catastrophe_exact, health_catastrophe_exact, nonlife_exact, nslt_exact, health_exact}
use Rattle.scr_exact.specs.InterestExact.{security_unit_loss, security_loss, liability_cost, currency_loss, scenario_of, decisive_outcome}
use Rattle.scr_exact.specs.MarketExact.{equities_exact, equity_exact, liability_worth, change_outcome, change_outcomes, decisive_change, currency_exact, property_exact}
use Rattle.scr_exact.specs.MarketExact.{bond_exact, spread_exact, group_square_exact, concentration_exact, market_exact}

-- ---- choices

-- what the alternatives of each choice come to, and the variance by which a band of the standard deviation decides
abbrev pub exact_outcomes : BalanceSheet → Outcomes
exact_outcomes sheet = record {
  interest = scenario_of sheet directions.Up ∷ scenario_of sheet directions.Down ∷ [];
  change = change_outcomes sheet;
  lapses = lapse_outcomes sheet;
  variance = default_variance sheet;
}

-- ---- the figure of each node

-- In cents, and for the payments of a security per 1,000,000 of its value. Which alternative decides is no figure. What
-- a name that no row has would lose is nothing.
abbrev pub exact : FactorValues → BalanceSheet → Node → Option Figure
exact factors sheet (nodes.Fund name of_funds.Total) = Some (Frac (whole (pos (total_of sheet name))))
exact factors sheet (nodes.Security name of_securities.Total) = Some (Frac (whole (pos (total_of sheet name))))
exact factors sheet (nodes.Security name (of_securities.UnitLoss direction)) =
    Some (Frac (option_map_or (security_unit_loss sheet direction) (position_of name sheet.securities) zero_fraction))
exact factors sheet (nodes.Security name (of_securities.Rate direction)) =
    Some (Frac (option_map_or (security_loss sheet direction) (position_of name sheet.securities) zero_fraction))
exact factors sheet (nodes.Liability name (of_liabilities.Rate direction)) =
    Some (Frac (option_map_or (liability_cost sheet direction) (liability_of name sheet.liabilities) zero_fraction))
exact factors sheet (nodes.Currency currency (of_currencies.Loss direction)) = Some (Frac (counted (currency_loss sheet direction currency)))
exact factors sheet (nodes.Whole (wholes.InterestScenario direction measure)) = Some (Frac (measured measure (scenario_of sheet direction)))
exact factors sheet (nodes.Whole (wholes.Choice which)) = None
exact factors sheet (nodes.Whole (wholes.Picked alternatives.Interest measure)) = Some (Frac (measured measure (decisive_outcome sheet)))
exact factors sheet (nodes.Whole (wholes.ClassSum class)) = Some (Frac (whole (pos (class_total class sheet))))
exact factors sheet (nodes.Whole (wholes.EquityPart kind)) = Some (equities_exact sheet kind)
exact factors sheet (nodes.Whole wholes.EquityRoot) = Some (equity_exact sheet)
exact factors sheet (nodes.Whole (wholes.NetPart risks.Equity)) = Some (net_figure (equity_exact sheet) (absorbed (risk_key risks.Equity) sheet.numbers))
exact factors sheet (nodes.Whole (wholes.NetPart risks.Property)) =
    Some (net_figure (property_exact sheet) (absorbed (risk_key risks.Property) sheet.numbers))
exact factors sheet (nodes.Whole (wholes.NetPart risks.Spread)) =
    Some (net_figure (spread_exact factors sheet) (absorbed (risk_key risks.Spread) sheet.numbers))
exact factors sheet (nodes.Whole (wholes.NetPart risks.Concentration)) =
    Some (net_figure (concentration_exact sheet) (absorbed (risk_key risks.Concentration) sheet.numbers))
exact factors sheet (nodes.Liability name of_liabilities.Present) =
    Some (Frac (option_map_or (liability_worth sheet) (liability_of name sheet.liabilities) zero_fraction))
exact factors sheet (nodes.Currency currency (of_currencies.Scenario direction measure)) =
    Some (Frac (measured measure (change_outcome sheet currency direction)))
exact factors sheet (nodes.Currency currency of_currencies.Choice) = None
exact factors sheet (nodes.Currency currency (of_currencies.Picked measure)) =
    Some (Frac (measured measure (decisive_change sheet currency)))
exact factors sheet (nodes.Whole (wholes.Currency measure)) = Some (Frac (currency_exact measure sheet))
exact factors sheet (nodes.Whole wholes.Property) = Some (property_exact sheet)
exact factors sheet (nodes.Security name of_securities.Spread) =
    Some (Frac (option_map_or (bond_exact factors sheet) (position_of name sheet.securities) zero_fraction))
exact factors sheet (nodes.Whole wholes.Spread) = Some (spread_exact factors sheet)
exact factors sheet (nodes.Group name of_groups.Total) = Some (Frac (whole (pos (group_cents sheet name))))
exact factors sheet (nodes.Whole wholes.Assets) = Some (Frac (whole (pos (assets_cents sheet))))
exact factors sheet (nodes.Group name of_groups.ConcentrationSquare) =
    Some (Frac (option_map_or (group_square_exact sheet) (group_of name sheet.groups) zero_fraction))
exact factors sheet (nodes.Whole wholes.Concentration) = Some (concentration_exact sheet)
exact factors sheet (nodes.Whole (wholes.Market measure)) = Some (market_exact factors sheet measure)
exact factors sheet (nodes.Liability name (of_liabilities.Loss projection)) =
    Some (Frac (option_map_or (stress_loss sheet projection) (liability_of name sheet.liabilities) zero_fraction))
exact factors sheet (nodes.Whole (wholes.BioScenario biometric projection measure)) =
    Some (Frac (measured measure (stress_outcome sheet biometric projection)))
exact factors sheet (nodes.Whole (wholes.Picked alternatives.LifeLapse measure)) = Some (Frac (measured measure (lapse_outcome sheet biometrics.Life)))
exact factors sheet (nodes.Whole (wholes.Picked alternatives.HealthLapse measure)) =
    Some (Frac (measured measure (lapse_outcome sheet biometrics.Health)))
exact factors sheet (nodes.Whole (wholes.Life measure)) = Some (life_exact sheet measure)
exact factors sheet (nodes.Whole (wholes.Slt measure)) = Some (slt_exact sheet measure)
exact factors sheet (nodes.Group name of_groups.Loss) = Some (Frac (group_loss sheet name))
exact factors sheet (nodes.Whole (wholes.ClassLoss class)) = Some (Frac (class_loss sheet class))
exact factors sheet (nodes.Whole (wholes.ClassSquare class)) = Some (Frac (class_square sheet class))
exact factors sheet (nodes.Whole wholes.Variance) = Some (Frac (default_variance sheet))
exact factors sheet (nodes.Whole wholes.DefaultBand) = None
exact factors sheet (nodes.Whole wholes.DefaultType1) = Some (type1_exact sheet)
exact factors sheet (nodes.Whole wholes.DefaultType2) = Some (due_exact sheet)
exact factors sheet (nodes.Whole wholes.Default) = Some (default_exact sheet)
exact factors sheet (nodes.Whole (wholes.NetPart risks.Default)) = Some (net_figure (default_exact sheet) (absorbed (risk_key risks.Default) sheet.numbers))
exact factors sheet (nodes.Whole (wholes.Segment segment)) = Some (segment_exact factors sheet segment)
exact factors sheet (nodes.Whole (wholes.PremiumReserve set)) = Some (premium_reserve_exact factors sheet set)
exact factors sheet (nodes.Whole (wholes.CatCharge key)) = Some (catastrophe_charge sheet key)
exact factors sheet (nodes.Whole (wholes.Lapse set)) = Some (lapse_charge sheet set)
exact factors sheet (nodes.Whole wholes.Natural) = Some (natural_exact sheet)
exact factors sheet (nodes.Whole wholes.ManMade) = Some (man_made_exact sheet)
exact factors sheet (nodes.Whole wholes.NonlifeCatastrophe) = Some (catastrophe_exact sheet)
exact factors sheet (nodes.Whole wholes.HealthCatastrophe) = Some (health_catastrophe_exact sheet measures.Gross)
exact factors sheet (nodes.Whole (wholes.NetPart risks.HealthCatastrophe)) = Some (health_catastrophe_exact sheet measures.Net)
exact factors sheet (nodes.Whole (wholes.Nslt measure)) = Some (nslt_exact factors sheet)
exact factors sheet (nodes.Whole (wholes.Health measure)) = Some (health_exact factors sheet measure)
exact factors sheet (nodes.Whole (wholes.Nonlife measure)) = Some (nonlife_exact factors sheet)
exact factors sheet (nodes.Whole wholes.Intangible) = Some (intangible_figure sheet.numbers.intangible)
exact factors sheet (nodes.Whole (wholes.Bscr measure)) = Some (bscr_exact factors sheet measure)
exact factors sheet (nodes.Whole (wholes.OpPart part)) = Some (operational_exact factors sheet part)
exact factors sheet (nodes.Whole (wholes.Adjust adjustment)) = Some (adjustment_exact factors sheet adjustment)
exact factors sheet (nodes.Whole wholes.Scr) = Some (scr_exact factors sheet)
exact factors sheet (nodes.Whole wholes.Diversification) = Some (diversification_exact factors sheet)

-- how many of its units make one of the figure's: 1 where it is in whole cents, 1000 where it is in grains
abbrev pub unit_of : Node → ℕ
unit_of (nodes.Fund name of_funds.Total) = 1
unit_of (nodes.Security name of_securities.Total) = 1
unit_of (nodes.Security name (of_securities.UnitLoss direction)) = 1_000_000_000_000_000_000
unit_of (nodes.Security name (of_securities.Rate direction)) = 1_000_000_000_000_000_000
unit_of (nodes.Liability name (of_liabilities.Rate direction)) = 1_000_000_000_000_000_000
unit_of (nodes.Currency currency (of_currencies.Loss direction)) = 1_000_000_000_000_000_000
unit_of (nodes.Whole (wholes.ClassSum class)) = 1
unit_of (nodes.Liability name of_liabilities.Present) = 1_000_000_000_000_000_000
unit_of (nodes.Security name of_securities.Spread) = 1_000_000_000
unit_of (nodes.Group name of_groups.Total) = 1
unit_of (nodes.Whole wholes.Assets) = 1
unit_of (nodes.Group name of_groups.ConcentrationSquare) = 10_000_000_000
unit_of (nodes.Liability name (of_liabilities.Loss projection)) = 1_000_000_000_000_000_000
unit_of (nodes.Whole (wholes.ClassSquare class)) = 1_000_000
unit_of (nodes.Whole wholes.Variance) = 1_000_000
unit_of node = 1000
