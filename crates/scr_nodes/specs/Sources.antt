-- From which other figures each figure is reckoned, in the order in which its rule takes them (Delegated Regulation
-- (EU) 2015/35, Articles 84, 165, 168 and 206(2); the graph is this project's own).
use Rattle.std.specs.Prelude.{ℕ, ◌++◌, List, [], ◌∷◌, filter, map}
use Rattle.scr_profile.specs.declared.default_class.DefaultClass.{DefaultClass}
use Rattle.scr_profile.specs.declared.default_class.DefaultClass.TheVariants as default_classes
use Rattle.scr_profile.specs.declared.segment.Segment.TheVariants as segments
use Rattle.scr_profile.specs.declared.set.Set.{Set}
use Rattle.scr_profile.specs.declared.set.Set.TheVariants as sets
use Rattle.scr_sheet.specs.declared.keys.CatKey.TheVariants as cats
use Rattle.scr_sheet.specs.declared.keys.Projection.{Projection}
use Rattle.scr_sheet.specs.declared.keys.Projection.TheVariants as projections
use Rattle.scr_sheet.specs.declared.sheet.BalanceSheet.{BalanceSheet}
use Rattle.scr_sheet.specs.declared.rows.Class.{Class}
use Rattle.scr_sheet.specs.declared.rows.Class.TheVariants as classes
use Rattle.scr_sheet.specs.declared.rows.Curve.{Curve}
use Rattle.scr_sheet.specs.declared.rows.Group.{Group}
use Rattle.scr_sheet.specs.declared.rows.Liability.{Liability}
use Rattle.scr_sheet.specs.declared.rows.Position.{Position}
use Rattle.scr_sheet.specs.declared.rows.Stake.{Stake}
use Rattle.scr_nodes.specs.declared.node.Adjustment.{Adjustment}
use Rattle.scr_nodes.specs.declared.node.Adjustment.TheVariants as adjustments
use Rattle.scr_nodes.specs.declared.node.Alternatives.{Alternatives}
use Rattle.scr_nodes.specs.declared.node.Alternatives.TheVariants as alternatives
use Rattle.scr_nodes.specs.declared.node.Biometric.{Biometric}
use Rattle.scr_nodes.specs.declared.node.Biometric.TheVariants as biometrics
use Rattle.scr_nodes.specs.declared.node.Direction.{Direction}
use Rattle.scr_nodes.specs.declared.node.Direction.TheVariants as directions
use Rattle.scr_nodes.specs.declared.node.Equities.{Equities}
use Rattle.scr_nodes.specs.declared.node.Equities.TheVariants as equities
use Rattle.scr_nodes.specs.declared.node.Measure.{Measure}
use Rattle.scr_nodes.specs.declared.node.Measure.TheVariants as measures
use Rattle.scr_nodes.specs.declared.node.Node.{Node}
use Rattle.scr_nodes.specs.declared.node.Node.TheVariants as nodes
use Rattle.scr_nodes.specs.declared.node.OfFund.TheVariants as of_funds
use Rattle.scr_nodes.specs.declared.node.OfSecurity.TheVariants as of_securities
use Rattle.scr_nodes.specs.declared.node.OfLiability.TheVariants as of_liabilities
use Rattle.scr_nodes.specs.declared.node.OfCurrency.TheVariants as of_currencies
use Rattle.scr_nodes.specs.declared.node.OfGroup.TheVariants as of_groups
use Rattle.scr_nodes.specs.declared.node.Whole.TheVariants as wholes
use Rattle.scr_nodes.specs.declared.node.Operational.{Operational}
use Rattle.scr_nodes.specs.declared.node.Operational.TheVariants as operations
use Rattle.scr_nodes.specs.declared.node.Risk.{Risk}
use Rattle.scr_nodes.specs.declared.node.Risk.TheVariants as risks
use Rattle.scr_nodes.specs.Rows.{holders, is_closed, is_paying_in, is_owed_in, has_class, is_held_in, is_foreign, is_of_group, has_group, is_of_default_class, is_stressed}

-- ---- the nodes of rows

abbrev pub fund_total : Stake → Node
fund_total stake = nodes.Fund stake.fund.name of_funds.Total

abbrev pub security_total : Position → Node
security_total position = nodes.Security position.security.name of_securities.Total

abbrev pub unit_loss : Direction → Position → Node
unit_loss direction position = nodes.Security position.security.name (of_securities.UnitLoss direction)

abbrev pub security_rate : Direction → Position → Node
security_rate direction position = nodes.Security position.security.name (of_securities.Rate direction)

abbrev pub liability_rate : Direction → Liability → Node
liability_rate direction liability = nodes.Liability liability.name (of_liabilities.Rate direction)

abbrev pub currency_loss : Direction → Curve → Node
currency_loss direction curve = nodes.Currency curve.currency (of_currencies.Loss direction)

abbrev pub liability_present : Liability → Node
liability_present liability = nodes.Liability liability.name of_liabilities.Present

abbrev pub liability_loss : Projection → Liability → Node
liability_loss projection liability = nodes.Liability liability.name (of_liabilities.Loss projection)

abbrev pub currency_scenario : Direction → Measure → Curve → Node
currency_scenario direction measure curve = nodes.Currency curve.currency (of_currencies.Scenario direction measure)

abbrev pub currency_choice : Curve → Node
currency_choice curve = nodes.Currency curve.currency of_currencies.Choice

abbrev pub currency_picked : Measure → Curve → Node
currency_picked measure curve = nodes.Currency curve.currency (of_currencies.Picked measure)

abbrev pub security_spread : Position → Node
security_spread position = nodes.Security position.security.name of_securities.Spread

abbrev pub group_total : Group → Node
group_total group = nodes.Group group.name of_groups.Total

abbrev pub concentration_square : Group → Node
concentration_square group = nodes.Group group.name of_groups.ConcentrationSquare

abbrev pub group_loss : Group → Node
group_loss group = nodes.Group group.name of_groups.Loss

-- ---- lists of sources

-- the funds that hold what has this name
abbrev pub holder_totals : List ℕ → BalanceSheet → List Node
holder_totals name sheet = map fund_total (holders name sheet)

-- the securities and liabilities in a currency
abbrev pub rates_in : List ℕ → Direction → BalanceSheet → List Node
rates_in currency direction sheet =
    map (security_rate direction) (filter (is_paying_in currency) sheet.securities)
    ++ map (liability_rate direction) (filter (is_owed_in currency) sheet.liabilities)

-- the closed funds, which count as type 2 equities (Article 168)
abbrev pub funds_of_class : Class → BalanceSheet → List Node
funds_of_class classes.Type2Equity sheet = map fund_total (filter is_closed sheet.funds)
funds_of_class class sheet = []

abbrev pub held_of_class : Class → BalanceSheet → List Node
held_of_class class sheet = map security_total (filter (has_class class) sheet.securities) ++ funds_of_class class sheet

-- the rise and the fall, each before and after absorption
abbrev pub interest_scenarios : List Node
interest_scenarios =
    nodes.Whole (wholes.InterestScenario directions.Up measures.Gross) ∷ nodes.Whole (wholes.InterestScenario directions.Up measures.Net)
    ∷ nodes.Whole (wholes.InterestScenario directions.Down measures.Gross) ∷ nodes.Whole (wholes.InterestScenario directions.Down measures.Net) ∷ []

-- more, fewer and mass lapses, each before and after absorption (Articles 142 and 159)
abbrev pub lapse_scenarios : Biometric → List Node
lapse_scenarios biometric =
    nodes.Whole (wholes.BioScenario biometric projections.LapseUp measures.Gross)
    ∷ nodes.Whole (wholes.BioScenario biometric projections.LapseUp measures.Net)
    ∷ nodes.Whole (wholes.BioScenario biometric projections.LapseDown measures.Gross)
    ∷ nodes.Whole (wholes.BioScenario biometric projections.LapseDown measures.Net)
    ∷ nodes.Whole (wholes.BioScenario biometric projections.LapseMass measures.Gross)
    ∷ nodes.Whole (wholes.BioScenario biometric projections.LapseMass measures.Net)
    ∷ []

-- the rise and the fall of a foreign currency, each before and after absorption (Article 188(2))
abbrev pub currency_scenarios : List ℕ → List Node
currency_scenarios currency =
    nodes.Currency currency (of_currencies.Scenario directions.Up measures.Gross)
    ∷ nodes.Currency currency (of_currencies.Scenario directions.Up measures.Net)
    ∷ nodes.Currency currency (of_currencies.Scenario directions.Down measures.Gross)
    ∷ nodes.Currency currency (of_currencies.Scenario directions.Down measures.Net)
    ∷ []

abbrev pub scenarios : Alternatives → List Node
scenarios alternatives.Interest = interest_scenarios
scenarios alternatives.LifeLapse = lapse_scenarios biometrics.Life
scenarios alternatives.HealthLapse = lapse_scenarios biometrics.Health

-- the classes of one kind of equities (Articles 168(2) and (3), and 171)
abbrev pub classes_of : Equities → List Node
classes_of equities.Type1 = nodes.Whole (wholes.ClassSum classes.Type1Equity) ∷ nodes.Whole (wholes.ClassSum classes.Type1Strategic) ∷ []
classes_of equities.Type2 = nodes.Whole (wholes.ClassSum classes.Type2Equity) ∷ nodes.Whole (wholes.ClassSum classes.Type2Strategic) ∷ []
classes_of equities.Infrastructure = nodes.Whole (wholes.ClassSum classes.Infrastructure) ∷ []
classes_of equities.InfrastructureCorporate = nodes.Whole (wholes.ClassSum classes.InfrastructureCorporate) ∷ []

abbrev pub equity_parts : List Node
equity_parts =
    nodes.Whole (wholes.EquityPart equities.Type1) ∷ nodes.Whole (wholes.EquityPart equities.Type2) ∷ nodes.Whole (wholes.EquityPart equities.Infrastructure)
    ∷ nodes.Whole (wholes.EquityPart equities.InfrastructureCorporate) ∷ []

-- the requirement before absorption
abbrev pub gross_of : Risk → Node
gross_of risks.Equity = (nodes.Whole wholes.EquityRoot)
gross_of risks.Property = (nodes.Whole wholes.Property)
gross_of risks.Spread = (nodes.Whole wholes.Spread)
gross_of risks.Concentration = (nodes.Whole wholes.Concentration)
gross_of risks.Default = (nodes.Whole wholes.Default)
gross_of risks.HealthCatastrophe = (nodes.Whole wholes.HealthCatastrophe)

-- the requirement before or after absorption
abbrev pub risk_part : Risk → Measure → Node
risk_part risk measures.Gross = gross_of risk
risk_part risk measures.Net = nodes.Whole (wholes.NetPart risk)

-- ---- currencies (Article 188)

-- what is held of the securities in a currency, and what the liabilities in it are worth
abbrev pub worths_in : List ℕ → BalanceSheet → List Node
worths_in currency sheet =
    map security_total (filter (is_held_in currency) sheet.securities)
    ++ map liability_present (filter (is_owed_in currency) sheet.liabilities)

abbrev pub foreign_picked : Measure → BalanceSheet → List Node
foreign_picked measure sheet = map (currency_picked measure) (filter (is_foreign sheet) sheet.curves)

-- ---- market risk (Article 164), with the choice of the interest scenario last

abbrev pub market_parts : Measure → List Node
market_parts measure =
    nodes.Whole (wholes.Picked alternatives.Interest measure) ∷ risk_part risks.Equity measure ∷ risk_part risks.Property measure
    ∷ risk_part risks.Spread measure ∷ risk_part risks.Concentration measure ∷ nodes.Whole (wholes.Currency measure)
    ∷ nodes.Whole (wholes.Choice alternatives.Interest) ∷ []

-- ---- counterparty default risk (Articles 199 to 201)

-- the losses of the groups of a class
abbrev pub losses_of_class : DefaultClass → BalanceSheet → List Node
losses_of_class class sheet = map group_loss (filter (is_of_default_class class) sheet.groups)

abbrev pub class_losses : List Node
class_losses =
    nodes.Whole (wholes.ClassLoss default_classes.Step0) ∷ nodes.Whole (wholes.ClassLoss default_classes.Step1) ∷ nodes.Whole (wholes.ClassLoss default_classes.Step2)
    ∷ nodes.Whole (wholes.ClassLoss default_classes.Step3) ∷ nodes.Whole (wholes.ClassLoss default_classes.Step4) ∷ nodes.Whole (wholes.ClassLoss default_classes.Steps5And6) ∷ []

abbrev pub class_squares : List Node
class_squares =
    nodes.Whole (wholes.ClassSquare default_classes.Step0) ∷ nodes.Whole (wholes.ClassSquare default_classes.Step1) ∷ nodes.Whole (wholes.ClassSquare default_classes.Step2)
    ∷ nodes.Whole (wholes.ClassSquare default_classes.Step3) ∷ nodes.Whole (wholes.ClassSquare default_classes.Step4) ∷ nodes.Whole (wholes.ClassSquare default_classes.Steps5And6) ∷ []

abbrev pub default_types : List Node
default_types = nodes.Whole wholes.DefaultType1 ∷ nodes.Whole wholes.DefaultType2 ∷ []

-- ---- life and health (Articles 136, 144, 145, 151 and 160)

-- what the liabilities of a kind lose under a stress
abbrev pub losses_under : Biometric → Projection → BalanceSheet → List Node
losses_under biometric projection sheet =
    map (liability_loss projection) (filter (is_stressed biometric projection) sheet.liabilities)

abbrev pub life_parts : Measure → List Node
life_parts measure =
    nodes.Whole (wholes.BioScenario biometrics.Life projections.Mortality measure)
    ∷ nodes.Whole (wholes.BioScenario biometrics.Life projections.Longevity measure)
    ∷ nodes.Whole (wholes.BioScenario biometrics.Life projections.Disability measure)
    ∷ nodes.Whole (wholes.BioScenario biometrics.Life projections.Expense measure)
    ∷ nodes.Whole (wholes.BioScenario biometrics.Life projections.Revision measure) ∷ nodes.Whole (wholes.Picked alternatives.LifeLapse measure)
    ∷ nodes.Whole (wholes.BioScenario biometrics.Life projections.Catastrophe measure) ∷ []

abbrev pub slt_parts : Measure → List Node
slt_parts measure =
    nodes.Whole (wholes.BioScenario biometrics.Health projections.Mortality measure)
    ∷ nodes.Whole (wholes.BioScenario biometrics.Health projections.Longevity measure)
    ∷ nodes.Whole (wholes.BioScenario biometrics.Health projections.Disability measure)
    ∷ nodes.Whole (wholes.BioScenario biometrics.Health projections.Expense measure)
    ∷ nodes.Whole (wholes.BioScenario biometrics.Health projections.Revision measure) ∷ nodes.Whole (wholes.Picked alternatives.HealthLapse measure)
    ∷ []

abbrev pub health_parts : Measure → List Node
health_parts measure = nodes.Whole (wholes.Slt measure) ∷ nodes.Whole (wholes.Nslt measure) ∷ risk_part risks.HealthCatastrophe measure ∷ []

-- ---- non-life, and health as non-life (Articles 114 to 135 and 145 to 163)

abbrev pub segments_of : Set → List Node
segments_of sets.Nl =
    nodes.Whole (wholes.Segment segments.MotorLiability) ∷ nodes.Whole (wholes.Segment segments.OtherMotor) ∷ nodes.Whole (wholes.Segment segments.Transport)
    ∷ nodes.Whole (wholes.Segment segments.Property) ∷ nodes.Whole (wholes.Segment segments.GeneralLiability) ∷ nodes.Whole (wholes.Segment segments.Credit)
    ∷ nodes.Whole (wholes.Segment segments.LegalExpenses) ∷ nodes.Whole (wholes.Segment segments.Assistance) ∷ nodes.Whole (wholes.Segment segments.FinancialLoss)
    ∷ nodes.Whole (wholes.Segment segments.CasualtyReinsurance) ∷ nodes.Whole (wholes.Segment segments.TransportReinsurance) ∷ nodes.Whole (wholes.Segment segments.PropertyReinsurance) ∷ []
segments_of sets.Nslt =
    nodes.Whole (wholes.Segment segments.MedicalExpense) ∷ nodes.Whole (wholes.Segment segments.IncomeProtection) ∷ nodes.Whole (wholes.Segment segments.WorkersCompensation)
    ∷ nodes.Whole (wholes.Segment segments.HealthReinsurance) ∷ []

abbrev pub nonlife_parts : List Node
nonlife_parts = nodes.Whole (wholes.PremiumReserve sets.Nl) ∷ nodes.Whole wholes.NonlifeCatastrophe ∷ []

abbrev pub natural_perils : List Node
natural_perils =
    nodes.Whole (wholes.CatCharge cats.Windstorm) ∷ nodes.Whole (wholes.CatCharge cats.Earthquake) ∷ nodes.Whole (wholes.CatCharge cats.Flood)
    ∷ nodes.Whole (wholes.CatCharge cats.Hail)
    ∷ nodes.Whole (wholes.CatCharge cats.Subsidence) ∷ []

abbrev pub man_made_perils : List Node
man_made_perils =
    nodes.Whole (wholes.CatCharge cats.Motor) ∷ nodes.Whole (wholes.CatCharge cats.Marine) ∷ nodes.Whole (wholes.CatCharge cats.Aviation) ∷ nodes.Whole (wholes.CatCharge cats.Fire)
    ∷ nodes.Whole (wholes.CatCharge cats.Liability) ∷ nodes.Whole (wholes.CatCharge cats.Credit) ∷ []

abbrev pub nonlife_catastrophes : List Node
nonlife_catastrophes =
    nodes.Whole wholes.Natural ∷ nodes.Whole wholes.ManMade ∷ nodes.Whole (wholes.CatCharge cats.NonProportionalProperty) ∷ nodes.Whole (wholes.CatCharge cats.Other) ∷ []

abbrev pub health_perils : List Node
health_perils =
    nodes.Whole (wholes.CatCharge cats.MassAccident) ∷ nodes.Whole (wholes.CatCharge cats.AccidentConcentration) ∷ nodes.Whole (wholes.CatCharge cats.Pandemic) ∷ []

-- ---- the whole (Articles 87, 204, 206 and 207)

-- the modules of the Basic Solvency Capital Requirement
abbrev pub modules : Measure → List Node
modules measure =
    nodes.Whole (wholes.Market measure) ∷ risk_part risks.Default measure ∷ nodes.Whole (wholes.Life measure) ∷ nodes.Whole (wholes.Health measure)
    ∷ nodes.Whole (wholes.Nonlife measure) ∷ []

-- the modules, and the root over them with intangible assets besides
abbrev pub diversification_sources : List Node
diversification_sources = modules measures.Gross ++ nodes.Whole (wholes.Bscr measures.Gross) ∷ []

abbrev pub operational_sources : Operational → List Node
operational_sources operations.Premiums = []
operational_sources operations.Provisions = []
operational_sources operations.Cap = nodes.Whole (wholes.Bscr measures.Gross) ∷ []
operational_sources operations.Charge =
    nodes.Whole (wholes.OpPart operations.Premiums) ∷ nodes.Whole (wholes.OpPart operations.Provisions) ∷ nodes.Whole (wholes.OpPart operations.Cap) ∷ []

abbrev pub adjustment_sources : Adjustment → List Node
adjustment_sources adjustments.TechnicalProvisions = nodes.Whole (wholes.Bscr measures.Gross) ∷ nodes.Whole (wholes.Bscr measures.Net) ∷ []
adjustment_sources adjustments.DeferredTaxes =
    nodes.Whole (wholes.Bscr measures.Gross) ∷ nodes.Whole (wholes.Adjust adjustments.TechnicalProvisions) ∷ nodes.Whole (wholes.OpPart operations.Charge) ∷ []

abbrev pub requirement_parts : List Node
requirement_parts =
    nodes.Whole (wholes.Bscr measures.Gross) ∷ nodes.Whole (wholes.Adjust adjustments.TechnicalProvisions) ∷ nodes.Whole (wholes.Adjust adjustments.DeferredTaxes)
    ∷ nodes.Whole (wholes.OpPart operations.Charge) ∷ []

-- the sources that no row gives, of a figure that is reckoned from other figures by name
abbrev pub words_of : Node → List Node
words_of (nodes.Security name (of_securities.Rate direction)) = nodes.Security name of_securities.Total ∷ nodes.Security name (of_securities.UnitLoss direction) ∷ []
words_of (nodes.Security name of_securities.Spread) = nodes.Security name of_securities.Total ∷ []
words_of (nodes.Currency currency (of_currencies.Scenario direction measures.Net)) =
    nodes.Currency currency (of_currencies.Scenario direction measures.Gross) ∷ []
words_of (nodes.Currency currency of_currencies.Choice) = currency_scenarios currency
words_of (nodes.Currency currency (of_currencies.Picked measure)) =
    currency_scenarios currency ++ nodes.Currency currency of_currencies.Choice ∷ []
words_of (nodes.Group name of_groups.ConcentrationSquare) = nodes.Whole wholes.Assets ∷ nodes.Group name of_groups.Total ∷ []
words_of (nodes.Whole (wholes.InterestScenario direction measures.Net)) = nodes.Whole (wholes.InterestScenario direction measures.Gross) ∷ []
words_of (nodes.Whole (wholes.Choice alternatives)) = scenarios alternatives
words_of (nodes.Whole (wholes.Picked alternatives measure)) = scenarios alternatives ++ nodes.Whole (wholes.Choice alternatives) ∷ []
words_of (nodes.Whole (wholes.EquityPart equities)) = classes_of equities
words_of (nodes.Whole wholes.EquityRoot) = equity_parts
words_of (nodes.Whole (wholes.NetPart risk)) = gross_of risk ∷ []
words_of (nodes.Whole wholes.Property) = nodes.Whole (wholes.ClassSum classes.Property) ∷ []
words_of (nodes.Whole (wholes.Market measure)) = market_parts measure
words_of (nodes.Whole wholes.Variance) = class_losses ++ class_squares
words_of (nodes.Whole wholes.DefaultBand) = class_losses ++ nodes.Whole wholes.Variance ∷ []
words_of (nodes.Whole wholes.DefaultType1) = class_losses ++ nodes.Whole wholes.Variance ∷ nodes.Whole wholes.DefaultBand ∷ []
words_of (nodes.Whole wholes.Default) = default_types
words_of (nodes.Whole (wholes.BioScenario biometric projection measures.Net)) =
    nodes.Whole (wholes.BioScenario biometric projection measures.Gross) ∷ []
words_of (nodes.Whole (wholes.Life measure)) = life_parts measure
words_of (nodes.Whole (wholes.Slt measure)) = slt_parts measure
words_of (nodes.Whole (wholes.PremiumReserve set)) = segments_of set
words_of (nodes.Whole wholes.Natural) = natural_perils
words_of (nodes.Whole wholes.ManMade) = man_made_perils
words_of (nodes.Whole wholes.NonlifeCatastrophe) = nonlife_catastrophes
words_of (nodes.Whole wholes.HealthCatastrophe) = health_perils
words_of (nodes.Whole (wholes.Nslt measure)) = nodes.Whole (wholes.PremiumReserve sets.Nslt) ∷ []
words_of (nodes.Whole (wholes.Health measure)) = health_parts measure
words_of (nodes.Whole (wholes.Nonlife measure)) = nonlife_parts
words_of (nodes.Whole (wholes.Bscr measure)) = modules measure
words_of (nodes.Whole (wholes.OpPart part)) = operational_sources part
words_of (nodes.Whole (wholes.Adjust adjustment)) = adjustment_sources adjustment
words_of (nodes.Whole wholes.Scr) = requirement_parts
words_of (nodes.Whole wholes.Diversification) = diversification_sources
words_of node = []

abbrev pub sources_of : BalanceSheet → Node → List Node
sources_of sheet (nodes.Fund name of_funds.Total) = holder_totals name sheet
sources_of sheet (nodes.Security name of_securities.Total) = holder_totals name sheet
sources_of sheet (nodes.Currency currency (of_currencies.Loss direction)) = rates_in currency direction sheet
sources_of sheet (nodes.Currency currency (of_currencies.Scenario direction measures.Gross)) = worths_in currency sheet
sources_of sheet (nodes.Group name of_groups.Total) = map security_total (filter (is_of_group name) sheet.securities)
sources_of sheet (nodes.Whole (wholes.InterestScenario direction measures.Gross)) = map (currency_loss direction) sheet.curves
sources_of sheet (nodes.Whole (wholes.ClassSum class)) = held_of_class class sheet
sources_of sheet (nodes.Whole (wholes.Currency measure)) = foreign_picked measure sheet
sources_of sheet (nodes.Whole wholes.Spread) = map security_spread (filter (has_class classes.Bond) sheet.securities)
sources_of sheet (nodes.Whole wholes.Assets) = map security_total (filter has_group sheet.securities)
sources_of sheet (nodes.Whole wholes.Concentration) = map concentration_square sheet.groups
sources_of sheet (nodes.Whole (wholes.ClassLoss class)) = losses_of_class class sheet
sources_of sheet (nodes.Whole (wholes.ClassSquare class)) = losses_of_class class sheet
sources_of sheet (nodes.Whole (wholes.BioScenario biometric projection measures.Gross)) = losses_under biometric projection sheet
sources_of sheet node = words_of node
