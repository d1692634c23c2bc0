-- All figures that a balance sheet has, as one list (this project's own).
use Rattle.std.specs.Prelude.{◌≡◌, ℕ, ◌++◌, List, [], ◌∷◌, Some, filter, map, slice_get}
use Rattle.std.specs.List.{flat_map}
use Rattle.scr_profile.specs.declared.set.Set.TheVariants as sets
use Rattle.scr_sheet.specs.declared.keys.CatKey.TheVariants as cats
use Rattle.scr_sheet.specs.declared.keys.Projection.{Projection}
use Rattle.scr_sheet.specs.declared.keys.Projection.TheVariants as projections
use Rattle.scr_sheet.specs.declared.sheet.BalanceSheet.{BalanceSheet}
use Rattle.scr_sheet.specs.declared.rows.Class.TheVariants as classes
use Rattle.scr_sheet.specs.declared.rows.Curve.{Curve}
use Rattle.scr_sheet.specs.declared.rows.Position.{Position}
use Rattle.scr_nodes.specs.declared.node.Adjustment.TheVariants as adjustments
use Rattle.scr_nodes.specs.declared.node.Alternatives.{Alternatives}
use Rattle.scr_nodes.specs.declared.node.Alternatives.TheVariants as alternatives
use Rattle.scr_nodes.specs.declared.node.Biometric.{Biometric}
use Rattle.scr_nodes.specs.declared.node.Biometric.TheVariants as biometrics
use Rattle.scr_nodes.specs.declared.node.Direction.TheVariants.{Up, Down}
use Rattle.scr_nodes.specs.declared.node.Measure.TheVariants.{Gross, Net}
use Rattle.scr_nodes.specs.declared.node.Node.{Node}
use Rattle.scr_nodes.specs.declared.node.Node.TheVariants as nodes
use Rattle.scr_nodes.specs.declared.node.Whole.TheVariants as wholes
use Rattle.scr_nodes.specs.declared.node.Operational.TheVariants as operations
use Rattle.scr_nodes.specs.declared.node.Risk.TheVariants as risks
use Rattle.scr_nodes.specs.Rows.{is_paying, is_foreign, has_class, has_flows}
use Rattle.scr_nodes.specs.Sources.{fund_total, security_total, unit_loss, security_rate, liability_rate, liability_present, liability_loss, currency_loss, currency_scenario, currency_choice, currency_picked, security_spread, group_total, concentration_square, group_loss, interest_scenarios, lapse_scenarios, equity_parts, class_losses, class_squares, segments_of, natural_perils, man_made_perils, health_perils}

-- ---- the figures of rows, family by family

abbrev pub payings : BalanceSheet → List Position
payings sheet = filter is_paying sheet.securities

abbrev pub foreigns : BalanceSheet → List Curve
foreigns sheet = filter (is_foreign sheet) sheet.curves

-- what the liabilities lose that have flows under a stress
abbrev pub losses_of : Projection → BalanceSheet → List Node
losses_of projection sheet = map (liability_loss projection) (filter (has_flows projection) sheet.liabilities)

abbrev pub payment_families : BalanceSheet → List (List Node)
payment_families sheet =
    map (unit_loss Up) (payings sheet) ∷ map (unit_loss Down) (payings sheet)
    ∷ map (security_rate Up) (payings sheet) ∷ map (security_rate Down) (payings sheet)
    ∷ map (liability_rate Up) sheet.liabilities ∷ map (liability_rate Down) sheet.liabilities
    ∷ map liability_present sheet.liabilities ∷ []

abbrev pub stress_families : BalanceSheet → List (List Node)
stress_families sheet =
    losses_of projections.Mortality sheet ∷ losses_of projections.Longevity sheet
    ∷ losses_of projections.Disability sheet ∷ losses_of projections.Expense sheet
    ∷ losses_of projections.Revision sheet ∷ losses_of projections.LapseUp sheet
    ∷ losses_of projections.LapseDown sheet ∷ losses_of projections.LapseMass sheet
    ∷ losses_of projections.Catastrophe sheet ∷ []

abbrev pub currency_families : BalanceSheet → List (List Node)
currency_families sheet =
    map (currency_loss Up) sheet.curves ∷ map (currency_loss Down) sheet.curves
    ∷ map (currency_scenario Up Gross) (foreigns sheet) ∷ map (currency_scenario Up Net) (foreigns sheet)
    ∷ map (currency_scenario Down Gross) (foreigns sheet) ∷ map (currency_scenario Down Net) (foreigns sheet)
    ∷ map currency_choice (foreigns sheet)
    ∷ map (currency_picked Gross) (foreigns sheet) ∷ map (currency_picked Net) (foreigns sheet) ∷ []

-- with the assets of which concentrations are measured
abbrev pub group_families : BalanceSheet → List (List Node)
group_families sheet =
    map security_spread (filter (has_class classes.Bond) sheet.securities)
    ∷ map group_total sheet.groups ∷ (nodes.Whole wholes.Assets ∷ []) ∷ map concentration_square sheet.groups
    ∷ map group_loss sheet.groups ∷ []

-- so that the sources of each come in an earlier family or are totals
abbrev pub families : BalanceSheet → List (List Node)
families sheet =
    payment_families sheet ++ (stress_families sheet ++ (currency_families sheet ++ group_families sheet))

-- ---- the figures that every balance sheet has

abbrev pub class_sums : List Node
class_sums =
    nodes.Whole (wholes.ClassSum classes.Type1Equity) ∷ nodes.Whole (wholes.ClassSum classes.Type1Strategic) ∷ nodes.Whole (wholes.ClassSum classes.Type2Equity)
    ∷ nodes.Whole (wholes.ClassSum classes.Type2Strategic) ∷ nodes.Whole (wholes.ClassSum classes.Infrastructure)
    ∷ nodes.Whole (wholes.ClassSum classes.InfrastructureCorporate) ∷ nodes.Whole (wholes.ClassSum classes.Property) ∷ nodes.Whole (wholes.ClassSum classes.Bond)
    ∷ nodes.Whole (wholes.ClassSum classes.Government) ∷ nodes.Whole (wholes.ClassSum classes.Other) ∷ []

-- the alternatives, and what the one that decides comes to
abbrev pub chosen : Alternatives → List Node
chosen which = nodes.Whole (wholes.Choice which) ∷ nodes.Whole (wholes.Picked which Gross) ∷ nodes.Whole (wholes.Picked which Net) ∷ []

abbrev pub market_risks : List Node
market_risks =
    nodes.Whole wholes.EquityRoot ∷ nodes.Whole wholes.Property ∷ nodes.Whole wholes.Spread ∷ nodes.Whole wholes.Concentration ∷ nodes.Whole (wholes.NetPart risks.Equity)
    ∷ nodes.Whole (wholes.NetPart risks.Property) ∷ nodes.Whole (wholes.NetPart risks.Spread) ∷ nodes.Whole (wholes.NetPart risks.Concentration)
    ∷ nodes.Whole (wholes.Currency Gross) ∷ nodes.Whole (wholes.Currency Net) ∷ []

abbrev pub market_nodes : List Node
market_nodes =
    class_sums ++ (equity_parts ++ (interest_scenarios ++ (chosen alternatives.Interest ++ (market_risks
    ++ (nodes.Whole (wholes.Market Gross) ∷ nodes.Whole (wholes.Market Net) ∷ [])))))

abbrev pub default_nodes : List Node
default_nodes =
    class_losses ++ (class_squares ++ (nodes.Whole wholes.Variance ∷ nodes.Whole wholes.DefaultBand ∷ nodes.Whole wholes.DefaultType1 ∷ nodes.Whole wholes.DefaultType2
    ∷ nodes.Whole wholes.Default ∷ nodes.Whole (wholes.NetPart risks.Default) ∷ []))

-- the scenarios of which no choice is made, but for the catastrophe
abbrev pub plain_scenarios : Biometric → List Node
plain_scenarios biometric =
    nodes.Whole (wholes.BioScenario biometric projections.Mortality Gross) ∷ nodes.Whole (wholes.BioScenario biometric projections.Mortality Net)
    ∷ nodes.Whole (wholes.BioScenario biometric projections.Longevity Gross) ∷ nodes.Whole (wholes.BioScenario biometric projections.Longevity Net)
    ∷ nodes.Whole (wholes.BioScenario biometric projections.Disability Gross) ∷ nodes.Whole (wholes.BioScenario biometric projections.Disability Net)
    ∷ nodes.Whole (wholes.BioScenario biometric projections.Expense Gross) ∷ nodes.Whole (wholes.BioScenario biometric projections.Expense Net)
    ∷ nodes.Whole (wholes.BioScenario biometric projections.Revision Gross) ∷ nodes.Whole (wholes.BioScenario biometric projections.Revision Net) ∷ []

abbrev pub life_nodes : List Node
life_nodes =
    plain_scenarios biometrics.Life ++ (lapse_scenarios biometrics.Life ++ (chosen alternatives.LifeLapse
    ++ (nodes.Whole (wholes.BioScenario biometrics.Life projections.Catastrophe Gross)
    ∷ nodes.Whole (wholes.BioScenario biometrics.Life projections.Catastrophe Net) ∷ nodes.Whole (wholes.Life Gross) ∷ nodes.Whole (wholes.Life Net) ∷ [])))

abbrev pub slt_nodes : List Node
slt_nodes =
    plain_scenarios biometrics.Health ++ (lapse_scenarios biometrics.Health ++ (chosen alternatives.HealthLapse
    ++ (nodes.Whole (wholes.Slt Gross) ∷ nodes.Whole (wholes.Slt Net) ∷ [])))

abbrev pub charges : List Node
charges =
    natural_perils ++ (man_made_perils ++ (nodes.Whole (wholes.CatCharge cats.NonProportionalProperty) ∷ nodes.Whole (wholes.CatCharge cats.Other)
    ∷ (health_perils ++ (nodes.Whole (wholes.Lapse sets.Nl) ∷ nodes.Whole (wholes.Lapse sets.Nslt) ∷ nodes.Whole wholes.Intangible ∷ []))))

abbrev pub nonlife_results : List Node
nonlife_results =
    nodes.Whole (wholes.PremiumReserve sets.Nl) ∷ nodes.Whole (wholes.PremiumReserve sets.Nslt) ∷ nodes.Whole wholes.Natural ∷ nodes.Whole wholes.ManMade
    ∷ nodes.Whole wholes.NonlifeCatastrophe ∷ nodes.Whole wholes.HealthCatastrophe ∷ nodes.Whole (wholes.NetPart risks.HealthCatastrophe)
    ∷ nodes.Whole (wholes.Nslt Gross) ∷ nodes.Whole (wholes.Nslt Net) ∷ nodes.Whole (wholes.Health Gross) ∷ nodes.Whole (wholes.Health Net)
    ∷ nodes.Whole (wholes.Nonlife Gross) ∷ nodes.Whole (wholes.Nonlife Net) ∷ []

abbrev pub nonlife_nodes : List Node
nonlife_nodes = segments_of sets.Nl ++ (segments_of sets.Nslt ++ (charges ++ nonlife_results))

abbrev pub requirement_nodes : List Node
requirement_nodes =
    nodes.Whole (wholes.Bscr Gross) ∷ nodes.Whole (wholes.Bscr Net) ∷ nodes.Whole wholes.Diversification ∷ nodes.Whole (wholes.OpPart operations.Premiums)
    ∷ nodes.Whole (wholes.OpPart operations.Provisions) ∷ nodes.Whole (wholes.OpPart operations.Cap) ∷ nodes.Whole (wholes.OpPart operations.Charge)
    ∷ nodes.Whole (wholes.Adjust adjustments.TechnicalProvisions) ∷ nodes.Whole (wholes.Adjust adjustments.DeferredTaxes) ∷ nodes.Whole wholes.Scr ∷ []

abbrev pub constant_nodes : List Node
constant_nodes =
    market_nodes ++ (default_nodes ++ (life_nodes ++ (slt_nodes ++ (nonlife_nodes ++ requirement_nodes))))

-- ---- all

-- families one after another
abbrev pub flat : List (List Node) → List Node
flat list = flat_map (λ family. family) list

-- the figures above the totals, so that the sources of each come before it or are totals
abbrev pub rest_nodes : BalanceSheet → List Node
rest_nodes sheet = flat (families sheet) ++ constant_nodes

-- what is held of each security, and the figures above
abbrev pub nodes_above_funds : BalanceSheet → List Node
nodes_above_funds sheet = map security_total sheet.securities ++ rest_nodes sheet

-- what is held of each fund and security
abbrev pub total_nodes : BalanceSheet → List Node
total_nodes sheet = map fund_total sheet.funds ++ map security_total sheet.securities

abbrev pub live_nodes : BalanceSheet → List Node
live_nodes sheet = map fund_total sheet.funds ++ nodes_above_funds sheet

-- none stands at two places
abbrev pub HasNoRepeats : List Node → Type 0
HasNoRepeats list = (j k : ℕ) (node : Node) → slice_get list j ≡ Some node → slice_get list k ≡ Some node → j ≡ k
