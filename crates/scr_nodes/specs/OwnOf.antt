-- What each figure reads of the balance sheet and the factors, besides other figures (this project's own).
use Rattle.std.specs.Prelude.{ℕ, ◌-◌, ℤ, pos, List, [], Option, Some, None, filter, length, map, slice_index_or}
use Rattle.std.specs.Option.{option_map_or}
use Rattle.scr_dates.specs.declared.day.Day.{Day}
use Rattle.scr_factors.specs.Values.{FactorValues, sigma_of}
use Rattle.scr_tables.specs.Tables.{row_of}
use Rattle.scr_profile.specs.Segments.{number_of, set_of}
use Rattle.scr_profile.specs.declared.correlations.TheConstants.{NSLT}
use Rattle.scr_profile.specs.declared.group_kind.GroupKind.TheVariants as group_kinds
use Rattle.scr_profile.specs.declared.matrix.Matrix.{Matrix}
use Rattle.scr_profile.specs.declared.operational.OpInput.{OpInput}
use Rattle.scr_profile.specs.declared.segment.Segment.{Segment}
use Rattle.scr_profile.specs.declared.set.Set.{Set}
use Rattle.scr_profile.specs.declared.set.Set.TheVariants as sets
use Rattle.scr_sheet.specs.Absorptions.{absorbed}
use Rattle.scr_sheet.specs.BalanceSheet.{curve_name, position_of, volumes_of}
use Rattle.scr_sheet.specs.CashFlows.{flows_under}
use Rattle.scr_sheet.specs.Records.{cat_place, health_cat_place, lapse_place}
use Rattle.scr_sheet.specs.declared.sheet.BalanceSheet.{BalanceSheet}
use Rattle.scr_sheet.specs.declared.keys.AbsorbKey.{AbsorbKey}
use Rattle.scr_sheet.specs.declared.keys.AbsorbKey.TheVariants as absorb
use Rattle.scr_sheet.specs.declared.keys.CatKey.{CatKey}
use Rattle.scr_sheet.specs.declared.keys.Projection.{Projection}
use Rattle.scr_sheet.specs.declared.keys.Projection.TheVariants as projections
use Rattle.scr_sheet.specs.declared.numbers.Numbers.{Numbers}
use Rattle.scr_sheet.specs.declared.rows.Bank.{Bank}
use Rattle.scr_sheet.specs.declared.rows.Curve.{Curve}
use Rattle.scr_sheet.specs.declared.rows.Group.{Group}
use Rattle.scr_sheet.specs.declared.rows.Liability.{Liability}
use Rattle.scr_sheet.specs.declared.rows.Position.{Position}
use Rattle.scr_sheet.specs.declared.rows.Rein.{Rein}
use Rattle.scr_nodes.specs.declared.node.Adjustment.TheVariants as adjustments
use Rattle.scr_nodes.specs.declared.node.Biometric.{Biometric}
use Rattle.scr_nodes.specs.declared.node.Biometric.TheVariants as biometrics
use Rattle.scr_nodes.specs.declared.node.Direction.{Direction}
use Rattle.scr_nodes.specs.declared.node.Direction.TheVariants as directions
use Rattle.scr_nodes.specs.declared.node.Measure.TheVariants as measures
use Rattle.scr_nodes.specs.declared.node.Node.{Node}
use Rattle.scr_nodes.specs.declared.node.Node.TheVariants as nodes
use Rattle.scr_nodes.specs.declared.node.OfFund.TheVariants as of_funds
use Rattle.scr_nodes.specs.declared.node.OfSecurity.TheVariants as of_securities
use Rattle.scr_nodes.specs.declared.node.OfLiability.TheVariants as of_liabilities
use Rattle.scr_nodes.specs.declared.node.OfCurrency.TheVariants as of_currencies
use Rattle.scr_nodes.specs.declared.node.OfGroup.TheVariants as of_groups
use Rattle.scr_nodes.specs.declared.node.Whole.TheVariants as wholes
use Rattle.scr_nodes.specs.declared.node.Operational.{Operational}
use Rattle.scr_nodes.specs.declared.node.Operational.TheVariants as operations
use Rattle.scr_nodes.specs.declared.node.Risk.{Risk}
use Rattle.scr_nodes.specs.declared.node.Risk.TheVariants as risks
use Rattle.scr_nodes.specs.Own.{Own, Paid, Reinsured, Valued}
use Rattle.scr_nodes.specs.Own.Own.{Held, Loss, Cost, Scaled, Lost, Converted, Net, Choice, Picked, Added, Fall, EquityRoot}
use Rattle.scr_nodes.specs.Own.Own.{Worth, Excess, Multiple, Charged, Stressed, Spread, Foreign, Square, SquareRoot, Market}
use Rattle.scr_nodes.specs.Own.Own.{Losses, Squares, Variance, Band, Banded, Due, Correlated, CorrelatedWith, Segment as SegmentOwn}
use Rattle.scr_nodes.specs.Own.Own.{PremiumReserve, Catastrophes, Bscr, Diversified, Premiums, Provisions, Cap, OperationalCharge}
use Rattle.scr_nodes.specs.Own.Own.{Absorbing, Taxed, Requirement}
use Rattle.scr_nodes.specs.Own.Root.{DefaultRoot, LifeRoot, SltRoot, HealthRoot, NaturalRoot, ManMadeRoot, HealthCatastropheRoot}
use Rattle.scr_nodes.specs.Own.ChargedRoot.{NsltRoot, NonlifeRoot}
use Rattle.scr_nodes.specs.Rows.{holders, share_in, security_held, fund_held, liability_of, rates_of, group_of, step_of, is_held_in, is_bank_of, is_reinsurer_of}

-- nothing is paid, and there are no rates
abbrev pub nothing_paid : BalanceSheet → Direction → Paid
nothing_paid sheet direction = record {
  asof = sheet.numbers.asof.number;
  payments = [];
  rates = [];
  direction = direction;
}

-- what a security pays
abbrev pub paid_by_security : BalanceSheet → Direction → Position → Paid
paid_by_security sheet direction position =
    record {
      asof = sheet.numbers.asof.number;
      payments = position.security.flows;
      rates = rates_of position.security.currency sheet;
      direction = direction;
    }

-- what is paid for a liability by the best estimate
abbrev pub paid_by_liability : BalanceSheet → Direction → Liability → Paid
paid_by_liability sheet direction liability =
    record {
      asof = sheet.numbers.asof.number;
      payments = liability.flows.base;
      rates = rates_of liability.currency sheet;
      direction = direction;
    }

abbrev pub security_paid : BalanceSheet → List ℕ → Direction → Paid
security_paid sheet name direction =
    option_map_or (paid_by_security sheet direction) (position_of name sheet.securities) (nothing_paid sheet direction)

abbrev pub liability_paid : BalanceSheet → List ℕ → Direction → Paid
liability_paid sheet name direction =
    option_map_or (paid_by_liability sheet direction) (liability_of name sheet.liabilities)
    (nothing_paid sheet direction)

-- ---- absorptions

abbrev pub interest_key : Direction → AbsorbKey
interest_key directions.Up = absorb.InterestUp
interest_key directions.Down = absorb.InterestDown

abbrev pub risk_key : Risk → AbsorbKey
risk_key risks.Equity = absorb.Equity
risk_key risks.Property = absorb.Property
risk_key risks.Spread = absorb.Spread
risk_key risks.Concentration = absorb.Concentration
risk_key risks.Default = absorb.Default
risk_key risks.HealthCatastrophe = absorb.HealthCatastrophe

-- none where the kind has no such stress
abbrev pub stress_key : Biometric → Projection → Option AbsorbKey
stress_key biometrics.Life projections.Mortality = Some absorb.LifeMortality
stress_key biometrics.Life projections.Longevity = Some absorb.LifeLongevity
stress_key biometrics.Life projections.Disability = Some absorb.LifeDisability
stress_key biometrics.Life projections.Expense = Some absorb.LifeExpense
stress_key biometrics.Life projections.Revision = Some absorb.LifeRevision
stress_key biometrics.Life projections.LapseUp = Some absorb.LifeLapseUp
stress_key biometrics.Life projections.LapseDown = Some absorb.LifeLapseDown
stress_key biometrics.Life projections.LapseMass = Some absorb.LifeLapseMass
stress_key biometrics.Life projections.Catastrophe = Some absorb.LifeCatastrophe
stress_key biometrics.Health projections.Mortality = Some absorb.HealthMortality
stress_key biometrics.Health projections.Longevity = Some absorb.HealthLongevity
stress_key biometrics.Health projections.Disability = Some absorb.HealthDisability
stress_key biometrics.Health projections.Expense = Some absorb.HealthExpense
stress_key biometrics.Health projections.Revision = Some absorb.HealthRevision
stress_key biometrics.Health projections.LapseUp = Some absorb.HealthLapseUp
stress_key biometrics.Health projections.LapseDown = Some absorb.HealthLapseDown
stress_key biometrics.Health projections.LapseMass = Some absorb.HealthLapseMass
stress_key biometric projection = None

abbrev pub stress_absorbed : BalanceSheet → Biometric → Projection → ℕ
stress_absorbed sheet biometric projection =
    option_map_or (λ key. absorbed key sheet.numbers) (stress_key biometric projection) 0

-- that of a change of a currency stands with its curve
abbrev pub absorbed_by : Direction → Curve → ℕ
absorbed_by directions.Up curve = curve.absorb_up
absorbed_by directions.Down curve = curve.absorb_down

abbrev pub currency_absorbed : BalanceSheet → List ℕ → Direction → ℕ
currency_absorbed sheet currency direction =
    option_map_or (absorbed_by direction) (row_of curve_name currency sheet.curves) 0

-- ---- currencies, groups and bonds

-- the securities in a currency, counted
abbrev pub held_in : List ℕ → BalanceSheet → ℕ
held_in currency sheet = length (filter (is_held_in currency) sheet.securities)

-- the bond's credit quality step, or none, and its duration
abbrev pub bond_stressed : FactorValues → BalanceSheet → Position → Own
bond_stressed factors sheet position = Stressed factors (step_of sheet position) position.security.duration

abbrev pub group_square : Group → Own
group_square group = Square group.kind group.step

abbrev pub reinsured : Rein → Reinsured
reinsured reinsurer =
    record {
      recoverables = reinsurer.recoverables;
      mitigation = reinsurer.mitigation;
      collateral = reinsurer.collateral;
    }

abbrev pub owed_by_group : List ℕ → BalanceSheet → Own
owed_by_group name sheet =
    Losses (map (λ (bank : Bank). bank.cents) (filter (is_bank_of name) sheet.banks))
    (map reinsured (filter (is_reinsurer_of name) sheet.reinsurers))

-- ---- liabilities

-- what is paid by the best estimate
abbrev pub valued : BalanceSheet → Liability → Valued
valued sheet liability = record {
  asof = sheet.numbers.asof.number;
  payments = liability.flows.base;
  rates = rates_of liability.currency sheet;
}

abbrev pub liability_valued : BalanceSheet → List ℕ → Valued
liability_valued sheet name =
    option_map_or (valued sheet) (liability_of name sheet.liabilities)
    (record { asof = sheet.numbers.asof.number; payments = []; rates = [] })

-- what is paid under a projection
abbrev pub paid_under : BalanceSheet → List ℕ → Projection → List (Day × ℤ)
paid_under sheet name projection =
    option_map_or (λ liability. flows_under projection liability.flows) (liability_of name sheet.liabilities) []

-- ---- single numbers

-- the handed-in charge of a catastrophe, of non-life or of health
abbrev pub catastrophe_cents : CatKey → Numbers → ℕ
catastrophe_cents key numbers =
    option_map_or (λ place. slice_index_or numbers.cat place 0) (cat_place key)
    (option_map_or (λ place. slice_index_or numbers.health_cat place 0) (health_cat_place key) 0)

abbrev pub lapse_cents : Set → Numbers → ℕ
lapse_cents set numbers = slice_index_or numbers.lapse (lapse_place set) 0

-- the volumes of a segment by region
abbrev pub volumes_in_regions : Segment → Numbers → List (ℕ × ℕ)
volumes_in_regions segment numbers =
    slice_index_or (volumes_of (set_of segment) numbers) (number_of segment - 1) []

-- its standard deviations of premium and of reserve risk, in millionths
abbrev pub deviations_of : FactorValues → Segment → ℕ × ℕ
deviations_of factors segment = sigma_of factors (set_of segment) (number_of segment)

abbrev pub segment_own : FactorValues → Segment → Numbers → Own
segment_own factors segment numbers =
    let deviations = deviations_of factors segment in
    SegmentOwn (volumes_in_regions segment numbers) deviations.0 deviations.1

-- of the segments of a set: those of non-life are handed in (Annex IV), and those of health are the Regulation's (Annex XV)
abbrev pub segment_correlations : FactorValues → Set → Matrix
segment_correlations factors sets.Nl = factors.correlations
segment_correlations factors sets.Nslt = NSLT

-- nothing that operational risk is reckoned from
abbrev pub no_operations : OpInput
no_operations =
    record { tpl = pos 0; tpul = pos 0; tpn = pos 0; el = 0; eul = 0; pel = 0; peul = 0; en = 0; pen = 0; expul = 0 }

abbrev pub premiums_of : Numbers → OpInput
premiums_of numbers = record no_operations {
  el = slice_index_or numbers.earned 0 0;
  eul = slice_index_or numbers.earned 1 0;
  pel = slice_index_or numbers.earned 2 0;
  peul = slice_index_or numbers.earned 3 0;
  en = slice_index_or numbers.earned 4 0;
  pen = slice_index_or numbers.earned 5 0;
}

abbrev pub provisions_of : Numbers → OpInput
provisions_of numbers = record no_operations {
  tpl = slice_index_or numbers.provisions 0 (pos 0);
  tpul = slice_index_or numbers.provisions 1 (pos 0);
  tpn = slice_index_or numbers.provisions 2 (pos 0);
}

abbrev pub operational_own : Operational → Numbers → Own
operational_own operations.Premiums numbers = Premiums (premiums_of numbers)
operational_own operations.Provisions numbers = Provisions (provisions_of numbers)
operational_own operations.Cap numbers = Cap
operational_own operations.Charge numbers = OperationalCharge (slice_index_or numbers.earned 6 0)

abbrev pub own_of : FactorValues → BalanceSheet → Node → Own
own_of factors sheet (nodes.Fund name of_funds.Total) = Held (fund_held name sheet) (map (share_in name) (holders name sheet))
own_of factors sheet (nodes.Security name of_securities.Total) = Held (security_held name sheet)
    (map (share_in name) (holders name sheet))
own_of factors sheet (nodes.Security name (of_securities.UnitLoss direction)) = Loss (security_paid sheet name direction)
own_of factors sheet (nodes.Security name (of_securities.Rate direction)) = Scaled
own_of factors sheet (nodes.Liability name (of_liabilities.Rate direction)) = Cost (liability_paid sheet name direction)
own_of factors sheet (nodes.Currency currency (of_currencies.Loss direction)) = Lost
own_of factors sheet (nodes.Whole (wholes.InterestScenario direction measures.Gross)) = Converted
own_of factors sheet (nodes.Whole (wholes.InterestScenario direction measures.Net)) = Net
    (absorbed (interest_key direction) sheet.numbers)
own_of factors sheet (nodes.Whole (wholes.Choice alternatives)) = Choice
own_of factors sheet (nodes.Whole (wholes.Picked alternatives measure)) = Picked measure
own_of factors sheet (nodes.Whole (wholes.ClassSum class)) = Added
own_of factors sheet (nodes.Whole (wholes.EquityPart equities)) = Fall equities sheet.numbers.sym
own_of factors sheet (nodes.Whole wholes.EquityRoot) = EquityRoot
own_of factors sheet (nodes.Whole (wholes.NetPart risk)) = Net (absorbed (risk_key risk) sheet.numbers)
own_of factors sheet (nodes.Liability name of_liabilities.Present) = Worth (liability_valued sheet name)
own_of factors sheet (nodes.Liability name (of_liabilities.Loss projection)) =
    Excess (liability_valued sheet name) (paid_under sheet name projection)
own_of factors sheet (nodes.Currency currency (of_currencies.Scenario direction measures.Gross)) =
    Foreign direction (held_in currency sheet)
own_of factors sheet (nodes.Currency currency (of_currencies.Scenario direction measures.Net)) =
    Net (currency_absorbed sheet currency direction)
own_of factors sheet (nodes.Currency currency of_currencies.Choice) = Choice
own_of factors sheet (nodes.Currency currency (of_currencies.Picked measure)) = Picked measure
own_of factors sheet (nodes.Whole (wholes.Currency measure)) = Added
own_of factors sheet (nodes.Whole wholes.Property) = Multiple 250
own_of factors sheet (nodes.Security name of_securities.Spread) =
    option_map_or (bond_stressed factors sheet) (position_of name sheet.securities) (Stressed factors None 0)
own_of factors sheet (nodes.Whole wholes.Spread) = Spread
own_of factors sheet (nodes.Group name of_groups.Total) = Added
own_of factors sheet (nodes.Whole wholes.Assets) = Added
own_of factors sheet (nodes.Group name of_groups.ConcentrationSquare) =
    option_map_or group_square (group_of name sheet.groups) (Square group_kinds.Name None)
own_of factors sheet (nodes.Whole wholes.Concentration) = SquareRoot
own_of factors sheet (nodes.Whole (wholes.Market measure)) = Market
own_of factors sheet (nodes.Group name of_groups.Loss) = owed_by_group name sheet
own_of factors sheet (nodes.Whole (wholes.ClassLoss class)) = Added
own_of factors sheet (nodes.Whole (wholes.ClassSquare class)) = Squares
own_of factors sheet (nodes.Whole wholes.Variance) = Variance
own_of factors sheet (nodes.Whole wholes.DefaultBand) = Band
own_of factors sheet (nodes.Whole wholes.DefaultType1) = Banded
own_of factors sheet (nodes.Whole wholes.DefaultType2) =
    Due (slice_index_or sheet.numbers.due 0 0) (slice_index_or sheet.numbers.due 1 0)
own_of factors sheet (nodes.Whole wholes.Default) = Correlated DefaultRoot
own_of factors sheet (nodes.Whole (wholes.BioScenario biometric projection measures.Gross)) = Converted
own_of factors sheet (nodes.Whole (wholes.BioScenario biometric projection measures.Net)) =
    Net (stress_absorbed sheet biometric projection)
own_of factors sheet (nodes.Whole (wholes.Life measure)) = Correlated LifeRoot
own_of factors sheet (nodes.Whole (wholes.Slt measure)) = Correlated SltRoot
own_of factors sheet (nodes.Whole (wholes.Segment segment)) = segment_own factors segment sheet.numbers
own_of factors sheet (nodes.Whole (wholes.PremiumReserve set)) = PremiumReserve (segment_correlations factors set)
own_of factors sheet (nodes.Whole (wholes.CatCharge key)) = Charged 1000 (catastrophe_cents key sheet.numbers)
own_of factors sheet (nodes.Whole (wholes.Lapse set)) = Charged 1000 (lapse_cents set sheet.numbers)
own_of factors sheet (nodes.Whole wholes.Natural) = Correlated NaturalRoot
own_of factors sheet (nodes.Whole wholes.ManMade) = Correlated ManMadeRoot
own_of factors sheet (nodes.Whole wholes.NonlifeCatastrophe) = Catastrophes
own_of factors sheet (nodes.Whole wholes.HealthCatastrophe) = Correlated HealthCatastropheRoot
own_of factors sheet (nodes.Whole (wholes.Nslt measure)) = CorrelatedWith NsltRoot (lapse_cents sets.Nslt sheet.numbers)
own_of factors sheet (nodes.Whole (wholes.Health measure)) = Correlated HealthRoot
own_of factors sheet (nodes.Whole (wholes.Nonlife measure)) = CorrelatedWith NonlifeRoot (lapse_cents sets.Nl sheet.numbers)
own_of factors sheet (nodes.Whole wholes.Intangible) = Charged 800 sheet.numbers.intangible
own_of factors sheet (nodes.Whole (wholes.Bscr measure)) = Bscr sheet.numbers.intangible
own_of factors sheet (nodes.Whole (wholes.OpPart part)) = operational_own part sheet.numbers
own_of factors sheet (nodes.Whole (wholes.Adjust adjustments.TechnicalProvisions)) = Absorbing sheet.numbers.fdb
own_of factors sheet (nodes.Whole (wholes.Adjust adjustments.DeferredTaxes)) = Taxed sheet.numbers.tax sheet.numbers.cap
own_of factors sheet (nodes.Whole wholes.Scr) = Requirement
own_of factors sheet (nodes.Whole wholes.Diversification) = Diversified sheet.numbers.intangible
