-- How far apart the two bounds of a cell may be (this project's own). A width is in grains, thousandths of a cent. A figure
-- that is worked out exactly has none. Each rounding adds to it, discounting adds the more, the more is discounted, and a
-- root multiplies what its parts have together.
use Rattle.std.specs.Prelude.{ℕ, ◌+◌, ◌*◌, ◌/◌, Option, Some, None, count_by, if◌then◌else◌, nat_le, option_map}
use Rattle.scr_profile.specs.Segments.{segments}
use Rattle.scr_profile.specs.declared.set.Set.{Set}
use Rattle.scr_profile.specs.declared.set.Set.TheVariants as sets
use Rattle.scr_sheet.specs.BalanceSheet.{greatest, liability_flows_total}
use Rattle.scr_sheet.specs.Totals.{closed_total, securities_total}
use Rattle.scr_sheet.specs.CashFlows.{all_projections}
use Rattle.scr_sheet.specs.declared.sheet.BalanceSheet.{BalanceSheet}
use Rattle.scr_nodes.specs.declared.node.Adjustment.{Adjustment}
use Rattle.scr_nodes.specs.declared.node.Adjustment.TheVariants as adjustments
use Rattle.scr_nodes.specs.declared.node.Node.{Node}
use Rattle.scr_nodes.specs.declared.node.Node.TheVariants as nodes
use Rattle.scr_nodes.specs.declared.node.OfSecurity.{OfSecurity}
use Rattle.scr_nodes.specs.declared.node.OfSecurity.TheVariants as of_securities
use Rattle.scr_nodes.specs.declared.node.OfCurrency.{OfCurrency}
use Rattle.scr_nodes.specs.declared.node.OfCurrency.TheVariants as of_currencies
use Rattle.scr_nodes.specs.declared.node.Whole.{Whole}
use Rattle.scr_nodes.specs.declared.node.Whole.TheVariants as wholes
use Rattle.scr_nodes.specs.declared.node.Operational.{Operational}
use Rattle.scr_nodes.specs.declared.node.Operational.TheVariants as operations
use Rattle.scr_nodes.specs.declared.node.Risk.{Risk}
use Rattle.scr_nodes.specs.declared.node.Risk.TheVariants as risks
use Rattle.scr_nodes.specs.Rows.{is_foreign}
use Rattle.scr_widths.specs.declared.scale.Scale.{Scale}

-- ---- what widths depend on

-- all that is held, directly and through funds: of the securities, and of the funds through which nothing is seen
abbrev pub seen_total : BalanceSheet → ℕ
seen_total sheet = securities_total sheet + closed_total sheet

-- What is discounted is no more than this, in cents: five times what is held, since a security promises at most five times
-- its value, and what all liabilities pay under the projection that has the greatest absolute cash flows.
abbrev pub load : BalanceSheet → ℕ
load sheet = 5 * seen_total sheet + greatest (λ projection. liability_flows_total projection sheet) all_projections

-- one, and one more for each 10^13 cents of that; the currencies other than the reporting one; the rate of the adjustment for
-- deferred taxes, in millionths
abbrev pub scale_of : BalanceSheet → Scale
scale_of sheet = record {
  multiple = 1 + load sheet / 10_000_000_000_000;
  foreign = count_by (is_foreign sheet) sheet.curves;
  tax = sheet.numbers.tax;
}

-- ---- roots

-- the root over so many parts, whose widths come to a sum together
abbrev pub root_width : (parts sum : ℕ) → ℕ
root_width parts sum = (if nat_le parts 9 then 3 else 4) * sum + 2

-- the root over biometric stresses, two of which have a correlation below 0
abbrev pub biometric_width : ℕ → ℕ
biometric_width sum = 7 * sum + 2

-- ---- market risk

-- what one change of discounted payments costs, and the one of several that decides
abbrev pub payments_width : Scale → ℕ
payments_width scale = 16 * scale.multiple

-- type 1 equities, and the sum of the three other kinds
abbrev pub equity_width : ℕ
equity_width = root_width 2 (2 + (2 + 2 + 2))

abbrev pub currency_width : Scale → ℕ
currency_width scale = payments_width scale + 2 * scale.foreign

-- interest rate, equity, property, spread, concentration and currency risk
abbrev pub market_width : Scale → ℕ
market_width scale = root_width 6 (payments_width scale + equity_width + 0 + 2 + 2 + currency_width scale)

-- ---- counterparty default risk

-- type 1 and type 2 exposures
abbrev pub default_width : ℕ
default_width = root_width 2 (60 + 0)

-- ---- underwriting risk

-- seven stresses of life insurance, and six of health insurance similar to life
abbrev pub life_width : Scale → ℕ
life_width scale = biometric_width (7 * payments_width scale)

abbrev pub slt_width : Scale → ℕ
slt_width scale = biometric_width (6 * payments_width scale)

-- three times the root over all segments
abbrev pub premium_reserve_width : Set → ℕ
premium_reserve_width set = 3 * root_width (segments set) (segments set * 2)

-- with the handed-in charge for lapses
abbrev pub nslt_width : ℕ
nslt_width = root_width 2 (premium_reserve_width sets.Nslt + 0)

-- three handed-in charges
abbrev pub health_catastrophe_width : ℕ
health_catastrophe_width = root_width 3 (0 + 0 + 0)

abbrev pub health_width : Scale → ℕ
health_width scale = root_width 3 (slt_width scale + nslt_width + health_catastrophe_width)

-- five handed-in charges, and six
abbrev pub natural_width : ℕ
natural_width = root_width 5 (0 + 0 + 0 + 0 + 0)

abbrev pub man_made_width : ℕ
man_made_width = root_width 6 (0 + 0 + 0 + 0 + 0 + 0)

-- natural catastrophes with non-proportional property reinsurance, man-made ones, and others
abbrev pub nonlife_catastrophe_width : ℕ
nonlife_catastrophe_width = root_width 3 (natural_width + 0 + man_made_width + 0)

-- premiums and reserves, catastrophes, and the handed-in charge for lapses
abbrev pub nonlife_width : ℕ
nonlife_width = root_width 3 (premium_reserve_width sets.Nl + nonlife_catastrophe_width + 0)

-- ---- the whole

abbrev pub modules_width : Scale → ℕ
modules_width scale = market_width scale + default_width + life_width scale + health_width scale + nonlife_width

abbrev pub bscr_width : Scale → ℕ
bscr_width scale = root_width 5 (modules_width scale)

-- the modules, less their root
abbrev pub diversification_width : Scale → ℕ
diversification_width scale = modules_width scale + bscr_width scale

-- three tenths of the Basic Solvency Capital Requirement
abbrev pub cap_width : Scale → ℕ
cap_width scale = 3 * bscr_width scale / 10 + 2

-- before absorption and after it
abbrev pub absorbing_width : Scale → ℕ
absorbing_width scale = bscr_width scale + bscr_width scale

-- the rate of what is left of the requirement
abbrev pub taxed_width : Scale → ℕ
taxed_width scale = scale.tax * (bscr_width scale + absorbing_width scale + cap_width scale) / 1_000_000 + 2

abbrev pub requirement_width : Scale → ℕ
requirement_width scale = bscr_width scale + absorbing_width scale + taxed_width scale + cap_width scale

-- ---- a figure

-- a risk before absorption, and after it
abbrev pub risk_width : Risk → ℕ
risk_width risks.Equity = equity_width
risk_width risks.Property = 0
risk_width risks.Spread = 2
risk_width risks.Concentration = 2
risk_width risks.Default = default_width
risk_width risks.HealthCatastrophe = health_catastrophe_width

abbrev pub operational_width : Scale → Operational → ℕ
operational_width scale operations.Premiums = 0
operational_width scale operations.Provisions = 2
operational_width scale operations.Cap = cap_width scale
operational_width scale operations.Charge = cap_width scale

abbrev pub adjustment_width : Scale → Adjustment → ℕ
adjustment_width scale adjustments.TechnicalProvisions = absorbing_width scale
adjustment_width scale adjustments.DeferredTaxes = taxed_width scale

-- Where none is stated the figure is of one row or of one currency, or it is the variance of losses: how far apart their
-- ends are is told only of what is reckoned from them. Of figures without a width of their own, and with 0, each is a whole
-- number: what is handed in, sums and products of it, squares and choices.
abbrev pub security_width : OfSecurity → Option ℕ
security_width of_securities.Total = Some 0
security_width (of_securities.UnitLoss direction) = None
security_width (of_securities.Rate direction) = None
security_width of_securities.Spread = Some 0

abbrev pub currency_figure_width : OfCurrency → Option ℕ
currency_figure_width (of_currencies.Loss direction) = None
currency_figure_width (of_currencies.Scenario direction measure) = None
currency_figure_width of_currencies.Choice = Some 0
currency_figure_width (of_currencies.Picked measure) = None

abbrev pub whole_width : Scale → Whole → Option ℕ
whole_width scale (wholes.InterestScenario direction measure) = Some (payments_width scale)
whole_width scale (wholes.Choice alternatives) = Some 0
whole_width scale (wholes.Picked alternatives measure) = Some (payments_width scale)
whole_width scale (wholes.ClassSum class) = Some 0
whole_width scale (wholes.EquityPart kind) = Some 2
whole_width scale wholes.EquityRoot = Some (risk_width risks.Equity)
whole_width scale wholes.Property = Some (risk_width risks.Property)
whole_width scale wholes.Spread = Some (risk_width risks.Spread)
whole_width scale wholes.Assets = Some 0
whole_width scale wholes.Concentration = Some (risk_width risks.Concentration)
whole_width scale (wholes.NetPart risk) = Some (risk_width risk)
whole_width scale (wholes.Currency measure) = Some (currency_width scale)
whole_width scale (wholes.Market measure) = Some (market_width scale)
whole_width scale (wholes.ClassLoss class) = Some 0
whole_width scale (wholes.ClassSquare class) = Some 0
whole_width scale wholes.Variance = None
whole_width scale wholes.DefaultBand = Some 0
whole_width scale wholes.DefaultType1 = Some 60
whole_width scale wholes.DefaultType2 = Some 0
whole_width scale wholes.Default = Some (risk_width risks.Default)
whole_width scale (wholes.BioScenario biometric projection measure) = Some (payments_width scale)
whole_width scale (wholes.Life measure) = Some (life_width scale)
whole_width scale (wholes.Slt measure) = Some (slt_width scale)
whole_width scale (wholes.Segment segment) = Some 2
whole_width scale (wholes.PremiumReserve set) = Some (premium_reserve_width set)
whole_width scale (wholes.CatCharge key) = Some 0
whole_width scale (wholes.Lapse set) = Some 0
whole_width scale wholes.Natural = Some natural_width
whole_width scale wholes.ManMade = Some man_made_width
whole_width scale wholes.NonlifeCatastrophe = Some nonlife_catastrophe_width
whole_width scale wholes.HealthCatastrophe = Some (risk_width risks.HealthCatastrophe)
whole_width scale (wholes.Nslt measure) = Some nslt_width
whole_width scale (wholes.Health measure) = Some (health_width scale)
whole_width scale (wholes.Nonlife measure) = Some nonlife_width
whole_width scale wholes.Intangible = Some 0
whole_width scale (wholes.Bscr measure) = Some (bscr_width scale)
whole_width scale (wholes.OpPart part) = Some (operational_width scale part)
whole_width scale (wholes.Adjust adjustment) = Some (adjustment_width scale adjustment)
whole_width scale wholes.Scr = Some (requirement_width scale)
whole_width scale wholes.Diversification = Some (diversification_width scale)

-- that of a figure, where it is stated
abbrev pub width : Scale → Node → Option ℕ
width scale (nodes.Fund name what) = Some 0
width scale (nodes.Security name what) = security_width what
width scale (nodes.Liability name what) = None
width scale (nodes.Currency currency what) = currency_figure_width what
width scale (nodes.Group name what) = Some 0
width scale (nodes.Whole what) = whole_width scale what

-- the same in cents: rounding outward to cents adds less than two
abbrev pub stated_width : BalanceSheet → Node → Option ℕ
stated_width sheet node = option_map (λ grains. grains / 1000 + 2) (width (scale_of sheet) node)
