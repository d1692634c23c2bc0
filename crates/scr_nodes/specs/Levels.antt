-- How many levels of figures lie below a figure, at most: each source of a figure stands at a lower level, but for totals
-- of funds, which are all at level 0 (this project's own).
use Rattle.std.specs.Prelude.{ℕ}
use Rattle.scr_nodes.specs.declared.node.Adjustment.TheVariants as adjustments
use Rattle.scr_nodes.specs.declared.node.Alternatives.{Alternatives}
use Rattle.scr_nodes.specs.declared.node.Alternatives.TheVariants as alternatives
use Rattle.scr_nodes.specs.declared.node.Measure.TheVariants.{Gross, Net}
use Rattle.scr_nodes.specs.declared.node.Node.{Node}
use Rattle.scr_nodes.specs.declared.node.Node.TheVariants as nodes
use Rattle.scr_nodes.specs.declared.node.OfCurrency.{OfCurrency}
use Rattle.scr_nodes.specs.declared.node.OfCurrency.TheVariants as of_currencies
use Rattle.scr_nodes.specs.declared.node.OfGroup.{OfGroup}
use Rattle.scr_nodes.specs.declared.node.OfGroup.TheVariants as of_groups
use Rattle.scr_nodes.specs.declared.node.OfSecurity.{OfSecurity}
use Rattle.scr_nodes.specs.declared.node.OfSecurity.TheVariants as of_securities
use Rattle.scr_nodes.specs.declared.node.Operational.TheVariants as operations
use Rattle.scr_nodes.specs.declared.node.Risk.{Risk}
use Rattle.scr_nodes.specs.declared.node.Risk.TheVariants as risks
use Rattle.scr_nodes.specs.declared.node.Whole.{Whole}
use Rattle.scr_nodes.specs.declared.node.Whole.TheVariants as wholes

abbrev pub security_level : OfSecurity → ℕ
security_level (of_securities.UnitLoss direction) = 0
security_level of_securities.Total = 1
security_level (of_securities.Rate direction) = 2
security_level of_securities.Spread = 2

abbrev pub currency_level : OfCurrency → ℕ
currency_level (of_currencies.Scenario direction Gross) = 2
currency_level (of_currencies.Scenario direction Net) = 3
currency_level (of_currencies.Loss direction) = 3
currency_level of_currencies.Choice = 4
currency_level (of_currencies.Picked measure) = 5

abbrev pub group_level : OfGroup → ℕ
group_level of_groups.Loss = 0
group_level of_groups.Total = 2
group_level of_groups.ConcentrationSquare = 3

abbrev pub choice_level : Alternatives → ℕ
choice_level alternatives.LifeLapse = 3
choice_level alternatives.HealthLapse = 3
choice_level alternatives.Interest = 6

abbrev pub picked_level : Alternatives → ℕ
picked_level alternatives.LifeLapse = 4
picked_level alternatives.HealthLapse = 4
picked_level alternatives.Interest = 7

-- after absorption
abbrev pub net_level : Risk → ℕ
net_level risks.HealthCatastrophe = 2
net_level risks.Property = 4
net_level risks.Spread = 4
net_level risks.Equity = 5
net_level risks.Concentration = 5
net_level risks.Default = 6

-- those that no line names are reckoned from the sheet alone
abbrev pub whole_level : Whole → ℕ
whole_level (wholes.ClassLoss class) = 1
whole_level (wholes.ClassSquare class) = 1
whole_level (wholes.BioScenario biometric projection Gross) = 1
whole_level (wholes.PremiumReserve set) = 1
whole_level wholes.Natural = 1
whole_level wholes.ManMade = 1
whole_level wholes.HealthCatastrophe = 1
whole_level (wholes.ClassSum class) = 2
whole_level wholes.Assets = 2
whole_level wholes.Variance = 2
whole_level (wholes.BioScenario biometric projection Net) = 2
whole_level wholes.NonlifeCatastrophe = 2
whole_level (wholes.Nslt measure) = 2
whole_level wholes.Spread = 3
whole_level wholes.Property = 3
whole_level (wholes.EquityPart equities) = 3
whole_level wholes.DefaultBand = 3
whole_level (wholes.Nonlife measure) = 3
whole_level (wholes.InterestScenario direction Gross) = 4
whole_level wholes.EquityRoot = 4
whole_level wholes.Concentration = 4
whole_level wholes.DefaultType1 = 4
whole_level (wholes.InterestScenario direction Net) = 5
whole_level wholes.Default = 5
whole_level (wholes.Life measure) = 5
whole_level (wholes.Slt measure) = 5
whole_level (wholes.Choice which) = choice_level which
whole_level (wholes.Picked which measure) = picked_level which
whole_level (wholes.NetPart risk) = net_level risk
whole_level (wholes.Currency measure) = 6
whole_level (wholes.Health measure) = 6
whole_level (wholes.Market measure) = 8
whole_level (wholes.Bscr measure) = 9
whole_level wholes.Diversification = 10
whole_level (wholes.OpPart operations.Cap) = 10
whole_level (wholes.Adjust adjustments.TechnicalProvisions) = 10
whole_level (wholes.OpPart operations.Charge) = 11
whole_level (wholes.Adjust adjustments.DeferredTaxes) = 12
whole_level wholes.Scr = 13
whole_level what = 0

abbrev pub level : Node → ℕ
level (nodes.Fund name what) = 0
level (nodes.Security name what) = security_level what
level (nodes.Liability name what) = 0
level (nodes.Currency currency what) = currency_level what
level (nodes.Group name what) = group_level what
level (nodes.Whole what) = whole_level what
