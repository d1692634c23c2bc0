-- How near the alternatives of a choice are, where their worked figures leave it open which of them decides (this project's
-- own): the choice of an interest rate scenario, of the change of a currency and of lapses (Articles 142(1), 159(1),
-- 165(1), 188(2) and 206(2) of Delegated Regulation (EU) 2015/35), and that of the band of the standard deviation (Article
-- 200). What the alternatives come to exactly is handed in.
use Rattle.std.specs.Prelude.{ℕ, zero, suc, ◌*◌, ◌⊎◌, Any}
use Rattle.scr_num.specs.Enclosure.{Encloses}
use Rattle.scr_num.specs.Fraction.{Fraction}
use Rattle.scr_num.specs.Narrow.{IsNarrow}
use Rattle.scr_num.specs.Rounding.{Ends}
use Rattle.scr_agg.specs.Nearness.{HasOpen}
use Rattle.scr_default.specs.Bands.{IsNearBand}
use Rattle.scr_default.specs.Type1.{deviation_figure}
use Rattle.scr_factors.specs.Values.{FactorValues}
use Rattle.scr_sheet.specs.declared.sheet.BalanceSheet.{BalanceSheet}
use Rattle.scr_nodes.specs.Sources.{sources_of}
use Rattle.scr_nodes.specs.declared.node.Alternatives.TheVariants as alternatives
use Rattle.scr_nodes.specs.declared.node.Biometric.TheVariants as biometrics
use Rattle.scr_nodes.specs.declared.node.Node.{Node}
use Rattle.scr_nodes.specs.declared.node.Node.TheVariants as nodes
use Rattle.scr_nodes.specs.declared.node.OfCurrency.TheVariants as of_currencies
use Rattle.scr_nodes.specs.declared.node.Whole.TheVariants as wholes
use Rattle.scr_rules.specs.Alternatives.{Outcomes, currency_alternatives, interest_alternatives, lapse_alternatives}
use Rattle.scr_rules.specs.DefaultGrains.{total_grains}
use Rattle.scr_rules.specs.Worked.{worked}
use Rattle.scr_widths.specs.Widths.{scale_of}

-- ---- between scenarios

-- alternatives between which the choice is open are within so many grains
abbrev pub gap_width : BalanceSheet → ℕ
gap_width sheet = 32 * (scale_of sheet).multiple

-- ---- between bands

-- 7 or 20 percent of all losses given default of type 1 exposures lie between two numbers of grains at most 7 apart, and so
-- does the standard deviation, the root of this variance
pub record HasNearBands (sheet : BalanceSheet) (variance : Fraction) : Type 0 where
  pub deviation : Ends
  pub encloses : Encloses 1000 deviation.low deviation.high (deviation_figure variance)
  pub narrow : IsNarrow 7 deviation
  pub between : IsNearBand deviation (total_grains sheet)

-- ---- a choice

-- the node is a choice between alternatives that are as near as that, where they come exactly to these outcomes
abbrev pub IsNearChoice : FactorValues → BalanceSheet → Outcomes → Node → Type 0
IsNearChoice factors sheet outcomes (nodes.Whole (wholes.Choice alternatives.Interest)) =
    HasOpen 1000 (gap_width sheet) (interest_alternatives (worked factors sheet)) outcomes.interest
IsNearChoice factors sheet outcomes (nodes.Whole (wholes.Choice alternatives.LifeLapse)) =
    HasOpen 1000 (gap_width sheet) (lapse_alternatives (worked factors sheet) biometrics.Life) (outcomes.lapses biometrics.Life)
IsNearChoice factors sheet outcomes (nodes.Whole (wholes.Choice alternatives.HealthLapse)) =
    HasOpen 1000 (gap_width sheet) (lapse_alternatives (worked factors sheet) biometrics.Health)
    (outcomes.lapses biometrics.Health)
IsNearChoice factors sheet outcomes (nodes.Currency currency of_currencies.Choice) =
    HasOpen 1000 (gap_width sheet) (currency_alternatives (worked factors sheet) currency) (outcomes.change currency)
IsNearChoice factors sheet outcomes (nodes.Whole wholes.DefaultBand) = HasNearBands sheet outcomes.variance
IsNearChoice factors sheet outcomes node = ⊥

-- the node is one, or one lies under it: among its sources, their sources, and so on for so many steps
abbrev pub RestsWithin : FactorValues → BalanceSheet → Outcomes → ℕ → Node → Type 0
RestsWithin factors sheet outcomes zero node = ⊥
RestsWithin factors sheet outcomes (suc steps) node =
    IsNearChoice factors sheet outcomes node ⊎ Any (RestsWithin factors sheet outcomes steps) (sources_of sheet node)

-- for some number of steps
pub record RestsOnNearChoice (factors : FactorValues) (sheet : BalanceSheet) (outcomes : Outcomes) (node : Node) : Type 0 where
  pub steps : ℕ
  pub there : RestsWithin factors sheet outcomes steps node
