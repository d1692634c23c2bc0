-- What figures of the whole sheet that come in several are reckoned by: a scenario's requirement before or after absorption
-- (Article 206(2) of Delegated Regulation (EU) 2015/35), and the two adjustments (Articles 206 and 207).
use Rattle.std.specs.Prelude.{ℕ}
use Rattle.scr_sheet.specs.declared.numbers.Numbers.{Numbers}
use Rattle.scr_nodes.specs.declared.node.Adjustment.{Adjustment}
use Rattle.scr_nodes.specs.declared.node.Adjustment.TheVariants as adjustments
use Rattle.scr_nodes.specs.declared.node.Measure.{Measure}
use Rattle.scr_nodes.specs.declared.node.Measure.TheVariants as measures
use Rattle.scr_nodes.specs.Own.{Own}
use Rattle.scr_nodes.specs.Own.Own.{Converted, Net, Absorbing, Taxed}

abbrev pub scenario_own : Measure → (absorb : ℕ) → Own
scenario_own measures.Gross absorb = Converted
scenario_own measures.Net absorb = Net absorb

abbrev pub adjustment_own : Adjustment → Numbers → Own
adjustment_own adjustments.TechnicalProvisions numbers = Absorbing numbers.fdb
adjustment_own adjustments.DeferredTaxes numbers = Taxed numbers.tax numbers.cap
