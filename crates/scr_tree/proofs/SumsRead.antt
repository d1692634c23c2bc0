-- A sum is read where a figure is reckoned from it.
use Rattle.std.proofs.Common.{◌≡◌, true, refl}
use Rattle.std.specs.Option.{option_map_or}
use Rattle.scr_sheet.specs.declared.rows.Class.TheVariants as classes
use Rattle.scr_sheet.specs.declared.sheet.BalanceSheet.{BalanceSheet}
use Rattle.scr_nodes.specs.Live.{is_live}
use Rattle.scr_nodes.specs.declared.node.Measure.TheVariants as measures
use Rattle.scr_nodes.specs.declared.node.Node.{Node}
use Rattle.scr_nodes.specs.declared.node.Node.TheVariants as nodes
use Rattle.scr_nodes.specs.declared.node.OfCurrency.TheVariants as of_currencies
use Rattle.scr_nodes.specs.declared.node.OfGroup.TheVariants as of_groups
use Rattle.scr_nodes.specs.declared.node.Whole.TheVariants as wholes
use Rattle.scr_block_graph.specs.Graph.{reads}
use Rattle.scr_block_graph.specs.Sums.{first_sum, second_sum}

pub first-reads : (sheet : BalanceSheet) (node : Node) → is_live sheet node ≡ true → option_map_or (reads sheet) (first_sum node) true ≡ true
first-reads sheet (nodes.Group name of_groups.Total) live = live
first-reads sheet (nodes.Currency currency (of_currencies.Loss direction)) live = live
first-reads sheet (nodes.Currency currency (of_currencies.Scenario direction measures.Gross)) live = live
first-reads sheet (nodes.Whole (wholes.BioScenario biometric projection measures.Gross)) live = live
first-reads sheet node live = refl

pub second-reads : (sheet : BalanceSheet) (node : Node) → is_live sheet node ≡ true → option_map_or (reads sheet) (second_sum node) true ≡ true
second-reads sheet (nodes.Currency currency (of_currencies.Loss direction)) live = live
second-reads sheet (nodes.Currency currency (of_currencies.Scenario direction measures.Gross)) live = live
second-reads sheet (nodes.Whole (wholes.ClassSum classes.Type2Equity)) live = refl
second-reads sheet node live = refl
