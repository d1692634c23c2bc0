-- The sources of a figure that is reckoned from large sums.
use Rattle.std.proofs.Common.{◌≡◌, ℕ, true, List, [], ◌++◌, filter, map, sym, ap, ap₂, ◌∙◌}
use Rattle.std.specs.Prelude.{is_some}
use Rattle.std.proofs.lemmas.List.{append-nil}
use Rattle.scr_sum_tree.proofs.Regrouped.{map-map}
use Rattle.scr_sheet.specs.BalanceSheet.{group_name, liability_name, position_name, stake_name}
use Rattle.scr_sheet.specs.declared.rows.Class.{Class}
use Rattle.scr_sheet.specs.declared.rows.Class.TheVariants as classes
use Rattle.scr_sheet.specs.declared.sheet.BalanceSheet.{BalanceSheet}
use Rattle.scr_nodes.specs.declared.node.Measure.TheVariants as measures
use Rattle.scr_nodes.specs.declared.node.Node.{Node}
use Rattle.scr_nodes.specs.declared.node.Node.TheVariants as nodes
use Rattle.scr_nodes.specs.declared.node.OfCurrency.TheVariants as of_currencies
use Rattle.scr_nodes.specs.declared.node.OfGroup.TheVariants as of_groups
use Rattle.scr_nodes.specs.declared.node.Whole.TheVariants as wholes
use Rattle.scr_nodes.specs.Rows.{has_class, has_group, is_closed, is_held_in, is_of_group, is_owed_in, is_paying_in, is_stressed}
use Rattle.scr_nodes.specs.Sources.{sources_of}
use Rattle.scr_block_graph.specs.Graph.{listed}
use Rattle.scr_block_graph.specs.Sums.{first_sum, member_of, second_sum}
use Rattle.scr_block_graph.specs.declared.sum.Sum.TheVariants as sums

-- the figures of rows by the names of the rows
by-names : {Row Node : Type 0} (figure : List ℕ → Node) (name_of : Row → List ℕ) (rows : List Row)
    → map (λ row. figure (name_of row)) rows ≡ map figure (map name_of rows)
by-names figure name_of rows = sym (map-map figure name_of rows)

-- the same with nothing behind them
alone : {Row Node : Type 0} (figure : List ℕ → Node) (name_of : Row → List ℕ) (rows : List Row)
    → map (λ row. figure (name_of row)) rows ≡ map figure (map name_of rows) ++ []
alone figure name_of rows = by-names figure name_of rows ∙ sym (append-nil (map figure (map name_of rows)))

module _ (sheet : BalanceSheet) where
  of-class : (class : Class) → sources_of sheet (nodes.Whole (wholes.ClassSum class))
      ≡ listed sheet (first_sum (nodes.Whole (wholes.ClassSum class))) ++ listed sheet (second_sum (nodes.Whole (wholes.ClassSum class)))
  of-class classes.Type2Equity =
      ap₂ (λ one two. one ++ two)
      (by-names (member_of (sums.Class classes.Type2Equity)) position_name (filter (has_class classes.Type2Equity) sheet.securities))
      (by-names (member_of sums.Closed) stake_name (filter is_closed sheet.funds))
  of-class class = ap (λ one. one ++ []) (by-names (member_of (sums.Class class)) position_name (filter (has_class class) sheet.securities))

  pub sources-listed : (node : Node) → is_some (first_sum node) ≡ true
      → sources_of sheet node ≡ listed sheet (first_sum node) ++ listed sheet (second_sum node)
  sources-listed (nodes.Group name of_groups.Total) is =
      alone (member_of (sums.Group name)) position_name (filter (is_of_group name) sheet.securities)
  sources-listed (nodes.Currency currency (of_currencies.Loss direction)) is =
      ap₂ (λ one two. one ++ two)
      (by-names (member_of (sums.Rates currency direction)) position_name (filter (is_paying_in currency) sheet.securities))
      (by-names (member_of (sums.Costs currency direction)) liability_name (filter (is_owed_in currency) sheet.liabilities))
  sources-listed (nodes.Currency currency (of_currencies.Scenario direction measures.Gross)) is =
      ap₂ (λ one two. one ++ two)
      (by-names (member_of (sums.Assets currency)) position_name (filter (is_held_in currency) sheet.securities))
      (by-names (member_of (sums.Presents currency)) liability_name (filter (is_owed_in currency) sheet.liabilities))
  sources-listed (nodes.Whole (wholes.ClassSum class)) is = of-class class
  sources-listed (nodes.Whole wholes.Spread) is =
      alone (member_of sums.Spreads) position_name (filter (has_class classes.Bond) sheet.securities)
  sources-listed (nodes.Whole wholes.Assets) is = alone (member_of sums.Grouped) position_name (filter has_group sheet.securities)
  sources-listed (nodes.Whole wholes.Concentration) is = alone (member_of sums.Squares) group_name sheet.groups
  sources-listed (nodes.Whole (wholes.BioScenario biometric projection measures.Gross)) is =
      alone (member_of (sums.Losses biometric projection)) liability_name (filter (is_stressed biometric projection) sheet.liabilities)
  sources-listed node is = absurd (cc)
