-- The ids of the sources of figures (own).
use Rattle.std.specs.Prelude.{◌≡◌, ℕ, ◌+◌, ◌++◌, Bool, true, false, List, [], map}
use Rattle.std.specs.List.{AllByRecursion, AllZip}
use Rattle.scr_ids.specs.Ranges.{Numbered, first}
use Rattle.scr_ids.specs.declared.table.Table.{Table}
use Rattle.scr_ids.specs.declared.table.Table.TheVariants as tables
use Rattle.scr_sheet.specs.declared.sheet.BalanceSheet.{BalanceSheet}
use Rattle.scr_nodes.specs.Live.{is_live}
use Rattle.scr_nodes.specs.Selections.{is_counted, is_counterparty, is_currency, is_holder, is_obligation}
use Rattle.scr_nodes.specs.Sources.{sources_of}
use Rattle.scr_nodes.specs.declared.{node.Node.Node, selections.Selection.Selection}
use Rattle.scr_nodes.specs.declared.node.Node.TheVariants as nodes
use Rattle.scr_nodes.specs.declared.node.OfSecurity.TheVariants as of_securities
use Rattle.scr_nodes.specs.declared.selections.Selection.TheVariants as selections
use Rattle.scr_figure_ids.specs.Families.{currency_family, fund_family, group_family, liability_family, security_family}
use Rattle.scr_figure_ids.specs.Numbers.{StandsAt}
use Rattle.scr_figure_ids.specs.Places.{places_where}

-- The balance sheet has all of these figures (own).
abbrev pub are_live : BalanceSheet → List Node → Type 0
are_live sheet nodes = AllByRecursion (λ node. is_live sheet node ≡ true) nodes

-- The ids of these figures were appended to the list, in order (own).
pub record AreAllPushed (sheet : BalanceSheet) (places : Numbered) (nodes : List Node) (before now : List ℕ) : Type 0 where
  pub more : List ℕ
  pub list : now ≡ before ++ more
  pub at : AllZip (λ number node. StandsAt sheet places node number) more nodes

-- The figure is the total of a fund or a security, which has no source by name (own).
abbrev pub is_total : Node → Bool
is_total (nodes.Fund name what) = true
is_total (nodes.Security name of_securities.Total) = true
is_total node = false

-- The ids of all sources of a figure were appended to the list, in order (own).
abbrev pub ArePushed : BalanceSheet → Numbered → Node → List ℕ → List ℕ → Type 0
ArePushed sheet places node before now = AreAllPushed sheet places (sources_of sheet node) before now

-- ---- sources read off a table

-- The ids of figure `family` of the rows at these indexes (own).
abbrev pub numbers_at : Numbered → Table → ℕ → List ℕ → List ℕ
numbers_at places table family rows = map (λ row. first places table row + family) rows

-- The table that a selection reads (own).
abbrev pub selected_table : Selection → Table
selected_table selections.None = tables.Whole
selected_table (selections.Funds which what) = tables.Fund
selected_table (selections.Securities which what) = tables.Security
selected_table (selections.Liabilities which what) = tables.Liability
selected_table (selections.Currencies which what) = tables.Currency
selected_table (selections.Groups which what) = tables.Group

-- The family of the figures that a selection reads (own).
abbrev pub selected_family : Selection → ℕ
selected_family selections.None = 0
selected_family (selections.Funds which what) = fund_family what
selected_family (selections.Securities which what) = security_family what
selected_family (selections.Liabilities which what) = liability_family what
selected_family (selections.Currencies which what) = currency_family what
selected_family (selections.Groups which what) = group_family what

-- The indexes of the rows that a selection reads (own).
abbrev pub selected_rows : BalanceSheet → Selection → List ℕ
selected_rows sheet selections.None = []
selected_rows sheet (selections.Funds which what) = places_where (is_holder which) 0 sheet.funds
selected_rows sheet (selections.Securities which what) = places_where (is_counted which) 0 sheet.securities
selected_rows sheet (selections.Liabilities which what) = places_where (is_obligation which) 0 sheet.liabilities
selected_rows sheet (selections.Currencies which what) = places_where (is_currency sheet which) 0 sheet.curves
selected_rows sheet (selections.Groups which what) = places_where (is_counterparty which) 0 sheet.groups

-- The ids of the figures that a selection reads, in row order (own).
abbrev pub selected_numbers : BalanceSheet → Numbered → Selection → List ℕ
selected_numbers sheet places selection =
    numbers_at places (selected_table selection) (selected_family selection) (selected_rows sheet selection)
