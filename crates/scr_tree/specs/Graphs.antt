-- The figures of a balance sheet as a graph (this project's own).
use Rattle.std.specs.Prelude.{◌≡◌}
use Rattle.scr_ids.specs.declared.table.Table.TheVariants as tables
use Rattle.scr_sheet.specs.declared.sheet.BalanceSheet.{BalanceSheet}
use Rattle.scr_nodes.specs.declared.node.Node.{Node}
use Rattle.scr_nodes.specs.Live.{is_live}
use Rattle.scr_nodes.specs.Sources.{sources_of}
use Rattle.scr_figure_ids.specs.Families.{table_of}
use Rattle.scr_reachability.specs.Graph.{Graph}

-- which figures the balance sheet has, and what each is reckoned from
abbrev pub graph_of : BalanceSheet → Graph Node
graph_of sheet = record { live = is_live sheet; sources = sources_of sheet }

-- the figure is the total of a fund
abbrev pub IsFund : Node → Type 0
IsFund node = table_of node ≡ tables.Fund
