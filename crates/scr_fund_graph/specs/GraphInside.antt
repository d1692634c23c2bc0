-- How the graph of the funds is kept (this project's own): the names, and the order of their numbers.
use Rattle.std.specs.Prelude.{◌≤◌, ◌<◌, ◌^◌, length}
use Rattle.std.specs.List.{IsDistinct}
use Rattle.scr_funds.specs.Components.{IsOrder, size_of}
use Rattle.scr_tables.specs.Names.{same_name}
use Rattle.scr_fund_graph.specs.Graph.{Graph}
use Rattle.scr_fund_graph.specs.declared.graph.FundGraph.TheInside.{Inside}

abbrev pub graph_of : Inside → Graph
graph_of graph = record { names = graph.names.keys; components = graph.order }

-- No two names are one, each has a number of 32 bits, no number without a name is that of a fund or of a component, and
-- nothing holds itself.
pub record IsNumbered (graph : Inside) : Type 0 where
  pub distinct : IsDistinct same_name graph.names.keys
  pub few : length graph.names.keys < 2 ^ 32
  pub named : size_of graph.order ≤ length graph.names.keys
  pub order : IsOrder graph.order
