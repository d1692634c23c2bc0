-- The edges of all funds, where one of them has other components than those of its row (this project's own).
use Rattle.std.specs.Prelude.{ℕ, Bool, List}
use Rattle.scr_funds.specs.Components.{Components, components_with}
use Rattle.scr_funds.specs.Ranks.{rank_of}
use Rattle.scr_funds.specs.Search.{goes_on, rows_of}
use Rattle.scr_funds.specs.declared.edges.Edges.{Edges}

-- the components of all funds as the rows have them
abbrev pub rows_in : Edges → Components
rows_in edges = rows_of edges.rows.now

-- the components of each fund
abbrev pub edges_in : Edges → ℕ → List ℕ
edges_in edges = components_with edges.from edges.members.now (rows_in edges)

-- the rank of each fund
abbrev pub ranks_in : Edges → ℕ → ℕ
ranks_in edges = rank_of edges.ranks.now

-- a search for chains to a fund has to go on from here
abbrev pub leads_on : Edges → ℕ → ℕ → Bool
leads_on edges = goes_on (edges_in edges) (ranks_in edges) edges.are_ranked
