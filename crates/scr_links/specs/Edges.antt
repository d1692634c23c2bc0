-- Edges from sources to dependants, in the order in which they were joined (own). A dependant is computed from its sources.
use Rattle.std.specs.Prelude.{ℕ, ◌==◌, Bool, not, List, map, filter}
use Rattle.std.specs.List.{list_any}

-- An edge between two nodes, and its id (own).
pub record Edge : Type 0 where
  pub source : ℕ
  pub dependant : ℕ
  pub id : ℕ

-- The edges, the number of further edges that can join without memory, and the bound of all nodes (own).
pub record Linked : Type 0 where
  pub edges : List Edge
  pub spare : ℕ
  pub size : ℕ

-- The edge from `source` to `dependant` with this id (own).
abbrev pub edge : ℕ → ℕ → ℕ → Edge
edge source dependant id = record { source = source; dependant = dependant; id = id }

-- An arena with these edges, spare slots and bound of nodes (own).
abbrev pub linked : List Edge → ℕ → ℕ → Linked
linked edges spare size = record { edges = edges; spare = spare; size = size }

-- The ids of all edges, in order (own).
abbrev pub ids_of : Linked → List ℕ
ids_of links = map (λ e. e.id) links.edges

-- An edge has this id (own).
abbrev pub is_edge : Linked → ℕ → Bool
is_edge links id = list_any (λ e. e.id == id) links.edges

-- The edges but the one with this id, in order (own).
abbrev pub edges_without : Linked → ℕ → List Edge
edges_without links id = filter (λ e. not (e.id == id)) links.edges

-- The sources of a node with the ids of their edges, in the order of joining (own).
abbrev pub sources_of : Linked → ℕ → List (ℕ × ℕ)
sources_of links number = map (λ e. (e.source, e.id)) (filter (λ e. e.dependant == number) links.edges)

-- The dependants of a node with the ids of their edges, in the order of joining (own).
abbrev pub dependants_of : Linked → ℕ → List (ℕ × ℕ)
dependants_of links number = map (λ e. (e.dependant, e.id)) (filter (λ e. e.source == number) links.edges)
