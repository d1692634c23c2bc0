-- Components that are kept by their numbers (this project's own), so that they can be put back without memory.
use Rattle.std.specs.Prelude.{◌≡◌, ℕ, ℤ, ◌&&◌, Bool, true, false, List, [], ◌∷◌, nat_lt, slice_index_or}
use Rattle.scr_funds.specs.Components.{components_of, size_of}
use Rattle.scr_tables.specs.Names.{same_name}
use Rattle.scr_fund_graph.specs.Graph.{Graph, number_in}
use Rattle.scr_fund_graph.specs.declared.kept.KeptComponents.{KeptComponents}

-- the number of a fund, and those of its components
pub record AreNumbersOf (kept : KeptComponents) (fund : List ℕ) (graph : Graph) : Type 0 where
  pub number : kept.number ≡ number_in graph.names fund
  pub components : kept.components.items ≡ components_of graph.components (number_in graph.names fund)

-- this is the number of the name, and below that one
abbrev pub is_number : ℕ → ℕ → List ℕ → Graph → Bool
is_number below number name graph = nat_lt number below && same_name (slice_index_or graph.names number []) name

-- these are the numbers of the components, in their order, and below that one
abbrev pub are_numbers : ℕ → List ℕ → List (List ℕ × ℤ) → Graph → Bool
are_numbers below [] [] graph = true
are_numbers below (number ∷ numbers) (component ∷ components) graph =
    is_number below number component.0 graph && are_numbers below numbers components graph
are_numbers below numbers components graph = false

-- what was kept is told by the numbers that these names have, each of which may be that of a fund or of a component
abbrev pub stands_for : KeptComponents → List ℕ → List (List ℕ × ℤ) → Graph → Bool
stands_for kept fund components graph =
    is_number (size_of graph.components) kept.number fund graph && are_numbers (size_of graph.components) kept.components.items components graph
