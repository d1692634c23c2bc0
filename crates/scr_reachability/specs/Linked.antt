-- Nodes by number, and edges from the numbers of their sources (own). The relation `At` gives each node its number.
use Rattle.std.specs.Prelude.{◌≡◌, ℕ, ◌<◌, true, List, [], Contains, filter, map, nat_eq, if◌then◌else◌}
use Rattle.std.specs.List.{AllZip}
use Rattle.scr_links.specs.Edges.{Edge}
use Rattle.scr_reachability.specs.Graph.{Graph}

-- Each node of the graph has exactly one number, which no other node has and which is below `size` (own).
pub record AreNumbers {Node : Type 0} (graph : Graph Node) (At : Node → ℕ → Type 0) (size : ℕ) : Type 0 where
  pub exact : (number : ℕ) (a b : Node) → At a number → At b number → a ≡ b
  pub only : (node : Node) (n m : ℕ) → At node n → At node m → n ≡ m
  pub live : (node : Node) → graph.live node ≡ true → (number : ℕ) × At node number
  pub within : (node : Node) (number : ℕ) → At node number → number < size

-- The numbers of these nodes, in order (own).
abbrev pub AreAt : {Node : Type 0} → (Node → ℕ → Type 0) → List ℕ → List Node → Type 0
AreAt At numbers nodes = AllZip (λ number node. At node number) numbers nodes

-- The edges to a number, in order (own).
abbrev pub edges_to : List Edge → ℕ → List Edge
edges_to edges number = filter (λ (e : Edge). nat_eq e.dependant number) edges

-- The numbers from which edges lead to a number, in order (own).
abbrev pub sources_in : List Edge → ℕ → List ℕ
sources_in edges number = map (λ (e : Edge). e.source) (edges_to edges number)

-- The nodes that are to be linked to a node: its sources, or none if the graph does not have it (own).
abbrev pub linked_to : {Node : Type 0} → Graph Node → Node → List Node
linked_to graph node = if graph.live node then graph.sources node else []

-- Each node of the graph is linked to its sources in order (own). No edge leads to any other number.
pub record AreLinked {Node : Type 0} (graph : Graph Node) (At : Node → ℕ → Type 0) (edges : List Edge) : Type 0 where
  pub linked : (node : Node) (number : ℕ) → At node number → AreAt At (sources_in edges number) (linked_to graph node)
  pub placed : (edge : Edge) → Contains edges edge → (node : Node) × At node edge.dependant

-- Each node of this kind in the graph is linked to its sources in order (own). No edge leads to any other number.
pub record AreLinkedOf {Node : Type 0} (graph : Graph Node) (At : Node → ℕ → Type 0) (edges : List Edge) (P : Node → Type 0) : Type 0 where
  pub done : (node : Node) (number : ℕ) → At node number → graph.live node ≡ true → P node
      → AreAt At (sources_in edges number) (graph.sources node)
  pub only : (edge : Edge) → Contains edges edge
      → (node : Node) × At node edge.dependant × (graph.live node ≡ true) × P node
