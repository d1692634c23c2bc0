-- A graph of figures (own). The kind of node is left open: figures of a balance sheet, or these with partial sums between them.
use Rattle.std.specs.Prelude.{◌≡◌, ℕ, zero, suc, Bool, true, List}
use Rattle.std.specs.List.{AllByRecursion}

-- The nodes that the graph has, and the sources from which each is computed (own).
pub record Graph (Node : Type 0) : Type 0 where
  pub live : Node → Bool
  pub sources : Node → List Node

-- The graph has the node (own).
abbrev pub IsLive : {Node : Type 0} → Graph Node → Node → Type 0
IsLive graph node = graph.live node ≡ true

-- The sources of every node of the graph are in the graph (own).
abbrev pub IsClosed : {Node : Type 0} → Graph Node → Type 0
IsClosed {Node} graph = (node : Node) → IsLive graph node → AllByRecursion (IsLive graph) (graph.sources node)

-- Every chain of sources from the node takes fewer than `levels` steps (own).
abbrev pub EndsWithin : {Node : Type 0} → Graph Node → ℕ → Node → Type 0
EndsWithin graph zero node = ⊥
EndsWithin graph (suc levels) node = AllByRecursion (EndsWithin graph levels) (graph.sources node)
