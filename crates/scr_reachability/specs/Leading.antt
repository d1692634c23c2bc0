-- The figures that an edit reaches: those from which a chain of sources leads to a touched one (own).
use Rattle.std.specs.Prelude.{◌≡◌, ◌↔◌, ◌||◌, ℕ, true, List, Contains, Some, length, slice_get}
use Rattle.scr_reachability.specs.Graph.{Graph}

-- A node leads to a touched one if it is touched itself or one of its sources leads to one (own).
pub data Leads {Node : Type 0} (graph : Graph Node) (IsTouched : Node → Type 0) : Node → Type 0 where
  touched : (node : Node) → IsTouched node → Leads graph IsTouched node
  above : (node source : Node) → Contains (graph.sources node) source → Leads graph IsTouched source
      → Leads graph IsTouched node

-- The graph has the node, and it is touched or leads to a touched one (own).
pub record IsInReach {Node : Type 0} (graph : Graph Node) (IsTouched : Node → Type 0) (node : Node) : Type 0 where
  pub live : graph.live node ≡ true
  pub leads : Leads graph IsTouched node

-- Exactly `count` nodes are of this kind: some list of this length has just these, each once (own).
pub record IsCountOf {Node : Type 0} (P : Node → Type 0) (count : ℕ) : Type 0 where
  pub list : List Node
  pub once : (j k : ℕ) (node : Node) → slice_get list j ≡ Some node → slice_get list k ≡ Some node → j ≡ k
  pub each : (node : Node) → Contains list node ↔ P node
  pub long : length list ≡ count

-- The node has one of the start numbers (own).
abbrev pub IsAtStart : {Node : Type 0} → (Node → ℕ → Type 0) → List ℕ → Node → Type 0
IsAtStart At starts node = (number : ℕ) × At node number × Contains starts number

-- Every node that is at no start is in both graphs or in neither, with equal sources (own).
abbrev pub AreOthersSame : {Node : Type 0} → Graph Node → Graph Node → (Node → ℕ → Type 0) → List ℕ → Type 0
AreOthersSame {Node} before after At starts =
    (node : Node) → (IsAtStart At starts node → ⊥) → (before.live node || after.live node) ≡ true
    → (before.live node ≡ after.live node) × (before.sources node ≡ after.sources node)
