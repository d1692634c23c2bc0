-- The start nodes of an edit, and the edges to them after it (own).
use Rattle.std.specs.Prelude.{◌≡◌, ℕ, ◌≤◌, Bool, true, false, List, Contains, Some, length, map, nat_eq, slice_get, sum_by}
use Rattle.std.specs.List.{AllByRecursion, IsDistinct}
use Rattle.scr_links.specs.Edges.{Edge}
use Rattle.scr_reachability.specs.Reached.{IsReached}
use Rattle.scr_reachability.specs.declared.ranks.Due.{Due}
use Rattle.scr_reachability.specs.Graph.{Graph}
use Rattle.scr_reachability.specs.Leading.{AreOthersSame}
use Rattle.scr_reachability.specs.Linked.{AreAt, AreLinked, AreNumbers, edges_to, linked_to, sources_in}

-- The numbers of the dues (own).
abbrev pub numbers_of : List Due → List ℕ
numbers_of dues = map (λ (due : Due). due.number) dues

-- The number of sources of all dues together (own).
abbrev pub sources_count : List Due → ℕ
sources_count dues = sum_by (λ (due : Due). length due.sources.items) dues

-- The starts are exactly the numbers of these figures (own).
pub record AreStarts {Node : Type 0} (At : Node → ℕ → Type 0) (nodes : List Node) (starts : List ℕ) : Type 0 where
  pub each : (node : Node) → Contains nodes node → (number : ℕ) → At node number → Contains starts number
  pub only : (number : ℕ) → Contains starts number → (node : Node) × Contains nodes node × At node number

-- The due has the sources of the figure with its number; none if the graph does not have the figure (own).
abbrev pub IsDueAt : {Node : Type 0} → Graph Node → (Node → ℕ → Type 0) → Due → Type 0
IsDueAt {Node} graph At due = (node : Node) → At node due.number → AreAt At due.sources.items (linked_to graph node)

-- The due is a figure of the graph, with the numbers of its sources in order (own).
pub record IsDue {Node : Type 0} (graph : Graph Node) (At : Node → ℕ → Type 0) (due : Due) : Type 0 where
  pub node : Node
  pub at : At node due.number
  pub live : graph.live node ≡ true
  pub sources : AreAt At due.sources.items (graph.sources node)

-- Each due is a figure of the graph with its sources, and none is due twice (own).
pub record AreDues {Node : Type 0} (graph : Graph Node) (At : Node → ℕ → Type 0) (dues : List Due) : Type 0 where
  pub once : IsDistinct nat_eq (numbers_of dues)
  pub each : AllByRecursion (IsDue graph At) dues

-- For each start, in order, the sources that are to be linked to it (own).
pub record AreDuesFor {Node : Type 0} (graph : Graph Node) (At : Node → ℕ → Type 0) (starts : List ℕ) (dues : List Due) : Type 0 where
  pub numbers : numbers_of dues ≡ starts
  pub each : AllByRecursion (IsDueAt graph At) dues

-- The edges are linked as an earlier graph asks (own). Its nodes have their present numbers, and only nodes at the starts may
-- differ from it.
pub record AreEdited {Node : Type 0} (after : Graph Node) (At : Node → ℕ → Type 0) (size : ℕ) (edges : List Edge) (starts : List ℕ)
    : Type 0 where
  pub before : Graph Node
  pub numbers : AreNumbers after At size
  pub numbers_before : AreNumbers before At size
  pub at : (number : ℕ) → Contains starts number → (node : Node) × At node number
  pub linked : AreLinked before At edges
  pub same : AreOthersSame before after At starts

-- The graph has a figure with this number (own).
abbrev pub IsLiveAt : {Node : Type 0} → Graph Node → (Node → ℕ → Type 0) → ℕ → Type 0
IsLiveAt {Node} graph At number = (node : Node) × At node number × (graph.live node ≡ true)

-- A flag says of each of the first numbers whether the graph has a figure there; it has one at every further number (own).
pub record AreFlagged {Node : Type 0} (graph : Graph Node) (At : Node → ℕ → Type 0) (numbers : List ℕ) (flags : List Bool) : Type 0 where
  pub live : (k number : ℕ) → slice_get numbers k ≡ Some number → slice_get flags k ≡ Some true → IsLiveAt graph At number
  pub dead : (k number : ℕ) → slice_get numbers k ≡ Some number → slice_get flags k ≡ Some false
      → IsLiveAt graph At number → ⊥
  pub rest : (k number : ℕ) → length flags ≤ k → slice_get numbers k ≡ Some number → IsLiveAt graph At number

-- The list has exactly the reached numbers at which the graph has figures, each once (own).
pub record AreReachedLive {Node : Type 0} (graph : Graph Node) (At : Node → ℕ → Type 0) (edges : List Edge) (starts numbers : List ℕ)
    : Type 0 where
  pub once : IsDistinct nat_eq numbers
  pub each : (number : ℕ) → Contains numbers number → IsReached edges starts number × IsLiveAt graph At number
  pub all : (number : ℕ) → IsReached edges starts number → IsLiveAt graph At number → Contains numbers number

-- Each due has exactly its sources linked to it; the edges to every other number stay (own).
pub record AreRelinked (dues : List Due) (old new : List Edge) : Type 0 where
  pub made : AllByRecursion (λ (due : Due). sources_in new due.number ≡ due.sources.items) dues
  pub kept : (number : ℕ) → (Contains (numbers_of dues) number → ⊥) → edges_to new number ≡ edges_to old number
