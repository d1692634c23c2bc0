-- The order in which an edit reckons figures anew, and the old figures of those that it has (this project's own).
use Rattle.std.specs.Prelude.{◌≡◌, ℕ, zero, suc, ◌<◌, ◌≤◌, List, [], ◌∷◌, Contains, Some, length, nat_eq, slice_get, slice_index_or, slice_set}
use Rattle.std.specs.List.{AllByRecursion, IsDistinct}
use Rattle.scr_reachability.specs.LinkedDues.{IsLiveAt}
use Rattle.scr_reachability.specs.Graph.{Graph}
use Rattle.scr_partial_sums.specs.declared.figure.Figure.{Figure}
use Rattle.scr_tree.specs.declared.journal.Former.{Former}

-- the numbers are cut into slices, each of which begins where the one before ends
abbrev pub start_of : List ℕ → ℕ → ℕ
start_of ends zero = 0
start_of ends (suc j) = slice_index_or ends j 0

-- Just the numbers of these that live, each once, in slices: whatever a figure of a slice is reckoned from stands before
-- the slice, where it is one of them.
pub record IsOrder {Node : Type 0} (graph : Graph Node) (At : Node → ℕ → Type 0) (reached numbers ends : List ℕ) : Type 0 where
  pub once : IsDistinct nat_eq numbers
  pub each : (number : ℕ) → Contains numbers number → Contains reached number × IsLiveAt graph At number
  pub all : (number : ℕ) → Contains reached number → IsLiveAt graph At number → Contains numbers number
  pub rising : (j : ℕ) → j < length ends → start_of ends j ≤ start_of ends (suc j)
  pub whole : start_of ends (length ends) ≡ length numbers
  pub after : (j k i number source_number : ℕ) (node source : Node) → j < length ends
      → start_of ends j ≤ k → k < start_of ends (suc j) → slice_get numbers k ≡ Some number → At node number
      → Contains (graph.sources node) source → At source source_number → slice_get numbers i ≡ Some source_number
      → i < start_of ends j

-- the numbers of former figures are below so many
abbrev pub AreWithin : ℕ → List Former → Type 0
AreWithin many former = AllByRecursion (λ (was : Former). was.number < many) former

-- the figures, once the former ones are written back at their numbers, the last one first
abbrev pub undone : List Former → List Figure → List Figure
undone [] figures = figures
undone (was ∷ later) figures = slice_set (undone later figures) was.number was.figure

-- The former figures of what was written since are kept.
pub record IsJournaled (former : List Former) (before now : List Figure) : Type 0 where
  pub within : AreWithin (length now) former
  pub back : undone former now ≡ before

-- wherever the former figures were kept they are kept still
abbrev pub IsJournalKept : List Former → List Figure → List Former → List Figure → Type 0
IsJournalKept former old former_next now = (before : List Figure) → IsJournaled former before old → IsJournaled former_next before now
