-- A set of marked numbers with a list of them (own).
use Rattle.std.specs.Prelude.{◌≡◌, ℕ, ◌<◌, List, Some, length, slice_get, slice_index_or}
use Rattle.scr_reachability.specs.declared.marks.Marked.TheInside.{Inside}

-- The bound of numbers that can be marked, and the marked ones in the order of marking (own).
pub record MarkedNumbers : Type 0 where
  pub size : ℕ
  pub list : List ℕ

-- What contracts see of the stored set (own).
abbrev pub marked_of : Inside → MarkedNumbers
marked_of marked = record { size = length marked.places.items; list = marked.list.items }

-- For each number of the list, `places` holds its index there, so the list has none twice (own).
pub record AreMarks (list places : List ℕ) : Type 0 where
  pub within : (place number : ℕ) → slice_get list place ≡ Some number → number < length places
  pub kept : (place number : ℕ) → slice_get list place ≡ Some number → slice_index_or places number 0 ≡ place

-- The invariant of the stored set: each marked number's index in the list is stored (own).
abbrev pub AreMarked : Inside → Type 0
AreMarked marked = AreMarks marked.list.items marked.places.items
