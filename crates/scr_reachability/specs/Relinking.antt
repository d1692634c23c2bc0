-- Edges to single numbers, cut and joined (own).
use Rattle.std.specs.Prelude.{◌≡◌, ◌++◌, ◌+◌, ◌≤◌, ◌<◌, ℕ, false, List, [], Contains, All, length, nat_eq}
use Rattle.std.specs.List.{AllByRecursion, IsDistinct}
use Rattle.scr_links.specs.Edges.{Linked}
use Rattle.scr_reachability.specs.declared.ranks.Due.{Due}
use Rattle.scr_reachability.specs.LinkedDues.{numbers_of, sources_count}
use Rattle.scr_reachability.specs.Linked.{edges_to, sources_in}

-- The due's number and its sources are below the bound of nodes (own).
pub record IsWithin (size : ℕ) (due : Due) : Type 0 where
  pub number : due.number < size
  pub sources : All (λ source. source < size) due.sources.items

-- No number is due twice, and all numbers are below the bound of nodes (own). There is room for the edges of all dues.
pub record AreLinkable (links : Linked) (dues : List Due) : Type 0 where
  pub once : IsDistinct nat_eq (numbers_of dues)
  pub within : AllByRecursion (IsWithin links.size) dues
  pub spare : sources_count dues ≤ links.spare

-- No edge leads to the number now; the edges to every other number stay (own).
pub record IsUnlinked (number : ℕ) (before now : Linked) : Type 0 where
  pub gone : edges_to now.edges number ≡ []
  pub others : (other : ℕ) → nat_eq number other ≡ false → edges_to now.edges other ≡ edges_to before.edges other
  pub spare : before.spare ≤ now.spare
  pub size : now.size ≡ before.size

-- No edge leads to these numbers now; the edges to every other number stay (own).
pub record AreUnlinked (numbers : List ℕ) (before now : Linked) : Type 0 where
  pub gone : (number : ℕ) → Contains numbers number → edges_to now.edges number ≡ []
  pub kept : (number : ℕ) → (Contains numbers number → ⊥) → edges_to now.edges number ≡ edges_to before.edges number
  pub spare : before.spare ≤ now.spare
  pub size : now.size ≡ before.size

-- Edges from these sources were appended to the edges to the number; the edges to every other number stay (own).
pub record IsJoined (number : ℕ) (sources : List ℕ) (before now : Linked) : Type 0 where
  pub made : sources_in now.edges number ≡ sources_in before.edges number ++ sources
  pub others : (other : ℕ) → nat_eq number other ≡ false → edges_to now.edges other ≡ edges_to before.edges other
  pub spare : now.spare + length sources ≡ before.spare
  pub size : now.size ≡ before.size

-- Each due has exactly its sources linked to it, where there was no edge; the edges to every other number stay (own).
pub record AreJoined (dues : List Due) (before now : Linked) : Type 0 where
  pub made : AllByRecursion (λ (due : Due). sources_in now.edges due.number ≡ due.sources.items) dues
  pub kept : (number : ℕ) → (Contains (numbers_of dues) number → ⊥) → edges_to now.edges number ≡ edges_to before.edges number
  pub spare : now.spare + sources_count dues ≡ before.spare
  pub size : now.size ≡ before.size
