-- Reachability along edges from sources to dependants (own).
use Rattle.std.specs.Prelude.{ℕ, Contains, List, nat_eq}
use Rattle.std.specs.List.{IsDistinct}
use Rattle.scr_links.specs.Edges.{Edge}

-- A start is reached, and so is the dependant of every edge whose source is reached (own).
pub data IsReached (edges : List Edge) (starts : List ℕ) : ℕ → Type 0 where
  begins : (n : ℕ) → Contains starts n → IsReached edges starts n
  follows : (edge : Edge) → Contains edges edge → IsReached edges starts edge.source
      → IsReached edges starts edge.dependant

-- The list has exactly the reached numbers, each once (own).
pub record AreReached (edges : List Edge) (starts list : List ℕ) : Type 0 where
  pub once : IsDistinct nat_eq list
  pub each : (n : ℕ) → Contains list n → IsReached edges starts n
  pub all : (n : ℕ) → IsReached edges starts n → Contains list n
