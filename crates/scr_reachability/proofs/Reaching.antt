-- What is reached is the least that has the starts and the dependant of each edge whose source it has.
use Rattle.std.proofs.Common.{ℕ, Contains, List}
use Rattle.scr_links.specs.Edges.{Edge}
use Rattle.scr_reachability.specs.Reached.{AreReached, IsReached}
use Rattle.scr_reachability.specs.Reached.IsReached.{begins, follows}

module _ (edges : List Edge) (starts list : List ℕ) (h : AreReached edges starts list) where
  pub has_starts : (n : ℕ) → Contains starts n → Contains list n
  has_starts n c = h.all n (begins n c)

  pub is_closed : (edge : Edge) → Contains edges edge → Contains list edge.source → Contains list edge.dependant
  is_closed edge c m = h.all edge.dependant (follows edge c (h.each edge.source m))

-- whatever holds of the starts, and of the dependant of each edge of whose source it holds, holds of what is reached
pub holds_of_reached : (edges : List Edge) (starts : List ℕ) (P : ℕ → Type 0)
    → ((n : ℕ) → Contains starts n → P n)
    → ((edge : Edge) → Contains edges edge → P edge.source → P edge.dependant) → (n : ℕ) → IsReached edges starts n
    → P n
holds_of_reached edges starts P begun closed _ (begins n c) = begun n c
holds_of_reached edges starts P begun closed _ (follows edge c reached) =
    closed edge c (holds_of_reached edges starts P begun closed edge.source reached)

pub within : (edges : List Edge) (starts list : List ℕ) → AreReached edges starts list → (P : ℕ → Type 0)
    → ((n : ℕ) → Contains starts n → P n)
    → ((edge : Edge) → Contains edges edge → P edge.source → P edge.dependant) → (n : ℕ) → Contains list n → P n
within edges starts list h P begun closed n c = holds_of_reached edges starts P begun closed n (h.each n c)
