-- Sound states of a round, its runs, and a pass at its end.
use Rattle.std.specs.Prelude.{◌≡◌, ℕ, zero, suc, ◌+◌, ◌<◌, ◌≤◌, true, List, [], ◌∷◌, Some, length, take, slice_get}
use Rattle.std.specs.List.{AllByRecursion}
use Rattle.scr_board.specs.declared.lists.Progress.{Progress}
use Rattle.scr_board.specs.declared.lists.Round.{Round}
use Rattle.scr_board.specs.Counts.{times, total}
use Rattle.scr_board.specs.Rounds.{dependants_of, sources_of, word_of}
use Rattle.scr_board.specs.States.{State, arrivals, deliveries, fresh, mark_of, marked_share, named, share_of, written}
use Rattle.scr_board.specs.Events.{IsStep}

-- 1 for a node with sources of which none is left
abbrev pub freed : List ℕ → ℕ → ℕ
freed [] left = 0
freed (source ∷ sources) zero = 1
freed (source ∷ sources) (suc left) = 0

-- each delivery's node was put by the pass that made it
abbrev pub IsOwn : Progress → Type 0
IsOwn p = (n k : ℕ) → 0 < deliveries n k p → 0 < times n p.put

-- a pass without a share has empty lists
abbrev pub IsKept : Progress → Type 0
IsKept p = p.share ≡ 0 → (p.hand ≡ []) × (p.put ≡ []) × (p.delivered ≡ [])

-- The hands and the nodes put name just the starts below the ticket and the nodes with sources of which none is left,
-- each once. Of each node's sources those are left that were not delivered, and no delivery is made twice. The words
-- stored are the listed ones. The ticket of a marked pass is at its end, and exceeds it by no more than the shares of the
-- marked passes. The shares come to the number of workers.
pub record IsSound (round : Round) (workers : ℕ) (s : State) : Type 0 where
  pub names : (n : ℕ) → total (named n) s.passes ≡ times n (take s.ticket round.starts) + freed (sources_of round n) (s.left n)
  pub counts : (n : ℕ) → s.left n + total (arrivals round n) s.passes ≡ length (sources_of round n)
  pub single : (n k : ℕ) → total (deliveries n k) s.passes ≤ 1
  pub own : AllByRecursion IsOwn s.passes
  pub worked : (n j : ℕ) → j < 4 → 0 < total (written n j) s.passes → s.word n j ≡ word_of round n j
  pub marks : 0 < total mark_of s.passes → length round.starts ≤ s.ticket
  pub ticket : s.ticket ≤ length round.starts + total marked_share s.passes
  pub kept : AllByRecursion IsKept s.passes
  pub shares : total share_of s.passes ≡ workers

-- one pass has the whole share and has done nothing, and all sources are left
pub record IsOpening (round : Round) (workers : ℕ) (s : State) : Type 0 where
  pub ticket : s.ticket ≡ 0
  pub left : (n : ℕ) → s.left n ≡ length (sources_of round n)
  pub passes : s.passes ≡ fresh workers ∷ []

-- what a list of events leads to from an opening state
pub data IsRun (round : Round) (workers : ℕ) : State → Type 0 where
  opens : (s : State) → IsOpening round workers s → IsRun round workers s
  goes_on : (s t : State) → IsRun round workers s → IsStep round s t → IsRun round workers t

-- It is marked, its hand is empty, and every delivery of the nodes that it put was made.
pub record IsAtEnd (round : Round) (p : Progress) : Type 0 where
  pub marked : p.marked ≡ true
  pub empty : p.hand ≡ []
  pub all : (n k d : ℕ) → 0 < times n p.put → slice_get (dependants_of round n) k ≡ Some d → 0 < deliveries n k p
