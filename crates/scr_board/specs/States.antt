-- The state of a round under way (own).
use Rattle.std.specs.Prelude.{ℕ, ◌+◌, Bool, false, true, List, [], ◌∷◌, Option, Some, None, if◌then◌else◌, ◌&&◌, nat_eq, nat_lt, slice_get}
use Rattle.scr_board.specs.declared.lists.Delivery.{Delivery}
use Rattle.scr_board.specs.declared.lists.Held.{Held}
use Rattle.scr_board.specs.declared.lists.Progress.{Progress}
use Rattle.scr_board.specs.declared.lists.Round.{Round}
use Rattle.scr_board.specs.Counts.{one_if, times, total}
use Rattle.scr_board.specs.Rounds.{dependants_of}

-- State of a round (own): the ticket, the number of sources of each node not yet delivered, words 0 to 3 of each node's figure,
-- and the progress of each pass.
pub record State : Type 0 where
  pub ticket : ℕ
  pub left : ℕ → ℕ
  pub word : ℕ → ℕ → ℕ
  pub passes : List Progress

-- A node in the hand of a pass, the first `j` words of its figure stored (own).
abbrev pub held : ℕ → ℕ → Held
held n j = record { node = n; stored = j }

-- Delivery of node `n` to its dependant at position `k`, from 0 (own).
abbrev pub delivery : ℕ → ℕ → Delivery
delivery n k = record { node = n; place = k }

-- A pass with a share of the ticket that has done nothing yet (own).
abbrev pub fresh : ℕ → Progress
fresh share = record { hand = []; put = []; delivered = []; share = share; marked = false }

-- A pass whose lists and share went to another pass: empty and marked (own).
abbrev pub spent : Progress
spent = record { hand = []; put = []; delivered = []; share = 0; marked = true }

-- ---- what a pass has of a node

-- The number of times node `n` stands in the hand of a pass (own).
abbrev pub holds : ℕ → List Held → ℕ
holds n hand = total (λ h. one_if (nat_eq n h.node)) hand

-- The number of times node `n` stands in the hand of a pass or among the nodes that it put (own).
abbrev pub named : ℕ → Progress → ℕ
named n p = holds n p.hand + times n p.put

-- The number of times node `n` stands in the hand with its word `j` stored, from 0 (own).
abbrev pub stores : ℕ → ℕ → List Held → ℕ
stores n j hand = total (λ h. one_if (nat_eq n h.node && nat_lt j h.stored)) hand

-- The number of times node `n` stands in the hand with its word `j` stored, or among the nodes put (own).
abbrev pub written : ℕ → ℕ → Progress → ℕ
written n j p = stores n j p.hand + times n p.put

-- The number of words stored of node `n`, at its first entry in the hand; 0 if it is not there (own).
abbrev pub stored_of : ℕ → List Held → ℕ
stored_of n [] = 0
stored_of n (h ∷ hand) = if nat_eq n h.node then h.stored else stored_of n hand

-- ---- deliveries

-- The node that a delivery reaches: the dependant at its position; `None` past the last (own).
abbrev pub target : Round → Delivery → Option ℕ
target round d = slice_get (dependants_of round d.node) d.place

-- Whether an optional node is node `n`; false for `None` (own).
abbrev pub is_some_of : ℕ → Option ℕ → Bool
is_some_of n None = false
is_some_of n (Some m) = nat_eq n m

-- The number of deliveries that reach node `n` (own).
abbrev pub arrived : Round → ℕ → List Delivery → ℕ
arrived round n ds = total (λ d. one_if (is_some_of n (target round d))) ds

-- The number of deliveries of node `n` to its dependant at position `k`, from 0 (own).
abbrev pub sent : ℕ → ℕ → List Delivery → ℕ
sent n k ds = total (λ d. one_if (nat_eq n d.node && nat_eq k d.place)) ds

-- The number of deliveries of one pass that reach node `n` (own).
abbrev pub arrivals : Round → ℕ → Progress → ℕ
arrivals round n p = arrived round n p.delivered

-- The number of deliveries by one pass of node `n` to its dependant at position `k`, from 0 (own).
abbrev pub deliveries : ℕ → ℕ → Progress → ℕ
deliveries n k p = sent n k p.delivered

-- ---- shares

-- The share of a pass (own).
abbrev pub share_of : Progress → ℕ
share_of p = p.share

-- 1 for a pass that is marked, else 0 (own).
abbrev pub mark_of : Progress → ℕ
mark_of p = one_if p.marked

-- The share of a pass if it is marked, else 0 (own).
abbrev pub marked_share : Progress → ℕ
marked_share p = if p.marked then p.share else 0
