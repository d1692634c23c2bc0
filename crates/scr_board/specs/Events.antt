-- The events of a round. Each is one step on one word of the board.
use Rattle.std.specs.Prelude.{◌≡◌, ◌≢◌, ℕ, suc, ◌+◌, ◌-◌, ◌<◌, ◌⊎◌, false, true, List, [], ◌∷◌, ◌++◌, Option, Some, None, if◌then◌else◌, nat_eq, nat_lt, set, slice_get}
use mathlib.Core.Option.{some}
use lib.ListN.{get_elem?}
use Rattle.scr_board.specs.declared.lists.Held.{Held}
use Rattle.scr_board.specs.declared.lists.Progress.{Progress}
use Rattle.scr_board.specs.declared.lists.Round.{Round}
use Rattle.scr_board.specs.Counts.{times}
use Rattle.scr_board.specs.Rounds.{dependants_of, sources_of, word_of}
use Rattle.scr_board.specs.States.{State, delivery, deliveries, fresh, held, holds, named, spent, stored_of}

-- ---- what an event makes of a pass

-- the node enters the hand with no word stored
abbrev pub enters : ℕ → Progress → Progress
enters n p = record p { hand = held n 0 ∷ p.hand }

-- the start at the ticket enters the hand; past the last one the pass is marked
abbrev pub draws : Option ℕ → Progress → Progress
draws (Some n) p = enters n p
draws None p = record p { marked = true }

-- one word more of the node in the hand is stored; with the fourth it leaves the hand
abbrev pub advanced : ℕ → List Held → List Held
advanced n [] = []
advanced n (h ∷ hand) =
    if nat_eq n h.node then (if nat_lt h.stored 3 then held h.node (suc h.stored) ∷ hand else hand)
    else h ∷ advanced n hand

-- and is put
abbrev pub writes : ℕ → Progress → Progress
writes n p = record p {
  hand = advanced n p.hand;
  put = if nat_lt (stored_of n p.hand) 3 then p.put else n ∷ p.put;
}

-- the delivery to the k-th dependant of n is made
abbrev pub gives : ℕ → ℕ → Progress → Progress
gives n k p = record p { delivered = delivery n k ∷ p.delivered }

-- and that dependant, d, enters the hand where it was the last of its sources
abbrev pub delivers : ℕ → ℕ → ℕ → ℕ → Progress → Progress
delivers n k d left p = if nat_eq left 1 then enters d (gives n k p) else gives n k p

-- a part of one is cut off the share
abbrev pub splits : Progress → Progress
splits p = record p { share = p.share - 1 }

-- the lists and the share of another are taken over
abbrev pub joins : Progress → Progress → Progress
joins p o = record {
  hand = p.hand ++ o.hand;
  put = p.put ++ o.put;
  delivered = p.delivered ++ o.delivered;
  share = p.share + o.share;
  marked = true;
}

-- ---- what it makes of the state

-- A function with value `x` at `n`, elsewhere as before (own).
abbrev pub replaced : (ℕ → ℕ) → ℕ → ℕ → ℕ → ℕ
replaced f n x m = if nat_eq m n then x else f m

-- State after a pass draws the ticket: the ticket grows by one, and the pass has the start at it, if there is one (own).
abbrev pub drawn : Round → State → ℕ → Progress → State
drawn round s id p = record s {
  ticket = s.ticket + 1;
  passes = set s.passes id (draws (slice_get round.starts s.ticket) p);
}

-- State after a pass stores the next word of node `n` in its hand (own).
abbrev pub stored : Round → State → ℕ → Progress → ℕ → State
stored round s id p n = record s {
  word = λ m i. if nat_eq m n then replaced (s.word n) (stored_of n p.hand) (word_of round n (stored_of n p.hand)) i
      else s.word m i;
  passes = set s.passes id (writes n p);
}

-- State after a pass delivers node `n` to `d`, its dependant at position `k`: `d` waits for one source fewer (own).
abbrev pub delivered : State → ℕ → Progress → ℕ → ℕ → ℕ → State
delivered s id p n k d = record s {
  left = replaced s.left d (s.left d - 1);
  passes = set s.passes id (delivers n k d (s.left d) p);
}

-- State after a pass splits its share: a new pass with share 1 stands last (own).
abbrev pub split : State → ℕ → Progress → State
split s id p = record s { passes = set s.passes id (splits p) ++ fresh 1 ∷ [] }

-- State after a pass takes over the lists and share of pass `other`, which is then spent (own).
abbrev pub joined : State → ℕ → Progress → ℕ → Progress → State
joined s id p other o = record s { passes = set (set s.passes id (joins p o)) other spent }

-- ---- the events

-- a pass may load the words of a node that it holds or put, and of each source of such a node
abbrev pub MayLoad : Round → Progress → ℕ → Type 0
MayLoad round p n = (0 < named n p) ⊎ ((m : ℕ) × (0 < named m p) × (0 < times n (sources_of round m)))

pub data IsStep (round : Round) (s : State) : State → Type 0 where
  draw : (id : ℕ) (p : Progress) → get_elem? s.passes id ≡ some p → p.marked ≡ false → 0 < p.share
      → IsStep round s (drawn round s id p)
  load : (id : ℕ) (p : Progress) (n j : ℕ) → get_elem? s.passes id ≡ some p → MayLoad round p n → j < 4
      → IsStep round s s
  store : (id : ℕ) (p : Progress) (n : ℕ) → get_elem? s.passes id ≡ some p → 0 < holds n p.hand
      → stored_of n p.hand < 4 → IsStep round s (stored round s id p n)
  deliver : (id : ℕ) (p : Progress) (n k d : ℕ) → get_elem? s.passes id ≡ some p → 0 < times n p.put
      → slice_get (dependants_of round n) k ≡ Some d → deliveries n k p ≡ 0
      → IsStep round s (delivered s id p n k d)
  split_off : (id : ℕ) (p : Progress) → get_elem? s.passes id ≡ some p → p.marked ≡ false → 1 < p.share
      → IsStep round s (split s id p)
  join : (id other : ℕ) (p o : Progress) → get_elem? s.passes id ≡ some p → get_elem? s.passes other ≡ some o
      → other ≢ id → p.marked ≡ true → o.marked ≡ true → 0 < p.share → 0 < o.share
      → IsStep round s (joined s id p other o)
  first : (id : ℕ) (p : Progress) → get_elem? s.passes id ≡ some p → IsStep round s s
  final : (n j : ℕ) → IsStep round s s
