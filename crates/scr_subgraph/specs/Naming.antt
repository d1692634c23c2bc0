-- Dependencies between dues (the figures to work out anew), by positions in their list from 0 (own).
use Rattle.std.specs.Prelude.{◌≡◌, ℕ, suc, ◌+◌, ◌<◌, ◌≤◌, Bool, true, false, List, [], ◌∷◌, ◌++◌, if◌then◌else◌, length, nat_eq, slice_index_or}
use Rattle.scr_board.specs.Counts.{times, total}
use Rattle.scr_reachability.specs.Ranks.{rank_at}
use Rattle.scr_jagged.specs.Parts.{Binned}
use Rattle.scr_subgraph.specs.declared.round.Slot.{Slot}
use Rattle.scr_subgraph.specs.declared.round.Slot.TheVariants as slots

-- Positions of the dues from which one is worked out, read from its slots in order (own).
abbrev pub dues_in : List Slot → List ℕ
dues_in [] = []
dues_in (slots.Kept number ∷ row) = dues_in row
dues_in (slots.Due place ∷ row) = place ∷ dues_in row

-- Whether a due has no other due as a source, so that its work can begin at once (own).
abbrev pub is_start : List Slot → Bool
is_start [] = true
is_start (slots.Kept number ∷ row) = is_start row
is_start (slots.Due place ∷ row) = false

-- Positions of the dues without a due as source, ascending, where the first row has position `k` (own).
abbrev pub begun : List (List Slot) → ℕ → List ℕ
begun [] k = []
begun (row ∷ rows) k = if is_start row then k ∷ begun rows (suc k) else begun rows (suc k)

-- `place` repeated once for each slot of its row that is the due at position `m` (own).
abbrev pub named_in : (place m : ℕ) → List Slot → List ℕ
named_in place m [] = []
named_in place m (slots.Kept number ∷ row) = named_in place m row
named_in place m (slots.Due source ∷ row) = (if nat_eq source m then place ∷ [] else []) ++ named_in place m row

-- Positions of the dues with the due at `m` as a source, ascending, where the first row has position `k` (own).
abbrev pub named : (m : ℕ) → List (List Slot) → (k : ℕ) → List ℕ
named m [] k = []
named m (row ∷ rows) k = named_in k m row ++ named m rows (suc k)

-- One list for each due: list `m` has the positions of the dues that are worked out from it (own).
pub record AreNamed (rows : List (List Slot)) (lists : List (List ℕ)) : Type 0 where
  pub long : length lists ≡ length rows
  pub each : (m : ℕ) → rank_at lists m ≡ named m rows 0

-- One count for each due: the number of slots, over all rows, for which it is the source (own).
pub record AreCounted (rows : List (List Slot)) (counts : List ℕ) : Type 0 where
  pub long : length counts ≡ length rows
  pub each : (m : ℕ) → slice_index_or counts m 0 ≡ total (λ row. times m (dues_in row)) rows

-- One row is added to the counts: each due gains one for each slot of the row that is this due (own).
pub record IsCounted (row : List Slot) (before after : List ℕ) : Type 0 where
  pub long : length after ≡ length before
  pub each : (m : ℕ) → slice_index_or after m 0 ≡ slice_index_or before m 0 + times m (dues_in row)

-- Each slot of the row that is a due has a position below `count` (own).
abbrev pub AreBelow : ℕ → List Slot → Type 0
AreBelow count [] = Unit {0}
AreBelow count (slots.Kept number ∷ row) = AreBelow count row
AreBelow count (slots.Due place ∷ row) = (place < count) × AreBelow count row

-- `place` is appended to the list at `source`; all other lists stay as before (own).
pub record IsPushed (source place : ℕ) (before after : List (List ℕ)) : Type 0 where
  pub long : length after ≡ length before
  pub each : (m : ℕ) → rank_at after m ≡ rank_at before m ++ (if nat_eq source m then place ∷ [] else [])

-- `place` is appended to the list of each due that the row names, once a slot; all other lists stay as before (own).
pub record IsEntered (place : ℕ) (row : List Slot) (before after : List (List ℕ)) : Type 0 where
  pub long : length after ≡ length before
  pub each : (m : ℕ) → rank_at after m ≡ rank_at before m ++ named_in place m row

-- Each list has capacity for `place` once for each slot of the row that names its due (own).
abbrev pub HaveRoom : ℕ → List Slot → Binned → Type 0
HaveRoom place row lists = (m : ℕ) → m < length lists.rows → length (rank_at lists.rows m) + length (named_in place m row) ≤ slice_index_or lists.rooms m 0
