-- The ends of lists, block by block (own): four neighbouring lists are a block. A block is written when one of its lists first
-- gets a slot, behind the blocks written before. Its seat is its index among the written ones.
use Rattle.std.specs.Prelude.{◌≡◌, ◌≢◌, ℕ, ◌+◌, ◌*◌, ◌<◌, ◌≤◌, ◌==◌, Bool, List, [], ◌∷◌, length, if◌then◌else◌}
use Rattle.scr_links.specs.Chains.{none, seat_at}
use Rattle.scr_links.specs.declared.chains.Ends.{Ends}

-- 1 if it holds, else 0 (own).
abbrev pub one_if : Bool → ℕ
one_if here = if here then 1 else 0

-- The number of blocks that are not written (own).
abbrev pub unwritten : List ℕ → ℕ
unwritten [] = 0
unwritten (seat ∷ seats) = one_if (seat == none) + unwritten seats

-- Every written block has a seat of its own, and every seat is in use (own).
pub record AreSeated (seats : List ℕ) (ends : List Ends) : Type 0 where
  pub counted : length ends + unwritten seats * 4 ≡ length seats * 4
  pub within : (block : ℕ) → seat_at seats block ≢ none → seat_at seats block * 4 < length ends
  pub apart : (block other : ℕ) → seat_at seats block ≢ none → seat_at seats block ≡ seat_at seats other
      → block ≡ other

-- The block is written, at this seat (own).
pub record HasSeat (seats : List ℕ) (ends : List Ends) (block seat : ℕ) : Type 0 where
  pub is : seat_at seats block ≡ seat
  pub there : seat * 4 + 4 ≤ length ends
