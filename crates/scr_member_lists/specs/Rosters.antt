-- Which other member changes its position when one is swap-removed from a list, or when that is undone (own).
use Rattle.std.specs.Prelude.{ℕ, ◌+◌, ◌-◌, List, Option, Some, None, if◌then◌else◌, length, nat_lt}
use Rattle.scr_member_lists.specs.Members.{name_at}

-- The largest number of members of a list, 2^32 - 1 (own).
abbrev pub MOST : ℕ
MOST = 4_294_967_295

-- The last member, which moves to `place` when the member there is swap-removed; `None` if that member is itself the last (own).
abbrev pub drawn_in : ℕ → List (List ℕ) → Option (List ℕ)
drawn_in place roll = if nat_lt (place + 1) (length roll) then Some (name_at (length roll - 1) roll) else None

-- The member at `place`, which moves to the end when a swap-removal at `place` is undone; `None` if `place` is the end (own).
abbrev pub drawn_out : ℕ → List (List ℕ) → Option (List ℕ)
drawn_out place roll = if nat_lt place (length roll) then Some (name_at place roll) else None
