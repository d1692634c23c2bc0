-- Lists of slots by key, stored sparsely (own): each key stores the position of its list. Position 0 is an empty list that all
-- keys without a list share.
use Rattle.std.specs.Prelude.{◌≡◌, ℕ, ◌<◌, ◌==◌, List, [], if◌then◌else◌, length, map, slice_index_or}
use Rattle.scr_sum_slots.specs.Parts.{NumberList, list_at, no_numbers}

-- The position of a key's list among the stored lists; 0 if the key has none (own).
abbrev pub place_of : ℕ → List ℕ → ℕ
place_of key places = slice_index_or places key 0

-- The stored list at a position; the empty one without room for position 0 (own).
abbrev pub list_there : List NumberList → ℕ → NumberList
list_there lists place = if place == 0 then no_numbers else list_at place lists

-- The list of each key, in the order of keys (own).
abbrev pub lists_by : List ℕ → List NumberList → List NumberList
lists_by places lists = map (list_there lists) places

-- Each key's position is one of a stored list, and no two keys share a position but 0 (own). List 0 is empty.
pub record ArePlaced (places : List ℕ) (lists : List NumberList) : Type 0 where
  pub there : (key : ℕ) → place_of key places < length lists
  pub own : (one two : ℕ) → place_of one places ≡ place_of two places → 0 < place_of one places → one ≡ two
  pub none : (list_at 0 lists).items ≡ []
