-- The first ids of members, beside the member lists and moved as the members are (own). A row's figures have consecutive ids, so
-- the first one gives them all.
use Rattle.std.specs.Prelude.{◌≡◌, ◌≢◌, ℕ, ◌+◌, ◌-◌, ◌≤◌, ◌==◌, ◌++◌, ◌∷◌, List, [], if◌then◌else◌, length, slice_index_or, slice_set, take}
use Rattle.scr_sum_slots.specs.Parts.{NumberList, list_at}

-- For each member list, by its number, the first ids of its members (own).
pub record FirstLists : Type 0 where
  pub lists : List NumberList

-- The first ids beside a list, by position (own).
abbrev pub firsts_in : ℕ → FirstLists → List ℕ
firsts_in list firsts = (list_at list firsts.lists).items

-- How many further first ids fit beside a list without new memory (own).
abbrev pub room_beside : ℕ → FirstLists → ℕ
room_beside list firsts = (list_at list firsts.lists).room

-- The first id at a position; 0 past the end (own).
abbrev pub first_at : ℕ → List ℕ → ℕ
first_at place firsts = slice_index_or firsts place 0

-- The first ids after a member was appended (own).
abbrev pub joined : ℕ → List ℕ → List ℕ
joined first firsts = firsts ++ first ∷ []

-- The first ids after the member at `place` was swap-removed (own).
abbrev pub left : ℕ → List ℕ → List ℕ
left place firsts = take (length firsts - 1) (slice_set firsts place (first_at (length firsts - 1) firsts))

-- The first ids after a swap-removal at `place` was undone (own): the id has its position again, the one that had taken it goes
-- last.
abbrev pub back_at : ℕ → ℕ → List ℕ → List ℕ
back_at place first firsts =
    if place == length firsts then joined first firsts else joined (first_at place firsts) (slice_set firsts place first)

-- The first ids beside one list become `numbers`, all others stay, and no reserved memory is lost (own).
pub record Becomes (list : ℕ) (numbers : List ℕ) (before now : FirstLists) : Type 0 where
  pub own : firsts_in list now ≡ numbers
  pub others : (other : ℕ) → other ≢ list → firsts_in other now ≡ firsts_in other before
  pub room : (other : ℕ) → length (firsts_in other before) + room_beside other before ≤ length (firsts_in other now) + room_beside other now
