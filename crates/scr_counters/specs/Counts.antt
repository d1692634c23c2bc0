-- Counts by place (this project's own).
use Rattle.std.specs.Prelude.{◌≡◌, ℕ, ◌<◌, List, Option, Some, None, slice_index_or}

-- the count at a place; none past the end
abbrev pub count_at : List ℕ → ℕ → ℕ
count_at counts place = slice_index_or counts place 0

-- the last place whose count is not 0, if there is one
abbrev pub IsLastPlace : List ℕ → Option ℕ → Type 0
IsLastPlace counts None = (place : ℕ) → count_at counts place ≡ 0
IsLastPlace counts (Some last) = (0 < count_at counts last) × ((place : ℕ) → last < place → count_at counts place ≡ 0)
