-- How many rows use each name (this project's own).
use Rattle.std.specs.Prelude.{◌≡◌, ℕ, ℤ, ◌+◌, Bool, false, List, Option, if◌then◌else◌, sum_by}
use Rattle.std.specs.Option.{option_map_or}
use Rattle.scr_tables.specs.Names.{same_name}
use Rattle.scr_tables.specs.Tables.{row_of, has_row}
use Rattle.scr_counters.specs.declared.names.Used.{Used}

-- the names with their numbers of users, or that nothing is known of them
pub record Tallied : Type 0 where
  pub used : List Used
  pub is_lost : Bool

abbrev pub used_name : Used → List ℕ
used_name used = used.name

-- how many rows use a name
unfoldable pub users_under : List ℕ → Tallied → ℕ
users_under name tally = option_map_or (λ u. u.users) (row_of used_name name tally.used) 0

-- a row that uses one name uses a name once or not at all
abbrev pub uses : List ℕ → List ℕ → ℕ
uses used name = if same_name name used then 1 else 0

-- a row has used the name, so that others are counted under it without memory
abbrev pub came : List ℕ → Tallied → Bool
came name tally = has_row used_name name tally.used

-- one that may use a name
abbrev pub uses_one : Option (List ℕ) → List ℕ → ℕ
uses_one used name = option_map_or (λ own. uses own name) used 0

-- and one that uses each of these
abbrev pub uses_each : List (List ℕ × ℤ) → List ℕ → ℕ
uses_each used name = sum_by (λ c. uses c.0 name) used

abbrev pub nothing : List ℕ → ℕ
nothing name = 0

pub record IsFresh (tally : Tallied) : Type 0 where
  pub kept : tally.is_lost ≡ false
  pub none : (name : List ℕ) → users_under name tally ≡ 0

-- where the tally is not lost now, it was not lost before, and of each name's users some went and some came
pub record Moves (went came : List ℕ → ℕ) (before now : Tallied) : Type 0 where
  pub kept : now.is_lost ≡ false → before.is_lost ≡ false
  pub moved : now.is_lost ≡ false → (name : List ℕ) → users_under name now + went name ≡ users_under name before + came name

-- or one name has so many users now
pub record IsWritten (name : List ℕ) (users : ℕ) (before now : Tallied) : Type 0 where
  pub kept : now.is_lost ≡ false → before.is_lost ≡ false
  pub written : now.is_lost ≡ false → (other : List ℕ) → users_under other now ≡ (if same_name other name then users else users_under other before)

-- where the tally is not lost, each name is counted as often as this says
pub record Counts (users : List ℕ → ℕ) (tally : Tallied) : Type 0 where
  pub counted : tally.is_lost ≡ false → (name : List ℕ) → users_under name tally ≡ users name

-- nobody uses the name
pub record IsUnused (name : List ℕ) (tally : Tallied) : Type 0 where
  pub kept : tally.is_lost ≡ false
  pub none : users_under name tally ≡ 0
