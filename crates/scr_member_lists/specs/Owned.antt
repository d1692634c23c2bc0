-- The member lists that a group or a currency owns (own): an owner has one block of consecutive list numbers.
use Rattle.std.specs.Prelude.{◌≡◌, ℕ, List, Option, if◌then◌else◌}
use Rattle.std.specs.Map.{lookup}
use Rattle.scr_tables.specs.Names.{same_name}

-- The first list number of each owner, by the owner's name (own).
pub record Owned : Type 0 where
  pub numbers : List (List ℕ × ℕ)

-- The first list number of an owner; `None` if it owns no list (own).
abbrev pub number_of : List ℕ → Owned → Option ℕ
number_of owner owned = lookup (same_name owner) owned.numbers

-- Only this owner's first list number changes, and it is now `number` (own).
abbrev pub Gives : List ℕ → Option ℕ → Owned → Owned → Type 0
Gives owner number old new = (other : List ℕ) → number_of other new ≡ (if same_name owner other then number else number_of other old)
