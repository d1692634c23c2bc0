-- The members of an owner's roll, by the first of its numbers.
use Rattle.std.proofs.Common.{◌≡◌, ℕ, ◌+◌, ◌<◌, List, [], length, Option, Some, None, IfSome, refl, ap, arith}
use Rattle.std.specs.Option.{option_map, option_map_or}
use Rattle.scr_member_lists.specs.Seatings.{names_of}
use Rattle.scr_member_lists.specs.declared.seating.Numbered.{Numbered}

-- a number that is one of the table's, and the one after it
pub first-inside : (found : Option ℕ) (rolls : List Numbered) → ((n : ℕ) → found ≡ Some n → n < length rolls) → IfSome found (λ n. n + 0 < length rolls)
first-inside None rolls inside = tt
first-inside (Some n) rolls inside = let within = inside n refl in omega (arith, within)

pub next-inside : (found : Option ℕ) (rolls : List Numbered) → ((n : ℕ) → option_map (λ k. k + 1) found ≡ Some n → n < length rolls) → IfSome found (λ n. n + 1 < length rolls)
next-inside None rolls inside = tt
next-inside (Some n) rolls inside = inside (n + 1) refl

-- the members of either
pub first-names : (found : Option ℕ) (rolls : List Numbered) → option_map_or (λ n. names_of (n + 0) rolls) found [] ≡ option_map_or (λ n. names_of n rolls) found []
first-names None rolls = refl
first-names (Some n) rolls = let same : n + 0 ≡ n = omega arith in ap (λ m. names_of m rolls) same

pub next-names : (found : Option ℕ) (rolls : List Numbered) → option_map_or (λ n. names_of (n + 1) rolls) found [] ≡ option_map_or (λ n. names_of n rolls) (option_map (λ k. k + 1) found) []
next-names None rolls = refl
next-names (Some n) rolls = refl
