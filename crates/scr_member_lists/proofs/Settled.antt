-- A name that is a member of a roll from now on or is none, and one that stands where it stood before.
use Rattle.std.proofs.Common.{◌≡◌, ℕ, ◌<◌, Bool, true, false, List, [], ◌∷◌, length, cond, ltb, Some, None, is_some, position, not, refl, sym, ap, ◌∙◌, arith}
use Rattle.std.specs.Prelude.{if◌then◌else◌}
use Rattle.std.specs.List.{list_any, position_or_len}
use Rattle.std.proofs.lemmas.Bool.Decides.{nat_tests}
use Rattle.std.proofs.lemmas.List.Quantifiers.{position-Some}
use Rattle.std.proofs.lemmas.List.Folds.{list_any_at, position_or_len_push}
use Rattle.std.proofs.lemmas.List.Sums.{position_or_len_is, prefix_len-le-length}
use Rattle.scr_tables.specs.Names.{same_name}
use Rattle.scr_tables.proofs.TableRows.{same_name-is, same_name-itself}
use Rattle.scr_member_lists.specs.Members.{has, name_at, come, left, back_at, moved, returned}
use Rattle.scr_member_lists.proofs.Places.{left-come, back_at-left}

-- ---- where a name stands

-- one passes where a first one is found
some-cond : (b : Bool) (k : ℕ) → is_some (cond b (Some k) None) ≡ b
some-cond true k = refl
some-cond false k = refl

within : {X : Type 0} (p : X → Bool) (xs : List X) → ltb (position_or_len p xs) (length xs) ≡ list_any p xs
within p [] = refl
within p (x ∷ xs) = by (p x) (within p xs) refl
  where
    by : (b : Bool) → ltb (position_or_len p xs) (length xs) ≡ list_any p xs → p x ≡ b → ltb (position_or_len p (x ∷ xs)) (length (x ∷ xs)) ≡ list_any p (x ∷ xs)
    by true rest h = grind (arith, nat_tests, h)
    by false rest h = grind (arith, nat_tests, h, rest)

pub has-position : {X : Type 0} (p : X → Bool) (xs : List X) → is_some (position p xs) ≡ list_any p xs
has-position p xs = some-cond (ltb (position_or_len p xs) (length xs)) (position_or_len p xs) ∙ within p xs

-- the first place at which a test passes
pub record Stands (name : List ℕ) (roll : List (List ℕ)) (place : ℕ) : Type 0 where
  pub within : place < length roll
  pub there : name ≡ name_at place roll
  pub first : position_or_len (same_name name) roll ≡ place
  pub has : has name roll ≡ true

pub stands : (name : List ℕ) (roll : List (List ℕ)) (place : ℕ) → position (same_name name) roll ≡ Some place → Stands name roll place
stands name roll place found =
    let at = position-Some (same_name name) roll place [] found in
    record {
      within = at.0;
      there = same_name-is name (name_at place roll) at.1;
      first = position_or_len_is (same_name name) roll place [] (omega (arith, at.0)) at.2 (λ w. at.1);
      has = list_any_at (same_name name) roll place [] at.0 at.1;
    }

pub stands-nowhere : (name : List ℕ) (roll : List (List ℕ)) → position (same_name name) roll ≡ None → has name roll ≡ false
stands-nowhere name roll none = sym (has-position (same_name name) roll) ∙ ap is_some none

-- ---- what settles

pub moved-same : (name : List ℕ) (is : Bool) (roll : List (List ℕ)) → moved name is is roll ≡ roll
moved-same name true roll = refl
moved-same name false roll = refl

-- ---- what goes back

-- what moved stands again where it stood
module _ (name : List ℕ) (roll : List (List ℕ)) where
  pub after-none : has name roll ≡ false → (is : Bool) → has name (moved name false is roll) ≡ is → returned name None (moved name false is roll) ≡ roll
  after-none none true told =
      let p : List ℕ → Bool = same_name name in
      let all : position_or_len p roll ≡ length roll = grind (arith, nat_tests, within p roll, none, prefix_len-le-length (λ x. not (p x)) roll) in
      let last : position_or_len p (come name roll) ≡ length roll = grind (arith, nat_tests, all, position_or_len_push p roll name, same_name-itself name) in
      ap (λ b. moved name b false (come name roll)) told ∙ ap (λ k. left k (come name roll)) last ∙ left-come name roll
  after-none none false told = ap (λ b. moved name b false roll) none

  pub after-some : (place : ℕ) → Stands name roll place → (is : Bool) → has name (moved name true is roll) ≡ is → returned name (Some place) (moved name true is roll) ≡ roll
  after-some place s true told = ap (λ t. if t then roll else back_at place name roll) s.has
  after-some place s false told =
      ap (λ t. if t then moved name true false roll else back_at place name (moved name true false roll)) told
      ∙ ap (λ k. back_at place name (left k roll)) s.first
      ∙ ap (λ n. back_at place n (left place roll)) s.there
      ∙ back_at-left place roll s.within
