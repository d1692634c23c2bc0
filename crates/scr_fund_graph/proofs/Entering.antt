-- Names entered in turn: each name that was there keeps its number.
use Rattle.std.proofs.Common.{◌≡◌, ◌⊎◌, ℕ, suc, ℤ, ◌+◌, ◌<◌, ◌≤◌, Bool, true, false, cond, ◌||◌, IsTrue, List, [], ◌∷◌, ◌++◌, map, take, length, get_or, refl, sym, ap, subst, ◌∙◌, inl, inr, arith}
use Rattle.std.specs.List.{list_any}
use Rattle.std.proofs.lemmas.Bool.{cases_Bool}
use Rattle.std.proofs.lemmas.List.{append_assoc, append-nil, map-append, take_all, take_more}
use Rattle.indexmap.specs.IndexSet.{insert_key}
use Rattle.scr_funds.specs.Components.{Components}
use Rattle.scr_funds.proofs.Members.{IsMember, All-from_members}
use Rattle.scr_tables.specs.Names.{same_name}
use Rattle.scr_tables.proofs.TableRows.{same_name-itself}
use Rattle.scr_fund_graph.specs.Graph.{number_in, is_component, with_names, BeginsWith}
use Rattle.scr_fund_graph.proofs.Graphs.{AreEntered}
use Rattle.scr_fund_graph.proofs.Numbering.{map_same, number-kept}
use Rattle.scr_fund_graph.proofs.Places.{entered_once}

-- ---- one name

pub key-there : (names : List (List ℕ)) (new : List ℕ) → list_any (same_name new) names ≡ true → insert_key same_name names new ≡ names
key-there names new e = ap (λ t. cond t names (names ++ new ∷ [])) e

pub begins-key : (names : List (List ℕ)) (new : List ℕ) → BeginsWith names (insert_key same_name names new)
begins-key names new = elim (cases_Bool (list_any (same_name new) names)) [
  | inl there ↦ rw there ([], sym (append-nil names))
  | inr fresh ↦ rw fresh (new ∷ [], refl)
]

number-key : (names : List (List ℕ)) (new name : List ℕ) → list_any (same_name name) names ≡ true
    → number_in (insert_key same_name names new) name ≡ number_in names name
number-key names new name e = elim (cases_Bool (list_any (same_name new) names)) [
  | inl there ↦ rw there refl
  | inr fresh ↦ rw fresh (number-kept names (new ∷ []) name e)
]

number-last : (names : List (List ℕ)) (new : List ℕ) → number_in (names ++ new ∷ []) new ≡ number_in names new
number-last [] new = let own = same_name-itself new in grind (arith, own)
number-last (first ∷ names) new = let rest = number-last names new in grind (arith, rest)

-- a name has the number of the next one until it is entered, and then as well
pub number-own : (names : List (List ℕ)) (new : List ℕ) → number_in (insert_key same_name names new) new ≡ number_in names new
number-own names new = elim (cases_Bool (list_any (same_name new) names)) [
  | inl there ↦ rw there refl
  | inr fresh ↦ rw fresh (number-last names new)
]

pub any-key : (names : List (List ℕ)) (new : List ℕ) → list_any (same_name new) (insert_key same_name names new) ≡ true
any-key names new = entered_once names new new ∙ ap (λ t. t || list_any (same_name new) names) (same_name-itself new)

-- ---- names in turn

with_names-append : (first more names : List (List ℕ)) → with_names (first ++ more) names ≡ with_names more (with_names first names)
with_names-append [] more names = refl
with_names-append (new ∷ first) more names = with_names-append first more (insert_key same_name names new)

pub begins-trans : (a b c : List (List ℕ)) → BeginsWith a b → BeginsWith b c → BeginsWith a c
begins-trans a b c first next = (first.0 ++ next.0, next.1 ∙ ap (λ xs. xs ++ next.0) first.1 ∙ append_assoc a first.0 next.0)

pub begins-none : (names : List (List ℕ)) → BeginsWith names names
begins-none names = ([], sym (append-nil names))

pub begins-with_names : (more names : List (List ℕ)) → BeginsWith names (with_names more names)
begins-with_names [] names = begins-none names
begins-with_names (new ∷ more) names =
    begins-trans names (insert_key same_name names new) (with_names more (insert_key same_name names new)) (begins-key names new)
    (begins-with_names more (insert_key same_name names new))

first_of : (before more : List (List ℕ)) → take (length before) (before ++ more) ≡ before
first_of [] more = refl
first_of (x ∷ before) more = ap (λ xs. x ∷ xs) (first_of before more)

-- what was before is what is left where the names after it are taken off
pub taken_back : (before names : List (List ℕ)) → BeginsWith before names → take (length before) names ≡ before
taken_back before names begins = ap (take (length before)) begins.1 ∙ first_of before begins.0

pub any-with_names : (more names : List (List ℕ)) (name : List ℕ) → list_any (same_name name) (with_names more names)
    ≡ (list_any (same_name name) more || list_any (same_name name) names)
any-with_names [] names name = refl
any-with_names (new ∷ more) names name =
    any-with_names more (insert_key same_name names new) name
    ∙ ap (λ t. list_any (same_name name) more || t) (entered_once names new name)
    ∙ turned (list_any (same_name name) more) (same_name name new) (list_any (same_name name) names)
  where
    turned : (a b c : Bool) → (a || (b || c)) ≡ ((b || a) || c)
    turned true true c = refl
    turned true false c = refl
    turned false true c = refl
    turned false false c = refl

pub still : (a b : Bool) → b ≡ true → (a || b) ≡ true
still true b e = refl
still false b e = e

pub any-still : (more names : List (List ℕ)) (name : List ℕ) → list_any (same_name name) names ≡ true → list_any (same_name name) (with_names more names) ≡ true
any-still more names name e = any-with_names more names name ∙ still (list_any (same_name name) more) (list_any (same_name name) names) e

pub number-still : (more names : List (List ℕ)) (name : List ℕ) → list_any (same_name name) names ≡ true
    → number_in (with_names more names) name ≡ number_in names name
number-still [] names name e = refl
number-still (new ∷ more) names name e =
    number-still more (insert_key same_name names new) name (entered_once names new name ∙ still (same_name name new) (list_any (same_name name) names) e)
    ∙ number-key names new name e

pub any-names : (components : List (List ℕ × ℤ)) (name : List ℕ) → list_any (same_name name) (map (λ c. c.0) components) ≡ is_component name components
any-names [] name = refl
any-names (c ∷ cs) name = ap (λ t. same_name name c.0 || t) (any-names cs name)

-- the name of a component that was entered is there
pub any-member : (components : List (List ℕ × ℤ)) (names : List (List ℕ)) (c : List ℕ × ℤ) → IsMember c components
    → list_any (same_name c.0) (with_names (map (λ c. c.0) components) names) ≡ true
any-member [] names c m = absurd m
any-member (d ∷ ds) names c (inl e) =
    any-still (map (λ c. c.0) ds) (insert_key same_name names d.0) c.0
    (subst (λ (x : List ℕ × ℤ). list_any (same_name x.0) (insert_key same_name names d.0) ≡ true) (sym e) (any-key names d.0))
any-member (d ∷ ds) names c (inr m) = any-member ds (insert_key same_name names d.0) c m

-- a fund is entered, and then its components
module _ (before now : List (List ℕ)) (fund : List ℕ) (components : List (List ℕ × ℤ)) (is : now ≡ with_names (fund ∷ map (λ c. c.0) components) before) where
  pub fund-there : list_any (same_name fund) now ≡ true
  fund-there =
      ap (list_any (same_name fund)) is
      ∙ any-still (map (λ c. c.0) components) (insert_key same_name before fund) fund (any-key before fund)

  pub fund-number : number_in now fund ≡ number_in before fund
  fund-number =
      ap (λ ns. number_in ns fund) is
      ∙ number-still (map (λ c. c.0) components) (insert_key same_name before fund) fund (any-key before fund)
      ∙ number-own before fund

  pub all-there : (all : Components) → AreEntered components (record { names = now; components = all })
  all-there all =
      All-from_members (λ (c : List ℕ × ℤ). IsTrue (list_any (same_name c.0) now)) components
      (λ c m. ap (list_any (same_name c.0)) is ∙ any-member components (insert_key same_name before fund) c m)

-- ---- components entered one after another

-- these were entered after the names of before, and have these numbers
pub record HaveEntered (before now : List (List ℕ)) (numbers : List ℕ) (components : List (List ℕ × ℤ)) : Type 0 where
  pub numbered : numbers ≡ map (λ c. number_in now c.0) components
  pub named : now ≡ with_names (map (λ c. c.0) components) before

pub entered-begins : (before now : List (List ℕ)) (numbers : List ℕ) (components : List (List ℕ × ℤ)) → HaveEntered before now numbers components → BeginsWith before now
entered-begins before now numbers components so_far = subst (BeginsWith before) (sym so_far.named) (begins-with_names (map (λ c. c.0) components) before)

module _ (before now : List (List ℕ)) (numbers : List ℕ) (components : List (List ℕ × ℤ)) (so_far : HaveEntered before now numbers components) (c : List ℕ × ℤ) where
  pub entered-next : HaveEntered before (insert_key same_name now c.0) (numbers ++ number_in now c.0 ∷ []) (components ++ c ∷ [])
  entered-next = record { numbered = numbered; named = named }
    where
      after : List (List ℕ)
      after = insert_key same_name now c.0

      there : (x : List ℕ × ℤ) → IsMember x components → list_any (same_name x.0) now ≡ true
      there x m = ap (list_any (same_name x.0)) so_far.named ∙ any-member components before x m

      numbered : (numbers ++ number_in now c.0 ∷ []) ≡ map (λ x. number_in after x.0) (components ++ c ∷ [])
      numbered =
          ap (λ ns. ns ++ number_in now c.0 ∷ [])
          (so_far.numbered ∙ sym (map_same (λ x. number_in after x.0) (λ x. number_in now x.0) components (λ x m. number-key now c.0 x.0 (there x m))))
          ∙ ap (λ n. map (λ x. number_in after x.0) components ++ n ∷ []) (sym (number-own now c.0))
          ∙ sym (map-append (λ x. number_in after x.0) components (c ∷ []))

      named : after ≡ with_names (map (λ x. x.0) (components ++ c ∷ [])) before
      named =
          ap (λ ns. insert_key same_name ns c.0) so_far.named
          ∙ sym (with_names-append (map (λ x. x.0) components) (c.0 ∷ []) before)
          ∙ sym (ap (λ ns. with_names ns before) (map-append (λ x. x.0) components (c ∷ [])))

  -- where it was entered before, its number is that of its name, and nothing is entered
  pub entered-known : list_any (same_name c.0) now ≡ true → HaveEntered before now (numbers ++ number_in now c.0 ∷ []) (components ++ c ∷ [])
  entered-known e = subst (λ ns. HaveEntered before ns (numbers ++ number_in now c.0 ∷ []) (components ++ c ∷ [])) (key-there now c.0 e) entered-next

-- ---- the same, as they come in a list

module _ (before now : List (List ℕ)) (numbers : List ℕ) (components : List (List ℕ × ℤ)) (k : ℕ) (c : List ℕ × ℤ) (within : k < length components) (is : c ≡ get_or components k c)
    (so_far : HaveEntered before now numbers (take k components)) where
  one_more : (take k components ++ c ∷ []) ≡ take (k + 1) components
  one_more = ap (λ x. take k components ++ x ∷ []) is ∙ sym (take_more components k c within)

  pub taken-next : (after : List (List ℕ)) (number : ℕ) → number ≡ number_in now c.0 → after ≡ with_names (c.0 ∷ []) now → HaveEntered before after (numbers ++ number ∷ []) (take (k + 1) components)
  taken-next after number own named =
      subst (λ ns. HaveEntered before ns (numbers ++ number ∷ []) (take (k + 1) components)) (sym named)
      (subst (λ n. HaveEntered before (insert_key same_name now c.0) (numbers ++ n ∷ []) (take (k + 1) components)) (sym own)
      (subst (HaveEntered before (insert_key same_name now c.0) (numbers ++ number_in now c.0 ∷ [])) one_more (entered-next before now numbers (take k components) so_far c)))

  pub taken-known : (number : ℕ) → number ≡ number_in now c.0 → list_any (same_name c.0) now ≡ true → HaveEntered before now (numbers ++ number ∷ []) (take (k + 1) components)
  taken-known number own there =
      subst (λ n. HaveEntered before now (numbers ++ n ∷ []) (take (k + 1) components)) (sym own)
      (subst (HaveEntered before now (numbers ++ number_in now c.0 ∷ [])) one_more (entered-known before now numbers (take k components) so_far c there))

pub all-taken : (before now : List (List ℕ)) (numbers : List ℕ) (components : List (List ℕ × ℤ)) (k : ℕ) → length components ≤ k → HaveEntered before now numbers (take k components) → HaveEntered before now numbers components
all-taken before now numbers components k l = subst (HaveEntered before now numbers) (take_all k components l)
