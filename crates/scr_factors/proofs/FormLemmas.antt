-- Reading the items of a list one after another.
use Rattle.std.proofs.Common.{◌≡◌, ◌≢◌, ℕ, suc, ◌≤◌, ◌==◌, List, [], ◌∷◌, ◌++◌, length, take, drop, Option, Some, None, option_map, cond, All, refl, sym, ap, ◌∙◌, inl, inr, ℤ, pos, negsuc}
use Rattle.std.proofs.lemmas.Bool.{cases_lt, le-leb, lt-leb}
use Rattle.std.specs.Prelude.{option_and_then}
use Rattle.std.proofs.lemmas.Bool.Decides.{eqb_tells}
use Rattle.std.proofs.lemmas.List.Elements.{All-cons, All-nil}
use Rattle.toml.specs.declared.value.Value.{Value}
use Rattle.toml.specs.Data.{Data, Items, no_items, item, as_integer, as_array}
use Rattle.toml.specs.View.{view, items_view}
use Rattle.scr_factors.specs.Forms.{up_to, whole_number, each, list_of}

-- what is found of an item and of those after it
each-cons : {A : Type 0} (o : Option A) (r : Option (List A)) (found : List A)
    → option_and_then (λ a. option_map (λ rest. a ∷ rest) r) o ≡ Some found
    → (a : A) × (rest : List A) × (o ≡ Some a) × (r ≡ Some rest) × (found ≡ a ∷ rest)
each-cons None r found h = cc
each-cons (Some a) None found h = cc
each-cons (Some a) (Some rest) found h = (a, rest, refl, refl, cc)

-- as many are found as there are items
each-length : {A : Type 0} (form : Data → Option A) (vs : List Value) (found : List A)
    → each form (items_view vs) ≡ Some found → length found ≡ length vs
each-length form [] found h = let none : found ≡ [] = cc in rw none refl
each-length form (v ∷ vs) found h =
    let (a, rest, here, more, is) = each-cons (form (view v)) (each form (items_view vs)) found h in
    rw is (ap suc (each-length form vs rest more))

-- and each has what the form gives
each-all : {A : Type 0} (P : A → Type 0) (form : Data → Option A) → ((d : Data) (a : A) → form d ≡ Some a → P a)
    → (ds : Items) (found : List A) → each form ds ≡ Some found → All P found
each-all P form gives no_items found h = let none : found ≡ [] = cc in rw none (All-nil P)
each-all P form gives (item d ds) found h =
    let (a, rest, here, more, is) = each-cons (form d) (each form ds) found h in
    rw is (All-cons P a rest (gives d a here) (each-all P form gives ds rest more))

-- the list, if it has so many
abbrev counted : {A : Type 0} → ℕ → Option (List A) → Option (List A)
counted count o = option_and_then (λ xs. cond (length xs == count) (Some xs) None) o

counted-some : {A : Type 0} (count : ℕ) (o : Option (List A)) (found : List A) → counted count o ≡ Some found
    → (o ≡ Some found) × (length found ≡ count)
counted-some count None found h = cc
counted-some count (Some xs) found h =
    elim (eqb_tells (length xs) count) [
      | inl (passes, same) ↦ let is = rw passes at h in (is, let e : found ≡ xs = cc in rw e same)
      | inr (fails, other) ↦ let is = rw fails at h in cc
    ]

counted-none : {A : Type 0} (count : ℕ) (o : Option (List A)) → ((xs : List A) → o ≡ Some xs → length xs ≢ count)
    → counted count o ≡ None
counted-none count None h = refl
counted-none count (Some xs) h =
    elim (eqb_tells (length xs) count) [
      | inl (passes, same) ↦ absurd (h xs refl same)
      | inr (fails, other) ↦ rw fails
    ]

list_of-items : {A : Type 0} (form : Data → Option A) (count : ℕ) (d : Data) (items : Items) → as_array d ≡ Some items
    → list_of count form d ≡ counted count (each form items)
list_of-items form count d items is = rw is

-- a list of another length has not the form
pub list_of-none : {A : Type 0} (form : Data → Option A) (count : ℕ) (d : Data) (vs : List Value)
    → as_array d ≡ Some (items_view vs) → length vs ≢ count → list_of count form d ≡ None
list_of-none form count d vs is other =
    list_of-items form count d (items_view vs) is
    ∙ counted-none count (each form (items_view vs)) (λ xs e same. other (sym (each-length form vs xs e) ∙ same))

-- each item of a list that has the form has what the items' form gives
pub list_of-all : {A : Type 0} (P : A → Type 0) (form : Data → Option A) (count : ℕ) (d : Data) (found : List A)
    → ((e : Data) (a : A) → form e ≡ Some a → P a) → list_of count form d ≡ Some found
    → (length found ≡ count) × All P found
list_of-all P form count d found gives h = go (as_array d) refl
  where
    go : (o : Option Items) → as_array d ≡ o → (length found ≡ count) × All P found
    go None is = let none : list_of count form d ≡ None = rw is refl in cc
    go (Some items) is =
        let (all, long) = counted-some count (each form items) found (sym (list_of-items form count d items is) ∙ h) in
        (long, each-all P form gives items found all)

-- what the first i items hold was found, and the others are to be read
pub record ReadTo {A : Type 0} (form : Data → Option A) (vs : List Value) (found : List A) (i : ℕ) : Type 0 where
  pub so_far : each form (items_view vs) ≡ option_map (λ rest. take i found ++ rest)
      (each form (items_view (drop i vs)))

-- a whole number that has the form is within the limit
pub whole_number-bound : (limit : ℕ) (d : Data) (n : ℕ) → whole_number limit d ≡ Some n → n ≤ limit
whole_number-bound limit d n h = go (as_integer d) h
  where
    go : (o : Option ℤ) → option_and_then (up_to limit) o ≡ Some n → n ≤ limit
    go None e = cc
    go (Some (pos m)) e =
        elim (cases_lt limit m) [
          | inl above ↦ let none = rw (lt-leb m limit above) at e in cc
          | inr within ↦ let some = rw (le-leb m limit within) at e in let same : m ≡ n = cc in rw (← same) within
        ]
    go (Some (negsuc m)) e = cc
