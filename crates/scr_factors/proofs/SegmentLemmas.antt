-- The pairs of segments, row by row.
use Rattle.std.proofs.Common.{◌≡◌, ℕ, zero, suc, ◌+◌, ◌-◌, ◌<◌, ◌≤◌, Bool, true, false, List, [], ◌∷◌, ◌++◌, map, Option, Some, None, option_map, cond, inl, inr, refl, sym, ap, ◌∙◌, arith}
use Rattle.std.proofs.lemmas.Bool.{cases_lt, cases_order}
use Rattle.std.proofs.lemmas.Bool.Decides.{eqb_tells}
use Rattle.std.specs.List.{find, flat_map, range_with_len}
use Rattle.std.specs.Option.{option_or}
use Rattle.std.proofs.lemmas.List.Folds.{find-append}
use Rattle.scr_profile.proofs.Ranges.{find-range}
use Rattle.scr_factors.specs.Forms.{coefficient, differs, pairs_in_row, pairs, first_asymmetry}

chosen : {A B : Type 0} (f : A → B) (b : Bool) (x : A) (o : Option A) (r : Option B) → r ≡ option_map f o
    → cond b (Some (f x)) r ≡ option_map f (cond b (Some x) o)
chosen f true x o r e = refl
chosen f false x o r e = e

find-map : {A B : Type 0} (p : B → Bool) (f : A → B) (xs : List A)
    → find p (map f xs) ≡ option_map f (find (λ x. p (f x)) xs)
find-map p f [] = refl
find-map p f (x ∷ xs) = chosen f (p (f x)) x (find (λ y. p (f y)) xs) (find p (map f xs)) (find-map p f xs)

-- the pairs from row i on
abbrev pairs_from : ℕ → List (ℕ × ℕ)
pairs_from i = flat_map pairs_in_row (range_with_len i (12 - i))

pairs_from-next : (i : ℕ) → i < 12 → pairs_from i ≡ pairs_in_row i ++ pairs_from (i + 1)
pairs_from-next i lt =
    let more : 12 - i ≡ suc (12 - (i + 1)) = omega arith in
    rw more refl

-- the search in one row
abbrev in_row : List (List ℕ) → ℕ → Option ℕ
in_row rows i = find (λ j. differs rows (i, j)) (range_with_len (i + 1) (11 - i))

-- the search has come to row i
pub record SearchedTo (rows : List (List ℕ)) (i : ℕ) : Type 0 where
  pub rest : first_asymmetry rows ≡ find (differs rows) (pairs_from i)

pub searched_to-start : (rows : List (List ℕ)) → SearchedTo rows 0
unfolding first_asymmetry pairs
searched_to-start rows = record { rest = refl }

-- it goes on after the row, unless it ends there
searched_to-row : (rows : List (List ℕ)) (i : ℕ) → i < 12 → SearchedTo rows i
    → first_asymmetry rows ≡ option_or (option_map (λ j. (i, j)) (in_row rows i))
    (find (differs rows) (pairs_from (i + 1)))
searched_to-row rows i lt h =
    h.rest ∙ ap (find (differs rows)) (pairs_from-next i lt)
    ∙ find-append (differs rows) (pairs_in_row i) (pairs_from (i + 1))
    ∙ ap (λ o. option_or o (find (differs rows) (pairs_from (i + 1))))
    (find-map (differs rows) (λ j. (i, j)) (range_with_len (i + 1) (11 - i)))

pub searched_to-found : (rows : List (List ℕ)) (i j : ℕ) → i < 12 → SearchedTo rows i → in_row rows i ≡ Some j
    → first_asymmetry rows ≡ Some (i, j)
searched_to-found rows i j lt h e = searched_to-row rows i lt h ∙ rw e refl

pub searched_to-next : (rows : List (List ℕ)) (i : ℕ) → i < 12 → SearchedTo rows i → in_row rows i ≡ None
    → SearchedTo rows (i + 1)
searched_to-next rows i lt h e = record { rest = searched_to-row rows i lt h ∙ rw e refl }

both_none : {A : Type 0} (o r : Option A) → option_or o r ≡ None → (o ≡ None) × (r ≡ None)
both_none None r h = (refl, h)
both_none (Some x) r h = cc

-- nor a pair of their rows
find-rows : (p : ℕ × ℕ → Bool) (a n i : ℕ) → find p (flat_map pairs_in_row (range_with_len a n)) ≡ None → a ≤ i
    → i < a + n → find p (pairs_in_row i) ≡ None
find-rows p a zero i h low high = absurd (omega arith)
find-rows p a (suc n) i h low high =
    let later = flat_map pairs_in_row (range_with_len (a + 1) n) in
    let (here, more) = both_none (find p (pairs_in_row a)) (find p later)
    (sym (find-append p (pairs_in_row a) later) ∙ h) in
    elim (cases_lt a i) [
      | inl lt ↦ find-rows p (a + 1) n i more (omega arith) (omega arith)
      | inr ge ↦ let same : i ≡ a = omega arith in rw same here
    ]

map_none : {A B : Type 0} (f : A → B) (o : Option A) → option_map f o ≡ None → o ≡ None
map_none f None h = refl
map_none f (Some x) h = cc

-- where no pair differs, each correlation is the same in both directions
upper_same : (rows : List (List ℕ)) (i j : ℕ) → first_asymmetry rows ≡ None → i < j → j < 12
    → coefficient rows i j ≡ coefficient rows j i
unfolding first_asymmetry pairs
upper_same rows i j h lt last =
    let row = find-rows (differs rows) 0 12 i h (omega arith) (omega arith) in
    let none = map_none (λ k. (i, k)) (in_row rows i)
    (sym (find-map (differs rows) (λ k. (i, k)) (range_with_len (i + 1) (11 - i))) ∙ row) in
    let same = find-range (λ k. differs rows (i, k)) (i + 1) (11 - i) j none (omega arith) (omega arith) in
    elim (eqb_tells (coefficient rows i j) (coefficient rows j i)) [
      | inl (equal, e) ↦ e
      | inr (other, e) ↦ let turned = rw other at same in cc
    ]

pub coefficient_same : (rows : List (List ℕ)) (i j : ℕ) → first_asymmetry rows ≡ None → i < 12 → j < 12
    → coefficient rows i j ≡ coefficient rows j i
coefficient_same rows i j h a b =
    elim (cases_order i j) [
      | inl same ↦ rw same refl
      | inr (inl less) ↦ upper_same rows i j h less b
      | inr (inr more) ↦ sym (upper_same rows j i h more a)
    ]
