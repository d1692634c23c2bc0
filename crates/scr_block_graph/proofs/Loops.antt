-- Loops that push what each of a list gives.
use Rattle.std.proofs.Common.{◌≡◌, ◌⊎◌, inl, inr, ℕ, ◌+◌, ◌<◌, ◌≤◌, List, [], ◌∷◌, ◌++◌, Some, None, length, get_or, slice_get, drop, take, map, option_to_list, sym, ap, ◌∙◌, append_assoc, arith}
use Rattle.std.specs.Prelude.{flat_map}
use Rattle.std.specs.List.{range_with_len}
use Rattle.std.proofs.lemmas.List.{append-nil, drop_more, map-append, take_all, take_more}
use Rattle.std.proofs.lemmas.List.FromFn.{map-range_with_len_more}
use Rattle.std.proofs.lemmas.Option.{slice_get_cases}

module _ {A B : Type 0} (all : List A) (k : ℕ) (x : A) (before : k < length all) (is : x ≡ get_or all k x) (items after whole : List B) where
  -- what is left begins with the one in turn
  left : drop k all ≡ x ∷ drop (k + 1) all
  left = drop_more all k x before ∙ ap (λ y. y ∷ drop (k + 1) all) (sym is)

  module _ (f : A → List B) (so_far : items ++ flat_map f (drop k all) ≡ whole) where
    pub added-each : after ≡ items ++ f x → after ++ flat_map f (drop (k + 1) all) ≡ whole
    added-each next =
        ap (λ xs. xs ++ flat_map f (drop (k + 1) all)) next
        ∙ append_assoc items (f x) (flat_map f (drop (k + 1) all))
        ∙ ap (λ ys. items ++ flat_map f ys) (sym left) ∙ so_far

-- numbers in their order
pub next-number : {B : Type 0} (f : ℕ → B) (k : ℕ) (items after first : List B) → items ≡ first ++ map f (range_with_len 0 k) → after ≡ items ++ f k ∷ []
    → after ≡ first ++ map f (range_with_len 0 (k + 1))
next-number f k items after first so_far next =
    next ∙ ap (λ xs. xs ++ f k ∷ []) so_far ∙ append_assoc first (map f (range_with_len 0 k)) (f k ∷ [])
    ∙ ap (λ xs. first ++ xs) (sym (map-range_with_len_more f 0 k k (omega arith)))

-- the first of a list, and one more where there is one
pub take-next : {A : Type 0} (xs : List A) (k : ℕ) → take (k + 1) xs ≡ take k xs ++ option_to_list (slice_get xs k)
take-next xs k = by (slice_get_cases xs k).1
  where
    by : ((x : _) × (k < length xs) × (slice_get xs k ≡ Some x) × (get_or xs k x ≡ x)) ⊎ ((length xs ≤ k) × (slice_get xs k ≡ None))
        → take (k + 1) xs ≡ take k xs ++ option_to_list (slice_get xs k)
    by (inl found) =
        take_more xs k found.0 found.1 ∙ ap (λ y. take k xs ++ y ∷ []) found.3 ∙ ap (λ o. take k xs ++ option_to_list o) (sym found.2)
    by (inr past) =
        take_all (k + 1) xs (omega (arith, past.0)) ∙ sym (take_all k xs past.0) ∙ sym (append-nil (take k xs))
        ∙ ap (λ o. take k xs ++ option_to_list o) (sym past.1)

pub next-place : {A B : Type 0} (f : A → B) (list : List A) (k : ℕ) (items after first : List B) → items ≡ first ++ map f (take k list)
    → after ≡ items ++ map f (option_to_list (slice_get list k)) → after ≡ first ++ map f (take (k + 1) list)
next-place f list k items after first so_far next =
    next ∙ ap (λ xs. xs ++ map f (option_to_list (slice_get list k))) so_far
    ∙ append_assoc first (map f (take k list)) (map f (option_to_list (slice_get list k)))
    ∙ ap (λ xs. first ++ xs) (sym (map-append f (take k list) (option_to_list (slice_get list k))) ∙ ap (map f) (sym (take-next list k)))
