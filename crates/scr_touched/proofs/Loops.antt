-- A loop that keeps of a list what passes a test.
use Rattle.std.proofs.Common.{◌≡◌, ℕ, ◌+◌, ◌<◌, Bool, true, false, cond, List, [], ◌∷◌, ◌++◌, length, get_or, drop, filter, sym, ap, ◌∙◌, append_assoc}
use Rattle.std.proofs.lemmas.List.{drop_more}

module _ {A : Type 0} (test : A → Bool) (all whole : List A) (k : ℕ) (x : A) (before : k < length all)
    (is : x ≡ get_or all k x) (items after : List A) (so_far : items ++ filter test (drop k all) ≡ whole) where
  -- what is left begins with the one in turn
  rest : (b : Bool) → test x ≡ b
      → filter test (drop k all) ≡ cond b (x ∷ filter test (drop (k + 1) all)) (filter test (drop (k + 1) all))
  rest b e =
      ap (filter test) (drop_more all k x before)
      ∙ ap (λ y. filter test (y ∷ drop (k + 1) all)) (sym is)
      ∙ ap (λ t. cond t (x ∷ filter test (drop (k + 1) all)) (filter test (drop (k + 1) all))) e

  pub kept-one : test x ≡ true → after ≡ items ++ x ∷ [] → after ++ filter test (drop (k + 1) all) ≡ whole
  kept-one pass next =
      ap (λ xs. xs ++ filter test (drop (k + 1) all)) next
      ∙ append_assoc items (x ∷ []) (filter test (drop (k + 1) all))
      ∙ ap (λ xs. items ++ xs) (sym (rest true pass)) ∙ so_far

  pub passed-one : test x ≡ false → after ≡ items → after ++ filter test (drop (k + 1) all) ≡ whole
  passed-one fail next =
      ap (λ xs. xs ++ filter test (drop (k + 1) all)) next
      ∙ ap (λ xs. items ++ xs) (sym (rest false fail)) ∙ so_far
