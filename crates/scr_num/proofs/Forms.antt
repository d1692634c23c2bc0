-- Sums over the cells of a table: two that are related term by term are related.
use Rattle.std.proofs.Common.{ℤ, List, [], ◌∷◌}
use Rattle.scr_num.specs.Table.{row_sum, sum_over}

-- two lists, related place by place
abbrev pub Related : {A B : Type 0} → (A → B → Type 0) → List A → List B → Type 0
Related P [] [] = Unit {0}
Related P [] (y ∷ ys) = ⊥
Related P (x ∷ xs) [] = ⊥
Related P (x ∷ xs) (y ∷ ys) = P x y × Related P xs ys

module _ {A A' B B' : Type 0} (P : A → A' → Type 0) (R : B → B' → Type 0)
    (zero : B) (zero' : B') (add : B → B → B) (add' : B' → B' → B')
    (term : ℤ → A → A → B) (term' : ℤ → A' → A' → B')
    (zeros : R zero zero') (sums : (x : B) (x' : B') (y : B) (y' : B') → R x x' → R y y' → R (add x y) (add' x' y'))
    (terms : (c : ℤ) (x : A) (x' : A') (y : A) (y' : A') → P x x' → P y y' → R (term c x y) (term' c x' y')) where
  row_sum-related : (x : A) (x' : A') (cells : List ℤ) (ys : List A) (ys' : List A') → P x x' → Related P ys ys'
      → R (row_sum zero add term x cells ys) (row_sum zero' add' term' x' cells ys')
  unfolding row_sum
  row_sum-related x x' [] ys ys' h k = zeros
  row_sum-related x x' (c ∷ cells) [] [] h k = zeros
  row_sum-related x x' (c ∷ cells) [] (y' ∷ ys') h k = absurd k
  row_sum-related x x' (c ∷ cells) (y ∷ ys) [] h k = absurd k
  row_sum-related x x' (c ∷ cells) (y ∷ ys) (y' ∷ ys') h k =
      sums _ _ _ _ (terms c x x' y y' h k.0) (row_sum-related x x' cells ys ys' h k.1)

  pub sum_over-related : (rows : List (List ℤ)) (xs : List A) (xs' : List A') (all : List A) (all' : List A')
      → Related P xs xs' → Related P all all'
      → R (sum_over zero add term rows xs all) (sum_over zero' add' term' rows xs' all')
  unfolding sum_over
  sum_over-related [] xs xs' all all' h k = zeros
  sum_over-related (row ∷ rows) [] [] all all' h k = zeros
  sum_over-related (row ∷ rows) [] (x' ∷ xs') all all' h k = absurd h
  sum_over-related (row ∷ rows) (x ∷ xs) [] all all' h k = absurd h
  sum_over-related (row ∷ rows) (x ∷ xs) (x' ∷ xs') all all' h k =
      sums _ _ _ _ (row_sum-related x x' row all all' h.0 k) (sum_over-related rows xs xs' all all' h.1 k)
