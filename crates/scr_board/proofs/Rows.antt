-- Lists read item by item.
use Rattle.std.proofs.Common.{◌≡◌, ℕ, zero, suc, ◌+◌, ◌<◌, ◌≤◌, List, [], ◌∷◌, ◌++◌, Option, Some, None, length, map, get_or, set, take, drop, slice_get, refl, sym, ap, ◌∙◌, subst, arith}
use Rattle.std.specs.Prelude.{MatchOption}
use Rattle.std.specs.List.{All, AllByRecursion}
use Rattle.std.proofs.lemmas.List.{map-append}
use Rattle.scr_board.specs.BoardRounds.{Spot, Fixed, Node, nodes_in}

module _ {A : Type 0} where
  pub take-past : (xs : List A) (k : ℕ) → length xs ≤ k → take k xs ≡ xs
  take-past [] zero le = refl
  take-past [] (suc k) le = refl
  take-past (x ∷ xs) zero le = absurd (omega (arith, le))
  take-past (x ∷ xs) (suc k) le = ap (λ ys. x ∷ ys) (take-past xs k (omega (arith, le)))

  pub take-push : (xs : List A) (k : ℕ) (x : A) → slice_get xs k ≡ Some x → take (k + 1) xs ≡ take k xs ++ x ∷ []
  take-push xs k x at = let next : k + 1 ≡ suc k = omega arith in ap (λ i. take i xs) next ∙ by xs k at
    where
      by : (ys : List A) (i : ℕ) → slice_get ys i ≡ Some x → take (suc i) ys ≡ take i ys ++ x ∷ []
      by [] i e = absurd (no e)
        where
          no : None ≡ Some x → ⊥
          no f = cc
      by (y ∷ ys) zero e = first ys (same e)
        where
          same : Some y ≡ Some x → y ≡ x
          same f = cc

          first : (zs : List A) → y ≡ x → take 1 (y ∷ zs) ≡ x ∷ []
          first [] f = ap (λ z. z ∷ []) f
          first (z ∷ zs) f = ap (λ w. w ∷ []) f
      by (y ∷ ys) (suc i) e = ap (λ zs. y ∷ zs) (by ys i e)

  -- a front to which the next item was pushed
  pub taken-next : (xs : List A) (k : ℕ) (x : A) (so_far now : List A) → slice_get xs k ≡ Some x → now ≡ so_far ++ x ∷ [] → so_far ≡ take k xs
      → now ≡ take (k + 1) xs
  taken-next xs k x so_far now at pushed before = pushed ∙ ap (λ ys. ys ++ x ∷ []) before ∙ sym (take-push xs k x at)

  pub drop-next : (xs : List A) (k : ℕ) (x : A) → slice_get xs k ≡ Some x → drop k xs ≡ x ∷ drop (k + 1) xs
  drop-next xs k x at = by xs k at ∙ ap (λ i. x ∷ drop i xs) next
    where
      next : suc k ≡ k + 1
      next = omega arith

      by : (ys : List A) (i : ℕ) → slice_get ys i ≡ Some x → drop i ys ≡ x ∷ drop (suc i) ys
      by [] i e = absurd (no e)
        where
          no : None ≡ Some x → ⊥
          no f = cc
      by (y ∷ ys) zero e = ap (λ z. z ∷ ys) (same e)
        where
          same : Some y ≡ Some x → y ≡ x
          same f = cc
      by (y ∷ ys) (suc i) e = by ys i e

  pub drop-past : (xs : List A) (k : ℕ) → length xs ≤ k → drop k xs ≡ []
  drop-past [] zero le = refl
  drop-past [] (suc k) le = refl
  drop-past (x ∷ xs) zero le = absurd (omega (arith, le))
  drop-past (x ∷ xs) (suc k) le = drop-past xs k (omega (arith, le))

  pub get-past_end : (xs : List A) (k : ℕ) → slice_get xs k ≡ None → length xs ≤ k
  get-past_end [] k e = omega arith
  get-past_end (x ∷ xs) zero e = absurd (no e)
    where
      no : Some x ≡ None → ⊥
      no f = cc
  get-past_end (x ∷ xs) (suc k) e = let more = get-past_end xs k e in omega (arith, more)

  pub get-within : (xs : List A) (k : ℕ) (x : A) → slice_get xs k ≡ Some x → k + 1 ≤ length xs
  get-within [] k x e = absurd (no e)
    where
      no : None ≡ Some x → ⊥
      no f = cc
  get-within (y ∷ xs) zero x e = omega arith
  get-within (y ∷ xs) (suc k) x e = let more = get-within xs k x e in omega (arith, more)

  -- what holds of each row holds of the row at a place
  pub each_row : (P : List A → Type 0) (rows : List (List A)) (n : ℕ) → AllByRecursion P rows → n < length rows → P (get_or rows n [])
  each_row P [] n h low = absurd (omega (arith, low))
  each_row P (row ∷ rows) zero h low = h.0
  each_row P (row ∷ rows) (suc n) h low = each_row P rows n h.1 (omega (arith, low))

  pub get-at : (xs : List A) (k : ℕ) (d : A) → k < length xs → slice_get xs k ≡ Some (get_or xs k d)
  get-at [] k d low = absurd (omega (arith, low))
  get-at (x ∷ xs) zero d low = refl
  get-at (x ∷ xs) (suc k) d low = get-at xs k d (omega (arith, low))

-- the nodes among places, one place more
pub nodes-next : (spot : Spot) (row : List Spot) → length (nodes_in (spot ∷ row)) ≡ length (nodes_in (spot ∷ [])) + length (nodes_in row)
nodes-next (Fixed e) row = omega arith
nodes-next (Node m) row = omega arith

module _ {A : Type 0} where
  pub none_in : (xs : List A) → length xs ≡ 0 → xs ≡ []
  none_in [] e = refl
  none_in (x ∷ xs) e = absurd (omega (arith, e))

  -- what is popped from an empty list
  pub popped_none : (result : Option A) (old new : ℕ) → result ≡ None → MatchOption result ((old ≡ 0) × (new ≡ 0)) (λ _. new + 1 ≡ old) → (old ≡ 0) × (new ≡ 0)
  popped_none result old new is cases = subst (λ o. MatchOption o ((old ≡ 0) × (new ≡ 0)) (λ _. new + 1 ≡ old)) is cases

pub take-zero : {A : Type 0} (xs : List A) → take 0 xs ≡ []
take-zero [] = refl
take-zero (x ∷ xs) = refl

-- one item more of two lists that run side by side
pub grown : {A B C : Type 0} (g : A → C) (f : B → C) (xs : List A) (x : A) (row : List B) (k : ℕ) (y : B) → slice_get row k ≡ Some y
    → map g xs ≡ map f (take k row) → f y ≡ g x → map g (xs ++ x ∷ []) ≡ map f (take (k + 1) row)
grown g f xs x row k y at so_far last =
    map-append g xs (x ∷ []) ∙ ap (λ ys. ys ++ g x ∷ []) so_far ∙ ap (λ c. map f (take k row) ++ c ∷ []) (sym last)
    ∙ sym (map-append f (take k row) (y ∷ [])) ∙ ap (map f) (sym (take-push row k y at))

-- a front with one item more, which was just written
pub take-set : {A : Type 0} (xs : List A) (n : ℕ) (x : A) → n < length xs → take (n + 1) (set xs n x) ≡ take n xs ++ x ∷ []
take-set {A = A} xs n x low = let next : n + 1 ≡ suc n = omega arith in ap (λ i. take i (set xs n x)) next ∙ by xs n low
  where
    by : (ys : List A) (i : ℕ) → i < length ys → take (suc i) (set ys i x) ≡ take i ys ++ x ∷ []
    by [] i less = absurd (omega (arith, less))
    by (y ∷ ys) zero less = ap (λ zs. x ∷ zs) (take-zero ys) ∙ sym (ap (λ zs. zs ++ x ∷ []) (take-zero (y ∷ ys)))
    by (y ∷ ys) (suc i) less = ap (λ zs. y ∷ zs) (by ys i (omega (arith, less)))

-- what holds of each item holds at each place, and the other way round
pub all_of : {A : Type 0} (P : A → Type 0) (xs : List A) → AllByRecursion P xs → All P xs
all_of P [] h k d low = absurd (omega (arith, low))
all_of P (x ∷ xs) h zero d low = h.0
all_of P (x ∷ xs) h (suc k) d low = all_of P xs h.1 k d (omega (arith, low))

pub each_of : {A : Type 0} (P : A → Type 0) (xs : List A) → All P xs → AllByRecursion P xs
each_of P [] h = tt
each_of P (x ∷ xs) h = (h 0 x (omega arith), each_of P xs (λ k d low. h (suc k) d (omega (arith, low))))
