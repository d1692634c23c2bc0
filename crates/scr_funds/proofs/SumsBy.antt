-- Sums over lists: term by term, of sums, in the other order, after a map, and over those that pass a test.
use Rattle.std.proofs.Common.{◌≡◌, ℕ, ◌+◌, ◌≤◌, Bool, true, false, cond, List, [], ◌∷◌, map, filter, sum_by, if◌then◌else◌, refl, sym, ap, ◌∙◌, inl, inr, arith, zero-add}
use Rattle.std.proofs.lemmas.List.Sums.{sum_by-cons}
use Rattle.scr_funds.proofs.Members.{IsMember}

module _ {X : Type 0} where
  pub sum_by-same : (f g : X → ℕ) (xs : List X) → ((x : X) → IsMember x xs → f x ≡ g x) → sum_by f xs ≡ sum_by g xs
  sum_by-same f g [] h = refl
  sum_by-same f g (x ∷ xs) h =
      let later : sum_by f xs ≡ sum_by g xs = sum_by-same f g xs (λ y m. h y (inr m)) in
      let here : f x ≡ g x = h x (inl refl) in
      omega (arith, sum_by-cons f x xs, sum_by-cons g x xs)

  pub sum_by-none : (f : X → ℕ) (xs : List X) → ((x : X) → IsMember x xs → f x ≡ 0) → sum_by f xs ≡ 0
  sum_by-none f [] h = refl
  sum_by-none f (x ∷ xs) h =
      let later : sum_by f xs ≡ 0 = sum_by-none f xs (λ y m. h y (inr m)) in
      let here : f x ≡ 0 = h x (inl refl) in
      omega (arith, sum_by-cons f x xs)

  pub sum_by-within : (f g : X → ℕ) (xs : List X) → ((x : X) → IsMember x xs → f x ≤ g x) → sum_by f xs ≤ sum_by g xs
  sum_by-within f g [] h = omega arith
  sum_by-within f g (x ∷ xs) h =
      let later : sum_by f xs ≤ sum_by g xs = sum_by-within f g xs (λ y m. h y (inr m)) in
      let here : f x ≤ g x = h x (inl refl) in
      omega (arith, sum_by-cons f x xs, sum_by-cons g x xs)

  pub sum_by-add : (f g : X → ℕ) (xs : List X) → sum_by (λ x. f x + g x) xs ≡ sum_by f xs + sum_by g xs
  sum_by-add f g [] = omega arith
  sum_by-add f g (x ∷ xs) =
      let later : sum_by (λ x. f x + g x) xs ≡ sum_by f xs + sum_by g xs = sum_by-add f g xs in
      omega (arith, sum_by-cons f x xs, sum_by-cons g x xs, sum_by-cons (λ x. f x + g x) x xs)

pub sum_by-swap : {X Y : Type 0} (f : X → Y → ℕ) (xs : List X) (ys : List Y)
    → sum_by (λ x. sum_by (f x) ys) xs ≡ sum_by (λ y. sum_by (λ x. f x y) xs) ys
sum_by-swap f [] ys = sym (sum_by-none (λ y. 0) ys (λ y m. refl))
sum_by-swap f (x ∷ xs) ys =
    sum_by-cons (λ x. sum_by (f x) ys) x xs ∙ ap (λ n. sum_by (f x) ys + n) (sum_by-swap f xs ys)
    ∙ sym (sum_by-add (f x) (λ y. sum_by (λ x. f x y) xs) ys)
    ∙ sum_by-same (λ y. f x y + sum_by (λ x. f x y) xs) (λ y. sum_by (λ x. f x y) (x ∷ xs)) ys
    (λ y m. sym (sum_by-cons (λ x. f x y) x xs))

pub sum_by-map : {X Y : Type 0} (g : Y → ℕ) (f : X → Y) (xs : List X) → sum_by g (map f xs) ≡ sum_by (λ x. g (f x)) xs
sum_by-map g f [] = refl
sum_by-map g f (x ∷ xs) = sum_by-cons g (f x) (map f xs) ∙ ap (λ n. g (f x) + n) (sum_by-map g f xs)
    ∙ sym (sum_by-cons (λ y. g (f y)) x xs)

pub sum_by-filter : {X : Type 0} (f : X → ℕ) (p : X → Bool) (xs : List X)
    → sum_by f (filter p xs) ≡ sum_by (λ x. if p x then f x else 0) xs
sum_by-filter f p [] = refl
sum_by-filter f p (x ∷ xs) = by (p x) refl (sum_by-filter f p xs)
  where
    by : (t : Bool) → p x ≡ t → sum_by f (filter p xs) ≡ sum_by (λ y. if p y then f y else 0) xs
        → sum_by f (filter p (x ∷ xs)) ≡ sum_by (λ y. if p y then f y else 0) (x ∷ xs)
    by true e later =
        ap (λ b. sum_by f (cond b (x ∷ filter p xs) (filter p xs))) e ∙ sum_by-cons f x (filter p xs)
        ∙ ap (λ n. f x + n) later
        ∙ ap (λ b. (if b then f x else 0) + sum_by (λ y. if p y then f y else 0) xs) (sym e)
        ∙ sym (sum_by-cons (λ y. if p y then f y else 0) x xs)
    by false e later =
        ap (λ b. sum_by f (cond b (x ∷ filter p xs) (filter p xs))) e ∙ later
        ∙ sym (zero-add (sum_by (λ y. if p y then f y else 0) xs))
        ∙ ap (λ b. (if b then f x else 0) + sum_by (λ y. if p y then f y else 0) xs) (sym e)
        ∙ sym (sum_by-cons (λ y. if p y then f y else 0) x xs)
