-- Membership in a list, by recursion.
use Rattle.std.proofs.Common.{◌≡◌, ◌⊎◌, ℕ, ◌<◌, suc, zero, Bool, true, false, nat_eq, ◌||◌, List, [], ◌∷◌, ◌++◌, ◌+◌, drop, if◌then◌else◌, map, length, get_or, Contains, Some, slice_get, refl, sym, ap, subst, ◌∙◌, inl, inr, arith}
use Rattle.std.specs.List.{AllByRecursion, IsDistinct, list_any}
use Rattle.std.proofs.lemmas.Bool.{true≢false}
use Rattle.std.proofs.lemmas.List.{append_assoc}
use Rattle.std.proofs.lemmas.Map.Keys.{IsDistinct-tail}
use Rattle.indexmap.specs.IndexSet.{insert_key}
use Rattle.std.proofs.lemmas.Bool.Decides.{eqb_tells}

-- x is one of the list
abbrev pub IsMember : {A : Type 0} → A → List A → Type 0
IsMember x [] = ⊥
IsMember x (y ∷ ys) = (x ≡ y) ⊎ IsMember x ys

module _ {A : Type 0} where
  pub IsMember-from_Contains : (xs : List A) (x : A) → Contains xs x → IsMember x xs
  IsMember-from_Contains xs x h = at xs h.0 h.1 h.2
    where
      at : (ys : List A) (k : ℕ) → k < length ys → get_or ys k x ≡ x → IsMember x ys
      at [] k l e = absurd (omega arith)
      at (y ∷ ys) zero l e = inl (sym e)
      at (y ∷ ys) (suc k) l e = inr (at ys k (omega arith) e)

  pub Contains-from_IsMember : (xs : List A) (x : A) → IsMember x xs → Contains xs x
  Contains-from_IsMember [] x h = absurd h
  Contains-from_IsMember (y ∷ ys) x (inl e) = (0, omega arith, sym e)
  Contains-from_IsMember (y ∷ ys) x (inr h) =
      let later = Contains-from_IsMember ys x h in
      let l : later.0 < length ys = later.1 in
      (suc later.0, omega arith, later.2)

  pub IsMember-left : (xs ys : List A) (x : A) → IsMember x xs → IsMember x (xs ++ ys)
  IsMember-left [] ys x h = absurd h
  IsMember-left (z ∷ zs) ys x (inl e) = inl e
  IsMember-left (z ∷ zs) ys x (inr h) = inr (IsMember-left zs ys x h)

  pub IsMember-right : (xs ys : List A) (x : A) → IsMember x ys → IsMember x (xs ++ ys)
  IsMember-right [] ys x h = h
  IsMember-right (z ∷ zs) ys x h = inr (IsMember-right zs ys x h)

  pub IsMember-cases : (xs ys : List A) (x : A) → IsMember x (xs ++ ys) → IsMember x xs ⊎ IsMember x ys
  IsMember-cases [] ys x h = inr h
  IsMember-cases (z ∷ zs) ys x (inl e) = inl (inl e)
  IsMember-cases (z ∷ zs) ys x (inr h) = by (IsMember-cases zs ys x h)
    where
      by : IsMember x zs ⊎ IsMember x ys → IsMember x (z ∷ zs) ⊎ IsMember x ys
      by (inl k) = inl (inr k)
      by (inr k) = inr k

  -- a member of a mapped list comes from one of the list
  pub IsMember-map : {B : Type 0} (f : B → A) (xs : List B) (y : A) → IsMember y (map f xs)
      → (x : B) × IsMember x xs × (f x ≡ y)
  IsMember-map f [] y h = absurd h
  IsMember-map f (x ∷ xs) y (inl e) = (x, inl refl, sym e)
  IsMember-map f (x ∷ xs) y (inr h) = let later = IsMember-map f xs y h in (later.0, inr later.1, later.2)

  pub IsMember-mapped : {B : Type 0} (f : B → A) (xs : List B) (x : B) → IsMember x xs → IsMember (f x) (map f xs)
  IsMember-mapped f [] x h = absurd h
  IsMember-mapped f (y ∷ ys) x (inl e) = inl (ap f e)
  IsMember-mapped f (y ∷ ys) x (inr h) = inr (IsMember-mapped f ys x h)

  -- a member has a place, and what has a place is a member
  pub place_of : (xs : List A) (x : A) → IsMember x xs → (k : ℕ) × (slice_get xs k ≡ Some x)
  place_of [] x h = absurd h
  place_of (y ∷ ys) x (inl e) = (0, ap Some (sym e))
  place_of (y ∷ ys) x (inr h) = let later = place_of ys x h in (suc later.0, later.1)

  pub IsMember-from_place : (xs : List A) (k : ℕ) (x : A) → slice_get xs k ≡ Some x → IsMember x xs
  IsMember-from_place [] k x e = cc
  IsMember-from_place (y ∷ ys) zero x e = let same : y ≡ x = cc in inl (sym same)
  IsMember-from_place (y ∷ ys) (suc k) x e = inr (IsMember-from_place ys k x e)

  pub each_member : (P : A → Type 0) (xs : List A) (x : A) → AllByRecursion P xs → IsMember x xs → P x
  each_member P [] x all h = absurd h
  each_member P (y ∷ ys) x all (inl e) = subst P (sym e) all.0
  each_member P (y ∷ ys) x all (inr h) = each_member P ys x all.1 h

  pub each-from_members : (P : A → Type 0) (xs : List A) → ((x : A) → IsMember x xs → P x) → AllByRecursion P xs
  each-from_members P [] f = tt
  each-from_members P (x ∷ xs) f = (f x (inl refl), each-from_members P xs (λ y m. f y (inr m)))

-- ---- the test for a number

any-later : (x y : ℕ) (ys : List ℕ) → nat_eq x y ≡ false → list_any (nat_eq x) (y ∷ ys) ≡ list_any (nat_eq x) ys
any-later x y ys e = ap (λ b. b || list_any (nat_eq x) ys) e

pub any-from_member : (x : ℕ) (xs : List ℕ) → IsMember x xs → list_any (nat_eq x) xs ≡ true
any-from_member x [] m = absurd m
any-from_member x (y ∷ ys) m = by (eqb_tells x y) m (any-from_member x ys)
  where
    by : ((nat_eq x y ≡ true) × (x ≡ y)) ⊎ ((nat_eq x y ≡ false) × (x ≡ y → ⊥)) → IsMember x (y ∷ ys)
        → (IsMember x ys → list_any (nat_eq x) ys ≡ true) → list_any (nat_eq x) (y ∷ ys) ≡ true
    by (inl t) k later = ap (λ b. b || list_any (nat_eq x) ys) t.0
    by (inr f) (inl k) later = absurd (f.1 k)
    by (inr f) (inr k) later = any-later x y ys f.0 ∙ later k

pub member-from_any : (x : ℕ) (xs : List ℕ) → list_any (nat_eq x) xs ≡ true → IsMember x xs
member-from_any x [] h = absurd (true≢false (sym h))
member-from_any x (y ∷ ys) h = by (eqb_tells x y) (λ e. member-from_any x ys (sym (any-later x y ys e) ∙ h))
  where
    by : ((nat_eq x y ≡ true) × (x ≡ y)) ⊎ ((nat_eq x y ≡ false) × (x ≡ y → ⊥)) → (nat_eq x y ≡ false → IsMember x ys)
        → IsMember x (y ∷ ys)
    by (inl t) later = inl t.1
    by (inr f) later = inr (later f.0)

pub any-from_none : (x : ℕ) (xs : List ℕ) → (IsMember x xs → ⊥) → list_any (nat_eq x) xs ≡ false
any-from_none x xs none = by (list_any (nat_eq x) xs) refl
  where
    by : (b : Bool) → list_any (nat_eq x) xs ≡ b → list_any (nat_eq x) xs ≡ false
    by true e = absurd (none (member-from_any x xs e))
    by false e = e

-- ---- lists that name none twice

pub same_number : (n : ℕ) → nat_eq n n ≡ true
same_number n = by (eqb_tells n n)
  where
    by : ((nat_eq n n ≡ true) × (n ≡ n)) ⊎ ((nat_eq n n ≡ false) × (n ≡ n → ⊥)) → nat_eq n n ≡ true
    by (inl t) = t.0
    by (inr f) = absurd (f.1 refl)

pub apart : (x : ℕ) (xs : List ℕ) → IsDistinct nat_eq (x ∷ xs) → IsMember x xs → ⊥
unfolding IsDistinct
apart x xs h m = true≢false (sym (same_number x) ∙ each_member (λ z. nat_eq x z ≡ false) xs x h.0 m)

not_in_front : (n : ℕ) (rest ks : List ℕ) → IsDistinct nat_eq (ks ++ n ∷ rest) → IsMember n ks → ⊥
not_in_front n rest [] h m = absurd m
not_in_front n rest (k ∷ ks) h (inl e) =
    apart k (ks ++ n ∷ rest) h (IsMember-right ks (n ∷ rest) k (inl (sym e)))
not_in_front n rest (k ∷ ks) h (inr m) = not_in_front n rest ks (IsDistinct-tail nat_eq k (ks ++ n ∷ rest) h) m

-- a key of a list that names none twice is inserted after those before it
pub inserted : (keys rest all : List ℕ) (n : ℕ) → IsDistinct nat_eq all → keys ++ n ∷ rest ≡ all
    → insert_key nat_eq keys n ++ rest ≡ all
inserted keys rest all n once e =
    ap (λ b. (if b then keys else keys ++ n ∷ []) ++ rest) (any-from_none n keys (not_in_front n rest keys once'))
    ∙ append_assoc keys (n ∷ []) rest ∙ e
  where
    once' : IsDistinct nat_eq (keys ++ n ∷ rest)
    once' = subst (IsDistinct nat_eq) (sym e) once

-- what is to come, one by one
pub next_of : (xs : List ℕ) (i : ℕ) → i < length xs → drop i xs ≡ get_or xs i 0 ∷ drop (i + 1) xs
next_of [] i l = absurd (omega arith)
next_of (x ∷ xs) zero l = refl
next_of (x ∷ xs) (suc i) l =
    let one : suc (i + 1) ≡ suc i + 1 = omega arith in
    next_of xs i (omega arith) ∙ ap (λ j. get_or xs i 0 ∷ drop j (x ∷ xs)) one

pub IsMember-get_or : (xs : List ℕ) (i : ℕ) → i < length xs → IsMember (get_or xs i 0) xs
IsMember-get_or [] i l = absurd (omega arith)
IsMember-get_or (x ∷ xs) zero l = inl refl
IsMember-get_or (x ∷ xs) (suc i) l = inr (IsMember-get_or xs i (omega arith))

pub inserted_cases : (keys : List ℕ) (n x : ℕ) → IsMember x (insert_key nat_eq keys n) → IsMember x keys ⊎ (x ≡ n)
inserted_cases keys n x m = by (list_any (nat_eq n) keys) m
  where
    by : (b : Bool) → IsMember x (if b then keys else keys ++ n ∷ []) → IsMember x keys ⊎ (x ≡ n)
    by true h = inl h
    by false h = pick (IsMember-cases keys (n ∷ []) x h)
      where
        pick : IsMember x keys ⊎ IsMember x (n ∷ []) → IsMember x keys ⊎ (x ≡ n)
        pick (inl k) = inl k
        pick (inr (inl e)) = inr e
        pick (inr (inr none)) = absurd none
