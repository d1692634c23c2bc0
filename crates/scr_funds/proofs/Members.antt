-- Membership in a list, by recursion, and what holds of each member.
use Rattle.std.proofs.Common.{◌≡◌, ◌⊎◌, ℕ, ◌<◌, ◌≤◌, suc, zero, true, false, nat_eq, List, [], ◌∷◌, ◌++◌, map, length, get_or, All, Contains, Some, slice_get, refl, sym, ap, subst, inl, inr, arith}
use Rattle.std.specs.List.{AllByRecursion, list_any}
use Rattle.std.proofs.lemmas.Bool.{cases_lt, true≢false}
use Rattle.std.proofs.lemmas.List.Elements.{Contains-get_or}
use Rattle.scr_funds.specs.Chains.{IsMetBefore}

-- x is one of the list
abbrev pub IsMember : {A : Type 0} → A → List A → Type 0
IsMember x [] = ⊥
IsMember x (y ∷ ys) = (x ≡ y) ⊎ IsMember x ys

module _ {A : Type 0} where
  pub IsMember-from_Contains : (xs : List A) (x : A) → Contains xs x → IsMember x xs
  IsMember-from_Contains xs x h = at xs h.0 h.1 h.2
    where
      at : (ys : List A) (k : ℕ) → k < length ys → get_or ys k x ≡ x → IsMember x ys
      at [] k l e = absurd (omega arith)
      at (y ∷ ys) zero l e = inl (sym e)
      at (y ∷ ys) (suc k) l e = inr (at ys k (omega arith) e)

  pub Contains-from_IsMember : (xs : List A) (x : A) → IsMember x xs → Contains xs x
  Contains-from_IsMember [] x h = absurd h
  Contains-from_IsMember (y ∷ ys) x (inl e) = (0, omega arith, sym e)
  Contains-from_IsMember (y ∷ ys) x (inr h) =
      let later = Contains-from_IsMember ys x h in
      let l : later.0 < length ys = later.1 in
      (suc later.0, omega arith, later.2)

  pub IsMember-left : (xs ys : List A) (x : A) → IsMember x xs → IsMember x (xs ++ ys)
  IsMember-left [] ys x h = absurd h
  IsMember-left (z ∷ zs) ys x (inl e) = inl e
  IsMember-left (z ∷ zs) ys x (inr h) = inr (IsMember-left zs ys x h)

  pub IsMember-right : (xs ys : List A) (x : A) → IsMember x ys → IsMember x (xs ++ ys)
  IsMember-right [] ys x h = h
  IsMember-right (z ∷ zs) ys x h = inr (IsMember-right zs ys x h)

  pub IsMember-cases : (xs ys : List A) (x : A) → IsMember x (xs ++ ys) → IsMember x xs ⊎ IsMember x ys
  IsMember-cases [] ys x h = inr h
  IsMember-cases (z ∷ zs) ys x (inl e) = inl (inl e)
  IsMember-cases (z ∷ zs) ys x (inr h) = let rest = IsMember-cases zs ys x h in grind (arith, rest)

  -- what holds of each holds of a member
  pub at_member : (P : A → Type 0) (xs : List A) (x : A) → AllByRecursion P xs → IsMember x xs → P x
  at_member P [] x all h = absurd h
  at_member P (y ∷ ys) x all (inl e) = subst P (sym e) all.0
  at_member P (y ∷ ys) x all (inr h) = at_member P ys x all.1 h

  pub each_push : (P : A → Type 0) (xs : List A) (x : A) → AllByRecursion P xs → P x → AllByRecursion P (xs ++ x ∷ [])
  each_push P [] x all p = (p, tt)
  each_push P (y ∷ ys) x all p = (all.0, each_push P ys x all.1 p)

  pub each_weaker : (P Q : A → Type 0) → ((x : A) → P x → Q x) → (xs : List A) → AllByRecursion P xs
      → AllByRecursion Q xs
  each_weaker P Q f [] all = tt
  each_weaker P Q f (y ∷ ys) all = (f y all.0, each_weaker P Q f ys all.1)

  pub each-from_members : (P : A → Type 0) (xs : List A) → ((x : A) → IsMember x xs → P x) → AllByRecursion P xs
  each-from_members P [] f = tt
  each-from_members P (x ∷ xs) f = (f x (inl refl), each-from_members P xs (λ y m. f y (inr m)))

  pub All-from_members : (P : A → Type 0) (xs : List A) → ((x : A) → IsMember x xs → P x) → All P xs
  All-from_members P xs f = λ k d l. f (get_or xs k d)
      (IsMember-from_Contains xs (get_or xs k d) (Contains-get_or xs k d l))

  -- a member of a mapped list comes from one of the list
  pub IsMember-map : {B : Type 0} (f : B → A) (xs : List B) (y : A) → IsMember y (map f xs)
      → (x : B) × IsMember x xs × (f x ≡ y)
  IsMember-map f [] y h = absurd h
  IsMember-map f (x ∷ xs) y (inl e) = (x, inl refl, sym e)
  IsMember-map f (x ∷ xs) y (inr h) = let later = IsMember-map f xs y h in (later.0, inr later.1, later.2)

  pub IsMember-mapped : {B : Type 0} (f : B → A) (xs : List B) (x : B) → IsMember x xs → IsMember (f x) (map f xs)
  IsMember-mapped f [] x h = absurd h
  IsMember-mapped f (y ∷ ys) x (inl e) = inl (ap f e)
  IsMember-mapped f (y ∷ ys) x (inr h) = inr (IsMember-mapped f ys x h)

  -- a member of the front is met before what is none of it
  pub met_in_front : (front rest : List A) (c d : A) → IsMember c front → (IsMember d front → ⊥)
      → IsMetBefore (front ++ rest) c d
  met_in_front [] rest c d h apart = absurd h
  met_in_front (z ∷ zs) rest c d (inl e) apart = (0, ap Some (sym e), before)
    where
      before : (j : ℕ) → j ≤ 0 → slice_get (z ∷ (zs ++ rest)) j ≡ Some d → ⊥
      before zero l k = apart (inl (let same : z ≡ d = cc in sym same))
      before (suc j) l k = absurd (omega arith)
  met_in_front (z ∷ zs) rest c d (inr h) apart =
      let later = met_in_front zs rest c d h (λ k. apart (inr k)) in
      (suc later.0, later.1, before later.0 later.2)
    where
      before : (i : ℕ) → ((j : ℕ) → j ≤ i → slice_get (zs ++ rest) j ≡ Some d → ⊥) → (j : ℕ) → j ≤ suc i
          → slice_get (z ∷ (zs ++ rest)) j ≡ Some d → ⊥
      before i none zero l k = apart (inl (let same : z ≡ d = cc in sym same))
      before i none (suc j) l k = none j (omega arith) k

  pub met_before-trans : (xs : List A) (c d e : A) → IsMetBefore xs c d → IsMetBefore xs d e → IsMetBefore xs c e
  met_before-trans xs c d e h k = by (cases_lt h.0 k.0)
    where
      by : (h.0 < k.0) ⊎ (k.0 ≤ h.0) → IsMetBefore xs c e
      by (inl l) = (h.0, h.1, λ j m. k.2 j (omega arith))
      by (inr l) = absurd (h.2 k.0 l k.1)

pub not_before_itself : {A : Type 0} (xs : List A) (c : A) → IsMetBefore xs c c → ⊥
not_before_itself xs c h = h.2 h.0 (omega arith) h.1

-- ---- the test for a number

IsMember-any : (xs : List ℕ) (x : ℕ) → list_any (λ y. nat_eq y x) xs ≡ true → IsMember x xs
IsMember-any [] x h = absurd (true≢false (sym h))
IsMember-any (y ∷ ys) x h = let rest = IsMember-any ys x in grind (arith, h, rest)

not_member-any : (xs : List ℕ) (x : ℕ) → list_any (λ y. nat_eq y x) xs ≡ false → IsMember x xs → ⊥
not_member-any [] x h m = absurd m
not_member-any (y ∷ ys) x h m = let rest = not_member-any ys x in grind (arith, h, m, rest)

pub Contains-any : (xs : List ℕ) (x : ℕ) → list_any (λ y. nat_eq y x) xs ≡ true → Contains xs x
Contains-any xs x h = Contains-from_IsMember xs x (IsMember-any xs x h)

pub not_contains-any : (xs : List ℕ) (x : ℕ) → list_any (λ y. nat_eq y x) xs ≡ false → Contains xs x → ⊥
not_contains-any xs x h k = not_member-any xs x h (IsMember-from_Contains xs x k)
