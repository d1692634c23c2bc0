-- No figure stands twice among the candidates: what a first list and a later one have in common is told by a test.
use Rattle.std.proofs.Common.{◌≡◌, ◌⊎◌, inl, inr, ℕ, ◌==◌, Bool, true, false, not, cond, List, [], ◌∷◌, ◌++◌, map, filter, sym, ap, subst, ◌∙◌}
use Rattle.std.proofs.lemmas.Bool.{eq-eqb}
use Rattle.scr_funds.proofs.Members.{IsMember, IsMember-cases, IsMember-left, IsMember-right}
use Rattle.scr_tables.proofs.TableRows.{passes_or_fails}
use Rattle.scr_nodes.proofs.Apart.{AreApart, apart-append}
use Rattle.scr_nodes.proofs.Parts.{both, differ, is_none_of}

module _ {A : Type 0} (test : A → Bool) where
  -- by whether the first passes
  first_kept : (y : A) (ys : List A) {b : Bool} → test y ≡ b
      → filter test (y ∷ ys) ≡ cond b (y ∷ filter test ys) (filter test ys)
  first_kept y ys e = ap (λ b. cond b (y ∷ filter test ys) (filter test ys)) e

  -- what passes is one of the list and passes
  pub kept-member : (xs : List A) (x : A) → IsMember x (filter test xs) → IsMember x xs × (test x ≡ true)
  kept-member [] x m = absurd m
  kept-member (y ∷ ys) x m =
      passes_or_fails (test y)
      (λ e. by e (kept-member ys x) (subst (IsMember x) (first_kept y ys e) m))
      (λ e. let later = kept-member ys x (subst (IsMember x) (first_kept y ys e) m) in (inr later.0, later.1))
    where
      by : test y ≡ true → (IsMember x (filter test ys) → IsMember x ys × (test x ≡ true))
          → (x ≡ y) ⊎ IsMember x (filter test ys) → ((x ≡ y) ⊎ IsMember x ys) × (test x ≡ true)
      by e on (inl same) = (inl same, ap test same ∙ e)
      by e on (inr n) = let later = on n in (inr later.0, later.1)

  pub member-kept : (xs : List A) (x : A) → IsMember x xs → test x ≡ true → IsMember x (filter test xs)
  member-kept [] x m e = absurd m
  member-kept (y ∷ ys) x (inl same) e =
      subst (IsMember x) (sym (first_kept y ys (ap test (sym same) ∙ e))) (inl same)
  member-kept (y ∷ ys) x (inr m) e =
      passes_or_fails (test y)
      (λ f. subst (IsMember x) (sym (first_kept y ys f)) (inr (member-kept ys x m e)))
      (λ f. subst (IsMember x) (sym (first_kept y ys f)) (member-kept ys x m e))

  pub apart-kept : (xs : List A) → AreApart xs → AreApart (filter test xs)
  apart-kept [] apart = tt
  apart-kept (y ∷ ys) apart =
      passes_or_fails (test y)
      (λ e. subst AreApart (sym (first_kept y ys e))
      ((λ m. apart.0 (kept-member ys y m).0), apart-kept ys apart.1))
      (λ e. subst AreApart (sym (first_kept y ys e)) (apart-kept ys apart.1))

module _ {A : Type 0} where
  pub apart-front : (xs ys : List A) → AreApart (xs ++ ys) → AreApart xs
  apart-front [] ys apart = tt
  apart-front (x ∷ xs) ys apart = ((λ m. apart.0 (IsMember-left xs ys x m)), apart-front xs ys apart.1)

  pub apart-back : (xs ys : List A) → AreApart (xs ++ ys) → AreApart ys
  apart-back [] ys apart = apart
  apart-back (x ∷ xs) ys apart = apart-back xs ys apart.1

  -- nothing stands in both
  pub apart-between : (xs ys : List A) → AreApart (xs ++ ys) → (x : A) → IsMember x xs → IsMember x ys → ⊥
  apart-between [] ys apart x m n = absurd m
  apart-between (y ∷ xs) ys apart x (inl same) n =
      apart.0 (IsMember-right xs ys y (subst (λ z. IsMember z ys) same n))
  apart-between (y ∷ xs) ys apart x (inr m) n = apart-between xs ys apart.1 x m n

-- ---- by numbers

module _ {A : Type 0} (number : A → ℕ) where
  other-number : (x : A) (xs : List A) → is_none_of (number x) (map number xs) ≡ true → IsMember x xs → ⊥
  other-number x [] h m = m
  other-number x (y ∷ ys) h (inl e) =
      let two = both (not (number x == number y)) (is_none_of (number x) (map number ys)) h in
      let same : (number x == number y) ≡ true = eq-eqb (number x) (number y) (ap number e) in
      let clash : false ≡ true = sym (ap not same) ∙ two.0 in
      absurd (cc)
  other-number x (y ∷ ys) h (inr m) =
      other-number x ys (both (not (number x == number y)) (is_none_of (number x) (map number ys)) h).1 m

  pub apart-by : (list : List A) → differ (map number list) ≡ true → AreApart list
  apart-by [] h = tt
  apart-by (x ∷ xs) h =
      let two = both (is_none_of (number x) (map number xs)) (differ (map number xs)) h in
      (other-number x xs two.0, apart-by xs two.1)

-- ---- a first list and a later one

-- none stands twice in either, and the test tells of a later one whether it stands in the first
pub record AreSplit {A : Type 0} (is_known : A → Bool) (first later : List A) : Type 0 where
  pub first_apart : AreApart first
  pub later_apart : AreApart later
  pub known : (x : A) → IsMember x first → IsMember x later → is_known x ≡ true
  pub there : (x : A) → is_known x ≡ true → IsMember x first

module _ {A : Type 0} (is_known : A → Bool) (first later : List A) (split : AreSplit is_known first later) where
  abbrev new : A → Bool
  new x = not (is_known x)

  pub split-apart : AreApart (first ++ filter new later)
  split-apart =
      apart-append first (filter new later) split.first_apart (apart-kept new later split.later_apart)
      (λ x m n. let kept = kept-member new later x n in
      let clash : false ≡ true = sym (ap not (split.known x m kept.0)) ∙ kept.1 in absurd (cc))

module _ {A : Type 0} (is_known : A → Bool) (first later : List A)
    (there : (x : A) → is_known x ≡ true → IsMember x first) where
  abbrev others : A → Bool
  others x = not (is_known x)

  -- none is lost
  pub split-member : (x : A) → IsMember x (first ++ later) → IsMember x (first ++ filter others later)
  split-member x m = by (IsMember-cases first later x m)
    where
      by : IsMember x first ⊎ IsMember x later → IsMember x (first ++ filter others later)
      by (inl n) = IsMember-left first (filter others later) x n
      by (inr n) =
          passes_or_fails (is_known x)
          (λ e. IsMember-left first (filter others later) x (there x e))
          (λ e. IsMember-right first (filter others later) x (member-kept others later x n (ap not e)))

-- nothing comes later
pub split-none : {A : Type 0} (first : List A) → AreApart first → AreSplit (λ x. false) first []
split-none first apart = record {
  first_apart = apart;
  later_apart = tt;
  known = λ x m n. absurd n;
  there = λ x e. absurd (cc);
}
