-- Lists in which none stands twice.
use Rattle.std.proofs.Common.{◌≡◌, ◌⊎◌, inl, inr, ℕ, zero, suc, ◌<◌, Bool, true, false, cond, List, [], ◌∷◌, ◌++◌, map, take, filter, Some, slice_get, refl, sym, ap, subst, ◌∙◌, arith}
use Rattle.std.specs.List.{AllByRecursion, IsDistinct}
use Rattle.scr_funds.proofs.Members.{IsMember, IsMember-map, IsMember-cases}
use Rattle.scr_tables.specs.Names.{same_name}
use Rattle.scr_tables.proofs.TableRows.{passes_or_fails, same_name-itself}

module _ {A : Type 0} where
  -- each is none of those behind it
  abbrev pub AreApart : List A → Type 0
  AreApart [] = Unit {0}
  AreApart (x ∷ xs) = (IsMember x xs → ⊥) × AreApart xs

  pub member-at : (xs : List A) (k : ℕ) (x : A) → slice_get xs k ≡ Some x → IsMember x xs
  member-at [] k x is = absurd (cc)
  member-at (y ∷ ys) zero x is = let same : y ≡ x = cc in inl (sym same)
  member-at (y ∷ ys) (suc k) x is = inr (member-at ys k x is)

  pub place-of : (xs : List A) (x : A) → IsMember x xs → (k : ℕ) × (slice_get xs k ≡ Some x)
  place-of [] x m = absurd m
  place-of (y ∷ ys) x (inl e) = (0, ap Some (sym e))
  place-of (y ∷ ys) x (inr m) = let later = place-of ys x m in (suc later.0, later.1)

  -- what stands before a place
  pub member-take : (xs : List A) (j k : ℕ) (x : A) → slice_get xs j ≡ Some x → j < k → IsMember x (take k xs)
  member-take [] j k x is less = absurd (cc)
  member-take (y ∷ ys) j zero x is less = absurd (omega arith)
  member-take (y ∷ ys) zero (suc k) x is less = let same : y ≡ x = cc in inl (sym same)
  member-take (y ∷ ys) (suc j) (suc k) x is less = inr (member-take ys j k x is (omega arith))

  pub one-place : (xs : List A) → AreApart xs → (j k : ℕ) (x : A) → slice_get xs j ≡ Some x → slice_get xs k ≡ Some x
      → j ≡ k
  one-place [] apart j k x first second = absurd (cc)
  one-place (y ∷ ys) apart zero zero x first second = refl
  one-place (y ∷ ys) apart zero (suc k) x first second =
      let same : y ≡ x = cc in
      absurd (apart.0 (member-at ys k y (second ∙ ap Some (sym same))))
  one-place (y ∷ ys) apart (suc j) zero x first second =
      let same : y ≡ x = cc in
      absurd (apart.0 (member-at ys j y (first ∙ ap Some (sym same))))
  one-place (y ∷ ys) apart (suc j) (suc k) x first second = ap suc (one-place ys apart.1 j k x first second)

  pub apart-append : (xs ys : List A) → AreApart xs → AreApart ys → ((x : A) → IsMember x xs → IsMember x ys → ⊥)
      → AreApart (xs ++ ys)
  apart-append [] ys left right between = right
  apart-append (x ∷ xs) ys left right between =
      ((λ m. by (IsMember-cases xs ys x m)), apart-append xs ys left.1 right (λ y m n. between y (inr m) n))
    where
      by : IsMember x xs ⊎ IsMember x ys → ⊥
      by (inl m) = left.0 m
      by (inr m) = between x (inl refl) m

-- ---- the nodes of rows

module _ {Row A : Type 0} (node : Row → A) (test : Row → Bool) where
  pub chosen-member : (rows : List Row) (x : A) → IsMember x (map node (filter test rows))
      → (row : Row) × IsMember row rows × (test row ≡ true) × (node row ≡ x)
  chosen-member [] x m = absurd m
  chosen-member (row ∷ rows) x m =
      passes_or_fails (test row)
      (λ e. by e (chosen-member rows x) (subst (λ chosen. IsMember x (map node chosen))
      (ap (λ t. cond t (row ∷ filter test rows) (filter test rows)) e) m))
      (λ e. later
      (chosen-member rows x (subst (λ chosen. IsMember x (map node chosen))
      (ap (λ t. cond t (row ∷ filter test rows) (filter test rows)) e) m)))
    where
      later : ((r : Row) × IsMember r rows × (test r ≡ true) × (node r ≡ x))
          → (r : Row) × IsMember r (row ∷ rows) × (test r ≡ true) × (node r ≡ x)
      later f = (f.0, inr f.1, f.2, f.3)

      by : test row ≡ true → (IsMember x (map node (filter test rows))
          → (r : Row) × IsMember r rows × (test r ≡ true) × (node r ≡ x))
          → (x ≡ node row) ⊎ IsMember x (map node (filter test rows))
          → (r : Row) × IsMember r (row ∷ rows) × (test r ≡ true) × (node r ≡ x)
      by e on (inl same) = (row, inl refl, e, sym same)
      by e on (inr n) = later (on n)

  pub member-chosen : (rows : List Row) (row : Row) → IsMember row rows → test row ≡ true
      → IsMember (node row) (map node (filter test rows))
  member-chosen [] row m e = absurd m
  member-chosen (r ∷ rows) row (inl same) e =
      subst (λ chosen. IsMember (node row) (map node chosen))
      (sym (ap (λ t. cond t (r ∷ filter test rows) (filter test rows)) (ap test (sym same) ∙ e)))
      (inl (ap node same))
  member-chosen (r ∷ rows) row (inr m) e =
      let later = member-chosen rows row m e in
      passes_or_fails (test r)
      (λ t. subst (λ chosen. IsMember (node row) (map node chosen))
      (sym (ap (λ b. cond b (r ∷ filter test rows) (filter test rows)) t)) (inr later))
      (λ t. subst (λ chosen. IsMember (node row) (map node chosen))
      (sym (ap (λ b. cond b (r ∷ filter test rows) (filter test rows)) t)) later)

  module _ (name_of : Row → List ℕ) (told : (a b : Row) → node a ≡ node b → name_of a ≡ name_of b) where
    fresh-not : (row : Row) (rows : List Row)
        → AllByRecursion (λ n. same_name (name_of row) n ≡ false) (map name_of rows) → (other : Row)
        → IsMember other rows → node other ≡ node row → ⊥
    fresh-not row [] fresh other m e = m
    fresh-not row (r ∷ rows) fresh other (inl same) e =
        let one : name_of row ≡ name_of r = sym (told other row e) ∙ ap name_of same in
        let clash : true ≡ false = sym (same_name-itself (name_of row)) ∙ ap (same_name (name_of row)) one ∙ fresh.0 in
        absurd (cc)
    fresh-not row (r ∷ rows) fresh other (inr m) e = fresh-not row rows fresh.1 other m e

    pub apart-chosen : (rows : List Row) → IsDistinct same_name (map name_of rows)
        → AreApart (map node (filter test rows))
    unfolding IsDistinct
    apart-chosen [] distinct = tt
    apart-chosen (row ∷ rows) distinct =
        let rest = apart-chosen rows distinct.1 in
        passes_or_fails (test row)
        (λ e. subst (λ chosen. AreApart (map node chosen))
        (sym (ap (λ t. cond t (row ∷ filter test rows) (filter test rows)) e)) (
          (λ m. let found = chosen-member rows
              (node row) m in fresh-not row rows distinct.0 found.0 found.1 found.3),
          rest,
        ))
        (λ e. subst (λ chosen. AreApart (map node chosen))
        (sym (ap (λ t. cond t (row ∷ filter test rows) (filter test rows)) e)) rest)

    pub apart-mapped : (rows : List Row) → IsDistinct same_name (map name_of rows) → AreApart (map node rows)
    unfolding IsDistinct
    apart-mapped [] distinct = tt
    apart-mapped (row ∷ rows) distinct = (
      (λ m. let found = IsMember-map node rows
          (node row) m in fresh-not row rows distinct.0 found.0 found.1 found.2),
      apart-mapped rows distinct.1,
    )
