-- Totals over a list after one item changed, and what holds of each item then.
use Rattle.std.proofs.Common.{◌≡◌, ℕ, zero, suc, ◌+◌, ◌≤◌, ◌≢◌, List, [], ◌∷◌, ◌++◌, set, refl, sym, ap, subst, arith}
use Rattle.std.specs.List.{AllByRecursion}
use mathlib.Core.Option.{some, some-injective, some-ne-none}
use lib.ListN.{get_elem?}
use Rattle.scr_board.specs.Counts.{total}

module _ {A : Type 0} (f : A → ℕ) where
  pub total_append : (xs ys : List A) → total f (xs ++ ys) ≡ total f xs + total f ys
  total_append [] ys = omega arith
  total_append (x ∷ xs) ys = let more = total_append xs ys in omega (arith, more)

  pub total_snoc : (xs : List A) (y : A) → total f (xs ++ y ∷ []) ≡ total f xs + f y
  total_snoc [] y = omega arith
  total_snoc (x ∷ xs) y = let more = total_snoc xs y in omega (arith, more)

  pub total_set : (xs : List A) (i : ℕ) (x y : A) → get_elem? xs i ≡ some x → total f (set xs i y) + f x ≡ total f xs + f y
  total_set [] i x y e = absurd (some-ne-none x (sym e))
  total_set (z ∷ xs) zero x y e = let same : f z ≡ f x = ap f (some-injective z x e) in omega (arith, same)
  total_set (z ∷ xs) (suc i) x y e = let more = total_set xs i x y e in omega (arith, more)

  pub total_part : (xs : List A) (i : ℕ) (x : A) → get_elem? xs i ≡ some x → f x ≤ total f xs
  total_part [] i x e = absurd (some-ne-none x (sym e))
  total_part (z ∷ xs) zero x e = let same : f z ≡ f x = ap f (some-injective z x e) in omega (arith, same)
  total_part (z ∷ xs) (suc i) x e = let more = total_part xs i x e in omega (arith, more)

  pub total_none : (xs : List A) → ((x : A) → f x ≡ 0) → total f xs ≡ 0
  total_none [] h = refl
  total_none (x ∷ xs) h = let more = total_none xs h in let here = h x in omega (arith, more, here)

  pub total_le : (g : A → ℕ) (xs : List A) → ((x : A) → f x ≤ g x) → total f xs ≤ total g xs
  total_le g [] h = omega arith
  total_le g (x ∷ xs) h = let more = total_le g xs h in let here = h x in omega (arith, more, here)

  pub total_same : (g : A → ℕ) (xs : List A) → ((x : A) → f x ≡ g x) → total f xs ≡ total g xs
  total_same g [] h = refl
  total_same g (x ∷ xs) h = let more = total_same g xs h in let here = h x in omega (arith, more, here)

module _ {A : Type 0} where
  -- two totals added
  pub total_sum : (f g : A → ℕ) (xs : List A) → total (λ x. f x + g x) xs ≡ total f xs + total g xs
  total_sum f g [] = refl
  total_sum f g (x ∷ xs) = let more = total_sum f g xs in omega (arith, more)

module _ {A : Type 0} (P : A → Type 0) where
  pub each_at : (xs : List A) (i : ℕ) (x : A) → AllByRecursion P xs → get_elem? xs i ≡ some x → P x
  each_at [] i x h e = absurd (some-ne-none x (sym e))
  each_at (z ∷ xs) zero x h e = subst P (some-injective z x e) h.0
  each_at (z ∷ xs) (suc i) x h e = each_at xs i x h.1 e

  pub each_set : (xs : List A) (i : ℕ) (y : A) → AllByRecursion P xs → P y → AllByRecursion P (set xs i y)
  each_set [] i y h p = h
  each_set (z ∷ xs) zero y h p = (p, h.1)
  each_set (z ∷ xs) (suc i) y h p = (h.0, each_set xs i y h.1 p)

  pub each_snoc : (xs : List A) (y : A) → AllByRecursion P xs → P y → AllByRecursion P (xs ++ y ∷ [])
  each_snoc [] y h p = (p, h)
  each_snoc (z ∷ xs) y h p = (h.0, each_snoc xs y h.1 p)

  pub each_all : (xs : List A) → ((x : A) → P x) → AllByRecursion P xs
  each_all [] h = tt
  each_all (x ∷ xs) h = (h x, each_all xs h)

module _ {A : Type 0} where
  pub set_apart : (xs : List A) (i j : ℕ) (x y : A) → j ≢ i → get_elem? xs j ≡ some y → get_elem? (set xs i x) j ≡ some y
  set_apart [] i j x y ne e = e
  set_apart (z ∷ xs) zero zero x y ne e = absurd (ne refl)
  set_apart (z ∷ xs) zero (suc j) x y ne e = e
  set_apart (z ∷ xs) (suc i) zero x y ne e = e
  set_apart (z ∷ xs) (suc i) (suc j) x y ne e = set_apart xs i j x y (λ h. ne (ap suc h)) e
