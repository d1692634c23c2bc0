-- A sum over a list without repeats, split into a part of the list and what is left out.
use Rattle.std.proofs.Common.{◌≡◌, ℕ, zero, suc, ◌+◌, ◌<◌, ◌≤◌, Bool, false, IsTrue, List, [], ◌∷◌, map, sum_by, if◌then◌else◌, refl, sym, ap, ◌∙◌, inl, inr, arith}
use Rattle.std.specs.List.{IsDistinct}
use Rattle.std.specs.Set.{is_member}
use Rattle.std.proofs.lemmas.Bool.{true≢false, cond_both, false_from_ne_true}
use Rattle.std.proofs.lemmas.List.{length-map}
use Rattle.std.proofs.lemmas.List.Sums.{sum_by-cons, sum-map}
use Rattle.scr_funds.specs.LookThrough.{falling_to}
use Rattle.scr_funds.proofs.Climbs.{is_member-from_IsMember, IsMember-from_is_member}
use Rattle.scr_funds.proofs.LookThroughLaws.{falling_to-none, falling_to-all, member_or_not}
use Rattle.scr_funds.proofs.Members.{IsMember, at_member}
use Rattle.scr_funds.proofs.SumsBy.{sum_by-same, sum_by-none, sum_by-add}

module _ {X : Type 0} where
  -- one term is within the sum
  pub sum_by-member : (f : X → ℕ) (xs : List X) (x : X) → IsMember x xs → f x ≤ sum_by f xs
  sum_by-member f [] x m = absurd m
  sum_by-member f (y ∷ ys) x m = let rest = sum_by-member f ys x in grind (arith, m, rest, sum_by-cons f y ys)

  -- where a sum is above 0, so is one of its terms
  pub sum_by-some : (f : X → ℕ) (xs : List X) → 0 < sum_by f xs → (x : X) × IsMember x xs × (0 < f x)
  sum_by-some f [] l = absurd (omega arith)
  sum_by-some f (x ∷ xs) l = by (f x) refl (λ k. sum_by-some f xs k)
    where
      by : (n : ℕ) → f x ≡ n → (0 < sum_by f xs → (y : X) × IsMember y xs × (0 < f y))
          → (y : X) × IsMember y (x ∷ xs) × (0 < f y)
      by zero e later = let w = later (omega (arith, sum_by-cons f x xs)) in (w.0, inr w.1, w.2)
      by (suc n) e later = (x, inl refl, omega arith)

module _ {A : Type 0} (same : A → A → Bool) (is_same : (x y : A) → IsTrue (same x y) → x ≡ y)
    (same_self : (x : A) → IsTrue (same x x)) where
  -- what is not left out falls to its name
  falling_to-own : (h : A → ℕ) (some : List A) → IsDistinct same some → (x : A)
      → falling_to same x some (map h some) ≡ (if is_member same some x then h x else 0)
  unfolding IsDistinct
  falling_to-own h [] apart x = refl
  falling_to-own h (y ∷ ys) apart x =
      let later = falling_to-own h ys apart.1 x in
      let none : x ≡ y → falling_to same x ys (map h ys) ≡ 0 = λ e. falling_to-none same is_same same_self x ys (map h ys)
      (λ m. true≢false (sym (same_self y) ∙ ap (same y) (sym e) ∙ at_member (λ z. same y z ≡ false) ys x apart.0 m)) in
      grind (arith, later, none, is_same x y)

  module _ (all some : List A) (all_apart : IsDistinct same all) (some_apart : IsDistinct same some)
      (within : (x : A) → IsMember x some → IsMember x all) (h : A → ℕ) where
    -- the term of what is left out
    abbrev left_out : A → ℕ
    left_out x = if is_member same some x then 0 else h x

    split : sum_by h all ≡ sum_by h some + sum_by left_out all
    split =
        sum_by-same h (λ x. falling_to same x some (map h some) + left_out x) all
        (λ x m. let own = falling_to-own h some some_apart x in grind (arith, own))
        ∙ sum_by-add (λ x. falling_to same x some (map h some)) left_out all
        ∙ ap (λ n. n + sum_by left_out all)
        (falling_to-all same is_same same_self all all_apart some (map h some)
        (length-map {A = A} {B = ℕ} some h) within ∙ sum-map h some)

    pub sum_by-some_le : sum_by h some ≤ sum_by h all
    sum_by-some_le = omega (arith, split)

    not_member : (x : A) → (IsMember x some → ⊥) → is_member same some x ≡ false
    not_member x apart = false_from_ne_true (is_member same some x)
        (λ t. apart (IsMember-from_is_member same is_same same_self some x t))

    -- where nothing is left out that counts
    pub sum_by-all_there : ((x : A) → IsMember x all → (IsMember x some → ⊥) → h x ≡ 0) → sum_by h some ≡ sum_by h all
    sum_by-all_there nothing = let none : sum_by left_out all ≡ 0 = sum_by-none left_out all each in
        omega (arith, split, none)
      where
        each : (x : A) → IsMember x all → left_out x ≡ 0
        each x m = member_or_not same is_same same_self x some
            (λ k. ap (λ b. if b then 0 else h x) (is_member-from_IsMember same is_same same_self some x k))
            (λ n. ap (λ b. if b then 0 else h x) (not_member x n) ∙ nothing x m n)

    pub none_left_out : sum_by h some ≡ sum_by h all → (x : A) → IsMember x all → (IsMember x some → ⊥) → h x ≡ 0
    none_left_out e x m apart =
        let own : left_out x ≡ h x = ap (λ b. if b then 0 else h x) (not_member x apart) in
        omega (arith, split, e, own, sum_by-member left_out all x m)

    pub one_left_out : sum_by h some < sum_by h all → (x : A) × IsMember x all × (IsMember x some → ⊥) × (0 < h x)
    one_left_out l =
        let found = sum_by-some left_out all (omega (arith, split)) in
        (found.0, found.1, (λ k. apart found.0 k found.2), counts found.0 found.2)
      where
        apart : (x : A) → IsMember x some → 0 < left_out x → ⊥
        apart x k p = let none : left_out x ≡ 0 =
            ap (λ b. if b then 0 else h x) (is_member-from_IsMember same is_same same_self some x k) in omega arith

        counts : (x : A) → 0 < left_out x → 0 < h x
        counts x p = cond_both (is_member same some x) 0 (h x) (λ n. 0 < n → 0 < h x) (λ e q. absurd (omega arith))
            (λ e q. q) p
