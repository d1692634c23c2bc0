-- Figures counted by their numbers.
use Rattle.std.proofs.Common.{◌≡◌, ℕ, zero, suc, true, false, nat_eq, List, [], ◌∷◌, length, Some, None, slice_get, refl, sym, ap, subst, ◌∙◌, inl, inr}
use Rattle.std.specs.List.{IsDistinct}
use Rattle.scr_funds.proofs.Members.{IsMember, IsMember-from_Contains, Contains-from_IsMember, at_member}
use Rattle.std.proofs.lemmas.Bool.{eq-eqb}
use Rattle.scr_reachability.specs.Graph.{Graph}
use Rattle.scr_reachability.specs.Leading.{IsCountOf}
use Rattle.scr_reachability.specs.Linked.{AreAt, AreNumbers}
use Rattle.scr_reachability.proofs.Placed.{get-member, standing}

-- a number of a list without repeats stands at one place
pub once-number : (xs : List ℕ) → IsDistinct nat_eq xs → (j k n : ℕ) → slice_get xs j ≡ Some n → slice_get xs k ≡ Some n → j ≡ k
unfolding IsDistinct
once-number [] once zero k n a b = absurd (let clash : None ≡ Some n = a in cc)
once-number [] once (suc j) k n a b = absurd (let clash : None ≡ Some n = a in cc)
once-number (x ∷ xs) once zero zero n a b = refl
once-number (x ∷ xs) once zero (suc k) n a b =
    let same : x ≡ n = cc in
    let apart : nat_eq x n ≡ false = at_member (λ y. nat_eq x y ≡ false) xs n once.0 (get-member xs k n b) in
    let clash : true ≡ false = sym (eq-eqb x n same) ∙ apart in absurd (cc)
once-number (x ∷ xs) once (suc j) zero n a b =
    let same : x ≡ n = cc in
    let apart : nat_eq x n ≡ false = at_member (λ y. nat_eq x y ≡ false) xs n once.0 (get-member xs j n a) in
    let clash : true ≡ false = sym (eq-eqb x n same) ∙ apart in absurd (cc)
once-number (x ∷ xs) once (suc j) (suc k) n a b = ap suc (once-number xs once.1 j k n a b)

-- the place at which a figure stands in its list is that of its number in theirs
number-at : {Node : Type 0} (At : Node → ℕ → Type 0) (numbers : List ℕ) (nodes : List Node) → AreAt At numbers nodes → (j : ℕ) (n : Node)
    → slice_get nodes j ≡ Some n → (p : ℕ) × (slice_get numbers j ≡ Some p) × At n p
number-at At numbers [] at zero n is = absurd (let clash : None ≡ Some n = is in cc)
number-at At numbers [] at (suc j) n is = absurd (let clash : None ≡ Some n = is in cc)
number-at At [] (m ∷ nodes) at j n is = absurd at
number-at At (q ∷ numbers) (m ∷ nodes) at zero n is = let same : m ≡ n = cc in (q, refl, subst (λ x. At x q) same at.0)
number-at At (q ∷ numbers) (m ∷ nodes) at (suc j) n is = number-at At numbers nodes at.1 j n is

module _ {Node : Type 0} (At : Node → ℕ → Type 0) (size : ℕ) (graph : Graph Node) (are : AreNumbers graph At size) (P : Node → Type 0) where
  -- the figures at numbers at each of which there is one
  nodes-at : (numbers : List ℕ) → ((p : ℕ) → IsMember p numbers → (n : Node) × At n p × P n)
      → (nodes : List Node) × AreAt At numbers nodes × ((n : Node) → IsMember n nodes → P n)
  nodes-at [] each = ([], tt, λ n h. absurd h)
  nodes-at (q ∷ numbers) each =
      let head = each q (inl refl) in
      let rest = nodes-at numbers (λ p h. each p (inr h)) in
      (head.0 ∷ rest.0, (head.1, rest.1), every head.0 head.2 rest.0 rest.2)
    where
      every : (m : Node) → P m → (nodes : List Node) → ((n : Node) → IsMember n nodes → P n) → (n : Node)
          → IsMember n (m ∷ nodes) → P n
      every m p nodes all n (inl e) = subst P (sym e) p
      every m p nodes all n (inr h) = all n h

  -- as many figures as numbers are of a kind that is just that of what stands there
  pub counted : (numbers : List ℕ) → IsDistinct nat_eq numbers
      → ((p : ℕ) → IsMember p numbers → (n : Node) × At n p × P n)
      → ((n : Node) → P n → (p : ℕ) × At n p × IsMember p numbers)
      → IsCountOf P (length numbers)
  counted numbers apart each all =
      let found = nodes-at numbers each in
      record {
        list = found.0;
        once = λ j k n a b.
            let p = number-at At numbers found.0 found.1 j n a in
            let q = number-at At numbers found.0 found.1 k n b in
            once-number numbers apart j k p.0 p.1 (q.1 ∙ ap Some (are.only n q.0 p.0 q.2 p.2));
        each = λ n. (
          λ h. found.2 n (IsMember-from_Contains found.0 n h),
          λ p. Contains-from_IsMember found.0 n (member found.0 found.1 n (all n p)),
        );
        long = as-long numbers found.0 found.1;
      }
    where
      member : (nodes : List Node) → AreAt At numbers nodes → (n : Node) → (p : ℕ) × At n p × IsMember p numbers
          → IsMember n nodes
      member nodes at n h =
          let m = standing At numbers nodes at h.0 h.2 in
          subst (λ x. IsMember x nodes) (are.exact h.0 m.0 n m.2 h.1) m.1

      as-long : (numbers : List ℕ) (nodes : List Node) → AreAt At numbers nodes → length nodes ≡ length numbers
      as-long [] [] at = refl
      as-long [] (m ∷ nodes) at = absurd at
      as-long (q ∷ numbers) [] at = absurd at
      as-long (q ∷ numbers) (m ∷ nodes) at = ap suc (as-long numbers nodes at.1)
