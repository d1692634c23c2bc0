-- Figures at numbers, and the edges between these.
use Rattle.std.proofs.Common.{◌≡◌, ◌⊎◌, inl, inr, ℕ, zero, suc, ◌<◌, Bool, true, false, cond, nat_eq, List, [], ◌∷◌, filter, length, get_or, Some, None, slice_get, Contains, refl, sym, ap, subst, ◌∙◌, arith}
use Rattle.std.specs.List.{list_any}
use Rattle.std.proofs.lemmas.Bool.{cases_Bool, eq-eqb, eqb-true}
use Rattle.scr_funds.proofs.Members.{IsMember, IsMember-from_Contains, Contains-from_IsMember, IsMember-map, IsMember-mapped}
use Rattle.scr_links.specs.Edges.{Edge}
use Rattle.scr_reachability.specs.Linked.{AreAt, edges_to, sources_in}
use Rattle.scr_reachability.proofs.DistinctDues.{has-member, member-has}

-- ---- of a list, its members and their places

module _ {A : Type 0} where
  pub placed-get : (xs : List A) (x : A) (h : Contains xs x) → slice_get xs h.0 ≡ Some x
  placed-get xs x h = at xs h.0 h.1 h.2
    where
      at : (ys : List A) (k : ℕ) → k < length ys → get_or ys k x ≡ x → slice_get ys k ≡ Some x
      at [] k l e = absurd (omega arith)
      at (y ∷ ys) zero l e = ap Some e
      at (y ∷ ys) (suc k) l e = at ys k (omega arith) e

  pub get-member : (xs : List A) (k : ℕ) (x : A) → slice_get xs k ≡ Some x → IsMember x xs
  get-member [] zero x is = absurd (let clash : None ≡ Some x = is in cc)
  get-member [] (suc k) x is = absurd (let clash : None ≡ Some x = is in cc)
  get-member (y ∷ xs) zero x is = let same : x ≡ y = cc in inl same
  get-member (y ∷ xs) (suc k) x is = inr (get-member xs k x is)

  pub get-contains : (xs : List A) (k : ℕ) (x : A) → slice_get xs k ≡ Some x → Contains xs x
  get-contains xs k x is = Contains-from_IsMember xs x (get-member xs k x is)

  module _ (p : A → Bool) where
    pub member-filtered : (xs : List A) (c : A) → IsMember c (filter p xs) → IsMember c xs × (p c ≡ true)
    member-filtered [] c h = absurd h
    member-filtered (x ∷ xs) c h = by (p x) refl h (member-filtered xs c)
      where
        by : (b : Bool) → p x ≡ b → IsMember c (cond b (x ∷ filter p xs) (filter p xs))
            → (IsMember c (filter p xs) → IsMember c xs × (p c ≡ true)) → IsMember c (x ∷ xs) × (p c ≡ true)
        by true e (inl is) further = (inl is, ap p is ∙ e)
        by true e (inr later) further = let rest = further later in (inr rest.0, rest.1)
        by false e later further = let rest = further later in (inr rest.0, rest.1)

    pub member-passing : (xs : List A) (c : A) → IsMember c xs → p c ≡ true → IsMember c (filter p xs)
    member-passing [] c h pass = absurd h
    member-passing (x ∷ xs) c h pass = by (p x) refl h (λ later. member-passing xs c later pass)
      where
        by : (b : Bool) → p x ≡ b → IsMember c (x ∷ xs) → (IsMember c xs → IsMember c (filter p xs))
            → IsMember c (cond b (x ∷ filter p xs) (filter p xs))
        by true e (inl is) further = inl is
        by true e (inr later) further = inr (further later)
        by false e (inl is) further = absurd (let clash : true ≡ false = sym pass ∙ (ap p is ∙ e) in cc)
        by false e (inr later) further = further later

-- a number is one of a list, or not
pub number-or : (xs : List ℕ) (q : ℕ) → Contains xs q ⊎ (Contains xs q → ⊥)
number-or xs q = elim (cases_Bool (list_any (nat_eq q) xs)) [
  | inl e ↦ inl (Contains-from_IsMember xs q (has-member q xs e))
  | inr e ↦ inr (λ h. let clash : true ≡ false = sym (member-has q xs (IsMember-from_Contains xs q h)) ∙ e in absurd (cc))
]

-- ---- of numbers and figures, each at the number of the other

module _ {Node : Type 0} (At : Node → ℕ → Type 0) where
  pub placed : (numbers : List ℕ) (nodes : List Node) → AreAt At numbers nodes → (n : Node) → IsMember n nodes
      → (q : ℕ) × IsMember q numbers × At n q
  placed numbers [] at n h = absurd h
  placed [] (m ∷ nodes) at n h = absurd at
  placed (q ∷ numbers) (m ∷ nodes) at n (inl e) = (q, inl refl, subst (λ x. At x q) (sym e) at.0)
  placed (q ∷ numbers) (m ∷ nodes) at n (inr h) =
      let later = placed numbers nodes at.1 n h in (later.0, inr later.1, later.2)

  pub standing : (numbers : List ℕ) (nodes : List Node) → AreAt At numbers nodes → (q : ℕ) → IsMember q numbers
      → (n : Node) × IsMember n nodes × At n q
  standing [] nodes at q h = absurd h
  standing (p ∷ numbers) [] at q h = absurd at
  standing (p ∷ numbers) (m ∷ nodes) at q (inl e) = (m, inl refl, subst (At m) (sym e) at.0)
  standing (p ∷ numbers) (m ∷ nodes) at q (inr h) =
      let later = standing numbers nodes at.1 q h in (later.0, inr later.1, later.2)

-- what holds of each figure at its number
pub at-weaker : {Node : Type 0} (At Other : Node → ℕ → Type 0) (numbers : List ℕ) (nodes : List Node)
    → ((n : Node) (q : ℕ) → IsMember n nodes → At n q → Other n q) → AreAt At numbers nodes → AreAt Other numbers nodes
at-weaker At Other [] [] keeps at = at
at-weaker At Other [] (m ∷ nodes) keeps at = absurd at
at-weaker At Other (q ∷ numbers) [] keeps at = absurd at
at-weaker At Other (q ∷ numbers) (m ∷ nodes) keeps at =
    (keeps m q (inl refl) at.0, at-weaker At Other numbers nodes (λ n p h. keeps n p (inr h)) at.1)

-- ---- edges to a number

module _ (edges : List Edge) (number : ℕ) where
  pub edge-from : (q : ℕ) → IsMember q (sources_in edges number)
      → (e : Edge) × IsMember e edges × (e.source ≡ q) × (e.dependant ≡ number)
  edge-from q h =
      let from = IsMember-map (λ (e : Edge). e.source) (edges_to edges number) q h in
      let of = member-filtered (λ (e : Edge). nat_eq e.dependant number) edges from.0 from.1 in
      (from.0, of.0, from.2, eqb-true (from.0).dependant number of.1)

  pub source-of : (e : Edge) → IsMember e edges → e.dependant ≡ number → IsMember e.source (sources_in edges number)
  source-of e h is =
      IsMember-mapped (λ (e : Edge). e.source) (edges_to edges number) e
      (member-passing (λ (e : Edge). nat_eq e.dependant number) edges e h (eq-eqb e.dependant number is))
