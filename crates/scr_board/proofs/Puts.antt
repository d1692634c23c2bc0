-- The four stores of a put.
use Rattle.std.proofs.Common.{◌≡◌, ℕ, suc, ◌+◌, ◌<◌, ◌≢◌, ◌⊎◌, Bool, true, false, nat_eq, nat_lt, if◌then◌else◌, List, [], ◌∷◌, refl, sym, ap, ◌∙◌, subst, inl, inr, arith}
use Rattle.std.proofs.lemmas.Bool.Decides.{eqb_tells, nat_tests}
use Rattle.std.specs.List.{AllByRecursion}
use Rattle.scr_board.specs.declared.lists.Held.{Held}
use Rattle.scr_board.specs.declared.lists.Progress.{Progress}
use Rattle.scr_board.specs.Counts.{one_if}
use Rattle.scr_board.specs.States.{held, holds, stored_of}
use Rattle.scr_board.specs.Events.{advanced, writes}
use Rattle.scr_board.specs.Passes.{IsUnstored, puts, without}

pub unstored : (n : ℕ) (hand : List Held) → AllByRecursion IsUnstored hand → stored_of n hand ≡ 0
unstored n [] h = refl
unstored n (x ∷ hand) h = by (eqb_tells n x.node) (unstored n hand h.1)
  where
    Of : Bool → Type 0
    Of b = (if b then x.stored else stored_of n hand) ≡ 0

    by : ((nat_eq n x.node ≡ true) × (n ≡ x.node)) ⊎ ((nat_eq n x.node ≡ false) × (n ≢ x.node)) → stored_of n hand ≡ 0 → Of (nat_eq n x.node)
    by (inl t) later = subst Of (sym t.0) h.0
    by (inr f) later = subst Of (sym f.0) later

-- a store before the fourth
pub advanced-next : (n k : ℕ) (hand : List Held) → 0 < holds n hand → stored_of n hand ≡ k → k < 3
    → (holds n (advanced n hand) ≡ holds n hand) × (stored_of n (advanced n hand) ≡ suc k)
advanced-next n k [] pos is low = absurd (omega arith)
advanced-next n k (x ∷ hand) pos is low = by (eqb_tells n x.node) (λ p i. advanced-next n k hand p i low)
  where
    next : Bool → List Held
    next b = if b then (if nat_lt x.stored 3 then held x.node (suc x.stored) ∷ hand else hand) else x ∷ advanced n hand

    Goal : Bool → Type 0
    Goal b = (holds n (next b) ≡ one_if (nat_eq n x.node) + holds n hand) × (stored_of n (next b) ≡ suc k)

    Of : Bool → Type 0
    Of b = (if b then x.stored else stored_of n hand) ≡ k

    here : nat_eq n x.node ≡ true → x.stored ≡ k → (c : Bool) → nat_lt x.stored 3 ≡ c
        → (holds n (if c then held x.node (suc x.stored) ∷ hand else hand) ≡ one_if (nat_eq n x.node) + holds n hand)
        × (stored_of n (if c then held x.node (suc x.stored) ∷ hand else hand) ≡ suc k)
    here t same true e = (refl, ap (λ b. if b then suc x.stored else stored_of n hand) t ∙ ap suc same)
    here t same false e = absurd (grind (arith, nat_tests, same, low, e))

    by : ((nat_eq n x.node ≡ true) × (n ≡ x.node)) ⊎ ((nat_eq n x.node ≡ false) × (n ≢ x.node))
        → (0 < holds n hand → stored_of n hand ≡ k → (holds n (advanced n hand) ≡ holds n hand) × (stored_of n (advanced n hand) ≡ suc k))
        → Goal (nat_eq n x.node)
    by (inl t) on = subst Goal (sym t.0) (here t.0 (subst Of t.0 is) (nat_lt x.stored 3) refl)
    by (inr f) on =
        let none : one_if (nat_eq n x.node) ≡ 0 = ap one_if f.0 in
        let later = on (omega (arith, pos, none)) (subst Of f.0 is) in
        let same = later.0 in
        let all : Goal false = (omega (arith, same), ap (λ b. if b then x.stored else stored_of n (advanced n hand)) f.0 ∙ later.1) in
        subst Goal (sym f.0) all

module _ (n : ℕ) (node : ℕ) (hand : List Held) (same : nat_eq n node ≡ true) where
  first_of : (k : ℕ) → advanced n (held node k ∷ hand) ≡ (if nat_lt k 3 then held node (suc k) ∷ hand else hand)
  first_of k = ap (λ b. if b then (if nat_lt k 3 then held node (suc k) ∷ hand else hand) else held node k ∷ advanced n hand) same

  four_of : advanced n (advanced n (advanced n (advanced n (held node 0 ∷ hand)))) ≡ hand
  four_of = ap (λ h. advanced n (advanced n (advanced n h))) (first_of 0) ∙ ap (λ h. advanced n (advanced n h)) (first_of 1)
      ∙ ap (advanced n) (first_of 2) ∙ first_of 3

past : (n : ℕ) (x : Held) (hand : List Held) → nat_eq n x.node ≡ false → advanced n (x ∷ hand) ≡ x ∷ advanced n hand
past n x hand f = ap (λ b. if b then (if nat_lt x.stored 3 then held x.node (suc x.stored) ∷ hand else hand) else x ∷ advanced n hand) f

-- four stores take the node out of the hand
advanced-four : (n : ℕ) (hand : List Held) → AllByRecursion IsUnstored hand → 0 < holds n hand
    → advanced n (advanced n (advanced n (advanced n hand))) ≡ without n hand
advanced-four n [] h pos = absurd (omega arith)
advanced-four n (x ∷ hand) h pos = by (eqb_tells n x.node) (advanced-four n hand h.1)
  where
    by : ((nat_eq n x.node ≡ true) × (n ≡ x.node)) ⊎ ((nat_eq n x.node ≡ false) × (n ≢ x.node))
        → (0 < holds n hand → advanced n (advanced n (advanced n (advanced n hand))) ≡ without n hand)
        → advanced n (advanced n (advanced n (advanced n (x ∷ hand)))) ≡ (if nat_eq n x.node then hand else x ∷ without n hand)
    by (inl t) on =
        ap (λ k. advanced n (advanced n (advanced n (advanced n (held x.node k ∷ hand))))) h.0 ∙ four_of n x.node hand t.0
        ∙ sym (ap (λ b. if b then hand else x ∷ without n hand) t.0)
    by (inr f) on =
        let none : one_if (nat_eq n x.node) ≡ 0 = ap one_if f.0 in
        let later = on (omega (arith, pos, none)) in
        ap (λ k. advanced n (advanced n (advanced n k))) (past n x hand f.0)
        ∙ ap (λ k. advanced n (advanced n k)) (past n x (advanced n hand) f.0)
        ∙ ap (advanced n) (past n x (advanced n (advanced n hand)) f.0)
        ∙ past n x (advanced n (advanced n (advanced n hand))) f.0
        ∙ ap (λ k. x ∷ k) later
        ∙ sym (ap (λ b. if b then hand else x ∷ without n hand) f.0)

module _ (n : ℕ) (p : Progress) (h : AllByRecursion IsUnstored p.hand) (pos : 0 < holds n p.hand) where
  abbrev made : List Held → List ℕ → Progress
  made hand put = record p { hand = hand; put = put }

  abbrev one : List Held
  one = advanced n p.hand

  abbrev two : List Held
  two = advanced n (advanced n p.hand)

  abbrev three : List Held
  three = advanced n (advanced n (advanced n p.hand))

  pub none_yet : stored_of n p.hand ≡ 0
  none_yet = unstored n p.hand h

  pub first_left : (holds n (advanced n p.hand) ≡ holds n p.hand) × (stored_of n (advanced n p.hand) ≡ 1)
  first_left = advanced-next n 0 p.hand pos none_yet (omega arith)

  pub second_left : (holds n two ≡ holds n p.hand) × (stored_of n two ≡ 2)
  second_left =
      let first = first_left.0 in
      let next = advanced-next n 1 one (omega (arith, first, pos)) first_left.1 (omega arith) in
      (next.0 ∙ first, next.1)

  pub third_left : (holds n three ≡ holds n p.hand) × (stored_of n three ≡ 3)
  third_left =
      let second = second_left.0 in
      let next = advanced-next n 2 two (omega (arith, second, pos)) second_left.1 (omega arith) in
      (next.0 ∙ second, next.1)

  abbrev choice : ℕ → List ℕ → List ℕ
  choice k put = if nat_lt k 3 then put else n ∷ put

  -- the four stores are one put
  pub writes-four : writes n (writes n (writes n (writes n p))) ≡ puts n p
  writes-four =
      ap (λ hand. made hand (choice (stored_of n three) (choice (stored_of n two) (choice (stored_of n one) (choice (stored_of n p.hand) p.put)))))
      (advanced-four n p.hand h pos)
      ∙ ap (λ k. made (without n p.hand) (choice (stored_of n three) (choice (stored_of n two) (choice (stored_of n one) (choice k p.put))))) none_yet
      ∙ ap (λ k. made (without n p.hand) (choice (stored_of n three) (choice (stored_of n two) (choice k p.put)))) first_left.1
      ∙ ap (λ k. made (without n p.hand) (choice (stored_of n three) (choice k p.put))) second_left.1
      ∙ ap (λ k. made (without n p.hand) (choice k p.put)) third_left.1

-- and leave each other node of the hand as it waits
pub unstored-without : (n : ℕ) (hand : List Held) → AllByRecursion IsUnstored hand → AllByRecursion IsUnstored (without n hand)
unstored-without n [] h = h
unstored-without n (x ∷ hand) h = by (nat_eq n x.node) (unstored-without n hand h.1)
  where
    by : (b : Bool) → AllByRecursion IsUnstored (without n hand) → AllByRecursion IsUnstored (if b then hand else x ∷ without n hand)
    by true later = h.1
    by false later = (h.0, later)
