-- A store leads from a sound state to a sound state.
use Rattle.std.proofs.Common.{◌≡◌, ℕ, suc, ◌+◌, ◌<◌, ◌≤◌, ◌≢◌, ◌⊎◌, Bool, true, false, nat_eq, nat_lt, ◌&&◌, if◌then◌else◌, List, [], ◌∷◌, set, refl, sym, ap, ◌∙◌, subst, inl, inr, arith}
use Rattle.std.proofs.lemmas.Bool.Decides.{eqb_tells, nat_tests}
use mathlib.Core.Option.{some}
use lib.ListN.{get_elem?}
use Rattle.scr_board.specs.declared.lists.Held.{Held}
use Rattle.scr_board.specs.declared.lists.Progress.{Progress}
use Rattle.scr_board.specs.declared.lists.Round.{Round}
use Rattle.scr_board.specs.Counts.{one_if, times, total}
use Rattle.scr_board.specs.Rounds.{word_of}
use Rattle.scr_board.specs.States.{State, arrivals, deliveries, held, holds, mark_of, marked_share, named, share_of, stored_of, stores, written}
use Rattle.scr_board.specs.Events.{advanced, stored, writes}
use Rattle.scr_board.specs.Sound.{IsKept, IsOwn, IsSound}
use Rattle.scr_board.proofs.Totals.{each_at, each_set, total_set}
use Rattle.scr_board.proofs.Members.{one_at_most}

-- what the hand and the nodes put name stays
hand-writes : (n m : ℕ) (hand : List Held) (put : List ℕ) → 0 < holds n hand
    → holds m (advanced n hand) + times m (if nat_lt (stored_of n hand) 3 then put else n ∷ put) ≡ holds m hand + times m put
hand-writes n m [] put pos = absurd (omega arith)
hand-writes n m (h ∷ hand) put pos = by (eqb_tells n h.node) (hand-writes n m hand put)
  where
    Same : Bool → Type 0
    Same b = holds m (if b then (if nat_lt h.stored 3 then held h.node (suc h.stored) ∷ hand else hand) else h ∷ advanced n hand)
        + times m (if nat_lt (if b then h.stored else stored_of n hand) 3 then put else n ∷ put)
        ≡ (one_if (nat_eq m h.node) + holds m hand) + times m put

    here : n ≡ h.node → (c : Bool) → holds m (if c then held h.node (suc h.stored) ∷ hand else hand) + times m (if c then put else n ∷ put)
        ≡ (one_if (nat_eq m h.node) + holds m hand) + times m put
    here same true = refl
    here same false = let one : one_if (nat_eq m n) ≡ one_if (nat_eq m h.node) = ap (λ x. one_if (nat_eq m x)) same in omega (arith, one)

    by : ((nat_eq n h.node ≡ true) × (n ≡ h.node)) ⊎ ((nat_eq n h.node ≡ false) × (n ≢ h.node))
        → (0 < holds n hand
        → holds m (advanced n hand) + times m (if nat_lt (stored_of n hand) 3 then put else n ∷ put) ≡ holds m hand + times m put)
        → Same (nat_eq n h.node)
    by (inl t) on = subst Same (sym t.0) (here t.1 (nat_lt h.stored 3))
    by (inr f) on =
        let none : one_if (nat_eq n h.node) ≡ 0 = ap one_if f.0 in
        let later = on (omega (arith, pos, none)) in
        let all : Same false = omega (arith, later) in
        subst Same (sym f.0) all

pub named-writes : (n m : ℕ) (p : Progress) → 0 < holds n p.hand → named m (writes n p) ≡ named m p
named-writes n m p pos = hand-writes n m p.hand p.put pos

stored-next : (b : Bool) (j stored : ℕ) → j ≢ stored → one_if (b && nat_lt j (suc stored)) ≤ one_if (b && nat_lt j stored)
stored-next false j stored apart = omega arith
stored-next true j stored apart = by (eqb_tells j stored)
  where
    by : ((nat_eq j stored ≡ true) × (j ≡ stored)) ⊎ ((nat_eq j stored ≡ false) × (j ≢ stored)) → one_if (nat_lt j (suc stored)) ≤ one_if (nat_lt j stored)
    by (inl t) = absurd (apart t.1)
    by (inr f) = grind (arith, nat_tests)

-- no word is written anew but the one stored
hand-written : (n m j : ℕ) (hand : List Held) (put : List ℕ) → ((m ≡ n) × (j ≡ stored_of n hand) → ⊥) → j < 4 → stored_of n hand < 4 → 0 < holds n hand
    → stores m j (advanced n hand) + times m (if nat_lt (stored_of n hand) 3 then put else n ∷ put) ≤ stores m j hand + times m put
hand-written n m j [] put apart low last pos = absurd (omega arith)
hand-written n m j (h ∷ hand) put apart low last pos =
    by (eqb_tells n h.node) (λ ne end there. hand-written n m j hand put ne low end there)
  where
    Less : Bool → Type 0
    Less b = stores m j (if b then (if nat_lt h.stored 3 then held h.node (suc h.stored) ∷ hand else hand) else h ∷ advanced n hand)
        + times m (if nat_lt (if b then h.stored else stored_of n hand) 3 then put else n ∷ put)
        ≤ (one_if (nat_eq m h.node && nat_lt j h.stored) + stores m j hand) + times m put

    Apart : Bool → Type 0
    Apart b = (m ≡ n) × (j ≡ (if b then h.stored else stored_of n hand)) → ⊥

    Last : Bool → Type 0
    Last b = (if b then h.stored else stored_of n hand) < 4

    first : n ≡ h.node → ((m ≡ n) × (j ≡ h.stored) → ⊥) → one_if (nat_eq m h.node && nat_lt j (suc h.stored)) ≤ one_if (nat_eq m h.node && nat_lt j h.stored)
    first same ne = on (eqb_tells m h.node)
      where
        on : ((nat_eq m h.node ≡ true) × (m ≡ h.node)) ⊎ ((nat_eq m h.node ≡ false) × (m ≢ h.node))
            → one_if (nat_eq m h.node && nat_lt j (suc h.stored)) ≤ one_if (nat_eq m h.node && nat_lt j h.stored)
        on (inl t) = stored-next (nat_eq m h.node) j h.stored (λ e. ne (t.1 ∙ sym same, e))
        on (inr f) = subst (λ b. one_if (b && nat_lt j (suc h.stored)) ≤ one_if (b && nat_lt j h.stored)) (sym f.0) (omega arith)

    -- the fourth word: the node is put, and its other words were stored
    fourth : n ≡ h.node → ((m ≡ n) × (j ≡ h.stored) → ⊥) → h.stored < 4 → nat_lt h.stored 3 ≡ false → one_if (nat_eq m n) ≤ one_if (nat_eq m h.node && nat_lt j h.stored)
    fourth same ne last past = on (eqb_tells m n)
      where
        on : ((nat_eq m n ≡ true) × (m ≡ n)) ⊎ ((nat_eq m n ≡ false) × (m ≢ n)) → one_if (nat_eq m n) ≤ one_if (nat_eq m h.node && nat_lt j h.stored)
        on (inr f) = let none : one_if (nat_eq m n) ≡ 0 = ap one_if f.0 in omega (arith, none)
        on (inl t) =
            let node : nat_eq m h.node ≡ true = ap (nat_eq m) (sym same) ∙ t.0 in
            let three : h.stored ≡ 3 = grind (arith, nat_tests, last, past) in
            let under : j < h.stored = below (eqb_tells j h.stored) three in
            let tests : nat_lt j h.stored ≡ true = grind (arith, nat_tests, under) in
            let whole : one_if (nat_eq m h.node && nat_lt j h.stored) ≡ 1 = ap (λ b. one_if (b && nat_lt j h.stored)) node ∙ ap one_if tests in
            let most = one_at_most (nat_eq m n) in
            omega (arith, whole, most)
          where
            below : ((nat_eq j h.stored ≡ true) × (j ≡ h.stored)) ⊎ ((nat_eq j h.stored ≡ false) × (j ≢ h.stored)) → h.stored ≡ 3 → j < h.stored
            below (inl e) three = absurd (ne (t.1, e.1))
            below (inr e) three = let other = e.1 in omega (arith, low, three, other)

    here : n ≡ h.node → ((m ≡ n) × (j ≡ h.stored) → ⊥) → h.stored < 4 → (c : Bool) → nat_lt h.stored 3 ≡ c
        → stores m j (if c then held h.node (suc h.stored) ∷ hand else hand) + times m (if c then put else n ∷ put)
        ≤ (one_if (nat_eq m h.node && nat_lt j h.stored) + stores m j hand) + times m put
    here same ne last true e = let le = first same ne in omega (arith, le)
    here same ne last false e = let le = fourth same ne last e in omega (arith, le)

    by : ((nat_eq n h.node ≡ true) × (n ≡ h.node)) ⊎ ((nat_eq n h.node ≡ false) × (n ≢ h.node))
        → (((m ≡ n) × (j ≡ stored_of n hand) → ⊥) → stored_of n hand < 4 → 0 < holds n hand
        → stores m j (advanced n hand) + times m (if nat_lt (stored_of n hand) 3 then put else n ∷ put) ≤ stores m j hand + times m put)
        → Less (nat_eq n h.node)
    by (inl t) on =
        let ne : Apart true = subst Apart t.0 apart in
        let end : Last true = subst Last t.0 last in
        subst Less (sym t.0) (here t.1 ne end (nat_lt h.stored 3) refl)
    by (inr f) on =
        let none : one_if (nat_eq n h.node) ≡ 0 = ap one_if f.0 in
        let ne : Apart false = subst Apart f.0 apart in
        let end : Last false = subst Last f.0 last in
        let later = on ne end (omega (arith, pos, none)) in
        let all : Less false = omega (arith, later) in
        subst Less (sym f.0) all

pub put-grows : (n m : ℕ) (c : Bool) (put : List ℕ) → times m put ≤ times m (if c then put else n ∷ put)
put-grows n m true put = omega arith
put-grows n m false put = omega arith

module _ (round : Round) (workers : ℕ) (s : State) (sound : IsSound round workers s) (id : ℕ) (p : Progress) (n : ℕ)
    (at : get_elem? s.passes id ≡ some p) (pos : 0 < holds n p.hand) (last : stored_of n p.hand < 4) where
  word_worked : (m j : ℕ) → j < 4 → 0 < total (written m j) (set s.passes id (writes n p)) → (stored round s id p n).word m j ≡ word_of round m j
  word_worked m j low there = by (eqb_tells m n) (eqb_tells j (stored_of n p.hand))
    where
      Word : Bool → Bool → ℕ
      Word b c = if b then (if c then word_of round n (stored_of n p.hand) else s.word n j) else s.word m j

      old : ((m ≡ n) × (j ≡ stored_of n p.hand) → ⊥) → s.word m j ≡ word_of round m j
      old apart =
          let change = total_set (written m j) s.passes id p (writes n p) at in
          let less = hand-written n m j p.hand p.put apart low last pos in
          sound.worked m j low (omega (arith, change, less, there))

      by : ((nat_eq m n ≡ true) × (m ≡ n)) ⊎ ((nat_eq m n ≡ false) × (m ≢ n))
          → ((nat_eq j (stored_of n p.hand) ≡ true) × (j ≡ stored_of n p.hand)) ⊎ ((nat_eq j (stored_of n p.hand) ≡ false) × (j ≢ stored_of n p.hand))
          → Word (nat_eq m n) (nat_eq j (stored_of n p.hand)) ≡ word_of round m j
      by (inl t) (inl u) =
          ap (λ b. Word b (nat_eq j (stored_of n p.hand))) t.0 ∙ ap (λ c. Word true c) u.0
          ∙ ap (λ x. word_of round x (stored_of n p.hand)) (sym t.1) ∙ ap (word_of round m) (sym u.1)
      by (inl t) (inr g) =
          let ne = g.1 in
          ap (λ b. Word b (nat_eq j (stored_of n p.hand))) t.0 ∙ ap (λ c. Word true c) g.0
          ∙ ap (λ x. s.word x j) (sym t.1) ∙ old (λ both. ne both.1)
      by (inr f) u = let ne = f.1 in ap (λ b. Word b (nat_eq j (stored_of n p.hand))) f.0 ∙ old (λ both. ne both.0)

  pub store_keeps : IsSound round workers (stored round s id p n)
  store_keeps = record {
    names = λ m.
        let change = total_set (named m) s.passes id p (writes n p) at in
        let same = named-writes n m p pos in
        let before = sound.names m in
        omega (arith, change, same, before);
    counts = λ m. let change = total_set (arrivals round m) s.passes id p (writes n p) at in let before = sound.counts m in omega (arith, change, before);
    single = λ m k. let change = total_set (deliveries m k) s.passes id p (writes n p) at in let before = sound.single m k in omega (arith, change, before);
    own = each_set IsOwn s.passes id (writes n p) sound.own
        (λ m k there.
        let put = each_at IsOwn s.passes id p sound.own at m k there in
        let more = put-grows n m (nat_lt (stored_of n p.hand) 3) p.put in
        omega (arith, put, more));
    worked = word_worked;
    marks = λ there. let change = total_set mark_of s.passes id p (writes n p) at in sound.marks (omega (arith, change, there));
    ticket = let change = total_set marked_share s.passes id p (writes n p) at in let before = sound.ticket in omega (arith, change, before);
    kept = each_set IsKept s.passes id (writes n p) sound.kept
        (λ none.
        let empty = (each_at IsKept s.passes id p sound.kept at none).0 in
        let nobody : holds n p.hand ≡ 0 = ap (holds n) empty in
        absurd (omega (arith, nobody, pos)));
    shares = let change = total_set share_of s.passes id p (writes n p) at in let before = sound.shares in omega (arith, change, before);
  }
