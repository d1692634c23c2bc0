-- A delivery leads from a sound state to a sound state.
use Rattle.std.proofs.Common.{◌≡◌, ℕ, ◌+◌, ◌-◌, ◌<◌, ◌≤◌, ◌≢◌, ◌⊎◌, Bool, true, false, nat_eq, ◌&&◌, if◌then◌else◌, Some, length, set, slice_get, refl, sym, ap, ◌∙◌, subst, inl, inr, arith}
use Rattle.std.proofs.lemmas.Bool.Decides.{eqb_tells}
use mathlib.Core.Option.{some}
use lib.ListN.{get_elem?}
use Rattle.scr_board.specs.declared.lists.Progress.{Progress}
use Rattle.scr_board.specs.declared.lists.Round.{Round}
use Rattle.scr_board.specs.Counts.{one_if, times, total}
use Rattle.scr_board.specs.Rounds.{IsFormed, dependants_of, sources_of}
use Rattle.scr_board.specs.States.{State, arrivals, deliveries, is_some_of, mark_of, marked_share, named, share_of, target, delivery, written}
use Rattle.scr_board.specs.Events.{delivered, enters, gives, replaced}
use Rattle.scr_board.specs.Sound.{IsKept, IsOwn, IsSound, freed}
use Rattle.scr_board.proofs.Totals.{each_at, each_set, total_set}
use Rattle.scr_board.proofs.Standing.{freed-none, freed-some, is_source, not_sent, some_left, times-some}
use Rattle.scr_board.proofs.Drawing.{none_stored}

module _ (round : Round) (form : IsFormed round) (workers : ℕ) (s : State) (sound : IsSound round workers s) (id : ℕ) (p : Progress) (n k d : ℕ)
    (at : get_elem? s.passes id ≡ some p) (put : 0 < times n p.put) (place : slice_get (dependants_of round n) k ≡ Some d) (new : deliveries n k p ≡ 0) where
  some_there : 0 < s.left d
  some_there = some_left round form workers s sound id p at n k d put place new

  with_sources : 0 < length (sources_of round d)
  with_sources = times-some n (sources_of round d) (is_source round form workers s sound id p at n k d put place new)

  -- what the hands name more is the node that is freed
  frees : (m : ℕ) (b : Bool) → nat_eq (s.left d) 1 ≡ b
      → freed (sources_of round m) (replaced s.left d (s.left d - 1) m) ≡ freed (sources_of round m) (s.left m) + one_if (nat_eq m d && b)
  frees m b e = by (eqb_tells m d)
    where
      here : (c : Bool) → nat_eq (s.left d) 1 ≡ c
          → freed (sources_of round d) (s.left d - 1) ≡ freed (sources_of round d) (s.left d) + one_if c
      here c f = on (eqb_tells (s.left d) 1)
        where
          on : ((nat_eq (s.left d) 1 ≡ true) × (s.left d ≡ 1)) ⊎ ((nat_eq (s.left d) 1 ≡ false) × (s.left d ≢ 1))
              → freed (sources_of round d) (s.left d - 1) ≡ freed (sources_of round d) (s.left d) + one_if c
          on (inl t) =
              let one : one_if c ≡ 1 = ap one_if (sym f ∙ t.0) in
              let gone : s.left d - 1 ≡ 0 = let l = t.1 in omega (arith, l) in
              let now = ap (freed (sources_of round d)) gone ∙ freed-none (sources_of round d) with_sources in
              let before = freed-some (sources_of round d) (s.left d) some_there in
              omega (arith, one, now, before)
          on (inr g) =
              let none : one_if c ≡ 0 = ap one_if (sym f ∙ g.0) in
              let ne = g.1 in
              let now = freed-some (sources_of round d) (s.left d - 1) (omega (arith, some_there, ne)) in
              let before = freed-some (sources_of round d) (s.left d) some_there in
              omega (arith, none, now, before)

      Frees : Bool → Type 0
      Frees c = freed (sources_of round m) (if c then s.left d - 1 else s.left m) ≡ freed (sources_of round m) (s.left m) + one_if (c && b)

      by : ((nat_eq m d ≡ true) × (m ≡ d)) ⊎ ((nat_eq m d ≡ false) × (m ≢ d)) → Frees (nat_eq m d)
      by (inl t) = subst Frees (sym t.0) (subst (λ x. freed (sources_of round x) (s.left d - 1) ≡ freed (sources_of round x) (s.left x) + one_if b) (sym t.1) (here b e))
      by (inr f) = subst Frees (sym f.0) (omega arith)

  fewer : (m : ℕ) → replaced s.left d (s.left d - 1) m + one_if (nat_eq m d) ≡ s.left m
  fewer m = by (eqb_tells m d)
    where
      Fewer : Bool → Type 0
      Fewer c = (if c then s.left d - 1 else s.left m) + one_if c ≡ s.left m

      by : ((nat_eq m d ≡ true) × (m ≡ d)) ⊎ ((nat_eq m d ≡ false) × (m ≢ d)) → Fewer (nat_eq m d)
      by (inl t) = let same : s.left m ≡ s.left d = ap s.left t.1 in let all : Fewer true = omega (arith, same, some_there) in subst Fewer (sym t.0) all
      by (inr f) = let all : Fewer false = omega arith in subst Fewer (sym f.0) all

  arrives : (m : ℕ) → one_if (is_some_of m (target round (delivery n k))) ≡ one_if (nat_eq m d)
  arrives m = ap (λ o. one_if (is_some_of m o)) place

  sent_now : (m i : ℕ) → total (deliveries m i) s.passes + one_if (nat_eq m n && nat_eq i k) ≤ 1
  sent_now m i = by (eqb_tells m n) (eqb_tells i k)
    where
      Sent : Bool → Bool → Type 0
      Sent b c = total (deliveries m i) s.passes + one_if (b && c) ≤ 1

      before : total (deliveries m i) s.passes ≤ 1
      before = sound.single m i

      apart : (b : Bool) → Sent b false
      apart true = omega (arith, before)
      apart false = omega (arith, before)

      other : (c : Bool) → Sent false c
      other c = omega (arith, before)

      by : ((nat_eq m n ≡ true) × (m ≡ n)) ⊎ ((nat_eq m n ≡ false) × (m ≢ n)) → ((nat_eq i k ≡ true) × (i ≡ k)) ⊎ ((nat_eq i k ≡ false) × (i ≢ k))
          → Sent (nat_eq m n) (nat_eq i k)
      by (inl t) (inl u) =
          let none = not_sent round form workers s sound id p at n k d put place new in
          let here : total (deliveries m i) s.passes ≡ 0 = ap (λ x. total (deliveries x i) s.passes) t.1 ∙ ap (λ y. total (deliveries n y) s.passes) u.1 ∙ none in
          let all : Sent true true = omega (arith, here) in
          subst (λ b. Sent b (nat_eq i k)) (sym t.0) (subst (Sent true) (sym u.0) all)
      by (inl t) (inr g) = subst (Sent (nat_eq m n)) (sym g.0) (apart (nat_eq m n))
      by (inr f) u = subst (λ b. Sent b (nat_eq i k)) (sym f.0) (other (nat_eq i k))

  -- what the pass becomes
  abbrev after : Bool → Progress
  after b = if b then enters d (gives n k p) else gives n k p

  both_if : (c : Bool) → one_if (c && true) ≡ one_if c
  both_if true = refl
  both_if false = refl

  neither : (c : Bool) → one_if (c && false) ≡ 0
  neither true = refl
  neither false = refl

  named_after : (m : ℕ) (b : Bool) → named m (after b) ≡ named m p + one_if (nat_eq m d && b)
  named_after m true = let both = both_if (nat_eq m d) in omega (arith, both)
  named_after m false = let none = neither (nat_eq m d) in omega (arith, none)

  arrivals_after : (m : ℕ) (b : Bool) → arrivals round m (after b) ≡ one_if (nat_eq m d) + arrivals round m p
  arrivals_after m true = let one = arrives m in omega (arith, one)
  arrivals_after m false = let one = arrives m in omega (arith, one)

  sent_after : (m i : ℕ) (b : Bool) → deliveries m i (after b) ≡ one_if (nat_eq m n && nat_eq i k) + deliveries m i p
  sent_after m i true = refl
  sent_after m i false = refl

  put_after : (m : ℕ) (b : Bool) → times m (after b).put ≡ times m p.put
  put_after m true = refl
  put_after m false = refl

  written_after : (m j : ℕ) (b : Bool) → written m j (after b) ≡ written m j p
  written_after m j true = let none = none_stored (nat_eq m d) j in omega (arith, none)
  written_after m j false = refl

  mark_after : (b : Bool) → mark_of (after b) ≡ mark_of p
  mark_after true = refl
  mark_after false = refl

  marked_after : (b : Bool) → marked_share (after b) ≡ marked_share p
  marked_after true = refl
  marked_after false = refl

  share_after : (b : Bool) → share_of (after b) ≡ share_of p
  share_after true = refl
  share_after false = refl

  own_after : (b : Bool) → IsOwn (after b)
  own_after b m i there = by (eqb_tells m n)
    where
      same : times m (after b).put ≡ times m p.put
      same = put_after m b

      by : ((nat_eq m n ≡ true) × (m ≡ n)) ⊎ ((nat_eq m n ≡ false) × (m ≢ n)) → 0 < times m (after b).put
      by (inl t) = let here : times m p.put ≡ times n p.put = ap (λ x. times x p.put) t.1 in omega (arith, same, here, put)
      by (inr f) =
          let none : one_if (nat_eq m n && nat_eq i k) ≡ 0 = ap (λ c. one_if (c && nat_eq i k)) f.0 in
          let now = sent_after m i b in
          let before = each_at IsOwn s.passes id p sound.own at m i (omega (arith, none, now, there)) in
          omega (arith, same, before)

  by_left : (b : Bool) → nat_eq (s.left d) 1 ≡ b
      → IsSound round workers (record s { left = replaced s.left d (s.left d - 1); passes = set s.passes id (after b) })
  by_left b e = record {
    names = λ m.
        let change = total_set (named m) s.passes id p (after b) at in
        let now = named_after m b in
        let free = frees m b e in
        let before = sound.names m in
        omega (arith, change, now, free, before);
    counts = λ m.
        let change = total_set (arrivals round m) s.passes id p (after b) at in
        let now = arrivals_after m b in
        let less = fewer m in
        let before = sound.counts m in
        omega (arith, change, now, less, before);
    single = λ m i.
        let change = total_set (deliveries m i) s.passes id p (after b) at in
        let now = sent_after m i b in
        let most = sent_now m i in
        omega (arith, change, now, most);
    own = each_set IsOwn s.passes id (after b) sound.own (own_after b);
    worked = λ m j low there.
        let change = total_set (written m j) s.passes id p (after b) at in
        let same = written_after m j b in
        sound.worked m j low (omega (arith, change, same, there));
    marks = λ there.
        let change = total_set mark_of s.passes id p (after b) at in
        let same = mark_after b in
        sound.marks (omega (arith, change, same, there));
    ticket =
        let change = total_set marked_share s.passes id p (after b) at in
        let same = marked_after b in
        let before = sound.ticket in
        omega (arith, change, same, before);
    kept = each_set IsKept s.passes id (after b) sound.kept
        (λ none.
        let same = share_after b in
        let empty = (each_at IsKept s.passes id p sound.kept at (sym same ∙ none)).1 in
        let nobody : times n p.put ≡ 0 = ap (times n) empty in
        absurd (omega (arith, nobody, put)));
    shares =
        let change = total_set share_of s.passes id p (after b) at in
        let same = share_after b in
        let before = sound.shares in
        omega (arith, change, same, before);
  }

  pub deliver_keeps : IsSound round workers (delivered s id p n k d)
  deliver_keeps = by_left (nat_eq (s.left d) 1) refl
