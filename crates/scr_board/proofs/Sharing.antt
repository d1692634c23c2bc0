-- A split and a join lead from a sound state to a sound state.
use Rattle.std.proofs.Common.{◌≡◌, ℕ, zero, suc, ◌+◌, ◌-◌, ◌<◌, ◌≤◌, ◌≢◌, true, false, nat_eq, nat_lt, ◌&&◌, if◌then◌else◌, [], ◌∷◌, ◌++◌, length, set, refl, ap, arith}
use mathlib.Core.Option.{some}
use lib.ListN.{get_elem?}
use Rattle.scr_board.specs.declared.lists.Progress.{Progress}
use Rattle.scr_board.specs.declared.lists.Round.{Round}
use Rattle.scr_board.specs.Counts.{one_if, times, total}
use Rattle.scr_board.specs.States.{State, arrivals, deliveries, fresh, is_some_of, mark_of, marked_share, named, share_of, spent, target, written}
use Rattle.scr_board.specs.Events.{joined, joins, split, splits}
use Rattle.scr_board.specs.Sound.{IsKept, IsOwn, IsSound}
use Rattle.scr_board.proofs.Totals.{each_at, each_set, each_snoc, set_apart, total_append, total_part, total_set, total_snoc}

module _ (round : Round) (workers : ℕ) (s : State) (sound : IsSound round workers s) (id : ℕ) (p : Progress) (at : get_elem? s.passes id ≡ some p) where
  module _ (unmarked : p.marked ≡ false) (some_parts : 1 < p.share) where
    -- what is counted of the two together is what was counted of the one
    splits_total : (f : Progress → ℕ) → f (splits p) + f (fresh 1) ≡ f p → total f (set s.passes id (splits p) ++ fresh 1 ∷ []) ≡ total f s.passes
    splits_total f same =
        let more = total_snoc f (set s.passes id (splits p)) (fresh 1) in
        let change = total_set f s.passes id p (splits p) at in
        omega (arith, more, change, same)

    pub split_keeps : IsSound round workers (split s id p)
    split_keeps =
        let unshared : marked_share (splits p) ≡ 0 = ap (λ b. if b then p.share - 1 else 0) unmarked in
        let unshared_before : marked_share p ≡ 0 = ap (λ b. if b then p.share else 0) unmarked in
        record {
          names = λ m. let same = splits_total (named m) (omega arith) in let before = sound.names m in omega (arith, same, before);
          counts = λ m. let same = splits_total (arrivals round m) (omega arith) in let before = sound.counts m in omega (arith, same, before);
          single = λ m k. let same = splits_total (deliveries m k) (omega arith) in let before = sound.single m k in omega (arith, same, before);
          own = each_snoc IsOwn (set s.passes id (splits p)) (fresh 1)
              (each_set IsOwn s.passes id (splits p) sound.own (each_at IsOwn s.passes id p sound.own at))
              (λ m k there. absurd (omega (arith, there)));
          worked = λ m j low there. let same = splits_total (written m j) (omega arith) in sound.worked m j low (omega (arith, same, there));
          marks = λ there. let same = splits_total mark_of (omega arith) in sound.marks (omega (arith, same, there));
          ticket = let same = splits_total marked_share (omega (arith, unshared, unshared_before)) in let before = sound.ticket in omega (arith, same, before);
          kept = each_snoc IsKept (set s.passes id (splits p)) (fresh 1)
              (each_set IsKept s.passes id (splits p) sound.kept (λ none. absurd (omega (arith, none, some_parts))))
              (λ none. absurd (omega (arith, none)));
          shares = let same = splits_total share_of (omega (arith, some_parts)) in let before = sound.shares in omega (arith, same, before);
        }

  module _ (other : ℕ) (o : Progress) (there : get_elem? s.passes other ≡ some o) (apart : other ≢ id)
      (marked : p.marked ≡ true) (marked_too : o.marked ≡ true) (part : 0 < p.share) where
    -- what is counted of the one is what was counted of the two
    joins_total : (f : Progress → ℕ) → f (joins p o) + f spent ≡ f p + f o → total f (set (set s.passes id (joins p o)) other spent) ≡ total f s.passes
    joins_total f same =
        let first = total_set f s.passes id p (joins p o) at in
        let second = total_set f (set s.passes id (joins p o)) other o spent (set_apart s.passes id other (joins p o) o apart there) in
        omega (arith, first, second, same)

    names_same : (m : ℕ) → named m (joins p o) + named m spent ≡ named m p + named m o
    names_same m =
        let hands = total_append (λ h. one_if (nat_eq m h.node)) p.hand o.hand in
        let puts = total_append (λ x. one_if (nat_eq m x)) p.put o.put in
        omega (arith, hands, puts)

    arrivals_same : (m : ℕ) → arrivals round m (joins p o) + arrivals round m spent ≡ arrivals round m p + arrivals round m o
    arrivals_same m = let all = total_append (λ d. one_if (is_some_of m (target round d))) p.delivered o.delivered in omega (arith, all)

    sent_same : (m k : ℕ) → deliveries m k (joins p o) + deliveries m k spent ≡ deliveries m k p + deliveries m k o
    sent_same m k = let all = total_append (λ d. one_if (nat_eq m d.node && nat_eq k d.place)) p.delivered o.delivered in omega (arith, all)

    written_same : (m j : ℕ) → written m j (joins p o) + written m j spent ≡ written m j p + written m j o
    written_same m j =
        let hands = total_append (λ h. one_if (nat_eq m h.node && nat_lt j h.stored)) p.hand o.hand in
        let puts = total_append (λ x. one_if (nat_eq m x)) p.put o.put in
        omega (arith, hands, puts)

    shares_same : marked_share (joins p o) + marked_share spent ≡ marked_share p + marked_share o
    shares_same =
        let one : marked_share p ≡ p.share = ap (λ b. if b then p.share else 0) marked in
        let two : marked_share o ≡ o.share = ap (λ b. if b then o.share else 0) marked_too in
        omega (arith, one, two)

    own_joined : IsOwn (joins p o)
    own_joined m k pos =
        let sent = sent_same m k in
        let puts = total_append (λ x. one_if (nat_eq m x)) p.put o.put in
        by (deliveries m k p) refl (omega (arith, puts)) (omega (arith, sent, pos))
      where
        by : (x : ℕ) → deliveries m k p ≡ x → times m (joins p o).put ≡ times m p.put + times m o.put → 0 < deliveries m k p + deliveries m k o
            → 0 < times m (joins p o).put
        by zero e puts some_sent = let put = each_at IsOwn s.passes other o sound.own there m k (omega (arith, e, some_sent)) in omega (arith, put, puts)
        by (suc x) e puts some_sent = let put = each_at IsOwn s.passes id p sound.own at m k (omega (arith, e)) in omega (arith, put, puts)

    seen : length round.starts ≤ s.ticket
    seen =
        let one : mark_of p ≡ 1 = ap one_if marked in
        let all = total_part mark_of s.passes id p at in
        sound.marks (omega (arith, one, all))

    pub join_keeps : IsSound round workers (joined s id p other o)
    join_keeps = record {
      names = λ m. let same = joins_total (named m) (names_same m) in let before = sound.names m in omega (arith, same, before);
      counts = λ m. let same = joins_total (arrivals round m) (arrivals_same m) in let before = sound.counts m in omega (arith, same, before);
      single = λ m k. let same = joins_total (deliveries m k) (sent_same m k) in let before = sound.single m k in omega (arith, same, before);
      own = each_set IsOwn (set s.passes id (joins p o)) other spent (each_set IsOwn s.passes id (joins p o) sound.own own_joined)
          (λ m k pos. absurd (omega (arith, pos)));
      worked = λ m j low pos. let same = joins_total (written m j) (written_same m j) in sound.worked m j low (omega (arith, same, pos));
      marks = λ pos. seen;
      ticket = let same = joins_total marked_share shares_same in let before = sound.ticket in omega (arith, same, before);
      kept = each_set IsKept (set s.passes id (joins p o)) other spent
          (each_set IsKept s.passes id (joins p o) sound.kept (λ none. absurd (omega (arith, none, part))))
          (λ none. (refl, refl, refl));
      shares = let same = joins_total share_of (omega arith) in let before = sound.shares in omega (arith, same, before);
    }
