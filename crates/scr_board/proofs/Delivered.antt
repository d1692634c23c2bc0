-- A worker's steps with its pass.
use Rattle.std.proofs.Common.{◌≡◌, ℕ, zero, suc, ◌+◌, ◌<◌, ◌≤◌, ◌≢◌, ◌⊎◌, Bool, true, false, nat_eq, ◌&&◌, if◌then◌else◌, List, [], ◌∷◌, ◌++◌, Option, Some, None, length, map, get_or, slice_get, refl, sym, ap, ◌∙◌, subst, inl, inr, arith}
use Rattle.std.specs.Prelude.{MatchOption, vec_capacity, ⊤}
use Rattle.atomic_table.specs.declared.shared.Seat.{Seat}
use Rattle.std.specs.List.{AllByRecursion}
use Rattle.std.proofs.lemmas.Bool.Decides.{eqb_tells}
use Rattle.scr_board.specs.declared.lists.Held.{Held}
use Rattle.scr_board.specs.declared.lists.Progress.{Progress}
use Rattle.scr_board.specs.declared.lists.Round.{Round}
use Rattle.scr_board.specs.Counts.{one_if, times}
use Rattle.scr_board.specs.Rounds.{dependants_of, sources_of}
use Rattle.scr_board.specs.States.{deliveries, held, holds, named}
use Rattle.scr_board.specs.Events.{delivers, draws, enters, gives}
use Rattle.scr_board.specs.Sound.{IsAtEnd}
use Rattle.scr_board.proofs.Members.{get-below, same_number}
use Rattle.scr_board.specs.declared.board.Board.{Board}
use Rattle.scr_board.specs.declared.board.Pass.{Pass}
use Rattle.scr_board.specs.declared.views.View.{View}
use Rattle.scr_board.specs.Passes.{IsPassOf, IsSameRoom, IsSeatOf, IsUnstored, last_of, progress, puts, view, without}
use Rattle.scr_board.specs.Plays.{AreNamedOnce, CanRead}
use Rattle.scr_board.specs.BoardRounds.{BoardRound, Spot, Fixed, Node, lists_of, nodes_in, places_at}
use Rattle.scr_board.specs.Views.{view_delivered, view_drawn, with_progress}
use Rattle.scr_board.specs.Working.{HasTaken, IsBetween, IsDelivering, IsDone, stacked}
use Rattle.scr_board.proofs.Reading.{same_count}
use Rattle.scr_board.proofs.Seats.{count-lists}
use Rattle.scr_board.proofs.Stacks.{stacked-length, stacked-push}

-- ---- a node is put

module _ (board : Board) (round : BoardRound) (old new : Pass) (n : ℕ) (h : HasTaken board round old n) (pass : IsPassOf board new)
    (room : IsSameRoom old new) (is : view new ≡ with_progress (view old) (puts n (progress old))) (once : AreNamedOnce (view new).round (progress new)) where
  now : progress new ≡ puts n (progress old)
  now = ap (λ (v : View). v.progress) is

  lists : (view new).round ≡ lists_of round
  lists = ap (λ (v : View). v.round) is ∙ h.ready.lists

  once' : AreNamedOnce (lists_of round) (progress new)
  once' = subst (λ (R : Round). AreNamedOnce R (progress new)) lists once

  -- it was not put before
  before : times n (progress old).put ≡ 0
  before =
      let most = once'.once n in
      let is_now : named n (progress new) ≡ named n (puts n (progress old)) = ap (named n) now in
      let one : one_if (nat_eq n n) ≡ 1 = ap one_if (same_number n) in
      omega (arith, most, is_now, one)

  pub put_then : IsDelivering board round new n 0
  put_then = record {
    ready = record {
      of_board = pass;
      formed = h.ready.formed;
      lists = lists;
      nodes = subst (λ (v : _). length round.places ≤ vec_capacity v) (sym room.hand) h.ready.nodes;
      places = subst (λ (v : _). AllByRecursion (λ row. length row ≤ vec_capacity v) round.places) (sym room.got) h.ready.places;
    };
    unmarked = ap (λ (p : Progress). p.marked) now ∙ h.unmarked;
    hand =
        ap (λ (p : Progress). p.hand) now ∙ ap (without n) h.hand ∙ ap (λ b. if b then stacked old.hand.items [] else held n 0 ∷ without n (stacked old.hand.items [])) (same_number n)
        ∙ ap (λ v. stacked v.items []) (sym room.hand);
    put =
        let is_now : times n (progress new).put ≡ one_if (nat_eq n n) + times n (progress old).put = ap (λ (p : Progress). times n p.put) now in
        let one : one_if (nat_eq n n) ≡ 1 = ap one_if (same_number n) in
        omega (arith, is_now, one);
    delivered = λ m i d put at other.
        let is_now : times m (progress new).put ≡ one_if (nat_eq m n) + times m (progress old).put = ap (λ (p : Progress). times m p.put) now in
        let same : deliveries m i (progress new) ≡ deliveries m i (progress old) = ap (λ (p : Progress). deliveries m i p) now in
        earlier m i d at same (omega (arith, is_now, put)) other;
    new = λ i _.
        let same : deliveries n i (progress new) ≡ deliveries n i (progress old) = ap (λ (p : Progress). deliveries n i p) now in
        none i same;
    once = once';
  }
    where
      earlier : (m i d : ℕ) → slice_get (dependants_of (lists_of round) m) i ≡ Some d → deliveries m i (progress new) ≡ deliveries m i (progress old)
          → 0 < one_if (nat_eq m n) + times m (progress old).put → (m ≢ n) ⊎ (i < 0) → 0 < deliveries m i (progress new)
      earlier m i d at same put (inr low) = absurd (omega (arith, low))
      earlier m i d at same put (inl ne) = by (eqb_tells m n)
        where
          by : ((nat_eq m n ≡ true) × (m ≡ n)) ⊎ ((nat_eq m n ≡ false) × (m ≢ n)) → 0 < deliveries m i (progress new)
          by (inl t) = absurd (ne t.1)
          by (inr f) =
              let none : one_if (nat_eq m n) ≡ 0 = ap one_if f.0 in
              let made = h.all m i d (omega (arith, put, none)) at in
              omega (arith, made, same)

      none : (i : ℕ) → deliveries n i (progress new) ≡ deliveries n i (progress old) → deliveries n i (progress new) ≡ 0
      none i same = by (deliveries n i (progress old)) refl
        where
          by : (x : ℕ) → deliveries n i (progress old) ≡ x → deliveries n i (progress new) ≡ 0
          by zero e = same ∙ e
          by (suc x) e =
              let own = h.ready.of_board.seat.own n i (omega (arith, e)) in
              let not_put = before in
              absurd (omega (arith, own, not_put))

-- ---- a delivery is made

module _ (board : Board) (round : BoardRound) (old new : Pass) (n k : ℕ) (h : IsDelivering board round old n k) (pass : IsPassOf board new)
    (left d : ℕ) (at : slice_get (dependants_of (view old).round n) k ≡ Some d) (is : view new ≡ view_delivered n k d left (view old))
    (once : AreNamedOnce (view new).round (progress new)) (got : new.got ≡ old.got) (capacity : vec_capacity new.hand ≡ vec_capacity old.hand)
    (items : new.hand.items ≡ (if nat_eq left 1 then old.hand.items ++ d ∷ [] else old.hand.items)) where
  now_of : progress new ≡ delivers n k d left (progress old)
  now_of = ap (λ (v : View). v.progress) is

  lists_of_new : (view new).round ≡ lists_of round
  lists_of_new = ap (λ (v : View). v.round) is ∙ h.ready.lists

  abbrev after : Bool → Progress
  after b = if b then enters d (gives n k (progress old)) else gives n k (progress old)

  sent_of : (m i : ℕ) (b : Bool) → deliveries m i (after b) ≡ one_if (nat_eq m n && nat_eq i k) + deliveries m i (progress old)
  sent_of m i true = refl
  sent_of m i false = refl

  put_of : (m : ℕ) (b : Bool) → times m (after b).put ≡ times m (progress old).put
  put_of m true = refl
  put_of m false = refl

  sent_now : (m i : ℕ) → deliveries m i (progress new) ≡ one_if (nat_eq m n && nat_eq i k) + deliveries m i (progress old)
  sent_now m i = ap (λ (p : Progress). deliveries m i p) now_of ∙ sent_of m i (nat_eq left 1)

  put_now : (m : ℕ) → times m (progress new).put ≡ times m (progress old).put
  put_now m = ap (λ (p : Progress). times m p.put) now_of ∙ put_of m (nat_eq left 1)

  pub put_kept : (progress new).put ≡ (progress old).put
  put_kept = ap (λ (p : Progress). p.put) now_of ∙ kept (nat_eq left 1)
    where
      kept : (b : Bool) → (after b).put ≡ (progress old).put
      kept true = refl
      kept false = refl

  marked_of : (b : Bool) → (after b).marked ≡ (progress old).marked
  marked_of true = refl
  marked_of false = refl

  hand_of : (b : Bool) → (after b).hand ≡ stacked (if b then old.hand.items ++ d ∷ [] else old.hand.items) []
  hand_of true = ap (λ hand. held d 0 ∷ hand) h.hand ∙ sym (stacked-push old.hand.items d [])
  hand_of false = h.hand

  pub delivered_then : IsDelivering board round new n (k + 1)
  delivered_then = record {
    ready = record {
      of_board = pass;
      formed = h.ready.formed;
      lists = lists_of_new;
      nodes = let same = capacity in let nodes = h.ready.nodes in omega (arith, same, nodes);
      places = subst (λ v. AllByRecursion (λ row. length row ≤ vec_capacity v) round.places) (sym got) h.ready.places;
    };
    unmarked = ap (λ (p : Progress). p.marked) now_of ∙ marked_of (nat_eq left 1) ∙ h.unmarked;
    hand = ap (λ (p : Progress). p.hand) now_of ∙ hand_of (nat_eq left 1) ∙ ap (λ xs. stacked xs []) (sym items);
    put = let same = put_now n in let put = h.put in omega (arith, same, put);
    delivered = λ m i e put there which.
        let same = put_now m in
        let sent = sent_now m i in
        each m i e (omega (arith, same, put)) there sent which (eqb_tells m n) (eqb_tells i k);
    new = λ i past.
        let sent = sent_now n i in
        let before = h.new i (omega (arith, past)) in
        none i past sent before (eqb_tells i k);
    once = subst (λ (R : Round). AreNamedOnce R (progress new)) lists_of_new once;
  }
    where
      each : (m i e : ℕ) → 0 < times m (progress old).put → slice_get (dependants_of (lists_of round) m) i ≡ Some e
          → deliveries m i (progress new) ≡ one_if (nat_eq m n && nat_eq i k) + deliveries m i (progress old) → (m ≢ n) ⊎ (i < k + 1)
          → ((nat_eq m n ≡ true) × (m ≡ n)) ⊎ ((nat_eq m n ≡ false) × (m ≢ n)) → ((nat_eq i k ≡ true) × (i ≡ k)) ⊎ ((nat_eq i k ≡ false) × (i ≢ k))
          → 0 < deliveries m i (progress new)
      each m i e put there sent which (inr f) u = let made = h.delivered m i e put there (inl f.1) in omega (arith, made, sent)
      each m i e put there sent which (inl t) (inl u) =
          let one : one_if (nat_eq m n && nat_eq i k) ≡ 1 = ap (λ b. one_if (b && nat_eq i k)) t.0 ∙ ap one_if u.0 in
          omega (arith, one, sent)
      each m i e put there sent (inl ne) (inl t) (inr g) = absurd (ne t.1)
      each m i e put there sent (inr low) (inl t) (inr g) =
          let ne = g.1 in
          let made = h.delivered m i e put there (inr (omega (arith, low, ne))) in
          omega (arith, made, sent)

      none : (i : ℕ) → k + 1 ≤ i → deliveries n i (progress new) ≡ one_if (nat_eq n n && nat_eq i k) + deliveries n i (progress old)
          → deliveries n i (progress old) ≡ 0 → ((nat_eq i k ≡ true) × (i ≡ k)) ⊎ ((nat_eq i k ≡ false) × (i ≢ k)) → deliveries n i (progress new) ≡ 0
      none i past sent before (inl u) = let same = u.1 in absurd (omega (arith, past, same))
      none i past sent before (inr g) =
          let apart : one_if (nat_eq n n && nat_eq i k) ≡ 0 = ap (λ b. one_if (nat_eq n n && b)) g.0 ∙ ap (λ b. one_if (b && false)) (same_number n) in
          omega (arith, apart, sent, before)

-- where all dependants of the node were delivered to
pub delivered_all : (board : Board) (round : BoardRound) (pass : Pass) (n k : ℕ) → IsDelivering board round pass n k
    → length (dependants_of (lists_of round) n) ≤ k → IsBetween board round pass
delivered_all board round pass n k h past = record {
  ready = h.ready;
  unmarked = h.unmarked;
  hand = h.hand;
  all = λ m i d put at. all m i d put at (eqb_tells m n);
  once = h.once;
}
  where
    all : (m i d : ℕ) → 0 < times m (progress pass).put → slice_get (dependants_of (lists_of round) m) i ≡ Some d
        → ((nat_eq m n ≡ true) × (m ≡ n)) ⊎ ((nat_eq m n ≡ false) × (m ≢ n)) → 0 < deliveries m i (progress pass)
    all m i d put at (inr f) = h.delivered m i d put at (inl f.1)
    all m i d put at (inl t) =
        let low = get-below (dependants_of (lists_of round) n) i d (subst (λ x. slice_get (dependants_of (lists_of round) x) i ≡ Some d) t.1 at) in
        h.delivered m i d put at (inr (omega (arith, low, past)))

-- ---- a node is taken

-- from the room
pub popped : (board : Board) (round : BoardRound) (old new : Pass) (n : ℕ) → IsBetween board round old → new.seat ≡ old.seat → new.got ≡ old.got
    → vec_capacity new.hand ≡ vec_capacity old.hand → old.hand.items ≡ new.hand.items ++ n ∷ [] → HasTaken board round new n
popped board round old new n h seat got capacity items = record {
  ready = record {
    of_board = record {
      seat = subst (IsSeatOf board) (sym seat) h.ready.of_board.seat;
      share = ap (λ (s : Seat ⊤ View). s.me.0.progress.share) seat ∙ h.ready.of_board.share;
      unstored = subst (λ (s : Seat ⊤ View). AllByRecursion IsUnstored s.me.0.progress.hand) (sym seat) h.ready.of_board.unstored;
    };
    formed = h.ready.formed;
    lists = ap (λ (s : Seat ⊤ View). s.me.0.round) seat ∙ h.ready.lists;
    nodes = let nodes = h.ready.nodes in omega (arith, capacity, nodes);
    places = subst (λ v. AllByRecursion (λ row. length row ≤ vec_capacity v) round.places) (sym got) h.ready.places;
  };
  unmarked = ap (λ (s : Seat ⊤ View). s.me.0.progress.marked) seat ∙ h.unmarked;
  hand =
      ap (λ (s : Seat ⊤ View). s.me.0.progress.hand) seat ∙ h.hand ∙ ap (λ xs. stacked xs []) items ∙ stacked-push new.hand.items n [];
  all = subst (λ (s : Seat ⊤ View). (m i d : ℕ) → 0 < times m s.me.0.progress.put → slice_get (dependants_of (lists_of round) m) i ≡ Some d
      → 0 < deliveries m i s.me.0.progress) (sym seat) h.all;
  once = subst (λ (s : Seat ⊤ View). AreNamedOnce (lists_of round) s.me.0.progress) (sym seat) h.once;
}

-- or drawn; where no start is left, the pass is at its end
module _ (board : Board) (round : BoardRound) (old new : Pass) (h : IsBetween board round old) (empty : old.hand.items ≡ []) (pass : IsPassOf board new)
    (none : new.hand.items ≡ []) (capacity : vec_capacity new.hand ≡ vec_capacity old.hand) (got : new.got ≡ old.got) (ticket : ℕ) (is : view new ≡ view_drawn ticket (view old))
    (once : AreNamedOnce (view new).round (progress new)) where
  drawn_lists : (view new).round ≡ lists_of round
  drawn_lists = ap (λ (v : View). v.round) is ∙ h.ready.lists

  drawn_now : (o : Option ℕ) → slice_get (view old).round.starts ticket ≡ o → progress new ≡ draws o (progress old)
  drawn_now o e = ap (λ (v : View). v.progress) is ∙ ap (λ p. draws p (progress old)) e

  pub drawn_then : (n : ℕ) → slice_get (view old).round.starts ticket ≡ Some n → HasTaken board round new n
  drawn_then n e =
      let now = drawn_now (Some n) e in
      record {
        ready = record {
          of_board = pass;
          formed = h.ready.formed;
          lists = drawn_lists;
          nodes = let nodes = h.ready.nodes in omega (arith, capacity, nodes);
          places = subst (λ v. AllByRecursion (λ row. length row ≤ vec_capacity v) round.places) (sym got) h.ready.places;
        };
        unmarked = ap (λ (p : Progress). p.marked) now ∙ h.unmarked;
        hand =
            ap (λ (p : Progress). p.hand) now ∙ ap (λ xs. held n 0 ∷ xs) h.hand
            ∙ ap (λ xs. held n 0 ∷ stacked xs []) (empty ∙ sym none);
        all = subst (λ (p : Progress). (m i d : ℕ) → 0 < times m p.put → slice_get (dependants_of (lists_of round) m) i ≡ Some d → 0 < deliveries m i p)
            (sym now) h.all;
        once = subst (λ (R : Round). AreNamedOnce R (progress new)) drawn_lists once;
      }

  pub drawn_end : slice_get (view old).round.starts ticket ≡ None → IsDone board round new
  drawn_end e =
      let now = drawn_now None e in
      record {
        of_board = pass;
        formed = h.ready.formed;
        lists = drawn_lists;
        end = subst (λ (R : Round). IsAtEnd R (progress new)) (sym drawn_lists) (record {
          marked = ap (λ (p : Progress). p.marked) now;
          empty = ap (λ (p : Progress). p.hand) now ∙ h.hand ∙ ap (λ xs. stacked xs []) empty;
          all = subst (λ (p : Progress). (m i d : ℕ) → 0 < times m p.put → slice_get (dependants_of (lists_of round) m) i ≡ Some d → 0 < deliveries m i p)
              (sym now) h.all;
        });
      }

  pub drawn_next : (result : Option ℕ) → result ≡ slice_get (view old).round.starts ticket
      → MatchOption result (IsDone board round new) (HasTaken board round new)
  drawn_next None e = drawn_end (sym e)
  drawn_next (Some n) e = drawn_then n (sym e)

-- ---- measures and room

-- the nodes put are no more than those of the round
pub few_put : (round : BoardRound) (p : Progress) → AreNamedOnce (lists_of round) p → length p.hand + length p.put ≤ length round.places
few_put round p once = let few = once.few in let count = count-lists round in omega (arith, few, count)

-- the room holds no more nodes than the hand
pub few_stacked : (nodes : List ℕ) (hand : List Held) → hand ≡ stacked nodes [] → length nodes ≡ length hand
few_stacked nodes hand is =
    let long = ap (λ (xs : List Held). length xs) is in
    let same = stacked-length nodes [] in
    omega (arith, long, same)

-- ---- what is known of a node that was taken

pub taken_node : (board : Board) (round : BoardRound) (pass : Pass) (n : ℕ) → HasTaken board round pass n → n < length round.places
taken_node board round pass n h =
    let one : one_if (nat_eq n n) ≡ 1 = ap one_if (same_number n) in
    let hand = ap (holds n) h.hand in
    let low = h.ready.of_board.seat.nodes n (omega (arith, one, hand)) in
    let same = same_count h.ready.of_board.seat.round round (view pass).round h.ready.of_board.seat.lists h.ready.lists in
    omega (arith, low, same)

-- it can read the node that a place names
pub can_source : (board : Board) (round : BoardRound) (pass : Pass) (n k m : ℕ) → HasTaken board round pass n
    → slice_get (places_at round n) k ≡ Some (Node m) → CanRead (view pass).round (progress pass) m
can_source board round pass n k m h at =
    let one : one_if (nat_eq n n) ≡ 1 = ap one_if (same_number n) in
    let hand = ap (holds n) h.hand in
    inr (
      n,
      omega (arith, one, hand),
      subst (λ (R : Round). 0 < times m (sources_of R n)) (sym h.ready.lists)
          (subst (λ (xs : List ℕ). 0 < times m xs) (sym (sources-at round.places n)) (named_by (places_at round n) k at)),
    )
  where
    sources-at : (rows : List (List Spot)) (i : ℕ) → get_or (map nodes_in rows) i [] ≡ nodes_in (get_or rows i [])
    sources-at [] i = refl
    sources-at (row ∷ rows) zero = refl
    sources-at (row ∷ rows) (suc i) = sources-at rows i

    named_by : (row : List Spot) (i : ℕ) → slice_get row i ≡ Some (Node m) → 0 < times m (nodes_in row)
    named_by [] i e = absurd (no e)
      where
        no : None ≡ Some (Node m) → ⊥
        no f = cc
    named_by (Fixed e ∷ row) zero f = absurd (no f)
      where
        no : Some (Fixed e) ≡ Some (Node m) → ⊥
        no g = cc
    named_by (Fixed e ∷ row) (suc i) f = named_by row i f
    named_by (Node j ∷ row) zero f =
        let here : one_if (nat_eq m j) ≡ 1 = ap (λ x. one_if (nat_eq m x)) (same f) ∙ ap one_if (same_number m) in
        omega (arith, here)
      where
        same : Some (Node j) ≡ Some (Node m) → j ≡ m
        same g = cc
    named_by (Node j ∷ row) (suc i) f = let more = named_by row i f in omega (arith, more)

-- a pass whose seat is the same is one of the board
pub pass_seat : (board : Board) (old new : Pass) → IsPassOf board old → new.seat ≡ old.seat → IsPassOf board new
pass_seat board old new h seat = record {
  seat = subst (IsSeatOf board) (sym seat) h.seat;
  share = ap (λ (s : Seat ⊤ View). s.me.0.progress.share) seat ∙ h.share;
  unstored = subst (λ (s : Seat ⊤ View). AllByRecursion IsUnstored s.me.0.progress.hand) (sym seat) h.unstored;
}

-- a taken node stays taken where nothing but the figures changes
pub taken_again : (board : Board) (round : BoardRound) (old new : Pass) (n : ℕ) → HasTaken board round old n → IsPassOf board new → view new ≡ view old
    → new.hand ≡ old.hand → vec_capacity new.got ≡ vec_capacity old.got → HasTaken board round new n
taken_again board round old new n h pass is hand got = record {
  ready = record {
    of_board = pass;
    formed = h.ready.formed;
    lists = ap (λ (v : View). v.round) is ∙ h.ready.lists;
    nodes = subst (λ v. length round.places ≤ vec_capacity v) (sym hand) h.ready.nodes;
    places = subst (λ c. AllByRecursion (λ row. length row ≤ c) round.places) (sym got) h.ready.places;
  };
  unmarked = ap (λ (v : View). v.progress.marked) is ∙ h.unmarked;
  hand = ap (λ (v : View). v.progress.hand) is ∙ h.hand ∙ ap (λ v. held n 0 ∷ stacked v.items []) (sym hand);
  all = subst (λ (v : View). (m i d : ℕ) → 0 < times m v.progress.put → slice_get (dependants_of (lists_of round) m) i ≡ Some d
      → 0 < deliveries m i v.progress) (sym is) h.all;
  once = subst (λ (v : View). AreNamedOnce (lists_of round) v.progress) (sym is) h.once;
}

-- ---- what a delivery told

pub last_some : (left d x : ℕ) → last_of left d ≡ Some x → (nat_eq left 1 ≡ true) × (d ≡ x)
last_some left d x e = by (nat_eq left 1) refl e
  where
    by : (b : Bool) → nat_eq left 1 ≡ b → (if b then Some d else None) ≡ Some x → (nat_eq left 1 ≡ true) × (d ≡ x)
    by true f g = (f, same g)
      where
        same : Some d ≡ Some x → d ≡ x
        same h = cc
    by false f g = absurd (no g)
      where
        no : None ≡ Some x → ⊥
        no h = cc

pub last_none : (left d : ℕ) → last_of left d ≡ None → nat_eq left 1 ≡ false
last_none left d e = by (nat_eq left 1) refl e
  where
    by : (b : Bool) → nat_eq left 1 ≡ b → (if b then Some d else None) ≡ None → nat_eq left 1 ≡ false
    by false f g = f
    by true f g = absurd (no g)
      where
        no : Some d ≡ None → ⊥
        no h = cc

-- the room has space for a dependant that enters the hand
pub room_left : (board : Board) (round : BoardRound) (old new : Pass) (n k left d x : ℕ) → IsDelivering board round old n k
    → view new ≡ view_delivered n k d left (view old) → last_of left d ≡ Some x → AreNamedOnce (view new).round (progress new)
    → length old.hand.items < length round.places
room_left board round old new n k left d x h is told once =
    let lists : (view new).round ≡ lists_of round = ap (λ (v : View). v.round) is ∙ h.ready.lists in
    let once' : AreNamedOnce (lists_of round) (progress new) = subst (λ (R : Round). AreNamedOnce R (progress new)) lists once in
    let few = few_put round (progress new) once' in
    let entered : (progress new).hand ≡ held d 0 ∷ (progress old).hand
    = ap (λ (v : View). v.progress.hand) is
    ∙ ap (λ b. (if b then enters d (gives n k (progress old)) else gives n k (progress old)).hand) (last_some left d x told).0 in
    let long = ap (λ (xs : List Held). length xs) entered in
    let same = few_stacked old.hand.items (progress old).hand h.hand in
    omega (arith, few, long, same)
