-- What a seat knows stays known after each step.
use Rattle.std.proofs.Common.{◌≡◌, ℕ, ◌+◌, ◌*◌, ◌^◌, ◌<◌, ◌≢◌, ◌⊎◌, Bool, true, false, nat_eq, nat_lt, ◌&&◌, if◌then◌else◌, List, [], Option, Some, None, length, get_or, slice_get, refl, sym, ap, ◌∙◌, subst, inl, inr, arith}
use Rattle.std.specs.Prelude.{⊤}
use Rattle.std.proofs.lemmas.List.{length-map}
use Rattle.std.proofs.lemmas.Bool.Decides.{eqb_tells}
use Rattle.atomic_table.specs.declared.shared.Seat.{Seat}
use Rattle.scr_board.specs.declared.lists.Progress.{Progress}
use Rattle.scr_board.specs.declared.lists.Round.{Round}
use Rattle.scr_board.specs.Counts.{one_if, times}
use Rattle.scr_board.specs.Rounds.{count_of, dependants_of, sources_of}
use Rattle.scr_board.specs.States.{holds, named, stored_of}
use Rattle.scr_board.specs.Events.{delivers, draws, enters, gives, writes}
use Rattle.scr_board.specs.Sound.{IsOwn}
use Rattle.scr_board.proofs.Members.{is_some_of-Some, place-times}
use Rattle.scr_board.proofs.Storing.{named-writes, put-grows}
use Rattle.scr_board.specs.declared.views.View.{View}
use Rattle.scr_board.specs.declared.board.Board.{Board}
use Rattle.scr_board.specs.Plays.{CanRead, Sat}
use Rattle.scr_board.specs.Passes.{IsSeatOf}
use Rattle.scr_board.specs.BoardRounds.{BoardRound, lists_of, nodes_in}
use Rattle.scr_board.specs.Views.{view_delivered, view_drawn, view_stored, with_progress}
use Rattle.scr_board.proofs.Rows.{each_row}

pub count-lists : (round : BoardRound) → count_of (lists_of round) ≡ length round.places
count-lists round = length-map round.places nodes_in

module _ (board : Board) (seat : Seat ⊤ View) (h : IsSeatOf board seat) where
  -- what a pass can read is a node of the round
  pub can_node : (n : ℕ) → CanRead seat.me.0.round seat.me.0.progress n → n < length h.round.places
  can_node n (inl put) = h.nodes n (omega (arith, put))
  can_node n (inr source) =
      let from : 0 < times n (sources_of (lists_of h.round) source.0) = subst (λ (R : Round). 0 < times n (sources_of R source.0)) h.lists source.2 in
      let low = (h.formed.form.within source.0 n from).1 in
      let count = count-lists h.round in
      omega (arith, low, count)

  -- the words of a node stand on the board
  pub word_stands : (n j : ℕ) → n < length h.round.places → j < 4 → 5 * n + 2 + j < board.table.shared.table_id.words
  word_stands n j node low = let words = h.words in omega (arith, words, node, low)

  pub count_stands : (n : ℕ) → n < length h.round.places → 5 * n + 1 < board.table.shared.table_id.words
  count_stands n node = let words = h.words in omega (arith, words, node)

  -- a start is a node
  pub start_node : (t n : ℕ) → slice_get seat.me.0.round.starts t ≡ Some n → n < length h.round.places
  start_node t n at =
      let at' : slice_get (lists_of h.round).starts t ≡ Some n = subst (λ (R : Round). slice_get R.starts t ≡ Some n) h.lists at in
      let there = place-times n (lists_of h.round).starts t (is_some_of-Some n n (slice_get (lists_of h.round).starts t) at' refl) in
      let low = h.formed.form.low n there in
      let count = count-lists h.round in
      omega (arith, low, count)

  -- a dependant is a node
  pub dependant_node : (n k d : ℕ) → slice_get (dependants_of seat.me.0.round n) k ≡ Some d → d < length h.round.places
  dependant_node n k d at =
      let at' : slice_get (dependants_of (lists_of h.round) n) k ≡ Some d = subst (λ (R : Round). slice_get (dependants_of R n) k ≡ Some d) h.lists at in
      let there = place-times d (dependants_of (lists_of h.round) n) k (is_some_of-Some d d (slice_get (dependants_of (lists_of h.round) n) k) at' refl) in
      let pair = h.formed.form.pairs d n in
      let low = (h.formed.form.within d n (omega (arith, there, pair))).0 in
      let count = count-lists h.round in
      omega (arith, low, count)

module _ (board : Board) (old new : Seat ⊤ View) (h : IsSeatOf board old) (table : new.table_id ≡ old.table_id) where
  kept : (p : Progress) → new.me.1 ≡ old.me.1 → new.me.0.round ≡ old.me.0.round → new.me.0.workers ≡ old.me.0.workers → new.me.0.progress ≡ p
      → 0 < p.share → ((n : ℕ) → 0 < named n p → n < length h.round.places) → IsOwn p → IsSeatOf board new
  kept p slots round workers is part nodes own = record {
    table = table ∙ h.table;
    slots = slots ∙ h.slots;
    round = h.round;
    formed = h.formed;
    lists = round ∙ h.lists;
    starts = h.starts;
    dependants = h.dependants;
    words = h.words;
    slotless = h.slotless;
    workers = workers ∙ h.workers;
    part = subst (λ (q : Progress). 0 < q.share) (sym is) part;
    nodes = subst (λ (q : Progress). (n : ℕ) → 0 < named n q → n < length h.round.places) (sym is) nodes;
    own = subst IsOwn (sym is) own;
  }

  pub seat_same : new.me ≡ old.me → IsSeatOf board new
  seat_same me = kept old.me.0.progress (ap (λ (m : Sat). m.1) me) (ap (λ (m : Sat). m.0.round) me) (ap (λ (m : Sat). m.0.workers) me)
      (ap (λ (m : Sat). m.0.progress) me) h.part h.nodes h.own

  with : (p : Progress) → new.me ≡ (with_progress old.me.0 p, old.me.1) → 0 < p.share → ((n : ℕ) → 0 < named n p → n < length h.round.places)
      → IsOwn p → IsSeatOf board new
  with p me = kept p (ap (λ (m : Sat). m.1) me) (ap (λ (m : Sat). m.0.round) me) (ap (λ (m : Sat). m.0.workers) me) (ap (λ (m : Sat). m.0.progress) me)

  pub seat_drawn : (t : ℕ) → new.me ≡ (view_drawn t old.me.0, old.me.1) → IsSeatOf board new
  seat_drawn t me = with (draws (slice_get old.me.0.round.starts t) old.me.0.progress) me (part (slice_get old.me.0.round.starts t))
      (nodes (slice_get old.me.0.round.starts t) refl) (own (slice_get old.me.0.round.starts t))
    where
      part : (o : Option ℕ) → 0 < (draws o old.me.0.progress).share
      part (Some n) = h.part
      part None = h.part

      nodes : (o : Option ℕ) → slice_get old.me.0.round.starts t ≡ o → (n : ℕ) → 0 < named n (draws o old.me.0.progress) → n < length h.round.places
      nodes None e n there = h.nodes n there
      nodes (Some m) e n there = by (eqb_tells n m)
        where
          by : ((nat_eq n m ≡ true) × (n ≡ m)) ⊎ ((nat_eq n m ≡ false) × (n ≢ m)) → n < length h.round.places
          by (inl u) = let low = start_node board old h t m e in let same = u.1 in omega (arith, low, same)
          by (inr f) = let none : one_if (nat_eq n m) ≡ 0 = ap one_if f.0 in h.nodes n (omega (arith, none, there))

      own : (o : Option ℕ) → IsOwn (draws o old.me.0.progress)
      own (Some n) = h.own
      own None = h.own

  pub seat_stored : (n : ℕ) → 0 < holds n old.me.0.progress.hand → new.me ≡ (view_stored n old.me.0, old.me.1) → IsSeatOf board new
  seat_stored n held me = with (writes n old.me.0.progress) me h.part
      (λ m there. let same = named-writes n m old.me.0.progress held in h.nodes m (omega (arith, same, there)))
      (λ m k there. let put = h.own m k there in let more = put-grows n m (nat_lt (stored_of n old.me.0.progress.hand) 3) old.me.0.progress.put in omega (arith, put, more))

  pub seat_delivered : (n k d left : ℕ) → 0 < times n old.me.0.progress.put → slice_get (dependants_of old.me.0.round n) k ≡ Some d
      → new.me ≡ (view_delivered n k d left old.me.0, old.me.1) → IsSeatOf board new
  seat_delivered n k d left put at me = with (delivers n k d left old.me.0.progress) me (part (nat_eq left 1)) (nodes (nat_eq left 1)) (own (nat_eq left 1))
    where
      p : Progress
      p = old.me.0.progress

      after : Bool → Progress
      after b = if b then enters d (gives n k p) else gives n k p

      part : (b : Bool) → 0 < (after b).share
      part true = h.part
      part false = h.part

      nodes : (b : Bool) → (m : ℕ) → 0 < named m (after b) → m < length h.round.places
      nodes false m there = h.nodes m there
      nodes true m there = by (eqb_tells m d)
        where
          by : ((nat_eq m d ≡ true) × (m ≡ d)) ⊎ ((nat_eq m d ≡ false) × (m ≢ d)) → m < length h.round.places
          by (inl u) = let low = dependant_node board old h n k d at in let same = u.1 in omega (arith, low, same)
          by (inr f) = let none : one_if (nat_eq m d) ≡ 0 = ap one_if f.0 in h.nodes m (omega (arith, none, there))

      gave_own : IsOwn (gives n k p)
      gave_own m i there = by (eqb_tells m n)
        where
          by : ((nat_eq m n ≡ true) × (m ≡ n)) ⊎ ((nat_eq m n ≡ false) × (m ≢ n)) → 0 < times m p.put
          by (inl u) = subst (λ x. 0 < times x p.put) (sym u.1) put
          by (inr f) =
              let none : one_if (nat_eq m n && nat_eq i k) ≡ 0 = ap (λ c. one_if (c && nat_eq i k)) f.0 in
              h.own m i (omega (arith, none, there))

      own : (b : Bool) → IsOwn (after b)
      own true = gave_own
      own false = gave_own

-- the dependants that the board keeps of a node
module _ (board : Board) (seat : Seat ⊤ View) (h : IsSeatOf board seat) where
  pub row_of : (n : ℕ) → get_or board.dependants n [] ≡ dependants_of seat.me.0.round n
  row_of n = ap (λ (rows : List (List ℕ)). get_or rows n []) (sym h.dependants) ∙ ap (λ (R : Round). dependants_of R n) (sym h.lists)

  pub row_few : (n : ℕ) → n < length h.round.places → length (dependants_of seat.me.0.round n) < 2 ^ 32
  row_few n node =
      let known = h.formed.known in
      subst (λ (R : Round). length (dependants_of R n) < 2 ^ 32) (sym h.lists)
      (each_row (λ (row : List ℕ). length row < 2 ^ 32) h.round.dependants n h.formed.few_dependants (omega (arith, known, node)))
