-- The seats of a row that are filled one after another.
use Rattle.std.proofs.Common.{◌≡◌, ◌≢◌, ◌⊎◌, inl, inr, ℕ, ◌+◌, ◌<◌, ◌≤◌, Bool, true, false, List, length, get_or, eqb, ltb, refl, sym, ap, ◌∙◌, arith}
use Rattle.std.specs.Prelude.{if◌then◌else◌}
use Rattle.std.specs.List.{IsDistinct}
use Rattle.std.proofs.lemmas.Bool.{cases_eq, cases_lt}
use Rattle.std.proofs.lemmas.Bool.Decides.{Decides-eqb, nat_tests}
use Rattle.std.proofs.lemmas.List.{get_or_past}
use Rattle.scr_tables.specs.Names.{same_name}
use Rattle.scr_member_lists.specs.Members.{has, moved, returned, name_at}
use Rattle.scr_member_lists.specs.Seatings.{NOWHERE, Seated, AreSeated, IsFor, KeepsRoom, KeepsSeats, names_of, roll_in, roll_then, room_of, seat_at, seat_of, stood}
use Rattle.scr_member_lists.specs.declared.seats.Seats.{Seats}
use Rattle.scr_member_lists.proofs.SeatGrowth.{keeps-same, keeps-more, names-past}
use Rattle.scr_member_lists.proofs.SeatMoves.{row-stands}
use Rattle.scr_member_lists.proofs.SeatReturns.{stands-by}
use Rattle.scr_member_lists.proofs.Settled.{moved-same}

below-none : (s : ℕ) → ltb s 0 ≡ false
below-none s = grind (arith, nat_tests)

below-last : (s i : ℕ) → i ≡ s → ltb s (i + 1) ≡ true
below-last s i e = grind (arith, nat_tests, e)

below-own : (s i : ℕ) → s ≡ i → ltb s i ≡ false
below-own s i e = grind (arith, nat_tests, e)

below-same : (s i : ℕ) → s ≢ i → ltb s (i + 1) ≡ ltb s i
below-same s i apart = by (cases_lt s i)
  where
    by : ((s < i) ⊎ (i ≤ s)) → ltb s (i + 1) ≡ ltb s i
    by (inl before) = grind (arith, nat_tests, before)
    by (inr past) = let after : i + 1 ≤ s = omega (arith, past, apart) in grind (arith, nat_tests, after, past)

-- in its first seats the row at place k of a table stands where it goes, and the rolls that have their members there have changed
pub record Done (table : List (List ℕ)) (k : ℕ) (goes : ℕ → ℕ) (change : (seat number : ℕ) → List (List ℕ) → List (List ℕ)) (i : ℕ) (old new : Seated) : Type 0 where
  pub seated : AreSeated table new
  pub seats : KeepsSeats old.rolls new.rolls
  pub own : (s : ℕ) → roll_in s (seat_at k new.seats) ≡ (if ltb s i then goes s else roll_in s (seat_at k old.seats))
  pub names : (n : ℕ) → n < length old.rolls
      → names_of n new.rolls ≡ (if ltb (seat_of n old.rolls) i then change (seat_of n old.rolls) n (names_of n old.rolls) else names_of n old.rolls)
  pub room : KeepsRoom old.rolls new.rolls
  pub rows : new.room ≡ old.room

module _ (table : List (List ℕ)) (k : ℕ) (goes : ℕ → ℕ) (change : (seat number : ℕ) → List (List ℕ) → List (List ℕ)) where
  pub done-none : (st : Seated) → AreSeated table st → Done table k goes change 0 st st
  done-none st seated = record {
    seated = seated;
    seats = keeps-same st.rolls;
    own = λ s. sym (ap (λ b. if b then goes s else roll_in s (seat_at k st.seats)) (below-none s));
    names = λ n h. sym (ap (λ b. if b then change (seat_of n st.rolls) n (names_of n st.rolls) else names_of n st.rolls) (below-none (seat_of n st.rolls)));
    room = λ n. omega arith;
    rows = refl;
  }

  module _ (i : ℕ) (old mid : Seated) (done : Done table k goes change i old mid) where
    -- what the next seat finds
    own-mid : roll_in i (seat_at k mid.seats) ≡ roll_in i (seat_at k old.seats)
    own-mid = done.own i ∙ ap (λ b. if b then goes i else roll_in i (seat_at k old.seats)) (below-own i i refl)

    names-mid : (n : ℕ) → n < length old.rolls → seat_of n old.rolls ≡ i → names_of n mid.rolls ≡ names_of n old.rolls
    names-mid n h seat =
        done.names n h ∙ ap (λ b. if b then change (seat_of n old.rolls) n (names_of n old.rolls) else names_of n old.rolls) (below-own (seat_of n old.rolls) i seat)

    pub for-mid : (r : ℕ) → IsFor old.rolls i r → IsFor mid.rolls i r
    for-mid r (inl e) = inl e
    for-mid r (inr is) = let keeps = done.seats in inr (let count = keeps.count in let number = is.0 in omega (arith, count, number), keeps.own r ∙ is.1)

    pub room-mid : (r : ℕ) → IsFor old.rolls i r → (r ≢ NOWHERE → r ≢ roll_in i (seat_at k old.seats) → 0 < room_of r old.rolls)
        → r ≢ NOWHERE → r ≢ roll_in i (seat_at k mid.seats) → 0 < room_of r mid.rolls
    room-mid r (inl e) some one other = absurd (one e)
    room-mid r (inr is) some one other =
        let before = some one (λ e. other (e ∙ sym own-mid)) in
        let more = done.room r in
        let long = ap length (names-mid r is.0 is.1) in
        omega (arith, before, more, long)

    pub back-mid : (r at : ℕ) → IsFor old.rolls i r
        → (r ≢ NOWHERE → r ≢ roll_in i (seat_at k old.seats) → (at ≤ length (names_of r old.rolls)) × (0 < room_of r old.rolls))
        → r ≢ NOWHERE → r ≢ roll_in i (seat_at k mid.seats) → (at ≤ length (names_of r mid.rolls)) × (0 < room_of r mid.rolls)
    back-mid r at (inl e) some one other = absurd (one e)
    back-mid r at (inr is) some one other =
        let before = some one (λ e. other (e ∙ sym own-mid)) in
        let more = done.room r in
        let long = ap length (names-mid r is.0 is.1) in
        (omega (arith, before, long), omega (arith, before, more, long))

    pub done-more : (new : Seated) → AreSeated table new → KeepsSeats mid.rolls new.rolls
        → ((s : ℕ) → roll_in s (seat_at k new.seats) ≡ (if eqb i s then goes i else roll_in s (seat_at k mid.seats)))
        → ((n : ℕ) → n < length mid.rolls → names_of n new.rolls ≡ (if eqb (seat_of n mid.rolls) i then change i n (names_of n mid.rolls) else names_of n mid.rolls))
        → KeepsRoom mid.rolls new.rolls → new.room ≡ mid.room → Done table k goes change (i + 1) old new
    done-more new seated keeps own names room rows = record {
      seated = seated;
      seats = keeps-more old.rolls mid.rolls new.rolls done.seats keeps;
      own = λ s. own-by s (eqb i s) refl;
      names = λ n h. names-by n h (eqb (seat_of n old.rolls) i) refl;
      room = λ n. let one = done.room n in let two = room n in omega (arith, one, two);
      rows = rows ∙ done.rows;
    }
      where
        own-by : (s : ℕ) (b : Bool) → eqb i s ≡ b → roll_in s (seat_at k new.seats) ≡ (if ltb s (i + 1) then goes s else roll_in s (seat_at k old.seats))
        own-by s true e =
            let is : i ≡ s = (Decides-eqb i s).0 e in
            own s ∙ ap (λ b. if b then goes i else roll_in s (seat_at k mid.seats)) e ∙ ap goes is
            ∙ sym (ap (λ b. if b then goes s else roll_in s (seat_at k old.seats)) (below-last s i is))
        own-by s false e =
            let other : s ≢ i = λ is. let never : true ≡ false = sym ((Decides-eqb i s).1 (sym is)) ∙ e in absurd (cc) in
            own s ∙ ap (λ b. if b then goes i else roll_in s (seat_at k mid.seats)) e ∙ done.own s
            ∙ ap (λ b. if b then goes s else roll_in s (seat_at k old.seats)) (sym (below-same s i other))

        names-by : (n : ℕ) → n < length old.rolls → (b : Bool) → eqb (seat_of n old.rolls) i ≡ b
            → names_of n new.rolls ≡ (if ltb (seat_of n old.rolls) (i + 1) then change (seat_of n old.rolls) n (names_of n old.rolls) else names_of n old.rolls)
        names-by n h b e =
            let keeps_mid = done.seats in
            let number : n < length mid.rolls = let count = keeps_mid.count in omega (arith, h, count) in
            let at : eqb (seat_of n mid.rolls) i ≡ b = ap (λ s. eqb s i) (keeps_mid.own n) ∙ e in
            names n number ∙ ap (λ t. if t then change i n (names_of n mid.rolls) else names_of n mid.rolls) at ∙ pick n h b e
          where
            pick : (n : ℕ) → n < length old.rolls → (b : Bool) → eqb (seat_of n old.rolls) i ≡ b
                → (if b then change i n (names_of n mid.rolls) else names_of n mid.rolls)
                ≡ (if ltb (seat_of n old.rolls) (i + 1) then change (seat_of n old.rolls) n (names_of n old.rolls) else names_of n old.rolls)
            pick n h true e =
                let is : seat_of n old.rolls ≡ i = (Decides-eqb (seat_of n old.rolls) i).0 e in
                ap (change i n) (names-mid n h is) ∙ ap (λ s. change s n (names_of n old.rolls)) (sym is)
                ∙ sym (ap (λ t. if t then change (seat_of n old.rolls) n (names_of n old.rolls) else names_of n old.rolls) (below-last (seat_of n old.rolls) i (sym is)))
            pick n h false e =
                let other : seat_of n old.rolls ≢ i = λ is. let never : true ≡ false = sym ((Decides-eqb (seat_of n old.rolls) i).1 is) ∙ e in absurd (cc) in
                done.names n h
                ∙ ap (λ t. if t then change (seat_of n old.rolls) n (names_of n old.rolls) else names_of n old.rolls) (sym (below-same (seat_of n old.rolls) i other))

-- ---- the row stands where a list names it

abbrev pub list-goes : List ℕ → Seats → ℕ → ℕ
list-goes rolls own s = roll_then s rolls own

abbrev pub list-change : List ℕ → Seats → List ℕ → (seat number : ℕ) → List (List ℕ) → List (List ℕ)
list-change rolls own x s n roll = moved x (has x roll) (eqb (roll_then s rolls own) n) roll

module _ (table : List (List ℕ)) (k : ℕ) (rolls : List ℕ) (old new : Seated) (seated : AreSeated table old) (apart : IsDistinct same_name table) (within : k < length table) where
  abbrev x : List ℕ
  x = name_at k table

  abbrev own : Seats
  own = seat_at k old.seats

  pub list-names : (i : ℕ) → length rolls ≤ i → Done table k (list-goes rolls own) (list-change rolls own x) i old new → (n : ℕ) → n < length old.rolls
      → names_of n new.rolls ≡ moved x (has x (names_of n old.rolls)) (eqb (roll_then (seat_of n old.rolls) rolls own) n) (names_of n old.rolls)
  list-names i all done n h = by (ltb s i) refl (done.names n h)
    where
      s : ℕ
      s = seat_of n old.rolls

      roll : List (List ℕ)
      roll = names_of n old.rolls

      past : ltb s i ≡ false → roll_then s rolls own ≡ roll_in s own
      past e = get_or_past rolls s (roll_in s own) (let beyond : i ≤ s = grind (arith, nat_tests, e) in omega (arith, all, beyond))

      by : (b : Bool) → ltb s i ≡ b → names_of n new.rolls ≡ (if ltb s i then list-change rolls own x s n roll else roll)
          → names_of n new.rolls ≡ moved x (has x roll) (eqb (roll_then s rolls own) n) roll
      by true e told = told ∙ ap (λ t. if t then list-change rolls own x s n roll else roll) e
      by false e told =
          let still : eqb (roll_then s rolls own) n ≡ has x roll = ap (λ r. eqb r n) (past e) ∙ sym (stands-by table old k seated apart within n h) in
          told ∙ ap (λ t. if t then list-change rolls own x s n roll else roll) e
          ∙ sym (ap (λ t. moved x (has x roll) t roll) still ∙ moved-same x (has x roll) roll)

-- ---- the row stands nowhere

module _ (table : List (List ℕ)) (k : ℕ) (old new : Seated) (seated : AreSeated table old) (apart : IsDistinct same_name table) (within : k < length table)
    (rolls : List ℕ) (free_rolls : (s : ℕ) → s < 11 → get_or rolls s (roll_in s (seat_at k old.seats)) ≡ NOWHERE) where
  -- a row has eleven seats
  beyond : (s : ℕ) → 11 ≤ s → roll_in s (seat_at k old.seats) ≡ NOWHERE
  beyond s h = by (cases_eq (roll_in s (seat_at k old.seats)) NOWHERE)
    where
      by : ((roll_in s (seat_at k old.seats) ≡ NOWHERE) ⊎ (roll_in s (seat_at k old.seats) ≡ NOWHERE → ⊥)) → roll_in s (seat_at k old.seats) ≡ NOWHERE
      by (inl e) = e
      by (inr some) =
          let stands = row-stands table old seated apart k within s some in
          let seat = stands.own in
          let inside = seated.seats (roll_in s (seat_at k old.seats)) in
          absurd (omega (arith, h, seat, inside))

  nowhere-then : (s : ℕ) → length rolls ≤ 11 → roll_then s rolls (seat_at k old.seats) ≡ NOWHERE
  nowhere-then s few = by (cases_lt s 11)
    where
      by : ((s < 11) ⊎ (11 ≤ s)) → roll_then s rolls (seat_at k old.seats) ≡ NOWHERE
      by (inl h) = free_rolls s h
      by (inr h) = get_or_past rolls s (roll_in s (seat_at k old.seats)) (omega (arith, few, h)) ∙ beyond s h

  pub vacated-names : length rolls ≤ 11 → KeepsSeats old.rolls new.rolls
      → ((n : ℕ) → n < length old.rolls → names_of n new.rolls
      ≡ moved (name_at k table) (has (name_at k table) (names_of n old.rolls)) (eqb (roll_then (seat_of n old.rolls) rolls (seat_at k old.seats)) n) (names_of n old.rolls))
      → (n : ℕ) → names_of n new.rolls ≡ moved (name_at k table) (has (name_at k table) (names_of n old.rolls)) false (names_of n old.rolls)
  vacated-names few keeps names n = by (cases_lt n (length old.rolls))
    where
      by : ((n < length old.rolls) ⊎ (length old.rolls ≤ n)) → names_of n new.rolls ≡ moved (name_at k table) (has (name_at k table) (names_of n old.rolls)) false (names_of n old.rolls)
      by (inl h) =
          let least = seated.few in
          let other : NOWHERE ≢ n = λ e. omega (arith, h, least, e) in
          let none : eqb (roll_then (seat_of n old.rolls) rolls (seat_at k old.seats)) n ≡ false =
          ap (λ r. eqb r n) (nowhere-then (seat_of n old.rolls) few) ∙ unlike NOWHERE n other in
          names n h ∙ ap (λ b. moved (name_at k table) (has (name_at k table) (names_of n old.rolls)) b (names_of n old.rolls)) none
        where
          unlike : (a b : ℕ) → a ≢ b → eqb a b ≡ false
          unlike a b differ = grind (arith, nat_tests, differ)
      by (inr past) =
          let count = keeps.count in
          names-past new.rolls n (omega (arith, past, count))
          ∙ sym (ap (λ roll. moved (name_at k table) (has (name_at k table) roll) false roll) (names-past old.rolls n past))

  pub vacated-own : length rolls ≤ 11 → ((s : ℕ) → roll_in s (seat_at k new.seats) ≡ roll_then s rolls (seat_at k old.seats)) → (s : ℕ) → roll_in s (seat_at k new.seats) ≡ NOWHERE
  vacated-own few own s = own s ∙ nowhere-then s few

-- ---- the row stands where its seats were kept

abbrev pub back-goes : Seats → ℕ → ℕ
back-goes before s = roll_in s before

abbrev pub back-change : Seats → List ℕ → (seat number : ℕ) → List (List ℕ) → List (List ℕ)
back-change before x s n roll = returned x (stood s n before) roll

module _ (table : List (List ℕ)) (k : ℕ) (before : Seats) (old new : Seated) (seated : AreSeated table old)
    (done : Done table k (back-goes before) (back-change before (name_at k table)) 11 old new) where
  pub back-own : (s : ℕ) → s < 11 → roll_in s (seat_at k new.seats) ≡ roll_in s before
  back-own s h = done.own s ∙ ap (λ b. if b then roll_in s before else roll_in s (seat_at k old.seats)) (below s h)
    where
      below : (s : ℕ) → s < 11 → ltb s 11 ≡ true
      below s h = grind (arith, nat_tests, h)

  pub back-names : (n : ℕ) → n < length old.rolls → names_of n new.rolls ≡ returned (name_at k table) (stood (seat_of n old.rolls) n before) (names_of n old.rolls)
  back-names n h =
      done.names n h
      ∙ ap (λ b. if b then back-change before (name_at k table) (seat_of n old.rolls) n (names_of n old.rolls) else names_of n old.rolls) (below (seat_of n old.rolls) (seated.seats n))
    where
      below : (s : ℕ) → s < 11 → ltb s 11 ≡ true
      below s h = grind (arith, nat_tests, h)
