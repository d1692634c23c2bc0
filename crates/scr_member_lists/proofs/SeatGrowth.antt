-- More rolls, more room for members and for rows: nothing has moved.
use Rattle.std.proofs.Common.{◌≡◌, ◌≢◌, ◌⊎◌, inl, inr, ℕ, ◌+◌, ◌<◌, ◌≤◌, List, [], length, Option, get_or, refl, sym, ap, subst, ◌∙◌, arith}
use Rattle.std.specs.Option.{option_map_or}
use Rattle.std.proofs.lemmas.Bool.{cases_eq, cases_lt}
use Rattle.std.proofs.lemmas.Option.{slice_get_past}
use Rattle.std.proofs.lemmas.List.{get_or_past}
use Rattle.scr_member_lists.specs.Members.{name_at}
use Rattle.scr_member_lists.specs.Seatings.{NOWHERE, Seated, AreSeated, Grows, KeepsRoom, KeepsSeats, StandsAt, names_of, place_in, roll_in, room_of, seat_of, seats_of, target}
use Rattle.scr_member_lists.specs.declared.seats.Seats.{Seats}
use Rattle.scr_member_lists.specs.declared.seating.Numbered.{Numbered}

-- a number that is none has no members, and no seat
pub names-past : (rolls : List Numbered) (n : ℕ) → length rolls ≤ n → names_of n rolls ≡ []
names-past rolls n past = ap (λ (found : Option Numbered). option_map_or (λ (roll : Numbered). roll.roster.names) found []) (slice_get_past rolls n past)

pub seat-past : (rolls : List Numbered) (n : ℕ) → length rolls ≤ n → seat_of n rolls ≡ 0
seat-past rolls n past = ap (λ (found : Option Numbered). option_map_or (λ (roll : Numbered). roll.seat) found 0) (slice_get_past rolls n past)

-- a roll with a member is one
pub is-one : (rolls : List Numbered) (n p : ℕ) → p < length (names_of n rolls) → n < length rolls
is-one rolls n p h = by (cases_lt n (length rolls))
  where
    by : ((n < length rolls) ⊎ (length rolls ≤ n)) → n < length rolls
    by (inl inside) = inside
    by (inr past) = let none = ap length (names-past rolls n past) in absurd (omega (arith, h, none))

module _ (old new : Seated) (count : length old.rolls ≤ length new.rolls) (few : length old.rolls ≤ NOWHERE → length new.rolls ≤ NOWHERE)
    (own : (n : ℕ) → n < length old.rolls → seat_of n new.rolls ≡ seat_of n old.rolls) (names : (n : ℕ) → names_of n new.rolls ≡ names_of n old.rolls)
    (seats : new.seats ≡ old.seats) (within : ((n : ℕ) → seat_of n old.rolls < 11) → (n : ℕ) → seat_of n new.rolls < 11) where
  pub seated-still : (table : List (List ℕ)) → AreSeated table old → AreSeated table new
  seated-still table seated = record {
    beside = ap length seats ∙ seated.beside;
    few = few seated.few;
    seats = within seated.seats;
    rolled = λ n p h. ap (λ s. roll_in s (member n p)) (own n (is-one old.rolls n p (before n p h))) ∙ ap (roll_in (seat_of n old.rolls)) (same n p) ∙ seated.rolled n p (before n p h);
    placed = λ n p h. ap (λ s. place_in s (member n p)) (own n (is-one old.rolls n p (before n p h))) ∙ ap (place_in (seat_of n old.rolls)) (same n p) ∙ seated.placed n p (before n p h);
    there = λ y s some. stands y s (seated.there y s (λ e. some (ap (λ (ss : List Seats). roll_in s (seats_of table ss y)) seats ∙ e)));
  }
    where
      member : ℕ → ℕ → Seats
      member n p = seats_of table new.seats (name_at p (names_of n new.rolls))

      before : (n p : ℕ) → p < length (names_of n new.rolls) → p < length (names_of n old.rolls)
      before n p h = subst (λ (xs : List (List ℕ)). p < length xs) (names n) h

      same : (n p : ℕ) → member n p ≡ seats_of table old.seats (name_at p (names_of n old.rolls))
      same n p =
          ap (λ (ss : List Seats). seats_of table ss (name_at p (names_of n new.rolls))) seats
          ∙ ap (λ (xs : List (List ℕ)). seats_of table old.seats (name_at p xs)) (names n)

      stands : (y : List ℕ) (s : ℕ) → StandsAt old.rolls y s (roll_in s (seats_of table old.seats y)) (place_in s (seats_of table old.seats y))
          → StandsAt new.rolls y s (roll_in s (seats_of table new.seats y)) (place_in s (seats_of table new.seats y))
      stands y s st =
          let n : ℕ = roll_in s (seats_of table old.seats y) in
          let p : ℕ = place_in s (seats_of table old.seats y) in
          subst (λ (ss : List Seats). StandsAt new.rolls y s (roll_in s (seats_of table ss y)) (place_in s (seats_of table ss y))) (sym seats) (record {
            numbered = let inside = st.numbered in omega (arith, inside, count);
            own = own n st.numbered ∙ st.own;
            within = subst (λ (xs : List (List ℕ)). p < length xs) (sym (names n)) st.within;
            named = ap (λ (xs : List (List ℕ)). name_at p xs) (names n) ∙ st.named;
          })

-- what has grown, with what it has made of the seats
pub grows-by : (old new : Seated) → length old.rolls ≤ length new.rolls → (length old.rolls ≤ NOWHERE → length new.rolls ≤ NOWHERE)
    → ((n : ℕ) → n < length old.rolls → seat_of n new.rolls ≡ seat_of n old.rolls) → ((n : ℕ) → names_of n new.rolls ≡ names_of n old.rolls)
    → new.seats ≡ old.seats → KeepsRoom old.rolls new.rolls → old.room ≤ new.room
    → (((n : ℕ) → seat_of n old.rolls < 11) → (n : ℕ) → seat_of n new.rolls < 11) → Grows old new
grows-by old new count few own names seats room rows within = record {
  count = count;
  few = few;
  own = own;
  names = names;
  seats = seats;
  room = room;
  rows = rows;
  seated = seated-still old new count few own names seats within;
}

pub grows-same : (st : Seated) → Grows st st
grows-same st = record {
  count = omega arith;
  few = λ few. few;
  own = λ n h. refl;
  names = λ n. refl;
  seats = refl;
  room = λ n. omega arith;
  rows = omega arith;
  seated = λ table seated. seated;
}

pub grows-more : (one two three : Seated) → Grows one two → Grows two three → Grows one three
grows-more one two three a b = record {
  count = let h = a.count in let k = b.count in omega (arith, h, k);
  few = λ few. b.few (a.few few);
  own = λ n h. let count = a.count in b.own n (omega (arith, h, count)) ∙ a.own n h;
  names = λ n. b.names n ∙ a.names n;
  seats = b.seats ∙ a.seats;
  room = λ n. let h = a.room n in let k = b.room n in omega (arith, h, k);
  rows = let h = a.rows in let k = b.rows in omega (arith, h, k);
  seated = λ table seated. b.seated table (a.seated table seated);
}

-- one roll more
pub grows-added : (old new : Seated) (seat : ℕ) → seat < 11 → length new.rolls ≡ length old.rolls + 1 → length new.rolls ≤ NOWHERE
    → seat_of (length old.rolls) new.rolls ≡ seat
    → ((n : ℕ) → n < length old.rolls → seat_of n new.rolls ≡ seat_of n old.rolls) → ((n : ℕ) → names_of n new.rolls ≡ names_of n old.rolls)
    → KeepsRoom old.rolls new.rolls → new.seats ≡ old.seats → new.room ≡ old.room → Grows old new
grows-added old new seat inside count few is own names room seats rows =
    grows-by old new (omega (arith, count)) (λ h. few) own names seats room (omega (arith, rows)) (λ all n. by all n (cases_lt n (length old.rolls)) (cases_eq n (length old.rolls)))
  where
    by : ((n : ℕ) → seat_of n old.rolls < 11) → (n : ℕ) → ((n < length old.rolls) ⊎ (length old.rolls ≤ n)) → ((n ≡ length old.rolls) ⊎ (n ≡ length old.rolls → ⊥)) → seat_of n new.rolls < 11
    by all n (inl before) e = subst (λ s. s < 11) (sym (own n before)) (all n)
    by all n (inr past) (inl e) = subst (λ s. s < 11) (sym (ap (λ m. seat_of m new.rolls) e ∙ is)) inside
    by all n (inr past) (inr e) = let none = seat-past new.rolls n (omega (arith, past, e, count)) in omega (arith, none)

-- more room in a roll
pub grows-reserved : (old new : Seated) → KeepsSeats old.rolls new.rolls → ((n : ℕ) → names_of n new.rolls ≡ names_of n old.rolls)
    → ((n : ℕ) → room_of n old.rolls ≤ room_of n new.rolls) → new.seats ≡ old.seats → new.room ≡ old.room → Grows old new
grows-reserved old new keeps names room seats rows =
    grows-by old new (let count = keeps.count in omega (arith, count)) (λ few. let count = keeps.count in omega (arith, count, few))
    (λ n h. keeps.own n) names seats (λ n. let more = room n in let long = ap length (names n) in omega (arith, more, long)) (omega (arith, rows))
    (λ all n. subst (λ s. s < 11) (sym (keeps.own n)) (all n))

-- more room for rows
pub grows-rows : (old new : Seated) → new.rolls ≡ old.rolls → new.seats ≡ old.seats → old.room ≤ new.room → Grows old new
grows-rows old new rolls seats rows =
    grows-by old new (let count = ap length rolls in omega (arith, count)) (λ few. let count = ap length rolls in omega (arith, count, few))
    (λ n h. ap (seat_of n) rolls) (λ n. ap (names_of n) rolls) seats
    (λ n. let long = ap (λ (rs : List Numbered). length (names_of n rs)) rolls in let more = ap (room_of n) rolls in omega (arith, long, more)) rows
    (λ all n. subst (λ s. s < 11) (sym (ap (seat_of n) rolls)) (all n))

pub keeps-same : (rolls : List Numbered) → KeepsSeats rolls rolls
keeps-same rolls = record { count = refl; own = λ n. refl }

pub keeps-more : (one two three : List Numbered) → KeepsSeats one two → KeepsSeats two three → KeepsSeats one three
keeps-more one two three a b = record { count = b.count ∙ a.count; own = λ n. b.own n ∙ a.own n }

pub keeps-is : (old new : List Numbered) → new ≡ old → KeepsSeats old new
keeps-is old new is = record { count = ap length is; own = λ n. ap (seat_of n) is }

-- ---- so many rolls more as there are seats in a list

pub record Added (seats : List ℕ) (k : ℕ) (old new : Seated) : Type 0 where
  pub count : length new.rolls ≡ length old.rolls + k
  pub few : length new.rolls ≤ NOWHERE
  pub own : (j : ℕ) → j < k → seat_of (length old.rolls + j) new.rolls ≡ get_or seats j 0
  pub grows : Grows old new

pub added-none : (seats : List ℕ) (st : Seated) → length st.rolls ≤ NOWHERE → Added seats 0 st st
added-none seats st few = record {
  count = omega arith;
  few = few;
  own = λ j h. absurd (omega (arith, h));
  grows = grows-same st;
}

pub added-more : (seats : List ℕ) (k seat : ℕ) (old mid new : Seated) → Added seats k old mid → seat ≡ get_or seats k 0 → seat < 11
    → length new.rolls ≡ length mid.rolls + 1 → length new.rolls ≤ NOWHERE → seat_of (length mid.rolls) new.rolls ≡ seat
    → ((n : ℕ) → n < length mid.rolls → seat_of n new.rolls ≡ seat_of n mid.rolls) → ((n : ℕ) → names_of n new.rolls ≡ names_of n mid.rolls)
    → KeepsRoom mid.rolls new.rolls → new.seats ≡ mid.seats → new.room ≡ mid.room → Added seats (k + 1) old new
added-more seats k seat old mid new done at inside count few is own names room rows_seats rows = record {
  count = let so_far = done.count in omega (arith, count, so_far);
  few = few;
  own = λ j h. by j h (cases_eq j k);
  grows = grows-more old mid new done.grows (grows-added mid new seat inside count few is own names room rows_seats rows);
}
  where
    by : (j : ℕ) → j < k + 1 → ((j ≡ k) ⊎ (j ≡ k → ⊥)) → seat_of (length old.rolls + j) new.rolls ≡ get_or seats j 0
    by j h (inl e) =
        let so_far = done.count in
        let last : length old.rolls + j ≡ length mid.rolls = omega (arith, so_far, e) in
        ap (λ n. seat_of n new.rolls) last ∙ is ∙ at ∙ ap (λ i. get_or seats i 0) (sym e)
    by j h (inr e) =
        let so_far = done.count in
        let before : j < k = omega (arith, h, e) in
        own (length old.rolls + j) (omega (arith, so_far, before)) ∙ done.own j before

-- ---- room in each roll of a list

pub record Roomy (rolls : List ℕ) (k : ℕ) (old new : Seated) : Type 0 where
  pub room : 0 < new.room
  pub each : (s : ℕ) → s < k → target s rolls ≢ NOWHERE → 0 < room_of (target s rolls) new.rolls
  pub keeps : KeepsSeats old.rolls new.rolls
  pub grows : Grows old new

pub roomy-none : (rolls : List ℕ) (old new : Seated) → 0 < new.room → new.rolls ≡ old.rolls → new.seats ≡ old.seats → old.room ≤ new.room → Roomy rolls 0 old new
roomy-none rolls old new some same seats room = record {
  room = some;
  each = λ s h. absurd (omega (arith, h));
  keeps = keeps-is old.rolls new.rolls same;
  grows = grows-rows old new same seats room;
}

pub roomy-more : (rolls : List ℕ) (k roll : ℕ) (old mid new : Seated) → Roomy rolls k old mid → roll ≡ target k rolls
    → (roll ≢ NOWHERE → 0 < room_of roll new.rolls) → KeepsSeats mid.rolls new.rolls → new.room ≡ mid.room → Grows mid new → Roomy rolls (k + 1) old new
roomy-more rolls k roll old mid new done at some keeps rows grows = record {
  room = let more = done.room in omega (arith, more, rows);
  each = λ s h one. by s h one (cases_eq s k);
  keeps = keeps-more old.rolls mid.rolls new.rolls done.keeps keeps;
  grows = grows-more old mid new done.grows grows;
}
  where
    by : (s : ℕ) → s < k + 1 → target s rolls ≢ NOWHERE → ((s ≡ k) ⊎ (s ≡ k → ⊥)) → 0 < room_of (target s rolls) new.rolls
    by s h one (inl e) =
        let is : roll ≡ target s rolls = at ∙ ap (λ i. target i rolls) (sym e) in
        subst (λ r. 0 < room_of r new.rolls) is (some (λ z. one (sym is ∙ z)))
    by s h one (inr e) =
        let before = done.each s (omega (arith, h, e)) one in
        let more = grows.room (target s rolls) in
        let long = ap length (grows.names (target s rolls)) in
        omega (arith, before, more, long)

-- all of the list is room
pub roomy-all : (rolls : List ℕ) (k : ℕ) (old new : Seated) → Roomy rolls k old new → length rolls ≤ k
    → (s : ℕ) → target s rolls ≢ NOWHERE → 0 < room_of (target s rolls) new.rolls
roomy-all rolls k old new done all s one = by (cases_lt s k)
  where
    by : ((s < k) ⊎ (k ≤ s)) → 0 < room_of (target s rolls) new.rolls
    by (inl before) = done.each s before one
    by (inr past) = absurd (one (get_or_past rolls s NOWHERE (omega (arith, all, past))))
