-- All first numbers are made row by row, and in a row seat by seat.
use Rattle.std.proofs.Common.{◌≡◌, ◌≢◌, ◌⊎◌, inl, inr, ℕ, ◌+◌, ◌-◌, ◌<◌, ◌≤◌, ◌++◌, List, [], length, get_or, map, replicate, set, Option, Result, Ok, Err, OnOk, refl, sym, ap, subst, ◌∙◌, arith}
use Rattle.std.specs.List.{IsDistinct, position_or_len}
use Rattle.std.proofs.lemmas.Bool.{cases_eq, cases_lt}
use Rattle.std.proofs.lemmas.List.{get_or-append-add, get_or-set_other, get_or-set_same, get_or_append_left, length-append, length-replicate, length-set, get_or-map, get_or-replicate, get_or_past, length-map, same_lists}
use Rattle.std.proofs.lemmas.Option.{slice_get-get_or, slice_get_past}
use Rattle.std.specs.Option.{option_map_or}
use Rattle.scr_tables.specs.Names.{same_name}
use Rattle.scr_member_lists.specs.Members.{name_at}
use Rattle.scr_member_lists.specs.Seatings.{NOWHERE, AreSeated, Seated, free, names_of, place_in, roll_in, seat_at, seat_of, seats_of}
use Rattle.scr_member_lists.specs.declared.seats.Seats.{Seats}
use Rattle.scr_member_lists.proofs.SeatLists.{place-of}
use Rattle.scr_member_lists.specs.declared.seating.Numbered.{Numbered}
use Rattle.scr_sum_slots.specs.Firsts.{FirstLists, first_at, firsts_in, room_beside}
use Rattle.scr_sum_slots.specs.Filling.{AreFirsts, IsEntered, IsWritten}
use Rattle.scr_sum_slots.proofs.Views.{one-some}

-- a list with a member has a number that is one
numbered : (st : Seated) (list place : ℕ) → length st.rolls ≤ NOWHERE → place < length (names_of list st.rolls) → list ≢ NOWHERE
numbered st list place few low e =
    let none : length (names_of list st.rolls) ≡ 0 =
    ap (λ (found : Option Numbered). length (option_map_or (λ (roll : Numbered). roll.roster.names) found []))
    (slice_get_past st.rolls list (omega (arith, few, e))) in
    omega (arith, low, none)

-- ---- one number more

nothing : (many at : ℕ) → ◌≡◌ {A = ℕ} (get_or (replicate many 0) at 0) 0
nothing many at = by (cases_lt at many)
  where
    by : (at < many) ⊎ (many ≤ at) → ◌≡◌ {A = ℕ} (get_or (replicate many 0) at 0) 0
    by (inl low) = get_or-replicate many at 0 0 low
    by (inr past) = get_or_past (replicate many 0) at 0 (omega (arith, past, length-replicate {A = ℕ} many 0))

pub written : (list place number : ℕ) (before now : FirstLists)
    → firsts_in list now ≡ set (firsts_in list before ++ replicate (place + 1 - length (firsts_in list before)) 0) place number
    → ((other : ℕ) → other ≢ list → firsts_in other now ≡ firsts_in other before) → IsWritten list place number before now
written list place number before now own others = record {
  inside = omega (arith, long, filled_long);
  is = ap (first_at place) own ∙ get_or-set_same (firsts_in list before ++ replicate (place + 1 - length (firsts_in list before)) 0) place number 0 (omega (arith, filled_long));
  others = λ other at apart. by other at apart (cases_eq other list) (cases_eq at place);
  no_longer = omega (arith, long, filled_long);
  longer = λ other. longer other (cases_eq other list);
  lengths = λ other ne. ap length (others other ne);
}
  where
    filled_long : length (firsts_in list before ++ replicate (place + 1 - length (firsts_in list before)) 0) ≡ length (firsts_in list before) + (place + 1 - length (firsts_in list before))
    filled_long = length-append (firsts_in list before) (replicate (place + 1 - length (firsts_in list before)) 0) ∙ ap (λ n. length (firsts_in list before) + n) (length-replicate {A = ℕ} (place + 1 - length (firsts_in list before)) 0)

    long : length (firsts_in list now) ≡ length (firsts_in list before ++ replicate (place + 1 - length (firsts_in list before)) 0)
    long = ap length own ∙ length-set (firsts_in list before ++ replicate (place + 1 - length (firsts_in list before)) 0) place number

    old : (at : ℕ) → get_or (firsts_in list before ++ replicate (place + 1 - length (firsts_in list before)) 0) at 0 ≡ get_or (firsts_in list before) at 0
    old at = inside (cases_lt at (length (firsts_in list before)))
      where
        inside : (at < length (firsts_in list before)) ⊎ (length (firsts_in list before) ≤ at) → get_or (firsts_in list before ++ replicate (place + 1 - length (firsts_in list before)) 0) at 0 ≡ get_or (firsts_in list before) at 0
        inside (inl low) = get_or_append_left (firsts_in list before) (replicate (place + 1 - length (firsts_in list before)) 0) 0 at low
        inside (inr past) =
            ap (λ n. get_or (firsts_in list before ++ replicate (place + 1 - length (firsts_in list before)) 0) n 0) (back past)
            ∙ get_or-append-add (firsts_in list before) (replicate (place + 1 - length (firsts_in list before)) 0) (at - length (firsts_in list before)) 0
            ∙ nothing (place + 1 - length (firsts_in list before)) (at - length (firsts_in list before))
            ∙ sym (get_or_past (firsts_in list before) at 0 past)
          where
            back : length (firsts_in list before) ≤ at → at ≡ length (firsts_in list before) + (at - length (firsts_in list before))
            back low = omega (arith, low)

    by : (other at : ℕ) → (other ≡ list → at ≡ place → ⊥) → (other ≡ list) ⊎ (other ≢ list) → (at ≡ place) ⊎ (at ≢ place)
        → first_at at (firsts_in other now) ≡ first_at at (firsts_in other before)
    by other at apart (inl e) (inl f) = absurd (apart e f)
    by other at apart (inl e) (inr ne) =
        subst (λ l. first_at at (firsts_in l now) ≡ first_at at (firsts_in l before)) (sym e)
        (ap (first_at at) own ∙ get_or-set_other (firsts_in list before ++ replicate (place + 1 - length (firsts_in list before)) 0) place at number 0 ne ∙ old at)
    by other at apart (inr ne) f = ap (first_at at) (others other ne)

    longer : (other : ℕ) → (other ≡ list) ⊎ (other ≢ list) → length (firsts_in other before) ≤ length (firsts_in other now)
    longer other (inl e) =
        subst (λ l. length (firsts_in l before) ≤ length (firsts_in l now)) (sym e) (omega (arith, long, filled_long))
    longer other (inr ne) = omega (arith, ap length (others other ne))

-- ---- one seat more

pub none-entered : (seats : Seats) (first : ℕ) (before : FirstLists) → IsEntered seats first 0 before before
none-entered seats first before = record {
  there = λ seat low some. absurd (omega (arith, low));
  others = λ list place none. refl;
  longer = λ list. omega arith;
  within = λ most was each list. was list;
}

module _ (seats : Seats) (first s : ℕ) (before mid now : FirstLists) (entered : IsEntered seats first s before mid) where
  pub seat-free : roll_in s seats ≡ NOWHERE → now ≡ mid → IsEntered seats first (s + 1) before now
  seat-free nowhere same = subst (IsEntered seats first (s + 1) before) (sym same) (record {
    there = λ seat low some. entered.there seat (inside seat low some) some;
    others = λ list place none. entered.others list place (λ seat low. none seat (omega (arith, low)));
    longer = entered.longer;
    within = λ most was each. entered.within most was (λ seat low. each seat (omega (arith, low)));
  })
    where
      inside : (seat : ℕ) → seat < s + 1 → roll_in seat seats ≢ NOWHERE → seat < s
      inside seat low some =
          let ne : seat ≢ s = λ e. some (ap (λ n. roll_in n seats) e ∙ nowhere) in
          omega (arith, low, ne)

  pub seat-written : roll_in s seats ≢ NOWHERE → IsWritten (roll_in s seats) (place_in s seats) first mid now
      → IsEntered seats first (s + 1) before now
  seat-written some written = record {
    there = there;
    others = λ list place none.
        written.others list place (λ e f. none s (omega arith) (sym e) (sym f))
        ∙ entered.others list place (λ seat low. none seat (omega (arith, low)));
    longer = λ list. let was = entered.longer list in let more = written.longer list in omega (arith, was, more);
    within = within;
  }
    where
      list : ℕ
      list = roll_in s seats

      there : (seat : ℕ) → seat < s + 1 → roll_in seat seats ≢ NOWHERE
          → (place_in seat seats < length (firsts_in (roll_in seat seats) now)) × (first_at (place_in seat seats) (firsts_in (roll_in seat seats) now) ≡ first)
      there seat low real = by (cases_eq seat s) (cases_eq (roll_in seat seats) (roll_in s seats)) (cases_eq (place_in seat seats) (place_in s seats))
        where
          old : seat ≢ s → (place_in seat seats < length (firsts_in (roll_in seat seats) mid)) × (first_at (place_in seat seats) (firsts_in (roll_in seat seats) mid) ≡ first)
          old ne = entered.there seat (omega (arith, low, ne)) real

          apart : seat ≢ s → (roll_in seat seats ≡ roll_in s seats → place_in seat seats ≡ place_in s seats → ⊥)
              → (place_in seat seats < length (firsts_in (roll_in seat seats) now)) × (first_at (place_in seat seats) (firsts_in (roll_in seat seats) now) ≡ first)
          apart ne other =
              let was = old ne in
              let l = was.0 in
              let more = written.longer (roll_in seat seats) in
              (omega (arith, l, more), written.others (roll_in seat seats) (place_in seat seats) other ∙ was.1)

          by : (seat ≡ s) ⊎ (seat ≢ s) → (roll_in seat seats ≡ roll_in s seats) ⊎ (roll_in seat seats ≢ roll_in s seats)
              → (place_in seat seats ≡ place_in s seats) ⊎ (place_in seat seats ≢ place_in s seats)
              → (place_in seat seats < length (firsts_in (roll_in seat seats) now)) × (first_at (place_in seat seats) (firsts_in (roll_in seat seats) now) ≡ first)
          by (inl e) r p =
              subst (λ n. (place_in n seats < length (firsts_in (roll_in n seats) now)) × (first_at (place_in n seats) (firsts_in (roll_in n seats) now) ≡ first))
              (sym e) (written.inside, written.is)
          by (inr ne) (inl r) (inl p) =
              subst (λ l. (place_in seat seats < length (firsts_in l now)) × (first_at (place_in seat seats) (firsts_in l now) ≡ first)) (sym r)
              (subst (λ q. (q < length (firsts_in (roll_in s seats) now)) × (first_at q (firsts_in (roll_in s seats) now) ≡ first)) (sym p)
              (written.inside, written.is))
          by (inr ne) (inr r) p = apart ne (λ same _. r same)
          by (inr ne) (inl r) (inr p) = apart ne (λ _ same. p same)

      within : (most : ℕ → ℕ) → ((l : ℕ) → length (firsts_in l before) ≤ most l)
          → ((seat : ℕ) → seat < s + 1 → roll_in seat seats ≢ NOWHERE → place_in seat seats < most (roll_in seat seats))
          → (l : ℕ) → length (firsts_in l now) ≤ most l
      within most was each l = by (cases_eq l (roll_in s seats))
        where
          old : length (firsts_in l mid) ≤ most l
          old = entered.within most was (λ seat low. each seat (omega (arith, low))) l

          by : (l ≡ roll_in s seats) ⊎ (l ≢ roll_in s seats) → length (firsts_in l now) ≤ most l
          by (inl e) =
              let room = each s (omega arith) some in
              let top = ap most e in
              let long = ap (λ x. length (firsts_in x now)) e in
              let was_long = ap (λ x. length (firsts_in x mid)) e in
              omega (arith, old, room, top, long, was_long, written.no_longer)
          by (inr ne) = let same = written.lengths l ne in omega (arith, old, same)

-- a row stands nowhere in the seats beyond those that are kept
pub entered-all : (seats : Seats) (first width : ℕ) (before now : FirstLists) → width ≤ 11
    → ((seat : ℕ) → width ≤ seat → roll_in seat seats ≡ NOWHERE) → IsEntered seats first width before now → IsEntered seats first 11 before now
entered-all seats first width before now few beyond entered = record {
  there = λ seat low some. by seat some (cases_lt seat width);
  others = λ list place none. entered.others list place (λ seat low. none seat (omega (arith, low, few)));
  longer = entered.longer;
  within = λ most was each. entered.within most was (λ seat low. each seat (omega (arith, low, few)));
}
  where
    by : (seat : ℕ) → roll_in seat seats ≢ NOWHERE → (seat < width) ⊎ (width ≤ seat)
        → (place_in seat seats < length (firsts_in (roll_in seat seats) now)) × (first_at (place_in seat seats) (firsts_in (roll_in seat seats) now) ≡ first)
    by seat some (inl low) = entered.there seat low some
    by seat some (inr past) = absurd (some (beyond seat past))

-- ---- room

-- beside one list more there is room for the numbers of its members
pub room-more : (rolls : List Numbered) (k more : ℕ) (before now : FirstLists)
    → ((number : ℕ) → number < k → length (names_of number rolls) ≤ room_beside number before)
    → ((other : ℕ) → room_beside other before ≤ room_beside other now)
    → more ≡ length (names_of k rolls) → more ≤ room_beside k now
    → (number : ℕ) → number < k + 1 → length (names_of number rolls) ≤ room_beside number now
room-more rolls k more before now was wider size room number low = by (cases_eq number k)
  where
    by : (number ≡ k) ⊎ (number ≢ k) → length (names_of number rolls) ≤ room_beside number now
    by (inl e) = subst (λ n. length (names_of n rolls) ≤ room_beside n now) (sym e) (omega (arith, size, room))
    by (inr ne) =
        let old = was number (omega (arith, low, ne)) in
        let same = wider number in
        omega (arith, old, same)

-- ---- one row more

-- of the members that stand in one of the first rows the numbers are there
pub record AreFilled (names : List (List ℕ)) (st : Seated) (first_of : List ℕ → ℕ) (k : ℕ) (firsts : FirstLists) : Type 0 where
  pub bound : (list : ℕ) → length (firsts_in list firsts) ≤ length (names_of list st.rolls)
  pub done : (list place : ℕ) → place < length (names_of list st.rolls)
      → position_or_len (same_name (name_at place (names_of list st.rolls))) names < k
      → (place < length (firsts_in list firsts)) × (first_at place (firsts_in list firsts) ≡ first_of (name_at place (names_of list st.rolls)))

pub none-filled : (names : List (List ℕ)) (st : Seated) (first_of : List ℕ → ℕ) (firsts : FirstLists) → ((list : ℕ) → firsts_in list firsts ≡ [])
    → AreFilled names st first_of 0 firsts
none-filled names st first_of firsts none = record {
  bound = λ list. let long = ap length (none list) in omega (arith, long);
  done = λ list place low early. absurd (omega (arith, early));
}

module _ (names : List (List ℕ)) (st : Seated) (seated : AreSeated names st) (once : IsDistinct same_name names) (first_at_row : ℕ → ℕ)
    (k : ℕ) (low : k < length names) (before now : FirstLists)
    (filled : AreFilled names st (λ name. first_at_row (position_or_len (same_name name) names)) k before)
    (entered : IsEntered (seat_at k st.seats) (first_at_row k) 11 before now) where
  abbrev own : List ℕ
  own = name_at k names

  own-at : position_or_len (same_name own) names ≡ k
  own-at = place-of names k own once low refl

  own-seats : seats_of names st.seats own ≡ seat_at k st.seats
  own-seats = ap (λ n. seat_at n st.seats) own-at

  -- what a seat of the row says is so
  stands : (seat : ℕ) → roll_in seat (seat_at k st.seats) ≢ NOWHERE
      → (place_in seat (seat_at k st.seats) < length (names_of (roll_in seat (seat_at k st.seats)) st.rolls))
      × (name_at (place_in seat (seat_at k st.seats)) (names_of (roll_in seat (seat_at k st.seats)) st.rolls) ≡ own)
  stands seat some =
      subst (λ (ss : Seats). (place_in seat ss < length (names_of (roll_in seat ss) st.rolls)) × (name_at (place_in seat ss) (names_of (roll_in seat ss) st.rolls) ≡ own))
      own-seats
      (let at = seated.there own seat (λ e. some (ap (roll_in seat) (sym own-seats) ∙ e)) in (at.within, at.named))

  pub filled-more : AreFilled names st (λ name. first_at_row (position_or_len (same_name name) names)) (k + 1) now
  filled-more = record {
    bound = entered.within (λ list. length (names_of list st.rolls)) filled.bound (λ seat _ some. (stands seat some).0);
    done = done;
  }
    where
      done : (list place : ℕ) → place < length (names_of list st.rolls)
          → position_or_len (same_name (name_at place (names_of list st.rolls))) names < k + 1
          → (place < length (firsts_in list now))
          × (first_at place (firsts_in list now) ≡ first_at_row (position_or_len (same_name (name_at place (names_of list st.rolls))) names))
      done list place inside early = by (cases_eq (position_or_len (same_name member) names) k)
        where
          member : List ℕ
          member = name_at place (names_of list st.rolls)

          by : (position_or_len (same_name member) names ≡ k) ⊎ (position_or_len (same_name member) names ≢ k)
              → (place < length (firsts_in list now)) × (first_at place (firsts_in list now) ≡ first_at_row (position_or_len (same_name member) names))
          by (inl e) =
              let seat : ℕ = seat_of list st.rolls in
              let roll : roll_in seat (seat_at k st.seats) ≡ list =
              ap (λ n. roll_in seat (seat_at n st.seats)) (sym e) ∙ seated.rolled list place inside in
              let at : place_in seat (seat_at k st.seats) ≡ place =
              ap (λ n. place_in seat (seat_at n st.seats)) (sym e) ∙ seated.placed list place inside in
              let real : roll_in seat (seat_at k st.seats) ≢ NOWHERE = λ n. numbered st list place seated.few inside (sym roll ∙ n) in
              let there = entered.there seat (seated.seats list) real in
              let placed : (place < length (firsts_in list now)) × (first_at place (firsts_in list now) ≡ first_at_row k) =
              subst (λ p. (p < length (firsts_in list now)) × (first_at p (firsts_in list now) ≡ first_at_row k)) at
              (subst (λ l. (place_in seat (seat_at k st.seats) < length (firsts_in l now))
              × (first_at (place_in seat (seat_at k st.seats)) (firsts_in l now) ≡ first_at_row k)) roll there) in
              (placed.0, placed.1 ∙ ap first_at_row (sym e))
          by (inr ne) =
              let was = filled.done list place inside (omega (arith, early, ne)) in
              let apart : (seat : ℕ) → seat < 11 → roll_in seat (seat_at k st.seats) ≡ list → place_in seat (seat_at k st.seats) ≡ place → ⊥ =
              λ seat _ roll at.
              (let real : roll_in seat (seat_at k st.seats) ≢ NOWHERE = λ n. numbered st list place seated.few inside (sym roll ∙ n) in
              let named : member ≡ own =
              ap (λ l. name_at place (names_of l st.rolls)) (sym roll)
              ∙ ap (λ p. name_at p (names_of (roll_in seat (seat_at k st.seats)) st.rolls)) (sym at) ∙ (stands seat real).1 in
              ne (ap (λ n. position_or_len (same_name n) names) named ∙ own-at)) in
              let l = was.0 in
              let more = entered.longer list in
              (omega (arith, l, more), entered.others list place apart ∙ was.1)

-- ---- all rows

module _ (names : List (List ℕ)) (st : Seated) (seated : AreSeated names st) (first_of : List ℕ → ℕ) (firsts : FirstLists)
    (filled : AreFilled names st first_of (length names) firsts) where
  found : (list place : ℕ) → place < length (names_of list st.rolls)
      → position_or_len (same_name (name_at place (names_of list st.rolls))) names < length names
  found list place inside = by (cases_lt (position_or_len (same_name (name_at place (names_of list st.rolls))) names) (length names))
    where
      by : (position_or_len (same_name (name_at place (names_of list st.rolls))) names < length names)
          ⊎ (length names ≤ position_or_len (same_name (name_at place (names_of list st.rolls))) names)
          → position_or_len (same_name (name_at place (names_of list st.rolls))) names < length names
      by (inl low) = low
      by (inr past) =
          let none : seats_of names st.seats (name_at place (names_of list st.rolls)) ≡ free =
          get_or_past st.seats (position_or_len (same_name (name_at place (names_of list st.rolls))) names) free (omega (arith, past, seated.beside)) in
          let roll : list ≡ roll_in (seat_of list st.rolls) free =
          sym (seated.rolled list place inside) ∙ ap (roll_in (seat_of list st.rolls)) none in
          absurd (numbered st list place seated.few inside (roll ∙ nowhere (seat_of list st.rolls) (seated.seats list)))
        where
          nowhere : (seat : ℕ) → seat < 11 → roll_in seat free ≡ NOWHERE
          nowhere seat low = get_or-replicate 11 seat NOWHERE NOWHERE low

  pub all-firsts : AreFirsts first_of st.rolls firsts
  all-firsts list = same_lists (firsts_in list firsts) (map first_of (names_of list st.rolls)) long each
    where
      long : length (firsts_in list firsts) ≡ length (map first_of (names_of list st.rolls))
      long = by (cases_lt 0 (length (names_of list st.rolls)))
        where
          by : (0 < length (names_of list st.rolls)) ⊎ (length (names_of list st.rolls) ≤ 0)
              → length (firsts_in list firsts) ≡ length (map first_of (names_of list st.rolls))
          by (inl some) =
              let last : ℕ = length (names_of list st.rolls) - 1 in
              let inside : last < length (names_of list st.rolls) = omega (arith, some) in
              let there = (filled.done list last inside (found list last inside)).0 in
              let most = filled.bound list in
              omega (arith, there, most, length-map (names_of list st.rolls) first_of, some)
          by (inr none) = let most = filled.bound list in omega (arith, none, most, length-map (names_of list st.rolls) first_of)

      each : (p d : ℕ) → p < length (firsts_in list firsts) → get_or (firsts_in list firsts) p d ≡ get_or (map first_of (names_of list st.rolls)) p d
      each p d low =
          let inside : p < length (names_of list st.rolls) = omega (arith, low, long, length-map (names_of list st.rolls) first_of) in
          one-some (sym (slice_get-get_or (firsts_in list firsts) p d low) ∙ slice_get-get_or (firsts_in list firsts) p 0 low)
          ∙ (filled.done list p inside (found list p inside)).1 ∙ sym (get_or-map first_of (names_of list st.rolls) p [] d inside)

-- what two clauses come to
module _ {A E P Q R : Type 0} where
  pub on-both : (result : Result A E) → OnOk result P → OnOk result Q → (P → Q → R) → OnOk result R
  on-both (Ok x) p q f = f p q
  on-both (Err e) p q f = tt
