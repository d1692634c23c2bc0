-- The rolls of a table and its rows' seats, as the functions of which the laws on seats speak.
use Rattle.std.proofs.Common.{◌≡◌, ◌≢◌, ℕ, ◌<◌, ◌≤◌, List, [], length, Option, sym, ap, subst, ◌∙◌, arith}
use Rattle.std.specs.Option.{option_map_or}
use Rattle.std.proofs.lemmas.Option.{slice_get_past}
use Rattle.scr_member_lists.specs.Members.{name_at}
use Rattle.scr_member_lists.specs.Seatings.{NOWHERE, Seated, AreSeated, KeepsSeats, names_of, place_in, roll_in, seat_of, seats_of}
use Rattle.scr_member_lists.specs.declared.seating.Numbered.{Numbered}
use Rattle.scr_member_lists.proofs.Seated.{Told}

module _ (names : List (List ℕ)) where
  -- the roll in which the row of a name stands in a seat, and its place there
  abbrev pub rolls_at : Seated → List ℕ → ℕ → ℕ
  rolls_at st y s = roll_in s (seats_of names st.seats y)

  abbrev pub places_at : Seated → List ℕ → ℕ → ℕ
  places_at st y s = place_in s (seats_of names st.seats y)

  -- a roll with a member has a number that is one
  pub numbered : (st : Seated) (n p : ℕ) → length st.rolls ≤ NOWHERE → p < length (names_of n st.rolls) → n ≢ NOWHERE
  numbered st n p few h e =
      let none : length (names_of n st.rolls) ≡ 0 = ap (λ (found : Option Numbered). length (option_map_or (λ (roll : Numbered). roll.roster.names) found [])) (slice_get_past st.rolls n (omega (arith, few, e))) in
      omega (arith, h, none)

  pub told-of : (st : Seated) → AreSeated names st
      → Told (λ n. seat_of n st.rolls) (length st.rolls) (λ n. names_of n st.rolls) (rolls_at st) (places_at st)
  told-of st seated = record {
    real = λ n p h. numbered st n p seated.few h;
    rolled = seated.rolled;
    placed = seated.placed;
    there = λ y s some. let stands = seated.there y s some in (stands.numbered, stands.own, stands.within, stands.named);
  }

  pub seated-of : (old new : Seated) → AreSeated names old → length new.seats ≡ length old.seats → KeepsSeats old.rolls new.rolls
      → Told (λ n. seat_of n old.rolls) (length old.rolls) (λ n. names_of n new.rolls) (rolls_at new) (places_at new)
      → AreSeated names new
  seated-of old new seated beside keeps told = record {
    beside = beside ∙ seated.beside;
    few = let count = keeps.count in let least = seated.few in omega (arith, count, least);
    seats = λ n. subst (λ s. s < 11) (sym (keeps.own n)) (seated.seats n);
    rolled = λ n p h. ap (λ s. rolls_at new (name_at p (names_of n new.rolls)) s) (keeps.own n) ∙ told.rolled n p h;
    placed = λ n p h. ap (λ s. places_at new (name_at p (names_of n new.rolls)) s) (keeps.own n) ∙ told.placed n p h;
    there = λ y s some. let stands = told.there y s some in let count = keeps.count in let within = stands.0 in record {
      numbered = omega (arith, count, within);
      own = keeps.own (rolls_at new y s) ∙ stands.1;
      within = stands.2;
      named = stands.3;
    };
  }
