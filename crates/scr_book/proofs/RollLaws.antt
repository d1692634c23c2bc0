-- What the crate of rolls proves of seats and of rolls, for one name.
use Rattle.std.proofs.Common.{◌≡◌, ◌≢◌, ℕ, ◌<◌, ◌≤◌, Bool, true, false, inl, List, [], length, eqb, get_or, Option, Some, None, is_some, refl, sym, ap, subst, ◌∙◌, arith}
use Rattle.std.specs.Prelude.{if◌then◌else◌}
use Rattle.std.specs.List.{IsDistinct}
use Rattle.scr_tables.specs.Names.{same_name}
use Rattle.scr_tables.proofs.TableRows.{same_name-itself}
use Rattle.scr_member_lists.specs.Members.{has, moved, returned}
use Rattle.scr_member_lists.specs.Seatings.{NOWHERE, AreSeated, CanReturn, KeepsRoom, KeepsSeats, Seated, StandsAt, free, names_of, place_in, roll_in, seat_at, seat_of, seats_of, stood}
use Rattle.scr_member_lists.specs.declared.seating.Numbered.{Numbered}
use Rattle.scr_member_lists.specs.declared.seats.Seats.{Seats}
use Rattle.scr_member_lists.proofs.SeatLists as lists_of_seats
use Rattle.scr_member_lists.proofs.SeatMoves as moves_of_seats
use Rattle.scr_member_lists.proofs.SeatReturns as returns_of_seats
use Rattle.scr_member_lists.proofs.SeatRolls as rolls_of_seats
use Rattle.scr_member_lists.proofs.SeatTables.{seats-none}
use Rattle.scr_member_lists.proofs.Settled.{after-none}
use Rattle.scr_book.proofs.RollNumbers.{nowhere-apart}

-- no name stands twice in a roll
pub apart-roll : (names : List (List ℕ)) (seated : Seated) → AreSeated names seated → (n : ℕ) → IsDistinct same_name (names_of n seated.rolls)
apart-roll names seated h n = rolls_of_seats.apart-roll names seated h n

-- the row at a place is a member of the roll in which its seat has it
pub row-has : (names : List (List ℕ)) (seated : Seated) → AreSeated names seated → IsDistinct same_name names → (k : ℕ) → k < length names → (s n : ℕ) → n < length seated.rolls → seat_of n seated.rolls ≡ s
    → has (get_or names k []) (names_of n seated.rolls) ≡ eqb (roll_in s (seat_at k seated.seats)) n
row-has names seated h apart k within s n inside seat = rolls_of_seats.row-has names seated h apart k within s n inside seat

-- and where it stands, a seat that is taken says
pub row-stands : (names : List (List ℕ)) (seated : Seated) → AreSeated names seated → IsDistinct same_name names → (k : ℕ) → k < length names → (s : ℕ) → roll_in s (seat_at k seated.seats) ≢ NOWHERE
    → StandsAt seated.rolls (get_or names k []) s (roll_in s (seat_at k seated.seats)) (place_in s (seat_at k seated.seats))
row-stands names seated h apart k within s some = moves_of_seats.row-stands names seated h apart k within s some

-- so it is a member of each roll in which its seats have it
pub row-listed : (names : List (List ℕ)) (seated : Seated) → AreSeated names seated → IsDistinct same_name names → (k : ℕ) → k < length names → (x : List ℕ) → get_or names k [] ≡ x
    → (s : ℕ) → roll_in s (seat_at k seated.seats) ≢ NOWHERE → has x (names_of (roll_in s (seat_at k seated.seats)) seated.rolls) ≡ true
row-listed names seated h apart k within x named s some =
    let at = row-stands names seated h apart k within s some in
    returns_of_seats.has-at x (names_of (roll_in s (seat_at k seated.seats)) seated.rolls) (place_in s (seat_at k seated.seats)) at.within (at.named ∙ named)

-- the seats of the row of a name are those at its place
pub own-before : (names : List (List ℕ)) (seated : Seated) → AreSeated names seated → IsDistinct same_name names → (k : ℕ) → k < length names → (x : List ℕ) → get_or names k [] ≡ x
    → seats_of names seated.seats x ≡ seat_at k seated.seats
own-before names seated h apart k within x named = lists_of_seats.own-before names seated.seats h.beside k within free apart x named

-- who is a member of a roll to which a name has come, or which it has left
pub has-moved : (name other : List ℕ) (is : Bool) (roll : List (List ℕ)) → IsDistinct same_name roll → has other (moved name (has name roll) is roll) ≡ (if same_name name other then is else has other roll)
has-moved name other is roll apart = returns_of_seats.has-moved roll apart name other is

-- who is a member of a roll in which a name stands again where it stood
pub has-returned : (name other : List ℕ) (before : Option ℕ) (roll : List (List ℕ)) → IsDistinct same_name roll
    → ((place : ℕ) → before ≡ Some place → has name roll ≡ false → place ≤ length roll)
    → has other (returned name before roll) ≡ (if same_name name other then is_some before else has other roll)
has-returned name other before roll apart there = returns_of_seats.has-returned name other before roll apart there

-- what holds of the name at each place, and of each that has none, holds of each
by-name : (names : List (List ℕ)) (P : List ℕ → Type 0) → ((k : ℕ) → k < length names → P (get_or names k [])) → ((x : List ℕ) → has x names ≡ false → P x) → (x : List ℕ) → P x
by-name names P there none x = by (has x names) refl
  where
    by : (t : Bool) → has x names ≡ t → P x
    by true e = let at = returns_of_seats.at-has x names e in subst P at.2 (there at.0 at.1)
    by false e = none x e

module _ (names : List (List ℕ)) (seated : Seated) (h : AreSeated names seated) (apart : IsDistinct same_name names) where
  -- the seats of the name at a place
  at-place : (k : ℕ) → k < length names → seats_of names seated.seats (get_or names k []) ≡ seat_at k seated.seats
  at-place k within = own-before names seated h apart k within (get_or names k []) refl

  -- a number of a roll is not that of none
  few : (n : ℕ) → n < length seated.rolls → n < NOWHERE
  few n inside = let most = h.few in omega (arith, inside, most)

  free-apart : (n : ℕ) → n < length seated.rolls → eqb (roll_in (seat_of n seated.rolls) free) n ≡ false
  free-apart n inside = ap (λ r. eqb r n) (moves_of_seats.nowhere (seat_of n seated.rolls)) ∙ nowhere-apart n (few n inside)

  has-by-seat-in : (n : ℕ) → n < length seated.rolls → (x : List ℕ) → has x (names_of n seated.rolls) ≡ eqb (roll_in (seat_of n seated.rolls) (seats_of names seated.seats x)) n
  has-by-seat-in n inside =
      by-name names (λ x. has x (names_of n seated.rolls) ≡ eqb (roll_in (seat_of n seated.rolls) (seats_of names seated.seats x)) n)
      (λ k within. returns_of_seats.stands-by names seated k h apart within n inside ∙ ap (λ (s : Seats). eqb (roll_in (seat_of n seated.rolls) s) n) (sym (at-place k within)))
      (λ x none. returns_of_seats.never-member names seated x h none n
      ∙ sym (ap (λ (s : Seats). eqb (roll_in (seat_of n seated.rolls) s) n) (seats-none names seated.seats x h.beside none) ∙ free-apart n inside))

  returned-name-in : (n : ℕ) → n < length seated.rolls → (is : Bool) → (x : List ℕ)
      → returned x (stood (seat_of n seated.rolls) n (seats_of names seated.seats x)) (moved x (has x (names_of n seated.rolls)) is (names_of n seated.rolls)) ≡ names_of n seated.rolls
  returned-name-in n inside is =
      by-name names (λ x. returned x (stood (seat_of n seated.rolls) n (seats_of names seated.seats x)) (moved x (has x roll) is roll) ≡ roll)
      (λ k within. subst (λ (s : Seats). returned (get_or names k []) (stood (seat_of n seated.rolls) n s) (moved (get_or names k []) (has (get_or names k []) roll) is roll) ≡ roll) (sym (at-place k within))
      (returns_of_seats.names-back names seated k h apart within n inside is))
      (λ x none.
      let out : has x roll ≡ false = returns_of_seats.never-member names seated x h none n in
      let told : has x (moved x (has x roll) is roll) ≡ is = has-moved x x is roll (apart-roll names seated h n) ∙ ap (λ t. if t then is else has x roll) (same_name-itself x) in
      subst (λ (s : Seats). returned x (stood (seat_of n seated.rolls) n s) (moved x (has x roll) is roll) ≡ roll) (sym (seats-none names seated.seats x h.beside none))
      (ap (λ t. returned x (if t then Some (place_in (seat_of n seated.rolls) free) else None) (moved x (has x roll) is roll)) (free-apart n inside)
      ∙ ap (λ b. returned x None (moved x b is roll)) out ∙ after-none x roll out is (subst (λ b. has x (moved x b is roll) ≡ is) out told)))
    where
      roll : List (List ℕ)
      roll = names_of n seated.rolls

  module _ (lists : List Numbered) (keeps : KeepsSeats seated.rolls lists) (room : KeepsRoom seated.rolls lists) (now : Seats) (seat : ℕ) where
    abbrev Moved : List ℕ → Type 0
    Moved x = (n : ℕ) → n < length seated.rolls → names_of n lists ≡ moved x (has x (names_of n seated.rolls)) (eqb (roll_in (seat_of n seated.rolls) now) n) (names_of n seated.rolls)

    can-return-in : (x : List ℕ) → Moved x → CanReturn lists now (seats_of names seated.seats x) seat
    can-return-in =
        by-name names (λ x. Moved x → CanReturn lists now (seats_of names seated.seats x) seat)
        (λ k within moves. subst (λ (s : Seats). CanReturn lists now s seat) (sym (at-place k within)) (returns_of_seats.can-return names seated k h apart within lists keeps room now moves seat))
        (λ x none moves. subst (λ (s : Seats). CanReturn lists now s seat) (sym (seats-none names seated.seats x h.beside none))
        (record { target = inl (moves_of_seats.nowhere seat); room = λ some other. absurd (some (moves_of_seats.nowhere seat)) }))

-- a name is a member of the roll in which its seats have it, and of no other
pub has-by-seat : (names : List (List ℕ)) (seated : Seated) (x : List ℕ) → AreSeated names seated → IsDistinct same_name names
    → (n : ℕ) → n < length seated.rolls → has x (names_of n seated.rolls) ≡ eqb (roll_in (seat_of n seated.rolls) (seats_of names seated.seats x)) n
has-by-seat names seated x h apart n inside = has-by-seat-in names seated h apart n inside x

-- a roll is as it was once the name stands again where its seats had it
pub returned-name : (names : List (List ℕ)) (seated : Seated) (x : List ℕ) → AreSeated names seated → IsDistinct same_name names
    → (n : ℕ) → n < length seated.rolls → (is : Bool)
    → returned x (stood (seat_of n seated.rolls) n (seats_of names seated.seats x)) (moved x (has x (names_of n seated.rolls)) is (names_of n seated.rolls))
    ≡ names_of n seated.rolls
returned-name names seated x h apart n inside is = returned-name-in names seated h apart n inside is x

-- and it can go back there without memory
pub can-return : (names : List (List ℕ)) (old : Seated) (x : List ℕ) → AreSeated names old → IsDistinct same_name names → (lists : List Numbered) → KeepsSeats old.rolls lists → KeepsRoom old.rolls lists
    → (now : Seats) → ((n : ℕ) → n < length old.rolls → names_of n lists ≡ moved x (has x (names_of n old.rolls)) (eqb (roll_in (seat_of n old.rolls) now) n) (names_of n old.rolls))
    → (seat : ℕ) → CanReturn lists now (seats_of names old.seats x) seat
can-return names old x h apart lists keeps room now moves seat = can-return-in names old h apart lists keeps room now seat x moves
