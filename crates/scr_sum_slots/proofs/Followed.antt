-- The numbers beside the lists follow the seats of a row, seat by seat.
use Rattle.std.proofs.Common.{◌≡◌, ◌≢◌, ◌⊎◌, inl, inr, ℕ, ◌+◌, ◌<◌, ◌≤◌, true, false, length, eqb, Option, Some, None, refl, sym, ap, ap₂, subst, ◌∙◌, arith}
use Rattle.std.specs.Prelude.{if◌then◌else◌}
use Rattle.std.proofs.lemmas.Bool.{cases_Bool, cases_eq, eqb-true}
use Rattle.scr_member_lists.specs.Seatings.{NOWHERE, place_in, roll_in, stood}
use Rattle.scr_member_lists.specs.declared.seats.Seats.{Seats}
use Rattle.scr_sum_slots.specs.Firsts.{Becomes, FirstLists, firsts_in, room_beside}
use Rattle.scr_sum_slots.specs.Following.{AreSeatsOf, CanReseat, HasFollowed, IsReseated, KeepsRoomBeside, reseated}

pub record FollowedTo (seat_of : ℕ → ℕ) (was now : Seats) (first many : ℕ) (old new : FirstLists) : Type 0 where
  pub done : (list : ℕ) → list ≢ NOWHERE → seat_of list < many
      → firsts_in list new ≡ reseated first (stood (seat_of list) list was) (stood (seat_of list) list now) (firsts_in list old)
  pub rest : (list : ℕ) → list ≢ NOWHERE → many ≤ seat_of list → firsts_in list new ≡ firsts_in list old

pub none-followed : (seat_of : ℕ → ℕ) (was now : Seats) (first : ℕ) (firsts : FirstLists) → FollowedTo seat_of was now first 0 firsts firsts
none-followed seat_of was now first firsts = record {
  done = λ list some low. absurd (omega (arith, low));
  rest = λ list some high. refl;
}

module _ (seat_of : ℕ → ℕ) (was now : Seats) (first s : ℕ) (low : s < 11) (own_was : AreSeatsOf seat_of was) (own_now : AreSeatsOf seat_of now) where
  module _ (old mid new : FirstLists) (followed : FollowedTo seat_of was now first s old mid) where
    pub followed-more : IsReseated was now s first mid new → FollowedTo seat_of was now first (s + 1) old new
    followed-more move = record {
      done = λ list some few. by list some few (cases_eq (seat_of list) s);
      rest = λ list some high.
          away list some (λ e. (let at : seat_of list ≡ s = e in omega (arith, at, high))) ∙ followed.rest list some (omega (arith, high));
    }
      where
        nowhere : (seats : Seats) (list : ℕ) → roll_in s seats ≢ list → stood s list seats ≡ None
        nowhere seats list ne = none (cases_Bool (eqb (roll_in s seats) list))
          where
            none : (eqb (roll_in s seats) list ≡ true) ⊎ (eqb (roll_in s seats) list ≡ false) → stood s list seats ≡ None
            none (inl e) = absurd (ne (eqb-true (roll_in s seats) list e))
            none (inr e) = ap (λ b. if b then Some (place_in s seats) else None) e

        other : (seats : Seats) → AreSeatsOf seat_of seats → (list : ℕ) → list ≢ NOWHERE → seat_of list ≢ s → roll_in s seats ≢ list
        other seats own list some ne e = ne (sym (ap seat_of e) ∙ own s low (λ h. some (sym e ∙ h)))

        away : (list : ℕ) → list ≢ NOWHERE → seat_of list ≢ s → firsts_in list new ≡ firsts_in list mid
        away list some ne =
            move.lists list some
            ∙ ap₂ (λ (x y : Option ℕ). reseated first x y (firsts_in list mid)) (nowhere was list (other was own_was list some ne)) (nowhere now list (other now own_now list some ne))

        by : (list : ℕ) → list ≢ NOWHERE → seat_of list < s + 1 → (seat_of list ≡ s) ⊎ (seat_of list ≢ s)
            → firsts_in list new ≡ reseated first (stood (seat_of list) list was) (stood (seat_of list) list now) (firsts_in list old)
        by list some few (inl e) =
            subst (λ (t : ℕ). firsts_in list new ≡ reseated first (stood t list was) (stood t list now) (firsts_in list old)) (sym e)
            (move.lists list some
            ∙ ap (reseated first (stood s list was) (stood s list now)) (followed.rest list some (omega (arith, e))))
        by list some few (inr ne) = away list some ne ∙ followed.done list some (omega (arith, few, ne))

  module _ (old mid : FirstLists) (followed : FollowedTo seat_of was now first s old mid) where
    pub can-still : KeepsRoomBeside old mid → CanReseat was now s old → CanReseat was now s mid
    can-still kept can = record {
      there = λ some move. (let inside = can.there some move in omega (arith, inside, ap length (same was own_was some)));
      place = λ some move. (let inside = can.place some move in omega (arith, inside, ap length (same now own_now some)));
      room = λ some move.
          (let room = can.room some move in let more = kept (roll_in s now) in omega (arith, room, more, ap length (same now own_now some)));
    }
      where
        same : (seats : Seats) → AreSeatsOf seat_of seats → roll_in s seats ≢ NOWHERE → firsts_in (roll_in s seats) mid ≡ firsts_in (roll_in s seats) old
        same seats own some = let at = own s low some in followed.rest (roll_in s seats) some (omega (arith, at))

pub followed-all : (seat_of : ℕ → ℕ) (was now : Seats) (first many : ℕ) (old new : FirstLists) → 11 ≤ many → FollowedTo seat_of was now first many old new
    → firsts_in NOWHERE new ≡ firsts_in NOWHERE old → HasFollowed seat_of was now first old new
followed-all seat_of was now first many old new all followed nowhere = record {
  lists = λ list some few. followed.done list some (omega (arith, few, all));
  nowhere = nowhere;
}

-- ---- room beside the lists of the seats

-- there is room beside those of the first seats, and all numbers stand where they stood
pub record HasRoom (seats : Seats) (many : ℕ) (old new : FirstLists) : Type 0 where
  pub ok : (seat : ℕ) → seat < many → roll_in seat seats ≢ NOWHERE → 0 < room_beside (roll_in seat seats) new
  pub still : (list : ℕ) → firsts_in list new ≡ firsts_in list old
  pub room : (list : ℕ) → room_beside list old ≤ room_beside list new

pub none-roomy : (seats : Seats) (firsts : FirstLists) → HasRoom seats 0 firsts firsts
none-roomy seats firsts = record { ok = λ seat low some. absurd (omega (arith, low)); still = λ list. refl; room = λ list. omega arith }

module _ (list : ℕ) (old new : FirstLists) (becomes : Becomes list (firsts_in list old) old new) where
  reserved-still : (other : ℕ) → firsts_in other new ≡ firsts_in other old
  reserved-still other = by (cases_eq other list)
    where
      by : (other ≡ list) ⊎ (other ≢ list) → firsts_in other new ≡ firsts_in other old
      by (inl e) = ap (λ l. firsts_in l new) e ∙ becomes.own ∙ sym (ap (λ l. firsts_in l old) e)
      by (inr ne) = becomes.others other ne

  reserved-room : (other : ℕ) → room_beside other old ≤ room_beside other new
  reserved-room other = let all = becomes.room other in omega (arith, all, ap length (reserved-still other))

module _ (seats : Seats) (s : ℕ) (old mid : FirstLists) (roomy : HasRoom seats s old mid) where
  pub roomy-still : (list : ℕ) (new : FirstLists) → Becomes list (firsts_in list mid) mid new → (other : ℕ) → firsts_in other new ≡ firsts_in other old
  roomy-still list new becomes other = reserved-still list mid new becomes other ∙ roomy.still other

  pub roomy-room : (list : ℕ) (new : FirstLists) → Becomes list (firsts_in list mid) mid new → (other : ℕ) → room_beside other old ≤ room_beside other new
  roomy-room list new becomes other = let was = roomy.room other in let more = reserved-room list mid new becomes other in omega (arith, was, more)

  pub roomy-more : (list : ℕ) (new : FirstLists) → list ≡ roll_in s seats → Becomes list (firsts_in list mid) mid new → 0 < room_beside list new
      → HasRoom seats (s + 1) old new
  roomy-more list new own becomes room = record {
    ok = λ seat low some. by seat low some (cases_eq seat s);
    still = roomy-still list new becomes;
    room = roomy-room list new becomes;
  }
    where
      by : (seat : ℕ) → seat < s + 1 → roll_in seat seats ≢ NOWHERE → (seat ≡ s) ⊎ (seat ≢ s) → 0 < room_beside (roll_in seat seats) new
      by seat low some (inl e) = subst (λ (l : ℕ). 0 < room_beside l new) (own ∙ sym (ap (λ t. roll_in t seats) e)) room
      by seat low some (inr ne) =
          let was = roomy.ok seat (omega (arith, low, ne)) some in
          let more = reserved-room list mid new becomes (roll_in seat seats) in
          omega (arith, was, more)

  pub roomy-free : (new : FirstLists) → roll_in s seats ≡ NOWHERE → new ≡ mid → HasRoom seats (s + 1) old new
  roomy-free new none same = subst (HasRoom seats (s + 1) old) (sym same) (record {
    ok = λ seat low some. roomy.ok seat (inside seat low some) some;
    still = roomy.still;
    room = roomy.room;
  })
    where
      inside : (seat : ℕ) → seat < s + 1 → roll_in seat seats ≢ NOWHERE → seat < s
      inside seat low some = let ne : seat ≢ s = λ e. some (ap (λ t. roll_in t seats) e ∙ none) in omega (arith, low, ne)
