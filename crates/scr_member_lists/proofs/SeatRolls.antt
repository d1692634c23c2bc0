-- What the seats of a table's rows say of the rolls: each member stands once, and where a row stands.
use Rattle.std.proofs.Common.{◌≡◌, ◌≢◌, ◌⊎◌, inl, inr, ℕ, ◌<◌, Bool, true, false, List, [], length, get_or, eqb, is_some, position, refl, sym, ap, subst, ◌∙◌, arith}
use Rattle.std.specs.Prelude.{if◌then◌else◌, Some, None, Option}
use Rattle.std.specs.List.{IsDistinct, position_or_len}
use Rattle.std.proofs.lemmas.Bool.{cases_eq}
use Rattle.std.proofs.lemmas.Bool.Decides.{Decides-eqb, nat_tests}
use Rattle.std.proofs.lemmas.List.{get_or_default}
use Rattle.std.proofs.lemmas.List.Folds.{list_any_at}
use Rattle.std.proofs.lemmas.List.Quantifiers.{position-Some}
use Rattle.std.proofs.lemmas.List.Sums.{position_or_len_is}
use Rattle.std.proofs.lemmas.Map.Keys.{IsDistinct-from_apart}
use Rattle.scr_tables.specs.Names.{same_name}
use Rattle.scr_tables.proofs.TableRows.{same_name-is, same_name-itself}
use Rattle.scr_member_lists.specs.Members.{has, moved, returned, name_at, come, left, back_at}
use Rattle.scr_member_lists.specs.Seatings.{NOWHERE, Seated, AreSeated, names_of, place_in, roll_in, seat_at, seat_of, seats_of}
use Rattle.scr_member_lists.proofs.SeatLists.{own-before}
use Rattle.scr_member_lists.proofs.Settled.{has-position, moved-same}
use Rattle.scr_member_lists.proofs.SeatMoves.{row-stands}

module _ (names : List (List ℕ)) (st : Seated) (seated : AreSeated names st) where
  -- a member's place is told by its seat, so it is at no other
  one-place : (n i j : ℕ) → i < length (names_of n st.rolls) → j < length (names_of n st.rolls) → name_at i (names_of n st.rolls) ≡ name_at j (names_of n st.rolls) → i ≡ j
  one-place n i j hi hj e = sym (seated.placed n i hi) ∙ ap (λ y. place_in (seat_of n st.rolls) (seats_of names st.seats y)) e ∙ seated.placed n j hj

  -- no name stands twice
  pub apart-roll : (n : ℕ) → IsDistinct same_name (names_of n st.rolls)
  apart-roll n = IsDistinct-from_apart same_name (names_of n st.rolls) (λ i j d before h. by i j d before h (same_name (get_or (names_of n st.rolls) i d) (get_or (names_of n st.rolls) j d)) refl)
    where
      by : (i j : ℕ) (d : List ℕ) → i < j → j < length (names_of n st.rolls) → (t : Bool) → same_name (get_or (names_of n st.rolls) i d) (get_or (names_of n st.rolls) j d) ≡ t
          → same_name (get_or (names_of n st.rolls) i d) (get_or (names_of n st.rolls) j d) ≡ false
      by i j d before h false e = e
      by i j d before h true e =
          let hi : i < length (names_of n st.rolls) = omega (arith, before, h) in
          let equal : name_at i (names_of n st.rolls) ≡ name_at j (names_of n st.rolls) =
          get_or_default (names_of n st.rolls) i [] d hi
          ∙ same_name-is (get_or (names_of n st.rolls) i d) (get_or (names_of n st.rolls) j d) e ∙ get_or_default (names_of n st.rolls) j d [] h in
          let same = one-place n i j hi h equal in
          absurd (omega (arith, same, before))

module _ (names : List (List ℕ)) (st : Seated) (seated : AreSeated names st) (apart : IsDistinct same_name names) (k : ℕ) (within : k < length names) (s : ℕ) where
  abbrev x : List ℕ
  x = get_or names k []

  abbrev from : ℕ
  from = roll_in s (seat_at k st.seats)

  own : seats_of names st.seats x ≡ seat_at k st.seats
  own = own-before names st.seats seated.beside k within (seat_at k st.seats) apart x refl

  -- the row's place in the roll in which it stands
  pub row-place : from ≢ NOWHERE → position_or_len (same_name x) (names_of from st.rolls) ≡ place_in s (seat_at k st.seats)
  row-place some =
      let there = row-stands names st seated apart k within s some in
      let inside = there.within in
      position_or_len_is (same_name x) (names_of from st.rolls) (place_in s (seat_at k st.seats)) [] (omega (arith, inside))
      (λ j before. elsewhere j before (same_name x (name_at j (names_of from st.rolls))) refl)
      (λ w. ap (same_name x) there.named ∙ same_name-itself x)
    where
      elsewhere : (j : ℕ) → j < place_in s (seat_at k st.seats) → (t : Bool) → same_name x (name_at j (names_of from st.rolls)) ≡ t → same_name x (name_at j (names_of from st.rolls)) ≡ false
      elsewhere j before false e = e
      elsewhere j before true e =
          let there = row-stands names st seated apart k within s some in
          let inside = there.within in
          let same = one-place names st seated from j (place_in s (seat_at k st.seats)) (omega (arith, inside, before)) inside (sym (same_name-is x (name_at j (names_of from st.rolls)) e) ∙ sym there.named) in
          absurd (omega (arith, same, before))

  -- the row is a member of the roll in which its seat has it, and of no other that has its members in the seat
  pub row-has : (n : ℕ) → n < length st.rolls → seat_of n st.rolls ≡ s → has x (names_of n st.rolls) ≡ eqb from n
  row-has n number seat = by (position (same_name x) (names_of n st.rolls)) refl (eqb from n) refl
    where
      some : from ≡ n → from ≢ NOWHERE
      some is e = let few = seated.few in omega (arith, few, is, e, number)

      by : (found : Option ℕ) → position (same_name x) (names_of n st.rolls) ≡ found → (t : Bool) → eqb from n ≡ t → has x (names_of n st.rolls) ≡ eqb from n
      by None none true e =
          let is : from ≡ n = (Decides-eqb from n).0 e in
          let there = row-stands names st seated apart k within s (some is) in
          let inside : place_in s (seat_at k st.seats) < length (names_of n st.rolls) = subst (λ m. place_in s (seat_at k st.seats) < length (names_of m st.rolls)) is there.within in
          let named : name_at (place_in s (seat_at k st.seats)) (names_of n st.rolls) ≡ x = ap (λ m. name_at (place_in s (seat_at k st.seats)) (names_of m st.rolls)) (sym is) ∙ there.named in
          list_any_at (same_name x) (names_of n st.rolls) (place_in s (seat_at k st.seats)) [] inside (ap (same_name x) named ∙ same_name-itself x) ∙ sym e
      by None none false e = sym (has-position (same_name x) (names_of n st.rolls)) ∙ ap is_some none ∙ sym e
      by (Some q) found t e =
          let at = position-Some (same_name x) (names_of n st.rolls) q [] found in
          let named : x ≡ name_at q (names_of n st.rolls) = same_name-is x (name_at q (names_of n st.rolls)) at.1 in
          let is : from ≡ n = ap (roll_in s) (sym own) ∙ ap (λ y. roll_in s (seats_of names st.seats y)) named ∙ ap (λ z. roll_in z (seats_of names st.seats (name_at q (names_of n st.rolls)))) (sym seat) ∙ seated.rolled n q at.0 in
          list_any_at (same_name x) (names_of n st.rolls) q [] at.0 at.1 ∙ sym ((Decides-eqb from n).1 is)

  -- what a roll becomes where the row is to stand in the roll of a number in this seat
  abbrev pub Becomes : (roll n : ℕ) → List (List ℕ) → Type 0
  Becomes roll n new =
      new ≡ (if eqb (seat_of n st.rolls) s then moved x (has x (names_of n st.rolls)) (eqb roll n) (names_of n st.rolls) else names_of n st.rolls)

  becomes-by : (roll n : ℕ) (new : List (List ℕ)) → (seat_of n st.rolls ≡ s → new ≡ moved x (has x (names_of n st.rolls)) (eqb roll n) (names_of n st.rolls))
      → (seat_of n st.rolls ≢ s → new ≡ names_of n st.rolls) → Becomes roll n new
  becomes-by roll n new own_seat other = by (eqb (seat_of n st.rolls) s) refl
    where
      by : (t : Bool) → eqb (seat_of n st.rolls) s ≡ t → Becomes roll n new
      by true e = own_seat ((Decides-eqb (seat_of n st.rolls) s).0 e) ∙ sym (ap (λ b. if b then moved x (has x (names_of n st.rolls)) (eqb roll n) (names_of n st.rolls) else names_of n st.rolls) e)
      by false e = other (λ same. let never : true ≡ false = sym ((Decides-eqb (seat_of n st.rolls) s).1 same) ∙ e in absurd (cc)) ∙ sym (ap (λ b. if b then moved x (has x (names_of n st.rolls)) (eqb roll n) (names_of n st.rolls) else names_of n st.rolls) e)

  unlike : (a b : ℕ) → a ≢ b → eqb a b ≡ false
  unlike a b apart = grind (arith, nat_tests, apart)

  -- it stands there already
  pub stays : (roll n : ℕ) → from ≡ roll → n < length st.rolls → Becomes roll n (names_of n st.rolls)
  stays roll n is number =
      becomes-by roll n (names_of n st.rolls)
      (λ seat. sym (ap (λ b. moved x (has x (names_of n st.rolls)) b (names_of n st.rolls)) (ap (λ m. eqb m n) (sym is) ∙ sym (row-has n number seat)) ∙ moved-same x (has x (names_of n st.rolls)) (names_of n st.rolls)))
      (λ other. refl)

  -- it leaves where it stood, if anywhere, and comes to another, if to any
  module _ (roll : ℕ) (other_roll : from ≢ roll) (target : roll ≢ NOWHERE → seat_of roll st.rolls ≡ s) (new : ℕ → List (List ℕ)) where
    pub leaves : from ≢ NOWHERE → new from ≡ left (place_in s (seat_at k st.seats)) (names_of from st.rolls) → from < length st.rolls → Becomes roll from (new from)
    leaves some gone number =
        let seat = (row-stands names st seated apart k within s some).own in
        becomes-by roll from (new from)
        (λ own_seat. gone ∙ ap (λ q. left q (names_of from st.rolls)) (sym (row-place some))
        ∙ sym (ap (λ b. moved x b (eqb roll from) (names_of from st.rolls)) (row-has from number seat ∙ (Decides-eqb from from).1 refl)
        ∙ ap (λ b. moved x true b (names_of from st.rolls)) (unlike roll from (λ e. other_roll (sym e)))))
        (λ apart_seat. absurd (apart_seat seat))

    pub comes : roll ≢ NOWHERE → roll < length st.rolls → new roll ≡ come x (names_of roll st.rolls) → Becomes roll roll (new roll)
    comes some number there =
        becomes-by roll roll (new roll)
        (λ own_seat. there
        ∙ sym (ap (λ b. moved x b (eqb roll roll) (names_of roll st.rolls)) (row-has roll number own_seat ∙ unlike from roll other_roll)
        ∙ ap (λ b. moved x false b (names_of roll st.rolls)) ((Decides-eqb roll roll).1 refl)))
        (λ apart_seat. absurd (apart_seat (target some)))

    pub rests : (n : ℕ) → n ≢ from → n ≢ roll → n < length st.rolls → new n ≡ names_of n st.rolls → Becomes roll n (new n)
    rests n not_from not_roll number same =
        becomes-by roll n (new n)
        (λ own_seat. same
        ∙ sym (ap (λ b. moved x b (eqb roll n) (names_of n st.rolls)) (row-has n number own_seat ∙ unlike from n (λ e. not_from (sym e)))
        ∙ ap (λ b. moved x false b (names_of n st.rolls)) (unlike roll n (λ e. not_roll (sym e)))))
        (λ apart_seat. same)

  -- what a roll becomes where the row is to stand again at a place of the roll of a number in this seat
  abbrev pub Returns : (roll at n : ℕ) → List (List ℕ) → Type 0
  Returns roll at n new =
      new ≡ (if eqb (seat_of n st.rolls) s then returned x (if eqb roll n then Some at else None) (names_of n st.rolls) else names_of n st.rolls)

  returns-by : (roll at n : ℕ) (new : List (List ℕ)) → (seat_of n st.rolls ≡ s → new ≡ returned x (if eqb roll n then Some at else None) (names_of n st.rolls))
      → (seat_of n st.rolls ≢ s → new ≡ names_of n st.rolls) → Returns roll at n new
  returns-by roll at n new own_seat other = by (eqb (seat_of n st.rolls) s) refl
    where
      by : (t : Bool) → eqb (seat_of n st.rolls) s ≡ t → Returns roll at n new
      by true e = own_seat ((Decides-eqb (seat_of n st.rolls) s).0 e) ∙ sym (ap (λ b. if b then returned x (if eqb roll n then Some at else None) (names_of n st.rolls) else names_of n st.rolls) e)
      by false e = other (λ same. let never : true ≡ false = sym ((Decides-eqb (seat_of n st.rolls) s).1 same) ∙ e in absurd (cc)) ∙ sym (ap (λ b. if b then returned x (if eqb roll n then Some at else None) (names_of n st.rolls) else names_of n st.rolls) e)

  nowhere-else : (roll at n : ℕ) → roll ≢ n → n < length st.rolls → seat_of n st.rolls ≡ s
      → returned x (if eqb roll n then Some at else None) (names_of n st.rolls) ≡ moved x (eqb from n) false (names_of n st.rolls)
  nowhere-else roll at n apart_roll number own_seat =
      ap (λ b. returned x (if b then Some at else None) (names_of n st.rolls)) (unlike roll n apart_roll)
      ∙ ap (λ b. moved x b false (names_of n st.rolls)) (row-has n number own_seat)

  at-place : (roll at : ℕ) → roll < length st.rolls → seat_of roll st.rolls ≡ s
      → returned x (if eqb roll roll then Some at else None) (names_of roll st.rolls) ≡ (if eqb from roll then names_of roll st.rolls else back_at at x (names_of roll st.rolls))
  at-place roll at number own_seat =
      ap (λ b. returned x (if b then Some at else None) (names_of roll st.rolls)) ((Decides-eqb roll roll).1 refl)
      ∙ ap (λ b. if b then names_of roll st.rolls else back_at at x (names_of roll st.rolls)) (row-has roll number own_seat)

  pub returns-stays : (roll at n : ℕ) → from ≡ roll → n < length st.rolls → Returns roll at n (names_of n st.rolls)
  returns-stays roll at n is number = returns-by roll at n (names_of n st.rolls) (λ seat. by seat (eqb roll n) refl) (λ other. refl)
    where
      by : seat_of n st.rolls ≡ s → (t : Bool) → eqb roll n ≡ t → names_of n st.rolls ≡ returned x (if eqb roll n then Some at else None) (names_of n st.rolls)
      by seat true e = sym (ap (λ b. returned x (if b then Some at else None) (names_of n st.rolls)) e ∙ ap (λ b. if b then names_of n st.rolls else back_at at x (names_of n st.rolls)) (row-has n number seat ∙ ap (λ m. eqb m n) is ∙ e))
      by seat false e = sym (ap (λ b. returned x (if b then Some at else None) (names_of n st.rolls)) e ∙ ap (λ b. moved x b false (names_of n st.rolls)) (row-has n number seat ∙ ap (λ m. eqb m n) is ∙ e))

  module _ (roll at : ℕ) (other_roll : from ≢ roll) (target : roll ≢ NOWHERE → seat_of roll st.rolls ≡ s) (new : ℕ → List (List ℕ)) where
    pub returns-leaves : from ≢ NOWHERE → new from ≡ left (place_in s (seat_at k st.seats)) (names_of from st.rolls) → from < length st.rolls → Returns roll at from (new from)
    returns-leaves some gone number =
        let seat = (row-stands names st seated apart k within s some).own in
        returns-by roll at from (new from)
        (λ own_seat. gone ∙ ap (λ q. left q (names_of from st.rolls)) (sym (row-place some))
        ∙ sym (nowhere-else roll at from (λ e. other_roll (sym e)) number own_seat ∙ ap (λ b. moved x b false (names_of from st.rolls)) ((Decides-eqb from from).1 refl)))
        (λ apart_seat. absurd (apart_seat seat))

    pub returns-back : roll ≢ NOWHERE → roll < length st.rolls → new roll ≡ back_at at x (names_of roll st.rolls) → Returns roll at roll (new roll)
    returns-back some number there =
        returns-by roll at roll (new roll)
        (λ own_seat. there ∙ sym (at-place roll at number own_seat ∙ ap (λ b. if b then names_of roll st.rolls else back_at at x (names_of roll st.rolls)) (unlike from roll other_roll)))
        (λ apart_seat. absurd (apart_seat (target some)))

    pub returns-rests : (n : ℕ) → n ≢ from → n ≢ roll → n < length st.rolls → new n ≡ names_of n st.rolls → Returns roll at n (new n)
    returns-rests n not_from not_roll number same =
        returns-by roll at n (new n)
        (λ own_seat. same ∙ sym (nowhere-else roll at n (λ e. not_roll (sym e)) number own_seat ∙ ap (λ b. moved x b false (names_of n st.rolls)) (unlike from n (λ e. not_from (sym e)))))
        (λ apart_seat. same)

  -- the row leaves its roll in the seat, if it stands in one, and then comes to another, if to one
  module _ (roll : ℕ) (other_roll : from ≢ roll) (target : roll ≢ NOWHERE → seat_of roll st.rolls ≡ s) (mid new : ℕ → List (List ℕ))
      (gone : from ≢ NOWHERE → mid from ≡ left (place_in s (seat_at k st.seats)) (names_of from st.rolls)) (still : (m : ℕ) → m ≢ from → mid m ≡ names_of m st.rolls)
      (kept : (m : ℕ) → m ≢ roll → new m ≡ mid m) where
    -- a roll of the book has a number
    real : (n : ℕ) → n < length st.rolls → n ≢ NOWHERE
    real n number e = let few = seated.few in omega (arith, few, e, number)

    pub seat-moved : (roll ≢ NOWHERE → new roll ≡ come x (mid roll)) → (n : ℕ) → n < length st.rolls → Becomes roll n (new n)
    seat-moved there n number = by (cases_eq n from) (cases_eq n roll)
      where
        by : ((n ≡ from) ⊎ (n ≡ from → ⊥)) → ((n ≡ roll) ⊎ (n ≡ roll → ⊥)) → Becomes roll n (new n)
        by (inl e) other =
            let some : from ≢ NOWHERE = λ z. real n number (e ∙ z) in
            subst (λ m. Becomes roll m (new m)) (sym e)
            (leaves roll other_roll target new some (kept from other_roll ∙ gone some) (subst (λ m. m < length st.rolls) e number))
        by (inr apart_from) (inl e) =
            let some : roll ≢ NOWHERE = λ z. real n number (e ∙ z) in
            subst (λ m. Becomes roll m (new m)) (sym e)
            (comes roll other_roll target new some (subst (λ m. m < length st.rolls) e number) (there some ∙ ap (come x) (still roll (λ z. other_roll (sym z)))))
        by (inr apart_from) (inr apart_roll) = rests roll other_roll target new n apart_from apart_roll number (kept n apart_roll ∙ still n apart_from)

    pub seat-returned : (at : ℕ) → (roll ≢ NOWHERE → new roll ≡ back_at at x (mid roll)) → (n : ℕ) → n < length st.rolls → Returns roll at n (new n)
    seat-returned at there n number = by (cases_eq n from) (cases_eq n roll)
      where
        by : ((n ≡ from) ⊎ (n ≡ from → ⊥)) → ((n ≡ roll) ⊎ (n ≡ roll → ⊥)) → Returns roll at n (new n)
        by (inl e) other =
            let some : from ≢ NOWHERE = λ z. real n number (e ∙ z) in
            subst (λ m. Returns roll at m (new m)) (sym e)
            (returns-leaves roll at other_roll target new some (kept from other_roll ∙ gone some) (subst (λ m. m < length st.rolls) e number))
        by (inr apart_from) (inl e) =
            let some : roll ≢ NOWHERE = λ z. real n number (e ∙ z) in
            subst (λ m. Returns roll at m (new m)) (sym e)
            (returns-back roll at other_roll target new some (subst (λ m. m < length st.rolls) e number) (there some ∙ ap (back_at at x) (still roll (λ z. other_roll (sym z)))))
        by (inr apart_from) (inr apart_roll) = returns-rests roll at other_roll target new n apart_from apart_roll number (kept n apart_roll ∙ still n apart_from)
