-- A row that leaves a roll, and one that comes to a roll, with its seats.
use Rattle.std.proofs.Common.{◌≡◌, ◌≢◌, ◌⊎◌, inl, inr, ℕ, ◌+◌, ◌-◌, ◌<◌, ◌≤◌, Bool, true, false, List, [], ◌∷◌, length, map, get_or, set, eqb, replicate, refl, sym, ap, subst, ◌∙◌, arith}
use Rattle.std.specs.Prelude.{if◌then◌else◌}
use Rattle.std.specs.List.{IsDistinct, list_any, position_or_len}
use Rattle.std.proofs.lemmas.Bool.{cases_lt}
use Rattle.std.proofs.lemmas.Bool.Decides.{Decides-eqb}
use Rattle.std.proofs.lemmas.List.{get_or_past, get_or-replicate, get_or-set_same, length-set}
use Rattle.std.proofs.lemmas.List.Folds.{list_any_at}
use Rattle.scr_tables.specs.Names.{same_name}
use Rattle.scr_tables.specs.Tables.{has_row}
use Rattle.scr_tables.proofs.TableRows.{same_name-itself}
use Rattle.scr_member_lists.specs.Members.{name_at, come, left, back_at}
use Rattle.scr_member_lists.specs.Seatings.{NOWHERE, Seated, AreSeated, KeepsSeats, StandsAt, free, names_of, place_in, roll_in, seat_at, seat_of, seats_of}
use Rattle.scr_member_lists.specs.declared.seats.Seats.{Seats}
use Rattle.scr_member_lists.proofs.Seated.{leave-told, back-told}
use Rattle.scr_member_lists.proofs.SeatLists.{name-there, own-before, write-own, write-others, write-kept}
use Rattle.scr_member_lists.proofs.SeatedTables.{numbered, rolls_at, places_at, seated-of, told-of}

-- free seats are nowhere
pub nowhere : (s : ℕ) → roll_in s free ≡ NOWHERE
nowhere s = by (cases_lt s 11)
  where
    by : ((s < 11) ⊎ (11 ≤ s)) → get_or (replicate 11 NOWHERE) s NOWHERE ≡ NOWHERE
    by (inl inside) = get_or-replicate 11 s NOWHERE NOWHERE inside
    by (inr past) = get_or_past (replicate 11 NOWHERE) s NOWHERE past

-- a row is under a name exactly where the name is listed
pub has_row-listed : {Row : Type 0} (name_of : Row → List ℕ) (x : List ℕ) (rows : List Row) → has_row name_of x rows ≡ list_any (same_name x) (map name_of rows)
has_row-listed name_of x [] = refl
has_row-listed name_of x (row ∷ rows) = by (same_name x (name_of row)) refl (has_row-listed name_of x rows)
  where
    by : (t : Bool) → same_name x (name_of row) ≡ t → has_row name_of x rows ≡ list_any (same_name x) (map name_of rows)
        → has_row name_of x (row ∷ rows) ≡ list_any (same_name x) (map name_of (row ∷ rows))
    by true e later = grind (arith, e)
    by false e later = grind (arith, e, later)

-- the members of all rolls have rows
pub member-there : {Row : Type 0} (name_of : Row → List ℕ) (rows : List Row) (st : Seated) → AreSeated (map name_of rows) st → (n q : ℕ) → q < length (names_of n st.rolls)
    → has_row name_of (name_at q (names_of n st.rolls)) rows ≡ true
member-there name_of rows st seated n q h = has_row-listed name_of y rows ∙ by (cases_lt at (length names))
  where
    names : List (List ℕ)
    names = map name_of rows

    y : List ℕ
    y = name_at q (names_of n st.rolls)

    at : ℕ
    at = position_or_len (same_name y) names

    by : ((at < length names) ⊎ (length names ≤ at)) → list_any (same_name y) names ≡ true
    by (inl inside) = list_any_at (same_name y) names at [] inside (ap (same_name y) (name-there names y at refl inside) ∙ same_name-itself y)
    by (inr past) =
        let beside = seated.beside in
        let none : seats_of names st.seats y ≡ free = get_or_past st.seats at free (omega (arith, beside, past)) in
        let never : n ≡ NOWHERE = sym (seated.rolled n q h) ∙ ap (roll_in (seat_of n st.rolls)) none ∙ nowhere (seat_of n st.rolls) in
        absurd (numbered names st n q seated.few h never)

-- one that comes goes back behind the last
pub come-back : (y : List ℕ) (roll : List (List ℕ)) → come y roll ≡ back_at (length roll) y roll
come-back y roll = sym (ap (λ b. if b then come y roll else come (name_at (length roll) roll) (set roll (length roll) y)) ((Decides-eqb (length roll) (length roll)).1 refl))

module _ (names : List (List ℕ)) (old : Seated) (seated : AreSeated names old) (apart : IsDistinct same_name names) (k : ℕ) (within : k < length names) where
  abbrev x : List ℕ
  x = get_or names k []

  own : seats_of names old.seats x ≡ seat_at k old.seats
  own = own-before names old.seats seated.beside k within free apart x refl

  -- where the row stands, a seat that is taken says
  pub row-stands : (s : ℕ) → roll_in s (seat_at k old.seats) ≢ NOWHERE → StandsAt old.rolls x s (roll_in s (seat_at k old.seats)) (place_in s (seat_at k old.seats))
  row-stands s some =
      subst (λ (o : Seats). StandsAt old.rolls x s (roll_in s o) (place_in s o)) own (seated.there x s (λ e. some (ap (roll_in s) (sym own) ∙ e)))

  pub row-taken : (s n p : ℕ) → roll_in s (seat_at k old.seats) ≡ n → place_in s (seat_at k old.seats) ≡ p → roll_in s (seat_at k old.seats) ≢ NOWHERE
      → (n < length old.rolls) × (p < length (names_of n old.rolls))
  row-taken s n p is stands some =
      let there = row-stands s some in (
        subst (λ m. m < length old.rolls) is there.numbered,
        subst (λ q. q < length (names_of n old.rolls)) stands (subst (λ m. place_in s (seat_at k old.seats) < length (names_of m old.rolls)) is there.within),
      )

  pub row-own : (s n : ℕ) → roll_in s (seat_at k old.seats) ≡ n → roll_in s (seat_at k old.seats) ≢ NOWHERE → seat_of n old.rolls ≡ s
  row-own s n is some = subst (λ m. seat_of m old.rolls ≡ s) is (row-stands s some).own

  -- the row's own seats where one of them is written
  pub own-after : (seats : List Seats) (new : Seats) (s value : ℕ) → length seats ≡ length old.seats
      → ((y : List ℕ) (t : ℕ) → roll_in t (seats_of names seats y) ≡ roll_in t (seats_of names old.seats y))
      → ((t : ℕ) → roll_in t new ≡ (if eqb s t then value else roll_in t (seat_at k seats)))
      → (t : ℕ) → roll_in t (seat_at k (set seats k new)) ≡ (if eqb s t then value else roll_in t (seat_at k old.seats))
  own-after seats new s value beside at written t =
      let same = seated.beside in
      ap (roll_in t) (get_or-set_same seats k new free (omega (arith, beside, same, within))) ∙ written t
      ∙ ap (λ v. if eqb s t then value else v)
      (ap (roll_in t) (sym (own-before names seats (beside ∙ same) k within free apart x refl)) ∙ at x t ∙ ap (roll_in t) own)

  module _ (mid : Seated) (room : ℕ) (new : Seats) (s : ℕ) (beside : length mid.seats ≡ length old.seats) (keeps : KeepsSeats old.rolls mid.rolls) where
    abbrev after : Seated
    after = record { rolls = mid.rolls; seats = set mid.seats k new; room = room }

    mid_beside : length mid.seats ≡ length names
    mid_beside = beside ∙ seated.beside

    after_beside : length after.seats ≡ length old.seats
    after_beside = length-set mid.seats k new ∙ beside

    pub vacated : (n p : ℕ) → roll_in s (seat_at k old.seats) ≡ n → place_in s (seat_at k old.seats) ≡ p → n ≢ NOWHERE
        → names_of n mid.rolls ≡ left p (names_of n old.rolls)
        → ((m : ℕ) → m ≢ n → names_of m mid.rolls ≡ names_of m old.rolls)
        → ((y : List ℕ) (t : ℕ) → rolls_at names mid y t ≡ rolls_at names old y t)
        → (p + 1 < length (names_of n old.rolls) → places_at names mid (name_at (length (names_of n old.rolls) - 1) (names_of n old.rolls)) s ≡ p)
        → ((y : List ℕ) (t : ℕ) → ((y ≢ name_at (length (names_of n old.rolls) - 1) (names_of n old.rolls)) ⊎ (t ≢ s)) → places_at names mid y t ≡ places_at names old y t)
        → ((t : ℕ) → roll_in t new ≡ (if eqb s t then NOWHERE else roll_in t (seat_at k mid.seats)))
        → ((t : ℕ) → place_in t new ≡ place_in t (seat_at k mid.seats))
        → AreSeated names after
    vacated n p is stands some left_names others at drawn still rolls_written places_written =
        seated-of names old after seated after_beside keeps
        (leave-told (λ m. seat_of m old.rolls) (length old.rolls) (λ m. names_of m old.rolls) (λ m. names_of m mid.rolls)
        (rolls_at names old) (rolls_at names after) (places_at names old) (places_at names after) (told-of names old seated) x s n p
        (ap (roll_in s) own ∙ is) some (ap (place_in s) own ∙ stands) left_names others
        (write-own names mid.seats apart mid_beside k x within refl new roll_in s NOWHERE rolls_written)
        (λ y t side. write-others names mid.seats apart mid_beside k x within refl new roll_in s NOWHERE rolls_written y t side ∙ at y t)
        (λ more. kept (name_at (length (names_of n old.rolls) - 1) (names_of n old.rolls)) s ∙ drawn more)
        (λ y t side. kept y t ∙ still y t side))
      where
        kept : (y : List ℕ) (t : ℕ) → places_at names after y t ≡ places_at names mid y t
        kept = write-kept names mid.seats apart mid_beside k x within refl new place_in places_written

    pub seated-back : (n p : ℕ) → roll_in s (seat_at k old.seats) ≡ NOWHERE → n < length old.rolls → seat_of n old.rolls ≡ s → p ≤ length (names_of n old.rolls)
        → names_of n mid.rolls ≡ back_at p x (names_of n old.rolls)
        → ((m : ℕ) → m ≢ n → names_of m mid.rolls ≡ names_of m old.rolls)
        → ((y : List ℕ) (t : ℕ) → rolls_at names mid y t ≡ rolls_at names old y t)
        → (p < length (names_of n old.rolls) → places_at names mid (name_at p (names_of n old.rolls)) s ≡ length (names_of n old.rolls))
        → ((y : List ℕ) (t : ℕ) → ((p < length (names_of n old.rolls) → y ≢ name_at p (names_of n old.rolls)) ⊎ (t ≢ s)) → places_at names mid y t ≡ places_at names old y t)
        → ((t : ℕ) → roll_in t new ≡ (if eqb s t then n else roll_in t (seat_at k mid.seats)))
        → ((t : ℕ) → place_in t new ≡ (if eqb s t then p else place_in t (seat_at k mid.seats)))
        → AreSeated names after
    seated-back n p none number seat inside back_names others at drawn still rolls_written places_written =
        seated-of names old after seated after_beside keeps
        (back-told (λ m. seat_of m old.rolls) (length old.rolls) (λ m. names_of m old.rolls) (λ m. names_of m mid.rolls)
        (rolls_at names old) (rolls_at names after) (places_at names old) (places_at names after) (told-of names old seated) x s n p
        (ap (roll_in s) own ∙ none) number (λ e. let few = seated.few in omega (arith, few, e, number)) seat inside back_names others
        (write-own names mid.seats apart mid_beside k x within refl new roll_in s n rolls_written)
        (write-own names mid.seats apart mid_beside k x within refl new place_in s p places_written)
        (λ y t side. write-others names mid.seats apart mid_beside k x within refl new roll_in s n rolls_written y t side ∙ at y t)
        (λ more. elsewhere (name_at p (names_of n old.rolls)) s (inl (member_apart more)) ∙ drawn more)
        (λ y t side. elsewhere y t (first side) ∙ still y t (second side)))
      where
        elsewhere : (y : List ℕ) (t : ℕ) → ((y ≢ x) ⊎ (t ≢ s)) → places_at names after y t ≡ places_at names mid y t
        elsewhere = write-others names mid.seats apart mid_beside k x within refl new place_in s p places_written

        -- the row is no member yet
        member_apart : p < length (names_of n old.rolls) → name_at p (names_of n old.rolls) ≢ x
        member_apart more e =
            let few = seated.few in
            let told : n ≡ NOWHERE = sym (seated.rolled n p more) ∙ ap (λ y. rolls_at names old y (seat_of n old.rolls)) e ∙ ap (rolls_at names old x) seat ∙ ap (roll_in s) own ∙ none in
            omega (arith, few, told, number)

        first : {y : List ℕ} {t : ℕ} → (((y ≢ x) × (p < length (names_of n old.rolls) → y ≢ name_at p (names_of n old.rolls))) ⊎ (t ≢ s)) → ((y ≢ x) ⊎ (t ≢ s))
        first (inl e) = inl e.0
        first (inr e) = inr e

        second : {y : List ℕ} {t : ℕ} → (((y ≢ x) × (p < length (names_of n old.rolls) → y ≢ name_at p (names_of n old.rolls))) ⊎ (t ≢ s))
            → ((p < length (names_of n old.rolls) → y ≢ name_at p (names_of n old.rolls)) ⊎ (t ≢ s))
        second (inl e) = inl e.1
        second (inr e) = inr e
