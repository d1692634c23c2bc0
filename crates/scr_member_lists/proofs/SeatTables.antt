-- The seats of a table's rows where a row comes to the table, goes out of it, or is in it again.
use Rattle.std.proofs.Common.{◌≡◌, ◌≢◌, ℕ, zero, suc, ◌+◌, ◌<◌, ◌≤◌, Bool, true, false, not, cond, List, [], ◌∷◌, ◌++◌, Some, length, map, get_or, slice_get, insert, remove, refl, sym, ap, subst, ◌∙◌, arith}
use Rattle.std.specs.Prelude.{if◌then◌else◌}
use Rattle.std.specs.List.{AllByRecursion, IsDistinct, list_any, position_or_len}
use Rattle.std.specs.Option.{option_map}
use Rattle.std.proofs.lemmas.List.{length_push, length-map}
use Rattle.std.proofs.lemmas.List.Edits.{length-insert, length-remove}
use Rattle.std.proofs.lemmas.Map.Keys.{apart_from_distinct}
use Rattle.scr_tables.specs.Names.{same_name}
use Rattle.scr_tables.specs.Tables.{has_row, with_row, without}
use Rattle.scr_tables.proofs.TableRows.{same_name-is, same_name-itself, same_name-flip, same_or_other, without-here, without-later}
use Rattle.scr_member_lists.specs.Members.{name_at}
use Rattle.scr_member_lists.specs.Seatings.{NOWHERE, Seated, AreSeated, StandsAt, free, names_of, place_in, roll_in, seat_at, seat_of, seats_of}
use Rattle.scr_member_lists.specs.declared.seats.Seats.{Seats}
use Rattle.scr_member_lists.proofs.SeatLists.{named-at, own-before}
use Rattle.scr_member_lists.proofs.SeatMoves.{has_row-listed, nowhere}
use Rattle.scr_member_lists.proofs.SeatedTables.{numbered}

-- ---- the seats of a name, row by row

first : (n : List ℕ) (ns : List (List ℕ)) (s : Seats) (ss : List Seats) (y : List ℕ) → seats_of (n ∷ ns) (s ∷ ss) y ≡ (if same_name y n then s else seats_of ns ss y)
first n ns s ss y = by (same_name y n)
  where
    by : (b : Bool) → get_or (s ∷ ss) (cond (not b) (1 + position_or_len (same_name y) ns) 0) free ≡ (if b then s else seats_of ns ss y)
    by true = refl
    by false = let on : 1 + position_or_len (same_name y) ns ≡ suc (position_or_len (same_name y) ns) = omega arith in ap (λ j. get_or (s ∷ ss) j free) on

-- the seats of a name in two tables that begin with the same row
pub after-first : (n : List ℕ) (ns ms : List (List ℕ)) (s : Seats) (ss ts : List Seats) (y : List ℕ) → seats_of ns ss y ≡ seats_of ms ts y
    → seats_of (n ∷ ns) (s ∷ ss) y ≡ seats_of (n ∷ ms) (s ∷ ts) y
after-first n ns ms s ss ts y e = first n ns s ss y ∙ ap (λ (o : Seats). if same_name y n then s else o) e ∙ sym (first n ms s ts y)

here : (n : List ℕ) (ns : List (List ℕ)) (s : Seats) (ss : List Seats) (y : List ℕ) → same_name y n ≡ true → seats_of (n ∷ ns) (s ∷ ss) y ≡ s
here n ns s ss y e = first n ns s ss y ∙ ap (λ b. if b then s else seats_of ns ss y) e

later : (n : List ℕ) (ns : List (List ℕ)) (s : Seats) (ss : List Seats) (y : List ℕ) → same_name y n ≡ false → seats_of (n ∷ ns) (s ∷ ss) y ≡ seats_of ns ss y
later n ns s ss y e = first n ns s ss y ∙ ap (λ b. if b then s else seats_of ns ss y) e

-- a name that no row has is not that of the first, and none of the others has it
none-of : (y n : List ℕ) (ns : List (List ℕ)) → list_any (same_name y) (n ∷ ns) ≡ false → (same_name y n ≡ false) × (list_any (same_name y) ns ≡ false)
none-of y n ns none = by (same_name y n) refl
  where
    by : (b : Bool) → same_name y n ≡ b → (same_name y n ≡ false) × (list_any (same_name y) ns ≡ false)
    by true e = let never : true ≡ false = grind (arith, e, none) in absurd (cc)
    by false e = (e, grind (arith, e, none))

-- a name that no row has, has free seats
pub seats-none : (names : List (List ℕ)) (seats : List Seats) (y : List ℕ) → length seats ≡ length names → list_any (same_name y) names ≡ false → seats_of names seats y ≡ free
seats-none [] [] y beside none = refl
seats-none [] (s ∷ ss) y beside none = absurd (omega (arith, beside))
seats-none (n ∷ ns) [] y beside none = absurd (omega (arith, beside))
seats-none (n ∷ ns) (s ∷ ss) y beside none =
    let apart : same_name y n ≡ false = (none-of y n ns none).0 in
    later n ns s ss y apart ∙ seats-none ns ss y (omega (arith, beside)) (none-of y n ns none).1

-- one more row stands last, with free seats
pub seats-entered : (names : List (List ℕ)) (seats : List Seats) (x y : List ℕ) → length seats ≡ length names
    → seats_of (names ++ x ∷ []) (seats ++ free ∷ []) y ≡ seats_of names seats y
seats-entered [] [] x y beside = first x [] free [] y ∙ by (same_name y x)
  where
    by : (b : Bool) → (if b then free else seats_of [] [] y) ≡ free
    by true = refl
    by false = refl
seats-entered [] (s ∷ ss) x y beside = absurd (omega (arith, beside))
seats-entered (n ∷ ns) [] x y beside = absurd (omega (arith, beside))
seats-entered (n ∷ ns) (s ∷ ss) x y beside = after-first n (ns ++ x ∷ []) ns s (ss ++ free ∷ []) ss y (seats-entered ns ss x y (omega (arith, beside)))

-- a row goes out with its seats
seats-gone : (names : List (List ℕ)) (seats : List Seats) (k : ℕ) (y : List ℕ) → length seats ≡ length names → k < length names
    → same_name y (get_or names k []) ≡ false → seats_of (remove names k) (remove seats k) y ≡ seats_of names seats y
seats-gone [] seats k y beside within other = absurd (omega (arith, within))
seats-gone (n ∷ ns) [] k y beside within other = absurd (omega (arith, beside))
seats-gone (n ∷ ns) (s ∷ ss) zero y beside within other = sym (later n ns s ss y other)
seats-gone (n ∷ ns) (s ∷ ss) (suc k) y beside within other =
    after-first n (remove ns k) ns s (remove ss k) ss y (seats-gone ns ss k y (omega (arith, beside)) (omega (arith, within)) other)

-- its name has no seats any more
names-gone-own : (names : List (List ℕ)) (k : ℕ) → IsDistinct same_name names → k < length names → list_any (same_name (get_or names k [])) (remove names k) ≡ false
unfolding IsDistinct
names-gone-own [] k apart within = absurd (omega (arith, within))
names-gone-own (n ∷ ns) zero apart within = fresh ns apart.0
  where
    fresh : (xs : List (List ℕ)) → AllByRecursion (λ other. same_name n other ≡ false) xs → list_any (same_name n) xs ≡ false
    fresh [] all = refl
    fresh (x ∷ xs) all = let rest = fresh xs all.1 in let one = all.0 in grind (arith, one, rest)
names-gone-own (n ∷ ns) (suc k) apart within =
    let rest = names-gone-own ns k apart.1 (omega (arith, within)) in
    let other : same_name (get_or ns k []) n ≡ false =
    same_name-flip (get_or ns k []) n ∙ apart_from_distinct same_name (n ∷ ns) 0 (suc k) [] apart (omega arith) within in
    let both : list_any (same_name (get_or ns k [])) (n ∷ remove ns k) ≡ false = grind (arith, other, rest) in both

-- a row is at a place again, with free seats
seats-rejoined : (names : List (List ℕ)) (seats : List Seats) (k : ℕ) (x y : List ℕ) → length seats ≡ length names → k ≤ length names → list_any (same_name x) names ≡ false
    → seats_of (insert names k x) (insert seats k free) y ≡ seats_of names seats y
seats-rejoined names seats zero x y beside within none = by (same_name y x) refl
  where
    by : (b : Bool) → same_name y x ≡ b → seats_of (x ∷ names) (free ∷ seats) y ≡ seats_of names seats y
    by true e = here x names free seats y e ∙ sym (seats-none names seats y beside (ap (λ z. list_any (same_name z) names) (same_name-is y x e) ∙ none))
    by false e = later x names free seats y e
seats-rejoined [] seats (suc k) x y beside within none = absurd (omega (arith, within))
seats-rejoined (n ∷ ns) [] (suc k) x y beside within none = absurd (omega (arith, beside))
seats-rejoined (n ∷ ns) (s ∷ ss) (suc k) x y beside within none =
    after-first n (insert ns k x) ns s (insert ss k free) ss y
    (seats-rejoined ns ss k x y (omega (arith, beside)) (omega (arith, within)) (none-of x n ns none).1)

-- ---- seats that serve another list of names

module _ (names others : List (List ℕ)) (old new : Seated) (seated : AreSeated names old) (beside : length new.seats ≡ length others) (rolls : new.rolls ≡ old.rolls) where
  pub reseated : ((y : List ℕ) (s : ℕ) → roll_in s (seats_of names old.seats y) ≢ NOWHERE → seats_of others new.seats y ≡ seats_of names old.seats y)
      → ((y : List ℕ) (s : ℕ) → roll_in s (seats_of others new.seats y) ≢ NOWHERE → seats_of others new.seats y ≡ seats_of names old.seats y)
      → AreSeated others new
  reseated stays came = subst (λ rs. AreSeated others (record { rolls = rs; seats = new.seats; room = new.room })) (sym rolls) (record {
    beside = beside;
    few = seated.few;
    seats = seated.seats;
    rolled = λ n p h. ap (roll_in (seat_of n old.rolls)) (member n p h) ∙ seated.rolled n p h;
    placed = λ n p h. ap (place_in (seat_of n old.rolls)) (member n p h) ∙ seated.placed n p h;
    there = λ y s some. let same = came y s some in
        subst (λ (o : Seats). StandsAt old.rolls y s (roll_in s o) (place_in s o)) (sym same) (seated.there y s (λ e. some (ap (roll_in s) same ∙ e)));
  })
    where
      member : (n p : ℕ) → p < length (names_of n old.rolls)
          → seats_of others new.seats (name_at p (names_of n old.rolls)) ≡ seats_of names old.seats (name_at p (names_of n old.rolls))
      member n p h = stays (name_at p (names_of n old.rolls)) (seat_of n old.rolls) (λ e. numbered names old n p seated.few h (sym (seated.rolled n p h) ∙ e))

-- ---- the names of a table that changes

module _ {Row : Type 0} (name_of : Row → List ℕ) where
  names-replaced : (new : Row) (rows : List Row) → has_row name_of (name_of new) rows ≡ true → map name_of (with_row name_of new rows) ≡ map name_of rows
  names-replaced new [] has = absurd (cc)
  names-replaced new (row ∷ rows) has = let rest = names-replaced new rows in grind (arith, has, rest, same_name-is (name_of new) (name_of row))

  pub names-entered : (new : Row) (rows : List Row) → has_row name_of (name_of new) rows ≡ false
      → map name_of (with_row name_of new rows) ≡ map name_of rows ++ name_of new ∷ []
  names-entered new [] has = refl
  names-entered new (row ∷ rows) has = let rest = names-entered new rows in grind (arith, has, rest)

  names-gone : (name : List ℕ) (rows : List Row) (k : ℕ) → IsDistinct same_name (map name_of rows) → k < length (map name_of rows) → get_or (map name_of rows) k [] ≡ name
      → map name_of (without name_of name rows) ≡ remove (map name_of rows) k
  unfolding IsDistinct
  names-gone name [] k apart within is = absurd (omega (arith, within))
  names-gone name (row ∷ rows) zero apart within is =
      ap (map name_of) (without-here name_of name row rows (ap (same_name name) is ∙ same_name-itself name))
  names-gone name (row ∷ rows) (suc k) apart within is =
      let other : same_name name (name_of row) ≡ false =
      same_name-flip name (name_of row) ∙ ap (same_name (name_of row)) (sym is)
      ∙ apart_from_distinct same_name (map name_of (row ∷ rows)) 0 (suc k) [] apart (omega arith) within in
      ap (map name_of) (without-later name_of name row rows other)
      ∙ ap (λ ns. name_of row ∷ ns) (names-gone name rows k apart.1 (omega (arith, within)) is)

  pub names-rejoined : (row : Row) (rows : List Row) (k : ℕ) → k ≤ length rows → map name_of (insert rows k row) ≡ insert (map name_of rows) k (name_of row)
  names-rejoined row rows zero within = refl
  names-rejoined row [] (suc k) within = absurd (omega (arith, within))
  names-rejoined row (r ∷ rows) (suc k) within = ap (λ ns. name_of r ∷ ns) (names-rejoined row rows k (omega (arith, within)))

  -- ---- the laws

  listed-not : (name : List ℕ) (rows : List Row) → has_row name_of name rows ≡ false → list_any (same_name name) (map name_of rows) ≡ false
  listed-not name rows none = sym (has_row-listed name_of name rows) ∙ none

  pub replaced : (row : Row) (rows : List Row) (seated : Seated) → AreSeated (map name_of rows) seated → has_row name_of (name_of row) rows ≡ true
      → AreSeated (map name_of (with_row name_of row rows)) seated
  replaced row rows seated are has = subst (λ ns. AreSeated ns seated) (sym (names-replaced row rows has)) are

  pub entered : (row : Row) (rows : List Row) (old new : Seated) → AreSeated (map name_of rows) old → has_row name_of (name_of row) rows ≡ false
      → new.rolls ≡ old.rolls → new.seats ≡ old.seats ++ free ∷ [] → AreSeated (map name_of (with_row name_of row rows)) new
  entered row rows old new are none rolls seats =
      subst (λ ns. AreSeated ns new) (sym (names-entered row rows none))
      (reseated names (names ++ name_of row ∷ []) old new are
      (ap length seats ∙ length_push old.seats free ∙ ap (λ n. n + 1) are.beside ∙ sym (length_push names (name_of row))) rolls
      (λ y s some. same y) (λ y s some. same y))
    where
      names : List (List ℕ)
      names = map name_of rows

      same : (y : List ℕ) → seats_of (names ++ name_of row ∷ []) new.seats y ≡ seats_of names old.seats y
      same y = ap (λ (ss : List Seats). seats_of (names ++ name_of row ∷ []) ss y) seats ∙ seats-entered names old.seats (name_of row) y are.beside

  pub gone : (name : List ℕ) (k : ℕ) (rows : List Row) (old new : Seated) → AreSeated (map name_of rows) old → IsDistinct same_name (map name_of rows)
      → option_map name_of (slice_get rows k) ≡ Some name → ((s : ℕ) → roll_in s (seat_at k old.seats) ≡ NOWHERE)
      → new.rolls ≡ old.rolls → new.seats ≡ remove old.seats k → AreSeated (map name_of (without name_of name rows)) new
  gone name k rows old new are apart at free_seats rolls seats =
      subst (λ ns. AreSeated ns new) (sym (names-gone name rows k apart within is))
      (reseated names (remove names k) old new are (omega (arith, ap length seats, length-remove old.seats k less, length-remove names k within, are.beside)) rolls
      (λ y s some. same_or_other y (get_or names k []) (λ e. absurd (some (nowhere-own y s e))) (λ e. others y e))
      (λ y s some. same_or_other y (get_or names k []) (λ e. absurd (some (ap (roll_in s) (none y e) ∙ nowhere s))) (λ e. others y e)))
    where
      names : List (List ℕ)
      names = map name_of rows

      within : k < length names
      within = (named-at name_of rows k name at).0

      is : get_or names k [] ≡ name
      is = (named-at name_of rows k name at).1

      less : k < length old.seats
      less = omega (arith, within, are.beside)

      others : (y : List ℕ) → same_name y (get_or names k []) ≡ false → seats_of (remove names k) new.seats y ≡ seats_of names old.seats y
      others y e = ap (λ (ss : List Seats). seats_of (remove names k) ss y) seats ∙ seats-gone names old.seats k y are.beside within e

      nowhere-own : (y : List ℕ) (s : ℕ) → same_name y (get_or names k []) ≡ true → roll_in s (seats_of names old.seats y) ≡ NOWHERE
      nowhere-own y s e = ap (roll_in s) (own-before names old.seats are.beside k within free apart y (sym (same_name-is y (get_or names k []) e))) ∙ free_seats s

      none : (y : List ℕ) → same_name y (get_or names k []) ≡ true → seats_of (remove names k) new.seats y ≡ free
      none y e =
          seats-none (remove names k) new.seats y (omega (arith, ap length seats, length-remove old.seats k less, length-remove names k within, are.beside))
          (ap (λ z. list_any (same_name z) (remove names k)) (same_name-is y (get_or names k []) e) ∙ names-gone-own names k apart within)

  pub rejoined : (row : Row) (k : ℕ) (rows : List Row) (old new : Seated) → AreSeated (map name_of rows) old → has_row name_of (name_of row) rows ≡ false
      → k ≤ length rows → new.rolls ≡ old.rolls → new.seats ≡ insert old.seats k free → AreSeated (map name_of (insert rows k row)) new
  rejoined row k rows old new are none within rolls seats =
      subst (λ ns. AreSeated ns new) (sym (names-rejoined row rows k within))
      (reseated names (insert names k (name_of row)) old new are
      (ap length seats ∙ length-insert old.seats k free (omega (arith, inside, are.beside)) ∙ ap (λ n. n + 1) are.beside ∙ sym (length-insert names k (name_of row) inside)) rolls
      (λ y s some. same y) (λ y s some. same y))
    where
      names : List (List ℕ)
      names = map name_of rows

      inside : k ≤ length names
      inside = let long = length-map rows name_of in omega (arith, within, long)

      same : (y : List ℕ) → seats_of (insert names k (name_of row)) new.seats y ≡ seats_of names old.seats y
      same y =
          ap (λ (ss : List Seats). seats_of (insert names k (name_of row)) ss y) seats
          ∙ seats-rejoined names old.seats k (name_of row) y are.beside inside (listed-not (name_of row) rows none)
