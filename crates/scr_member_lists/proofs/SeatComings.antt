-- A row that comes to a table, goes out of it, or is in it again, by its name.
use Rattle.std.proofs.Common.{◌≡◌, ◌≢◌, inl, inr, ℕ, zero, suc, ◌+◌, ◌<◌, ◌≤◌, false, List, [], ◌∷◌, ◌++◌, Some, length, map, slice_get, insert, eqb, refl, sym, ap, subst, ◌∙◌, arith}
use Rattle.std.specs.Prelude.{if◌then◌else◌}
use Rattle.std.specs.List.{IsDistinct, list_any, position_or_len}
use Rattle.std.specs.Option.{option_map}
use Rattle.std.proofs.lemmas.Bool.Decides.{Decides-eqb, nat_tests}
use Rattle.std.proofs.lemmas.List.{get_or_at, length_push, length-map}
use Rattle.std.proofs.lemmas.List.Edits.{length-insert, get_or-insert_at}
use Rattle.scr_tables.specs.Names.{same_name}
use Rattle.scr_tables.specs.Tables.{has_row, without}
use Rattle.scr_member_lists.specs.Members.{has, moved, name_at}
use Rattle.scr_member_lists.specs.Seatings.{Seated, AreSeated, AwaitsSeats, Enters, RegainsSeats, Rejoins, free, names_of, seat_at, seats_now, seats_of}
use Rattle.scr_member_lists.specs.declared.seats.Seats.{Seats}
use Rattle.scr_member_lists.proofs.SeatLists.{named-at, own-before, place-of}
use Rattle.scr_member_lists.proofs.SeatMoves.{has_row-listed}
use Rattle.scr_member_lists.proofs.SeatReturns.{never-member}
use Rattle.scr_member_lists.proofs.SeatTables.{entered, names-entered, names-rejoined, rejoined, seats-entered, seats-none}

-- free seats at the end are told as well as none
past-free : (seats : List Seats) (j : ℕ) → seat_at j (seats ++ free ∷ []) ≡ seat_at j seats
past-free [] zero = refl
past-free [] (suc j) = refl
past-free (s ∷ ss) zero = refl
past-free (s ∷ ss) (suc j) = past-free ss j

module _ {Row : Type 0} (name_of : Row → List ℕ) (x : List ℕ) (rows : List Row) (old : Seated) where
  abbrev names : List (List ℕ)
  names = map name_of rows

  -- ---- one that comes

  long-enters : (e : Enters name_of x rows old) → length rows ≡ length old.seats + 1
  long-enters e =
      let long = length-map rows name_of in
      let is : names ≡ map name_of e.before ++ name_of e.row ∷ [] = ap (map name_of) e.rows ∙ names-entered name_of e.row e.before e.new in
      let beside = e.seats.beside in
      omega (arith, long, ap length is, length_push (map name_of e.before) (name_of e.row), beside)

  pub awaits-none : AwaitsSeats name_of x rows old → length rows ≤ length old.seats → AreSeated (map name_of rows) old
  awaits-none (inl seated) enough = seated
  awaits-none (inr e) enough = absurd (omega (arith, long-enters e, enough))

  pub awaits-one : AwaitsSeats name_of x rows old → length old.seats < length rows → Enters name_of x rows old
  awaits-one (inl seated) more = let beside = seated.beside in let long = length-map rows name_of in absurd (omega (arith, beside, long, more))
  awaits-one (inr e) more = e

  module _ (e : Enters name_of x rows old) (new : Seated) (rolls : new.rolls ≡ old.rolls) (seats : new.seats ≡ old.seats ++ free ∷ []) where
    abbrev before : List (List ℕ)
    before = map name_of e.before

    is : map name_of rows ≡ before ++ x ∷ []
    is = ap (map name_of) e.rows ∙ names-entered name_of e.row e.before e.new ∙ ap (λ n. before ++ n ∷ []) e.named

    pub enters-seated : AreSeated (map name_of rows) new
    enters-seated = subst (λ rs. AreSeated (map name_of rs) new) (sym e.rows) (entered name_of e.row e.before old new e.seats e.new rolls seats)

    pub enters-within : length old.seats < length rows
    enters-within = omega (arith, long-enters e)

    pub enters-named : name_at (length old.seats) (map name_of rows) ≡ x
    enters-named = ap (name_at (length old.seats)) is ∙ get_or_at before x [] [] (length old.seats) (sym e.seats.beside)

    pub enters-free : seat_at (length old.seats) new.seats ≡ seats_of (map name_of rows) old.seats x
    enters-free =
        ap (seat_at (length old.seats)) seats ∙ get_or_at old.seats free [] free (length old.seats) refl
        ∙ sym (ap (λ ns. seats_of ns old.seats x) is
        ∙ sym (past-free old.seats (position_or_len (same_name x) (before ++ x ∷ [])))
        ∙ seats-entered before old.seats x x e.seats.beside
        ∙ seats-none before old.seats x e.seats.beside none)
      where
        none : list_any (same_name x) before ≡ false
        none = sym (has_row-listed name_of x e.before) ∙ ap (λ n. has_row name_of n e.before) (sym e.named) ∙ e.new

  -- what is told of one that comes
  pub comes : AwaitsSeats name_of x rows old → (count len : ℕ) → count ≡ length old.seats → len ≡ length rows → count < len
      → (new : Seated) → new.rolls ≡ old.rolls → new.seats ≡ old.seats ++ free ∷ []
      → (AreSeated (map name_of rows) new) × (name_at count (map name_of rows) ≡ x) × (seat_at count new.seats ≡ seats_of (map name_of rows) old.seats x)
  comes awaits count len is long more new rolls seats =
      let e : Enters name_of x rows old = awaits-one awaits (omega (arith, is, long, more)) in (
        enters-seated e new rolls seats,
        ap (λ n. name_at n (map name_of rows)) is ∙ enters-named e new rolls seats,
        ap (λ n. seat_at n new.seats) is ∙ enters-free e new rolls seats,
      )

  -- one that stands there already
  pub there-seats : AreSeated (map name_of rows) old → IsDistinct same_name (map name_of rows) → (k : ℕ) → option_map name_of (slice_get rows k) ≡ Some x
      → seat_at k old.seats ≡ seats_of (map name_of rows) old.seats x
  there-seats seated apart k at =
      let named = named-at name_of rows k x at in
      sym (own-before (map name_of rows) old.seats seated.beside k named.0 free apart x named.1)

  -- ---- one that goes out

  without-none : (rs : List Row) → has_row name_of x rs ≡ false → without name_of x rs ≡ rs
  without-none [] none = refl
  without-none (r ∷ rs) none = let rest = without-none rs in grind (arith, none, rest)

  pub gone-none : AreSeated (map name_of rows) old → has_row name_of x rows ≡ false → AreSeated (map name_of (without name_of x rows)) old
  gone-none seated none = subst (λ rs. AreSeated (map name_of rs) old) (sym (without-none rows none)) seated

  pub names-none : AreSeated (map name_of rows) old → has_row name_of x rows ≡ false → (n : ℕ)
      → names_of n old.rolls ≡ moved x (has x (names_of n old.rolls)) false (names_of n old.rolls)
  names-none seated none n =
      sym (ap (λ b. moved x b false (names_of n old.rolls)) (never-member (map name_of rows) old x seated (sym (has_row-listed name_of x rows) ∙ none) n))

  -- ---- one that is in the table again

  long-rejoins : (e : Rejoins name_of x rows old) → length rows ≡ length old.seats + 1
  long-rejoins e =
      let beside = e.seats.beside in
      omega (arith, ap length e.rows, length-insert e.before e.place e.row e.within, length-map e.before name_of, beside)

  pub regains-none : RegainsSeats name_of x rows old → length rows ≤ length old.seats → AreSeated (map name_of rows) old
  regains-none (inl seated) enough = seated
  regains-none (inr e) enough = absurd (omega (arith, long-rejoins e, enough))

  pub regains-one : RegainsSeats name_of x rows old → length old.seats < length rows → Rejoins name_of x rows old
  regains-one (inl seated) more = let beside = seated.beside in let long = length-map rows name_of in absurd (omega (arith, beside, long, more))
  regains-one (inr e) more = e

  -- the seats that it has already
  pub now-seated : AreSeated (map name_of rows) old → IsDistinct same_name (map name_of rows) → (k : ℕ) → option_map name_of (slice_get rows k) ≡ Some x
      → seat_at k old.seats ≡ seats_now (map name_of rows) old.seats x
  now-seated seated apart k at =
      there-seats seated apart k at
      ∙ sym (ap (λ b. if b then seats_of (map name_of rows) old.seats x else free) ((Decides-eqb (length old.seats) (length (map name_of rows))).1 seated.beside))

  module _ (e : Rejoins name_of x rows old) (apart : IsDistinct same_name (map name_of rows)) (k : ℕ) (at : option_map name_of (slice_get rows k) ≡ Some x) where
    within_names : e.place ≤ length (map name_of e.before)
    within_names = let h = e.within in omega (arith, h, length-map e.before name_of)

    is_rows : map name_of rows ≡ insert (map name_of e.before) e.place x
    is_rows = ap (map name_of) e.rows ∙ names-rejoined name_of e.row e.before e.place e.within ∙ ap (insert (map name_of e.before) e.place) e.named

    there : e.place < length (map name_of rows)
    there = omega (arith, ap length is_rows, length-insert (map name_of e.before) e.place x within_names, within_names)

    its-place : k ≡ e.place
    its-place =
        let named = named-at name_of rows k x at in
        sym (place-of (map name_of rows) k x apart named.0 named.1)
        ∙ place-of (map name_of rows) e.place x apart there (ap (name_at e.place) is_rows ∙ get_or-insert_at (map name_of e.before) e.place x [] within_names)

    pub rejoins-within : k ≤ length old.seats
    rejoins-within = let beside = e.seats.beside in omega (arith, its-place, within_names, beside)

    pub rejoins-seated : (new : Seated) → new.rolls ≡ old.rolls → new.seats ≡ insert old.seats k free → AreSeated (map name_of rows) new
    rejoins-seated new rolls seats =
        subst (λ rs. AreSeated (map name_of rs) new) (sym e.rows)
        (rejoined name_of e.row e.place e.before old new e.seats e.new e.within rolls (seats ∙ ap (λ j. insert old.seats j free) its-place))

    pub rejoins-free : (new : Seated) → new.seats ≡ insert old.seats k free → seat_at k new.seats ≡ seats_now (map name_of rows) old.seats x
    rejoins-free new seats =
        ap (seat_at k) seats ∙ get_or-insert_at old.seats k free free rejoins-within
        ∙ sym (ap (λ b. if b then seats_of (map name_of rows) old.seats x else free) short)
      where
        short : eqb (length old.seats) (length (map name_of rows)) ≡ false
        short = unlike (length old.seats) (length (map name_of rows)) (λ z. omega (arith, long-rejoins e, length-map rows name_of, z))
          where
            unlike : (a b : ℕ) → a ≢ b → eqb a b ≡ false
            unlike a b differ = grind (arith, nat_tests, differ)
