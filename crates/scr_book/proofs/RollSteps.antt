-- What the steps that seat the row of a record come to.
use Rattle.std.proofs.Common.{◌≡◌, ◌≢◌, inl, inr, ℕ, zero, suc, ◌<◌, ◌≤◌, Bool, true, false, List, [], ◌∷◌, length, map, set, eqb, slice_get, Option, Some, None, refl, sym, ap, subst, ◌∙◌, arith}
use Rattle.std.specs.Prelude.{◌⊎◌, if◌then◌else◌, slice_index_or}
use Rattle.std.specs.List.{IsDistinct}
use Rattle.std.specs.Option.{option_map, option_map_or}
use Rattle.std.proofs.lemmas.Bool.Decides.{Decides-eqb}
use Rattle.std.proofs.lemmas.List.{get_or_default, length-set}
use Rattle.scr_tables.specs.Names.{same_name}
use Rattle.scr_tables.specs.Tables.{row_of}
use Rattle.scr_tables.proofs.TableRows.{IsFresh, row_of-here, row_of-later, same_name-flip, same_name-itself}
use Rattle.scr_member_lists.specs.Members.{has, moved, name_at}
use Rattle.scr_member_lists.specs.Seatings.{NOWHERE, AreSeated, IsFor, KeepsRoom, KeepsSeats, Seated, names_of, roll_in, roll_then, room_of, seat_at, seat_of, seats_of, target}
use Rattle.scr_member_lists.specs.declared.seating.Numbered.{Numbered}
use Rattle.scr_member_lists.specs.declared.seats.Seats.{Seats}
use Rattle.scr_member_lists.proofs.SeatLists.{named-at}
use Rattle.scr_member_lists.proofs.Settled.{moved-same}
use Rattle.scr_sheet.specs.BalanceSheet.{group_name, liability_name, position_name, stake_name}
use Rattle.scr_sheet.specs.Members.{table_of}
use Rattle.scr_sheet.specs.declared.{sheet.BalanceSheet.BalanceSheet, keys.Table.Table, roll.Roll.Roll}
use Rattle.scr_sheet.specs.declared.keys.Table.TheVariants as tables
use Rattle.scr_sheet.specs.declared.roll.Roll.TheVariants as list_of
use Rattle.scr_book.specs.Places.{names_in}
use Rattle.scr_book.specs.Rolls.{AreRollsOf, AwaitSeats, HaveSeats, IsPlaced, IsSettled, KeptRolls, listed, number_of_roll, roll_of, same_table, seat_of_roll, seated_in}
use Rattle.scr_book.proofs.RollGrowth.{names-past}
use Rattle.scr_book.proofs.RollLaws.{apart-roll, own-before, row-has}
use Rattle.scr_book.proofs.RollProjections.{place-below}
use Rattle.scr_book.proofs.RollSettled.{apart-in, own-table}

-- ---- the row at a place is the one of its name

apart-at : {Row : Type 0} (name_of : Row → List ℕ) (name : List ℕ) (rows : List Row) (k : ℕ) (row : Row) → IsFresh name (map name_of rows) → slice_get rows k ≡ Some row → same_name name (name_of row) ≡ false
apart-at name_of name [] k row fresh got = absurd (cc)
apart-at name_of name (x ∷ rows) zero row fresh got = let same : x ≡ row = cc in ap (λ y. same_name name (name_of y)) (sym same) ∙ fresh.0
apart-at name_of name (x ∷ rows) (suc k) row fresh got = apart-at name_of name rows k row fresh.1 got

first-at : {Row : Type 0} (name_of : Row → List ℕ) (rows : List Row) (k : ℕ) (row : Row) → IsDistinct same_name (map name_of rows) → slice_get rows k ≡ Some row
    → row_of name_of (name_of row) rows ≡ Some row
unfolding IsDistinct
first-at name_of [] k row apart got = absurd (cc)
first-at name_of (first ∷ rows) zero row apart got =
    let same : first ≡ row = cc in
    row_of-here name_of (name_of row) first rows (ap (λ r. same_name (name_of row) (name_of r)) same ∙ same_name-itself (name_of row)) ∙ ap (λ r. Some r) same
first-at name_of (first ∷ rows) (suc k) row apart got =
    let other : same_name (name_of row) (name_of first) ≡ false = same_name-flip (name_of row) (name_of first) ∙ apart-at name_of (name_of first) rows k row apart.0 got in
    row_of-later name_of (name_of row) first rows other ∙ first-at name_of rows k row apart.1 got

pub row-at : {Row : Type 0} (name_of : Row → List ℕ) (rows : List Row) (k : ℕ) (row : Row) (x : List ℕ) → IsDistinct same_name (map name_of rows) → slice_get rows k ≡ Some row
    → name_at k (map name_of rows) ≡ x → row_of name_of x rows ≡ Some row
row-at name_of rows k row x apart got named =
    let own : name_of row ≡ x = sym ((named-at name_of rows k (name_of row) (ap (option_map name_of) got)).1) ∙ named in
    ap (λ n. row_of name_of n rows) (sym own) ∙ first-at name_of rows k row apart got

-- ---- what an aim owes a list of rolls by seat

module _ (lists mids : List Numbered) (rolls : List ℕ) (own : Seats) (aim : ℕ → ℕ) (same : mids ≡ lists) (is : (seat : ℕ) → aim seat ≡ target seat rolls) where
  then-aim : (seat : ℕ) → seat < length rolls → aim seat ≡ roll_then seat rolls own
  then-aim seat inside = is seat ∙ get_or_default rolls seat NOWHERE (roll_in seat own) inside

  pub for-seats : length rolls ≤ 11 → ((seat : ℕ) → seat < 11 → IsFor lists seat (aim seat)) → (seat : ℕ) → seat < length rolls → IsFor mids seat (roll_then seat rolls own)
  for-seats few fits seat inside =
      subst (λ n. IsFor mids seat n) (then-aim seat inside) (subst (λ (l : List Numbered). IsFor l seat (aim seat)) (sym same) (fits seat (omega (arith, inside, few))))

  pub room-for : (now : Seats) → own ≡ now → ((seat : ℕ) → aim seat ≢ NOWHERE → aim seat ≢ roll_in seat now → 0 < room_of (aim seat) lists)
      → (seat : ℕ) → seat < length rolls → roll_then seat rolls own ≢ NOWHERE → roll_then seat rolls own ≢ roll_in seat own → 0 < room_of (roll_then seat rolls own) mids
  room-for now held room seat inside some other =
      let e = then-aim seat inside in
      subst (λ n. 0 < room_of n mids) e
      (subst (λ (l : List Numbered). 0 < room_of (aim seat) l) (sym same) (room seat (λ z. some (sym e ∙ z)) (λ z. other (sym e ∙ z ∙ ap (roll_in seat) (sym held)))))

-- ---- the row is settled

-- the roll that a list names for a seat is told, or is the one in which the row stands
then-cases : (rolls : List ℕ) (seat roll : ℕ) → (slice_index_or rolls seat roll ≡ slice_index_or rolls seat NOWHERE) ⊎ (slice_index_or rolls seat roll ≡ roll)
then-cases [] seat roll = inr refl
then-cases (first ∷ rolls) zero roll = inl refl
then-cases (first ∷ rolls) (suc seat) roll = then-cases rolls seat roll

-- by a list of rolls by seat
module _ (table : Table) (name : List ℕ) (aim : ℕ → ℕ) (sheet : BalanceSheet) (old new : KeptRolls) (mid : Seated) (place : ℕ) (rolls : List ℕ)
    (same : mid.rolls ≡ (seated_in table old).rolls) (is : (seat : ℕ) → aim seat ≡ target seat rolls) where
  abbrev now : Seats
  now = seat_at place (seated_in table new).seats

  abbrev names : List (List ℕ)
  names = names_in table sheet

  abbrev Told : List Numbered → ℕ → Type 0
  Told lists n = n < length lists → names_of n (seated_in table new).rolls ≡ moved name (has name (names_of n lists)) (eqb (roll_in (seat_of n lists) now) n) (names_of n lists)

  pub settles : ((other : Table) → same_table other table ≡ false → seated_in other new ≡ seated_in other old)
      → new.of_groups ≡ old.of_groups → new.of_assets ≡ old.of_assets → new.of_lines ≡ old.of_lines
      → ((roll : Roll) → table_of roll ≡ table → seat_of_roll roll < length rolls)
      → HaveSeats table sheet new → KeepsSeats mid.rolls (seated_in table new).rolls → KeepsRoom mid.rolls (seated_in table new).rolls
      → name_at place names ≡ name → seats_of names (seated_in table new).seats name ≡ now
      → ((seat : ℕ) → roll_in seat (seat_at place mid.seats) ≢ NOWHERE → has name (names_of (roll_in seat (seat_at place mid.seats)) mid.rolls) ≡ true)
      → ((seat : ℕ) → roll_in seat now ≡ roll_then seat rolls (seat_at place mid.seats))
      → ((n : ℕ) → n < length mid.rolls → names_of n (seated_in table new).rolls
      ≡ moved (name_at place names) (has (name_at place names) (names_of n mid.rolls)) (eqb (roll_then (seat_of n mid.rolls) rolls (seat_at place mid.seats)) n) (names_of n mid.rolls))
      → IsSettled table name aim sheet old new
  settles elsewhere of_groups of_assets of_lines within seated keeps room named held stood own told = record {
    elsewhere = elsewhere;
    of_groups = of_groups;
    of_assets = of_assets;
    of_lines = of_lines;
    seated = seated;
    keeps = subst (λ (l : List Numbered). KeepsSeats l (seated_in table new).rolls) same keeps;
    room = subst (λ (l : List Numbered). KeepsRoom l (seated_in table new).rolls) same room;
    now = now;
    held = held;
    stands = λ roll e. own (seat_of_roll roll) ∙ get_or_default rolls (seat_of_roll roll) (roll_in (seat_of_roll roll) (seat_at place mid.seats)) NOWHERE (within roll e) ∙ sym (is (seat_of_roll roll));
    own = λ seat some. stands-by seat some (then-cases rolls seat (roll_in seat (seat_at place mid.seats)));
    names = λ n. subst (λ (l : List Numbered). Told l n) same (told-of n);
  }
    where
      stands-by : (seat : ℕ) → roll_in seat now ≢ NOWHERE
          → (roll_then seat rolls (seat_at place mid.seats) ≡ target seat rolls) ⊎ (roll_then seat rolls (seat_at place mid.seats) ≡ roll_in seat (seat_at place mid.seats))
          → (roll_in seat now ≡ aim seat) ⊎ (has name (names_of (roll_in seat now) (seated_in table old).rolls) ≡ true)
      stands-by seat some (inl e) = inl (own seat ∙ e ∙ sym (is seat))
      stands-by seat some (inr e) =
          let stays : roll_in seat now ≡ roll_in seat (seat_at place mid.seats) = own seat ∙ e in
          inr (subst (λ (l : List Numbered). has name (names_of (roll_in seat now) l) ≡ true) same
          (subst (λ n. has name (names_of n mid.rolls) ≡ true) (sym stays) (stood seat (λ z. some (stays ∙ z)))))

      told-of : (n : ℕ) → Told mid.rolls n
      told-of n inside =
          told n inside
          ∙ ap (λ x. moved x (has x (names_of n mid.rolls)) (eqb (roll_then (seat_of n mid.rolls) rolls (seat_at place mid.seats)) n) (names_of n mid.rolls)) named
          ∙ ap (λ r. moved name (has name (names_of n mid.rolls)) (eqb r n) (names_of n mid.rolls)) (sym (own (seat_of n mid.rolls)))

-- what the rolls of a table have become, by the name and where it stands now
pub told-by : (names : List (List ℕ)) (name : List ℕ) (place : ℕ) (rolls : List ℕ) (mid : Seated) (lists : List Numbered) (new : Seated) (now : Seats) → mid.rolls ≡ lists
    → name_at place names ≡ name → now ≡ seat_at place new.seats → ((seat : ℕ) → roll_in seat (seat_at place new.seats) ≡ roll_then seat rolls (seat_at place mid.seats))
    → ((n : ℕ) → n < length mid.rolls → names_of n new.rolls
    ≡ moved (name_at place names) (has (name_at place names) (names_of n mid.rolls)) (eqb (roll_then (seat_of n mid.rolls) rolls (seat_at place mid.seats)) n) (names_of n mid.rolls))
    → (n : ℕ) → n < length lists → names_of n new.rolls ≡ moved name (has name (names_of n lists)) (eqb (roll_in (seat_of n lists) now) n) (names_of n lists)
told-by listed name place rolls mid lists new now same named held own told n = subst Told same by-mid
  where
    Told : List Numbered → Type 0
    Told l = n < length l → names_of n new.rolls ≡ moved name (has name (names_of n l)) (eqb (roll_in (seat_of n l) now) n) (names_of n l)

    by-mid : Told mid.rolls
    by-mid inside =
        told n inside
        ∙ ap (λ x. moved x (has x (names_of n mid.rolls)) (eqb (roll_then (seat_of n mid.rolls) rolls (seat_at place mid.seats)) n) (names_of n mid.rolls)) named
        ∙ ap (λ r. moved name (has name (names_of n mid.rolls)) (eqb r n) (names_of n mid.rolls)) (sym (ap (roll_in (seat_of n mid.rolls)) held ∙ own (seat_of n mid.rolls)))

-- in one seat alone
flip : (a b : ℕ) (t : Bool) → eqb a b ≡ t → eqb b a ≡ t
flip a b true e = (Decides-eqb b a).1 (sym ((Decides-eqb a b).0 e))
flip a b false e = by (eqb b a) refl
  where
    by : (s : Bool) → eqb b a ≡ s → s ≡ false
    by false h = refl
    by true h = let back = (Decides-eqb a b).1 (sym ((Decides-eqb b a).0 h)) in let never : true ≡ false = sym back ∙ e in absurd (cc)

module _ (table : Table) (sheet : BalanceSheet) (old new : KeptRolls) (place seat number : ℕ) where
  abbrev payer : List ℕ
  payer = name_at place (names_in table sheet)

  abbrev before : Seats
  before = seat_at place (seated_in table old).seats

  abbrev after : Seats
  after = seat_at place (seated_in table new).seats

  pub settles-seat : ((other : Table) → same_table other table ≡ false → seated_in other new ≡ seated_in other old)
      → new.of_groups ≡ old.of_groups → new.of_assets ≡ old.of_assets → new.of_lines ≡ old.of_lines
      → HaveSeats table sheet new → KeepsSeats (seated_in table old).rolls (seated_in table new).rolls → KeepsRoom (seated_in table old).rolls (seated_in table new).rolls
      → AreSeated (names_in table sheet) (seated_in table old) → IsDistinct same_name (names_in table sheet) → place < length (names_in table sheet)
      → seats_of (names_in table sheet) (seated_in table new).seats payer ≡ after
      → ((s : ℕ) → roll_in s after ≡ (if eqb seat s then number else roll_in s before))
      → ((n : ℕ) → n < length (seated_in table old).rolls → names_of n (seated_in table new).rolls
      ≡ (if eqb (seat_of n (seated_in table old).rolls) seat then moved payer (has payer (names_of n (seated_in table old).rolls)) (eqb number n) (names_of n (seated_in table old).rolls)
      else names_of n (seated_in table old).rolls))
      → IsSettled table payer (λ s. if eqb seat s then number else roll_in s before) sheet old new
  settles-seat elsewhere of_groups of_assets of_lines seated keeps room was apart within held own told = record {
    elsewhere = elsewhere;
    of_groups = of_groups;
    of_assets = of_assets;
    of_lines = of_lines;
    seated = seated;
    keeps = keeps;
    room = room;
    now = after;
    held = held;
    stands = λ roll e. own (seat_of_roll roll);
    own = λ s some. inl (own s);
    names = λ n inside. names n inside (eqb (seat_of n (seated_in table old).rolls) seat) refl;
  }
    where
      roll-of : ℕ → List (List ℕ)
      roll-of n = names_of n (seated_in table old).rolls

      names : (n : ℕ) → n < length (seated_in table old).rolls → (t : Bool) → eqb (seat_of n (seated_in table old).rolls) seat ≡ t
          → names_of n (seated_in table new).rolls ≡ moved payer (has payer (roll-of n)) (eqb (roll_in (seat_of n (seated_in table old).rolls) after) n) (roll-of n)
      names n inside true e =
          told n inside ∙ ap (λ b. if b then moved payer (has payer (roll-of n)) (eqb number n) (roll-of n) else roll-of n) e
          ∙ ap (λ r. moved payer (has payer (roll-of n)) (eqb r n) (roll-of n))
          (sym (own (seat_of n (seated_in table old).rolls) ∙ ap (λ b. if b then number else roll_in (seat_of n (seated_in table old).rolls) before) (flip (seat_of n (seated_in table old).rolls) seat true e)))
      names n inside false e =
          let stays : roll_in (seat_of n (seated_in table old).rolls) after ≡ roll_in (seat_of n (seated_in table old).rolls) before =
          own (seat_of n (seated_in table old).rolls) ∙ ap (λ b. if b then number else roll_in (seat_of n (seated_in table old).rolls) before) (flip (seat_of n (seated_in table old).rolls) seat false e) in
          let member : has payer (roll-of n) ≡ eqb (roll_in (seat_of n (seated_in table old).rolls) before) n =
          row-has (names_in table sheet) (seated_in table old) was apart place within (seat_of n (seated_in table old).rolls) n inside refl in
          told n inside ∙ ap (λ b. if b then moved payer (has payer (roll-of n)) (eqb number n) (roll-of n) else roll-of n) e
          ∙ sym (ap (λ b. moved payer (has payer (roll-of n)) b (roll-of n)) (ap (λ r. eqb r n) stays ∙ sym member) ∙ moved-same payer (has payer (roll-of n)) (roll-of n))

-- where payments alone are others, the roll is one for the seat, and there is room
module _ (table : Table) (place seat number : ℕ) (sheet : BalanceSheet) (kept : KeptRolls) (placed : IsPlaced table place seat number sheet kept) where
  aim-own : (if eqb seat seat then number else roll_in seat (seat_at place (seated_in table kept).seats)) ≡ number
  aim-own = ap (λ b. if b then number else roll_in seat (seat_at place (seated_in table kept).seats)) ((Decides-eqb seat seat).1 refl)

  pub placed-for : IsFor (seated_in table kept).rolls seat number
  placed-for = subst (λ n. IsFor (seated_in table kept).rolls seat n) aim-own (placed.awaited.fits seat placed.few)

  pub placed-room : AreSeated (names_in table sheet) (seated_in table kept) → IsDistinct same_name (names_in table sheet)
      → number ≢ NOWHERE → number ≢ roll_in seat (seat_at place (seated_in table kept).seats) → 0 < room_of number (seated_in table kept).rolls
  placed-room h apart some other =
      let held = own-before (names_in table sheet) (seated_in table kept) h apart place placed.within (name_at place (names_in table sheet)) refl in
      subst (λ n. 0 < room_of n (seated_in table kept).rolls) aim-own
      (placed.awaited.room seat (λ e. some (sym aim-own ∙ e)) (λ e. other (sym aim-own ∙ e ∙ ap (roll_in seat) held)))

-- ---- the seats of a table

pub seated-in : (table : Table) (sheet : BalanceSheet) (kept : KeptRolls) → same_table table table ≡ true → HaveSeats table sheet kept → AreSeated (names_in table sheet) (seated_in table kept)
seated-in tables.Security sheet kept own h = h
seated-in tables.Fund sheet kept own h = h
seated-in tables.Liability sheet kept own h = h
seated-in tables.Group sheet kept own h = h
seated-in tables.Bank sheet kept own h = absurd (cc)
seated-in tables.Rein sheet kept own h = absurd (cc)
seated-in tables.Curve sheet kept own h = absurd (cc)

-- no name stands twice in a roll of a table that awaits seats
pub apart-awaited : (table : Table) (name : List ℕ) (sheet : BalanceSheet) (kept : KeptRolls) → same_table table table ≡ true → AwaitSeats table name sheet kept
    → (n : ℕ) → IsDistinct same_name (names_of n (seated_in table kept).rolls)
apart-awaited tables.Security name sheet kept own (inl h) n = apart-roll (map position_name sheet.securities) kept.securities h n
apart-awaited tables.Security name sheet kept own (inr e) n = apart-roll (map position_name e.before) kept.securities e.seats n
apart-awaited tables.Fund name sheet kept own (inl h) n = apart-roll (map stake_name sheet.funds) kept.funds h n
apart-awaited tables.Fund name sheet kept own (inr e) n = apart-roll (map stake_name e.before) kept.funds e.seats n
apart-awaited tables.Liability name sheet kept own (inl h) n = apart-roll (map liability_name sheet.liabilities) kept.liabilities h n
apart-awaited tables.Liability name sheet kept own (inr e) n = apart-roll (map liability_name e.before) kept.liabilities e.seats n
apart-awaited tables.Group name sheet kept own (inl h) n = apart-roll (map group_name sheet.groups) kept.groups h n
apart-awaited tables.Group name sheet kept own (inr e) n = apart-roll (map group_name e.before) kept.groups e.seats n
apart-awaited tables.Bank name sheet kept own h n = absurd (cc)
apart-awaited tables.Rein name sheet kept own h n = absurd (cc)
apart-awaited tables.Curve name sheet kept own h n = absurd (cc)

-- in the first seat, where the table has no roll of another
pub settles-first : (table : Table) (name : List ℕ) (sheet : BalanceSheet) (old new : KeptRolls) (number : ℕ)
    → ((other : Table) → same_table other table ≡ false → seated_in other new ≡ seated_in other old)
    → new.of_groups ≡ old.of_groups → new.of_assets ≡ old.of_assets → new.of_lines ≡ old.of_lines
    → ((roll : Roll) → table_of roll ≡ table → seat_of_roll roll ≡ 0)
    → HaveSeats table sheet new → KeepsSeats (seated_in table old).rolls (seated_in table new).rolls → KeepsRoom (seated_in table old).rolls (seated_in table new).rolls
    → roll_in 0 (seats_of (names_in table sheet) (seated_in table new).seats name) ≡ number
    → ((seat : ℕ) → 0 < seat → roll_in seat (seats_of (names_in table sheet) (seated_in table new).seats name) ≢ NOWHERE
    → has name (names_of (roll_in seat (seats_of (names_in table sheet) (seated_in table new).seats name)) (seated_in table old).rolls) ≡ true)
    → ((n : ℕ) → n < length (seated_in table old).rolls → names_of n (seated_in table new).rolls
    ≡ moved name (has name (names_of n (seated_in table old).rolls))
    (eqb (roll_in (seat_of n (seated_in table old).rolls) (seats_of (names_in table sheet) (seated_in table new).seats name)) n) (names_of n (seated_in table old).rolls))
    → IsSettled table name (λ s. target s (number ∷ [])) sheet old new
settles-first table name sheet old new number elsewhere of_groups of_assets of_lines first seated keeps room own stood told = record {
  elsewhere = elsewhere;
  of_groups = of_groups;
  of_assets = of_assets;
  of_lines = of_lines;
  seated = seated;
  keeps = keeps;
  room = room;
  now = seats_of (names_in table sheet) (seated_in table new).seats name;
  held = refl;
  stands = λ roll e.
      ap (λ s. roll_in s (seats_of (names_in table sheet) (seated_in table new).seats name)) (first roll e) ∙ own ∙ sym (ap (λ s. target s (number ∷ [])) (first roll e));
  own = by;
  names = told;
}
  where
    by : (seat : ℕ) → roll_in seat (seats_of (names_in table sheet) (seated_in table new).seats name) ≢ NOWHERE
        → (roll_in seat (seats_of (names_in table sheet) (seated_in table new).seats name) ≡ target seat (number ∷ []))
        ⊎ (has name (names_of (roll_in seat (seats_of (names_in table sheet) (seated_in table new).seats name)) (seated_in table old).rolls) ≡ true)
    by zero some = inl own
    by (suc seat) some = inr (stood (suc seat) (omega arith) some)

-- ---- which seats the rolls of a table are in

-- a security has five, whether it pays or not
pub five : (numbers : List ℕ) → length numbers ≡ 5 → (b : Bool) → length (if b then numbers else set numbers 4 NOWHERE) ≡ 5
five numbers long true = long
five numbers long false = length-set numbers 4 NOWHERE ∙ long

pub security-seat : (roll : Roll) → table_of roll ≡ tables.Security → seat_of_roll roll < 5
security-seat (list_of.Class class) e = omega arith
security-seat list_of.Bonds e = omega arith
security-seat list_of.Grouped e = omega arith
security-seat (list_of.Group group) e = omega arith
security-seat (list_of.Assets currency) e = omega arith
security-seat (list_of.Flows currency) e = omega arith
security-seat list_of.Closed e = absurd (cc)
security-seat (list_of.Lines currency) e = absurd (cc)
security-seat (list_of.Losses kind projection) e = absurd (cc)
security-seat list_of.Groups e = absurd (cc)

pub liability-seat : (roll : Roll) → table_of roll ≡ tables.Liability → seat_of_roll roll < 11
liability-seat (list_of.Lines currency) e = omega arith
liability-seat (list_of.Losses kind projection) e = let below = place-below projection in omega (arith, below)
liability-seat (list_of.Class class) e = absurd (cc)
liability-seat list_of.Bonds e = absurd (cc)
liability-seat list_of.Grouped e = absurd (cc)
liability-seat (list_of.Group group) e = absurd (cc)
liability-seat (list_of.Assets currency) e = absurd (cc)
liability-seat (list_of.Flows currency) e = absurd (cc)
liability-seat list_of.Closed e = absurd (cc)
liability-seat list_of.Groups e = absurd (cc)

pub fund-seat : (roll : Roll) → table_of roll ≡ tables.Fund → seat_of_roll roll ≡ 0
fund-seat list_of.Closed e = refl
fund-seat (list_of.Class class) e = absurd (cc)
fund-seat list_of.Bonds e = absurd (cc)
fund-seat list_of.Grouped e = absurd (cc)
fund-seat (list_of.Group group) e = absurd (cc)
fund-seat (list_of.Assets currency) e = absurd (cc)
fund-seat (list_of.Flows currency) e = absurd (cc)
fund-seat (list_of.Lines currency) e = absurd (cc)
fund-seat (list_of.Losses kind projection) e = absurd (cc)
fund-seat list_of.Groups e = absurd (cc)

pub group-seat : (roll : Roll) → table_of roll ≡ tables.Group → seat_of_roll roll ≡ 0
group-seat list_of.Groups e = refl
group-seat (list_of.Class class) e = absurd (cc)
group-seat list_of.Bonds e = absurd (cc)
group-seat list_of.Grouped e = absurd (cc)
group-seat (list_of.Group group) e = absurd (cc)
group-seat (list_of.Assets currency) e = absurd (cc)
group-seat (list_of.Flows currency) e = absurd (cc)
group-seat (list_of.Lines currency) e = absurd (cc)
group-seat (list_of.Losses kind projection) e = absurd (cc)
group-seat list_of.Closed e = absurd (cc)

-- no name stands twice in a roll
pub distinct-kept : (sheet : BalanceSheet) (kept : KeptRolls) → AreRollsOf sheet kept → (roll : Roll) → IsDistinct same_name (roll_of roll kept)
distinct-kept sheet kept h roll = by (number_of_roll roll kept)
  where
    apart : (n : ℕ) → IsDistinct same_name (names_of n (listed roll kept))
    apart n = apart-in (table_of roll) sheet kept (own-table roll) (h.seated (table_of roll)) n

    by : (found : Option ℕ) → IsDistinct same_name (option_map_or (λ n. names_of n (listed roll kept)) found [])
    by (Some n) = apart n
    by None = subst (λ (xs : List (List ℕ)). IsDistinct same_name xs) (names-past (length (listed roll kept)) (listed roll kept) (omega arith)) (apart (length (listed roll kept)))
