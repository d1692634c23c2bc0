-- Where a security is to stand whose payments are others.
use Rattle.std.proofs.Common.{◌≡◌, ◌≢◌, ◌⊎◌, inl, inr, ℕ, ℤ, ◌+◌, ◌<◌, Bool, true, false, not, ◌&&◌, List, [], length, map, get_or, eqb, Option, Some, None, is_some, refl, sym, ap, subst, ◌∙◌, arith}
use Rattle.std.specs.Prelude.{if◌then◌else◌}
use Rattle.std.specs.Option.{option_map, option_map_or}
use Rattle.std.proofs.lemmas.Bool.Decides.{Decides-eqb}
use Rattle.std.proofs.lemmas.List.{length-map}
use Rattle.std.specs.List.{IsDistinct}
use Rattle.scr_tables.specs.Names.{same_name}
use Rattle.scr_tables.specs.Tables.{with_row}
use Rattle.scr_tables.proofs.TableRows.{name_of-row_of, names-changed, row_of-with_row_own, same_name-is, same_name-itself}
use Rattle.scr_dates.specs.declared.day.Day.{Day}
use Rattle.scr_member_lists.specs.Members.{has}
use Rattle.scr_member_lists.specs.Owned.{number_of}
use Rattle.scr_member_lists.specs.declared.seats.Seats.{Seats}
use Rattle.scr_member_lists.specs.Seatings.{NOWHERE, AreSeated, IsFor, names_of, roll_in, room_of, seat_at, seat_of, seats_of}
use Rattle.std.proofs.lemmas.Bool.{cases_eq}
use Rattle.scr_sheet.specs.BalanceSheet.{position_name, position_of}
use Rattle.scr_sheet.specs.CashFlows.{is_empty}
use Rattle.scr_sheet.specs.Members.{has_security, is_member, is_member_in, table_of}
use Rattle.scr_sheet.specs.Records.{applied}
use Rattle.scr_sheet.specs.declared.{sheet.BalanceSheet.BalanceSheet, keys.Table.Table, roll.Roll.Roll, rows.Position.Position}
use Rattle.scr_sheet.specs.declared.edit.Edit.TheVariants as edits
use Rattle.scr_sheet.specs.declared.keys.Table.TheVariants as tables
use Rattle.scr_sheet.specs.declared.roll.Roll.TheVariants as rolls
use Rattle.scr_book.specs.Rolls.{AreRollsOf, HaveSeats, IsAwaited, IsOfRoll, IsPlaced, KeptRolls, listed, number_of_roll, roll_of, same_table, seat_of_roll, seated_in}
use Rattle.scr_book.proofs.RollLaws.{own-before, row-has, row-listed, row-stands}
use Rattle.scr_book.proofs.RollNumbers.{more-apart, nowhere-apart}
use Rattle.scr_book.proofs.RollSettled.{same-table}
use Rattle.scr_book.proofs.RollAims.{apart-securities, few, others-at, serves}

-- ---- payments

-- where the row of a name stands in a table, by its place
module _ (sheet : BalanceSheet) (kept : KeptRolls) (h : AreRollsOf sheet kept) where
  -- a security at a place is a member of the rolls in which its seats have it
  pub stands-security : (place : ℕ) → place < length sheet.securities → IsDistinct same_name (map position_name sheet.securities)
      → (roll : Roll) (n : ℕ) → same_table (table_of roll) tables.Security ≡ true → number_of_roll roll kept ≡ Some n
      → eqb (roll_in (seat_of_roll roll) (seat_at place kept.securities.seats)) n ≡ is_member roll (get_or (map position_name sheet.securities) place []) sheet
  stands-security place within apart roll n same e =
      let is = same-table (table_of roll) tables.Security same in
      let had = h.numbered.own roll n e in
      let inside : n < length kept.securities.rolls = subst (λ (t : Table). n < length (seated_in t kept).rolls) is had.0 in
      let seat : seat_of n kept.securities.rolls ≡ seat_of_roll roll = ap (λ (t : Table). seat_of n (seated_in t kept).rolls) (sym is) ∙ had.1 in
      sym (row-has (map position_name sheet.securities) kept.securities (h.seated tables.Security) apart place (within-names place within) (seat_of_roll roll) n inside seat)
      ∙ ap (λ (t : Table). has (get_or (map position_name sheet.securities) place []) (names_of n (seated_in t kept).rolls)) (sym is)
      ∙ ap (λ (o : Option ℕ). has (get_or (map position_name sheet.securities) place []) (option_map_or (λ m. names_of m (listed roll kept)) o [])) (sym e)
      ∙ h.members roll (get_or (map position_name sheet.securities) place [])
    where
      within-names : (k : ℕ) → k < length sheet.securities → k < length (map position_name sheet.securities)
      within-names k inside = let same_length = length-map sheet.securities position_name in omega (arith, inside, same_length)

  abbrev names : List (List ℕ)
  names = map position_name sheet.securities

  module _ (place : ℕ) (x : List ℕ) (p : Position) (within : place < length sheet.securities) (named : get_or names place [] ≡ x)
      (found : position_of x sheet.securities ≡ Some p) (apart : IsDistinct same_name names) (flows : List (Day × ℤ)) where
    abbrev paid : BalanceSheet
    paid = applied (edits.Flows x flows) sheet

    abbrev seats_own : Seats
    seats_own = seat_at place kept.securities.seats

    -- the row after the record
    abbrev pub payer : Position
    payer = record p { security = record p.security { flows = flows } }

    named-row : position_name p ≡ x
    named-row = sym (same_name-is x (position_name p) (name_of-row_of position_name x sheet.securities p found))

    rows-paid : paid.securities ≡ with_row position_name payer sheet.securities
    rows-paid = ap (λ o. option_map_or (λ (row : Position). with_row position_name (record row { security = record row.security { flows = flows } }) sheet.securities) o sheet.securities) found

    after-found : position_of x paid.securities ≡ Some payer
    after-found = ap (position_of x) rows-paid ∙ subst (λ (n : List ℕ). position_of n (with_row position_name payer sheet.securities) ≡ Some payer) named-row (row_of-with_row_own position_name payer sheet.securities)

    pub names-paid : map position_name paid.securities ≡ names
    names-paid = names-changed position_name (λ (row : Position). record row { security = record row.security { flows = flows } }) x sheet.securities (λ row. refl)

    stands : (roll : Roll) (n : ℕ) → same_table (table_of roll) tables.Security ≡ true → number_of_roll roll kept ≡ Some n → eqb (roll_in (seat_of_roll roll) seats_own) n ≡ has_security roll p
    stands roll n same e =
        stands-security place within apart roll n same e ∙ ap (λ y. is_member roll y sheet) named
        ∙ ap (λ (t : Table). is_member_in t roll x sheet) (same-table (table_of roll) tables.Security same)
        ∙ ap (λ o. option_map_or (has_security roll) o false) found

    -- the currency of a security has a number, which the security's seat names
    pub currency-number : number_of p.security.currency kept.of_assets ≡ Some (roll_in 3 seats_own)
    currency-number = by (number_of p.security.currency kept.of_assets) refl
      where
        member : is_member (rolls.Assets p.security.currency) x sheet ≡ true
        member = ap (λ o. option_map_or (has_security (rolls.Assets p.security.currency)) o false) found ∙ same_name-itself p.security.currency

        by : (of : Option ℕ) → number_of p.security.currency kept.of_assets ≡ of → of ≡ Some (roll_in 3 seats_own)
        by None e =
            let none : has x (roll_of (rolls.Assets p.security.currency) kept) ≡ false = ap (λ (o : Option ℕ). has x (option_map_or (λ n. names_of n kept.securities.rolls) o [])) e in
            let never : true ≡ false = sym member ∙ sym (h.members (rolls.Assets p.security.currency) x) ∙ none in
            absurd (cc)
        by (Some k) e =
            let is : roll_in 3 seats_own ≡ k = (Decides-eqb (roll_in 3 seats_own) k).0 (stands (rolls.Assets p.security.currency) k refl e ∙ same_name-itself p.security.currency) in
            ap (λ m. Some m) (sym is)

    -- the roll of those with payments in the currency
    pub serves-flows : IsFor kept.securities.rolls 4 (roll_in 3 seats_own + 1)
    serves-flows = serves sheet kept h (rolls.Flows p.security.currency) (roll_in 3 seats_own + 1) (ap (option_map (λ n. n + 1)) currency-number)

    abbrev then_paid : Bool → ℕ
    then_paid empty = if empty then NOWHERE else roll_in 3 seats_own + 1

    abbrev pay_aim : ℕ → ℕ
    pay_aim seat = if eqb 4 seat then then_paid (is_empty flows) else roll_in seat seats_own

    pays-in : (empty : Bool) (c : List ℕ) (k : ℕ) → number_of c kept.of_assets ≡ Some k → eqb (then_paid empty) (k + 1) ≡ (same_name c p.security.currency && not empty)
    pays-in true c k e = nowhere-apart (k + 1) (few sheet kept h (rolls.Flows c) (k + 1) (ap (option_map (λ n. n + 1)) e)) ∙ and-false (same_name c p.security.currency)
      where
        and-false : (t : Bool) → false ≡ (t && false)
        and-false true = refl
        and-false false = refl
    pays-in false c k e = more-apart (roll_in 3 seats_own) k 1 ∙ stands (rolls.Assets c) k refl e ∙ and-true (same_name c p.security.currency)
      where
        and-true : (t : Bool) → t ≡ (t && true)
        and-true true = refl
        and-true false = refl

    -- a roll without a number has no member
    not-member : (roll : Roll) → same_table (table_of roll) tables.Security ≡ true → number_of_roll roll kept ≡ None → has_security roll p ≡ false
    not-member roll same e =
        sym (ap (λ o. option_map_or (has_security roll) o false) found)
        ∙ sym (ap (λ (t : Table). is_member_in t roll x sheet) (same-table (table_of roll) tables.Security same))
        ∙ sym (h.members roll x)
        ∙ ap (λ (o : Option ℕ). has x (option_map_or (λ n. names_of n (listed roll kept)) o [])) e

    own-paid : (roll : Roll) (n : ℕ) → same_table (table_of roll) tables.Security ≡ true → number_of_roll roll kept ≡ Some n → eqb (pay_aim (seat_of_roll roll)) n ≡ has_security roll payer
    own-paid (rolls.Class class) n same e = stands (rolls.Class class) n same e
    own-paid rolls.Bonds n same e = stands rolls.Bonds n same e
    own-paid rolls.Grouped n same e = stands rolls.Grouped n same e
    own-paid (rolls.Group g) n same e = stands (rolls.Group g) n same e
    own-paid (rolls.Assets c) n same e = stands (rolls.Assets c) n same e
    own-paid (rolls.Flows c) n same e = by (number_of c kept.of_assets) refl e
      where
        by : (of : Option ℕ) → number_of c kept.of_assets ≡ of → option_map (λ k. k + 1) of ≡ Some n → eqb (then_paid (is_empty flows)) n ≡ (same_name c p.security.currency && not (is_empty flows))
        by None is none = absurd (cc)
        by (Some k) is some = let sum : k + 1 ≡ n = cc in ap (eqb (then_paid (is_empty flows))) (sym sum) ∙ pays-in (is_empty flows) c k is
    own-paid roll n same e = absurd (cc)

    none-paid : (roll : Roll) → same_table (table_of roll) tables.Security ≡ true → number_of_roll roll kept ≡ None → has_security roll payer ≡ false
    none-paid (rolls.Group g) same e = not-member (rolls.Group g) refl e
    none-paid (rolls.Assets c) same e = not-member (rolls.Assets c) refl e
    none-paid (rolls.Flows c) same e = by (number_of c kept.of_assets) refl e
      where
        by : (of : Option ℕ) → number_of c kept.of_assets ≡ of → option_map (λ k. k + 1) of ≡ None → (same_name c p.security.currency && not (is_empty flows)) ≡ false
        by None is none = ap (λ b. b && not (is_empty flows)) (not-member (rolls.Assets c) refl is)
        by (Some k) is none = absurd (cc)
    none-paid roll same e = absurd (cc)

    -- where the row stands now is for the seat
    stands-for : (seat : ℕ) → IsFor kept.securities.rolls seat (roll_in seat seats_own)
    stands-for seat = by (cases_eq (roll_in seat seats_own) NOWHERE)
      where
        by : ((roll_in seat seats_own ≡ NOWHERE) ⊎ (roll_in seat seats_own ≡ NOWHERE → ⊥)) → IsFor kept.securities.rolls seat (roll_in seat seats_own)
        by (inl e) = inl e
        by (inr some) =
            let length_names = length-map sheet.securities position_name in
            let at = row-stands names kept.securities (h.seated tables.Security) apart place (omega (arith, within, length_names)) seat some in
            inr (at.numbered, at.own)

    module _ (number : ℕ) (is : number ≡ then_paid (is_empty flows)) (room : number ≢ NOWHERE → 0 < room_of number kept.securities.rolls) where
      abbrev aim : ℕ → ℕ
      aim seat = if eqb 4 seat then number else roll_in seat seats_own

      abbrev Awaited : List ℕ → Type 0
      Awaited y = IsAwaited tables.Security y aim paid kept

      aim-is : (seat : ℕ) → aim seat ≡ pay_aim seat
      aim-is seat = ap (λ n. if eqb 4 seat then n else roll_in seat seats_own) is

      elsewhere : (other : Table) → same_table other tables.Security ≡ false → HaveSeats other paid kept
      elsewhere tables.Security other = absurd (cc)
      elsewhere tables.Fund other = h.seated tables.Fund
      elsewhere tables.Liability other = h.seated tables.Liability
      elsewhere tables.Group other = h.seated tables.Group
      elsewhere tables.Bank other = tt
      elsewhere tables.Rein other = tt
      elsewhere tables.Curve other = tt

      then-for : (empty : Bool) → IsFor kept.securities.rolls 4 (then_paid empty)
      then-for true = inl refl
      then-for false = serves-flows

      fits : (seat : ℕ) (t : Bool) → eqb 4 seat ≡ t → IsFor kept.securities.rolls seat (if t then number else roll_in seat seats_own)
      fits seat true e = subst (λ s. IsFor kept.securities.rolls s number) ((Decides-eqb 4 seat).0 e) (subst (λ n. IsFor kept.securities.rolls 4 n) (sym is) (then-for (is_empty flows)))
      fits seat false e = stands-for seat

      -- each is a roll's
      then-owned : (empty : Bool) → then_paid empty ≢ NOWHERE → IsOfRoll tables.Security (then_paid empty) kept
      then-owned true some = absurd (some refl)
      then-owned false some = record { roll = rolls.Flows p.security.currency; of = refl; numbered = ap (option_map (λ n. n + 1)) currency-number }

      aimed : (seat : ℕ) (t : Bool) → eqb 4 seat ≡ t → (if t then number else roll_in seat seats_own) ≢ NOWHERE
          → IsOfRoll tables.Security (if t then number else roll_in seat seats_own) kept
      aimed seat true e some = subst (λ n. IsOfRoll tables.Security n kept) (sym is) (then-owned (is_empty flows) (λ z. some (is ∙ z)))
      aimed seat false e some =
          h.numbered.owned tables.Security (roll_in seat seats_own) x
          (row-listed names kept.securities (h.seated tables.Security) apart place (omega (arith, within, length-map sheet.securities position_name)) x named seat some)

      own-seats : seats_of (map position_name paid.securities) kept.securities.seats x ≡ seats_own
      own-seats = ap (λ (ns : List (List ℕ)). seats_of ns kept.securities.seats x) names-paid
          ∙ own-before names kept.securities (h.seated tables.Security) apart place (omega (arith, within, length-map sheet.securities position_name)) x named

      rooms : (seat : ℕ) (t : Bool) → eqb 4 seat ≡ t → (if t then number else roll_in seat seats_own) ≢ NOWHERE → (if t then number else roll_in seat seats_own) ≢ roll_in seat seats_own
          → 0 < room_of (if t then number else roll_in seat seats_own) kept.securities.rolls
      rooms seat true e some other = room some
      rooms seat false e some other = absurd (other refl)

      others : (roll : Roll) (other : List ℕ) → ((same_table (table_of roll) tables.Security ≡ false) ⊎ (same_name x other ≡ false)) → has other (roll_of roll kept) ≡ is_member roll other paid
      others roll other (inl elsewhere_roll) = h.members roll other ∙ sym (apart-securities sheet other roll paid.securities elsewhere_roll)
      others roll other (inr other_name) = others-at sheet kept h (edits.Flows x flows) x refl roll other other_name

      awaited : Awaited x
      awaited = record {
        known = record {
          numbered = h.numbered;
          elsewhere = elsewhere;
          own = λ roll n same e. ap (λ m. eqb m n) (aim-is (seat_of_roll roll)) ∙ own-paid roll n same e
              ∙ sym (ap (λ o. option_map_or (has_security roll) o false) after-found) ∙ sym (ap (λ (t : Table). is_member_in t roll x paid) (same-table (table_of roll) tables.Security same));
          none = λ roll same e.
              ap (λ (t : Table). is_member_in t roll x paid) (same-table (table_of roll) tables.Security same) ∙ ap (λ o. option_map_or (has_security roll) o false) after-found ∙ none-paid roll same e;
          aimed = λ seat some. aimed seat (eqb 4 seat) refl some;
          others = others;
        };
        seated = inl (subst (λ (ns : List (List ℕ)). AreSeated ns kept.securities) (sym names-paid) (h.seated tables.Security));
        there = ap is_some after-found;
        fits = λ seat inside. fits seat (eqb 4 seat) refl;
        room = λ seat some other. rooms seat (eqb 4 seat) refl some (λ e. other (e ∙ ap (roll_in seat) (sym own-seats)));
      }

      pub placed-payments : IsPlaced tables.Security place 4 number paid kept
      placed-payments = record {
        within = subst (λ (ns : List (List ℕ)). place < length ns) (sym names-paid) (omega (arith, within, length-map sheet.securities position_name));
        seated = subst (λ (ns : List (List ℕ)). AreSeated ns kept.securities) (sym names-paid) (h.seated tables.Security);
        few = omega arith;
        awaited = subst (λ (ns : List (List ℕ)). Awaited (get_or ns place [])) (sym names-paid) (subst (λ (y : List ℕ). Awaited y) (sym named) awaited);
      }
