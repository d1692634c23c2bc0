-- A row that goes back to where it stood.
use Rattle.std.proofs.Common.{◌≡◌, ◌≢◌, ◌⊎◌, inl, ℕ, ◌<◌, Bool, true, false, List, [], length, eqb, Option, Some, None, is_some, refl, sym, ap, subst, ◌∙◌}
use Rattle.std.specs.Prelude.{if◌then◌else◌}
use Rattle.std.specs.List.{IsDistinct, list_any}
use Rattle.std.specs.Option.{option_map_or}
use Rattle.scr_tables.specs.Names.{same_name}
use Rattle.scr_member_lists.specs.Members.{has, returned}
use Rattle.scr_member_lists.specs.Seatings.{NOWHERE, AreSeated, CanReturn, Seated, free, names_of, place_in, roll_in, seat_of, seats_now, seats_of, stood}
use Rattle.scr_member_lists.specs.declared.seats.Seats.{Seats}
use Rattle.scr_sheet.specs.BalanceSheet.{bank_name, curve_name, group_name, is_in, liability_name, position_name, rein_name, stake_name}
use Rattle.scr_sheet.specs.Members.{is_member, table_of}
use Rattle.scr_sheet.specs.declared.{sheet.BalanceSheet.BalanceSheet, keys.Table.Table, roll.Roll.Roll}
use Rattle.scr_book.specs.Places.{names_in}
use Rattle.scr_book.specs.Rolls.{AreRollsOf, GoesBack, GoesIn, IsOfRoll, IsSettled, KeptRolls, listed, number_of_roll, roll_back, roll_of, same_table, seat_of_roll, seated_in, seats_before, stands_in}
use Rattle.scr_book.specs.declared.rolls.Standing.{Standing}
use Rattle.scr_member_lists.proofs.SeatMoves.{has_row-listed, nowhere}
use Rattle.scr_member_lists.proofs.SeatReturns.{has-at}
use Rattle.scr_member_lists.proofs.SeatTables.{seats-none}
use Rattle.scr_sheet.specs.declared.keys.Table.TheVariants as tables
use Rattle.scr_book.proofs.RollGrowth.{same-numbers}
use Rattle.scr_book.proofs.RollLaws.{can-return, has-by-seat, returned-name}
use Rattle.scr_book.proofs.RollSettled.{same-table, table-cases}

-- a name is in a table where it is listed
pub listed-in : (table : Table) (x : List ℕ) (sheet : BalanceSheet) → is_in table x sheet ≡ list_any (same_name x) (names_in table sheet)
listed-in tables.Group x sheet = has_row-listed group_name x sheet.groups
listed-in tables.Security x sheet = has_row-listed position_name x sheet.securities
listed-in tables.Fund x sheet = has_row-listed stake_name x sheet.funds
listed-in tables.Liability x sheet = has_row-listed liability_name x sheet.liabilities
listed-in tables.Bank x sheet = has_row-listed bank_name x sheet.banks
listed-in tables.Rein x sheet = has_row-listed rein_name x sheet.reinsurers
listed-in tables.Curve x sheet = has_row-listed curve_name x sheet.curves

module _ (table : Table) (own : same_table table table ≡ true) (x : List ℕ) (aim : ℕ → ℕ) (before after : BalanceSheet) (mid new : KeptRolls)
    (kept : AreRollsOf before mid) (seated : AreSeated (names_in table before) (seated_in table mid)) (apart : IsDistinct same_name (names_in table before))
    (settled : IsSettled table x aim after mid new) where
  abbrev seats : Seats
  seats = seats_of (names_in table before) (seated_in table mid).seats x

  abbrev standing : Standing
  standing = stands_in table x before mid

  -- a name without a row has free seats
  seats-are : is_in table x before ≡ false → seats ≡ free
  seats-are absent = seats-none (names_in table before) (seated_in table mid).seats x seated.beside (sym (listed-in table x before) ∙ absent)

  before-seats : seats_before standing ≡ seats
  before-seats = by (is_in table x before) refl
    where
      by : (t : Bool) → is_in table x before ≡ t → option_map_or (λ (s : Seats). s) (if t then Some seats else None) free ≡ seats
      by true e = refl
      by false e = sym (seats-are e)

  numbers : (roll : Roll) → number_of_roll roll new ≡ number_of_roll roll mid
  numbers roll = same-numbers roll mid new settled.of_groups settled.of_assets settled.of_lines

  -- each roll is as it was
  pub goes-back : (roll : Roll) → roll_back (Some standing) roll new ≡ roll_of roll mid
  goes-back roll = table-cases (table_of roll) table same other
    where
      same : same_table (table_of roll) table ≡ true → roll_back (Some standing) roll new ≡ roll_of roll mid
      same e =
          ap (λ b. if b then option_map_or (λ n. returned x (stood (seat_of_roll roll) n (seats_before standing)) (names_of n (listed roll new))) (number_of_roll roll new) [] else roll_of roll new) e
          ∙ ap (λ (o : Option ℕ). option_map_or (λ n. returned x (stood (seat_of_roll roll) n (seats_before standing)) (names_of n (listed roll new))) o []) (numbers roll)
          ∙ by (number_of_roll roll mid) refl
        where
          is : table_of roll ≡ table
          is = same-table (table_of roll) table e

          by : (found : Option ℕ) → number_of_roll roll mid ≡ found
              → option_map_or (λ n. returned x (stood (seat_of_roll roll) n (seats_before standing)) (names_of n (listed roll new))) found [] ≡ option_map_or (λ n. names_of n (listed roll mid)) found []
          by None none = refl
          by (Some n) found =
              let had = kept.numbered.own roll n found in
              let inside : n < length (seated_in table mid).rolls = subst (λ (t : Table). n < length (seated_in t mid).rolls) is had.0 in
              let seat : seat_of n (seated_in table mid).rolls ≡ seat_of_roll roll = ap (λ (t : Table). seat_of n (seated_in t mid).rolls) (sym is) ∙ had.1 in
              ap (λ (t : Table). returned x (stood (seat_of_roll roll) n (seats_before standing)) (names_of n (seated_in t new).rolls)) is
              ∙ ap (λ (s : Seats). returned x (stood (seat_of_roll roll) n s) (names_of n (seated_in table new).rolls)) before-seats
              ∙ ap (λ k. returned x (stood k n seats) (names_of n (seated_in table new).rolls)) (sym seat)
              ∙ ap (λ (names : List (List ℕ)). returned x (stood (seat_of n (seated_in table mid).rolls) n seats) names) (settled.names n inside)
              ∙ returned-name (names_in table before) (seated_in table mid) x seated apart n inside (eqb (roll_in (seat_of n (seated_in table mid).rolls) settled.now) n)
              ∙ ap (λ (t : Table). names_of n (seated_in t mid).rolls) (sym is)

      other : same_table (table_of roll) table ≡ false → roll_back (Some standing) roll new ≡ roll_of roll mid
      other e =
          ap (λ b. if b then option_map_or (λ n. returned x (stood (seat_of_roll roll) n (seats_before standing)) (names_of n (listed roll new))) (number_of_roll roll new) [] else roll_of roll new) e
          ∙ ap (λ (o : Option ℕ). option_map_or (λ n. names_of n (listed roll new)) o []) (numbers roll)
          ∙ ap (λ (s : Seated). option_map_or (λ n. names_of n s.rolls) (number_of_roll roll mid) []) (settled.elsewhere (table_of roll) e)

  -- its seats tell the rolls of which it was a member
  goes-own : (roll : Roll) (n : ℕ) → same_table (table_of roll) table ≡ true → number_of_roll roll new ≡ Some n
      → is_some (stood (seat_of_roll roll) n (seats_before standing)) ≡ is_member roll x before
  goes-own roll n e found =
      let is = same-table (table_of roll) table e in
      let there : number_of_roll roll mid ≡ Some n = sym (numbers roll) ∙ found in
      let had = kept.numbered.own roll n there in
      let inside : n < length (seated_in table mid).rolls = subst (λ (t : Table). n < length (seated_in t mid).rolls) is had.0 in
      let seat : seat_of n (seated_in table mid).rolls ≡ seat_of_roll roll = ap (λ (t : Table). seat_of n (seated_in t mid).rolls) (sym is) ∙ had.1 in
      ap (λ (s : Seats). is_some (stood (seat_of_roll roll) n s)) before-seats
      ∙ tells (eqb (roll_in (seat_of_roll roll) seats) n) (place_in (seat_of_roll roll) seats)
      ∙ ap (λ k. eqb (roll_in k seats) n) (sym seat)
      ∙ sym (has-by-seat (names_in table before) (seated_in table mid) x seated apart n inside)
      ∙ ap (λ (t : Table). has x (names_of n (seated_in t mid).rolls)) (sym is)
      ∙ ap (λ (o : Option ℕ). has x (option_map_or (λ m. names_of m (listed roll mid)) o [])) (sym there)
      ∙ kept.members roll x
    where
      tells : (t : Bool) (place : ℕ) → is_some (if t then Some place else None) ≡ t
      tells true place = refl
      tells false place = refl

  goes-none : (roll : Roll) → number_of_roll roll new ≡ None → is_member roll x before ≡ false
  goes-none roll found =
      let there : number_of_roll roll mid ≡ None = sym (numbers roll) ∙ found in
      sym (kept.members roll x) ∙ ap (λ (o : Option ℕ). has x (option_map_or (λ m. names_of m (listed roll mid)) o [])) there

  -- where it stood, it was a member
  goes-stood : (seat : ℕ) → roll_in seat (seats_before standing) ≢ NOWHERE → IsOfRoll table (roll_in seat (seats_before standing)) new
  goes-stood seat some =
      subst (λ (s : Seats). IsOfRoll table (roll_in seat s) new) (sym before-seats)
      (let at = seated.there x seat (λ e. some (ap (roll_in seat) before-seats ∙ e)) in
      let was = kept.numbered.owned table (roll_in seat seats) x (has-at x (names_of (roll_in seat seats) (seated_in table mid).rolls) (place_in seat seats) at.within at.named) in
      record { roll = was.roll; of = was.of; numbered = numbers was.roll ∙ was.numbered })

  -- it can go back without memory
  goes-seats : (is_in table x before ≡ true → seats_now (names_in table before) (seated_in table new).seats x ≡ settled.now) → (seat : ℕ)
      → CanReturn (seated_in table new).rolls (seats_now (names_in table before) (seated_in table new).seats x) (seats_before standing) seat
  goes-seats is seat = by (is_in table x before) refl
    where
      by : (t : Bool) → is_in table x before ≡ t → CanReturn (seated_in table new).rolls (seats_now (names_in table before) (seated_in table new).seats x) (seats_before standing) seat
      by true there =
          subst (λ (s : Seats). CanReturn (seated_in table new).rolls s (seats_before standing) seat) (sym (is there))
          (subst (λ (s : Seats). CanReturn (seated_in table new).rolls settled.now s seat) (sym before-seats)
          (can-return (names_in table before) (seated_in table mid) x seated apart (seated_in table new).rolls settled.keeps settled.room settled.now settled.names seat))
      by false absent =
          subst (λ (s : Seats). CanReturn (seated_in table new).rolls (seats_now (names_in table before) (seated_in table new).seats x) s seat) (sym (before-seats ∙ seats-are absent))
          (record { target = inl (nowhere seat); room = λ some other. absurd (some (nowhere seat)) })

  -- all that the way back asks, but for the rows of the table
  pub can-go-back : ((other : Table) → same_table other table ≡ false → names_in other before ≡ names_in other after)
      → ((roll : Roll) (name : List ℕ) → ((same_table (table_of roll) table ≡ false) ⊎ (same_name x name ≡ false)) → is_member roll name before ≡ is_member roll name after)
      → GoesIn table standing before after new → (is_in table x before ≡ true → seats_now (names_in table before) (seated_in table new).seats x ≡ settled.now)
      → GoesBack standing before after new
  can-go-back elsewhere others row is = record {
    elsewhere = elsewhere;
    row = row;
    others = others;
    own = goes-own;
    none = λ roll same found. goes-none roll found;
    stood = goes-stood;
    seats = λ seat inside. goes-seats is seat;
  }
