-- The place of a name in a roll, as the seats of its row say it.
use Rattle.std.proofs.Common.{◌≡◌, ℕ, ◌<◌, Bool, true, false, List, [], length, eqb, Option, Some, None, is_some, position, refl, sym, ap, subst, ◌∙◌}
use Rattle.std.specs.Prelude.{if◌then◌else◌}
use Rattle.std.specs.List.{IsDistinct}
use Rattle.std.specs.Option.{option_map_or}
use Rattle.std.proofs.lemmas.List.Quantifiers.{position-Some}
use Rattle.std.proofs.lemmas.Option.{same_Some}
use Rattle.scr_tables.specs.Names.{same_name}
use Rattle.scr_tables.proofs.TableRows.{same_name-is}
use Rattle.scr_member_lists.specs.Members.{has, name_at}
use Rattle.scr_member_lists.specs.Seatings.{AreSeated, Seated, names_of, place_in, roll_in, seat_of, seats_of, stood}
use Rattle.scr_member_lists.proofs.Settled.{has-position}
use Rattle.scr_tables.specs.Tables.{row_of}
use Rattle.scr_sheet.specs.BalanceSheet.{is_in, liability_name, position_of, stake_of}
use Rattle.scr_sheet.specs.Members.{has_liability, has_security, is_closed, is_member, is_member_in, table_of}
use Rattle.scr_sheet.specs.Validity.{Valid}
use Rattle.scr_sheet.specs.declared.{sheet.BalanceSheet.BalanceSheet, keys.Table.Table, roll.Roll.Roll}
use Rattle.scr_sheet.specs.declared.keys.Table.TheVariants as tables
use Rattle.scr_book.specs.Places.{names_in}
use Rattle.scr_book.specs.Rolls.{AreRollsOf, KeptRolls, listed, number_of_roll, roll_of, same_table, seat_of_roll, seated_in}
use Rattle.scr_book.proofs.RollLaws.{has-by-seat}
use Rattle.scr_book.proofs.RollSettled.{own-table}
use Rattle.scr_book.proofs.RollSteps.{seated-in}
use Rattle.scr_book.proofs.RollsStill.{once-in}

-- a name stands in a roll where its seats say, and nowhere else
pub place-by-seat : (names : List (List ℕ)) (seated : Seated) (x : List ℕ) → AreSeated names seated → IsDistinct same_name names → (n : ℕ) → n < length seated.rolls
    → stood (seat_of n seated.rolls) n (seats_of names seated.seats x) ≡ position (same_name x) (names_of n seated.rolls)
place-by-seat names seated x h apart n inside = by (position (same_name x) roll) refl
  where
    roll : List (List ℕ)
    roll = names_of n seated.rolls

    told : has x roll ≡ eqb (roll_in (seat_of n seated.rolls) (seats_of names seated.seats x)) n
    told = has-by-seat names seated x h apart n inside

    told-as : (t : Bool) → has x roll ≡ t
        → stood (seat_of n seated.rolls) n (seats_of names seated.seats x) ≡ (if t then Some (place_in (seat_of n seated.rolls) (seats_of names seated.seats x)) else None)
    told-as t e = ap (λ b. if b then Some (place_in (seat_of n seated.rolls) (seats_of names seated.seats x)) else None) (sym told ∙ e)

    by : (found : Option ℕ) → position (same_name x) roll ≡ found → stood (seat_of n seated.rolls) n (seats_of names seated.seats x) ≡ position (same_name x) roll
    by None none = told-as false (sym (has-position (same_name x) roll) ∙ ap is_some none) ∙ sym none
    by (Some q) found =
        let at = position-Some (same_name x) roll q [] found in
        let named : name_at q roll ≡ x = sym (same_name-is x (name_at q roll) at.1) in
        let place : place_in (seat_of n seated.rolls) (seats_of names seated.seats x) ≡ q =
        subst (λ (y : List ℕ). place_in (seat_of n seated.rolls) (seats_of names seated.seats y) ≡ q) named (h.placed n q at.0) in
        told-as true (sym (has-position (same_name x) roll) ∙ ap is_some found) ∙ ap (λ p. Some p) place ∙ sym found

-- one that is no member has no place
no-place : (x : List ℕ) (roll : List (List ℕ)) → has x roll ≡ false → None ≡ position (same_name x) roll
no-place x roll out = by (position (same_name x) roll) (has-position (same_name x) roll ∙ out)
  where
    by : (found : Option ℕ) → is_some found ≡ false → None ≡ found
    by None e = refl
    by (Some q) e = absurd (cc)

no-row : {A : Type 0} (test : A → Bool) (row : Option A) → is_some row ≡ false → option_map_or test row false ≡ false
no-row test None e = refl
no-row test (Some row) e = absurd (cc)

module _ (sheet : BalanceSheet) (kept : KeptRolls) (valid : Valid sheet) (rolls : AreRollsOf sheet kept) (roll : Roll) (name : List ℕ) where
  named : (n : ℕ) → number_of_roll roll kept ≡ Some n → roll_of roll kept ≡ names_of n (listed roll kept)
  named n e = ap (λ found. option_map_or (λ m. names_of m (listed roll kept)) found []) e

  -- where the row of the name has seats, these say its place
  pub place-there : (n : ℕ) → number_of_roll roll kept ≡ Some n
      → stood (seat_of_roll roll) n (seats_of (names_in (table_of roll) sheet) (seated_in (table_of roll) kept).seats name)
      ≡ position (same_name name) (roll_of roll kept)
  place-there n e =
      ap (λ s. stood s n (seats_of (names_in (table_of roll) sheet) (seated_in (table_of roll) kept).seats name)) (sym (rolls.numbered.own roll n e).1)
      ∙ place-by-seat (names_in (table_of roll) sheet) (seated_in (table_of roll) kept) name
      (seated-in (table_of roll) sheet kept (own-table roll) (rolls.seated (table_of roll))) (once-in (table_of roll) sheet valid (own-table roll)) n
      (rolls.numbered.own roll n e).0
      ∙ ap (position (same_name name)) (sym (named n e))

  -- a roll without a number has no member, and a name without a row is none
  pub place-unnumbered : number_of_roll roll kept ≡ None → None ≡ position (same_name name) (roll_of roll kept)
  place-unnumbered e = ap (position (same_name name)) (sym (ap (λ found. option_map_or (λ m. names_of m (listed roll kept)) found []) e))

  pub place-absent : is_in (table_of roll) name sheet ≡ false → None ≡ position (same_name name) (roll_of roll kept)
  place-absent out = no-place name (roll_of roll kept) (rolls.members roll name ∙ not-member)
    where
      not-member : is_member roll name sheet ≡ false
      not-member = by (table_of roll) (own-table roll) out
        where
          by : (table : Table) → same_table table table ≡ true → is_in table name sheet ≡ false → is_member_in table roll name sheet ≡ false
          by tables.Security own e = no-row (has_security roll) (position_of name sheet.securities) e
          by tables.Fund own e = no-row is_closed (stake_of name sheet.funds) e
          by tables.Liability own e = no-row (has_liability roll) (row_of liability_name name sheet.liabilities) e
          by tables.Group own e = e
          by tables.Bank own e = refl
          by tables.Rein own e = refl
          by tables.Curve own e = refl

-- what an option by a test tells of the test
pub some-if : {A : Type 0} (t : Bool) (x y : A) → (if t then Some x else None) ≡ Some y → x ≡ y
some-if true x y e = same_Some x y e
some-if false x y e = absurd (cc)

pub none-if : {A : Type 0} (t : Bool) (x : A) → (if t then Some x else None) ≡ None → t ≡ false
none-if true x e = absurd (cc)
none-if false x e = refl
