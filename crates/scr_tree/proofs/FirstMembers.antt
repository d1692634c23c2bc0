-- The first member of a list tells which list it is.
use Rattle.std.proofs.Common.{◌≡◌, ◌≢◌, ◌⊎◌, inl, inr, ℕ, ◌+◌, ◌*◌, ◌<◌, ◌≤◌, true, List, [], ◌∷◌, Option, Some, None, length, map, slice_get, refl, sym, ap, ◌∙◌, arith}
use Rattle.std.specs.Prelude.{if◌then◌else◌, nat_lt}
use Rattle.std.specs.List.{position_or_len}
use Rattle.std.specs.Option.{option_map_or}
use Rattle.std.proofs.lemmas.Bool.{cases_lt}
use Rattle.std.proofs.lemmas.List.{get_or_past}
use Rattle.std.proofs.lemmas.Option.{same_Some}
use Rattle.scr_tables.specs.Names.{same_name}
use Rattle.scr_tables.proofs.TableRows.{same_name-itself}
use Rattle.scr_ids.specs.Ranges.{IsApart, IsAt, Numbered as Ranges, count, stride}
use Rattle.scr_ids.specs.declared.table.Table.{Table as Ranged}
use Rattle.scr_member_lists.specs.Members.{has, name_at}
use Rattle.scr_member_lists.specs.Seatings.{AreSeated, NOWHERE, Seated, StandsAt, free, names_of, place_in, roll_in, seat_at, seat_of, seats_of}
use Rattle.scr_member_lists.proofs.SeatLists.{name-there}
use Rattle.scr_member_lists.proofs.SeatMoves.{nowhere}
use Rattle.scr_sheet.specs.Members.{is_member, table_of}
use Rattle.scr_sheet.specs.declared.{keys.Table.Table, roll.Roll.Roll, sheet.BalanceSheet.BalanceSheet}
use Rattle.scr_sheet.specs.declared.keys.Table.TheVariants as tables
use Rattle.scr_sheet.specs.declared.roll.Roll.TheVariants as rolls
use Rattle.scr_book.specs.Places.{names_in}
use Rattle.scr_book.specs.RolledSheets.{RolledSheet}
use Rattle.scr_book.specs.Rolls.{listed, roll_of, same_table, seat_of_roll, seated_in}
use Rattle.scr_book.proofs.RollGrowth.{names-past}
use Rattle.scr_book.proofs.RollSettled.{own-table}
use Rattle.scr_book.proofs.RollSteps.{seated-in}
use Rattle.scr_figure_ids.specs.Numbers.{is_of_sheet, names_in as rows_in}
use Rattle.scr_sum_slots.specs.Firsts.{firsts_in}
use Rattle.scr_member_index.specs.Lists.{first_of, firsts_at, list_in, ranges_of, table_place}
use Rattle.scr_member_index.specs.declared.lists.Lists.{Lists}
use Rattle.scr_block_graph.specs.BlockNumbers.{list_number, sole, table_place as block_table_place}
use Rattle.scr_tree.specs.Points.{AreNumbersOf}
use Rattle.scr_tree.specs.Reading.{IsRollAt, IsRollOf}
use Rattle.scr_tree.proofs.RollSeats.{sole-number}

-- ---- lists of all tables by number

place-same : (table : Table) → block_table_place table ≡ table_place table
place-same tables.Security = refl
place-same tables.Liability = refl
place-same tables.Fund = refl
place-same tables.Group = refl
place-same tables.Bank = refl
place-same tables.Rein = refl
place-same tables.Curve = refl

place-few : (table : Table) → table_place table < 4
place-few tables.Security = omega arith
place-few tables.Liability = omega arith
place-few tables.Fund = omega arith
place-few tables.Group = omega arith
place-few tables.Bank = omega arith
place-few tables.Rein = omega arith
place-few tables.Curve = omega arith

pub list-same : (roll : Roll) (number : ℕ) → list_number roll number ≡ list_in (table_of roll) number
list-same roll number = ap (λ n. 4 * number + n) (place-same (table_of roll))

abbrev table-at : ℕ → Table
table-at n = if nat_lt n 1 then tables.Security else (if nat_lt n 2 then tables.Liability else (if nat_lt n 3 then tables.Fund else tables.Group))

table-back : (table : Table) → same_table table table ≡ true → table-at (table_place table) ≡ table
table-back tables.Security has = refl
table-back tables.Liability has = refl
table-back tables.Fund has = refl
table-back tables.Group has = refl
table-back tables.Bank has = absurd (cc)
table-back tables.Rein has = absurd (cc)
table-back tables.Curve has = absurd (cc)

-- the bonds have one list with their class
pub sole-list : (roll : Roll) (number : ℕ) → list_number (sole roll) number ≡ list_number roll number
sole-list (rolls.Class class) number = refl
sole-list rolls.Closed number = refl
sole-list rolls.Bonds number = refl
sole-list rolls.Grouped number = refl
sole-list (rolls.Group group) number = refl
sole-list (rolls.Assets currency) number = refl
sole-list (rolls.Flows currency) number = refl
sole-list (rolls.Lines currency) number = refl
sole-list (rolls.Losses kind projection) number = refl
sole-list rolls.Groups number = refl

-- the list of a roll is one of its table
pub record IsListOf (roll : Roll) (n : ℕ) (table : Table) (number : ℕ) : Type 0 where
  pub table_is : table_of roll ≡ table
  pub number_is : n ≡ number

pub one-list : (roll : Roll) (table : Table) → same_table table table ≡ true → (n number : ℕ) → list_number roll n ≡ list_in table number
    → IsListOf roll n table number
one-list roll table has n number e =
    let is : list_in (table_of roll) n ≡ list_in table number = sym (list-same roll n) ∙ e in
    let low = place-few (table_of roll) in
    let low_2 = place-few table in
    let same : table_place (table_of roll) ≡ table_place table = omega (arith, is, low, low_2) in
    record {
      table_is = sym (table-back (table_of roll) (own-table roll)) ∙ ap table-at same ∙ table-back table has;
      number_is = omega (arith, is, same);
    }

-- ---- rows and their ranges

rows-same : (sheet : BalanceSheet) (table : Table) → same_table table table ≡ true → rows_in sheet (ranges_of table) ≡ names_in table sheet
rows-same sheet tables.Security has = refl
rows-same sheet tables.Liability has = refl
rows-same sheet tables.Fund has = refl
rows-same sheet tables.Group has = refl
rows-same sheet tables.Bank has = absurd (cc)
rows-same sheet tables.Rein has = absurd (cc)
rows-same sheet tables.Curve has = absurd (cc)

rows-of-sheet : (table : Table) → is_of_sheet (ranges_of table) ≡ true
rows-of-sheet tables.Security = refl
rows-of-sheet tables.Liability = refl
rows-of-sheet tables.Fund = refl
rows-of-sheet tables.Group = refl
rows-of-sheet tables.Bank = refl
rows-of-sheet tables.Rein = refl
rows-of-sheet tables.Curve = refl

some-stride : (table : Table) → 0 < stride (ranges_of table)
some-stride tables.Security = omega arith
some-stride tables.Liability = omega arith
some-stride tables.Fund = omega arith
some-stride tables.Group = omega arith
some-stride tables.Bank = omega arith
some-stride tables.Rein = omega arith
some-stride tables.Curve = omega arith

-- ---- lists of names and of numbers beside them

module _ (f : List ℕ → ℕ) where
  first-of-map : (xs : List (List ℕ)) (n : ℕ) → slice_get (map f xs) 0 ≡ Some n → (0 < length xs) × (f (name_at 0 xs) ≡ n)
  first-of-map [] n e = absurd (cc)
  first-of-map (x ∷ xs) n e = (omega arith, same_Some (f x) n e)

  none-of-map : (xs : List (List ℕ)) → slice_get (map f xs) 0 ≡ None → xs ≡ []
  none-of-map [] e = refl
  none-of-map (x ∷ xs) e = absurd (cc)

first-has : (xs : List (List ℕ)) → 0 < length xs → has (name_at 0 xs) xs ≡ true
first-has [] some = absurd (omega (arith, some))
first-has (x ∷ xs) some = let own = same_name-itself x in grind (arith, own)

-- ---- the list of a number of a table

module _ (book : RolledSheet) (places : Ranges) (lists : Lists) (are : AreNumbersOf book places lists) (table : Table) (has_lists : same_table table table ≡ true)
    (number : ℕ) where
  abbrev names : List (List ℕ)
  names = names_in table book.sheet

  abbrev seated : Seated
  seated = seated_in table book.rolls

  abbrev members : List (List ℕ)
  members = names_of number seated.rolls

  are-seated : AreSeated names seated
  are-seated = seated-in table book.sheet book.rolls has_lists (are.rolls.seated table)

  beside : firsts_in number (firsts_at table lists) ≡ map (first_of book.sheet places table) members
  beside = are.lists_of.firsts table has_lists number

  -- the roll whose list it is has its members
  roll-members : (list : ℕ) → list_in table number ≡ list → (roll : Roll) → IsRollOf book.rolls list roll → roll_of roll book.rolls ≡ members
  roll-members list is roll of =
      let one = one-list roll table has_lists of.number number (of.is ∙ sym is) in
      ap (λ found. option_map_or (λ n. names_of n (listed roll book.rolls)) found []) of.numbered
      ∙ ap (λ t. names_of of.number (seated_in t book.rolls).rolls) one.table_is
      ∙ ap (λ n. names_of n seated.rolls) one.number_is

  -- none where nothing stands beside it
  pub empty-roll : slice_get (firsts_in number (firsts_at table lists)) 0 ≡ None → (list : ℕ) → list_in table number ≡ list
      → (roll : Roll) → IsRollOf book.rolls list roll → roll_of roll book.rolls ≡ []
  empty-roll none list is roll of =
      roll-members list is roll of
      ∙ none-of-map (first_of book.sheet places table) members (ap (λ ns. slice_get ns 0) (sym beside) ∙ none)

  module _ (apart : IsApart places) (beside_first : ℕ) (at : slice_get (firsts_in number (firsts_at table lists)) 0 ≡ Some beside_first) where
    abbrev name : List ℕ
    name = name_at 0 members

    abbrev place : ℕ
    place = position_or_len (same_name name) names

    abbrev seat : ℕ
    seat = seat_of number seated.rolls

    head : (0 < length members) × (first_of book.sheet places table name ≡ beside_first)
    head = first-of-map (first_of book.sheet places table) members beside_first (ap (λ ns. slice_get ns 0) (sym beside) ∙ at)

    stands : roll_in seat (seats_of names seated.seats name) ≡ number
    stands = are-seated.rolled number 0 head.0

    pub real : number ≢ NOWHERE
    real e =
        let few = are-seated.few in
        let none : length members ≡ 0 = ap length (names-past number seated.rolls (omega (arith, few, e))) in
        let some = head.0 in
        omega (arith, some, none)

    there : place < length names
    there = by (cases_lt place (length names))
      where
        by : (place < length names) ⊎ (length names ≤ place) → place < length names
        by (inl within) = within
        by (inr past) =
            let long = are-seated.beside in
            let none : seats_of names seated.seats name ≡ free = get_or_past seated.seats place free (omega (arith, past, long)) in
            absurd (real (sym stands ∙ ap (roll_in seat) none ∙ nowhere seat))

    own-row : IsAt places (ranges_of table) place 0 beside_first
    own-row =
        let counted : count places (ranges_of table) ≡ length names =
        are.numbered.rows (ranges_of table) (rows-of-sheet table) ∙ ap length (rows-same book.sheet table has_lists) in
        record { row = omega (arith, there, counted); family = some-stride table; is = omega (arith, head.1) }

    -- its first member has a row
    pub no-row : ((t : Ranged) (k j : ℕ) → IsAt places t k j beside_first → ⊥) → ⊥
    no-row none = none (ranges_of table) place 0 own-row

    module _ (t : Ranged) (row family : ℕ) (told : IsAt places t row family beside_first) where
      row-is : row ≡ place
      row-is = (apart beside_first t row family (ranges_of table) place 0 told own-row).rows

      pub row-within : row < length names
      row-within = omega (arith, there, row-is)

      row-seats : seats_of names seated.seats name ≡ seat_at row seated.seats
      row-seats = ap (λ k. seat_at k seated.seats) (sym row-is)

      -- and the row stands in the list
      pub no-seat : ((s : ℕ) → s < 11 → roll_in s (seat_at row seated.seats) ≢ number) → ⊥
      no-seat none = none seat (are-seated.seats number) (ap (roll_in seat) (sym row-seats) ∙ stands)

      -- in the seat in which the roll has its members
      pub row-roll : (s : ℕ) → roll_in s (seat_at row seated.seats) ≡ number → (list : ℕ) → list_in table number ≡ list
          → (roll : Roll) → IsRollOf book.rolls list roll → IsRollAt table row s book.sheet roll
      row-roll s taken list is roll of = record { table_is = one.table_is; seat_is = seat_is; member = member }
        where
          one : IsListOf roll of.number table number
          one = one-list roll table has_lists of.number number (of.is ∙ sym is)

          own : roll_in s (seats_of names seated.seats name) ≡ number
          own = ap (roll_in s) row-seats ∙ taken

          standing : StandsAt seated.rolls name s (roll_in s (seats_of names seated.seats name)) (place_in s (seats_of names seated.seats name))
          standing = are-seated.there name s (λ none. real (sym own ∙ none))

          seat_is : seat_of_roll roll ≡ s
          seat_is =
              sym (are.rolls.numbered.own roll of.number of.numbered).1
              ∙ ap (λ t. seat_of of.number (seated_in t book.rolls).rolls) one.table_is
              ∙ ap (λ n. seat_of n seated.rolls) (one.number_is ∙ sym own) ∙ standing.own

          member : is_member roll (name_at row names) book.sheet ≡ true
          member =
              ap (λ x. is_member roll x book.sheet) (name-there names name row (sym row-is) row-within)
              ∙ sym (are.rolls.members roll name) ∙ ap (has name) (roll-members list is roll of) ∙ first-has members head.0

      -- so that it tells the roll, whose list is no other's
      pub roll-told : (s : ℕ) → roll_in s (seat_at row seated.seats) ≡ number → (list : ℕ) → list_in table number ≡ list → (told : Option Roll)
          → ((roll : Roll) → IsRollAt table row s book.sheet roll → told ≡ Some (sole roll))
          → (roll : Roll) × (told ≡ Some roll) × IsRollOf book.rolls list roll
      roll-told s taken list is told by =
          let owner = are.rolls.numbered.owned table number name (first-has members head.0) in
          let of : IsRollOf book.rolls list owner.roll = record {
            number = number;
            numbered = owner.numbered;
            is = list-same owner.roll number ∙ ap (λ t. list_in t number) owner.of ∙ is;
          } in (
            sole owner.roll,
            by owner.roll (row-roll s taken list is owner.roll of),
            record {
              number = number;
              numbered = sole-number book.rolls owner.roll ∙ owner.numbered;
              is = sole-list owner.roll number ∙ of.is;
            },
          )
