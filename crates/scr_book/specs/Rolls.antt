-- The member lists that a book keeps beside its rows (this project's own): which number each roll has among those of its table, the
-- members of each, how a record moves them, and how one that is taken back moves them again.
use Rattle.std.specs.Prelude.{◌≡◌, ◌≢◌, ◌⊎◌, ℕ, ◌+◌, ◌<◌, ◌≤◌, ◌==◌, ◌++◌, ◌∷◌, Bool, false, true, List, [], Option, Some, None, is_some, length, map, not, slice_index_or, slice_set, if◌then◌else◌}
use Rattle.std.specs.Option.{option_map, option_map_or}
use Rattle.scr_tables.specs.Names.{same_name}
use Rattle.scr_tables.specs.Tables.{has_row, row_of, without}
use Rattle.scr_member_lists.specs.Members.{has, moved, name_at, returned}
use Rattle.scr_member_lists.specs.Owned.{Owned, number_of}
use Rattle.scr_member_lists.specs.Seatings.{NOWHERE, AreSeated, AwaitsSeats, CanReturn, Grows, IsFor, KeepsRoom, KeepsSeats, RegainsSeats, Seated, free, names_of, roll_in, room_of, seat_at, seat_of, seats_now, seats_of, stood, target}
use Rattle.scr_member_lists.specs.declared.seating.Numbered.{Numbered}
use Rattle.scr_member_lists.specs.declared.seats.Seats.{Seats}
use Rattle.scr_sheet.specs.BalanceSheet.{group_name, is_in, liability_name, position_name, position_of, stake_name}
use Rattle.scr_sheet.specs.CashFlows.{all_projections}
use Rattle.scr_sheet.specs.Members.{edit_name, has_flows, is_member, is_paying, table_of}
use Rattle.scr_sheet.specs.Records.{applied}
use Rattle.scr_sheet.specs.Validity.{Valid}
use Rattle.scr_sheet.specs.declared.{sheet.BalanceSheet.BalanceSheet, edit.Edit.Edit, keys.Table.Table, roll.Roll.Roll, rows.Class.Class, rows.Liability.Liability, rows.LiabilityKind.LiabilityKind, rows.Position.Position}
use Rattle.scr_sheet.specs.declared.edit.Edit.TheVariants as edits
use Rattle.scr_sheet.specs.declared.keys.Table.TheVariants as tables
use Rattle.scr_sheet.specs.declared.roll.Roll.TheVariants as rolls
use Rattle.scr_sheet.specs.declared.rows.Class.TheVariants as classes
use Rattle.scr_sheet.specs.declared.rows.LiabilityKind.TheVariants as kinds
use Rattle.scr_book.specs.Places.{names_in}
use Rattle.scr_book.specs.Sums.{place_of}
use Rattle.scr_book.specs.declared.rolls.Rolls.{Rolls}
use Rattle.scr_book.specs.declared.rolls.Aim.{Aim}
use Rattle.scr_book.specs.declared.rolls.Aim.TheVariants as aims
use Rattle.scr_book.specs.declared.rolls.Standing.{Standing}

-- the rolls of a book, by the table of their members
abbrev pub KeptRolls : Type 0
KeptRolls = Rolls

-- ---- which roll is which

-- the rolls of a table's rows, with the seats of the rows; banks, reinsurers and curves are members of none
abbrev pub nobody : Seated
nobody = record { rolls = []; seats = []; room = 0 }

abbrev pub seated_in : Table → KeptRolls → Seated
seated_in tables.Security kept = kept.securities
seated_in tables.Fund kept = kept.funds
seated_in tables.Liability kept = kept.liabilities
seated_in tables.Group kept = kept.groups
seated_in table kept = nobody

-- the number of the roll of a class, and of the first of a kind of liabilities, which has ten, one for each projection
abbrev pub class_number : Class → ℕ
class_number classes.Type1Equity = 0
class_number classes.Type1Strategic = 1
class_number classes.Type2Equity = 2
class_number classes.Type2Strategic = 3
class_number classes.Infrastructure = 4
class_number classes.InfrastructureCorporate = 5
class_number classes.Property = 6
class_number classes.Bond = 7
class_number classes.Government = 8
class_number classes.Other = 9

abbrev pub kind_number : LiabilityKind → ℕ
kind_number kinds.Life = 0
kind_number kinds.Health = 10
kind_number kinds.Other = 20

-- the seat in which its members have a roll: no row is in two rolls of one seat
abbrev pub seat_of_roll : Roll → ℕ
seat_of_roll (rolls.Class class) = 0
seat_of_roll rolls.Closed = 0
seat_of_roll rolls.Bonds = 0
seat_of_roll rolls.Grouped = 1
seat_of_roll (rolls.Group group) = 2
seat_of_roll (rolls.Assets currency) = 3
seat_of_roll (rolls.Flows currency) = 4
seat_of_roll (rolls.Lines currency) = 10
seat_of_roll (rolls.Losses kind projection) = place_of projection
seat_of_roll rolls.Groups = 0

-- the number of a roll among those of its table. The bonds are those of a class; a roll of a group or of a currency has a number
-- from its first member on.
abbrev pub number_of_roll : Roll → KeptRolls → Option ℕ
number_of_roll (rolls.Class class) kept = Some (class_number class)
number_of_roll rolls.Closed kept = Some 0
number_of_roll rolls.Bonds kept = Some (class_number classes.Bond)
number_of_roll rolls.Grouped kept = Some 10
number_of_roll (rolls.Group group) kept = number_of group kept.of_groups
number_of_roll (rolls.Assets currency) kept = number_of currency kept.of_assets
number_of_roll (rolls.Flows currency) kept = option_map (λ n. n + 1) (number_of currency kept.of_assets)
number_of_roll (rolls.Lines currency) kept = number_of currency kept.of_lines
number_of_roll (rolls.Losses kind projection) kept = Some (kind_number kind + place_of projection)
number_of_roll rolls.Groups kept = Some 0

-- all rolls of the table of the roll's members, by number
abbrev pub listed : Roll → KeptRolls → List Numbered
listed roll kept = (seated_in (table_of roll) kept).rolls

-- the members of a roll in the order of their places
abbrev pub roll_of : Roll → KeptRolls → List (List ℕ)
roll_of roll kept = option_map_or (λ n. names_of n (listed roll kept)) (number_of_roll roll kept) []

-- ---- what a record does to them

-- the roll as the record leaves it: the row of the record comes to it, leaves it or does neither, and no other row does
abbrev pub rolled : Edit → BalanceSheet → Roll → List (List ℕ) → List (List ℕ)
rolled edit sheet roll names =
    moved (edit_name edit) (is_member roll (edit_name edit) sheet) (is_member roll (edit_name edit) (applied edit sheet)) names

-- each roll is as the record leaves it, and each is as before
abbrev pub AreMoved : Edit → BalanceSheet → (old new : KeptRolls) → Type 0
AreMoved edit sheet old new = (roll : Roll) → roll_of roll new ≡ rolled edit sheet roll (roll_of roll old)

abbrev pub AreSame : (old new : KeptRolls) → Type 0
AreSame old new = (roll : Roll) → roll_of roll new ≡ roll_of roll old

-- a roll that has a number keeps it
abbrev pub KeepsNumbers : (old new : KeptRolls) → Type 0
KeepsNumbers old new = (roll : Roll) (number : ℕ) → number_of_roll roll old ≡ Some number → number_of_roll roll new ≡ Some number

-- ---- rolls that are those of a sheet

-- this number, among those of a table, is that of a roll
pub record IsOfRoll (table : Table) (number : ℕ) (kept : KeptRolls) : Type 0 where
  pub roll : Roll
  pub of : table_of roll ≡ table
  pub numbered : number_of_roll roll kept ≡ Some number

-- each number is that of a roll for the seat, nobody stands in a list that is no roll's, and no two groups and no two currencies have one
-- number
pub record AreNumbered (kept : KeptRolls) : Type 0 where
  pub own : (roll : Roll) (number : ℕ) → number_of_roll roll kept ≡ Some number
      → (number < length (listed roll kept)) × (seat_of number (listed roll kept) ≡ seat_of_roll roll)
  pub owned : (table : Table) (number : ℕ) (name : List ℕ) → has name (names_of number (seated_in table kept).rolls) ≡ true → IsOfRoll table number kept
  pub groups : (one two : List ℕ) (number : ℕ) → number_of one kept.of_groups ≡ Some number → number_of two kept.of_groups ≡ Some number → one ≡ two
  pub assets : (one two : List ℕ) (number : ℕ) → number_of one kept.of_assets ≡ Some number → number_of two kept.of_assets ≡ Some number → one ≡ two
  pub lines : (one two : List ℕ) (number : ℕ) → number_of one kept.of_lines ≡ Some number → number_of two kept.of_lines ≡ Some number → one ≡ two

-- the seats are those of the table's rows
abbrev pub HaveSeats : Table → BalanceSheet → KeptRolls → Type 0
HaveSeats tables.Security sheet kept = AreSeated (names_in tables.Security sheet) kept.securities
HaveSeats tables.Fund sheet kept = AreSeated (names_in tables.Fund sheet) kept.funds
HaveSeats tables.Liability sheet kept = AreSeated (names_in tables.Liability sheet) kept.liabilities
HaveSeats tables.Group sheet kept = AreSeated (names_in tables.Group sheet) kept.groups
HaveSeats table sheet kept = Unit {0}

-- each roll has exactly the members that the sheet has
pub record AreRollsOf (sheet : BalanceSheet) (kept : KeptRolls) : Type 0 where
  pub numbered : AreNumbered kept
  pub seated : (table : Table) → HaveSeats table sheet kept
  pub members : (roll : Roll) (name : List ℕ) → has name (roll_of roll kept) ≡ is_member roll name sheet

-- ---- between a record and its rolls

abbrev pub AwaitSeats : Table → List ℕ → BalanceSheet → KeptRolls → Type 0
AwaitSeats tables.Security name sheet kept = AwaitsSeats position_name name sheet.securities kept.securities
AwaitSeats tables.Fund name sheet kept = AwaitsSeats stake_name name sheet.funds kept.funds
AwaitSeats tables.Liability name sheet kept = AwaitsSeats liability_name name sheet.liabilities kept.liabilities
AwaitSeats tables.Group name sheet kept = AwaitsSeats group_name name sheet.groups kept.groups
AwaitSeats table name sheet kept = Unit {0}

-- two tables that have rolls are one
abbrev pub same_table : Table → Table → Bool
same_table tables.Security tables.Security = true
same_table tables.Fund tables.Fund = true
same_table tables.Liability tables.Liability = true
same_table tables.Group tables.Group = true
same_table one two = false

-- The rolls of a table in which the row of a name is to stand, seat by seat, are those of which it is a member in the sheet. All other
-- rows are members of the rolls in which they stand.
pub record IsKnown (table : Table) (name : List ℕ) (aim : ℕ → ℕ) (sheet : BalanceSheet) (kept : KeptRolls) : Type 0 where
  pub numbered : AreNumbered kept
  pub elsewhere : (other : Table) → same_table other table ≡ false → HaveSeats other sheet kept
  pub own : (roll : Roll) (number : ℕ) → same_table (table_of roll) table ≡ true → number_of_roll roll kept ≡ Some number
      → (aim (seat_of_roll roll) == number) ≡ is_member roll name sheet
  pub none : (roll : Roll) → same_table (table_of roll) table ≡ true → number_of_roll roll kept ≡ None → is_member roll name sheet ≡ false
  pub aimed : (seat : ℕ) → aim seat ≢ NOWHERE → IsOfRoll table (aim seat) kept
  pub others : (roll : Roll) (other : List ℕ) → ((same_table (table_of roll) table ≡ false) ⊎ (same_name name other ≡ false))
      → has other (roll_of roll kept) ≡ is_member roll other sheet

-- The sheet has the row, and there is room in each roll in which it is to stand and does not.
pub record IsAwaited (table : Table) (name : List ℕ) (aim : ℕ → ℕ) (sheet : BalanceSheet) (kept : KeptRolls) : Type 0 where
  pub known : IsKnown table name aim sheet kept
  pub seated : AwaitSeats table name sheet kept
  pub there : is_in table name sheet ≡ true
  pub fits : (seat : ℕ) → seat < 11 → IsFor (seated_in table kept).rolls seat (aim seat)
  pub room : (seat : ℕ) → aim seat ≢ NOWHERE
      → aim seat ≢ roll_in seat (seats_of (names_in table sheet) (seated_in table kept).seats name)
      → 0 < room_of (aim seat) (seated_in table kept).rolls

-- the same for a row whose payments alone have changed: it is at this place, and stands as before in all seats but one
pub record IsPlaced (table : Table) (place seat number : ℕ) (sheet : BalanceSheet) (kept : KeptRolls) : Type 0 where
  pub within : place < length (names_in table sheet)
  pub seated : HaveSeats table sheet kept
  pub few : seat < 11
  pub awaited : IsAwaited table (name_at place (names_in table sheet))
      (λ s. if seat == s then number else roll_in s (seat_at place (seated_in table kept).seats)) sheet kept

-- the number of the roll of a group, nowhere where there is none
abbrev pub GroupNumber : Option (List ℕ) → ℕ → KeptRolls → Type 0
GroupNumber None number kept = number ≡ NOWHERE
GroupNumber (Some group) number kept = number_of group kept.of_groups ≡ Some number

-- the rolls of a security by seat: of its class, of all with a group, of its group, of its currency, and with payments
abbrev pub security_rolls : List ℕ → Option Position → List ℕ
security_rolls numbers position = if option_map_or is_paying position false then numbers else slice_set numbers 4 NOWHERE

-- those of a liability: of its kind under each projection with payments, and of its currency
abbrev pub liability_rolls : (lines losses : ℕ) → Option Liability → List ℕ
liability_rolls lines losses liability =
    map (λ projection. if option_map_or (has_flows projection) liability false then losses + place_of projection else NOWHERE) all_projections
    ++ lines ∷ []

abbrev pub Await : Aim → BalanceSheet → KeptRolls → Type 0
Await aims.Still sheet kept = AreRollsOf sheet kept
Await (aims.Security name numbers) sheet kept = IsAwaited tables.Security name
    (λ seat. target seat (security_rolls numbers (position_of name sheet.securities))) sheet kept × (length numbers ≡ 5)
Await (aims.Payments place number) sheet kept = IsPlaced tables.Security place 4 number sheet kept
Await (aims.Fund name number) sheet kept = IsAwaited tables.Fund name (λ seat. target seat (number ∷ [])) sheet kept
Await (aims.Group name) sheet kept = IsAwaited tables.Group name (λ seat. target seat (0 ∷ [])) sheet kept
Await (aims.Liability name lines losses) sheet kept = IsAwaited tables.Liability name
    (λ seat. target seat (liability_rolls lines losses (row_of liability_name name sheet.liabilities))) sheet kept × (losses ≤ 20)
Await (aims.Projected place seat number) sheet kept = IsPlaced tables.Liability place seat number sheet kept

-- the name of the row that an aim is for
abbrev pub aim_name : Aim → BalanceSheet → List ℕ
aim_name aims.Still sheet = []
aim_name (aims.Security name numbers) sheet = name
aim_name (aims.Payments place number) sheet = name_at place (names_in tables.Security sheet)
aim_name (aims.Fund name number) sheet = name
aim_name (aims.Group name) sheet = name
aim_name (aims.Liability name lines losses) sheet = name
aim_name (aims.Projected place seat number) sheet = name_at place (names_in tables.Liability sheet)

-- no roll has lost its number, its members or its room, and no row its seats
pub record AreReady (first now : KeptRolls) : Type 0 where
  pub rolls : AreSame first now
  pub numbers : KeepsNumbers first now
  pub seats : (table : Table) → (seated_in table now).seats ≡ (seated_in table first).seats

-- a number that an owner is given is the first of new rolls, one for each of these seats
pub record IsNew (owner : List ℕ) (seats : List ℕ) (old new : Seated) (name : List ℕ) (number : ℕ) : Type 0 where
  pub named : name ≡ owner
  pub past : length old.rolls ≤ number
  pub within : (k : ℕ) → k < length seats → (number + k < length new.rolls) × (seat_of (number + k) new.rolls ≡ slice_index_or seats k 0)

-- an owner may be given a number, and no other is
pub record GivesNumber (owner : List ℕ) (seats : List ℕ) (old new : Seated) (was now : Owned) : Type 0 where
  pub grows : Grows old new
  pub kept : (name : List ℕ) (number : ℕ) → number_of name was ≡ Some number → number_of name now ≡ Some number
  pub given : (name : List ℕ) (number : ℕ) → number_of name now ≡ Some number → (number_of name was ≡ Some number) ⊎ IsNew owner seats old new name number

-- the rolls are those of the sheet still, and nothing has moved
pub record AreKept (sheet : BalanceSheet) (old new : KeptRolls) : Type 0 where
  pub kept : AreRollsOf sheet new
  pub ready : AreReady old new

-- the row of a name has these seats now, in the rolls of its table at which it aims, and all else is as before
pub record IsSettled (table : Table) (name : List ℕ) (aim : ℕ → ℕ) (sheet : BalanceSheet) (old new : KeptRolls) : Type 0 where
  pub elsewhere : (other : Table) → same_table other table ≡ false → seated_in other new ≡ seated_in other old
  pub of_groups : new.of_groups ≡ old.of_groups
  pub of_assets : new.of_assets ≡ old.of_assets
  pub of_lines : new.of_lines ≡ old.of_lines
  pub seated : HaveSeats table sheet new
  pub keeps : KeepsSeats (seated_in table old).rolls (seated_in table new).rolls
  pub room : KeepsRoom (seated_in table old).rolls (seated_in table new).rolls
  pub now : Seats
  pub held : seats_of (names_in table sheet) (seated_in table new).seats name ≡ now
  pub stands : (roll : Roll) → table_of roll ≡ table → roll_in (seat_of_roll roll) now ≡ aim (seat_of_roll roll)
  pub own : (seat : ℕ) → roll_in seat now ≢ NOWHERE
      → (roll_in seat now ≡ aim seat) ⊎ (has name (names_of (roll_in seat now) (seated_in table old).rolls) ≡ true)
  pub names : (number : ℕ) → number < length (seated_in table old).rolls → names_of number (seated_in table new).rolls
      ≡ moved name (has name (names_of number (seated_in table old).rolls))
      (roll_in (seat_of number (seated_in table old).rolls) now == number) (names_of number (seated_in table old).rolls)

-- ---- a record that is taken back

-- the table in whose rolls the row of a record may move
abbrev pub moves_in : Edit → Option Table
moves_in (edits.Group name kind step) = Some tables.Group
moves_in (edits.Security name class group currency duration) = Some tables.Security
moves_in (edits.Flows security flows) = Some tables.Security
moves_in (edits.Fund name components) = Some tables.Fund
moves_in (edits.Liability name kind currency) = Some tables.Liability
moves_in (edits.LiabilityFlows liability projection flows) = Some tables.Liability
moves_in (edits.Remove table name) = if same_table table table then Some table else None
moves_in edit = None

-- where the row of a name stands in a table, if there is one
abbrev pub stands_in : Table → List ℕ → BalanceSheet → KeptRolls → Standing
stands_in table name sheet kept = record {
  table = table;
  name = name;
  seats = if is_in table name sheet then Some (seats_of (names_in table sheet) (seated_in table kept).seats name) else None;
}

-- where the row of a record stands
abbrev pub standing_of : Edit → BalanceSheet → KeptRolls → Option Standing
standing_of edit sheet kept = option_map (λ (table : Table). stands_in table (edit_name edit) sheet kept) (moves_in edit)

-- the seats of a row that stood there, free where none did
abbrev pub seats_before : Standing → Seats
seats_before standing = option_map_or (λ (seats : Seats). seats) standing.seats free

-- the roll with the row where it stood
abbrev pub roll_back : Option Standing → Roll → KeptRolls → List (List ℕ)
roll_back None roll kept = roll_of roll kept
roll_back (Some standing) roll kept =
    if same_table (table_of roll) standing.table
    then option_map_or (λ n. returned standing.name (stood (seat_of_roll roll) n (seats_before standing)) (names_of n (listed roll kept)))
    (number_of_roll roll kept) []
    else roll_of roll kept

-- the rows of a table without the one that was made, or with the one that was there, which has its seats or will have them
abbrev pub Goes : {Row : Type 0} → (Row → List ℕ) → Option Seats → List ℕ → (goal rows : List Row) → Seated → Type 0
Goes name_of None name goal rows seated = goal ≡ without name_of name rows
Goes name_of (Some seats) name goal rows seated =
    (AreSeated (map name_of rows) seated → RegainsSeats name_of name goal seated) × (has_row name_of name goal ≡ true)

abbrev pub GoesIn : Table → Standing → (goal sheet : BalanceSheet) → KeptRolls → Type 0
GoesIn tables.Security standing goal sheet kept = Goes position_name standing.seats standing.name goal.securities sheet.securities kept.securities
GoesIn tables.Fund standing goal sheet kept = Goes stake_name standing.seats standing.name goal.funds sheet.funds kept.funds
GoesIn tables.Liability standing goal sheet kept = Goes liability_name standing.seats standing.name goal.liabilities sheet.liabilities kept.liabilities
GoesIn tables.Group standing goal sheet kept = Goes group_name standing.seats standing.name goal.groups sheet.groups kept.groups
GoesIn table standing goal sheet kept = ⊥

-- The row can stand again where it stood without memory, and then the rolls are those of the goal. Rows of other names are members of
-- the rolls of both sheets.
pub record GoesBack (standing : Standing) (goal sheet : BalanceSheet) (kept : KeptRolls) : Type 0 where
  pub elsewhere : (table : Table) → same_table table standing.table ≡ false → names_in table goal ≡ names_in table sheet
  pub row : GoesIn standing.table standing goal sheet kept
  pub others : (roll : Roll) (name : List ℕ) → ((same_table (table_of roll) standing.table ≡ false) ⊎ (same_name standing.name name ≡ false))
      → is_member roll name goal ≡ is_member roll name sheet
  pub own : (roll : Roll) (number : ℕ) → same_table (table_of roll) standing.table ≡ true → number_of_roll roll kept ≡ Some number
      → is_some (stood (seat_of_roll roll) number (seats_before standing)) ≡ is_member roll standing.name goal
  pub none : (roll : Roll) → same_table (table_of roll) standing.table ≡ true → number_of_roll roll kept ≡ None → is_member roll standing.name goal ≡ false
  pub stood : (seat : ℕ) → roll_in seat (seats_before standing) ≢ NOWHERE → IsOfRoll standing.table (roll_in seat (seats_before standing)) kept
  pub seats : (seat : ℕ) → seat < 11 → CanReturn (seated_in standing.table kept).rolls
      (seats_now (names_in standing.table goal) (seated_in standing.table kept).seats standing.name) (seats_before standing) seat

-- the sheets have the same names, each a member of the same rolls
pub record AreAlike (one two : BalanceSheet) : Type 0 where
  pub names : (table : Table) → same_table table table ≡ true → names_in table one ≡ names_in table two
  pub members : (roll : Roll) (name : List ℕ) → is_member roll name one ≡ is_member roll name two

abbrev pub CanGoBack : Option Standing → (goal sheet : BalanceSheet) → KeptRolls → Type 0
CanGoBack None goal sheet kept = AreAlike goal sheet
CanGoBack (Some standing) goal sheet kept = GoesBack standing goal sheet kept

-- ---- what a record owes before the sheet takes it

-- the table of the row that an aim is for
abbrev pub aim_table : Aim → Table
aim_table aims.Still = tables.Curve
aim_table (aims.Security name numbers) = tables.Security
aim_table (aims.Payments place number) = tables.Security
aim_table (aims.Fund name number) = tables.Fund
aim_table (aims.Group name) = tables.Group
aim_table (aims.Liability name lines losses) = tables.Liability
aim_table (aims.Projected place seat number) = tables.Liability

-- the rolls, before the record is taken, are ready for its row, or all that it moves is moved
pub record IsAimed (edit : Edit) (sheet : BalanceSheet) (aim : Aim) (first now : KeptRolls) : Type 0 where
  pub kept : AreRollsOf sheet now
  pub ready : AreReady first now
  pub name : aim_name aim (applied edit sheet) ≡ edit_name edit
  pub table : moves_in edit ≡ Some (aim_table aim)

-- all that the record moves has moved, and can go back
pub record IsDone (edit : Edit) (sheet : BalanceSheet) (first now : KeptRolls) : Type 0 where
  pub moved : AreMoved edit sheet first now
  pub numbers : KeepsNumbers first now
  pub back : CanGoBack (standing_of edit sheet first) sheet (applied edit sheet) now
  pub returns : (roll : Roll) → roll_back (standing_of edit sheet first) roll now ≡ roll_of roll first

abbrev pub IsReady : Edit → BalanceSheet → Aim → (first now : KeptRolls) → Type 0
IsReady edit sheet aims.Still first now = IsDone edit sheet first now
IsReady edit sheet aim first now = IsAimed edit sheet aim first now

-- what the rolls owe a record before it is taken
pub record IsPrepared (edit : Edit) (sheet : BalanceSheet) (aim : Aim) (first now : KeptRolls) : Type 0 where
  pub awaits : Await aim (applied edit sheet) now
  pub ready : IsReady edit sheet aim first now

-- the sheet has the record, and its row stands where it is to stand
pub record IsTaken (sheet : BalanceSheet) (aim : Aim) (old new : KeptRolls) : Type 0 where
  pub rolls : AreRollsOf sheet new
  pub moved : (edit : Edit) (before : BalanceSheet) (first : KeptRolls) → sheet ≡ applied edit before → IsReady edit before aim first old → AreMoved edit before first new
  pub numbers : (edit : Edit) (before : BalanceSheet) (first : KeptRolls) → IsReady edit before aim first old → KeepsNumbers first new
  pub back : (edit : Edit) (before : BalanceSheet) (first : KeptRolls) → Valid before → sheet ≡ applied edit before → IsReady edit before aim first old
      → CanGoBack (standing_of edit before first) before sheet new
  pub returns : (edit : Edit) (before : BalanceSheet) (first : KeptRolls) → Valid before → sheet ≡ applied edit before → IsReady edit before aim first old
      → (roll : Roll) → roll_back (standing_of edit before first) roll new ≡ roll_of roll first

-- ---- on the way back

-- the row stood nowhere, so that one that was made goes out of its rolls before it goes out of the sheet
abbrev pub stood_nowhere : Option Standing → Bool
stood_nowhere None = true
stood_nowhere (Some standing) = not (is_some standing.seats)

-- the row of a name stands again where it stood in the rolls of its table, and all else is as before
pub record IsRegained (table : Table) (name : List ℕ) (before : Seats) (goal : BalanceSheet) (old new : KeptRolls) : Type 0 where
  pub elsewhere : (other : Table) → same_table other table ≡ false → seated_in other new ≡ seated_in other old
  pub of_groups : new.of_groups ≡ old.of_groups
  pub of_assets : new.of_assets ≡ old.of_assets
  pub of_lines : new.of_lines ≡ old.of_lines
  pub seated : HaveSeats table goal new
  pub keeps : KeepsSeats (seated_in table old).rolls (seated_in table new).rolls
  pub names : (number : ℕ) → number < length (seated_in table old).rolls → names_of number (seated_in table new).rolls
      ≡ returned name (stood (seat_of number (seated_in table old).rolls) number before) (names_of number (seated_in table old).rolls)

-- the row of a name that the table has again, with or without its seats, can stand where seats that were kept say, without memory
pub record Regains {Row : Type 0} (name_of : Row → List ℕ) (name : List ℕ) (before : Seats) (rows : List Row) (seated : Seated) : Type 0 where
  pub has : RegainsSeats name_of name rows seated
  pub there : has_row name_of name rows ≡ true
  pub seats : (seat : ℕ) → seat < 11 → CanReturn seated.rolls (seats_now (map name_of rows) seated.seats name) before seat

abbrev pub CanRegain : Table → List ℕ → Seats → BalanceSheet → KeptRolls → Type 0
CanRegain tables.Security name before sheet kept = Regains position_name name before sheet.securities kept.securities
CanRegain tables.Fund name before sheet kept = Regains stake_name name before sheet.funds kept.funds
CanRegain tables.Liability name before sheet kept = Regains liability_name name before sheet.liabilities kept.liabilities
CanRegain tables.Group name before sheet kept = Regains group_name name before sheet.groups kept.groups
CanRegain table name before sheet kept = ⊥

-- one that stood there goes back to its rolls once the sheet has it again
pub record Returns (standing : Option Standing) (goal : BalanceSheet) (first now : KeptRolls) : Type 0 where
  pub still : now ≡ first
  pub sheet : BalanceSheet
  pub kept : AreRollsOf sheet now
  pub goes : CanGoBack standing goal sheet now

pub record HaveReturned (standing : Option Standing) (goal : BalanceSheet) (first now : KeptRolls) : Type 0 where
  pub kept : AreRollsOf goal now
  pub rolls : (roll : Roll) → roll_of roll now ≡ roll_back standing roll first

abbrev pub IsReturningBy : Bool → Option Standing → (goal : BalanceSheet) → (first now : KeptRolls) → Type 0
IsReturningBy true standing goal first now = HaveReturned standing goal first now
IsReturningBy false standing goal first now = Returns standing goal first now

abbrev pub IsReturning : Option Standing → (goal : BalanceSheet) → (first now : KeptRolls) → Type 0
IsReturning standing goal first now = IsReturningBy (stood_nowhere standing) standing goal first now
