-- The seats of the row of a record before and after the record (own).
use Rattle.std.specs.Prelude.{ℕ, List, Option, Some, None, if◌then◌else◌}
use Rattle.std.specs.Option.{option_and_then, option_map}
use Rattle.scr_ids.specs.Ranges.{Numbered as Ranges}
use Rattle.scr_member_lists.specs.Seatings.{free, seats_of}
use Rattle.scr_member_lists.specs.declared.seats.Seats.{Seats}
use Rattle.scr_sheet.specs.BalanceSheet.{is_in}
use Rattle.scr_sheet.specs.Members.{edit_name}
use Rattle.scr_sheet.specs.declared.{edit.Edit.Edit, keys.Table.Table}
use Rattle.scr_book.specs.Places.{names_in}
use Rattle.scr_book.specs.RolledSheets.{RolledSheet}
use Rattle.scr_book.specs.Rolls.{moves_in, seated_in}
use Rattle.scr_member_index.specs.Lists.{first_of}
use Rattle.scr_member_index.specs.declared.standing.Move.{Move}
use Rattle.scr_member_index.specs.declared.standing.Stood.{Stood}

-- The seats of the row of a name; free ones if there is no such row (own).
abbrev pub seats_in : Table → List ℕ → RolledSheet → Seats
seats_in table name book =
    if is_in table name book.sheet then seats_of (names_in table book.sheet) (seated_in table book.rolls).seats name else free

-- The first id of the row of a name; `None` if there is no such row (own).
abbrev pub first_in : Table → List ℕ → RolledSheet → Ranges → Option ℕ
first_in table name book places = if is_in table name book.sheet then Some (first_of book.sheet places table name) else None

-- Table, name, seats and first id of the row that a record is about; `None` if rows of its kind are in no list (own).
abbrev pub stood_of : Edit → RolledSheet → Ranges → Option Stood
stood_of edit book places = option_map (λ (table : Table). record {
  table = table;
  name = edit_name edit;
  seats = seats_in table (edit_name edit) book;
  first = first_in table (edit_name edit) book places;
}) (moves_in edit)

-- The row's move from its seats `stood` to its present ones (own). Its first id is the present one, or the old one if the row is
-- gone; `None` if it has neither.
abbrev pub moved_from : RolledSheet → Ranges → Stood → Option Move
moved_from book places stood = option_map (λ (first : ℕ). record {
  table = stood.table;
  before = stood.seats;
  after = seats_in stood.table stood.name book;
  first = first;
}) (if is_in stood.table stood.name book.sheet then first_in stood.table stood.name book places else stood.first)

-- The move of the row that was kept before the record; `None` if none was kept, or the row neither was nor is there (own).
abbrev pub move_of : Option Stood → RolledSheet → Ranges → Option Move
move_of stood book places = option_and_then (moved_from book places) stood
