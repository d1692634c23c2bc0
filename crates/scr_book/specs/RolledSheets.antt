-- What contracts see of a book (this project's own): its balance sheet, and the member lists of the large sums.
use Rattle.std.specs.Prelude.{◌≡◌, ◌≢◌, ℕ, ◌==◌, Bool, true, List, Some}
use Rattle.scr_member_lists.specs.Members.{has, moved}
use Rattle.scr_member_lists.specs.Seatings.{NOWHERE, names_of, roll_in, seat_of, seats_of}
use Rattle.scr_member_lists.specs.declared.seating.Numbered.{Numbered}
use Rattle.scr_sheet.specs.Members.{edit_name}
use Rattle.scr_sheet.specs.declared.edit.Edit.{Edit}
use Rattle.scr_sheet.specs.declared.keys.Table.{Table}
use Rattle.scr_sheet.specs.declared.sheet.BalanceSheet.{BalanceSheet}
use Rattle.scr_book.specs.Places.{names_in}
use Rattle.scr_book.specs.Rolls.{AreMoved, AreSame, KeptRolls, moves_in, seated_in}

pub record RolledSheet : Type 0 where
  pub sheet : BalanceSheet
  pub rolls : KeptRolls

-- each list is what the record makes of it, and each is as it was
abbrev pub AreRolled : Edit → RolledSheet → RolledSheet → Type 0
AreRolled edit old new = AreMoved edit old.sheet old.rolls new.rolls

abbrev pub AreStill : RolledSheet → RolledSheet → Type 0
AreStill old new = AreSame old.rolls new.rolls

-- ---- lists by their numbers, whether a roll has a number or none has it yet

-- all lists of a table
abbrev pub numbered_in : Table → RolledSheet → List Numbered
numbered_in table book = (seated_in table book.rolls).rolls

-- in the list of this number the row of a name stands, by its seats
abbrev pub stands_on : Table → List ℕ → ℕ → RolledSheet → Bool
stands_on table name number book =
    roll_in (seat_of number (numbered_in table book)) (seats_of (names_in table book.sheet) (seated_in table book.rolls).seats name) == number

-- a list in which somebody stood has its members in the same seat
abbrev pub KeepsSeatsTaken : RolledSheet → RolledSheet → Type 0
KeepsSeatsTaken old new = (table : Table) (number : ℕ) (name : List ℕ) → has name (names_of number (numbered_in table old)) ≡ true
    → seat_of number (numbered_in table new) ≡ seat_of number (numbered_in table old)

-- in the record's table its row comes to a list, leaves it or does neither, as its seats say, and in other tables nobody does
pub record AreListsMoved (edit : Edit) (old new : RolledSheet) : Type 0 where
  pub own : (table : Table) → moves_in edit ≡ Some table → (number : ℕ) → number ≢ NOWHERE
      → names_of number (numbered_in table new)
      ≡ moved (edit_name edit) (has (edit_name edit) (names_of number (numbered_in table old))) (stands_on table (edit_name edit) number new)
      (names_of number (numbered_in table old))
  pub elsewhere : (table : Table) → (moves_in edit ≡ Some table → ⊥) → (number : ℕ)
      → names_of number (numbered_in table new) ≡ names_of number (numbered_in table old)
  pub seats : KeepsSeatsTaken old new

-- nobody comes or leaves
pub record AreListsStill (old new : RolledSheet) : Type 0 where
  pub names : (table : Table) (number : ℕ) → names_of number (numbered_in table new) ≡ names_of number (numbered_in table old)
  pub seats : KeepsSeatsTaken old new
