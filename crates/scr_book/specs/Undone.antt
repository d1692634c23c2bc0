-- A record taken back (this project's own).
use Rattle.std.specs.Prelude.{ℕ, List}
use Rattle.scr_sheet.specs.Earlier.{with_earlier, FitsIn}
use Rattle.scr_sheet.specs.Validity.{Valid}
use Rattle.scr_sheet.specs.declared.sheet.BalanceSheet.{BalanceSheet}
use Rattle.scr_book.specs.RolledSheets.{RolledSheet}
use Rattle.scr_sheet.specs.declared.roll.Roll.{Roll}
use Rattle.scr_book.specs.Rolls.{CanGoBack, roll_back}
use Rattle.scr_book.specs.Sums.{AreSumsOf}
use Rattle.scr_book.specs.declared.undo.Before.{Before}
use Rattle.scr_book.specs.declared.undo.Undo.{Undo}

-- the sheet with what the record changed put back
abbrev pub sheet_before : Before → BalanceSheet → BalanceSheet
sheet_before before sheet = with_earlier before.earlier sheet

abbrev pub back : Undo → BalanceSheet → BalanceSheet
back undo sheet = sheet_before undo.before sheet

-- The sheet is valid with this put back and has its sums, and has the place for it without memory.
pub record FitsSheet (before : Before) (sheet : BalanceSheet) : Type 0 where
  pub valid : Valid (sheet_before before sheet)
  pub sums : AreSumsOf (sheet_before before sheet) before.sums
  pub place : FitsIn before.earlier sheet

-- a member list with the row of the record where it stood
abbrev pub returned_by : Undo → Roll → RolledSheet → List (List ℕ)
returned_by undo roll book = roll_back undo.standing roll book.rolls

-- So it is of the book's sheet, and the row can go back to where it stood in the member lists.
pub record Fits (undo : Undo) (book : RolledSheet) : Type 0 where
  pub sheet : FitsSheet undo.before book.sheet
  pub rolls : CanGoBack undo.standing (back undo book.sheet) book.sheet book.rolls
