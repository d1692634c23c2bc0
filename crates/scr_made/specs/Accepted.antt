-- Records that are applied one after another, none of them refused (this project's own).
use Rattle.std.specs.Prelude.{◌≡◌, List, [], ◌∷◌, None}
use Rattle.scr_sheet.specs.Faults.{fault_of}
use Rattle.scr_sheet.specs.Records.{applied}
use Rattle.scr_sheet.specs.declared.{edit.Edit.Edit, sheet.BalanceSheet.BalanceSheet}

-- the record has no fault on this sheet
unfoldable pub IsSound : Edit → BalanceSheet → Type 0
IsSound edit sheet = fault_of edit sheet ≡ None

-- each record has no fault on the sheet that the records before it leave
abbrev pub AreAccepted : List Edit → BalanceSheet → Type 0
AreAccepted [] sheet = Unit {0}
AreAccepted (edit ∷ edits) sheet = IsSound edit sheet × AreAccepted edits (applied edit sheet)

-- the sheet that the records leave
abbrev pub sheet_after : List Edit → BalanceSheet → BalanceSheet
sheet_after [] sheet = sheet
sheet_after (edit ∷ edits) sheet = sheet_after edits (applied edit sheet)
