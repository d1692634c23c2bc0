-- A balance sheet with what stood in it before a record put back (this project's own).
use Rattle.std.specs.Prelude.{◌≡◌}
use Rattle.scr_tables.specs.Pasts.{restored, HasPlace}
use Rattle.scr_sheet.specs.BalanceSheet.{group_name, position_name, liability_name, bank_name, rein_name, curve_name, stake_name}
use Rattle.scr_sheet.specs.declared.{sheet.BalanceSheet.BalanceSheet, edit.Edit.Edit, earlier.Earlier.Earlier}
use Rattle.scr_sheet.specs.Records.{applied}
use Rattle.scr_sheet.specs.declared.earlier.Earlier.TheVariants as earlier

-- the sheet with what stood in one of its tables, or with the single numbers as they were
abbrev pub with_earlier : Earlier → BalanceSheet → BalanceSheet
with_earlier (earlier.Groups past) sheet = record sheet { groups = restored group_name past sheet.groups }
with_earlier (earlier.Securities past) sheet = record sheet { securities = restored position_name past sheet.securities }
with_earlier (earlier.Funds past) sheet = record sheet { funds = restored stake_name past sheet.funds }
with_earlier (earlier.Liabilities past) sheet = record sheet { liabilities = restored liability_name past sheet.liabilities }
with_earlier (earlier.Banks past) sheet = record sheet { banks = restored bank_name past sheet.banks }
with_earlier (earlier.Reinsurers past) sheet = record sheet { reinsurers = restored rein_name past sheet.reinsurers }
with_earlier (earlier.Curves past) sheet = record sheet { curves = restored curve_name past sheet.curves }
with_earlier (earlier.Numbers numbers) sheet = record sheet { numbers = numbers }

-- what stood in a table has its place there
abbrev pub FitsIn : Earlier → BalanceSheet → Type 0
FitsIn (earlier.Groups past) sheet = HasPlace group_name past sheet.groups
FitsIn (earlier.Securities past) sheet = HasPlace position_name past sheet.securities
FitsIn (earlier.Funds past) sheet = HasPlace stake_name past sheet.funds
FitsIn (earlier.Liabilities past) sheet = HasPlace liability_name past sheet.liabilities
FitsIn (earlier.Banks past) sheet = HasPlace bank_name past sheet.banks
FitsIn (earlier.Reinsurers past) sheet = HasPlace rein_name past sheet.reinsurers
FitsIn (earlier.Curves past) sheet = HasPlace curve_name past sheet.curves
FitsIn (earlier.Numbers numbers) sheet = Unit {0}

-- it leads back from the sheet as the record leaves it
pub record LeadsBack (earlier : Earlier) (edit : Edit) (sheet : BalanceSheet) : Type 0 where
  pub back : with_earlier earlier (applied edit sheet) ≡ sheet
  pub fits : FitsIn earlier (applied edit sheet)
