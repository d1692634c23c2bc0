-- Payments in a currency of the balance sheet (this project's own).
use Rattle.std.specs.Prelude.{ℕ, ℤ, List}
use Rattle.scr_dates.specs.declared.day.Day.{Day}
use Rattle.scr_sheet.specs.declared.sheet.BalanceSheet.{BalanceSheet}
use Rattle.scr_nodes.specs.declared.node.Direction.{Direction}
use Rattle.scr_nodes.specs.Own.{Paid, Valued}
use Rattle.scr_nodes.specs.Rows.{rates_of}

abbrev pub paid_in : BalanceSheet → List ℕ → List (Day × ℤ) → Direction → Paid
paid_in sheet currency payments direction =
    record { asof = sheet.numbers.asof.number; payments = payments; rates = rates_of currency sheet; direction = direction }

abbrev pub valued_in : BalanceSheet → List ℕ → List (Day × ℤ) → Valued
valued_in sheet currency payments =
    record { asof = sheet.numbers.asof.number; payments = payments; rates = rates_of currency sheet }
