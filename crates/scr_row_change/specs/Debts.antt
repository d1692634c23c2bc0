-- What banks and reinsurers owe, in one form (this project's own).
use Rattle.std.specs.Prelude.{ℕ, ◌==◌, ◌&&◌, Bool, List, Option}
use Rattle.std.specs.Option.{option_map}
use Rattle.scr_tables.specs.Names.{same_name}
use Rattle.scr_sheet.specs.declared.rows.Bank.{Bank}
use Rattle.scr_sheet.specs.declared.rows.Rein.{Rein}
use Rattle.scr_row_change.specs.declared.debts.Debt.{Debt}

abbrev pub debt_of_bank : Bank → Debt
debt_of_bank bank = record { group = bank.group; owed = bank.cents; mitigation = 0; collateral = 0 }

abbrev pub debt_of_rein : Rein → Debt
debt_of_rein reinsurer =
    record {
      group = reinsurer.group;
      owed = reinsurer.recoverables;
      mitigation = reinsurer.mitigation;
      collateral = reinsurer.collateral;
    }

abbrev pub bank_debt : Option Bank → Option Debt
bank_debt bank = option_map debt_of_bank bank

abbrev pub rein_debt : Option Rein → Option Debt
rein_debt reinsurer = option_map debt_of_rein reinsurer

-- who owes it is of the group
abbrev pub is_owed_by : List ℕ → Debt → Bool
is_owed_by group debt = same_name group debt.group

abbrev pub same_debt : Debt → Debt → Bool
same_debt a b = (a.owed == b.owed) && ((a.mitigation == b.mitigation) && (a.collateral == b.collateral))
