-- What is held of each security, directly and through funds, in cents: the look-through approach (Article 84 of Delegated
-- Regulation (EU) 2015/35).
use Rattle.std.specs.Prelude.{ℕ, List, map}
use Rattle.scr_sheet.specs.declared.sheet.BalanceSheet.{BalanceSheet}
use Rattle.scr_sheet.specs.Totals.{total_of}
use Rattle.scr_sheet.specs.declared.rows.Position.{Position}

abbrev pub amount_of : BalanceSheet → Position → ℕ
amount_of sheet position = total_of sheet position.security.name

-- the same of all securities in their order
abbrev pub amounts_of : BalanceSheet → List ℕ
amounts_of sheet = map (amount_of sheet) sheet.securities
