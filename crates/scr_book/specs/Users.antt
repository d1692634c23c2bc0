-- How often each name is used (this project's own), so that the drop of what nothing uses looks at no row.
use Rattle.std.specs.Prelude.{ℕ, ℤ, ◌+◌, List, [], Option, Some, None, sum_by}
use Rattle.std.specs.Option.{option_map_or}
use Rattle.scr_tables.specs.Tables.{row_of}
use Rattle.scr_counters.specs.Users.{Counts, Moves, uses_each, uses_one}
use Rattle.scr_sheet.specs.BalanceSheet.{position_name, stake_name, liability_name, bank_name, rein_name}
use Rattle.scr_sheet.specs.declared.edit.Edit.{Edit}
use Rattle.scr_sheet.specs.declared.edit.Edit.TheVariants as edits
use Rattle.scr_sheet.specs.declared.keys.Table.{Table}
use Rattle.scr_sheet.specs.declared.keys.Table.TheVariants as tables
use Rattle.scr_sheet.specs.declared.rows.Bank.{Bank}
use Rattle.scr_sheet.specs.declared.rows.Liability.{Liability}
use Rattle.scr_sheet.specs.declared.rows.Position.{Position}
use Rattle.scr_sheet.specs.declared.rows.Rein.{Rein}
use Rattle.scr_sheet.specs.declared.rows.Stake.{Stake}
use Rattle.scr_sheet.specs.declared.sheet.BalanceSheet.{BalanceSheet}
use Rattle.scr_book.specs.declared.users.Users.{Users}

-- ---- what a row uses

pub record Used : Type 0 where
  pub components : List (List ℕ × ℤ)
  pub group : Option (List ℕ)
  pub currency : Option (List ℕ)

abbrev pub no_uses : Used
no_uses = record { components = []; group = None; currency = None }

abbrev pub position_uses : Position → Used
position_uses position = record { components = []; group = position.security.group; currency = Some position.security.currency }

abbrev pub stake_uses : Stake → Used
stake_uses stake = record { components = stake.fund.components; group = None; currency = None }

abbrev pub liability_uses : Liability → Used
liability_uses liability = record { components = []; group = None; currency = Some liability.currency }

abbrev pub bank_uses : Bank → Used
bank_uses bank = record { components = []; group = Some bank.group; currency = None }

abbrev pub rein_uses : Rein → Used
rein_uses rein = record { components = []; group = Some rein.group; currency = None }

-- how often it uses a group, a security or a fund of this name, and a currency
abbrev pub of_name : List ℕ → Used → ℕ
of_name name used = uses_each used.components name + uses_one used.group name

abbrev pub of_currency : List ℕ → Used → ℕ
of_currency name used = uses_one used.currency name

-- ---- what all rows use

abbrev pub all_uses : (Used → ℕ) → BalanceSheet → ℕ
all_uses count sheet =
    sum_by (λ p. count (position_uses p)) sheet.securities
    + sum_by (λ s. count (stake_uses s)) sheet.funds
    + sum_by (λ l. count (liability_uses l)) sheet.liabilities
    + sum_by (λ b. count (bank_uses b)) sheet.banks
    + sum_by (λ r. count (rein_uses r)) sheet.reinsurers

-- where the tallies are not lost, each name and each currency is counted as often as a row uses it
pub record AreUsersOf (sheet : BalanceSheet) (users : Users) : Type 0 where
  pub names : Counts (λ name. all_uses (of_name name) sheet) users.names
  pub currencies : Counts (λ name. all_uses (of_currency name) sheet) users.currencies

-- what these rows use was counted, but for the rest of them
pub record HaveCounted {Row : Type 0} (uses_of : Row → Used) (rest rows : List Row) (before now : Users) : Type 0 where
  pub names : Moves (λ name. sum_by (λ row. of_name name (uses_of row)) rest) (λ name. sum_by (λ row. of_name name (uses_of row)) rows) before.names now.names
  pub currencies : Moves (λ name. sum_by (λ row. of_currency name (uses_of row)) rest) (λ name. sum_by (λ row. of_currency name (uses_of row)) rows) before.currencies now.currencies

-- ---- what a record exchanges

-- what the row of this name uses, nothing where there is none
abbrev pub kept_uses : {Row : Type 0} → (Row → List ℕ) → (Row → Used) → List ℕ → List Row → Used
kept_uses name_of uses_of name rows = option_map_or uses_of (row_of name_of name rows) no_uses

abbrev pub used_in : Table → List ℕ → BalanceSheet → Used
used_in tables.Security name sheet = kept_uses position_name position_uses name sheet.securities
used_in tables.Fund name sheet = kept_uses stake_name stake_uses name sheet.funds
used_in tables.Liability name sheet = kept_uses liability_name liability_uses name sheet.liabilities
used_in tables.Bank name sheet = kept_uses bank_name bank_uses name sheet.banks
used_in tables.Rein name sheet = kept_uses rein_name rein_uses name sheet.reinsurers
used_in table name sheet = no_uses

-- what the row uses that the record replaces or drops, and the one that it makes
abbrev pub used_before : Edit → BalanceSheet → Used
used_before (edits.Security name class group currency duration) sheet = used_in tables.Security name sheet
used_before (edits.Fund name components) sheet = used_in tables.Fund name sheet
used_before (edits.Liability name kind currency) sheet = used_in tables.Liability name sheet
used_before (edits.Bank name group cents) sheet = used_in tables.Bank name sheet
used_before (edits.Rein name group recoverables mitigation collateral) sheet = used_in tables.Rein name sheet
used_before (edits.Remove table name) sheet = used_in table name sheet
used_before edit sheet = no_uses

abbrev pub used_after : Edit → Used
used_after (edits.Security name class group currency duration) = record { components = []; group = group; currency = Some currency }
used_after (edits.Fund name components) = record { components = components; group = None; currency = None }
used_after (edits.Liability name kind currency) = record { components = []; group = None; currency = Some currency }
used_after (edits.Bank name group cents) = record { components = []; group = Some group; currency = None }
used_after (edits.Rein name group recoverables mitigation collateral) = record { components = []; group = Some group; currency = None }
used_after edit = no_uses
