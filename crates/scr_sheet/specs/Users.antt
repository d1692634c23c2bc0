-- What uses a row that a record would drop, or a liability whose kind it would change (this project's own).
use Rattle.std.specs.Prelude.{ℕ, ◌++◌, ◌==◌, Bool, List, Option, Some, None, if◌then◌else◌, map, filter}
use Rattle.std.specs.List.{list_any}
use Rattle.std.specs.Option.{option_or, option_map, option_map_or}
use Rattle.scr_tables.specs.Names.{same_name, first_in_order}
use Rattle.scr_tables.specs.Tables.{row_of}
use Rattle.scr_sheet.specs.BalanceSheet.{position_name, liability_name, bank_name, rein_name, curve_name, stake_name, held_of}
use Rattle.scr_sheet.specs.Members.{is_of_group}
use Rattle.scr_sheet.specs.declared.{sheet.BalanceSheet.BalanceSheet, fault.User.User, keys.Table.Table, rows.Stake.Stake}
use Rattle.scr_sheet.specs.declared.fault.User.TheVariants as users
use Rattle.scr_sheet.specs.declared.keys.AbsorbKey.TheVariants as absorb
use Rattle.scr_sheet.specs.declared.keys.Table.TheVariants as tables

-- the names of the securities, banks and reinsurers of a group
abbrev pub names_of_group : List ℕ → BalanceSheet → List (List ℕ)
names_of_group name sheet =
    map position_name (filter (is_of_group name) sheet.securities)
    ++ map bank_name (filter (λ b. same_name name b.group) sheet.banks)
    ++ map rein_name (filter (λ r. same_name name r.group) sheet.reinsurers)

-- the names of the securities and liabilities in a currency
abbrev pub names_in_currency : List ℕ → BalanceSheet → List (List ℕ)
names_in_currency currency sheet =
    map position_name (filter (λ p. same_name currency p.security.currency) sheet.securities)
    ++ map liability_name (filter (λ l. same_name currency l.currency) sheet.liabilities)

-- a fund has this component
abbrev pub has_component : List ℕ → Stake → Bool
has_component name stake = list_any (λ c. same_name name c.0) stake.fund.components

-- the names of the funds that have the security or fund of this name as a component
abbrev pub names_of_holders : List ℕ → BalanceSheet → List (List ℕ)
names_of_holders name sheet = map stake_name (filter (has_component name) sheet.funds)

-- the first of the names in byte order
abbrev pub first_row : List (List ℕ) → Option User
first_row names = option_map (λ name. users.Row name) (first_in_order names)

-- some cents, told as this user
abbrev pub unless_none : ℕ → User → Option User
unless_none cents user = if cents == 0 then None else Some user

-- the absorptions of a currency that are not 0, in the order of their keys: the key `down` comes before `up`
abbrev pub absorption_of : List ℕ → BalanceSheet → Option User
absorption_of currency sheet =
    let curve = row_of curve_name currency sheet.curves in
    option_or (unless_none (option_map_or (λ c. c.absorb_down) curve 0) (users.Absorb (absorb.CurrencyDown currency)))
    (unless_none (option_map_or (λ c. c.absorb_up) curve 0) (users.Absorb (absorb.CurrencyUp currency)))

-- what uses a security or a fund: a hold, and then a fund
abbrev pub holder_of : List ℕ → BalanceSheet → Option User
holder_of name sheet = option_or (unless_none (held_of sheet name) users.Hold) (first_row (names_of_holders name sheet))

-- The user that is told, if there is one: the reporting currency, then a hold, then an absorption, then the rows in
-- the byte order of their names.
abbrev pub user_of : Table → List ℕ → BalanceSheet → Option User
user_of tables.Group name sheet = first_row (names_of_group name sheet)
user_of tables.Security name sheet = holder_of name sheet
user_of tables.Fund name sheet = holder_of name sheet
user_of tables.Curve name sheet =
    option_or (if same_name name sheet.numbers.currency then Some users.Asof else None)
    (option_or (absorption_of name sheet) (first_row (names_in_currency name sheet)))
user_of table name sheet = None
