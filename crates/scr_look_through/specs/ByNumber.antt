-- The funds and the securities of a balance sheet by numbers (this project's own): the funds come first, in their order, and
-- the securities after them.
use Rattle.std.specs.Prelude.{ℕ, ℤ, suc, List, [], ◌∷◌, ◌++◌, map, if◌then◌else◌}
use Rattle.scr_funds.specs.LookThrough.{Weighted}
use Rattle.scr_tables.specs.Names.{same_name}
use Rattle.scr_sheet.specs.BalanceSheet.{stake_name, position_name}
use Rattle.scr_sheet.specs.declared.sheet.BalanceSheet.{BalanceSheet}
use Rattle.scr_sheet.specs.Records.{natural}
use Rattle.scr_sheet.specs.declared.rows.Stake.{Stake}

-- the names in the order of the numbers
abbrev pub names_by_number : BalanceSheet → List (List ℕ)
names_by_number sheet = map stake_name sheet.funds ++ map position_name sheet.securities

-- the place of a name, the first one where it has several
abbrev pub place_among : List (List ℕ) → List ℕ → ℕ
place_among [] name = 0
place_among (n ∷ names) name = if same_name name n then 0 else suc (place_among names name)

abbrev pub number_of : BalanceSheet → List ℕ → ℕ
number_of sheet name = place_among (names_by_number sheet) name

-- a component and its weight, and so all of a fund's
abbrev pub component_by_number : BalanceSheet → List ℕ × ℤ → ℕ × ℕ
component_by_number sheet component = (number_of sheet component.0, natural component.1)

abbrev pub row_by_number : BalanceSheet → Stake → Weighted ℕ
row_by_number sheet stake = map (component_by_number sheet) stake.fund.components

abbrev pub rows_by_number : BalanceSheet → List (Weighted ℕ)
rows_by_number sheet = map (row_by_number sheet) sheet.funds
