-- Which figures what is exchanged touches (this project's own).
use Rattle.std.specs.Prelude.{Bool, false, not, List, [], ◌++◌, filter, Option, None}
use Rattle.scr_tables.specs.Tables.{row_of}
use Rattle.scr_sheet.specs.BalanceSheet.{group_name, position_name, stake_name, liability_name, bank_name, rein_name, curve_name}
use Rattle.scr_sheet.specs.declared.sheet.BalanceSheet.{BalanceSheet}
use Rattle.scr_sheet.specs.declared.rows.Position.{Position}
use Rattle.scr_nodes.specs.declared.node.Node.{Node}
use Rattle.scr_touched.specs.Securities.{security_touches, security_nodes, row_nodes, is_of_position}
use Rattle.scr_touched.specs.Funds.{fund_touches, fund_nodes, component_nodes, is_of_stake}
use Rattle.scr_touched.specs.Groups.{group_touches, group_nodes, later_group_nodes, is_of_class_of}
use Rattle.scr_row_change.specs.Debts.{bank_debt, rein_debt}
use Rattle.scr_touched.specs.Debts.{debt_touches, debt_losses, is_of_debtor}
use Rattle.scr_touched.specs.Liabilities.{liability_touches, liability_nodes, owed_nodes, is_of_liability}
use Rattle.scr_touched.specs.Curves.{curve_touches, curve_nodes}
use Rattle.scr_touched.specs.ReferenceDates.{date_touches, date_nodes, reporting_nodes, is_of_currency}
use Rattle.scr_touched.specs.SingleNumbers.{numbers_touch, number_nodes}
use Rattle.scr_row_change.specs.declared.change.Change.{Change}
use Rattle.scr_row_change.specs.declared.change.Change.TheVariants as changes

abbrev pub touches : BalanceSheet → Change → Node → Bool
touches sheet (changes.Security name new) node =
    security_touches sheet name (row_of position_name name sheet.securities) new node
touches sheet (changes.Fund name new) node = fund_touches sheet name (row_of stake_name name sheet.funds) new node
touches sheet (changes.Group name new) node = group_touches sheet name (row_of group_name name sheet.groups) new node
touches sheet (changes.Bank name new) node =
    debt_touches sheet (bank_debt (row_of bank_name name sheet.banks)) (bank_debt new) node
touches sheet (changes.Rein name new) node =
    debt_touches sheet (rein_debt (row_of rein_name name sheet.reinsurers)) (rein_debt new) node
touches sheet (changes.Liability name new) node =
    liability_touches sheet name (row_of liability_name name sheet.liabilities) new node
touches sheet (changes.Curve name new) node = curve_touches sheet name (row_of curve_name name sheet.curves) new node
touches sheet (changes.Asof date currency) node = date_touches sheet date currency node
touches sheet (changes.Numbers numbers) node = numbers_touch sheet.numbers numbers node

-- the security that is exchanged, as it was
abbrev pub security_before : BalanceSheet → Change → Option Position
security_before sheet (changes.Security name new) = row_of position_name name sheet.securities
security_before sheet (changes.Fund name new) = None
security_before sheet (changes.Group name new) = None
security_before sheet (changes.Bank name new) = None
security_before sheet (changes.Rein name new) = None
security_before sheet (changes.Liability name new) = None
security_before sheet (changes.Curve name new) = None
security_before sheet (changes.Asof date currency) = None
security_before sheet (changes.Numbers numbers) = None

-- ---- what may be touched

-- the figures of the row before, and those of which there is one for all rows
abbrev pub first_candidates : BalanceSheet → Change → List Node
first_candidates sheet (changes.Security name new) = security_nodes name (row_of position_name name sheet.securities)
first_candidates sheet (changes.Fund name new) = fund_nodes name (row_of stake_name name sheet.funds)
first_candidates sheet (changes.Group name new) = group_nodes name (row_of group_name name sheet.groups)
first_candidates sheet (changes.Bank name new) = debt_losses (bank_debt (row_of bank_name name sheet.banks))
first_candidates sheet (changes.Rein name new) = debt_losses (rein_debt (row_of rein_name name sheet.reinsurers))
first_candidates sheet (changes.Liability name new) =
    liability_nodes name (row_of liability_name name sheet.liabilities)
first_candidates sheet (changes.Curve name new) = curve_nodes sheet name (row_of curve_name name sheet.curves) new
first_candidates sheet (changes.Asof date currency) = date_nodes sheet date
first_candidates sheet (changes.Numbers numbers) = number_nodes

-- those of the row after
abbrev pub later_candidates : BalanceSheet → Change → List Node
later_candidates sheet (changes.Security name new) = row_nodes new
later_candidates sheet (changes.Fund name new) = component_nodes new
later_candidates sheet (changes.Group name new) = later_group_nodes sheet name new
later_candidates sheet (changes.Bank name new) = debt_losses (bank_debt new)
later_candidates sheet (changes.Rein name new) = debt_losses (rein_debt new)
later_candidates sheet (changes.Liability name new) = owed_nodes new
later_candidates sheet (changes.Curve name new) = []
later_candidates sheet (changes.Asof date currency) = reporting_nodes currency
later_candidates sheet (changes.Numbers numbers) = []

-- the figure is one of the row before
abbrev pub is_of_row : BalanceSheet → Change → Node → Bool
is_of_row sheet (changes.Security name new) node = is_of_position (row_of position_name name sheet.securities) node
is_of_row sheet (changes.Fund name new) node = is_of_stake name (row_of stake_name name sheet.funds) node
is_of_row sheet (changes.Group name new) node = is_of_class_of (row_of group_name name sheet.groups) node
is_of_row sheet (changes.Bank name new) node = is_of_debtor (bank_debt (row_of bank_name name sheet.banks)) node
is_of_row sheet (changes.Rein name new) node = is_of_debtor (rein_debt (row_of rein_name name sheet.reinsurers)) node
is_of_row sheet (changes.Liability name new) node =
    is_of_liability (row_of liability_name name sheet.liabilities) node
is_of_row sheet (changes.Curve name new) node = false
is_of_row sheet (changes.Asof date currency) node = is_of_currency sheet.numbers.currency node
is_of_row sheet (changes.Numbers numbers) node = false

-- none of them twice: those of the row after are left out where they are figures of the row before
abbrev pub candidates : BalanceSheet → Change → List Node
candidates sheet change =
    first_candidates sheet change ++ filter (λ node. not (is_of_row sheet change node)) (later_candidates sheet change)
