-- Which figures an exchanged bank or reinsurance arrangement touches (this project's own).
use Rattle.std.specs.Prelude.{Bool, true, false, List, [], ◌∷◌, Option, Some, None}
use Rattle.scr_sheet.specs.declared.sheet.BalanceSheet.{BalanceSheet}
use Rattle.scr_row_change.specs.Debts.{is_owed_by, same_debt}
use Rattle.scr_row_change.specs.Parts.{gives_same}
use Rattle.scr_row_change.specs.declared.debts.Debt.{Debt}
use Rattle.scr_nodes.specs.Live.{is_group}
use Rattle.scr_nodes.specs.declared.node.Node.{Node}
use Rattle.scr_nodes.specs.declared.node.Node.TheVariants as nodes
use Rattle.scr_nodes.specs.declared.node.OfGroup.TheVariants as of_groups
use Rattle.scr_row_change.specs.Comparisons.{passes}
use Rattle.scr_touched.specs.Comparisons.{is_touched}

-- what a bank or a reinsurer owes becomes another debt, or comes or goes
abbrev pub debt_touches : BalanceSheet → Option Debt → Option Debt → Node → Bool
debt_touches sheet old new (nodes.Group group of_groups.Loss) =
    let has = is_group sheet group in is_touched has has (gives_same (is_owed_by group) same_debt old new) true
debt_touches sheet old new node = false

-- ---- what may be touched

-- what is lost by the group that owes it
abbrev pub debt_losses : Option Debt → List Node
debt_losses None = []
debt_losses (Some debt) = nodes.Group debt.group of_groups.Loss ∷ []

abbrev pub is_of_debtor : Option Debt → Node → Bool
is_of_debtor debt (nodes.Group group of_groups.Loss) = passes (is_owed_by group) debt
is_of_debtor debt node = false
