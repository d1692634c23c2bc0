-- The member lists of the large sums (this project's own): which rows are members of a list, by the rules that the sums follow
-- (Delegated Regulation (EU) 2015/35, Articles 84, 165, 168, 176, 182 and 188), and whose row a record changes.
use Rattle.std.specs.Prelude.{ℕ, Bool, true, false, not, ◌&&◌, List, [], ◌∷◌, Option, Some, None, is_some}
use Rattle.std.specs.Option.{option_map_or}
use Rattle.scr_tables.specs.Names.{same_name}
use Rattle.scr_tables.specs.Tables.{row_of, has_row}
use Rattle.scr_sheet.specs.CashFlows.{is_empty, flows_under}
use Rattle.scr_sheet.specs.BalanceSheet.{group_name, liability_name, position_of, stake_of}
use Rattle.scr_sheet.specs.declared.{sheet.BalanceSheet.BalanceSheet, edit.Edit.Edit, keys.Projection.Projection, keys.Table.Table, rows.Class.Class, rows.LiabilityKind.LiabilityKind, rows.Liability.Liability, rows.Position.Position, rows.Stake.Stake}
use Rattle.scr_sheet.specs.declared.edit.Edit.TheVariants as edits
use Rattle.scr_sheet.specs.declared.keys.Table.TheVariants as tables
use Rattle.scr_sheet.specs.declared.rows.Class.TheVariants as classes
use Rattle.scr_sheet.specs.declared.rows.LiabilityKind.TheVariants as kinds
use Rattle.scr_sheet.specs.declared.roll.Roll.{Roll}
use Rattle.scr_sheet.specs.declared.roll.Roll.TheVariants as rolls

-- ---- securities

abbrev pub is_of_class : Class → Class → Bool
is_of_class classes.Type1Equity classes.Type1Equity = true
is_of_class classes.Type1Strategic classes.Type1Strategic = true
is_of_class classes.Type2Equity classes.Type2Equity = true
is_of_class classes.Type2Strategic classes.Type2Strategic = true
is_of_class classes.Infrastructure classes.Infrastructure = true
is_of_class classes.InfrastructureCorporate classes.InfrastructureCorporate = true
is_of_class classes.Property classes.Property = true
is_of_class classes.Bond classes.Bond = true
is_of_class classes.Government classes.Government = true
is_of_class classes.Other classes.Other = true
is_of_class class of = false

abbrev pub has_class : Class → Position → Bool
has_class class position = is_of_class class position.security.class

-- of the group of counterparties, and of any group
abbrev pub is_of_group : List ℕ → Position → Bool
is_of_group name position = option_map_or (same_name name) position.security.group false

abbrev pub has_group : Position → Bool
has_group position = is_some position.security.group

-- in the currency, whether it pays or not, and one that pays
abbrev pub is_held_in : List ℕ → Position → Bool
is_held_in currency position = same_name currency position.security.currency

abbrev pub is_paying : Position → Bool
is_paying position = not (is_empty position.security.flows)

abbrev pub is_paying_in : List ℕ → Position → Bool
is_paying_in currency position = same_name currency position.security.currency && is_paying position

-- ---- funds

-- a fund without components, through which nothing is seen
abbrev pub is_closed : Stake → Bool
is_closed stake = nothing stake.fund.components
  where
    nothing : {A : Type 0} → List A → Bool
    nothing [] = true
    nothing (c ∷ cs) = false

-- ---- liabilities

abbrev pub is_owed_in : List ℕ → Liability → Bool
is_owed_in currency liability = same_name currency liability.currency

abbrev pub has_flows : Projection → Liability → Bool
has_flows projection liability = not (is_empty (flows_under projection liability.flows))

abbrev pub is_kind : LiabilityKind → LiabilityKind → Bool
is_kind kinds.Life kinds.Life = true
is_kind kinds.Health kinds.Health = true
is_kind kinds.Other kinds.Other = true
is_kind kind of = false

-- of the kind, with flows under the projection
abbrev pub is_losing : LiabilityKind → Projection → Liability → Bool
is_losing kind projection liability = is_kind kind liability.kind && has_flows projection liability

-- ---- members

-- a security, and a liability, is a member of the roll
abbrev pub has_security : Roll → Position → Bool
has_security (rolls.Class class) position = has_class class position
has_security rolls.Bonds position = has_class classes.Bond position
has_security rolls.Grouped position = has_group position
has_security (rolls.Group group) position = is_of_group group position
has_security (rolls.Assets currency) position = is_held_in currency position
has_security (rolls.Flows currency) position = is_paying_in currency position
has_security roll position = false

abbrev pub has_liability : Roll → Liability → Bool
has_liability (rolls.Lines currency) liability = is_owed_in currency liability
has_liability (rolls.Losses kind projection) liability = is_losing kind projection liability
has_liability roll liability = false

-- whose rows the members are
abbrev pub table_of : Roll → Table
table_of rolls.Closed = tables.Fund
table_of (rolls.Lines currency) = tables.Liability
table_of (rolls.Losses kind projection) = tables.Liability
table_of rolls.Groups = tables.Group
table_of roll = tables.Security

-- the row of the name is a member: a security of those that the roll takes, a fund without components, a liability of those, any group
abbrev pub is_member_in : Table → Roll → List ℕ → BalanceSheet → Bool
is_member_in tables.Security roll name sheet = option_map_or (has_security roll) (position_of name sheet.securities) false
is_member_in tables.Fund roll name sheet = option_map_or is_closed (stake_of name sheet.funds) false
is_member_in tables.Liability roll name sheet = option_map_or (has_liability roll) (row_of liability_name name sheet.liabilities) false
is_member_in tables.Group roll name sheet = has_row group_name name sheet.groups
is_member_in table roll name sheet = false

abbrev pub is_member : Roll → List ℕ → BalanceSheet → Bool
is_member roll name sheet = is_member_in (table_of roll) roll name sheet

-- ---- records

-- the name of the row that a record makes, replaces, changes or drops; none where it changes a currency or the single numbers
abbrev pub row_name : Edit → Option (List ℕ)
row_name (edits.Group name kind step) = Some name
row_name (edits.Security name class group currency duration) = Some name
row_name (edits.Flows security flows) = Some security
row_name (edits.Fund name components) = Some name
row_name (edits.Hold name cents) = Some name
row_name (edits.Liability name kind currency) = Some name
row_name (edits.LiabilityFlows liability projection flows) = Some liability
row_name (edits.Rein name group recoverables mitigation collateral) = Some name
row_name (edits.Bank name group cents) = Some name
row_name (edits.Remove table name) = Some name
row_name edit = None

-- that name, and the empty one, which no row has, where there is none
abbrev pub edit_name : Edit → List ℕ
edit_name edit = option_map_or (λ (name : List ℕ). name) (row_name edit) []
