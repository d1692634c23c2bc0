-- Which rows are members of which rolls before a record and after it.
use Rattle.std.proofs.Common.{◌≡◌, ℕ, false, List, Option, Some, None, is_some, refl, sym, ap, ◌∙◌}
use Rattle.std.specs.Option.{option_map_or}
use Rattle.scr_tables.specs.Names.{same_name}
use Rattle.scr_tables.specs.Tables.{row_of, with_row, changed}
use Rattle.scr_tables.proofs.TableRows.{name_of-row_of, same_name-is, same_name-flip, row_of-with_row_other, row_of-without_other}
use Rattle.scr_sheet.specs.BalanceSheet.{group_name, position_name, stake_name, liability_name, position_of, stake_of}
use Rattle.scr_sheet.specs.CashFlows.{with_flows}
use Rattle.scr_sheet.specs.Records.{applied, natural}
use Rattle.scr_sheet.specs.Members.{is_closed, has_security, has_liability, is_member, is_member_in, table_of, edit_name}
use Rattle.scr_sheet.specs.declared.{sheet.BalanceSheet.BalanceSheet, edit.Edit.Edit, keys.Table.Table, rows.Group.Group, rows.Liability.Liability, rows.Position.Position, rows.Stake.Stake}
use Rattle.scr_sheet.specs.declared.edit.Edit.TheVariants as edits
use Rattle.scr_sheet.specs.declared.keys.Table.TheVariants as tables
use Rattle.scr_sheet.specs.declared.roll.Roll.{Roll}

-- ---- the rows of other names

module _ {Row : Type 0} (name_of : Row → List ℕ) (change : Row → Row) (keeps : (row : Row) → name_of (change row) ≡ name_of row) where
  row_of-changed_other : (x name : List ℕ) (rows : List Row) → same_name name x ≡ false → row_of name_of x (changed name_of change name rows) ≡ row_of name_of x rows
  row_of-changed_other x name rows other = by (row_of name_of name rows) refl
    where
      by : (found : Option Row) → row_of name_of name rows ≡ found
          → row_of name_of x (option_map_or (λ row. with_row name_of (change row) rows) found rows) ≡ row_of name_of x rows
      by None e = refl
      by (Some row) e =
          let own : name_of (change row) ≡ name = keeps row ∙ sym (same_name-is name (name_of row) (name_of-row_of name_of name rows row e)) in
          row_of-with_row_other name_of x (change row) rows (ap (same_name x) own ∙ same_name-flip x name ∙ other)

-- the membership follows from the rows of the name
pub same-rows : (roll : Roll) (x : List ℕ) (old new : BalanceSheet)
    → position_of x new.securities ≡ position_of x old.securities → stake_of x new.funds ≡ stake_of x old.funds
    → row_of liability_name x new.liabilities ≡ row_of liability_name x old.liabilities
    → row_of group_name x new.groups ≡ row_of group_name x old.groups
    → is_member roll x new ≡ is_member roll x old
same-rows roll x old new position stake liability group = by (table_of roll)
  where
    by : (t : Table) → is_member_in t roll x new ≡ is_member_in t roll x old
    by tables.Security = ap (λ row. option_map_or (has_security roll) row false) position
    by tables.Fund = ap (λ row. option_map_or is_closed row false) stake
    by tables.Liability = ap (λ row. option_map_or (has_liability roll) row false) liability
    by tables.Group = ap is_some group
    by tables.Bank = refl
    by tables.Rein = refl
    by tables.Curve = refl

module _ (sheet : BalanceSheet) (roll : Roll) (x : List ℕ) where
  pub only_securities : (rows : List Position) → position_of x rows ≡ position_of x sheet.securities → is_member roll x (record sheet { securities = rows }) ≡ is_member roll x sheet
  only_securities rows e = same-rows roll x sheet (record sheet { securities = rows }) e refl refl refl

  only_funds : (rows : List Stake) → stake_of x rows ≡ stake_of x sheet.funds → is_member roll x (record sheet { funds = rows }) ≡ is_member roll x sheet
  only_funds rows e = same-rows roll x sheet (record sheet { funds = rows }) refl e refl refl

  pub only_liabilities : (rows : List Liability) → row_of liability_name x rows ≡ row_of liability_name x sheet.liabilities → is_member roll x (record sheet { liabilities = rows }) ≡ is_member roll x sheet
  only_liabilities rows e = same-rows roll x sheet (record sheet { liabilities = rows }) refl refl e refl

  only_groups : (rows : List Group) → row_of group_name x rows ≡ row_of group_name x sheet.groups → is_member roll x (record sheet { groups = rows }) ≡ is_member roll x sheet
  only_groups rows e = same-rows roll x sheet (record sheet { groups = rows }) refl refl refl e

  other_dropped : (t : Table) (name : List ℕ) → same_name name x ≡ false → is_member roll x (applied (edits.Remove t name) sheet) ≡ is_member roll x sheet
  other_dropped tables.Group name other = only_groups _ (row_of-without_other group_name x name sheet.groups other)
  other_dropped tables.Security name other = only_securities _ (row_of-without_other position_name x name sheet.securities other)
  other_dropped tables.Fund name other = only_funds _ (row_of-without_other stake_name x name sheet.funds other)
  other_dropped tables.Liability name other = only_liabilities _ (row_of-without_other liability_name x name sheet.liabilities other)
  other_dropped tables.Bank name other = same-rows roll x sheet (applied (edits.Remove tables.Bank name) sheet) refl refl refl refl
  other_dropped tables.Rein name other = same-rows roll x sheet (applied (edits.Remove tables.Rein name) sheet) refl refl refl refl
  other_dropped tables.Curve name other = same-rows roll x sheet (applied (edits.Remove tables.Curve name) sheet) refl refl refl refl

  -- a record changes the membership of no name but its own
  pub member-other : (edit : Edit) → same_name (edit_name edit) x ≡ false → is_member roll x (applied edit sheet) ≡ is_member roll x sheet
  member-other (edits.Security name class group currency duration) other = only_securities _ (row_of-with_row_other position_name x _ sheet.securities (same_name-flip x name ∙ other))
  member-other (edits.Flows name flows) other = only_securities _ (row_of-changed_other position_name (λ p. record p { security = record p.security { flows = flows } }) (λ p. refl) x name sheet.securities other)
  member-other (edits.Fund name components) other = only_funds _ (row_of-with_row_other stake_name x _ sheet.funds (same_name-flip x name ∙ other))
  member-other (edits.Hold name cents) other =
      same-rows roll x sheet (applied (edits.Hold name cents) sheet)
      (row_of-changed_other position_name (λ p. record p { held = natural cents }) (λ p. refl) x name sheet.securities other)
      (row_of-changed_other stake_name (λ s. record s { held = natural cents }) (λ s. refl) x name sheet.funds other) refl refl
  member-other (edits.Liability name kind currency) other = only_liabilities _ (row_of-with_row_other liability_name x _ sheet.liabilities (same_name-flip x name ∙ other))
  member-other (edits.LiabilityFlows name projection flows) other =
      only_liabilities _ (row_of-changed_other liability_name (λ l. record l { flows = with_flows projection flows l.flows }) (λ l. refl) x name sheet.liabilities other)
  member-other (edits.Group name kind step) other = only_groups _ (row_of-with_row_other group_name x _ sheet.groups (same_name-flip x name ∙ other))
  member-other (edits.Remove t name) other = other_dropped t name other
  member-other edit other = same-rows roll x sheet (applied edit sheet) refl refl refl refl
