-- How the rows of a table before a record and after it lie to each other, verb by verb.
use Rattle.std.proofs.Common.{◌≡◌, ◌⊎◌, inl, inr, ℕ, ℤ, Bool, true, false, List, Option, Some, None, is_some, refl, sym, ap, subst, ◌∙◌}
use Rattle.std.specs.Prelude.{if◌then◌else◌}
use Rattle.std.specs.Option.{option_map_or}
use Rattle.scr_dates.specs.declared.day.Day.{Day}
use Rattle.scr_tables.specs.Names.{same_name}
use Rattle.scr_tables.specs.Tables.{changed, has_row, row_of, with_row, without}
use Rattle.scr_tables.proofs.PastRows.{back-new, missing}
use Rattle.scr_tables.proofs.TableRows.{names-changed, row_of-without_own}
use Rattle.scr_profile.specs.declared.group_kind.GroupKind.{GroupKind}
use Rattle.scr_member_lists.specs.Seatings.{AreSeated}
use Rattle.scr_member_lists.specs.declared.seats.Seats.{Seats}
use Rattle.scr_sheet.specs.BalanceSheet.{group_name, is_in, liability_name, position_name, stake_name}
use Rattle.scr_sheet.specs.CashFlows.{with_flows}
use Rattle.scr_sheet.specs.Members.{edit_name, is_member, table_of}
use Rattle.scr_sheet.specs.Records.{applied}
use Rattle.scr_sheet.specs.Validity.{Valid}
use Rattle.scr_sheet.specs.declared.{sheet.BalanceSheet.BalanceSheet, edit.Edit.Edit, keys.Projection.Projection, keys.Table.Table, roll.Roll.Roll, rows.Class.Class, rows.Liability.Liability, rows.LiabilityKind.LiabilityKind, rows.Position.Position}
use Rattle.scr_sheet.specs.declared.edit.Edit.TheVariants as edits
use Rattle.scr_sheet.specs.declared.keys.Table.TheVariants as tables
use Rattle.scr_sheet.proofs.Membership.{member-other}
use Rattle.scr_book.specs.Places.{names_in}
use Rattle.scr_book.specs.Rolls.{GoesIn, KeptRolls, moves_in, same_table}
use Rattle.scr_book.proofs.RollAims.{apart-funds, apart-groups, apart-liabilities, apart-securities, names-replaced}
use Rattle.scr_book.proofs.RollsStill.{once-in}

-- the rows before are those after without the one of the name
abbrev pub IsWithout : Table → List ℕ → (before after : BalanceSheet) → Type 0
IsWithout tables.Security x before after = before.securities ≡ without position_name x after.securities
IsWithout tables.Fund x before after = before.funds ≡ without stake_name x after.funds
IsWithout tables.Liability x before after = before.liabilities ≡ without liability_name x after.liabilities
IsWithout tables.Group x before after = before.groups ≡ without group_name x after.groups
IsWithout table x before after = ⊥

-- a record that makes, replaces or changes the row of a name in a table, and nothing else that rolls see
pub record Way (table : Table) (x : List ℕ) (before after : BalanceSheet) : Type 0 where
  pub elsewhere : (other : Table) → same_table other table ≡ false → names_in other before ≡ names_in other after
  pub others : (roll : Roll) (name : List ℕ) → ((same_table (table_of roll) table ≡ false) ⊎ (same_name x name ≡ false)) → is_member roll name before ≡ is_member roll name after
  pub names : is_in table x before ≡ true → names_in table after ≡ names_in table before
  pub gone : is_in table x before ≡ false → IsWithout table x before after

-- a row of a new name, taken out again
made-out : {Row : Type 0} (name_of : Row → List ℕ) (row : Row) (rows : List Row) → has_row name_of (name_of row) rows ≡ false → rows ≡ without name_of (name_of row) (with_row name_of row rows)
made-out name_of row rows absent = sym ((back-new name_of (name_of row) rows (missing (row_of name_of (name_of row) rows) absent)).put row refl).0

-- and a table that lacks the row that is to change
unchanged-out : {Row : Type 0} (name_of : Row → List ℕ) (change : Row → Row) (x : List ℕ) (rows : List Row) → has_row name_of x rows ≡ false → rows ≡ without name_of x (changed name_of change x rows)
unchanged-out {Row} name_of change x rows absent =
    let none = missing (row_of name_of x rows) absent in
    sym ((back-new name_of x rows none).still.0)
    ∙ ap (λ (o : Option Row). without name_of x (option_map_or (λ row. with_row name_of (change row) rows) o rows)) (sym none)

module _ (before : BalanceSheet) where
  others-by : (edit : Edit) (table : Table) → ((roll : Roll) (name : List ℕ) → same_table (table_of roll) table ≡ false → is_member roll name (applied edit before) ≡ is_member roll name before)
      → (roll : Roll) (name : List ℕ) → ((same_table (table_of roll) table ≡ false) ⊎ (same_name (edit_name edit) name ≡ false)) → is_member roll name before ≡ is_member roll name (applied edit before)
  others-by edit table apart roll name (inl other) = sym (apart roll name other)
  others-by edit table apart roll name (inr other) = sym (member-other before roll name edit other)

  pub way-security : (name : List ℕ) (class : Class) (group : Option (List ℕ)) (currency : List ℕ) (duration : ℤ)
      → Way tables.Security name before (applied (edits.Security name class group currency duration) before)
  way-security name class group currency duration = record {
    elsewhere = elsewhere;
    others = others-by (edits.Security name class group currency duration) tables.Security (λ roll x other. apart-securities before x roll _ other);
    names = λ there. names-replaced position_name _ before.securities there;
    gone = λ absent. made-out position_name _ before.securities absent;
  }
    where
      elsewhere : (other : Table) → same_table other tables.Security ≡ false → names_in other before ≡ names_in other (applied (edits.Security name class group currency duration) before)
      elsewhere tables.Security apart = absurd (cc)
      elsewhere tables.Group apart = refl
      elsewhere tables.Fund apart = refl
      elsewhere tables.Liability apart = refl
      elsewhere tables.Bank apart = refl
      elsewhere tables.Rein apart = refl
      elsewhere tables.Curve apart = refl

  pub way-payments : (name : List ℕ) (flows : List (Day × ℤ)) → Way tables.Security name before (applied (edits.Flows name flows) before)
  way-payments name flows = record {
    elsewhere = elsewhere;
    others = others-by (edits.Flows name flows) tables.Security (λ roll x other. apart-securities before x roll _ other);
    names = λ there. names-changed position_name (λ (row : Position). record row { security = record row.security { flows = flows } }) name before.securities (λ row. refl);
    gone = λ absent. unchanged-out position_name (λ (row : Position). record row { security = record row.security { flows = flows } }) name before.securities absent;
  }
    where
      elsewhere : (other : Table) → same_table other tables.Security ≡ false → names_in other before ≡ names_in other (applied (edits.Flows name flows) before)
      elsewhere tables.Security apart = absurd (cc)
      elsewhere tables.Group apart = refl
      elsewhere tables.Fund apart = refl
      elsewhere tables.Liability apart = refl
      elsewhere tables.Bank apart = refl
      elsewhere tables.Rein apart = refl
      elsewhere tables.Curve apart = refl

  pub way-fund : (name : List ℕ) (components : List (List ℕ × ℤ)) → Way tables.Fund name before (applied (edits.Fund name components) before)
  way-fund name components = record {
    elsewhere = elsewhere;
    others = others-by (edits.Fund name components) tables.Fund (λ roll x other. apart-funds before x roll _ other);
    names = λ there. names-replaced stake_name _ before.funds there;
    gone = λ absent. made-out stake_name _ before.funds absent;
  }
    where
      elsewhere : (other : Table) → same_table other tables.Fund ≡ false → names_in other before ≡ names_in other (applied (edits.Fund name components) before)
      elsewhere tables.Fund apart = absurd (cc)
      elsewhere tables.Group apart = refl
      elsewhere tables.Security apart = refl
      elsewhere tables.Liability apart = refl
      elsewhere tables.Bank apart = refl
      elsewhere tables.Rein apart = refl
      elsewhere tables.Curve apart = refl

  pub way-group : (name : List ℕ) (kind : GroupKind) (step : Option ℕ) → Way tables.Group name before (applied (edits.Group name kind step) before)
  way-group name kind step = record {
    elsewhere = elsewhere;
    others = others-by (edits.Group name kind step) tables.Group (λ roll x other. apart-groups before x roll _ other);
    names = λ there. names-replaced group_name _ before.groups there;
    gone = λ absent. made-out group_name _ before.groups absent;
  }
    where
      elsewhere : (other : Table) → same_table other tables.Group ≡ false → names_in other before ≡ names_in other (applied (edits.Group name kind step) before)
      elsewhere tables.Group apart = absurd (cc)
      elsewhere tables.Security apart = refl
      elsewhere tables.Fund apart = refl
      elsewhere tables.Liability apart = refl
      elsewhere tables.Bank apart = refl
      elsewhere tables.Rein apart = refl
      elsewhere tables.Curve apart = refl

  pub way-liability : (name : List ℕ) (kind : LiabilityKind) (currency : List ℕ) → Way tables.Liability name before (applied (edits.Liability name kind currency) before)
  way-liability name kind currency = record {
    elsewhere = elsewhere;
    others = others-by (edits.Liability name kind currency) tables.Liability (λ roll x other. apart-liabilities before x roll _ other);
    names = λ there. names-replaced liability_name _ before.liabilities there;
    gone = λ absent. made-out liability_name _ before.liabilities absent;
  }
    where
      elsewhere : (other : Table) → same_table other tables.Liability ≡ false → names_in other before ≡ names_in other (applied (edits.Liability name kind currency) before)
      elsewhere tables.Liability apart = absurd (cc)
      elsewhere tables.Group apart = refl
      elsewhere tables.Security apart = refl
      elsewhere tables.Fund apart = refl
      elsewhere tables.Bank apart = refl
      elsewhere tables.Rein apart = refl
      elsewhere tables.Curve apart = refl

  pub way-projected : (name : List ℕ) (projection : Projection) (flows : List (Day × ℤ)) → Way tables.Liability name before (applied (edits.LiabilityFlows name projection flows) before)
  way-projected name projection flows = record {
    elsewhere = elsewhere;
    others = others-by (edits.LiabilityFlows name projection flows) tables.Liability (λ roll x other. apart-liabilities before x roll _ other);
    names = λ there. names-changed liability_name (λ (row : Liability). record row { flows = with_flows projection flows row.flows }) name before.liabilities (λ row. refl);
    gone = λ absent. unchanged-out liability_name (λ (row : Liability). record row { flows = with_flows projection flows row.flows }) name before.liabilities absent;
  }
    where
      elsewhere : (other : Table) → same_table other tables.Liability ≡ false → names_in other before ≡ names_in other (applied (edits.LiabilityFlows name projection flows) before)
      elsewhere tables.Liability apart = absurd (cc)
      elsewhere tables.Group apart = refl
      elsewhere tables.Security apart = refl
      elsewhere tables.Fund apart = refl
      elsewhere tables.Bank apart = refl
      elsewhere tables.Rein apart = refl
      elsewhere tables.Curve apart = refl

  -- a row that the record drops is not there
  not-dropped : (table : Table) (name : List ℕ) → Valid before → same_table table table ≡ true → is_in table name (applied (edits.Remove table name) before) ≡ false
  not-dropped tables.Security name valid own = ap is_some (row_of-without_own position_name name before.securities (once-in tables.Security before valid refl))
  not-dropped tables.Fund name valid own = ap is_some (row_of-without_own stake_name name before.funds (once-in tables.Fund before valid refl))
  not-dropped tables.Liability name valid own = ap is_some (row_of-without_own liability_name name before.liabilities (once-in tables.Liability before valid refl))
  not-dropped tables.Group name valid own = ap is_some (row_of-without_own group_name name before.groups (once-in tables.Group before valid refl))
  not-dropped table name valid own = absurd (cc)

  -- where the row of a record is there after it, the record is one of these
  pub ways : (edit : Edit) (table : Table) → Valid before → moves_in edit ≡ Some table → is_in table (edit_name edit) (applied edit before) ≡ true → Way table (edit_name edit) before (applied edit before)
  ways (edits.Security name class group currency duration) table valid e there =
      let is : tables.Security ≡ table = cc in
      subst (λ (t : Table). Way t name before (applied (edits.Security name class group currency duration) before)) is (way-security name class group currency duration)
  ways (edits.Flows name flows) table valid e there =
      let is : tables.Security ≡ table = cc in subst (λ (t : Table). Way t name before (applied (edits.Flows name flows) before)) is (way-payments name flows)
  ways (edits.Fund name components) table valid e there =
      let is : tables.Fund ≡ table = cc in subst (λ (t : Table). Way t name before (applied (edits.Fund name components) before)) is (way-fund name components)
  ways (edits.Group name kind step) table valid e there =
      let is : tables.Group ≡ table = cc in subst (λ (t : Table). Way t name before (applied (edits.Group name kind step) before)) is (way-group name kind step)
  ways (edits.Liability name kind currency) table valid e there =
      let is : tables.Liability ≡ table = cc in subst (λ (t : Table). Way t name before (applied (edits.Liability name kind currency) before)) is (way-liability name kind currency)
  ways (edits.LiabilityFlows name projection flows) table valid e there =
      let is : tables.Liability ≡ table = cc in
      subst (λ (t : Table). Way t name before (applied (edits.LiabilityFlows name projection flows) before)) is (way-projected name projection flows)
  ways (edits.Remove of name) table valid e there = by (same_table of of) refl e
    where
      by : (t : Bool) → same_table of of ≡ t → (if t then Some of else None) ≡ Some table → Way table name before (applied (edits.Remove of name) before)
      by false own none = absurd (cc)
      by true own some =
          let is : of ≡ table = cc in
          let here : is_in of name (applied (edits.Remove of name) before) ≡ true = subst (λ (t : Table). is_in t name (applied (edits.Remove of name) before) ≡ true) (sym is) there in
          let never : true ≡ false = sym here ∙ not-dropped of name valid own in
          absurd (cc)
  ways edit table valid e there = absurd (cc)

-- the rows of the table can go back
module _ (x : List ℕ) (before after : BalanceSheet) (kept : KeptRolls) (seats : Seats) where
  pub goes-in : (table : Table) → same_table table table ≡ true → Way table x before after → (t : Bool) → is_in table x before ≡ t
      → GoesIn table (record { table = table; name = x; seats = if t then Some seats else None }) before after kept
  goes-in tables.Security own way true e = (λ h. inl (subst (λ (ns : List (List ℕ)). AreSeated ns kept.securities) (way.names e) h), e)
  goes-in tables.Security own way false e = way.gone e
  goes-in tables.Fund own way true e = (λ h. inl (subst (λ (ns : List (List ℕ)). AreSeated ns kept.funds) (way.names e) h), e)
  goes-in tables.Fund own way false e = way.gone e
  goes-in tables.Liability own way true e = (λ h. inl (subst (λ (ns : List (List ℕ)). AreSeated ns kept.liabilities) (way.names e) h), e)
  goes-in tables.Liability own way false e = way.gone e
  goes-in tables.Group own way true e = (λ h. inl (subst (λ (ns : List (List ℕ)). AreSeated ns kept.groups) (way.names e) h), e)
  goes-in tables.Group own way false e = way.gone e
  goes-in tables.Bank own way t e = absurd (cc)
  goes-in tables.Rein own way t e = absurd (cc)
  goes-in tables.Curve own way t e = absurd (cc)
