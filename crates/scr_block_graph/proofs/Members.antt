-- The names of the rows that a sum adds up are the members of its list, each once.
use Rattle.std.proofs.Common.{◌≡◌, ℕ, Bool, true, false, ◌&&◌, List, [], ◌∷◌, map, refl, ap, ◌∙◌, arith}
use Rattle.std.specs.List.{IsDistinct, list_any}
use Rattle.std.specs.Option.{option_map_or}
use Rattle.scr_tables.specs.Names.{same_name}
use Rattle.scr_tables.specs.Tables.{has_row, row_of}
use Rattle.scr_sum_tree.proofs.SameMembers.{distinct-kept, has-kept}
use Rattle.scr_sheet.specs.BalanceSheet.{group_name, liability_name, position_name, stake_name}
use Rattle.scr_sheet.specs.Members.{is_kind, is_losing, is_member}
use Rattle.scr_sheet.specs.Validity.{Valid}
use Rattle.scr_sheet.specs.declared.{rows.Group.Group, rows.LiabilityKind.LiabilityKind, sheet.BalanceSheet.BalanceSheet, keys.Projection.Projection}
use Rattle.scr_sheet.specs.declared.rows.Class.TheVariants as classes
use Rattle.scr_sheet.specs.declared.rows.LiabilityKind.TheVariants as kinds
use Rattle.scr_sheet.proofs.Holds.{distinct-funds, distinct-left, distinct-right, distinct-securities}
use Rattle.scr_nodes.specs.declared.node.Biometric.{Biometric}
use Rattle.scr_nodes.specs.declared.node.Biometric.TheVariants as biometrics
use Rattle.scr_nodes.specs.Rows.{has_class, has_flows, has_group, is_closed, is_held_in, is_of_group, is_of_kind, is_owed_in, is_paying_in, is_stressed}
use Rattle.scr_block_graph.specs.Sums.{kind_of, names_listed, roll_of}
use Rattle.scr_block_graph.specs.declared.sum.Sum.{Sum}
use Rattle.scr_block_graph.specs.declared.sum.Sum.TheVariants as sums

has_row-named : {Row : Type 0} (name_of : Row → List ℕ) (x : List ℕ) (rows : List Row)
    → list_any (same_name x) (map name_of rows) ≡ has_row name_of x rows
has_row-named name_of x [] = refl
has_row-named name_of x (row ∷ rows) = by (same_name x (name_of row)) refl (has_row-named name_of x rows)
  where
    by : (t : Bool) → same_name x (name_of row) ≡ t → list_any (same_name x) (map name_of rows) ≡ has_row name_of x rows
        → list_any (same_name x) (map name_of (row ∷ rows)) ≡ has_row name_of x (row ∷ rows)
    by true e later = grind (arith, e)
    by false e later = grind (arith, e, later)

-- the stresses of a kind of obligations fall on the liabilities of the list
same-kind : (biometric : Biometric) (kind : LiabilityKind) → is_of_kind biometric kind ≡ is_kind (kind_of biometric) kind
same-kind biometrics.Life kinds.Life = refl
same-kind biometrics.Life kinds.Health = refl
same-kind biometrics.Life kinds.Other = refl
same-kind biometrics.Health kinds.Life = refl
same-kind biometrics.Health kinds.Health = refl
same-kind biometrics.Health kinds.Other = refl

pub same-test : (biometric : Biometric) (projection : Projection) → is_stressed biometric projection ≡ is_losing (kind_of biometric) projection
same-test biometric projection =
    λ i liability. (same-kind biometric liability.kind) i && has_flows projection liability

module _ (sheet : BalanceSheet) (valid : Valid sheet) where
  pub once-groups : IsDistinct same_name (map group_name sheet.groups)
  once-groups = distinct-left (map group_name sheet.groups) _ valid.named_once

  pub once-securities : IsDistinct same_name (map position_name sheet.securities)
  once-securities = distinct-securities sheet valid.named_once

  pub once-funds : IsDistinct same_name (map stake_name sheet.funds)
  once-funds = distinct-funds sheet valid.named_once

  pub once-liabilities : IsDistinct same_name (map liability_name sheet.liabilities)
  once-liabilities =
      distinct-left (map liability_name sheet.liabilities) _
      (distinct-right (map position_name sheet.securities) _ (distinct-right (map group_name sheet.groups) _ valid.named_once))

  pub listed-once : (sum : Sum) → IsDistinct same_name (names_listed sheet sum)
  listed-once (sums.Class class) = distinct-kept position_name (has_class class) sheet.securities once-securities
  listed-once sums.Closed = distinct-kept stake_name is_closed sheet.funds once-funds
  listed-once sums.Spreads = distinct-kept position_name (has_class classes.Bond) sheet.securities once-securities
  listed-once sums.Grouped = distinct-kept position_name has_group sheet.securities once-securities
  listed-once (sums.Group group) = distinct-kept position_name (is_of_group group) sheet.securities once-securities
  listed-once (sums.Assets currency) = distinct-kept position_name (is_held_in currency) sheet.securities once-securities
  listed-once (sums.Rates currency direction) = distinct-kept position_name (is_paying_in currency) sheet.securities once-securities
  listed-once (sums.Costs currency direction) = distinct-kept liability_name (is_owed_in currency) sheet.liabilities once-liabilities
  listed-once (sums.Presents currency) = distinct-kept liability_name (is_owed_in currency) sheet.liabilities once-liabilities
  listed-once (sums.Losses biometric projection) = distinct-kept liability_name (is_stressed biometric projection) sheet.liabilities once-liabilities
  listed-once sums.Squares = once-groups

  pub listed-members : (sum : Sum) (name : List ℕ) → list_any (same_name name) (names_listed sheet sum) ≡ is_member (roll_of sum) name sheet
  listed-members (sums.Class class) name = has-kept position_name (has_class class) sheet.securities once-securities name
  listed-members sums.Closed name = has-kept stake_name is_closed sheet.funds once-funds name
  listed-members sums.Spreads name = has-kept position_name (has_class classes.Bond) sheet.securities once-securities name
  listed-members sums.Grouped name = has-kept position_name has_group sheet.securities once-securities name
  listed-members (sums.Group group) name = has-kept position_name (is_of_group group) sheet.securities once-securities name
  listed-members (sums.Assets currency) name = has-kept position_name (is_held_in currency) sheet.securities once-securities name
  listed-members (sums.Rates currency direction) name = has-kept position_name (is_paying_in currency) sheet.securities once-securities name
  listed-members (sums.Costs currency direction) name = has-kept liability_name (is_owed_in currency) sheet.liabilities once-liabilities name
  listed-members (sums.Presents currency) name = has-kept liability_name (is_owed_in currency) sheet.liabilities once-liabilities name
  listed-members (sums.Losses biometric projection) name =
      has-kept liability_name (is_stressed biometric projection) sheet.liabilities once-liabilities name
      ∙ ap (λ test. option_map_or test (row_of liability_name name sheet.liabilities) false) (same-test biometric projection)
  listed-members sums.Squares name = has_row-named group_name name sheet.groups
