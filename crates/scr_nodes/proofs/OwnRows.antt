-- Each row of a valid balance sheet is the one that stands under its name.
use Rattle.std.proofs.Common.{◌≡◌, ◌++◌, map, Some}
use Rattle.std.specs.List.{AllByRecursion, IsDistinct}
use Rattle.scr_tables.specs.Names.{same_name}
use Rattle.scr_tables.specs.Tables.{row_of}
use Rattle.scr_sheet.specs.BalanceSheet.{group_name, position_name, liability_name, bank_name, rein_name, stake_name, curve_name, position_of, stake_of}
use Rattle.scr_sheet.specs.declared.sheet.BalanceSheet.{BalanceSheet}
use Rattle.scr_sheet.specs.Validity.{Valid}
use Rattle.scr_sheet.proofs.Holds.{distinct-left, distinct-right, distinct-securities, distinct-funds, row_of-own}
use Rattle.scr_nodes.specs.Rows.{group_of, liability_of}

module _ (sheet : BalanceSheet) (valid : Valid sheet) where
  pub distinct-liabilities : IsDistinct same_name (map liability_name sheet.liabilities)
  distinct-liabilities =
      distinct-left (map liability_name sheet.liabilities)
      (map bank_name sheet.banks ++ (map rein_name sheet.reinsurers ++ map stake_name sheet.funds))
      (distinct-right (map position_name sheet.securities) _
      (distinct-right (map group_name sheet.groups) _ valid.named_once))

  pub distinct-groups : IsDistinct same_name (map group_name sheet.groups)
  distinct-groups =
      distinct-left (map group_name sheet.groups) (map position_name sheet.securities ++ (map liability_name
      sheet.liabilities
      ++ (map bank_name sheet.banks ++ (map rein_name sheet.reinsurers ++ map stake_name
      sheet.funds)))) valid.named_once

  pub own-funds : AllByRecursion (λ s. stake_of (stake_name s) sheet.funds ≡ Some s) sheet.funds
  own-funds = row_of-own stake_name sheet.funds (distinct-funds sheet valid.named_once)

  pub own-securities : AllByRecursion (λ p. position_of (position_name p) sheet.securities ≡ Some p) sheet.securities
  own-securities = row_of-own position_name sheet.securities (distinct-securities sheet valid.named_once)

  pub own-liabilities : AllByRecursion (λ l. liability_of (liability_name l) sheet.liabilities
      ≡ Some l) sheet.liabilities
  own-liabilities = row_of-own liability_name sheet.liabilities distinct-liabilities

  pub own-curves : AllByRecursion (λ c. row_of curve_name (curve_name c) sheet.curves ≡ Some c) sheet.curves
  own-curves = row_of-own curve_name sheet.curves valid.currencies_once

  pub own-groups : AllByRecursion (λ g. group_of (group_name g) sheet.groups ≡ Some g) sheet.groups
  own-groups = row_of-own group_name sheet.groups distinct-groups
