-- Which figures a balance sheet has (this project's own).
use Rattle.std.specs.Prelude.{ℕ, ◌&&◌, List, Bool, true, false}
use Rattle.std.specs.Option.{option_map_or}
use Rattle.scr_tables.specs.Tables.{has_row, row_of}
use Rattle.scr_sheet.specs.BalanceSheet.{group_name, position_name, stake_name, liability_name, curve_name, position_of}
use Rattle.scr_sheet.specs.declared.keys.Projection.{Projection}
use Rattle.scr_sheet.specs.declared.rows.Class.TheVariants as classes
use Rattle.scr_sheet.specs.declared.sheet.BalanceSheet.{BalanceSheet}
use Rattle.scr_nodes.specs.declared.node.Node.{Node}
use Rattle.scr_nodes.specs.declared.node.Node.TheVariants as nodes
use Rattle.scr_nodes.specs.declared.node.OfSecurity.{OfSecurity}
use Rattle.scr_nodes.specs.declared.node.OfSecurity.TheVariants as of_securities
use Rattle.scr_nodes.specs.declared.node.OfLiability.{OfLiability}
use Rattle.scr_nodes.specs.declared.node.OfLiability.TheVariants as of_liabilities
use Rattle.scr_nodes.specs.declared.node.OfCurrency.{OfCurrency}
use Rattle.scr_nodes.specs.declared.node.OfCurrency.TheVariants as of_currencies
use Rattle.scr_nodes.specs.declared.node.Whole.{Whole}
use Rattle.scr_nodes.specs.declared.node.Whole.TheVariants as wholes
use Rattle.scr_nodes.specs.Rows.{is_paying, is_foreign, has_class, has_flows, is_stress, has_stress, liability_of}

-- a security of this name that pays
abbrev pub pays : BalanceSheet → List ℕ → Bool
pays sheet name = option_map_or is_paying (position_of name sheet.securities) false

-- a security of this name that is a bond
abbrev pub is_bond : BalanceSheet → List ℕ → Bool
is_bond sheet name = option_map_or (has_class classes.Bond) (position_of name sheet.securities) false

-- a liability of this name with flows under a stress
abbrev pub is_stressed_liability : BalanceSheet → List ℕ → Projection → Bool
is_stressed_liability sheet name projection =
    is_stress projection && option_map_or (has_flows projection) (liability_of name sheet.liabilities) false

-- a currency with a curve, other than the reporting one
abbrev pub is_foreign_currency : BalanceSheet → List ℕ → Bool
is_foreign_currency sheet currency = option_map_or (is_foreign sheet) (row_of curve_name currency sheet.curves) false

abbrev pub is_group : BalanceSheet → List ℕ → Bool
is_group sheet name = has_row group_name name sheet.groups

-- ---- figures of rows, by their table, and of the whole sheet

abbrev pub security_lives : BalanceSheet → List ℕ → OfSecurity → Bool
security_lives sheet name of_securities.Total = has_row position_name name sheet.securities
security_lives sheet name (of_securities.UnitLoss direction) = pays sheet name
security_lives sheet name (of_securities.Rate direction) = pays sheet name
security_lives sheet name of_securities.Spread = is_bond sheet name

abbrev pub liability_lives : BalanceSheet → List ℕ → OfLiability → Bool
liability_lives sheet name (of_liabilities.Rate direction) = has_row liability_name name sheet.liabilities
liability_lives sheet name of_liabilities.Present = has_row liability_name name sheet.liabilities
liability_lives sheet name (of_liabilities.Loss projection) = is_stressed_liability sheet name projection

abbrev pub currency_lives : BalanceSheet → List ℕ → OfCurrency → Bool
currency_lives sheet currency (of_currencies.Loss direction) = has_row curve_name currency sheet.curves
currency_lives sheet currency (of_currencies.Scenario direction measure) = is_foreign_currency sheet currency
currency_lives sheet currency of_currencies.Choice = is_foreign_currency sheet currency
currency_lives sheet currency (of_currencies.Picked measure) = is_foreign_currency sheet currency

abbrev pub whole_lives : Whole → Bool
whole_lives (wholes.BioScenario biometric projection measure) = has_stress biometric projection
whole_lives what = true

abbrev pub is_live : BalanceSheet → Node → Bool
is_live sheet (nodes.Fund name what) = has_row stake_name name sheet.funds
is_live sheet (nodes.Security name what) = security_lives sheet name what
is_live sheet (nodes.Liability name what) = liability_lives sheet name what
is_live sheet (nodes.Currency currency what) = currency_lives sheet currency what
is_live sheet (nodes.Group name what) = is_group sheet name
is_live sheet (nodes.Whole what) = whole_lives what
