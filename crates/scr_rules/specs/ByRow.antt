-- The figures that are reckoned from a row at hand, each by the rule of its node (this project's own).
use Rattle.std.specs.Prelude.{◌≡◌, Some, List, slice_get}
use Rattle.std.specs.Option.{option_map}
use Rattle.scr_num.specs.Rounding.{Ends}
use Rattle.scr_factors.specs.Values.{FactorValues}
use Rattle.scr_flow.specs.Due.{dues}
use Rattle.scr_sheet.specs.BalanceSheet.{curve_name}
use Rattle.scr_sheet.specs.declared.rows.Liability.{Liability}
use Rattle.scr_sheet.specs.declared.sheet.BalanceSheet.{BalanceSheet}
use Rattle.scr_nodes.specs.OwnOf.{own_of}
use Rattle.scr_nodes.specs.declared.node.Node.{Node}
use Rattle.scr_discounts.specs.Discounts.{CurrencyDiscounts}
use Rattle.scr_rules.specs.Discounts.{discounts_in}
use Rattle.scr_rules.specs.Rules.{rule}
use Rattle.scr_rules.specs.declared.liability_rows.Estimate.{Estimate}

-- the figure of a node by its rule, at the discounts of these rows and from the figures of its sources
abbrev pub by_rule : FactorValues → BalanceSheet → List CurrencyDiscounts → Node → List Ends → Ends
by_rule factors sheet rows node figures = rule (own_of factors sheet node) (discounts_in sheet rows node) figures

-- what is known of a liability's currency and of what falls due by its best estimate
pub record IsEstimateOf (sheet : BalanceSheet) (liability : Liability) (estimate : Estimate) : Type 0 where
  pub currency : option_map curve_name (slice_get sheet.curves estimate.currency) ≡ Some liability.currency
  pub dues : estimate.dues ≡ dues sheet.numbers.asof.number liability.flows.base
