-- The discounts that the rule of a figure or a block takes (own).
use Rattle.std.specs.Prelude.{List}
use Rattle.scr_discounts.specs.Discounts.{CurrencyDiscounts, no_discounts}
use Rattle.scr_rules.specs.Discounts.{discounts_in}
use Rattle.scr_sheet.specs.declared.sheet.BalanceSheet.{BalanceSheet}
use Rattle.scr_block_graph.specs.declared.point.Point.{Point}
use Rattle.scr_block_graph.specs.declared.point.Point.TheVariants as points

-- The discounts that the rule of a node takes; none for a block (own).
abbrev pub discounts_at : BalanceSheet → List CurrencyDiscounts → Point → CurrencyDiscounts
discounts_at sheet rows (points.Figure node) = discounts_in sheet rows node
discounts_at sheet rows (points.Block block) = no_discounts
