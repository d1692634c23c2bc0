-- The discounts of the payments of a figure, and by how much they fall where rates change (this project's own).
use Rattle.std.specs.Prelude.{List}
use Rattle.std.specs.Option.{option_map_or}
use Rattle.scr_num.specs.Rounding.{Ends}
use Rattle.scr_yield_curve.specs.declared.tilt.Tilt.{Tilt}
use Rattle.scr_yield_curve.specs.declared.tilt.Tilt.TheVariants as tilts
use Rattle.scr_sheet.specs.BalanceSheet.{position_of}
use Rattle.scr_sheet.specs.declared.rows.Position.{Position}
use Rattle.scr_sheet.specs.declared.rows.Liability.{Liability}
use Rattle.scr_sheet.specs.declared.sheet.BalanceSheet.{BalanceSheet}
use Rattle.scr_nodes.specs.declared.node.Direction.{Direction}
use Rattle.scr_nodes.specs.declared.node.Direction.TheVariants as directions
use Rattle.scr_nodes.specs.declared.node.Node.{Node}
use Rattle.scr_nodes.specs.declared.node.Node.TheVariants as nodes
use Rattle.scr_nodes.specs.declared.node.OfSecurity.TheVariants as of_securities
use Rattle.scr_nodes.specs.declared.node.OfLiability.TheVariants as of_liabilities
use Rattle.scr_nodes.specs.Own.{Own}
use Rattle.scr_nodes.specs.Own.Own.{Loss, Cost, Worth, Excess}
use Rattle.scr_nodes.specs.Rows.{liability_of}
use Rattle.scr_discounts.specs.Discounts.{CurrencyDiscounts, discounts_at, no_discounts}
use Rattle.scr_discounts.specs.Kept.{row_in}
use Rattle.scr_discounts.specs.declared.known.CurrencyFalls.{CurrencyFalls}

-- the stress of rates that change in a direction (Articles 166 and 167 of Delegated Regulation (EU) 2015/35)
abbrev pub tilt_of : Direction → Tilt
tilt_of directions.Up = tilts.Up
tilt_of directions.Down = tilts.Down

abbrev pub changed : Direction → CurrencyDiscounts → List Ends
changed directions.Up discounts = discounts.up
changed directions.Down discounts = discounts.down

abbrev pub falls_in : Direction → CurrencyFalls → List Ends
falls_in directions.Up falls = falls.up
falls_in directions.Down falls = falls.down

-- the discounts at which a figure's own payments are worth what they are; none of a figure without payments
abbrev pub own_discounts : Own → CurrencyDiscounts
own_discounts (Loss paid) = discounts_at paid.rates
own_discounts (Cost paid) = discounts_at paid.rates
own_discounts (Worth valued) = discounts_at valued.rates
own_discounts (Excess valued stressed) = discounts_at valued.rates
own_discounts other = no_discounts

-- the discounts of a figure's payments, by the currency in which they are paid; none of a figure without payments
abbrev pub discounts_in : BalanceSheet → List CurrencyDiscounts → Node → CurrencyDiscounts
discounts_in sheet rows (nodes.Security name (of_securities.UnitLoss direction)) =
    option_map_or (λ (p : Position). row_in p.security.currency sheet.curves rows) (position_of name sheet.securities) no_discounts
discounts_in sheet rows (nodes.Liability name (of_liabilities.Rate direction)) =
    option_map_or (λ (l : Liability). row_in l.currency sheet.curves rows) (liability_of name sheet.liabilities) no_discounts
discounts_in sheet rows (nodes.Liability name of_liabilities.Present) =
    option_map_or (λ (l : Liability). row_in l.currency sheet.curves rows) (liability_of name sheet.liabilities) no_discounts
discounts_in sheet rows (nodes.Liability name (of_liabilities.Loss projection)) =
    option_map_or (λ (l : Liability). row_in l.currency sheet.curves rows) (liability_of name sheet.liabilities) no_discounts
discounts_in sheet rows node = no_discounts
