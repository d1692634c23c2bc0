-- The rows of discounts that are kept: they may be discounted by, a currency's row is found under its place, and those of all
-- curves are the discounts of each figure's own rates.
use Rattle.std.proofs.Common.{◌≡◌, ℕ, ◌≤◌, Bool, true, false, List, [], ◌∷◌, Option, Some, None, length, map, if◌then◌else◌, refl, ◌∙◌, arith}
use Rattle.std.specs.Option.{option_map_or}
use Rattle.scr_num.specs.Rounding.{Ends}
use Rattle.scr_yield_curve.specs.declared.tilt.Tilt.{Tilt}
use Rattle.scr_yield_curve.specs.declared.tilt.Tilt.TheVariants as tilts
use Rattle.scr_factors.specs.Values.{FactorValues}
use Rattle.scr_tables.specs.Names.{same_name}
use Rattle.scr_profile.specs.declared.group_kind.GroupKind.TheVariants as kinds
use Rattle.scr_tables.specs.Tables.{row_of}
use Rattle.scr_sheet.specs.BalanceSheet.{curve_name, position_of}
use Rattle.scr_sheet.specs.CashFlows.{flows_under}
use Rattle.scr_sheet.specs.declared.{keys.Projection.Projection, rows.Curve.Curve, rows.Group.Group, rows.Liability.Liability, rows.Position.Position, sheet.BalanceSheet.BalanceSheet}
use Rattle.scr_nodes.specs.declared.{node.Direction.Direction, node.Node.Node}
use Rattle.scr_nodes.specs.declared.node.Measure.TheVariants as measures
use Rattle.scr_nodes.specs.declared.node.Node.TheVariants as nodes
use Rattle.scr_nodes.specs.declared.node.OfFund.TheVariants as of_funds
use Rattle.scr_nodes.specs.declared.node.OfSecurity.TheVariants as of_securities
use Rattle.scr_nodes.specs.declared.node.OfLiability.TheVariants as of_liabilities
use Rattle.scr_nodes.specs.declared.node.OfCurrency.TheVariants as of_currencies
use Rattle.scr_nodes.specs.declared.node.OfGroup.TheVariants as of_groups
use Rattle.scr_nodes.specs.declared.node.Whole.TheVariants as wholes
use Rattle.scr_nodes.specs.OwnOf.{own_of, paid_by_security, paid_by_liability, nothing_paid, valued, bond_stressed, group_square}
use Rattle.scr_nodes.specs.Own.{Valued}
use Rattle.scr_nodes.specs.Own.Own.{Stressed, Square}
use Rattle.scr_nodes.specs.declared.node.Adjustment.TheVariants as adjustments
use Rattle.scr_nodes.specs.declared.node.Operational.TheVariants as operations
use Rattle.scr_nodes.specs.Rows.{group_of, liability_of, rates_of}
use Rattle.scr_discounts.specs.Discounts.{discounts_at, no_discounts}
use Rattle.scr_rules.specs.Discounts.{own_discounts, discounts_in}
use Rattle.scr_rules.specs.Fits.{Fits, FitsPaid}
use Rattle.scr_rules.specs.MarketFits.{FitsWorth}
use Rattle.scr_rules.specs.LifeFits.{FitsExcess}
use Rattle.scr_discounts.specs.Kept.{row_in, all_discounts}

-- ---- the row of a currency
row-here : (currency : List ℕ) (curves : List Curve) → row_in currency curves (map (λ (curve : Curve). discounts_at curve.rates) curves)
    ≡ option_map_or (λ (curve : Curve). discounts_at curve.rates) (row_of curve_name currency curves) no_discounts
row-here currency [] = refl
row-here currency (curve ∷ curves) = by (same_name currency curve.currency) (row-here currency curves)
  where
    by : (b : Bool) → row_in currency curves (map (λ (c : Curve). discounts_at c.rates) curves) ≡ option_map_or (λ (c : Curve). discounts_at c.rates) (row_of curve_name currency curves) no_discounts
        → (if b then discounts_at curve.rates else row_in currency curves (map (λ (c : Curve). discounts_at c.rates) curves))
        ≡ option_map_or (λ (c : Curve). discounts_at c.rates) (if b then Some curve else row_of curve_name currency curves) no_discounts
    by true later = refl
    by false later = later

-- where there are rates, a currency has a curve
rates-there : (found : Option Curve) → 1 ≤ length (option_map_or (λ (curve : Curve). curve.rates) found [])
    → option_map_or (λ (curve : Curve). discounts_at curve.rates) found no_discounts ≡ discounts_at (option_map_or (λ (curve : Curve). curve.rates) found [])
rates-there None some = absurd (omega (arith, some))
rates-there (Some curve) some = refl

currency-row : (sheet : BalanceSheet) (currency : List ℕ) → 1 ≤ length (rates_of currency sheet) → row_in currency sheet.curves (all_discounts sheet) ≡ discounts_at (rates_of currency sheet)
currency-row sheet currency some = row-here currency sheet.curves ∙ rates-there (row_of curve_name currency sheet.curves) some

security-row : (sheet : BalanceSheet) (direction : Direction) (found : Option Position) → FitsPaid (option_map_or (paid_by_security sheet direction) found (nothing_paid sheet direction))
    → option_map_or (λ (p : Position). row_in p.security.currency sheet.curves (all_discounts sheet)) found no_discounts
    ≡ discounts_at (option_map_or (paid_by_security sheet direction) found (nothing_paid sheet direction)).rates
security-row sheet direction None fits = absurd (let some = fits.rates.some in omega (arith, some))
security-row sheet direction (Some p) fits = currency-row sheet p.security.currency fits.rates.some

liability-row : (sheet : BalanceSheet) (direction : Direction) (found : Option Liability) → FitsPaid (option_map_or (paid_by_liability sheet direction) found (nothing_paid sheet direction))
    → option_map_or (λ (l : Liability). row_in l.currency sheet.curves (all_discounts sheet)) found no_discounts
    ≡ discounts_at (option_map_or (paid_by_liability sheet direction) found (nothing_paid sheet direction)).rates
liability-row sheet direction None fits = absurd (let some = fits.rates.some in omega (arith, some))
liability-row sheet direction (Some l) fits = currency-row sheet l.currency fits.rates.some

worth-row : (sheet : BalanceSheet) (found : Option Liability) → FitsWorth (option_map_or (valued sheet) found (record { asof = sheet.numbers.asof.number; payments = []; rates = [] }))
    → option_map_or (λ (l : Liability). row_in l.currency sheet.curves (all_discounts sheet)) found no_discounts
    ≡ discounts_at (option_map_or (valued sheet) found (record { asof = sheet.numbers.asof.number; payments = []; rates = [] })).rates
worth-row sheet None fits = absurd (let some = fits.rates.some in omega (arith, some))
worth-row sheet (Some l) fits = currency-row sheet l.currency fits.rates.some

-- bonds and groups have no payments of their own
bond-row : (factors : FactorValues) (sheet : BalanceSheet) (found : Option Position)
    → no_discounts ≡ own_discounts (option_map_or (bond_stressed factors sheet) found (Stressed factors None 0))
bond-row factors sheet None = refl
bond-row factors sheet (Some p) = refl

group-row : (found : Option Group) → no_discounts ≡ own_discounts (option_map_or group_square found (Square kinds.Name None))
group-row None = refl
group-row (Some g) = refl

-- what is paid where there is no liability
abbrev nothing_valued : BalanceSheet → Valued
nothing_valued sheet = record { asof = sheet.numbers.asof.number; payments = []; rates = [] }

stressed-row : (sheet : BalanceSheet) (projection : Projection) (found : Option Liability)
    → FitsExcess (option_map_or (valued sheet) found (nothing_valued sheet)) (option_map_or (λ liability. flows_under projection liability.flows) found [])
    → option_map_or (λ (l : Liability). row_in l.currency sheet.curves (all_discounts sheet)) found no_discounts
    ≡ discounts_at (option_map_or (valued sheet) found (nothing_valued sheet)).rates
stressed-row sheet projection None fits = absurd (let some = fits.rates.some in omega (arith, some))
stressed-row sheet projection (Some l) fits = currency-row sheet l.currency fits.rates.some

-- of each figure whose rule fits
pub own-row : (factors : FactorValues) (sheet : BalanceSheet) (node : Node) (figures : List Ends) → Fits (own_of factors sheet node) figures
    → discounts_in sheet (all_discounts sheet) node ≡ own_discounts (own_of factors sheet node)
own-row factors sheet (nodes.Fund name of_funds.Total) figures fits = refl
own-row factors sheet (nodes.Security name (of_securities.UnitLoss direction)) figures fits = security-row sheet direction (position_of name sheet.securities) fits
own-row factors sheet (nodes.Liability name (of_liabilities.Rate direction)) figures fits = liability-row sheet direction (liability_of name sheet.liabilities) fits
own-row factors sheet (nodes.Whole (wholes.InterestScenario direction measures.Gross)) figures fits = refl
own-row factors sheet (nodes.Liability name of_liabilities.Present) figures fits = worth-row sheet (liability_of name sheet.liabilities) fits
own-row factors sheet (nodes.Currency currency (of_currencies.Scenario direction measures.Gross)) figures fits = refl
own-row factors sheet (nodes.Security name of_securities.Spread) figures fits = bond-row factors sheet (position_of name sheet.securities)
own-row factors sheet (nodes.Group name of_groups.ConcentrationSquare) figures fits = group-row (group_of name sheet.groups)
own-row factors sheet (nodes.Liability name (of_liabilities.Loss projection)) figures fits = stressed-row sheet projection (liability_of name sheet.liabilities) fits
own-row factors sheet (nodes.Whole (wholes.BioScenario biometric projection measures.Gross)) figures fits = refl
own-row factors sheet (nodes.Whole (wholes.OpPart operations.Premiums)) figures fits = refl
own-row factors sheet (nodes.Whole (wholes.Adjust adjustments.TechnicalProvisions)) figures fits = refl
own-row factors sheet node figures fits = refl
