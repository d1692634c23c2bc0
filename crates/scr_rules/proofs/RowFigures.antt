-- The figures of a row at hand are those of its nodes: found under its name, its rules are those of its own data.
use Rattle.std.proofs.Common.{◌≡◌, ℕ, ◌*◌, ◌≤◌, ◌<◌, ℤ, pos, ◌≤ℤ◌, List, [], ◌∷◌, Option, Some, None, slice_get, length, map, sum_by, unsigned_abs, refl, sym, ap, subst, ◌∙◌, arith}
use Rattle.std.specs.Prelude.{All}
use Rattle.std.specs.List.{AllByRecursion, range_with_len}
use Rattle.std.specs.Option.{option_map, option_map_or}
use Rattle.std.proofs.lemmas.List.Elements.{All-from_recursion}
use Rattle.scr_num.specs.Rounding.{Ends, exact_ends, sub_ends, max_ends}
use Rattle.scr_dates.specs.declared.day.Day.{Day}
use Rattle.scr_yield_curve.specs.DiscountEnds.{IsDiscount}
use Rattle.scr_yield_curve.specs.declared.table.Discounts.{Discounts}
use Rattle.scr_yield_curve.specs.declared.table.TheConstants.{MAX_DISCOUNT}
use Rattle.scr_factors.specs.Values.{FactorValues}
use Rattle.scr_dates.specs.Payments.{total}
use Rattle.scr_flow.specs.Due.{dues}
use Rattle.scr_flow.specs.Sums.{weighted_ends}
use Rattle.scr_flow.specs.LossEnds.{present_ends}
use Rattle.scr_flow.proofs.SizeLemmas.{dues-within}
use Rattle.scr_profile.specs.declared.limits.TheConstants.{MAX_PROMISED}
use Rattle.scr_sheet.specs.BalanceSheet.{curve_name, position_of}
use Rattle.scr_sheet.specs.CashFlows.{flows_under}
use Rattle.scr_sheet.specs.Validity.{Valid, IsBetween}
use Rattle.scr_sheet.specs.declared.{keys.Projection.Projection, rows.Curve.Curve, rows.Liability.Liability, rows.Position.Position, sheet.BalanceSheet.BalanceSheet}
use Rattle.scr_nodes.specs.OwnOf.{own_of, paid_by_security, paid_by_liability, nothing_paid, valued, bond_stressed}
use Rattle.scr_nodes.specs.Own.Own.{Stressed}
use Rattle.scr_nodes.specs.Rows.{liability_of, step_of}
use Rattle.scr_nodes.specs.declared.node.Direction.{Direction}
use Rattle.scr_nodes.specs.declared.node.Direction.TheVariants as directions
use Rattle.scr_nodes.specs.declared.node.Node.TheVariants as nodes
use Rattle.scr_nodes.specs.declared.node.OfSecurity.TheVariants as of_securities
use Rattle.scr_nodes.specs.declared.node.OfLiability.TheVariants as of_liabilities
use Rattle.scr_rules.specs.ByRow.{by_rule}
use Rattle.scr_discounts.specs.Discounts.{CurrencyDiscounts, no_discounts}
use Rattle.scr_rules.specs.Fits.{Fits, FitsPaid}
use Rattle.scr_discounts.specs.Kept.{AreDiscountsOf, row_in, tables, rows_of}
use Rattle.scr_discounts.specs.KeptRates.{AreRatesOf}
use Rattle.scr_rules.specs.Discounts.{falls_in}
use Rattle.scr_rules.specs.LifeRules.{excess_ends, less_at}
use Rattle.scr_rules.specs.MarketFits.{FitsStressed}
use Rattle.scr_rules.specs.MarketRules.{worth_ends, stressed_ends}
use Rattle.scr_rules.specs.Paid.{paid_in, valued_in}
use Rattle.scr_rules.specs.Rules.{paid_ends, amount_of, rule}
use Rattle.scr_discounts.specs.declared.known.CurrencyFalls.{CurrencyFalls}
use Rattle.scr_discounts.specs.declared.known.Rates.{Rates}
use Rattle.scr_rules.proofs.CodeLemmas.{IsRowAt, row-found}
use Rattle.scr_discounts.proofs.FallRows.{place-within}
use Rattle.scr_rules.proofs.FallRows.{kept-paid}
use Rattle.scr_rules.proofs.LifeCode.{flows-are, flows-small, excess-worked}
use Rattle.scr_rules.proofs.LifeSizes.{excess-fits}
use Rattle.scr_rules.proofs.MarketCode.{curve-there, worth-at}
use Rattle.scr_rules.proofs.Payments.{KnownSecurity, KnownLiability, security-known, security-fits, liability-known, liability-fits}

-- ---- a security
module _ (sheet : BalanceSheet) (p : Position) (row : position_of p.security.name sheet.securities ≡ Some p) where
  pub unit-by-rule : (rows : List CurrencyDiscounts) (direction : Direction) (e : Ends)
      → e ≡ paid_ends (paid_in sheet p.security.currency p.security.flows direction) (row_in p.security.currency sheet.curves rows)
      → (factors : FactorValues) → e ≡ by_rule factors sheet rows (nodes.Security p.security.name (of_securities.UnitLoss direction)) []
  unit-by-rule rows direction e is factors =
      subst (λ (o : Option Position). e ≡ paid_ends (option_map_or (paid_by_security sheet direction) o (nothing_paid sheet direction))
      (option_map_or (λ (q : Position). row_in q.security.currency sheet.curves rows) o no_discounts)) (sym row) is

  pub spread-fits : (factors : FactorValues) (total : Ends) → Fits (own_of factors sheet (nodes.Security p.security.name of_securities.Spread)) (total ∷ [])
      → FitsStressed (step_of sheet p) p.security.duration (total ∷ [])
  spread-fits factors total fits = subst (λ (o : Option Position). Fits (option_map_or (bond_stressed factors sheet) o (Stressed factors None 0)) (total ∷ [])) row fits

  pub spread-by-rule : (factors : FactorValues) (total e : Ends) → e ≡ stressed_ends factors (step_of sheet p) p.security.duration (amount_of total)
      → e ≡ by_rule factors sheet [] (nodes.Security p.security.name of_securities.Spread) (total ∷ [])
  spread-by-rule factors total e is =
      subst (λ (o : Option Position). e ≡ rule (option_map_or (bond_stressed factors sheet) o (Stressed factors None 0)) no_discounts (total ∷ [])) (sym row) is

  module _ (valid : Valid sheet) where
    pub known-here : KnownSecurity sheet valid p
    known-here = security-known sheet valid p.security.name p row

    pub fits-here : FitsPaid (paid_in sheet p.security.currency p.security.flows directions.Up)
    fits-here = security-fits sheet valid directions.Up p known-here

    pub promised : All (λ payment. pos 0 ≤ℤ payment.1) p.security.flows
    promised = All-from_recursion (λ (payment : Day × ℤ). pos 0 ≤ℤ payment.1) p.security.flows (natural p.security.flows known-here.formed.4.1)
      where
        natural : (flows : List (Day × ℤ)) → AllByRecursion (λ flow. IsBetween (pos 0) (pos MAX_PROMISED) flow.1) flows → AllByRecursion (λ payment. pos 0 ≤ℤ payment.1) flows
        natural [] each = tt
        natural (flow ∷ flows) each = (each.0.0, natural flows each.1)

    pub total-promised : total p.security.flows ≤ 5_000_000
    total-promised = known-here.formed.4.3

-- what 1,000,000 lose of so much that is promised for them
pub unit-small : (size total : ℕ) → size ≤ MAX_DISCOUNT * total → total ≤ 5_000_000 → size ≤ 13_700_000_000_000_000_000_000_000
unit-small size total le few = omega (arith, le, few)

-- ---- a liability
module _ (sheet : BalanceSheet) (l : Liability) (row : liability_of l.name sheet.liabilities ≡ Some l) where
  module _ (rows : List CurrencyDiscounts) (e : Ends) where
    pub rate-by-rule : (direction : Direction) → e ≡ sub_ends (exact_ends (pos 0)) (paid_ends (paid_in sheet l.currency l.flows.base direction) (row_in l.currency sheet.curves rows))
        → (factors : FactorValues) → e ≡ by_rule factors sheet rows (nodes.Liability l.name (of_liabilities.Rate direction)) []
    rate-by-rule direction is factors =
        subst (λ (o : Option Liability). e ≡ sub_ends (exact_ends (pos 0)) (paid_ends (option_map_or (paid_by_liability sheet direction) o (nothing_paid sheet direction))
        (option_map_or (λ (q : Liability). row_in q.currency sheet.curves rows) o no_discounts))) (sym row) is

    pub present-by-rule : e ≡ worth_ends (valued_in sheet l.currency l.flows.base) (row_in l.currency sheet.curves rows)
        → (factors : FactorValues) → e ≡ by_rule factors sheet rows (nodes.Liability l.name of_liabilities.Present) []
    present-by-rule is factors =
        subst (λ (o : Option Liability). e ≡ worth_ends (option_map_or (valued sheet) o (record { asof = sheet.numbers.asof.number; payments = []; rates = [] }))
        (option_map_or (λ (q : Liability). row_in q.currency sheet.curves rows) o no_discounts)) (sym row) is

    pub loss-by-rule : (projection : Projection) → e ≡ excess_ends (valued_in sheet l.currency l.flows.base) (flows_under projection l.flows) (row_in l.currency sheet.curves rows)
        → (factors : FactorValues) → e ≡ by_rule factors sheet rows (nodes.Liability l.name (of_liabilities.Loss projection)) []
    loss-by-rule projection is factors =
        subst (λ (o : Option Liability). e ≡ excess_ends (option_map_or (valued sheet) o (record { asof = sheet.numbers.asof.number; payments = []; rates = [] }))
        (option_map_or (λ (q : Liability). flows_under projection q.flows) o []) (option_map_or (λ (q : Liability). row_in q.currency sheet.curves rows) o no_discounts)) (sym row) is

  module _ (valid : Valid sheet) where
    pub owed-known : KnownLiability sheet valid l
    owed-known = liability-known sheet valid l.name l row

    pub owed-fits : FitsPaid (paid_in sheet l.currency l.flows.base directions.Up)
    owed-fits = liability-fits sheet valid directions.Up l owed-known

    -- the row of discounts and the falls at the place of its currency
    module _ (rows : List (List Discounts)) (k : ℕ) (are : AreDiscountsOf sheet.curves (rows_of rows)) (named : option_map curve_name (slice_get sheet.curves k) ≡ Some l.currency) where
      pub curve-here : (curve : Curve) × (slice_get sheet.curves k ≡ Some curve)
      curve-here = curve-there (slice_get sheet.curves k) l.currency named

      pub row-within : k < length rows
      row-within = let curve = curve-here in place-within sheet rows k curve.0 are curve.1

      pub row-here : (found : List Discounts) → slice_get rows k ≡ Some found → IsRowAt l.currency sheet.curves (rows_of rows) (tables found) curve-here.0.rates
      row-here found there = let curve = curve-here in row-found sheet valid l.currency rows k curve.0 found are named curve.1 there

      pub row-in-range : (found : List Discounts) → slice_get rows k ≡ Some found → All IsDiscount (tables found).base
      row-in-range found there = (row-here found there).discounts.base.in_range

      pub present-here : (found : List Discounts) (flows : List ℤ) (e : Ends) → slice_get rows k ≡ Some found → flows ≡ dues sheet.numbers.asof.number l.flows.base
          → e ≡ present_ends flows (tables found).base → (factors : FactorValues) → e ≡ by_rule factors sheet (rows_of rows) (nodes.Liability l.name of_liabilities.Present) []
      present-here found flows e there due is =
          present-by-rule (rows_of rows) e (worth-at sheet l.currency l.flows.base (rows_of rows) (tables found) curve-here.0.rates flows e (tables found).base (row-here found there) due refl is)

      pub loss-here : (found : List Discounts) (stressed base : List ℤ) (projection : Projection) (e : Ends) → slice_get rows k ≡ Some found
          → stressed ≡ dues sheet.numbers.asof.number (flows_under projection l.flows) → base ≡ dues sheet.numbers.asof.number l.flows.base
          → e ≡ max_ends (present_ends (map (less_at stressed base) (range_with_len 0 100)) (tables found).base) (exact_ends (pos 0))
          → (factors : FactorValues) → e ≡ by_rule factors sheet (rows_of rows) (nodes.Liability l.name (of_liabilities.Loss projection)) []
      loss-here found stressed base projection e there due due' is =
          let flows = map (less_at stressed base) (range_with_len 0 100) in
          loss-by-rule (rows_of rows) e projection
          (excess-worked sheet l.currency (flows_under projection l.flows) l.flows.base (rows_of rows) (tables found) curve-here.0.rates flows (tables found).base e (row-here found there) refl
          (flows-are sheet.numbers.asof.number (flows_under projection l.flows) l.flows.base stressed base flows due due' refl) is)

      pub rate-here : (kept : Rates) → AreRatesOf sheet (rows_of rows) kept → (direction : Direction) (flows : List ℤ) (falls : List Ends) (e : Ends)
          → ((fall : CurrencyFalls) → slice_get kept.falls.items k ≡ Some fall → falls ≡ falls_in direction fall) → flows ≡ dues sheet.numbers.asof.number l.flows.base
          → e ≡ sub_ends (exact_ends (pos 0)) (weighted_ends flows falls) → (factors : FactorValues) → e ≡ by_rule factors sheet (rows_of rows) (nodes.Liability l.name (of_liabilities.Rate direction)) []
      rate-here kept rates direction flows falls e at due is =
          rate-by-rule (rows_of rows) e direction
          (is ∙ ap (sub_ends (exact_ends (pos 0))) (kept-paid sheet valid l.currency rows kept k are rates named l.flows.base direction flows falls (weighted_ends flows falls) at due refl))

    pub base-small : (base : List ℤ) → base ≡ dues sheet.numbers.asof.number l.flows.base → sum_by unsigned_abs base ≤ 50_000_000_000_000
    base-small base due =
        let few = owed-fits.small in
        subst (λ (xs : List ℤ). sum_by unsigned_abs xs ≤ 50_000_000_000_000) (sym due) (omega (arith, few, dues-within sheet.numbers.asof.number l.flows.base))

    pub less-small : (stressed base : List ℤ) (projection : Projection) → stressed ≡ dues sheet.numbers.asof.number (flows_under projection l.flows) → base ≡ dues sheet.numbers.asof.number l.flows.base
        → sum_by unsigned_abs (map (less_at stressed base) (range_with_len 0 100)) ≤ 100_000_000_000_000
    less-small stressed base projection due due' =
        subst (λ (xs : List ℤ). sum_by unsigned_abs xs ≤ 100_000_000_000_000)
        (sym (flows-are sheet.numbers.asof.number (flows_under projection l.flows) l.flows.base stressed base (map (less_at stressed base) (range_with_len 0 100)) due due' refl))
        (flows-small (valued_in sheet l.currency l.flows.base) (flows_under projection l.flows) (excess-fits sheet valid projection l.name l row))
