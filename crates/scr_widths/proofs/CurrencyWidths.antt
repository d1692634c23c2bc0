-- How far apart the worked figures of currency risk are.
use Rattle.std.proofs.Common.{◌≡◌, ◌∙◌, ℕ, ◌+◌, ◌*◌, ◌/◌, ◌≤◌, true, List, [], ◌∷◌, length, map, filter, sum_by, unsigned_abs, pos, sym, subst, Some, if◌then◌else◌, arith, lit<}
use Rattle.std.specs.List.{AllByRecursion}
use Rattle.std.proofs.lemmas.List.Sums.{sum_by-le-sum_by}
use Rattle.scr_num.specs.Narrow.{IsNarrow}
use Rattle.scr_num.specs.Rounding.{Ends, exact_ends, sub_ends, scale_ends}
use Rattle.scr_num.specs.Sums.{sum_ends}
use Rattle.scr_num.proofs.Spreads.{narrow-wider, narrow-scale, narrow-max}
use Rattle.scr_agg.specs.Unbeaten.{Alternative, HasSeveral, mask_of}
use Rattle.scr_agg.proofs.ChoiceWidths.{narrow-chosen_gross, narrow-chosen_net}
use Rattle.scr_yield_curve.specs.Parts.{IsCurveInMillionths, rates_in_parts}
use Rattle.scr_yield_curve.specs.DiscountEnds.{table_ends}
use Rattle.scr_yield_curve.specs.declared.tilt.Tilt.TheVariants as tilts
use Rattle.scr_flow.specs.Due.{dues}
use Rattle.scr_flow.proofs.SizeLemmas.{dues-within}
use Rattle.scr_flow.proofs.WidthLemmas.{narrow-present}
use Rattle.scr_factors.specs.Values.{FactorValues}
use Rattle.scr_market.specs.CurrencyEnds.{fine_ends, quarter_ends}
use Rattle.scr_tables.specs.Names.{same_name}
use Rattle.scr_tables.proofs.TableRows.{All-map}
use Rattle.scr_sheet.specs.BalanceSheet.{liability_name, curve_name}
use Rattle.scr_sheet.specs.CashFlows.{total}
use Rattle.scr_sheet.specs.Validity.{Valid}
use Rattle.scr_sheet.specs.declared.keys.Projection.TheVariants.{Base}
use Rattle.scr_sheet.specs.declared.{rows.Curve.Curve, rows.Liability.Liability, sheet.BalanceSheet.BalanceSheet}
use Rattle.scr_nodes.specs.declared.{node.Direction.Direction, node.Measure.Measure, node.Node.Node}
use Rattle.scr_nodes.specs.declared.node.Direction.TheVariants as directions
use Rattle.scr_nodes.specs.declared.node.Measure.TheVariants as measures
use Rattle.scr_nodes.specs.declared.node.Node.TheVariants as nodes
use Rattle.scr_nodes.specs.declared.node.OfLiability.TheVariants as of_liabilities
use Rattle.scr_nodes.specs.declared.node.OfCurrency.TheVariants as of_currencies
use Rattle.scr_nodes.specs.declared.node.Whole.TheVariants as wholes
use Rattle.scr_nodes.specs.Own.{Valued}
use Rattle.scr_nodes.specs.OwnOf.{valued, currency_absorbed}
use Rattle.scr_nodes.specs.Rows.{is_foreign, is_owed_in, liability_of}
use Rattle.scr_nodes.specs.Sources.{liability_present, currency_picked}
use Rattle.scr_nodes.proofs.OwnRows.{own-liabilities}
use Rattle.scr_discounts.specs.Discounts.{discounts_at}
use Rattle.scr_rules.specs.Alternatives.{currency_alternatives}
use Rattle.scr_rules.specs.Holdings.{assets_in}
use Rattle.scr_rules.specs.MarketRules.{worth_ends, foreign_ends}
use Rattle.scr_rules.specs.Rules.{amount_of}
use Rattle.scr_rules.specs.Worked.{worked}
use Rattle.scr_rules.proofs.Currencies.{most_in, each-row-once}
use Rattle.scr_rules.proofs.Equations.{worked-equation}
use Rattle.scr_rules.proofs.MarketSizes.{present-worked, change-worked, currency-worked, owed_ends}
use Rattle.scr_rules.proofs.MarketSums.{all-times}
use Rattle.scr_rules.proofs.Payments.{liability-known, liability-fits}
use Rattle.scr_widths.specs.Widths.{currency_width, payments_width, scale_of}
use Rattle.scr_widths.proofs.Cleared.{Clear, clear-choice, clear-sources, each-passing, not-several}
use Rattle.scr_widths.proofs.InterestWidths.{narrow-discounts_at}
use Rattle.scr_widths.proofs.Loads.{flows-loaded}
use Rattle.scr_widths.proofs.SumWidths.{narrow-number, narrow-less, narrow-from, narrow-net, narrow-rows, shares-within, at-most}

-- what payments of at most so many cents are worth
pub narrow-worth : (valued : Valued) (most : ℕ) → IsCurveInMillionths valued.rates → total valued.payments ≤ most
    → IsNarrow (548 * most) (worth_ends valued (discounts_at valued.rates))
unfolding worth_ends discounts_at
narrow-worth valued most curve small =
    narrow-wider (548 * sum_by unsigned_abs (dues valued.asof valued.payments)) (548 * most) _
    (omega (arith, small, dues-within valued.asof valued.payments))
    (narrow-present 548 (dues valued.asof valued.payments) (table_ends (rates_in_parts valued.rates tilts.Base))
    (narrow-discounts_at valued.rates tilts.Base curve))

-- a quarter, in grains
narrow-quarter : (w k : ℕ) (e : Ends) → w ≤ k * 4_000_000_000_000_000 → IsNarrow w e → IsNarrow (k + 1) (quarter_ends e)
narrow-quarter w k e le h =
    narrow-max (k + 1) (exact_ends (pos 0)) (scale_ends e 1 4_000_000_000_000_000) (narrow-number (k + 1) 0)
    (narrow-scale w k 1 4_000_000_000_000_000 e (lit< tt) (omega (arith, le)) h)

narrow-foreign : (w k assets : ℕ) (direction : Direction) (owed : Ends) → w ≤ k * 4_000_000_000_000_000 → IsNarrow w owed
    → IsNarrow (k + 1) (foreign_ends direction assets owed)
narrow-foreign w k assets directions.Up owed le h =
    narrow-quarter w k (sub_ends owed (fine_ends assets)) le (narrow-less w (1_000_000_000_000_000_000 * assets) owed h)
narrow-foreign w k assets directions.Down owed le h =
    narrow-quarter w k (sub_ends (fine_ends assets) owed) le (narrow-from w (1_000_000_000_000_000_000 * assets) owed h)

module _ (factors : FactorValues) (sheet : BalanceSheet) (valid : Valid sheet) where
  abbrev figure : Node → Ends
  figure node = worked factors sheet node

  present-narrow : (name : List ℕ) (l : Liability) → liability_of name sheet.liabilities ≡ Some l
      → IsNarrow (548 * total l.flows.base) (figure (nodes.Liability name of_liabilities.Present))
  present-narrow name l is =
      let fits = liability-fits sheet valid directions.Up l (liability-known sheet valid name l is) in
      subst (IsNarrow (548 * total l.flows.base)) (sym (present-worked factors sheet valid name l is))
      (narrow-worth (valued sheet l) (total l.flows.base) fits.rates (omega arith))

  -- ---- one currency
  abbrev liability_width : Liability → ℕ
  liability_width l = 548 * total l.flows.base

  abbrev owed_width : List ℕ → ℕ
  owed_width currency = sum_by (most_in curve_name (λ (l : Liability). l.currency) liability_width currency) sheet.liabilities

  owed-narrow : (currency : List ℕ) → IsNarrow (owed_width currency) (sum_ends (owed_ends factors sheet valid currency))
  owed-narrow currency =
      narrow-rows figure liability_present (is_owed_in currency) liability_width sheet.liabilities
      (All-map (λ l. liability_of (liability_name l) sheet.liabilities ≡ Some l) _ sheet.liabilities
      (λ l own e. present-narrow (liability_name l) l own) (own-liabilities sheet valid))

  abbrev change_width : List ℕ → ℕ
  change_width currency = owed_width currency / 4_000_000_000_000_000 + 2

  change-gross : (direction : Direction) (currency : List ℕ)
      → IsNarrow (change_width currency) (figure (nodes.Currency currency (of_currencies.Scenario direction measures.Gross)))
  change-gross direction currency =
      subst (IsNarrow (change_width currency)) (sym (change-worked factors sheet valid direction currency))
      (narrow-wider (owed_width currency / 4_000_000_000_000_000 + 1 + 1) (change_width currency) _ (omega arith)
      (narrow-foreign (owed_width currency) (owed_width currency / 4_000_000_000_000_000 + 1) (assets_in currency sheet) direction
      (sum_ends (owed_ends factors sheet valid currency)) (next (owed_width currency)) (owed-narrow currency)))
    where
      next : (n : ℕ) → n ≤ (n / 4_000_000_000_000_000 + 1) * 4_000_000_000_000_000
      next n = omega arith

  change-narrow : (direction : Direction) (measure : Measure) (currency : List ℕ)
      → IsNarrow (change_width currency) (figure (nodes.Currency currency (of_currencies.Scenario direction measure)))
  change-narrow direction measures.Gross currency = change-gross direction currency
  change-narrow direction measures.Net currency =
      subst (IsNarrow (change_width currency))
      (sym (worked-equation factors sheet valid (nodes.Currency currency (of_currencies.Scenario direction measures.Net))))
      (narrow-net (change_width currency) (currency_absorbed sheet currency direction)
      (figure (nodes.Currency currency (of_currencies.Scenario direction measures.Gross))) (change-gross direction currency))

  alternatives-gross : (currency : List ℕ)
      → AllByRecursion (λ (a : Alternative). IsNarrow (change_width currency) a.gross) (currency_alternatives (worked factors sheet) currency)
  alternatives-gross currency = (change-narrow directions.Up measures.Gross currency, (change-narrow directions.Down measures.Gross currency, tt))

  alternatives-net : (currency : List ℕ)
      → AllByRecursion (λ (a : Alternative). IsNarrow (change_width currency) a.net) (currency_alternatives (worked factors sheet) currency)
  alternatives-net currency = (change-narrow directions.Up measures.Net currency, (change-narrow directions.Down measures.Net currency, tt))

  one-decides : (currency : List ℕ) → Clear factors sheet valid (nodes.Currency currency of_currencies.Choice)
      → HasSeveral (mask_of (currency_alternatives (worked factors sheet) currency)) → ⊥
  one-decides currency clear =
      subst (λ (e : Ends). HasSeveral (amount_of e) → ⊥)
      (worked-equation factors sheet valid (nodes.Currency currency of_currencies.Choice))
      (not-several (figure (nodes.Currency currency of_currencies.Choice))
      (clear-choice factors sheet valid (nodes.Currency currency of_currencies.Choice) clear))

  picked-narrow : (measure : Measure) (currency : List ℕ) → Clear factors sheet valid (nodes.Currency currency (of_currencies.Picked measure))
      → IsNarrow (change_width currency) (figure (nodes.Currency currency (of_currencies.Picked measure)))
  picked-narrow measures.Gross currency clear =
      let below = clear-sources factors sheet valid (nodes.Currency currency (of_currencies.Picked measures.Gross)) clear in
      subst (IsNarrow (change_width currency))
      (sym (worked-equation factors sheet valid (nodes.Currency currency (of_currencies.Picked measures.Gross))))
      (narrow-chosen_gross (change_width currency) (currency_alternatives (worked factors sheet) currency) (alternatives-gross currency)
      (one-decides currency below.1.1.1.1.0))
  picked-narrow measures.Net currency clear =
      subst (IsNarrow (change_width currency))
      (sym (worked-equation factors sheet valid (nodes.Currency currency (of_currencies.Picked measures.Net))))
      (narrow-chosen_net (change_width currency) (currency_alternatives (worked factors sheet) currency) (alternatives-net currency))

  -- ---- the payments of all liabilities
  all-owed : sum_by (λ (c : Curve). owed_width c.currency) sheet.curves ≤ 548 * ((scale_of sheet).multiple * 10_000_000_000_000)
  all-owed =
      let once = each-row-once curve_name (λ (l : Liability). l.currency) liability_width sheet.curves sheet.liabilities valid.currencies_once in
      omega (arith, once, flows-loaded sheet Base, all-times 548 (λ (l : Liability). total l.flows.base) sheet.liabilities)

  owed-part : (currency : List ℕ) → owed_width currency ≤ 548 * ((scale_of sheet).multiple * 10_000_000_000_000)
  owed-part currency =
      let some = sum_by-le-sum_by (most_in curve_name (λ (l : Liability). l.currency) liability_width currency) liability_width sheet.liabilities (λ l. at-most (same_name currency l.currency) (liability_width l)) in
      omega (arith, some, flows-loaded sheet Base, all-times 548 (λ (l : Liability). total l.flows.base) sheet.liabilities)

  -- so one currency is within the width of interest rate risk
  pub one-within : (currency : List ℕ) → change_width currency ≤ payments_width (scale_of sheet)
  one-within currency = by (owed_width currency) (scale_of sheet).multiple (owed-part currency) (omega arith)
    where
      by : (n m : ℕ) → n ≤ 548 * (m * 10_000_000_000_000) → 1 ≤ m → n / 4_000_000_000_000_000 + 2 ≤ 16 * m
      by n m le some = omega (arith, le, some)

  pub near-gross : (currency : List ℕ)
      → AllByRecursion (λ (a : Alternative). IsNarrow (payments_width (scale_of sheet)) a.gross) (currency_alternatives (worked factors sheet) currency)
  near-gross currency =
      let w = payments_width (scale_of sheet) in
      let le = one-within currency in
      (narrow-wider _ w _ le (change-narrow directions.Up measures.Gross currency), (narrow-wider _ w _ le (change-narrow directions.Down measures.Gross currency), tt))

  pub near-net : (currency : List ℕ)
      → AllByRecursion (λ (a : Alternative). IsNarrow (payments_width (scale_of sheet)) a.net) (currency_alternatives (worked factors sheet) currency)
  near-net currency =
      let w = payments_width (scale_of sheet) in
      let le = one-within currency in
      (narrow-wider _ w _ le (change-narrow directions.Up measures.Net currency), (narrow-wider _ w _ le (change-narrow directions.Down measures.Net currency), tt))

  -- ---- all foreign currencies
  together : sum_by (λ (c : Curve). if is_foreign sheet c then change_width c.currency else 0) sheet.curves ≤ currency_width (scale_of sheet)
  together =
      let shares = shares-within 4_000_000_000_000_000 (is_foreign sheet) (λ (c : Curve). owed_width c.currency) sheet.curves in
      let owed = all-owed in
      omega (arith, shares, owed)

  pub currency-narrow : (measure : Measure) → Clear factors sheet valid (nodes.Whole (wholes.Currency measure))
      → IsNarrow (currency_width (scale_of sheet)) (figure (nodes.Whole (wholes.Currency measure)))
  currency-narrow measure clear =
      subst (IsNarrow (currency_width (scale_of sheet))) (sym (currency-worked factors sheet valid measure))
      (narrow-wider (sum_by (λ (c : Curve). if is_foreign sheet c then change_width c.currency else 0) sheet.curves)
      (currency_width (scale_of sheet)) _ together
      (narrow-rows figure (currency_picked measure) (is_foreign sheet) (λ (c : Curve). change_width c.currency) sheet.curves
      (All-map (λ c. is_foreign sheet c ≡ true → Clear factors sheet valid (currency_picked measure c)) _ sheet.curves
      (λ c below e. picked-narrow measure c.currency (below e))
      (each-passing (Clear factors sheet valid) (currency_picked measure) (is_foreign sheet) sheet.curves
      (clear-sources factors sheet valid (nodes.Whole (wholes.Currency measure)) clear)))))
