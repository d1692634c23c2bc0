-- How far apart the worked figures of interest rate risk are, and of the payments that they are reckoned from.
use Rattle.std.proofs.Common.{◌≡◌, ◌∙◌, ℕ, ◌+◌, ◌*◌, ◌≤◌, ℤ, Bool, true, false, List, [], ◌∷◌, ◌++◌, length, map, filter, sum_by, unsigned_abs, pos, sym, ap, subst, Some, if◌then◌else◌, arith, lit<}
use Rattle.std.specs.Prelude.{All}
use Rattle.std.specs.List.{AllByRecursion}
use Rattle.std.proofs.lemmas.List.{map-append}
use Rattle.std.proofs.lemmas.List.Sums.{sum_by-le-sum_by}
use Rattle.scr_num.specs.Narrow.{IsNarrow}
use Rattle.scr_num.specs.Rounding.{Ends, exact_ends, max_ends}
use Rattle.scr_num.specs.Sums.{sum_ends}
use Rattle.scr_num.proofs.Spreads.{narrow-wider, narrow-scale, narrow-max}
use Rattle.scr_agg.specs.Unbeaten.{Alternative, HasSeveral, mask_of}
use Rattle.scr_agg.proofs.ChoiceWidths.{narrow-chosen_gross, narrow-chosen_net}
use Rattle.scr_yield_curve.specs.DiscountEnds.{table_ends}
use Rattle.scr_yield_curve.specs.Parts.{IsCurveInMillionths, rates_in_parts}
use Rattle.scr_yield_curve.specs.declared.tilt.Tilt.{Tilt}
use Rattle.scr_yield_curve.specs.declared.tilt.Tilt.TheVariants as tilts
use Rattle.scr_yield_curve.proofs.DiscountWidths.{narrow-discounts}
use Rattle.scr_yield_curve.proofs.RateLemmas.{rates_in_range, length-rates_in_parts}
use Rattle.scr_flow.specs.Due.{dues}
use Rattle.scr_flow.proofs.SizeLemmas.{dues-within}
use Rattle.scr_flow.proofs.WidthLemmas.{narrow-loss, narrow-scaled}
use Rattle.scr_factors.specs.Values.{FactorValues}
use Rattle.scr_funds.proofs.SumsBy.{sum_by-add}
use Rattle.scr_tables.specs.Names.{same_name}
use Rattle.scr_tables.proofs.TableRows.{All-map}
use Rattle.scr_sheet.specs.Absorptions.{absorbed}
use Rattle.scr_sheet.specs.BalanceSheet.{position_name, liability_name, curve_name, position_of}
use Rattle.scr_sheet.specs.CashFlows.{total}
use Rattle.scr_sheet.specs.Totals.{total_of}
use Rattle.scr_sheet.specs.Validity.{Valid}
use Rattle.scr_sheet.specs.declared.keys.Projection.TheVariants.{Base}
use Rattle.scr_sheet.specs.declared.{rows.Curve.Curve, rows.Liability.Liability, rows.Position.Position, sheet.BalanceSheet.BalanceSheet}
use Rattle.scr_nodes.specs.declared.node.Alternatives.TheVariants as alternatives
use Rattle.scr_nodes.specs.declared.{node.Direction.Direction, node.Measure.Measure, node.Node.Node}
use Rattle.scr_nodes.specs.declared.node.Direction.TheVariants as directions
use Rattle.scr_nodes.specs.declared.node.Measure.TheVariants as measures
use Rattle.scr_nodes.specs.declared.node.Node.TheVariants as nodes
use Rattle.scr_nodes.specs.declared.node.OfSecurity.TheVariants as of_securities
use Rattle.scr_nodes.specs.declared.node.OfLiability.TheVariants as of_liabilities
use Rattle.scr_nodes.specs.declared.node.OfCurrency.TheVariants as of_currencies
use Rattle.scr_nodes.specs.declared.node.Whole.TheVariants as wholes
use Rattle.scr_nodes.specs.Own.{Paid}
use Rattle.scr_nodes.specs.OwnOf.{interest_key, paid_by_security, paid_by_liability}
use Rattle.scr_nodes.specs.Rows.{is_paying, is_paying_in, is_owed_in, liability_of}
use Rattle.scr_nodes.specs.Sources.{security_rate, liability_rate, currency_loss, rates_in}
use Rattle.scr_nodes.proofs.OwnRows.{own-securities, own-liabilities}
use Rattle.scr_rules.specs.Alternatives.{interest_alternatives}
use Rattle.scr_rules.specs.Discounts.{tilt_of, changed}
use Rattle.scr_discounts.specs.Discounts.{discounts_at}
use Rattle.scr_rules.specs.Holdings.{security_cents}
use Rattle.scr_rules.specs.Rules.{amount_of, paid_ends}
use Rattle.scr_rules.specs.Worked.{worked}
use Rattle.scr_rules.proofs.Currencies.{most_in, each-row-once}
use Rattle.scr_rules.proofs.Equations.{worked-equation}
use Rattle.scr_rules.proofs.MarketSums.{all-times}
use Rattle.scr_rules.proofs.Payments.{security-known, liability-known, security-fits, liability-fits, base-is, changed-is}
use Rattle.scr_rules.proofs.Sizes.{unit-worked, rate-worked, cost-worked, lost-worked, gross-worked}
use Rattle.scr_widths.specs.Widths.{payments_width, scale_of}
use Rattle.scr_widths.proofs.Cleared.{Clear, clear-choice, clear-sources, not-several}
use Rattle.scr_widths.proofs.Loads.{loaded}
use Rattle.scr_widths.proofs.SumWidths.{narrow-number, narrow-from, narrow-net, narrow-append, narrow-rows, narrow-all, sum-and-ones, less-one}

-- the discounts of a currency under each stress
pub narrow-discounts_at : (rates : List ℤ) (tilt : Tilt) → IsCurveInMillionths rates
    → All (IsNarrow 548) (table_ends (rates_in_parts rates tilt))
narrow-discounts_at rates tilt curve =
    narrow-discounts (rates_in_parts rates tilt) (rates_in_range rates tilt curve)
    (let count = length-rates_in_parts rates tilt in omega (arith, count))

-- what payments lose, of at most so many cents
pub narrow-paid : (paid : Paid) (most : ℕ) → IsCurveInMillionths paid.rates → total paid.payments ≤ most
    → IsNarrow (1096 * most) (paid_ends paid (discounts_at paid.rates))
unfolding paid_ends
narrow-paid paid most curve small =
    narrow-wider (1096 * sum_by unsigned_abs (dues paid.asof paid.payments)) (1096 * most) _
    (omega (arith, small, dues-within paid.asof paid.payments))
    (narrow-loss 548 (dues paid.asof paid.payments) (rates_in_parts paid.rates tilts.Base)
    (rates_in_parts paid.rates (tilt_of paid.direction)) (discounts_at paid.rates).base
    (changed paid.direction (discounts_at paid.rates))
    (subst (All (IsNarrow 548)) (sym (base-is paid.rates)) (narrow-discounts_at paid.rates tilts.Base curve))
    (subst (All (IsNarrow 548)) (sym (changed-is paid.direction paid.rates))
    (narrow-discounts_at paid.rates (tilt_of paid.direction) curve)))

module _ (factors : FactorValues) (sheet : BalanceSheet) (valid : Valid sheet) where
  abbrev figure : Node → Ends
  figure node = worked factors sheet node

  -- ---- one row
  unit-narrow : (direction : Direction) (name : List ℕ) (p : Position) → position_of name sheet.securities ≡ Some p
      → IsNarrow 5_480_000_000 (figure (nodes.Security name (of_securities.UnitLoss direction)))
  unit-narrow direction name p is =
      let known = security-known sheet valid name p is in
      subst (IsNarrow 5_480_000_000) (sym (unit-worked factors sheet valid direction name p is))
      (narrow-paid (paid_by_security sheet direction p) 5_000_000 (security-fits sheet valid direction p known).rates
      known.formed.4.3)

  rate-narrow : (direction : Direction) (name : List ℕ) (p : Position) → position_of name sheet.securities ≡ Some p
      → IsNarrow (5480 * total_of sheet name + 1) (figure (nodes.Security name (of_securities.Rate direction)))
  rate-narrow direction name p is =
      subst (IsNarrow (5480 * total_of sheet name + 1)) (sym (rate-worked factors sheet valid direction name p is))
      (narrow-scaled 5_480_000_000 (5480 * total_of sheet name)
      (figure (nodes.Security name (of_securities.UnitLoss direction))) (total_of sheet name) (omega arith)
      (unit-narrow direction name p is))

  cost-narrow : (direction : Direction) (name : List ℕ) (l : Liability) → liability_of name sheet.liabilities ≡ Some l
      → IsNarrow (1096 * total l.flows.base) (figure (nodes.Liability name (of_liabilities.Rate direction)))
  cost-narrow direction name l is =
      let fits = liability-fits sheet valid direction l (liability-known sheet valid name l is) in
      subst (IsNarrow (1096 * total l.flows.base)) (sym (cost-worked factors sheet valid direction name l is))
      (narrow-from (1096 * total l.flows.base) 0 _
      (narrow-paid (paid_by_liability sheet direction l) (total l.flows.base) fits.rates (omega arith)))

  -- ---- one currency
  abbrev security_width : Position → ℕ
  security_width p = 5480 * security_cents sheet p + 1

  abbrev liability_width : Liability → ℕ
  liability_width l = 1096 * total l.flows.base

  abbrev loss_width : List ℕ → ℕ
  loss_width currency =
      sum_by (most_in curve_name (λ (p : Position). p.security.currency) security_width currency) sheet.securities
      + sum_by (most_in curve_name (λ (l : Liability). l.currency) liability_width currency) sheet.liabilities

  rates-narrow : (direction : Direction) (currency : List ℕ)
      → IsNarrow (loss_width currency) (sum_ends (map figure (rates_in currency direction sheet)))
  rates-narrow direction currency =
      let paying = map (security_rate direction) (filter (is_paying_in currency) sheet.securities) in
      let owed = map (liability_rate direction) (filter (is_owed_in currency) sheet.liabilities) in
      let first = sum_by (λ p. if is_paying_in currency p then security_width p else 0) sheet.securities in
      let second = sum_by (λ l. if is_owed_in currency l then liability_width l else 0) sheet.liabilities in
      let securities : IsNarrow first (sum_ends (map figure paying)) = narrow-rows figure (security_rate direction) (is_paying_in currency) security_width sheet.securities
      (All-map (λ p. position_of (position_name p) sheet.securities ≡ Some p) _ sheet.securities
      (λ p own e. rate-narrow direction (position_name p) p own) (own-securities sheet valid)) in
      let liabilities : IsNarrow second (sum_ends (map figure owed)) = narrow-rows figure (liability_rate direction) (is_owed_in currency) liability_width sheet.liabilities
      (All-map (λ l. liability_of (liability_name l) sheet.liabilities ≡ Some l) _ sheet.liabilities
      (λ l own e. cost-narrow direction (liability_name l) l own) (own-liabilities sheet valid)) in
      let fewer = sum_by-le-sum_by (λ (p : Position). if is_paying_in currency p then security_width p else 0)
      (most_in curve_name (λ (p : Position). p.security.currency) security_width currency) sheet.securities
      (λ p. less-one (same_name currency p.security.currency) (is_paying p) (security_width p)) in
      subst (λ (es : List Ends). IsNarrow (loss_width currency) (sum_ends es)) (sym (map-append figure paying owed))
      (narrow-wider (first + second) (loss_width currency) (sum_ends (map figure paying ++ map figure owed)) (omega (arith, fewer))
      (narrow-append first second (map figure paying) (map figure owed) securities liabilities))

  lost-narrow : (direction : Direction) (currency : List ℕ)
      → IsNarrow (loss_width currency) (figure (nodes.Currency currency (of_currencies.Loss direction)))
  lost-narrow direction currency =
      subst (IsNarrow (loss_width currency)) (sym (lost-worked factors sheet valid direction currency))
      (narrow-max (loss_width currency) (exact_ends (pos 0)) (sum_ends (map figure (rates_in currency direction sheet)))
      (narrow-number (loss_width currency) 0) (rates-narrow direction currency))

  -- ---- all currencies
  abbrev multiple : ℕ
  multiple = (scale_of sheet).multiple

  all-losses : sum_by (λ (c : Curve). loss_width c.currency) sheet.curves ≤ 11 * multiple * 1_000_000_000_000_000
  all-losses =
      let securities = each-row-once curve_name (λ (p : Position). p.security.currency) security_width sheet.curves
      sheet.securities valid.currencies_once in
      let liabilities = each-row-once curve_name (λ (l : Liability). l.currency) liability_width sheet.curves
      sheet.liabilities valid.currencies_once in
      let parts = sum_by-add
      (λ (c : Curve). sum_by (most_in curve_name (λ (p : Position). p.security.currency) security_width c.currency) sheet.securities)
      (λ (c : Curve). sum_by (most_in curve_name (λ (l : Liability). l.currency) liability_width c.currency) sheet.liabilities)
      sheet.curves in
      omega (
        arith,
        securities,
        liabilities,
        parts,
        loaded sheet Base,
        valid.within.securities,
        sum-and-ones 5480 (security_cents sheet) sheet.securities,
        all-times 1096 (λ (l : Liability). total l.flows.base) sheet.liabilities,
      )

  gross-narrow : (direction : Direction)
      → IsNarrow (payments_width (scale_of sheet)) (figure (nodes.Whole (wholes.InterestScenario direction measures.Gross)))
  gross-narrow direction =
      subst (IsNarrow (payments_width (scale_of sheet))) (sym (gross-worked factors sheet valid direction))
      (narrow-wider (11 * multiple + 1) (payments_width (scale_of sheet)) _ (omega arith)
      (narrow-scale (sum_by (λ (c : Curve). loss_width c.currency) sheet.curves) (11 * multiple) 1 1_000_000_000_000_000
      (sum_ends (map figure (map (currency_loss direction) sheet.curves))) (lit< tt) (let all = all-losses in omega (arith, all))
      (narrow-all figure (currency_loss direction) (λ (c : Curve). loss_width c.currency) sheet.curves (each sheet.curves))))
    where
      each : (curves : List Curve) → AllByRecursion (λ c. IsNarrow (loss_width c.currency) (figure (currency_loss direction c))) curves
      each [] = tt
      each (c ∷ curves) = (lost-narrow direction c.currency, each curves)

  pub scenario-narrow : (direction : Direction) (measure : Measure)
      → IsNarrow (payments_width (scale_of sheet)) (figure (nodes.Whole (wholes.InterestScenario direction measure)))
  scenario-narrow direction measures.Gross = gross-narrow direction
  scenario-narrow direction measures.Net =
      subst (IsNarrow (payments_width (scale_of sheet)))
      (sym (worked-equation factors sheet valid (nodes.Whole (wholes.InterestScenario direction measures.Net))))
      (narrow-net (payments_width (scale_of sheet)) (absorbed (interest_key direction) sheet.numbers)
      (figure (nodes.Whole (wholes.InterestScenario direction measures.Gross))) (gross-narrow direction))

  -- ---- the one that decides
  pub alternatives-gross : AllByRecursion (λ (a : Alternative). IsNarrow (payments_width (scale_of sheet)) a.gross) (interest_alternatives (worked factors sheet))
  alternatives-gross = (scenario-narrow directions.Up measures.Gross, (scenario-narrow directions.Down measures.Gross, tt))

  pub alternatives-net : AllByRecursion (λ (a : Alternative). IsNarrow (payments_width (scale_of sheet)) a.net) (interest_alternatives (worked factors sheet))
  alternatives-net = (scenario-narrow directions.Up measures.Net, (scenario-narrow directions.Down measures.Net, tt))

  pub one-decides : Clear factors sheet valid (nodes.Whole (wholes.Choice alternatives.Interest))
      → HasSeveral (mask_of (interest_alternatives (worked factors sheet))) → ⊥
  one-decides clear =
      subst (λ (e : Ends). HasSeveral (amount_of e) → ⊥)
      (worked-equation factors sheet valid (nodes.Whole (wholes.Choice alternatives.Interest)))
      (not-several (figure (nodes.Whole (wholes.Choice alternatives.Interest)))
      (clear-choice factors sheet valid (nodes.Whole (wholes.Choice alternatives.Interest)) clear))

  pub interest-narrow : (measure : Measure) → Clear factors sheet valid (nodes.Whole (wholes.Picked alternatives.Interest measure))
      → IsNarrow (payments_width (scale_of sheet)) (figure (nodes.Whole (wholes.Picked alternatives.Interest measure)))
  interest-narrow measures.Gross clear =
      let below = clear-sources factors sheet valid (nodes.Whole (wholes.Picked alternatives.Interest measures.Gross)) clear in
      subst (IsNarrow (payments_width (scale_of sheet)))
      (sym (worked-equation factors sheet valid (nodes.Whole (wholes.Picked alternatives.Interest measures.Gross))))
      (narrow-chosen_gross (payments_width (scale_of sheet)) (interest_alternatives (worked factors sheet)) alternatives-gross
      (one-decides below.1.1.1.1.0))
  interest-narrow measures.Net clear =
      subst (IsNarrow (payments_width (scale_of sheet)))
      (sym (worked-equation factors sheet valid (nodes.Whole (wholes.Picked alternatives.Interest measures.Net))))
      (narrow-chosen_net (payments_width (scale_of sheet)) (interest_alternatives (worked factors sheet)) alternatives-net)
