-- How large the worked figures of market risk are, besides those of equity risk.
use Rattle.std.proofs.Common.{◌≡◌, ℕ, ◌+◌, ◌*◌, ◌^◌, ◌<◌, ◌≤◌, Bool, true, false, List, [], ◌∷◌, map, filter, sum_by, if◌then◌else◌, unsigned_abs, pos, ◌≤ℤ◌, refl, ap, ap₂, sym, subst, ◌∙◌, Option, Some, None, is_some, arith, lit<, lit≤, ◌*ℤ◌}
use Rattle.std.specs.List.{AllByRecursion}
use Rattle.std.specs.Option.{option_map_or}
use Rattle.std.proofs.lemmas.Int.{ints, clamps}
use Rattle.std.proofs.lemmas.List.Sums.{sum_by-le-sum_by}
use Rattle.scr_num.specs.Amounts.{IsAmount, AreAmounts}
use Rattle.scr_num.specs.Rounding.{Ends, exact_ends, sub_ends, max_ends, scale_ends, or_zero}
use Rattle.scr_num.specs.Sizes.{IsWithin, AreTogether}
use Rattle.scr_num.specs.Sums.{sum_ends}
use Rattle.scr_num.proofs.AmountBounds.{amount-exact, amount-wider, amount-cut, amount-high}
use Rattle.scr_num.proofs.CentAmounts.{enclosing-in_order}
use Rattle.scr_num.proofs.Quotients.{floor_div-le-ceil_div, times_le}
use Rattle.scr_yield_curve.specs.DiscountEnds.{one}
use Rattle.scr_agg.specs.Absorbed.{net_ends}
use Rattle.scr_agg.specs.Unbeaten.{Alternative, mask_of}
use Rattle.scr_agg.specs.declared.scenario.Scenario.{Scenario}
use Rattle.scr_agg.proofs.Alternatives.{mask_below-lt}
use Rattle.scr_agg.proofs.Bits.{mask_positive}
use Rattle.scr_agg.proofs.ChosenAmounts.{amount-chosen_gross, amount-chosen_net}
use Rattle.scr_agg.proofs.Enclosed.{one_unbeaten}
use Rattle.scr_rate.proofs.SizeLemmas.{sum-within, gross-low}
use Rattle.scr_factors.specs.Values.{FactorValues}
use Rattle.scr_funds.proofs.SumsBy.{sum_by-add, sum_by-map}
use Rattle.scr_tables.specs.Names.{same_name}
use Rattle.scr_tables.proofs.TableRows.{All-map, All-append, name_of-row_of, same_name-is}
use Rattle.scr_profile.specs.declared.group_kind.GroupKind.TheVariants as kinds
use Rattle.scr_profile.specs.declared.limits.TheConstants.{MAX_HELD}
use Rattle.scr_market.specs.MarketEnds.{market_ends}
use Rattle.scr_market.specs.PropertyEnds.{property_ends}
use Rattle.scr_market.specs.Spread.{row_of as factor_row}
use Rattle.scr_market.specs.SpreadEnds.{bond_loss_ends, spread_ends}
use Rattle.scr_market.specs.declared.equity_parts.TheConstants.{MAX_EQUITY_PART}
use Rattle.scr_market.specs.declared.property_risk.TheConstants.{MAX_PROPERTY}
use Rattle.scr_market.proofs.CurrencyLemmas.{rise-size, fall-size}
use Rattle.scr_market.proofs.MarketLemmas.{market-size}
use Rattle.scr_market.proofs.PropertyLemmas.{property-size}
use Rattle.scr_market.proofs.SpreadLemmas.{bond-size, spread-size}
use Rattle.scr_conc.specs.Concentration.{Exposure}
use Rattle.scr_conc.specs.ConcentrationEnds.{exposure_square_units, squares_units, concentration_ends}
use Rattle.scr_conc.specs.declared.TheConstants.{MAX_SQUARES}
use Rattle.scr_conc.proofs.Squares.{squares-size, root-size}
use Rattle.scr_sheet.specs.Absorptions.{absorbed}
use Rattle.scr_sheet.specs.BalanceSheet.{position_name, liability_name, curve_name, group_name, position_of}
use Rattle.scr_sheet.specs.CashFlows.{total}
use Rattle.scr_sheet.specs.Totals.{total_of}
use Rattle.scr_sheet.specs.Validity.{Valid}
use Rattle.scr_sheet.specs.declared.keys.Projection.TheVariants.{Base}
use Rattle.scr_sheet.specs.declared.rows.Class.TheVariants as classes
use Rattle.scr_sheet.specs.declared.{rows.Curve.Curve, rows.Group.Group, rows.Liability.Liability, rows.Position.Position, sheet.BalanceSheet.BalanceSheet}
use Rattle.scr_nodes.specs.declared.node.Alternatives.TheVariants as alternatives
use Rattle.scr_nodes.specs.declared.{node.Direction.Direction, node.Measure.Measure, node.Node.Node, node.Risk.Risk}
use Rattle.scr_nodes.specs.declared.node.Direction.TheVariants as directions
use Rattle.scr_nodes.specs.declared.node.Measure.TheVariants as measures
use Rattle.scr_nodes.specs.declared.node.Node.TheVariants as nodes
use Rattle.scr_nodes.specs.declared.node.OfSecurity.TheVariants as of_securities
use Rattle.scr_nodes.specs.declared.node.OfLiability.TheVariants as of_liabilities
use Rattle.scr_nodes.specs.declared.node.OfCurrency.TheVariants as of_currencies
use Rattle.scr_nodes.specs.declared.node.OfGroup.TheVariants as of_groups
use Rattle.scr_nodes.specs.declared.node.Whole.TheVariants as wholes
use Rattle.scr_nodes.specs.declared.node.Risk.TheVariants as risks
use Rattle.scr_nodes.specs.OwnOf.{interest_key, risk_key, valued, currency_absorbed, paid_by_security, paid_by_liability, bond_stressed, group_square}
use Rattle.scr_nodes.specs.Own.Own.{Stressed, Square}
use Rattle.scr_nodes.specs.Rows.{is_paying_in, is_owed_in, is_held_in, is_foreign, is_of_group, has_class, has_group, liability_of, group_of, step_of}
use Rattle.scr_nodes.specs.Sources.{security_total, security_rate, liability_rate, liability_present, currency_loss, currency_picked, security_spread, concentration_square, rates_in, gross_of, risk_part}
use Rattle.scr_nodes.proofs.Chosen.{each-chosen}
use Rattle.scr_nodes.proofs.OwnRows.{own-securities, own-liabilities, own-groups, distinct-groups}
use Rattle.scr_discounts.proofs.CurveRows.{at-rates}
use Rattle.scr_discounts.specs.Discounts.{discounts_at}
use Rattle.scr_rules.specs.Discounts.{own_discounts}
use Rattle.scr_rules.specs.Holdings.{security_cents, class_total, assets_in, group_cents, assets_cents, exposure_to}
use Rattle.scr_rules.specs.MarketRules.{worth_ends, foreign_ends, group_square_ends}
use Rattle.scr_rules.specs.Rules.{amount_of, rule}
use Rattle.scr_rules.specs.Worked.{worked}
use Rattle.scr_rules.proofs.Currencies.{most_in, each-row-once}
use Rattle.scr_rules.proofs.Equations.{worked-equation}
use Rattle.scr_rules.proofs.Gathered.{together-wider, rows-together, all-together, rows-sum}
use Rattle.scr_rules.proofs.MarketPayments.{worth-within}
use Rattle.scr_rules.proofs.MarketSums.{amount-within, at-most, tested-times, all-times, IsOrdered, ordered-sum, rows-amount, all-sum}
use Rattle.scr_rules.proofs.Payments.{security-known, liability-known, security-fits, liability-fits}
use Rattle.scr_rules.proofs.PaymentsEnclosed.{paid-encloses, worth-encloses}
use Rattle.scr_rules.proofs.WorthsIn.{first-are, others-are}
use Rattle.scr_rules.proofs.SeenThrough.{seen-small}
use Rattle.scr_rules.proofs.Sizes.{unit-worked, rate-worked, cost-worked, lost-worked, gross-worked, gross-small, class-worked, class-small, root-amount}
use Rattle.scr_rules.proofs.Totals.{security-worked}

-- ---- ends in order
ordered-scaled : (e : Ends) (num den : ℕ) → 0 < den → IsOrdered e → IsOrdered (scale_ends e num den)
ordered-scaled e num den positive h =
    floor_div-le-ceil_div (e.low *ℤ pos num) (e.high *ℤ pos num) den positive (times_le e.low e.high num h)

ordered-cost : (e : Ends) → IsOrdered e → IsOrdered (sub_ends (exact_ends (pos 0)) e)
ordered-cost e h = omega (arith, ints, h)

ordered-lost : (e : Ends) → IsOrdered e → IsOrdered (max_ends (exact_ends (pos 0)) e)
ordered-lost e h = omega (arith, ints, clamps, h)

low-lost : (e : Ends) → pos 0 ≤ℤ (max_ends (exact_ends (pos 0)) e).low
low-lost e = omega (arith, ints, clamps)

-- what absorption leaves of an amount
pub net-amount : (most absorb : ℕ) (e : Ends) → IsAmount most e → IsAmount most (net_ends e absorb)
net-amount most absorb e h =
    let order = h.ordered in
    let high = amount-high most e h in
    amount-cut most (sub_ends e (exact_ends (pos (1000 * absorb)))) (omega (arith, ints, order)) (omega (arith, ints, high))

-- the mask of two alternatives
pub record IsMaskOfTwo (mask : ℕ) : Type 0 where
  pub some : 1 ≤ mask
  pub most : mask ≤ 3

pub record AreOrdered (a : Alternative) : Type 0 where
  pub gross : IsOrdered a.gross
  pub net : IsOrdered a.net

pub mask-of-two : (a b : Alternative) → AreOrdered a → AreOrdered b → IsMaskOfTwo (mask_of (a ∷ b ∷ []))
mask-of-two a b h k =
    let below = mask_below-lt (a ∷ b ∷ []) 2 in
    record {
      some = mask_positive (a ∷ b ∷ []) (one_unbeaten (scenario a h ∷ scenario b k ∷ []) (lit≤ tt));
      most = omega (arith, below);
    }
  where
    scenario : (x : Alternative) → AreOrdered x → Scenario
    scenario x o = record {
      gross = record { low = x.gross.low; high = x.gross.high; ordered = o.gross };
      net = record { low = x.net.low; high = x.net.high; ordered = o.net };
    }

module _ (factors : FactorValues) (sheet : BalanceSheet) (valid : Valid sheet) where
  abbrev figure : Node → Ends
  figure node = worked factors sheet node

  -- ---- securities and liabilities
  pub totals-are : AllByRecursion (λ p. figure (security_total p) ≡ exact_ends (pos (security_cents sheet p))) sheet.securities
  totals-are =
      All-map (λ p. position_of (position_name p) sheet.securities ≡ Some p) (λ p. figure (security_total p) ≡ exact_ends (pos (security_cents sheet p))) sheet.securities
      (λ p own. security-worked factors sheet valid (position_name p) (ap is_some own)) (own-securities sheet valid)

  -- of the securities that pass a test
  pub tested-sum : (test : Position → Bool)
      → sum_ends (map figure (map security_total (filter test sheet.securities))) ≡ exact_ends (pos (sum_by (λ p. if test p then security_cents sheet p else 0) sheet.securities))
  tested-sum test = rows-sum figure security_total test (security_cents sheet) sheet.securities totals-are

  pub tested-small : (test : Position → Bool) → sum_by (λ p. if test p then security_cents sheet p else 0) sheet.securities ≤ MAX_HELD
  tested-small test =
      let some = sum_by-le-sum_by (λ (p : Position). if test p then security_cents sheet p else 0) (security_cents sheet) sheet.securities (λ p. at-most (test p) (security_cents sheet p)) in
      omega (arith, some, seen-small sheet valid)

  pub tested-together : (test : Position → Bool) → AreTogether (10 ^ 33) (map figure (map security_total (filter test sheet.securities)))
  tested-together test =
      together-wider _ _ _ (omega (arith, tested-small test))
      (rows-together figure security_total test (security_cents sheet) sheet.securities
      (All-map (λ p. figure (security_total p) ≡ exact_ends (pos (security_cents sheet p))) _ sheet.securities
      (λ p is e. subst (IsWithin (security_cents sheet p)) (sym is) (exact-within (security_cents sheet p))) totals-are))
    where
      exact-within : (n : ℕ) → IsWithin n (exact_ends (pos n))
      exact-within n = record { low = omega arith; high = omega arith }

  -- ---- present values
  pub present-worked : (name : List ℕ) (l : Liability) → liability_of name sheet.liabilities ≡ Some l
      → figure (nodes.Liability name of_liabilities.Present) ≡ worth_ends (valued sheet l) (discounts_at (valued sheet l).rates)
  present-worked name l is =
      worked-equation factors sheet valid (nodes.Liability name of_liabilities.Present)
      ∙ ap (λ found. let v = option_map_or (valued sheet) found (record { asof = sheet.numbers.asof.number; payments = []; rates = [] }) in worth_ends v (discounts_at v.rates)) is

  -- a multiple of what a quarter of a grain's worth is
  abbrev owed_most : Liability → ℕ
  owed_most l = 685 * total l.flows.base

  pub present-within : (name : List ℕ) (l : Liability) → liability_of name sheet.liabilities ≡ Some l
      → IsWithin (4_000_000_000_000_000 * owed_most l) (figure (nodes.Liability name of_liabilities.Present))
  present-within name l is =
      let fits = liability-fits sheet valid directions.Up l (liability-known sheet valid name l is) in
      let own = worth-within (valued sheet l) fits.rates (total l.flows.base) (omega arith) in
      subst (IsWithin (4_000_000_000_000_000 * owed_most l)) (sym (present-worked name l is)) (record { low = omega (arith, own.low); high = omega (arith, own.high) })

  pub present-ordered : (name : List ℕ) (l : Liability) → liability_of name sheet.liabilities ≡ Some l → IsOrdered (figure (nodes.Liability name of_liabilities.Present))
  present-ordered name l is =
      let fits = liability-fits sheet valid directions.Up l (liability-known sheet valid name l is) in
      subst IsOrdered (sym (present-worked name l is)) (enclosing-in_order one _ _ _ (worth-encloses (valued sheet l) (discounts_at (valued sheet l).rates) (at-rates (valued sheet l).rates fits.rates).base fits.near))

  -- ---- a foreign currency
  abbrev pub held_ends : List ℕ → List Ends
  held_ends currency = map figure (map security_total (filter (is_held_in currency) sheet.securities))

  abbrev pub owed_ends : List ℕ → List Ends
  owed_ends currency = map figure (map liability_present (filter (is_owed_in currency) sheet.liabilities))

  pub held-sum : (currency : List ℕ) → sum_ends (held_ends currency) ≡ exact_ends (pos (assets_in currency sheet))
  unfolding assets_in
  held-sum currency = tested-sum (is_held_in currency)

  pub assets-small : (currency : List ℕ) → assets_in currency sheet ≤ MAX_HELD
  unfolding assets_in
  assets-small currency = tested-small (is_held_in currency)

  -- what the liabilities in the currency are worth
  abbrev owed_parts : List ℕ → ℕ
  owed_parts currency = sum_by (λ l. if is_owed_in currency l then owed_most l else 0) sheet.liabilities

  owed-together : (currency : List ℕ) → AreTogether (4_000_000_000_000_000 * owed_parts currency) (owed_ends currency)
  owed-together currency =
      subst (λ (n : ℕ). AreTogether n (owed_ends currency)) (tested-times 4_000_000_000_000_000 (is_owed_in currency) owed_most sheet.liabilities)
      (rows-together figure liability_present (is_owed_in currency) (λ l. 4_000_000_000_000_000 * owed_most l) sheet.liabilities
      (All-map (λ l. liability_of (liability_name l) sheet.liabilities ≡ Some l) _ sheet.liabilities (λ l own e. present-within (liability_name l) l own) (own-liabilities sheet valid)))

  pub owed-ordered : (currency : List ℕ) → IsOrdered (sum_ends (owed_ends currency))
  owed-ordered currency =
      ordered-sum figure (map liability_present (filter (is_owed_in currency) sheet.liabilities))
      (each-chosen (λ l. liability_of (liability_name l) sheet.liabilities ≡ Some l) (λ n. IsOrdered (figure n)) (is_owed_in currency) liability_present sheet.liabilities
      (own-liabilities sheet valid) (λ l own e. present-ordered (liability_name l) l own))

  owed-parts-small : (currency : List ℕ) → owed_parts currency ≤ 685 * 50_000_000_000_000
  owed-parts-small currency =
      let some = sum_by-le-sum_by (λ (l : Liability). if is_owed_in currency l then owed_most l else 0) owed_most sheet.liabilities (λ l. at-most (is_owed_in currency l) (owed_most l)) in
      omega (arith, some, valid.within.liability_flows Base, all-times 685 (λ (l : Liability). total l.flows.base) sheet.liabilities)

  pub owed-small : (currency : List ℕ) → AreTogether (10 ^ 33) (owed_ends currency)
  owed-small currency = together-wider _ _ _ (omega (arith, owed-parts-small currency)) (owed-together currency)

  -- what a change costs at most, in grains
  abbrev held_most : Position → ℕ
  held_most p = 250 * security_cents sheet p

  abbrev pub change_most : List ℕ → ℕ
  change_most currency =
      sum_by (most_in curve_name (λ (p : Position). p.security.currency) held_most currency) sheet.securities
      + sum_by (most_in curve_name (λ (l : Liability). l.currency) owed_most currency) sheet.liabilities

  held-times : (currency : List ℕ) → sum_by (most_in curve_name (λ (p : Position). p.security.currency) held_most currency) sheet.securities ≡ 250 * assets_in currency sheet
  unfolding assets_in
  held-times currency = tested-times 250 (is_held_in currency) (security_cents sheet) sheet.securities

  pub change-worked : (direction : Direction) (currency : List ℕ) → figure (nodes.Currency currency (of_currencies.Scenario direction measures.Gross))
      ≡ foreign_ends direction (assets_in currency sheet) (sum_ends (owed_ends currency))
  change-worked direction currency =
      worked-equation factors sheet valid (nodes.Currency currency (of_currencies.Scenario direction measures.Gross))
      ∙ ap₂ (λ (a b : Ends). foreign_ends direction (amount_of a) b) (ap sum_ends (first-are sheet figure currency) ∙ held-sum currency) (ap sum_ends (others-are sheet figure currency))

  change-size : (direction : Direction) (currency : List ℕ) → IsAmount (change_most currency) (foreign_ends direction (assets_in currency sheet) (sum_ends (owed_ends currency)))
  change-size direction currency = by direction
    where
      owed : IsWithin (4_000_000_000_000_000 * owed_parts currency) (sum_ends (owed_ends currency))
      owed = sum-within _ (owed_ends currency) (owed-together currency)

      low : unsigned_abs (sum_ends (owed_ends currency)).low + 1_000_000_000_000_000_000 * assets_in currency sheet ≤ change_most currency * 4_000_000_000_000_000
      low = let h = owed.low in let t = held-times currency in omega (arith, h, t)

      high : unsigned_abs (sum_ends (owed_ends currency)).high + 1_000_000_000_000_000_000 * assets_in currency sheet ≤ change_most currency * 4_000_000_000_000_000
      high = let h = owed.high in let t = held-times currency in omega (arith, h, t)

      by : (d : Direction) → IsAmount (change_most currency) (foreign_ends d (assets_in currency sheet) (sum_ends (owed_ends currency)))
      by directions.Up = rise-size (assets_in currency sheet) (change_most currency) (sum_ends (owed_ends currency)) (owed-ordered currency) low high
      by directions.Down = fall-size (assets_in currency sheet) (change_most currency) (sum_ends (owed_ends currency)) (owed-ordered currency) low high

  change-gross : (direction : Direction) (currency : List ℕ) → IsAmount (change_most currency) (figure (nodes.Currency currency (of_currencies.Scenario direction measures.Gross)))
  change-gross direction currency = subst (IsAmount (change_most currency)) (sym (change-worked direction currency)) (change-size direction currency)

  pub change-amount : (direction : Direction) (measure : Measure) (currency : List ℕ) → IsAmount (change_most currency) (figure (nodes.Currency currency (of_currencies.Scenario direction measure)))
  change-amount direction measures.Gross currency = change-gross direction currency
  change-amount direction measures.Net currency =
      subst (IsAmount (change_most currency)) (sym (worked-equation factors sheet valid (nodes.Currency currency (of_currencies.Scenario direction measures.Net))))
      (net-amount (change_most currency) (currency_absorbed sheet currency direction) (figure (nodes.Currency currency (of_currencies.Scenario direction measures.Gross))) (change-gross direction currency))

  abbrev pub change_alternative : List ℕ → Direction → Alternative
  change_alternative currency direction =
      record { gross = figure (nodes.Currency currency (of_currencies.Scenario direction measures.Gross)); net = figure (nodes.Currency currency (of_currencies.Scenario direction measures.Net)) }

  abbrev pub change_alternatives : List ℕ → List Alternative
  change_alternatives currency = change_alternative currency directions.Up ∷ change_alternative currency directions.Down ∷ []

  pub change-picked : (measure : Measure) (currency : List ℕ) → IsAmount (change_most currency) (figure (nodes.Currency currency (of_currencies.Picked measure)))
  change-picked measures.Gross currency =
      subst (IsAmount (change_most currency)) (sym (worked-equation factors sheet valid (nodes.Currency currency (of_currencies.Picked measures.Gross))))
      (amount-chosen_gross (change_most currency) (change_alternatives currency) (change-amount directions.Up measures.Gross currency, (change-amount directions.Down measures.Gross currency, tt)))
  change-picked measures.Net currency =
      subst (IsAmount (change_most currency)) (sym (worked-equation factors sheet valid (nodes.Currency currency (of_currencies.Picked measures.Net))))
      (amount-chosen_net (change_most currency) (change_alternatives currency) (change-amount directions.Up measures.Net currency, (change-amount directions.Down measures.Net currency, tt)))

  -- ---- all foreign currencies
  changes-most : sum_by (λ (c : Curve). if is_foreign sheet c then change_most c.currency else 0) sheet.curves ≤ 10 ^ 17
  changes-most =
      let some = sum_by-le-sum_by (λ (c : Curve). if is_foreign sheet c then change_most c.currency else 0) (λ (c : Curve). change_most c.currency) sheet.curves (λ c. at-most (is_foreign sheet c) (change_most c.currency)) in
      let securities = each-row-once curve_name (λ (p : Position). p.security.currency) held_most sheet.curves sheet.securities valid.currencies_once in
      let liabilities = each-row-once curve_name (λ (l : Liability). l.currency) owed_most sheet.curves sheet.liabilities valid.currencies_once in
      let parts = sum_by-add (λ (c : Curve). sum_by (most_in curve_name (λ (p : Position). p.security.currency) held_most c.currency) sheet.securities)
      (λ (c : Curve). sum_by (most_in curve_name (λ (l : Liability). l.currency) owed_most c.currency) sheet.liabilities) sheet.curves in
      omega (
        arith,
        some,
        securities,
        liabilities,
        parts,
        seen-small sheet valid,
        valid.within.liability_flows Base,
        all-times 250 (security_cents sheet) sheet.securities,
        all-times 685 (λ (l : Liability). total l.flows.base) sheet.liabilities,
      )

  -- each of them too
  pub change-most-small : (currency : List ℕ) → change_most currency ≤ 10 ^ 18
  change-most-small currency = let held = held-times currency in omega (arith, held, assets-small currency, owed-parts-small currency)

  picked-amounts : (measure : Measure) (curves : List Curve) → AllByRecursion (λ c. is_foreign sheet c ≡ true → IsAmount (change_most c.currency) (figure (currency_picked measure c))) curves
  picked-amounts measure [] = tt
  picked-amounts measure (c ∷ curves) = (λ e. change-picked measure c.currency, picked-amounts measure curves)

  picked-within : (measure : Measure) (curves : List Curve) → AllByRecursion (λ c. is_foreign sheet c ≡ true → IsWithin (change_most c.currency) (figure (currency_picked measure c))) curves
  picked-within measure [] = tt
  picked-within measure (c ∷ curves) = (λ e. amount-within _ _ (change-picked measure c.currency), picked-within measure curves)

  pub picked-together : (measure : Measure) → AreTogether (10 ^ 33) (map figure (map (currency_picked measure) (filter (is_foreign sheet) sheet.curves)))
  picked-together measure =
      together-wider _ _ _ (let most = changes-most in omega (arith, most))
      (rows-together figure (currency_picked measure) (is_foreign sheet) (λ c. change_most c.currency) sheet.curves (picked-within measure sheet.curves))

  pub currency-worked : (measure : Measure) → figure (nodes.Whole (wholes.Currency measure)) ≡ sum_ends (map figure (map (currency_picked measure) (filter (is_foreign sheet) sheet.curves)))
  currency-worked measure = worked-equation factors sheet valid (nodes.Whole (wholes.Currency measure))

  pub currency-amount : (measure : Measure) → IsAmount (10 ^ 17) (figure (nodes.Whole (wholes.Currency measure)))
  currency-amount measure =
      subst (IsAmount (10 ^ 17)) (sym (currency-worked measure))
      (amount-wider _ _ _ changes-most
      (rows-amount figure (currency_picked measure) (is_foreign sheet) (λ c. change_most c.currency) sheet.curves (picked-amounts measure sheet.curves)))

  -- ---- property and spread risk
  pub property-worked : figure (nodes.Whole wholes.Property) ≡ property_ends (class_total classes.Property sheet)
  property-worked = worked-equation factors sheet valid (nodes.Whole wholes.Property) ∙ ap (λ (e : Ends). property_ends (or_zero e.low)) (class-worked factors sheet valid classes.Property)

  pub property-amount : IsAmount MAX_PROPERTY (figure (nodes.Whole wholes.Property))
  property-amount = subst (IsAmount MAX_PROPERTY) (sym property-worked) (property-size _ (class-small factors sheet valid classes.Property))

  -- what a bond loses
  pub bond-worked : (name : List ℕ) (p : Position) → position_of name sheet.securities ≡ Some p
      → figure (nodes.Security name of_securities.Spread) ≡ bond_loss_ends factors (total_of sheet name) (factor_row (step_of sheet p)) p.security.duration
  bond-worked name p is = bond-equation (position_of name sheet.securities) is (worked-equation factors sheet valid (nodes.Security name of_securities.Spread))
      ∙ ap (λ (e : Ends). bond_loss_ends factors (or_zero e.low) (factor_row (step_of sheet p)) p.security.duration) (security-worked factors sheet valid name (ap is_some is))
    where
      bond-equation : (found : Option Position) → found ≡ Some p
          → figure (nodes.Security name of_securities.Spread) ≡ (let own = option_map_or (bond_stressed factors sheet) found (Stressed factors None 0) in rule own (own_discounts own) (figure (nodes.Security name of_securities.Total) ∷ []))
          → figure (nodes.Security name of_securities.Spread) ≡ bond_loss_ends factors (amount_of (figure (nodes.Security name of_securities.Total))) (factor_row (step_of sheet p)) p.security.duration
      bond-equation found e is_rule =
          is_rule ∙ ap (λ o. let own = option_map_or (bond_stressed factors sheet) o (Stressed factors None 0) in rule own (own_discounts own) (figure (nodes.Security name of_securities.Total) ∷ [])) e

  pub bond-amount : (name : List ℕ) (p : Position) → position_of name sheet.securities ≡ Some p
      → IsAmount (1_000_000_000 * total_of sheet name) (figure (nodes.Security name of_securities.Spread))
  bond-amount name p is =
      subst (IsAmount (1_000_000_000 * total_of sheet name)) (sym (bond-worked name p is))
      (amount-wider _ _ _ (omega arith) (bond-size factors (total_of sheet name) (factor_row (step_of sheet p)) p.security.duration))

  bonds-small : sum_by (λ p. if has_class classes.Bond p then 1_000_000_000 * security_cents sheet p else 0) sheet.securities ≤ 50_000_000_000_000_000_000_000
  bonds-small = omega (arith, tested-small (has_class classes.Bond), tested-times 1_000_000_000 (has_class classes.Bond) (security_cents sheet) sheet.securities)

  abbrev pub bond_ends_of : List Ends
  bond_ends_of = map figure (map security_spread (filter (has_class classes.Bond) sheet.securities))

  pub bonds-together : AreTogether (10 ^ 33) bond_ends_of
  bonds-together =
      together-wider _ _ _ (let most = bonds-small in omega (arith, most))
      (rows-together figure security_spread (has_class classes.Bond) (λ p. 1_000_000_000 * security_cents sheet p) sheet.securities
      (All-map (λ p. position_of (position_name p) sheet.securities ≡ Some p) _ sheet.securities (λ p own e. amount-within _ _ (bond-amount (position_name p) p own)) (own-securities sheet valid)))

  pub spread-worked : figure (nodes.Whole wholes.Spread) ≡ spread_ends (sum_ends bond_ends_of)
  spread-worked = worked-equation factors sheet valid (nodes.Whole wholes.Spread)

  pub spread-amount : IsAmount 50_000_000_000_000_000 (figure (nodes.Whole wholes.Spread))
  spread-amount =
      subst (IsAmount 50_000_000_000_000_000) (sym spread-worked)
      (spread-size 50_000_000_000_000_000 (sum_ends bond_ends_of)
      (amount-wider _ _ _ bonds-small
      (rows-amount figure security_spread (has_class classes.Bond) (λ p. 1_000_000_000 * security_cents sheet p) sheet.securities
      (All-map (λ p. position_of (position_name p) sheet.securities ≡ Some p) _ sheet.securities (λ p own e. bond-amount (position_name p) p own) (own-securities sheet valid)))))

  -- ---- market risk concentrations
  pub group-worked : (name : List ℕ) → figure (nodes.Group name of_groups.Total) ≡ exact_ends (pos (group_cents sheet name))
  unfolding group_cents
  group-worked name = worked-equation factors sheet valid (nodes.Group name of_groups.Total) ∙ tested-sum (is_of_group name)

  pub group-small : (name : List ℕ) → group_cents sheet name ≤ MAX_HELD
  unfolding group_cents
  group-small name = tested-small (is_of_group name)

  pub assets-worked : figure (nodes.Whole wholes.Assets) ≡ exact_ends (pos (assets_cents sheet))
  unfolding assets_cents
  assets-worked = worked-equation factors sheet valid (nodes.Whole wholes.Assets) ∙ tested-sum has_group

  pub all-assets-small : assets_cents sheet ≤ MAX_HELD
  unfolding assets_cents
  all-assets-small = tested-small has_group

  pub group-part : (name : List ℕ) → group_cents sheet name ≤ assets_cents sheet
  unfolding group_cents assets_cents
  group-part name =
      sum_by-le-sum_by (λ (p : Position). if is_of_group name p then security_cents sheet p else 0) (λ (p : Position). if has_group p then security_cents sheet p else 0) sheet.securities
      (λ p. by p.security.group (security_cents sheet p))
    where
      by : (group : Option (List ℕ)) (n : ℕ) → (if option_map_or (same_name name) group false then n else 0) ≤ (if is_some group then n else 0)
      by None n = omega arith
      by (Some other) n = at-most (same_name name other) n

  own-group : (name : List ℕ) (g : Group) → group_of name sheet.groups ≡ Some g → name ≡ group_name g
  own-group name g is = same_name-is name (group_name g) (name_of-row_of group_name name sheet.groups g is)

  -- the square of the requirement for a group
  abbrev pub square_cents : Group → ℕ
  square_cents g = exposure_square_units (assets_cents sheet) (exposure_to sheet g)

  pub square-worked : (name : List ℕ) (g : Group) → group_of name sheet.groups ≡ Some g → figure (nodes.Group name of_groups.ConcentrationSquare) ≡ exact_ends (pos (square_cents g))
  square-worked name g is =
      square-equation (group_of name sheet.groups) is (worked-equation factors sheet valid (nodes.Group name of_groups.ConcentrationSquare))
      ∙ ap₂ (λ (a b : Ends). group_square_ends g.kind g.step (or_zero a.low) (or_zero b.low)) assets-worked (group-worked name)
      ∙ ap (λ (n : List ℕ). group_square_ends g.kind g.step (assets_cents sheet) (group_cents sheet n)) (own-group name g is)
    where
      square-equation : (found : Option Group) → found ≡ Some g
          → figure (nodes.Group name of_groups.ConcentrationSquare) ≡ (let own = option_map_or group_square found (Square kinds.Name None) in rule own (own_discounts own) (figure (nodes.Whole wholes.Assets) ∷ figure (nodes.Group name of_groups.Total) ∷ []))
          → figure (nodes.Group name of_groups.ConcentrationSquare) ≡ group_square_ends g.kind g.step (amount_of (figure (nodes.Whole wholes.Assets))) (amount_of (figure (nodes.Group name of_groups.Total)))
      square-equation found e is_rule =
          is_rule ∙ ap (λ o. let own = option_map_or group_square o (Square kinds.Name None) in rule own (own_discounts own) (figure (nodes.Whole wholes.Assets) ∷ figure (nodes.Group name of_groups.Total) ∷ [])) e

  squares-are : AllByRecursion (λ g. figure (concentration_square g) ≡ exact_ends (pos (square_cents g))) sheet.groups
  squares-are = All-map (λ g. group_of (group_name g) sheet.groups ≡ Some g) _ sheet.groups (λ g own. square-worked (group_name g) g own) (own-groups sheet valid)

  abbrev pub exposures : List Exposure
  exposures = map (exposure_to sheet) sheet.groups

  abbrev pub square_ends_of : List Ends
  square_ends_of = map figure (map concentration_square sheet.groups)

  squares-of : sum_by square_cents sheet.groups ≡ squares_units (assets_cents sheet) exposures
  squares-of = sym (sum_by-map (exposure_square_units (assets_cents sheet)) (exposure_to sheet) sheet.groups)

  pub squares-sum : sum_ends square_ends_of ≡ exact_ends (pos (squares_units (assets_cents sheet) exposures))
  squares-sum = all-sum figure concentration_square square_cents sheet.groups squares-are ∙ ap (λ (n : ℕ). exact_ends (pos n)) squares-of

  -- no security is exposed to two groups
  exposed-once : sum_by (λ (g : Group). group_cents sheet g.name) sheet.groups ≤ MAX_HELD
  unfolding group_cents
  exposed-once =
      let some = sum_by-le-sum_by (λ (g : Group). group_cents sheet g.name) (λ (g : Group). sum_by (most_in group_name group_or_none exposed g.name) sheet.securities) sheet.groups
      (λ g. sum_by-le-sum_by (λ (p : Position). if is_of_group g.name p then security_cents sheet p else 0) (most_in group_name group_or_none exposed g.name) sheet.securities
      (λ p. by g.name p.security.group (security_cents sheet p))) in
      let once = each-row-once group_name group_or_none exposed sheet.groups sheet.securities (distinct-groups sheet valid) in
      omega (arith, some, once, tested-small has_group)
    where
      group_or_none : Position → List ℕ
      group_or_none p = option_map_or (λ name. name) p.security.group []

      exposed : Position → ℕ
      exposed p = if has_group p then security_cents sheet p else 0

      by : (name : List ℕ) (group : Option (List ℕ)) (n : ℕ)
          → (if option_map_or (same_name name) group false then n else 0) ≤ (if same_name name (option_map_or (λ x. x) group []) then (if is_some group then n else 0) else 0)
      by name None n = omega arith
      by name (Some other) n = omega arith

  pub squares-small : squares_units (assets_cents sheet) exposures ≤ MAX_SQUARES
  squares-small = squares-size (assets_cents sheet) exposures (let once = exposed-once in omega (arith, once, sum_by-map (λ (e : Exposure). e.cents) (exposure_to sheet) sheet.groups))

  pub squares-together : AreTogether MAX_SQUARES square_ends_of
  squares-together =
      let most = squares-small in
      together-wider _ _ _ (omega (arith, most, squares-of))
      (all-together figure concentration_square square_cents sheet.groups
      (All-map (λ g. figure (concentration_square g) ≡ exact_ends (pos (square_cents g))) _ sheet.groups
      (λ g is. subst (IsWithin (square_cents g)) (sym is) (exact-within (square_cents g))) squares-are))
    where
      exact-within : (n : ℕ) → IsWithin n (exact_ends (pos n))
      exact-within n = record { low = omega arith; high = omega arith }

  pub squares-amount : IsAmount MAX_SQUARES (sum_ends square_ends_of)
  squares-amount = subst (IsAmount MAX_SQUARES) (sym squares-sum) (amount-exact MAX_SQUARES _ squares-small)

  pub concentration-worked : figure (nodes.Whole wholes.Concentration) ≡ concentration_ends (squares_units (assets_cents sheet) exposures)
  concentration-worked = worked-equation factors sheet valid (nodes.Whole wholes.Concentration) ∙ ap (λ (e : Ends). concentration_ends (or_zero e.low)) squares-sum

  pub concentration-amount : IsAmount (38 * 10 ^ 15) (figure (nodes.Whole wholes.Concentration))
  concentration-amount = subst (IsAmount (38 * 10 ^ 15)) (sym concentration-worked) (root-size _ squares-small)

  -- ---- interest rate risk: its ends are in order, and none is negative
  rate-ordered : (direction : Direction) (name : List ℕ) (p : Position) → position_of name sheet.securities ≡ Some p → IsOrdered (figure (nodes.Security name (of_securities.Rate direction)))
  rate-ordered direction name p is =
      let fits = security-fits sheet valid direction p (security-known sheet valid name p is) in
      let unit = subst IsOrdered (sym (unit-worked factors sheet valid direction name p is)) (enclosing-in_order one _ _ _ (paid-encloses (paid_by_security sheet direction p) (discounts_at (paid_by_security sheet direction p).rates) (at-rates (paid_by_security sheet direction p).rates fits.rates) fits.near fits.rates)) in
      subst IsOrdered (sym (rate-worked factors sheet valid direction name p is)) (ordered-scaled (figure (nodes.Security name (of_securities.UnitLoss direction))) (total_of sheet name) 1_000_000 (lit< tt) unit)

  cost-ordered : (direction : Direction) (name : List ℕ) (l : Liability) → liability_of name sheet.liabilities ≡ Some l → IsOrdered (figure (nodes.Liability name (of_liabilities.Rate direction)))
  cost-ordered direction name l is =
      let fits = liability-fits sheet valid direction l (liability-known sheet valid name l is) in
      subst IsOrdered (sym (cost-worked factors sheet valid direction name l is))
      (ordered-cost _ (enclosing-in_order one _ _ _ (paid-encloses (paid_by_liability sheet direction l) (discounts_at (paid_by_liability sheet direction l).rates) (at-rates (paid_by_liability sheet direction l).rates fits.rates) fits.near fits.rates)))

  rates-ordered : (direction : Direction) (currency : List ℕ) → IsOrdered (sum_ends (map figure (rates_in currency direction sheet)))
  rates-ordered direction currency =
      ordered-sum figure (rates_in currency direction sheet)
      (All-append (λ n. IsOrdered (figure n)) (map (security_rate direction) (filter (is_paying_in currency) sheet.securities)) (map (liability_rate direction) (filter (is_owed_in currency) sheet.liabilities))
      (each-chosen (λ p. position_of (position_name p) sheet.securities ≡ Some p) (λ n. IsOrdered (figure n)) (is_paying_in currency) (security_rate direction) sheet.securities
      (own-securities sheet valid) (λ p own e. rate-ordered direction (position_name p) p own))
      (each-chosen (λ l. liability_of (liability_name l) sheet.liabilities ≡ Some l) (λ n. IsOrdered (figure n)) (is_owed_in currency) (liability_rate direction) sheet.liabilities
      (own-liabilities sheet valid) (λ l own e. cost-ordered direction (liability_name l) l own)))

  lost-ordered : (direction : Direction) (currency : List ℕ) → IsOrdered (figure (nodes.Currency currency (of_currencies.Loss direction)))
  lost-ordered direction currency = subst IsOrdered (sym (lost-worked factors sheet valid direction currency)) (ordered-lost _ (rates-ordered direction currency))

  lost-low : (direction : Direction) (currency : List ℕ) → pos 0 ≤ℤ (figure (nodes.Currency currency (of_currencies.Loss direction))).low
  lost-low direction currency =
      subst (λ (e : Ends). pos 0 ≤ℤ e.low) (sym (lost-worked factors sheet valid direction currency)) (low-lost (sum_ends (map figure (rates_in currency direction sheet))))

  gross-amount : (direction : Direction) → IsAmount (10 ^ 18) (figure (nodes.Whole (wholes.InterestScenario direction measures.Gross)))
  gross-amount direction = record {
    not_negative = subst (λ (e : Ends). pos 0 ≤ℤ e.low) (sym (gross-worked factors sheet valid direction)) (gross-low (map figure (map (currency_loss direction) sheet.curves)) (lows sheet.curves));
    ordered = subst IsOrdered (sym (gross-worked factors sheet valid direction))
        (ordered-scaled (sum_ends (map figure (map (currency_loss direction) sheet.curves))) 1 1_000_000_000_000_000 (lit< tt) (ordered-sum figure (map (currency_loss direction) sheet.curves) (orders sheet.curves)));
    low_size = (gross-small factors sheet valid direction).low;
    high_size = (gross-small factors sheet valid direction).high;
  }
    where
      lows : (curves : List Curve) → AllByRecursion (λ (e : Ends). pos 0 ≤ℤ e.low) (map figure (map (currency_loss direction) curves))
      lows [] = tt
      lows (c ∷ curves) = (lost-low direction c.currency, lows curves)

      orders : (curves : List Curve) → AllByRecursion (λ n. IsOrdered (figure n)) (map (currency_loss direction) curves)
      orders [] = tt
      orders (c ∷ curves) = (lost-ordered direction c.currency, orders curves)

  pub scenario-amount : (direction : Direction) (measure : Measure) → IsAmount (10 ^ 18) (figure (nodes.Whole (wholes.InterestScenario direction measure)))
  scenario-amount direction measures.Gross = gross-amount direction
  scenario-amount direction measures.Net =
      subst (IsAmount (10 ^ 18)) (sym (worked-equation factors sheet valid (nodes.Whole (wholes.InterestScenario direction measures.Net))))
      (net-amount (10 ^ 18) (absorbed (interest_key direction) sheet.numbers) (figure (nodes.Whole (wholes.InterestScenario direction measures.Gross))) (gross-amount direction))

  abbrev interest_alternative : Direction → Alternative
  interest_alternative direction =
      record { gross = figure (nodes.Whole (wholes.InterestScenario direction measures.Gross)); net = figure (nodes.Whole (wholes.InterestScenario direction measures.Net)) }

  abbrev interest_alternatives : List Alternative
  interest_alternatives = interest_alternative directions.Up ∷ interest_alternative directions.Down ∷ []

  pub interest-amount : (measure : Measure) → IsAmount (10 ^ 18) (figure (nodes.Whole (wholes.Picked alternatives.Interest measure)))
  interest-amount measures.Gross =
      subst (IsAmount (10 ^ 18)) (sym (worked-equation factors sheet valid (nodes.Whole (wholes.Picked alternatives.Interest measures.Gross))))
      (amount-chosen_gross (10 ^ 18) interest_alternatives (scenario-amount directions.Up measures.Gross, (scenario-amount directions.Down measures.Gross, tt)))
  interest-amount measures.Net =
      subst (IsAmount (10 ^ 18)) (sym (worked-equation factors sheet valid (nodes.Whole (wholes.Picked alternatives.Interest measures.Net))))
      (amount-chosen_net (10 ^ 18) interest_alternatives (scenario-amount directions.Up measures.Net, (scenario-amount directions.Down measures.Net, tt)))

  -- the mask of the choice
  interest-two : IsMaskOfTwo (mask_of interest_alternatives)
  interest-two = mask-of-two (interest_alternative directions.Up) (interest_alternative directions.Down) (orders directions.Up) (orders directions.Down)
    where
      orders : (direction : Direction) → AreOrdered (interest_alternative direction)
      orders direction = record { gross = (scenario-amount direction measures.Gross).ordered; net = (scenario-amount direction measures.Net).ordered }

  pub interest-mask : (mask : Ends) → mask ≡ figure (nodes.Whole (wholes.Choice alternatives.Interest)) → IsMaskOfTwo (amount_of mask)
  interest-mask mask is =
      subst (λ (e : Ends). IsMaskOfTwo (or_zero e.low)) (sym (is ∙ worked-equation factors sheet valid (nodes.Whole (wholes.Choice alternatives.Interest))))
      interest-two

  pub mask-amount : IsAmount 3 (figure (nodes.Whole (wholes.Choice alternatives.Interest)))
  mask-amount =
      let two = interest-two in
      subst (IsAmount 3) (sym (worked-equation factors sheet valid (nodes.Whole (wholes.Choice alternatives.Interest)))) (amount-exact 3 _ two.most)

  -- ---- what absorption leaves of a risk, and the module
  pub net-worked : (risk : Risk) → figure (nodes.Whole (wholes.NetPart risk)) ≡ net_ends (figure (gross_of risk)) (absorbed (risk_key risk) sheet.numbers)
  net-worked risk = worked-equation factors sheet valid (nodes.Whole (wholes.NetPart risk))

  pub part-amount : (risk : Risk) (measure : Measure) (most : ℕ) → IsAmount most (figure (gross_of risk)) → IsAmount most (figure (risk_part risk measure))
  part-amount risk measures.Gross most h = h
  part-amount risk measures.Net most h =
      subst (IsAmount most) (sym (net-worked risk)) (net-amount most (absorbed (risk_key risk) sheet.numbers) (figure (gross_of risk)) h)

  abbrev pub six : Measure → List Ends
  six measure =
      figure (nodes.Whole (wholes.Picked alternatives.Interest measure)) ∷ figure (risk_part risks.Equity measure) ∷ figure (risk_part risks.Property measure)
      ∷ figure (risk_part risks.Spread measure) ∷ figure (risk_part risks.Concentration measure) ∷ figure (nodes.Whole (wholes.Currency measure)) ∷ []

  -- 1.4·10^18 grains together
  abbrev pub six_most : List ℕ
  six_most =
      10 ^ 18 ∷ (MAX_EQUITY_PART + (MAX_EQUITY_PART + MAX_EQUITY_PART + MAX_EQUITY_PART)) ∷ MAX_PROPERTY ∷ 50_000_000_000_000_000 ∷ 38 * 10 ^ 15 ∷ 10 ^ 17 ∷ []

  pub equity-amount : (measure : Measure) → IsAmount (MAX_EQUITY_PART + (MAX_EQUITY_PART + MAX_EQUITY_PART + MAX_EQUITY_PART)) (figure (risk_part risks.Equity measure))
  equity-amount measure = part-amount risks.Equity measure _ (root-amount factors sheet valid)

  pub six-amounts : (measure : Measure) → AreAmounts six_most (six measure)
  six-amounts measure = (
    interest-amount measure,
    (
      equity-amount measure,
      (
        part-amount risks.Property measure _ property-amount,
        (part-amount risks.Spread measure _ spread-amount, (part-amount risks.Concentration measure _ concentration-amount, (currency-amount measure, tt))),
      ),
    ),
  )

  pub market-worked : (measure : Measure) → figure (nodes.Whole (wholes.Market measure)) ≡ market_ends (six measure) (amount_of (figure (nodes.Whole (wholes.Choice alternatives.Interest))))
  market-worked measure = worked-equation factors sheet valid (nodes.Whole (wholes.Market measure))

  pub market-amount : (measure : Measure) → IsAmount (2 * 10 ^ 18) (figure (nodes.Whole (wholes.Market measure)))
  market-amount measure =
      subst (IsAmount (2 * 10 ^ 18)) (sym (market-worked measure))
      (amount-wider _ _ _ (lit≤ tt)
      (market-size six_most (six measure) (amount_of (figure (nodes.Whole (wholes.Choice alternatives.Interest)))) refl (six-amounts measure)))
