-- How large the worked figures of a valid balance sheet are.
use Rattle.std.proofs.Common.{◌≡◌, ℕ, ◌+◌, ◌*◌, ◌^◌, ◌≤◌, Bool, true, false, ◌&&◌, List, [], ◌∷◌, map, filter, sum_by, if◌then◌else◌, unsigned_abs, ℤ, pos, negsuc, ◌≤ℤ◌, ◌+ℤ◌, ◌-ℤ◌, refl, ap, ap₂, sym, subst, ◌∙◌, Some, is_some, arith}
use Rattle.std.specs.Int.{int_max}
use Rattle.std.specs.List.{AllByRecursion}
use Rattle.std.specs.Option.{option_map_or}
use Rattle.std.proofs.lemmas.Int.{ints, clamps}
use Rattle.std.proofs.lemmas.List.{map-append}
use Rattle.std.proofs.lemmas.List.Sums.{sum_by-cons, sum_by-le-sum_by}
use Rattle.scr_num.specs.Amounts.{IsAmount}
use Rattle.scr_num.specs.Rounding.{Ends, exact_ends, add_ends, sub_ends, max_ends, or_zero}
use Rattle.scr_num.specs.Sizes.{IsWithin, AreTogether}
use Rattle.scr_num.specs.Sums.{sum_ends}
use Rattle.scr_num.proofs.AmountBounds.{amount-exact, amount-add}
use Rattle.scr_num.proofs.SumLemmas.{sum_ends-append}
use Rattle.scr_yield_curve.specs.declared.table.TheConstants.{MAX_DISCOUNT}
use Rattle.scr_flow.specs.LossEnds.{scaled_ends}
use Rattle.scr_flow.proofs.SizeLemmas.{scaled-within}
use Rattle.scr_factors.specs.Values.{FactorValues}
use Rattle.scr_funds.proofs.SumsBy.{sum_by-add}
use Rattle.scr_tables.specs.Names.{same_name}
use Rattle.scr_tables.proofs.TableRows.{All-map}
use Rattle.scr_rate.specs.InterestEnds.{gross_ends}
use Rattle.scr_rate.proofs.SizeLemmas.{sum-within, gross-within}
use Rattle.scr_sheet.specs.BalanceSheet.{position_name, liability_name, stake_name, curve_name, position_of, stake_of}
use Rattle.scr_sheet.specs.CashFlows.{total}
use Rattle.scr_sheet.specs.Totals.{total_of, closed_total}
use Rattle.scr_sheet.specs.declared.keys.Projection.TheVariants.{Base}
use Rattle.scr_sheet.specs.declared.{rows.Class.Class, rows.Curve.Curve, rows.Liability.Liability, rows.Position.Position, sheet.BalanceSheet.BalanceSheet}
use Rattle.scr_sheet.specs.declared.rows.Class.TheVariants as classes
use Rattle.scr_sheet.specs.Validity.{Valid}
use Rattle.scr_profile.specs.declared.limits.TheConstants.{MAX_HELD}
use Rattle.scr_market.specs.declared.equity_parts.TheConstants.{MAX_EQUITY_PART}
use Rattle.scr_market.specs.EquityEnds.{type1_ends, type2_ends, infra_ends, infracorp_ends, equity_root_ends}
use Rattle.scr_market.proofs.EquityBounds.{type1-size, type2-size, infra-size, infracorp-size, root-size}
use Rattle.scr_nodes.specs.declared.{node.Direction.Direction, node.Equities.Equities, node.Node.Node}
use Rattle.scr_nodes.specs.declared.node.Equities.TheVariants as equities
use Rattle.scr_nodes.specs.declared.node.Measure.TheVariants as measures
use Rattle.scr_nodes.specs.declared.node.Node.TheVariants as nodes
use Rattle.scr_nodes.specs.declared.node.OfSecurity.TheVariants as of_securities
use Rattle.scr_nodes.specs.declared.node.OfLiability.TheVariants as of_liabilities
use Rattle.scr_nodes.specs.declared.node.OfCurrency.TheVariants as of_currencies
use Rattle.scr_nodes.specs.declared.node.Whole.TheVariants as wholes
use Rattle.scr_nodes.specs.OwnOf.{paid_by_security, paid_by_liability, nothing_paid}
use Rattle.scr_nodes.specs.Rows.{is_closed, is_paying, is_paying_in, is_owed_in, has_class, liability_of}
use Rattle.scr_nodes.specs.Sources.{fund_total, security_total, security_rate, liability_rate, currency_loss, rates_in, held_of_class, funds_of_class}
use Rattle.scr_nodes.proofs.OwnRows.{own-funds, own-securities, own-liabilities}
use Rattle.scr_discounts.specs.Discounts.{discounts_at}
use Rattle.scr_rules.specs.Holdings.{security_cents, fund_cents, class_securities_total, class_total}
use Rattle.scr_rules.specs.Rules.{paid_ends}
use Rattle.scr_rules.specs.Worked.{worked}
use Rattle.scr_rules.proofs.Currencies.{most_in, each-row-once}
use Rattle.scr_rules.proofs.Equations.{worked-equation}
use Rattle.scr_rules.proofs.Gathered.{together-none, together-wider, together-append, rows-together, all-together, rows-sum}
use Rattle.scr_rules.proofs.Payments.{security-known, liability-known, security-fits, liability-fits, paid-within}
use Rattle.scr_rules.proofs.SeenThrough.{seen-small}
use Rattle.scr_rules.proofs.Totals.{fund-worked, security-worked}

sum_by-times : {X : Type 0} (n : ℕ) (f : X → ℕ) (xs : List X) → sum_by (λ x. n * f x) xs ≡ n * sum_by f xs
sum_by-times n f [] = omega arith
sum_by-times {X} n f (x ∷ xs) =
    sum_by-cons (λ (y : X). n * f y) x xs ∙ ap (λ (s : ℕ). n * f x + s) (sum_by-times n f xs) ∙ shared n (f x) (sum_by f xs) ∙ ap (λ (s : ℕ). n * s) (sym (sum_by-cons f x xs))
  where
    shared : (a b c : ℕ) → a * b + a * c ≡ a * (b + c)
    shared a b c = omega arith

within-cost : (m : ℕ) (e : Ends) → IsWithin m e → IsWithin m (sub_ends (exact_ends (pos 0)) e)
within-cost m e h = record { low = turned e.high h.high; high = turned e.low h.low }
  where
    turned : (z : ℤ) → unsigned_abs z ≤ m → unsigned_abs (pos 0 -ℤ z) ≤ m
    turned z le = omega (arith, ints, le)

within-lost : (m : ℕ) (e : Ends) → IsWithin m e → IsWithin m (max_ends (exact_ends (pos 0)) e)
within-lost m e h = record { low = greater e.low h.low; high = greater e.high h.high }
  where
    greater : (z : ℤ) → unsigned_abs z ≤ m → unsigned_abs (int_max (pos 0) z) ≤ m
    greater z le = omega (arith, ints, clamps, le)

less-one : (b c : Bool) (n : ℕ) → (if b && c then n else 0) ≤ (if b then n else 0)
less-one true true n = omega arith
less-one true false n = omega arith
less-one false c n = omega arith

-- one kind of equities, as worked out from what is held of its classes
abbrev pub part_ends : BalanceSheet → Equities → Ends
part_ends sheet equities.Type1 = type1_ends (class_total classes.Type1Equity sheet) (class_total classes.Type1Strategic sheet) sheet.numbers.sym
part_ends sheet equities.Type2 = type2_ends (class_total classes.Type2Equity sheet) (class_total classes.Type2Strategic sheet) sheet.numbers.sym
part_ends sheet equities.Infrastructure = infra_ends (class_total classes.Infrastructure sheet) sheet.numbers.sym
part_ends sheet equities.InfrastructureCorporate = infracorp_ends (class_total classes.InfrastructureCorporate sheet) sheet.numbers.sym

module _ (factors : FactorValues) (sheet : BalanceSheet) (valid : Valid sheet) where
  abbrev figure : Node → Ends
  figure node = worked factors sheet node

  -- ---- payments
  pub unit-worked : (direction : Direction) (name : List ℕ) (p : Position) → position_of name sheet.securities ≡ Some p
      → figure (nodes.Security name (of_securities.UnitLoss direction)) ≡ paid_ends (paid_by_security sheet direction p) (discounts_at (paid_by_security sheet direction p).rates)
  unit-worked direction name p is =
      worked-equation factors sheet valid (nodes.Security name (of_securities.UnitLoss direction))
      ∙ ap (λ found. let paid = option_map_or (paid_by_security sheet direction) found (nothing_paid sheet direction) in paid_ends paid (discounts_at paid.rates)) is

  pub unit-within : (direction : Direction) (name : List ℕ) (p : Position) → position_of name sheet.securities ≡ Some p
      → IsWithin 13_700_000_000_000_000_000_000_000 (figure (nodes.Security name (of_securities.UnitLoss direction)))
  unit-within direction name p is =
      let known = security-known sheet valid name p is in
      subst (IsWithin 13_700_000_000_000_000_000_000_000) (sym (unit-worked direction name p is))
      (paid-within (paid_by_security sheet direction p) 5_000_000 (security-fits sheet valid direction p known).rates known.formed.4.3)

  pub rate-worked : (direction : Direction) (name : List ℕ) (p : Position) → position_of name sheet.securities ≡ Some p
      → figure (nodes.Security name (of_securities.Rate direction)) ≡ scaled_ends (figure (nodes.Security name (of_securities.UnitLoss direction))) (total_of sheet name)
  rate-worked direction name p is =
      worked-equation factors sheet valid (nodes.Security name (of_securities.Rate direction))
      ∙ ap (λ (e : Ends). scaled_ends (figure (nodes.Security name (of_securities.UnitLoss direction))) (or_zero e.low)) (security-worked factors sheet valid name (ap is_some is))

  pub rate-within : (direction : Direction) (name : List ℕ) (p : Position) → position_of name sheet.securities ≡ Some p
      → IsWithin (13_700_000_000_000_000_000 * total_of sheet name) (figure (nodes.Security name (of_securities.Rate direction)))
  rate-within direction name p is =
      subst (IsWithin (13_700_000_000_000_000_000 * total_of sheet name)) (sym (rate-worked direction name p is))
      (scaled-within (figure (nodes.Security name (of_securities.UnitLoss direction))) (total_of sheet name) (unit-within direction name p is))

  pub cost-worked : (direction : Direction) (name : List ℕ) (l : Liability) → liability_of name sheet.liabilities ≡ Some l
      → figure (nodes.Liability name (of_liabilities.Rate direction))
      ≡ sub_ends (exact_ends (pos 0)) (paid_ends (paid_by_liability sheet direction l) (discounts_at (paid_by_liability sheet direction l).rates))
  cost-worked direction name l is =
      worked-equation factors sheet valid (nodes.Liability name (of_liabilities.Rate direction))
      ∙ ap (λ found. let paid = option_map_or (paid_by_liability sheet direction) found (nothing_paid sheet direction) in sub_ends (exact_ends (pos 0)) (paid_ends paid (discounts_at paid.rates))) is

  pub cost-within : (direction : Direction) (name : List ℕ) (l : Liability) → liability_of name sheet.liabilities ≡ Some l
      → IsWithin (MAX_DISCOUNT * total l.flows.base) (figure (nodes.Liability name (of_liabilities.Rate direction)))
  cost-within direction name l is =
      let known = liability-known sheet valid name l is in
      subst (IsWithin (MAX_DISCOUNT * total l.flows.base)) (sym (cost-worked direction name l is))
      (within-cost _ _ (paid-within (paid_by_liability sheet direction l) (total l.flows.base) (liability-fits sheet valid direction l known).rates (omega arith)))

  -- ---- what a currency loses
  abbrev security_most : Position → ℕ
  security_most p = 13_700_000_000_000_000_000 * security_cents sheet p

  abbrev liability_most : Liability → ℕ
  liability_most l = MAX_DISCOUNT * total l.flows.base

  abbrev currency_most : List ℕ → ℕ
  currency_most currency =
      sum_by (most_in curve_name (λ (p : Position). p.security.currency) security_most currency) sheet.securities
      + sum_by (most_in curve_name (λ (l : Liability). l.currency) liability_most currency) sheet.liabilities

  pub rates-together : (direction : Direction) (currency : List ℕ) → AreTogether (currency_most currency) (map figure (rates_in currency direction sheet))
  rates-together direction currency =
      let securities = rows-together figure (security_rate direction) (is_paying_in currency) security_most sheet.securities
      (All-map (λ p. position_of (position_name p) sheet.securities ≡ Some p) _ sheet.securities (λ p own e. rate-within direction (position_name p) p own) (own-securities sheet valid)) in
      let liabilities = rows-together figure (liability_rate direction) (is_owed_in currency) liability_most sheet.liabilities
      (All-map (λ l. liability_of (liability_name l) sheet.liabilities ≡ Some l) _ sheet.liabilities (λ l own e. cost-within direction (liability_name l) l own) (own-liabilities sheet valid)) in
      let fewer = sum_by-le-sum_by (λ (p : Position). if is_paying_in currency p then security_most p else 0)
      (most_in curve_name (λ (p : Position). p.security.currency) security_most currency) sheet.securities
      (λ p. less-one (same_name currency p.security.currency) (is_paying p) (security_most p)) in
      subst (AreTogether (currency_most currency)) (sym (map-append figure (map (security_rate direction) (filter (is_paying_in currency) sheet.securities)) (map (liability_rate direction) (filter (is_owed_in currency) sheet.liabilities))))
      (together-wider _ _ _ (omega (arith, fewer)) (together-append _ _ _ _ securities liabilities))

  pub lost-worked : (direction : Direction) (currency : List ℕ) → figure (nodes.Currency currency (of_currencies.Loss direction)) ≡ max_ends (exact_ends (pos 0)) (sum_ends (map figure (rates_in currency direction sheet)))
  lost-worked direction currency = worked-equation factors sheet valid (nodes.Currency currency (of_currencies.Loss direction))

  lost-within : (direction : Direction) (currency : List ℕ) → IsWithin (currency_most currency) (figure (nodes.Currency currency (of_currencies.Loss direction)))
  lost-within direction currency =
      subst (IsWithin (currency_most currency)) (sym (lost-worked direction currency))
      (within-lost _ _ (sum-within (currency_most currency) (map figure (rates_in currency direction sheet)) (rates-together direction currency)))

  -- all currencies together
  currencies-most : sum_by (λ (c : Curve). currency_most c.currency) sheet.curves ≤ 10 ^ 33
  currencies-most =
      let securities = each-row-once curve_name (λ (p : Position). p.security.currency) security_most sheet.curves sheet.securities valid.currencies_once in
      let liabilities = each-row-once curve_name (λ (l : Liability). l.currency) liability_most sheet.curves sheet.liabilities valid.currencies_once in
      let parts = sum_by-add (λ (c : Curve). sum_by (most_in curve_name (λ (p : Position). p.security.currency) security_most c.currency) sheet.securities)
      (λ (c : Curve). sum_by (most_in curve_name (λ (l : Liability). l.currency) liability_most c.currency) sheet.liabilities) sheet.curves in
      omega (
        arith,
        securities,
        liabilities,
        parts,
        seen-small sheet valid,
        valid.within.liability_flows Base,
        sum_by-times 13_700_000_000_000_000_000 (security_cents sheet) sheet.securities,
        sum_by-times MAX_DISCOUNT (λ (l : Liability). total l.flows.base) sheet.liabilities,
      )

  pub losses-together : (direction : Direction) → AreTogether (10 ^ 33) (map figure (map (currency_loss direction) sheet.curves))
  losses-together direction =
      together-wider _ _ _ currencies-most
      (all-together figure (currency_loss direction) (λ (c : Curve). currency_most c.currency) sheet.curves
      (each sheet.curves))
    where
      each : (curves : List Curve) → AllByRecursion (λ c. IsWithin (currency_most c.currency) (figure (currency_loss direction c))) curves
      each [] = tt
      each (c ∷ curves) = (lost-within direction c.currency, each curves)

  pub one-currency : (direction : Direction) (currency : List ℕ) → AreTogether (10 ^ 33) (map figure (rates_in currency direction sheet))
  one-currency direction currency =
      let securities = sum_by-le-sum_by (most_in curve_name (λ (p : Position). p.security.currency) security_most currency) security_most sheet.securities (λ p. at-most (same_name currency p.security.currency) (security_most p)) in
      let liabilities = sum_by-le-sum_by (most_in curve_name (λ (l : Liability). l.currency) liability_most currency) liability_most sheet.liabilities (λ l. at-most (same_name currency l.currency) (liability_most l)) in
      together-wider _ _ _
      (omega (
        arith,
        securities,
        liabilities,
        seen-small sheet valid,
        valid.within.liability_flows Base,
        sum_by-times 13_700_000_000_000_000_000 (security_cents sheet) sheet.securities,
        sum_by-times MAX_DISCOUNT (λ (l : Liability). total l.flows.base) sheet.liabilities,
      ))
      (rates-together direction currency)
    where
      at-most : (b : Bool) (n : ℕ) → (if b then n else 0) ≤ n
      at-most true n = omega arith
      at-most false n = omega arith

  pub gross-worked : (direction : Direction) → figure (nodes.Whole (wholes.InterestScenario direction measures.Gross)) ≡ gross_ends (map figure (map (currency_loss direction) sheet.curves))
  gross-worked direction = worked-equation factors sheet valid (nodes.Whole (wholes.InterestScenario direction measures.Gross))

  pub gross-small : (direction : Direction) → IsWithin (10 ^ 18) (figure (nodes.Whole (wholes.InterestScenario direction measures.Gross)))
  gross-small direction = subst (IsWithin (10 ^ 18)) (sym (gross-worked direction)) (gross-within (map figure (map (currency_loss direction) sheet.curves)) (losses-together direction))

  -- ---- what is held of a class
  securities-sum : (class : Class) → sum_ends (map figure (map security_total (filter (has_class class) sheet.securities))) ≡ exact_ends (pos (class_securities_total class sheet))
  securities-sum class =
      rows-sum figure security_total (has_class class) (security_cents sheet) sheet.securities
      (All-map (λ p. position_of (position_name p) sheet.securities ≡ Some p) (λ p. figure (security_total p) ≡ exact_ends (pos (security_cents sheet p))) sheet.securities
      (λ p own. security-worked factors sheet valid (position_name p) (ap is_some own)) (own-securities sheet valid))

  closed-sum : sum_ends (map figure (map fund_total (filter is_closed sheet.funds))) ≡ exact_ends (pos (closed_total sheet))
  closed-sum =
      rows-sum figure fund_total is_closed (fund_cents sheet) sheet.funds
      (All-map (λ s. stake_of (stake_name s) sheet.funds ≡ Some s) (λ s. figure (fund_total s) ≡ exact_ends (pos (fund_cents sheet s))) sheet.funds
      (λ s own. fund-worked factors sheet valid (stake_name s) (ap is_some own)) (own-funds sheet valid))

  -- the funds of a class, in cents
  abbrev funds_cents : Class → ℕ
  funds_cents classes.Type2Equity = closed_total sheet
  funds_cents class = 0

  funds-sum : (class : Class) → sum_ends (map figure (funds_of_class class sheet)) ≡ exact_ends (pos (funds_cents class))
  funds-sum classes.Type2Equity = closed-sum
  funds-sum class = refl

  class-is : (class : Class) → class_total class sheet ≡ class_securities_total class sheet + funds_cents class
  class-is classes.Type2Equity = refl
  class-is class = plus-none (class_securities_total class sheet)
    where
      plus-none : (n : ℕ) → n ≡ n + 0
      plus-none n = omega arith

  pub class-worked : (class : Class) → figure (nodes.Whole (wholes.ClassSum class)) ≡ exact_ends (pos (class_total class sheet))
  class-worked class =
      worked-equation factors sheet valid (nodes.Whole (wholes.ClassSum class))
      ∙ ap sum_ends (map-append figure (map security_total (filter (has_class class) sheet.securities)) (funds_of_class class sheet))
      ∙ sum_ends-append (map figure (map security_total (filter (has_class class) sheet.securities))) (map figure (funds_of_class class sheet))
      ∙ ap₂ add_ends (securities-sum class) (funds-sum class) ∙ ap exact_ends (whole _ _ _ (class-is class))
    where
      whole : (a b c : ℕ) → c ≡ a + b → pos a +ℤ pos b ≡ pos c
      whole a b c e = omega (arith, ints, e)

  funds-le : (class : Class) → funds_cents class ≤ closed_total sheet
  funds-le classes.Type2Equity = omega arith
  funds-le class = omega arith

  pub class-small : (class : Class) → class_total class sheet ≤ MAX_HELD
  class-small class =
      let some = sum_by-le-sum_by (λ (p : Position). if has_class class p then security_cents sheet p else 0) (security_cents sheet) sheet.securities (λ p. at-most (has_class class p) (security_cents sheet p)) in
      omega (arith, some, funds-le class, class-is class, seen-small sheet valid)
    where
      at-most : (b : Bool) (n : ℕ) → (if b then n else 0) ≤ n
      at-most true n = omega arith
      at-most false n = omega arith

  pub class-amount : (class : Class) → IsAmount MAX_HELD (figure (nodes.Whole (wholes.ClassSum class)))
  class-amount class = subst (IsAmount MAX_HELD) (sym (class-worked class)) (amount-exact MAX_HELD (class_total class sheet) (class-small class))

  pub class-together : (class : Class) → AreTogether (10 ^ 33) (map figure (held_of_class class sheet))
  class-together class =
      let securities = rows-together figure security_total (has_class class) (security_cents sheet) sheet.securities
      (All-map (λ p. position_of (position_name p) sheet.securities ≡ Some p) _ sheet.securities
      (λ p own e. subst (IsWithin (security_cents sheet p)) (sym (security-worked factors sheet valid (position_name p) (ap is_some own))) (exact-within (security_cents sheet p))) (own-securities sheet valid)) in
      let some = sum_by-le-sum_by (λ (p : Position). if has_class class p then security_cents sheet p else 0) (security_cents sheet) sheet.securities (λ p. at-most (has_class class p) (security_cents sheet p)) in
      subst (AreTogether (10 ^ 33)) (sym (map-append figure (map security_total (filter (has_class class) sheet.securities)) (funds_of_class class sheet)))
      (together-wider _ _ _ (omega (arith, some, funds-le class, seen-small sheet valid)) (together-append _ _ _ _ securities (funds-together class)))
    where
      at-most : (b : Bool) (n : ℕ) → (if b then n else 0) ≤ n
      at-most true n = omega arith
      at-most false n = omega arith

      exact-within : (n : ℕ) → IsWithin n (exact_ends (pos n))
      exact-within n = record { low = omega arith; high = omega arith }

      funds-together : (class : Class) → AreTogether (funds_cents class) (map figure (funds_of_class class sheet))
      funds-together classes.Type2Equity =
          rows-together figure fund_total is_closed (fund_cents sheet) sheet.funds
          (All-map (λ s. stake_of (stake_name s) sheet.funds ≡ Some s) _ sheet.funds
          (λ s own e. subst (IsWithin (fund_cents sheet s)) (sym (fund-worked factors sheet valid (stake_name s) (ap is_some own))) (exact-within (fund_cents sheet s))) (own-funds sheet valid))
      funds-together class = together-none 0

  -- ---- equities
  pub least : negsuc 99_999 ≤ℤ sheet.numbers.sym
  least = let h = valid.numbers.sym.0 in omega (arith, ints, h)

  pub greatest : sheet.numbers.sym ≤ℤ pos 100_000
  greatest = let h = valid.numbers.sym.1 in omega (arith, ints, h)

  pub part-worked : (kind : Equities) → figure (nodes.Whole (wholes.EquityPart kind)) ≡ part_ends sheet kind
  part-worked equities.Type1 =
      worked-equation factors sheet valid (nodes.Whole (wholes.EquityPart equities.Type1))
      ∙ ap₂ (λ (a : Ends) (b : Ends). type1_ends (or_zero a.low) (or_zero b.low) sheet.numbers.sym) (class-worked classes.Type1Equity) (class-worked classes.Type1Strategic)
  part-worked equities.Type2 =
      worked-equation factors sheet valid (nodes.Whole (wholes.EquityPart equities.Type2))
      ∙ ap₂ (λ (a : Ends) (b : Ends). type2_ends (or_zero a.low) (or_zero b.low) sheet.numbers.sym) (class-worked classes.Type2Equity) (class-worked classes.Type2Strategic)
  part-worked equities.Infrastructure =
      worked-equation factors sheet valid (nodes.Whole (wholes.EquityPart equities.Infrastructure))
      ∙ ap (λ (a : Ends). infra_ends (or_zero a.low) sheet.numbers.sym) (class-worked classes.Infrastructure)
  part-worked equities.InfrastructureCorporate =
      worked-equation factors sheet valid (nodes.Whole (wholes.EquityPart equities.InfrastructureCorporate))
      ∙ ap (λ (a : Ends). infracorp_ends (or_zero a.low) sheet.numbers.sym) (class-worked classes.InfrastructureCorporate)

  part-size : (kind : Equities) → IsAmount MAX_EQUITY_PART (part_ends sheet kind)
  part-size equities.Type1 = type1-size sheet.numbers.sym least greatest _ _ (class-small classes.Type1Equity) (class-small classes.Type1Strategic)
  part-size equities.Type2 = type2-size sheet.numbers.sym least greatest _ _ (class-small classes.Type2Equity) (class-small classes.Type2Strategic)
  part-size equities.Infrastructure = infra-size sheet.numbers.sym least greatest _ (class-small classes.Infrastructure)
  part-size equities.InfrastructureCorporate = infracorp-size sheet.numbers.sym least greatest _ (class-small classes.InfrastructureCorporate)

  pub part-amount : (kind : Equities) → IsAmount MAX_EQUITY_PART (figure (nodes.Whole (wholes.EquityPart kind)))
  part-amount kind = subst (IsAmount MAX_EQUITY_PART) (sym (part-worked kind)) (part-size kind)

  pub root-worked : figure (nodes.Whole wholes.EquityRoot) ≡ equity_root_ends (figure (nodes.Whole (wholes.EquityPart equities.Type1)))
      (add_ends (add_ends (figure (nodes.Whole (wholes.EquityPart equities.Type2))) (figure (nodes.Whole (wholes.EquityPart equities.Infrastructure)))) (figure (nodes.Whole (wholes.EquityPart equities.InfrastructureCorporate))))
  root-worked = worked-equation factors sheet valid (nodes.Whole wholes.EquityRoot)

  pub root-amount : IsAmount (MAX_EQUITY_PART + (MAX_EQUITY_PART + MAX_EQUITY_PART + MAX_EQUITY_PART)) (figure (nodes.Whole wholes.EquityRoot))
  root-amount =
      subst (IsAmount (MAX_EQUITY_PART + (MAX_EQUITY_PART + MAX_EQUITY_PART + MAX_EQUITY_PART))) (sym root-worked)
      (root-size MAX_EQUITY_PART (MAX_EQUITY_PART + MAX_EQUITY_PART + MAX_EQUITY_PART) _ _ (part-amount equities.Type1)
      (amount-add (MAX_EQUITY_PART + MAX_EQUITY_PART) MAX_EQUITY_PART _ _
      (amount-add MAX_EQUITY_PART MAX_EQUITY_PART _ _ (part-amount equities.Type2) (part-amount equities.Infrastructure)) (part-amount equities.InfrastructureCorporate)))
