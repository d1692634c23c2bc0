-- The payments of a row of a valid balance sheet: their rule fits, and how large what they lose is.
use Rattle.std.proofs.Common.{◌≡◌, ℕ, ◌*◌, ◌≤◌, ℤ, Bool, true, false, cond, List, [], ◌∷◌, sum_by, unsigned_abs, refl, sym, subst, Some, le_refl, arith}
use Rattle.std.specs.Prelude.{All, int_le, nat_le}
use Rattle.std.specs.List.{AllByRecursion}
use Rattle.std.specs.Option.{option_map_or}
use Rattle.std.proofs.lemmas.Bool.Decides.{nat_tests}
use Rattle.std.proofs.lemmas.Nat.{mul-le}
use Rattle.std.proofs.lemmas.List.Elements.{All-from_recursion}
use Rattle.scr_num.specs.Rounding.{Ends}
use Rattle.scr_dates.specs.Civil.{IsDay}
use Rattle.scr_dates.specs.Years.{maturity_of, years_to}
use Rattle.scr_dates.specs.declared.day.Day.{Day}
use Rattle.scr_dates.specs.declared.term.Maturity.TheVariants.{Past, Years, TooFar}
use Rattle.scr_yield_curve.specs.DiscountEnds.{table_ends, IsDiscount}
use Rattle.scr_yield_curve.specs.Parts.{IsCurveInMillionths, rates_in_parts}
use Rattle.scr_yield_curve.specs.declared.tilt.Tilt.{Tilt}
use Rattle.scr_yield_curve.specs.declared.tilt.Tilt.TheVariants as tilts
use Rattle.scr_yield_curve.specs.declared.table.TheConstants.{MAX_DISCOUNT}
use Rattle.scr_yield_curve.proofs.RateLemmas.{rates_in_range, length-rates_in_parts}
use Rattle.scr_yield_curve.proofs.TableLemmas.{table_in_range}
use Rattle.scr_flow.specs.Due.{dues, AreNear}
use Rattle.scr_num.specs.Sizes.{IsWithin}
use Rattle.scr_flow.proofs.SizeLemmas.{loss-within, dues-within}
use Rattle.scr_tables.proofs.TableRows.{All-row_of}
use Rattle.scr_sheet.specs.BalanceSheet.{position_name, liability_name, curve_name, position_of, security_years, liability_years}
use Rattle.scr_sheet.specs.CashFlows.{total, years_of, greatest_years}
use Rattle.scr_sheet.specs.Forms.{AreOnDays}
use Rattle.scr_sheet.specs.Validity.{Valid, IsSecurity, IsLiability, IsCurve, HasCurrency}
use Rattle.scr_sheet.specs.declared.{sheet.BalanceSheet.BalanceSheet, rows.Curve.Curve, rows.Position.Position, rows.Liability.Liability}
use Rattle.scr_sheet.specs.declared.keys.Projection.TheVariants.{Base}
use Rattle.scr_sheet.proofs.Greatest.{each-le}
use Rattle.scr_sheet.proofs.HeldNames.{row-there}
use Rattle.scr_funds.proofs.Members.{at_member, each-from_members}
use Rattle.scr_funds.proofs.SplitSums.{sum_by-member}
use Rattle.scr_discounts.proofs.CurveRows.{HasRates, curve-rates}
use Rattle.scr_nodes.specs.Own.{Paid}
use Rattle.scr_nodes.specs.OwnOf.{paid_by_security, paid_by_liability}
use Rattle.scr_nodes.specs.Rows.{liability_of, rates_of}
use Rattle.scr_nodes.specs.declared.node.Direction.{Direction}
use Rattle.scr_nodes.specs.declared.node.Direction.TheVariants as directions
use Rattle.scr_rules.specs.Discounts.{tilt_of, changed}
use Rattle.scr_discounts.specs.Discounts.{discounts_at}
use Rattle.scr_rules.specs.Fits.{FitsPaid}
use Rattle.scr_rules.specs.Rules.{paid_ends}

-- ---- payments that can be sorted by maturity
above : (n : ℕ) → nat_le n 100 ≡ false → n ≤ 100 → ⊥
above n test h = grind (arith, nat_tests)

not_far : (asof pay : ℤ) → years_of (maturity_of asof pay) ≤ 100 → (years : ℕ) → maturity_of asof pay ≡ TooFar years → ⊥
not_far asof pay = by (int_le pay asof) (nat_le (years_to asof pay) 100) (years_to asof pay) refl
  where
    by : (past within : Bool) (n : ℕ) → nat_le n 100 ≡ within → years_of (cond past Past (cond within (Years n) (TooFar n))) ≤ 100
        → (years : ℕ) → cond past Past (cond within (Years n) (TooFar n)) ≡ TooFar years → ⊥
    by true within n test h years is = cc
    by false true n test h years is = cc
    by false false n test h years is = above n test h

near_each : (asof : ℤ) (flows : List (Day × ℤ)) → greatest_years asof flows ≤ 100
    → AllByRecursion (λ flow. (years : ℕ) → maturity_of asof flow.0.number ≡ TooFar years → ⊥) flows
near_each asof [] h = tt
near_each asof (flow ∷ flows) h = (not_far asof flow.0.number (omega arith), near_each asof flows (omega arith))

pub are-near : (asof : ℤ) (flows : List (Day × ℤ)) → greatest_years asof flows ≤ 100 → AreNear asof flows
are-near asof flows h = All-from_recursion (λ flow. (years : ℕ) → maturity_of asof flow.0.number ≡ TooFar years → ⊥) flows (near_each asof flows h)

-- ---- the rates of a currency that has a curve
currency-rates : (sheet : BalanceSheet) → Valid sheet → (currency : List ℕ) → HasCurrency sheet.curves currency → HasRates (rates_of currency sheet)
currency-rates sheet valid currency has =
    let found = row-there curve_name currency sheet.curves has in
    let own : IsCurve found.0 = All-row_of curve_name IsCurve currency sheet.curves found.0 found.1 valid.curves in
    subst (λ o. HasRates (option_map_or (λ (curve : Curve). curve.rates) o [])) (sym found.1) (curve-rates found.0 own)

-- ---- what is known of a row by its name
module _ (sheet : BalanceSheet) (valid : Valid sheet) where
  abbrev asof : ℤ
  asof = sheet.numbers.asof.number

  pub record KnownSecurity (p : Position) : Type 0 where
    pub formed : IsSecurity p
    pub years : security_years asof p ≤ 100
    pub currency : HasCurrency sheet.curves p.security.currency

  pub record KnownLiability (l : Liability) : Type 0 where
    pub formed : IsLiability l
    pub years : liability_years asof l ≤ 100
    pub currency : HasCurrency sheet.curves l.currency
    pub small : total l.flows.base ≤ 50_000_000_000_000

  pub known-securities : AllByRecursion KnownSecurity sheet.securities
  known-securities = each-from_members KnownSecurity sheet.securities (λ p m. record {
    formed = at_member IsSecurity sheet.securities p valid.securities m;
    years = at_member (λ q. security_years asof q ≤ 100) sheet.securities p (let years = valid.within.years in each-le (security_years asof) 100 sheet.securities (omega arith)) m;
    currency = at_member (λ q. HasCurrency sheet.curves q.security.currency) sheet.securities p valid.known.security_currencies m;
  })

  pub known-liabilities : AllByRecursion KnownLiability sheet.liabilities
  known-liabilities = each-from_members KnownLiability sheet.liabilities (λ l m. record {
    formed = at_member IsLiability sheet.liabilities l valid.liabilities m;
    years = at_member (λ q. liability_years asof q ≤ 100) sheet.liabilities l (let years = valid.within.years in each-le (liability_years asof) 100 sheet.liabilities (omega arith)) m;
    currency = at_member (λ q. HasCurrency sheet.curves q.currency) sheet.liabilities l valid.known.liability_currencies m;
    small = let all = valid.within.liability_flows Base in let own = sum_by-member (λ (q : Liability). total q.flows.base) sheet.liabilities l m in omega (arith, all, own);
  })

  pub security-known : (name : List ℕ) (p : Position) → position_of name sheet.securities ≡ Some p → KnownSecurity p
  security-known name p is = All-row_of position_name KnownSecurity name sheet.securities p is known-securities

  pub liability-known : (name : List ℕ) (l : Liability) → liability_of name sheet.liabilities ≡ Some l → KnownLiability l
  liability-known name l is = All-row_of liability_name KnownLiability name sheet.liabilities l is known-liabilities

  -- ---- their payments fit
  payments-fit : (payments : List (Day × ℤ)) (currency : List ℕ) (direction : Direction) → AreOnDays payments → greatest_years asof payments ≤ 100
      → total payments ≤ 50_000_000_000_000 → HasCurrency sheet.curves currency
      → FitsPaid (record { asof = asof; payments = payments; rates = rates_of currency sheet; direction = direction })
  payments-fit payments currency direction days years small has =
      let rates = currency-rates sheet valid currency has in
      record {
        asof = valid.numbers.asof;
        days = All-from_recursion (λ payment. IsDay payment.0.number) payments days;
        near = are-near asof payments years;
        small = small;
        rates = rates.curve;
        count = rates.count;
      }

  pub security-fits : (direction : Direction) (p : Position) → KnownSecurity p → FitsPaid (paid_by_security sheet direction p)
  security-fits direction p known =
      let small : total p.security.flows ≤ 5_000_000 = known.formed.4.3 in
      payments-fit p.security.flows p.security.currency direction known.formed.4.0 known.years (omega (arith, small)) known.currency

  pub liability-fits : (direction : Direction) (l : Liability) → KnownLiability l → FitsPaid (paid_by_liability sheet direction l)
  liability-fits direction l known =
      payments-fit l.flows.base l.currency direction (known.formed.3 Base).0 (base_years l known.years) known.small known.currency
    where
      base_years : (liability : Liability) → liability_years asof liability ≤ 100 → greatest_years asof liability.flows.base ≤ 100
      base_years liability h = omega arith

-- ---- how large what they lose is
tables : (rates : List ℤ) (tilt : Tilt) → IsCurveInMillionths rates → All IsDiscount (table_ends (rates_in_parts rates tilt))
tables rates tilt curve =
    table_in_range (rates_in_parts rates tilt) (rates_in_range rates tilt curve) (let count = length-rates_in_parts rates tilt in omega (arith, count))

pub changed-is : (direction : Direction) (rates : List ℤ) → changed direction (discounts_at rates) ≡ table_ends (rates_in_parts rates (tilt_of direction))
unfolding discounts_at
changed-is directions.Up rates = refl
changed-is directions.Down rates = refl

pub base-is : (rates : List ℤ) → (discounts_at rates).base ≡ table_ends (rates_in_parts rates tilts.Base)
unfolding discounts_at
base-is rates = refl

weaker : (m n : ℕ) (e : Ends) → m ≤ n → IsWithin m e → IsWithin n e
weaker m n e le h = record { low = omega (arith, le, h.low); high = omega (arith, le, h.high) }

pub paid-within : (paid : Paid) (most : ℕ) → IsCurveInMillionths paid.rates → total paid.payments ≤ most
    → IsWithin (MAX_DISCOUNT * most) (paid_ends paid (discounts_at paid.rates))
unfolding paid_ends
paid-within paid most curve small =
    weaker _ _ _ (mul-le MAX_DISCOUNT (sum_by unsigned_abs (dues paid.asof paid.payments)) MAX_DISCOUNT most (le_refl MAX_DISCOUNT) (omega (arith, small, dues-within paid.asof paid.payments)))
    (loss-within (dues paid.asof paid.payments) (rates_in_parts paid.rates tilts.Base) (rates_in_parts paid.rates (tilt_of paid.direction)) (discounts_at paid.rates).base
    (changed paid.direction (discounts_at paid.rates))
    (subst (All IsDiscount) (sym (base-is paid.rates)) (tables paid.rates tilts.Base curve))
    (subst (All IsDiscount) (sym (changed-is paid.direction paid.rates)) (tables paid.rates (tilt_of paid.direction) curve)))
