-- The worked figures of the Basic Solvency Capital Requirement, of operational risk, of the adjustments and of the Solvency
-- Capital Requirement of a valid balance sheet: what they are, and how large.
use Rattle.std.proofs.Common.{◌≡◌, ℕ, ◌+◌, ◌*◌, ◌^◌, ◌≤◌, List, [], ◌∷◌, map, sum_by, ℤ, pos, negsuc, neg_ℤ, ◌+ℤ◌, ◌-ℤ◌, ◌*ℤ◌, ◌≤ℤ◌, unsigned_abs, refl, ap, ap₂, ◌∙◌, sym, subst, arith, lit≤}
use Rattle.std.specs.Prelude.{slice_index_or}
use Rattle.std.specs.Int.{int_max}
use Rattle.std.proofs.lemmas.Int.{ints, clamps}
use Rattle.scr_num.specs.Amounts.{IsAmount, AreAmounts}
use Rattle.scr_num.specs.Rounding.{Ends, exact_ends, add_ends, floor_div, ceil_div}
use Rattle.scr_num.specs.Sizes.{IsWithin}
use Rattle.scr_num.proofs.AmountBounds.{amount-wider, amount-high}
use Rattle.scr_num.proofs.CentAmounts.{enclosing-in_order}
use Rattle.scr_loss.specs.AbsorptionEnds.{IsNegativeAmount, adj_tp_ends, adj_dt_ends, scr_ends}
use Rattle.scr_loss.specs.BscrEnds.{bscr_ends, known_diversification_ends}
use Rattle.scr_loss.specs.Operational.{IsWithinLimits}
use Rattle.scr_loss.specs.OperationalEnds.{fifths_beyond, counted_ends, or_nil_ends, prem_ends, prov_ends, cap_ends, op_ends}
use Rattle.scr_loss.proofs.AdjustmentBounds.{adj_tp-size, adj_dt-size}
use Rattle.scr_loss.proofs.BscrBounds.{bscr-size}
use Rattle.scr_loss.proofs.OperationalBounds.{prem-encloses, prov-size, cap-size, op-size}
use Rattle.scr_profile.specs.declared.limits.TheConstants.{MAX_AMOUNT}
use Rattle.scr_profile.specs.declared.operational.OpInput.{OpInput}
use Rattle.scr_factors.specs.Values.{FactorValues, IsInForm}
use Rattle.scr_sheet.specs.Validity.{Valid, IsBetween}
use Rattle.scr_sheet.specs.Validity as validity
use Rattle.scr_sheet.specs.declared.sheet.BalanceSheet.{BalanceSheet}
use Rattle.scr_nodes.specs.declared.node.Adjustment.TheVariants as adjustments
use Rattle.scr_nodes.specs.declared.{node.Measure.Measure, node.Node.Node}
use Rattle.scr_nodes.specs.declared.node.Measure.TheVariants as measures
use Rattle.scr_nodes.specs.declared.node.Node.TheVariants as nodes
use Rattle.scr_nodes.specs.declared.node.Whole.TheVariants as wholes
use Rattle.scr_nodes.specs.declared.node.Operational.TheVariants as operations
use Rattle.scr_nodes.specs.declared.node.Risk.TheVariants as risks
use Rattle.scr_nodes.specs.OwnOf.{premiums_of, provisions_of}
use Rattle.scr_nodes.specs.Sources.{risk_part, modules}
use Rattle.scr_rules.specs.LossFits.{MAX_REQUIREMENT}
use Rattle.scr_rules.specs.Worked.{worked}
use Rattle.scr_rules.proofs.Equations.{worked-equation}
use Rattle.scr_rules.proofs.NonlifeRanges.{amount-within}
use Rattle.scr_rules.proofs.NonlifeSizes.{each-at, health-amount, nonlife-amount}

-- ---- operational risk by premiums

floor_div-one : (z : ℤ) → floor_div z 1 ≡ z
floor_div-one (pos n) = omega (arith, ints)
floor_div-one (negsuc n) = omega (arith, ints)

-- whole grains need no rounding
counted-exact : (units : ℤ) (grains : ℕ) → counted_ends units grains ≡ exact_ends (units *ℤ pos grains)
counted-exact units grains =
    ap₂ (λ (low high : ℤ). let e : Ends = record { low = low; high = high } in e) (floor_div-one (units *ℤ pos grains)) (upper (units *ℤ pos grains))
  where
    upper : (z : ℤ) → ceil_div z 1 ≡ z
    upper z = let same = floor_div-one (neg_ℤ z) in omega (arith, ints, same)

-- each of the two levels and of the two growths, which stand for their low and their high ends
premiums-small : (el eul pel peul en pen : ℕ) → el ≤ MAX_AMOUNT → eul ≤ MAX_AMOUNT → pel ≤ MAX_AMOUNT → peul ≤ MAX_AMOUNT → en ≤ MAX_AMOUNT → pen ≤ MAX_AMOUNT
    → unsigned_abs ((((pos el -ℤ pos eul) *ℤ pos 40) +ℤ (pos en *ℤ pos 30))
    +ℤ (int_max (pos 0) ((fifths_beyond el pel -ℤ fifths_beyond eul peul) *ℤ pos 8) +ℤ int_max (pos 0) (fifths_beyond en pen *ℤ pos 6))) ≤ 20_000_000_000_000_000
premiums-small el eul pel peul en pen a b c d e f = omega (arith, ints, clamps, a, b, c, d, e, f)

pub prem-exact : (op : OpInput) → prem_ends op
    ≡ exact_ends ((((pos op.el -ℤ pos op.eul) *ℤ pos 40) +ℤ (pos op.en *ℤ pos 30))
    +ℤ (int_max (pos 0) ((fifths_beyond op.el op.pel -ℤ fifths_beyond op.eul op.peul) *ℤ pos 8) +ℤ int_max (pos 0) (fifths_beyond op.en op.pen *ℤ pos 6)))
prem-exact op =
    ap₂ add_ends
    (ap₂ add_ends (counted-exact (pos op.el -ℤ pos op.eul) 40) (counted-exact (pos op.en) 30))
    (ap₂ (λ (a b : Ends). add_ends (or_nil_ends a) (or_nil_ends b)) (counted-exact (fifths_beyond op.el op.pel -ℤ fifths_beyond op.eul op.peul) 8) (counted-exact (fifths_beyond op.en op.pen) 6))

pub prem-within : (op : OpInput) → IsWithinLimits op → IsWithin 20_000_000_000_000_000 (prem_ends op)
prem-within op h =
    let small = premiums-small op.el op.eul op.pel op.peul op.en op.pen h.el h.eul h.pel h.peul h.en h.pen in
    subst (IsWithin 20_000_000_000_000_000) (sym (prem-exact op)) (record { low = small; high = small })

-- ---- amounts below 0
pub negative-within : (most more : ℕ) (e : Ends) → most ≤ more → IsNegativeAmount most e → IsWithin more e
negative-within most more e le h =
    let least = h.least in
    let rising = h.ordered in
    let above = h.not_positive in
    record { low = omega (arith, ints); high = omega (arith, ints) }

sums-in-order : (a b c d e f : ℤ) → a ≤ℤ b → c ≤ℤ d → e ≤ℤ f → ((a +ℤ c) +ℤ e) ≤ℤ ((b +ℤ d) +ℤ f)
sums-in-order a b c d e f p q r = omega (arith, ints)

sums-high : (b d f : ℤ) (m n k : ℕ) → b ≤ℤ pos m → d ≤ℤ pos 0 → f ≤ℤ pos n → m + n ≤ k → ((b +ℤ d) +ℤ f) ≤ℤ pos k
sums-high b d f m n k p q r le = omega (arith, ints)

pub wider-within : (m n : ℕ) (e : Ends) → m ≤ n → IsWithin m e → IsWithin n e
wider-within m n e le h = record { low = omega (arith, le, h.low); high = omega (arith, le, h.high) }

-- the requirements for market, default and life risk and for health similar to life are amounts, together within a limit
pub record AreOthersWithin (figure : Node → Ends) (market default_risk life slt : ℕ) : Type 0 where
  pub market_amount : (measure : Measure) → IsAmount market (figure (nodes.Whole (wholes.Market measure)))
  pub default_amount : (measure : Measure) → IsAmount default_risk (figure (risk_part risks.Default measure))
  pub life_amount : (measure : Measure) → IsAmount life (figure (nodes.Whole (wholes.Life measure)))
  pub slt_amount : (measure : Measure) → IsAmount slt (figure (nodes.Whole (wholes.Slt measure)))
  pub together : market + default_risk + life + slt ≤ 4_700_000_000_000_000_000

module _ (factors : FactorValues) (known : IsInForm factors) (sheet : BalanceSheet) (valid : Valid sheet) where
  abbrev figure : Node → Ends
  figure node = worked factors sheet node

  -- ---- what operational risk is reckoned from
  earned-within : (place : ℕ) → slice_index_or sheet.numbers.earned place 0 ≤ MAX_AMOUNT
  earned-within place = each-at validity.IsAmount sheet.numbers.earned place 0 (omega arith) valid.numbers.earned

  provision-within : (place : ℕ) → unsigned_abs (slice_index_or sheet.numbers.provisions place (pos 0)) ≤ MAX_AMOUNT
  provision-within place =
      size _ (each-at (IsBetween (neg_ℤ (pos MAX_AMOUNT)) (pos MAX_AMOUNT)) sheet.numbers.provisions place (pos 0) (omega (arith, ints), omega (arith, ints)) valid.numbers.provisions)
    where
      size : (z : ℤ) → IsBetween (neg_ℤ (pos MAX_AMOUNT)) (pos MAX_AMOUNT) z → unsigned_abs z ≤ MAX_AMOUNT
      size z h = omega (arith, ints, h.0, h.1)

  pub expenses-within : slice_index_or sheet.numbers.earned 6 0 ≤ MAX_AMOUNT
  expenses-within = earned-within 6

  pub premiums-within : IsWithinLimits (premiums_of sheet.numbers)
  premiums-within = record {
    tpl = lit≤ tt;
    tpul = lit≤ tt;
    tpn = lit≤ tt;
    el = earned-within 0;
    eul = earned-within 1;
    pel = earned-within 2;
    peul = earned-within 3;
    en = earned-within 4;
    pen = earned-within 5;
    expul = lit≤ tt;
  }

  pub provisions-within : IsWithinLimits (provisions_of sheet.numbers)
  provisions-within = record {
    tpl = provision-within 0;
    tpul = provision-within 1;
    tpn = provision-within 2;
    el = lit≤ tt;
    eul = lit≤ tt;
    pel = lit≤ tt;
    peul = lit≤ tt;
    en = lit≤ tt;
    pen = lit≤ tt;
    expul = lit≤ tt;
  }

  pub premiums-worked : figure (nodes.Whole (wholes.OpPart operations.Premiums)) ≡ prem_ends (premiums_of sheet.numbers)
  premiums-worked = worked-equation factors sheet valid (nodes.Whole (wholes.OpPart operations.Premiums))

  pub provisions-worked : figure (nodes.Whole (wholes.OpPart operations.Provisions)) ≡ prov_ends (provisions_of sheet.numbers)
  provisions-worked = worked-equation factors sheet valid (nodes.Whole (wholes.OpPart operations.Provisions))

  pub premiums-size : IsWithin 20_000_000_000_000_000 (figure (nodes.Whole (wholes.OpPart operations.Premiums)))
  premiums-size = subst (IsWithin 20_000_000_000_000_000) (sym premiums-worked) (prem-within (premiums_of sheet.numbers) premiums-within)

  premiums-ordered : (figure (nodes.Whole (wholes.OpPart operations.Premiums))).low ≤ℤ (figure (nodes.Whole (wholes.OpPart operations.Premiums))).high
  premiums-ordered =
      subst (λ (e : Ends). e.low ≤ℤ e.high) (sym premiums-worked)
      (enclosing-in_order 1000 _ _ _ (prem-encloses (premiums_of sheet.numbers)))

  pub provisions-amount : IsAmount 390_000_000_000_000 (figure (nodes.Whole (wholes.OpPart operations.Provisions)))
  provisions-amount = subst (IsAmount 390_000_000_000_000) (sym provisions-worked) (prov-size (provisions_of sheet.numbers) provisions-within)

  -- ---- the Basic Solvency Capital Requirement
  pub bscr-worked : (measure : Measure) → figure (nodes.Whole (wholes.Bscr measure)) ≡ bscr_ends (map figure (modules measure)) sheet.numbers.intangible
  bscr-worked measure = worked-equation factors sheet valid (nodes.Whole (wholes.Bscr measure))

  pub diversification-worked : figure (nodes.Whole wholes.Diversification)
      ≡ known_diversification_ends (map figure (modules measures.Gross)) (bscr_ends (map figure (modules measures.Gross)) sheet.numbers.intangible) sheet.numbers.intangible
  diversification-worked =
      worked-equation factors sheet valid (nodes.Whole wholes.Diversification)
      ∙ ap (λ (basic : Ends). known_diversification_ends (map figure (modules measures.Gross)) basic sheet.numbers.intangible) (bscr-worked measures.Gross)

  pub cap-worked : figure (nodes.Whole (wholes.OpPart operations.Cap)) ≡ cap_ends (figure (nodes.Whole (wholes.Bscr measures.Gross)))
  cap-worked = worked-equation factors sheet valid (nodes.Whole (wholes.OpPart operations.Cap))

  pub charge-worked : figure (nodes.Whole (wholes.OpPart operations.Charge))
      ≡ op_ends (figure (nodes.Whole (wholes.OpPart operations.Cap))) (figure (nodes.Whole (wholes.OpPart operations.Premiums))) (figure (nodes.Whole (wholes.OpPart operations.Provisions))) (slice_index_or sheet.numbers.earned 6 0)
  charge-worked = worked-equation factors sheet valid (nodes.Whole (wholes.OpPart operations.Charge))

  pub absorbing-worked : figure (nodes.Whole (wholes.Adjust adjustments.TechnicalProvisions))
      ≡ adj_tp_ends (figure (nodes.Whole (wholes.Bscr measures.Gross))) (figure (nodes.Whole (wholes.Bscr measures.Net))) sheet.numbers.fdb
  absorbing-worked = worked-equation factors sheet valid (nodes.Whole (wholes.Adjust adjustments.TechnicalProvisions))

  pub taxed-worked : figure (nodes.Whole (wholes.Adjust adjustments.DeferredTaxes))
      ≡ adj_dt_ends (figure (nodes.Whole (wholes.Bscr measures.Gross))) (figure (nodes.Whole (wholes.Adjust adjustments.TechnicalProvisions))) (figure (nodes.Whole (wholes.OpPart operations.Charge))) sheet.numbers.tax sheet.numbers.cap
  taxed-worked = worked-equation factors sheet valid (nodes.Whole (wholes.Adjust adjustments.DeferredTaxes))

  pub scr-worked : figure (nodes.Whole wholes.Scr)
      ≡ scr_ends (figure (nodes.Whole (wholes.Bscr measures.Gross))) (figure (nodes.Whole (wholes.Adjust adjustments.TechnicalProvisions))) (figure (nodes.Whole (wholes.Adjust adjustments.DeferredTaxes))) (figure (nodes.Whole (wholes.OpPart operations.Charge)))
  scr-worked = worked-equation factors sheet valid (nodes.Whole wholes.Scr)

  pub tax-within : sheet.numbers.tax ≤ 1_000_000
  tax-within = let h = valid.numbers.tax in omega (arith, ints, h)

  -- where the other modules are within the limits of a valid book
  module _ (market default_risk life slt : ℕ) (within : AreOthersWithin figure market default_risk life slt) where
    abbrev pub module_grains : List ℕ
    module_grains = market ∷ default_risk ∷ life ∷ (slt + 70 * 10 ^ 15) ∷ (170 * 10 ^ 15) ∷ []

    pub modules-amounts : (measure : Measure) → AreAmounts module_grains (map figure (modules measure))
    modules-amounts measure = (
      within.market_amount measure,
      (
        within.default_amount measure,
        (
          within.life_amount measure,
          (health-amount factors known sheet valid slt measure (within.slt_amount measure), (nonlife-amount factors known sheet valid measure, tt)),
        ),
      ),
    )

    pub modules-together : sum_by (λ most. most) module_grains ≤ 4_940_000_000_000_000_000
    modules-together = omega (arith, within.together)

    pub bscr-amount : (measure : Measure) → IsAmount MAX_REQUIREMENT (figure (nodes.Whole (wholes.Bscr measure)))
    bscr-amount measure =
        subst (IsAmount MAX_REQUIREMENT) (sym (bscr-worked measure))
        (amount-wider (sum_by (λ most. most) module_grains + 800 * sheet.numbers.intangible) MAX_REQUIREMENT _
        (omega (arith, modules-together, valid.numbers.intangible))
        (bscr-size module_grains (map figure (modules measure)) sheet.numbers.intangible refl (modules-amounts measure)))

    -- ---- operational risk
    pub cap-amount : IsAmount 1_500_000_000_000_000_000 (figure (nodes.Whole (wholes.OpPart operations.Cap)))
    cap-amount =
        subst (IsAmount 1_500_000_000_000_000_000) (sym cap-worked)
        (cap-size MAX_REQUIREMENT 1_500_000_000_000_000_000 (figure (nodes.Whole (wholes.Bscr measures.Gross))) (lit≤ tt) (bscr-amount measures.Gross))

    pub charge-amount : IsAmount 1_502_500_000_000_000_000 (figure (nodes.Whole (wholes.OpPart operations.Charge)))
    charge-amount =
        subst (IsAmount 1_502_500_000_000_000_000) (sym charge-worked)
        (amount-wider _ 1_502_500_000_000_000_000 _ (omega (arith, expenses-within))
        (op-size 1_500_000_000_000_000_000 390_000_000_000_000 _ _ _ (slice_index_or sheet.numbers.earned 6 0) cap-amount premiums-ordered provisions-amount))

    -- ---- adjustments
    pub absorbing-size : IsNegativeAmount (1000 * sheet.numbers.fdb) (figure (nodes.Whole (wholes.Adjust adjustments.TechnicalProvisions)))
    absorbing-size =
        subst (IsNegativeAmount (1000 * sheet.numbers.fdb)) (sym absorbing-worked)
        (adj_tp-size (figure (nodes.Whole (wholes.Bscr measures.Gross))) (figure (nodes.Whole (wholes.Bscr measures.Net))) sheet.numbers.fdb (bscr-amount measures.Gross).ordered (bscr-amount measures.Net).ordered)

    pub taxed-size : IsNegativeAmount (1000 * sheet.numbers.cap) (figure (nodes.Whole (wholes.Adjust adjustments.DeferredTaxes)))
    taxed-size =
        let bscr = figure (nodes.Whole (wholes.Bscr measures.Gross)) in
        let tp = figure (nodes.Whole (wholes.Adjust adjustments.TechnicalProvisions)) in
        let op = figure (nodes.Whole (wholes.OpPart operations.Charge)) in
        subst (IsNegativeAmount (1000 * sheet.numbers.cap)) (sym taxed-worked)
        (adj_dt-size 7_000_000_000_000_000_000 bscr tp op sheet.numbers.tax sheet.numbers.cap tax-within
        (sums-in-order bscr.low bscr.high tp.low tp.high op.low op.high (bscr-amount measures.Gross).ordered absorbing-size.ordered charge-amount.ordered)
        (sums-high bscr.high tp.high op.high MAX_REQUIREMENT 1_502_500_000_000_000_000 7_000_000_000_000_000_000
        (amount-high MAX_REQUIREMENT bscr (bscr-amount measures.Gross)) absorbing-size.not_positive (amount-high 1_502_500_000_000_000_000 op charge-amount) (lit≤ tt)))

    -- ---- each within the limit of a requirement
    pub bscr-within : (measure : Measure) → IsWithin MAX_REQUIREMENT (figure (nodes.Whole (wholes.Bscr measure)))
    bscr-within measure = amount-within MAX_REQUIREMENT MAX_REQUIREMENT _ (lit≤ tt) (bscr-amount measure)

    pub charge-within : IsWithin MAX_REQUIREMENT (figure (nodes.Whole (wholes.OpPart operations.Charge)))
    charge-within = amount-within _ MAX_REQUIREMENT _ (lit≤ tt) charge-amount

    pub absorbing-within : IsWithin MAX_REQUIREMENT (figure (nodes.Whole (wholes.Adjust adjustments.TechnicalProvisions)))
    absorbing-within = negative-within _ MAX_REQUIREMENT _ (omega (arith, valid.numbers.fdb)) absorbing-size

    pub taxed-within : IsWithin MAX_REQUIREMENT (figure (nodes.Whole (wholes.Adjust adjustments.DeferredTaxes)))
    taxed-within = negative-within _ MAX_REQUIREMENT _ (omega (arith, valid.numbers.cap)) taxed-size
