-- How far apart the worked figures of segments, of catastrophes, of non-life risk and of health risk are.
use Rattle.std.proofs.Common.{ℕ, zero, suc, ◌+◌, ◌*◌, ◌^◌, ◌≤◌, ℤ, List, [], ◌∷◌, map, sum_by, pos, ◌+ℤ◌, ◌≤ℤ◌, refl, sym, subst, arith, lit<, lit≤}
use Rattle.std.proofs.lemmas.Int.{ints}
use Rattle.std.proofs.lemmas.Nat.{mul-le}
use Rattle.scr_num.specs.Amounts.{IsAmount, AreAmounts}
use Rattle.scr_num.specs.Cents.{cents_ends}
use Rattle.scr_num.specs.Narrow.{IsNarrow, AreNarrow}
use Rattle.scr_num.specs.Ratio.{ratio_unit}
use Rattle.scr_num.specs.Rounding.{Ends, exact_ends, add_ends, ceil_root, quad_ends, root_ends}
use Rattle.scr_num.proofs.AmountBounds.{amount-add, amount-exact, amount-high}
use Rattle.scr_num.proofs.Roots.{ceil_root-least, floor_root-le-ceil_root}
use Rattle.scr_num.proofs.Spreads.{narrow-wider, narrow-exact, narrow-add, narrow-product, narrow-ratio, narrow-root, narrow-times}
use Rattle.scr_agg.specs.Correlated.{SpreadsBy, table_of}
use Rattle.scr_agg.proofs.RootWidths.{narrow-table}
use Rattle.scr_factors.specs.Values.{FactorValues, IsInForm}
use Rattle.scr_nodes.specs.OwnOf.{lapse_cents, risk_key, deviations_of, segment_correlations, volumes_in_regions}
use Rattle.scr_nodes.specs.Sources.{risk_part, segments_of}
use Rattle.scr_nodes.specs.declared.{node.Measure.Measure, node.Node.Node}
use Rattle.scr_nodes.specs.declared.node.Measure.TheVariants as measures
use Rattle.scr_nodes.specs.declared.node.Node.TheVariants as nodes
use Rattle.scr_nodes.specs.declared.node.Risk.TheVariants as risks
use Rattle.scr_nodes.specs.declared.node.Whole.TheVariants as wholes
use Rattle.scr_nonlife.specs.Segment.{premium_volume, reserve_volume, total_volume}
use Rattle.scr_nonlife.specs.SegmentEnds.{deviation_ends, diversification_ends, diversified_ends, products_of_a_grain, segment_ends, share_ends, squared_deviation}
use Rattle.scr_nonlife.proofs.SegmentBounds.{diversification-size, products, total-is}
use Rattle.scr_profile.specs.declared.segment.Segment.{Segment}
use Rattle.scr_profile.specs.declared.segment.Segment.TheVariants as kinds
use Rattle.scr_profile.specs.declared.correlations.TheConstants.{HEALTH, NONLIFE, NSLT}
use Rattle.scr_profile.specs.declared.limits.TheConstants.{MAX_AMOUNT}
use Rattle.scr_profile.specs.declared.set.Set.{Set}
use Rattle.scr_profile.specs.declared.set.Set.TheVariants as sets
use Rattle.scr_sheet.specs.Absorptions.{absorbed}
use Rattle.scr_sheet.specs.Validity.{Valid}
use Rattle.scr_sheet.specs.declared.{keys.CatKey.CatKey, sheet.BalanceSheet.BalanceSheet}
use Rattle.scr_sheet.specs.declared.keys.CatKey.TheVariants as cats
use Rattle.scr_rules.specs.NonlifeFits.{MAX_CHARGE}
use Rattle.scr_rules.specs.Worked.{worked}
use Rattle.scr_rules.proofs.NonlifeSizes as sizes
use Rattle.scr_rules.proofs.NonlifeSizes.{most_charges}
use Rattle.scr_widths.specs.Widths.{health_catastrophe_width, health_width, man_made_width, natural_width, nonlife_catastrophe_width, nonlife_width, nslt_width, premium_reserve_width, scale_of, slt_width}
use Rattle.scr_widths.proofs.SumWidths.{narrow-known, narrow-net, narrow-root_of}
use Rattle.scr_widths.proofs.Tables.{apart, five-spreads, health-spreads, nonlife-spreads, nslt-spreads, six-spreads, three-spreads, two-spreads}

-- ---- segments
share-narrow : (num den : ℕ) → IsNarrow 1 (share_ends num den)
share-narrow num zero = narrow-known 1 (exact_ends (pos ratio_unit)) (narrow-exact (pos ratio_unit))
share-narrow num (suc n) = narrow-ratio num (suc n) (omega arith)

deviation-narrow : (volumes : List (ℕ × ℕ)) (premium reserve : ℕ) → IsNarrow 1 (deviation_ends volumes premium reserve)
deviation-narrow volumes premium reserve =
    narrow-root 0 1 (exact_ends (pos (squared_deviation (premium * premium_volume volumes) (reserve * reserve_volume volumes))))
    (omega (arith, ints)) (lit< tt) (omega arith) (narrow-exact _)

diversified-narrow : (volumes : List (ℕ × ℕ)) → IsNarrow 1 (diversified_ends volumes)
diversified-narrow volumes =
    narrow-wider (0 + 1) 1 (diversified_ends volumes) (omega arith)
    (narrow-add 0 1 (exact_ends (pos 3_000_000_000_000_000_000)) (diversification_ends volumes) (narrow-exact _) (share-narrow _ _))

-- a root is at most the sum of the two products
deviation-within : (a b : ℕ) → ceil_root (squared_deviation a b) ≤ a + b
deviation-within a b = ceil_root-least (squared_deviation a b) (a + b) (omega arith)

deviation-amount : (volumes : List (ℕ × ℕ)) (premium reserve : ℕ) → premium ≤ 1_000_000 → reserve ≤ 1_000_000 → total_volume volumes ≤ MAX_AMOUNT
    → IsAmount 10_000_000_000_000_000_000 (deviation_ends volumes premium reserve)
deviation-amount volumes premium reserve h k small =
    by (squared_deviation (premium * premium_volume volumes) (reserve * reserve_volume volumes))
    (omega (
      arith,
      deviation-within (premium * premium_volume volumes) (reserve * reserve_volume volumes),
      products premium reserve (premium_volume volumes) (reserve_volume volumes) h k,
      total-is volumes,
      small,
    ))
  where
    by : (n : ℕ) → ceil_root n ≤ 10_000_000_000_000_000_000 → IsAmount 10_000_000_000_000_000_000 (root_ends (exact_ends (pos n)))
    by n le = record {
      not_negative = omega (arith, ints);
      ordered = omega (arith, ints, floor_root-le-ceil_root n n (omega arith));
      low_size = omega (arith, le, floor_root-le-ceil_root n n (omega arith));
      high_size = omega (arith, le);
    }

diversified-amount : (volumes : List (ℕ × ℕ)) → IsAmount 4_000_000_000_000_000_000 (diversified_ends volumes)
diversified-amount volumes =
    amount-add 3_000_000_000_000_000_000 ratio_unit (exact_ends (pos 3_000_000_000_000_000_000)) (diversification_ends volumes)
    (amount-exact 3_000_000_000_000_000_000 3_000_000_000_000_000_000 (omega arith)) (diversification-size volumes)

narrow-segment : (volumes : List (ℕ × ℕ)) (premium reserve : ℕ) → premium ≤ 1_000_000 → reserve ≤ 1_000_000 → total_volume volumes ≤ MAX_AMOUNT
    → IsNarrow 2 (segment_ends volumes premium reserve)
narrow-segment volumes premium reserve h k small =
    let a = deviation-amount volumes premium reserve h k small in
    let s = diversified-amount volumes in
    narrow-product 1 1 10_000_000_000_000_000_000 4_000_000_000_000_000_000 1 products_of_a_grain (deviation_ends volumes premium reserve)
    (diversified_ends volumes) (lit< tt) a.not_negative s.not_negative a.ordered s.ordered
    (amount-high 10_000_000_000_000_000_000 (deviation_ends volumes premium reserve) a)
    (low-within (diversified_ends volumes) s.ordered (amount-high 4_000_000_000_000_000_000 (diversified_ends volumes) s)) (lit≤ tt)
    (deviation-narrow volumes premium reserve) (diversified-narrow volumes)
  where
    low-within : (e : Ends) → e.low ≤ℤ e.high → e.high ≤ℤ pos 4_000_000_000_000_000_000 → e.low ≤ℤ pos 4_000_000_000_000_000_000
    low-within e order high = omega (arith, ints, order, high)

module _ (factors : FactorValues) (known : IsInForm factors) (sheet : BalanceSheet) (valid : Valid sheet) where
  abbrev figure : Node → Ends
  figure node = worked factors sheet node

  -- ---- charges that are handed in
  pub charge-narrow : (key : CatKey) → IsNarrow 0 (figure (nodes.Whole (wholes.CatCharge key)))
  charge-narrow key = subst (IsNarrow 0) (sym (sizes.charge-worked factors known sheet valid key)) (narrow-exact _)

  pub lapse-narrow : (set : Set) → IsNarrow 0 (figure (nodes.Whole (wholes.Lapse set)))
  lapse-narrow set = subst (IsNarrow 0) (sym (sizes.lapse-worked factors known sheet valid set)) (narrow-exact _)

  -- ---- segments
  pub segment-narrow : (segment : Segment) → IsNarrow 2 (figure (nodes.Whole (wholes.Segment segment)))
  segment-narrow segment =
      let small = sizes.deviations-within factors known sheet valid segment in
      subst (IsNarrow 2) (sym (sizes.segment-worked factors known sheet valid segment))
      (narrow-segment (volumes_in_regions segment sheet.numbers) (deviations_of factors segment).0 (deviations_of factors segment).1 small.0 small.1
      (sizes.volumes-within factors known sheet valid segment))

  abbrev segment_widths : Set → List ℕ
  segment_widths sets.Nl = 2 ∷ 2 ∷ 2 ∷ 2 ∷ 2 ∷ 2 ∷ 2 ∷ 2 ∷ 2 ∷ 2 ∷ 2 ∷ 2 ∷ []
  segment_widths sets.Nslt = 2 ∷ 2 ∷ 2 ∷ 2 ∷ []

  segments-narrow : (set : Set) → AreNarrow (segment_widths set) (map figure (segments_of set))
  segments-narrow sets.Nl =
      let s = segment-narrow in
      (s kinds.MotorLiability, (s kinds.OtherMotor, (s kinds.Transport, (s kinds.Property, (s kinds.GeneralLiability, (s kinds.Credit, (s kinds.LegalExpenses, (s kinds.Assistance, (s kinds.FinancialLoss, (s kinds.CasualtyReinsurance, (s kinds.TransportReinsurance, (s kinds.PropertyReinsurance, tt))))))))))))
  segments-narrow sets.Nslt =
      let s = segment-narrow in
      (s kinds.MedicalExpense, (s kinds.IncomeProtection, (s kinds.WorkersCompensation, (s kinds.HealthReinsurance, tt))))

  -- the root of at least as many as there are segments
  abbrev times : Set → ℕ
  times sets.Nl = 4
  times sets.Nslt = 2

  -- the correlations of the factor file are 0 at least
  correlations-spread : (set : Set) → SpreadsBy (times set) (segment_correlations factors set)
  correlations-spread sets.Nl mosts widths parts count h g =
      narrow-table factors.correlations 4 mosts widths parts known.correlations known.not_negative (lit< tt) (omega (arith, known.nl_segments)) count h g
  correlations-spread sets.Nslt mosts widths parts count h g = nslt-spreads mosts widths parts count h g

  root-within : (set : Set) → (times set * sum_by (λ w. w) (segment_widths set) + 1) * 3 ≤ premium_reserve_width set
  root-within sets.Nl = lit≤ tt
  root-within sets.Nslt = lit≤ tt

  pub premium_reserve-narrow : (set : Set) → IsNarrow (premium_reserve_width set) (figure (nodes.Whole (wholes.PremiumReserve set)))
  premium_reserve-narrow set =
      let root = quad_ends (map figure (segments_of set)) (table_of (segment_correlations factors set)) in
      let w = times set * sum_by (λ w. w) (segment_widths set) + 1 in
      subst (IsNarrow (premium_reserve_width set)) (sym (sizes.premium_reserve-worked factors known sheet valid set))
      (narrow-wider (w * 3) (premium_reserve_width set) _ (root-within set)
      (narrow-times w 3 root
      (correlations-spread set (sizes.segment_grains factors known sheet valid set) (segment_widths set) (map figure (segments_of set))
      (sizes.segments-counted factors known sheet valid set) (sizes.segments-amounts factors known sheet valid set) (segments-narrow set))))

  -- ---- catastrophes of non-life
  pub natural-narrow : IsNarrow natural_width (figure (nodes.Whole wholes.Natural))
  natural-narrow =
      subst (IsNarrow natural_width) (sym (sizes.natural-worked factors known sheet valid))
      (narrow-root_of 3 (apart 5) five-spreads (most_charges 5) (0 ∷ 0 ∷ 0 ∷ 0 ∷ 0 ∷ []) (sizes.natural_charges factors known sheet valid) refl
      (sizes.natural-amounts factors known sheet valid)
      (charge-narrow cats.Windstorm, (charge-narrow cats.Earthquake, (charge-narrow cats.Flood, (charge-narrow cats.Hail, (charge-narrow cats.Subsidence, tt)))))
      natural_width (lit≤ tt))

  pub man_made-narrow : IsNarrow man_made_width (figure (nodes.Whole wholes.ManMade))
  man_made-narrow =
      subst (IsNarrow man_made_width) (sym (sizes.man_made-worked factors known sheet valid))
      (narrow-root_of 3 (apart 6) six-spreads (most_charges 6) (0 ∷ 0 ∷ 0 ∷ 0 ∷ 0 ∷ 0 ∷ []) (sizes.man_made_charges factors known sheet valid) refl
      (sizes.man_made-amounts factors known sheet valid)
      (charge-narrow cats.Motor, (charge-narrow cats.Marine, (charge-narrow cats.Aviation, (charge-narrow cats.Fire, (charge-narrow cats.Liability, (charge-narrow cats.Credit, tt))))))
      man_made_width (lit≤ tt))

  pub catastrophe-narrow : IsNarrow nonlife_catastrophe_width (figure (nodes.Whole wholes.NonlifeCatastrophe))
  catastrophe-narrow =
      let natural = figure (nodes.Whole wholes.Natural) in
      let property = figure (nodes.Whole (wholes.CatCharge cats.NonProportionalProperty)) in
      subst (IsNarrow nonlife_catastrophe_width) (sym (sizes.catastrophe-worked factors known sheet valid))
      (narrow-root_of 2 (apart 3) three-spreads ((50 * 10 ^ 15 + MAX_CHARGE) ∷ 60 * 10 ^ 15 ∷ MAX_CHARGE ∷ []) ((natural_width + 0) ∷ man_made_width ∷ 0 ∷ []) _ refl (
        amount-add (50 * 10 ^ 15) MAX_CHARGE natural property (sizes.natural-amount factors known sheet valid) (sizes.charge-amount factors known sheet valid cats.NonProportionalProperty),
        (sizes.man_made-amount factors known sheet valid, (sizes.charge-amount factors known sheet valid cats.Other, tt)),
      )
      (narrow-add natural_width 0 natural property natural-narrow (charge-narrow cats.NonProportionalProperty), (man_made-narrow, (charge-narrow cats.Other, tt)))
      nonlife_catastrophe_width (lit≤ tt))

  pub nonlife-narrow : (measure : Measure) → IsNarrow nonlife_width (figure (nodes.Whole (wholes.Nonlife measure)))
  nonlife-narrow measure =
      let lapse = lapse_cents sets.Nl sheet.numbers in
      subst (IsNarrow nonlife_width) (sym (sizes.nonlife-worked factors known sheet valid measure))
      (narrow-root_of 2 NONLIFE nonlife-spreads (30_000_000_000_000_000 ∷ 130 * 10 ^ 15 ∷ 1000 * lapse ∷ [])
      (premium_reserve_width sets.Nl ∷ nonlife_catastrophe_width ∷ 0 ∷ []) _ refl
      (sizes.premium_reserve-amount factors known sheet valid sets.Nl, (sizes.catastrophe-amount factors known sheet valid, (amount-exact (1000 * lapse) (1000 * lapse) (omega arith), tt)))
      (premium_reserve-narrow sets.Nl, (catastrophe-narrow, (narrow-exact _, tt)))
      nonlife_width (lit≤ tt))

  -- ---- health
  pub health_catastrophe-narrow : IsNarrow health_catastrophe_width (figure (nodes.Whole wholes.HealthCatastrophe))
  health_catastrophe-narrow =
      subst (IsNarrow health_catastrophe_width) (sym (sizes.health_catastrophe-worked factors known sheet valid))
      (narrow-root_of 2 (apart 3) three-spreads (most_charges 3) (0 ∷ 0 ∷ 0 ∷ []) (sizes.health_charges factors known sheet valid) refl
      (sizes.health-amounts factors known sheet valid)
      (charge-narrow cats.MassAccident, (charge-narrow cats.AccidentConcentration, (charge-narrow cats.Pandemic, tt)))
      health_catastrophe_width (lit≤ tt))

  pub health_part-narrow : (measure : Measure) → IsNarrow health_catastrophe_width (figure (risk_part risks.HealthCatastrophe measure))
  health_part-narrow measures.Gross = health_catastrophe-narrow
  health_part-narrow measures.Net =
      subst (IsNarrow health_catastrophe_width) (sym (sizes.health_net-worked factors known sheet valid))
      (narrow-net health_catastrophe_width (absorbed (risk_key risks.HealthCatastrophe) sheet.numbers) (figure (nodes.Whole wholes.HealthCatastrophe)) health_catastrophe-narrow)

  pub nslt-narrow : (measure : Measure) → IsNarrow nslt_width (figure (nodes.Whole (wholes.Nslt measure)))
  nslt-narrow measure =
      let lapse = lapse_cents sets.Nslt sheet.numbers in
      subst (IsNarrow nslt_width) (sym (sizes.nslt-worked factors known sheet valid measure))
      (narrow-root_of 2 (apart 2) two-spreads (30_000_000_000_000_000 ∷ 1000 * lapse ∷ []) (premium_reserve_width sets.Nslt ∷ 0 ∷ []) _ refl
      (sizes.premium_reserve-amount factors known sheet valid sets.Nslt, (amount-exact (1000 * lapse) (1000 * lapse) (omega arith), tt))
      (premium_reserve-narrow sets.Nslt, (narrow-exact _, tt))
      nslt_width (lit≤ tt))

  pub health-narrow : (most : ℕ) (measure : Measure) → IsAmount most (figure (nodes.Whole (wholes.Slt measure)))
      → IsNarrow (slt_width (scale_of sheet)) (figure (nodes.Whole (wholes.Slt measure)))
      → IsNarrow (health_width (scale_of sheet)) (figure (nodes.Whole (wholes.Health measure)))
  health-narrow most measure amount slt =
      let s = slt_width (scale_of sheet) in
      subst (IsNarrow (health_width (scale_of sheet))) (sym (sizes.health-worked factors known sheet valid measure))
      (narrow-root_of 2 HEALTH health-spreads (most ∷ 40 * 10 ^ 15 ∷ 30 * 10 ^ 15 ∷ []) (s ∷ nslt_width ∷ health_catastrophe_width ∷ []) _ refl
      (amount, (sizes.nslt-amount factors known sheet valid measure, (sizes.health_part-amount factors known sheet valid measure, tt)))
      (slt, (nslt-narrow measure, (health_part-narrow measure, tt)))
      (health_width (scale_of sheet)) (omega arith))
