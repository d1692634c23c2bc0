-- The figures of charges that are handed in, of segments, of catastrophes, and of the non-life and health modules enclose the
-- exact ones, where they cover their rules.
use Rattle.std.proofs.Common.{◌≡◌, refl, ◌<◌, ◌≤◌, length, map, ℤ, pos, ◌<ℤ◌, ◌≤ℤ◌, sym, subst, arith}
use Rattle.std.proofs.lemmas.Int.{ints}
use Rattle.scr_num.specs.Figure.{Figure}
use Rattle.scr_num.specs.Enclosure.{Encloses, EncloseAll}
use Rattle.scr_num.specs.Rounding.{Ends, or_zero}
use Rattle.scr_num.specs.Table.{Table, IsSquare}
use Rattle.scr_num.proofs.CentAmounts.{Encloses-cents, or_zero-is}
use Rattle.scr_agg.specs.Correlated.{table_of}
use Rattle.scr_agg.proofs.NetAmounts.{Encloses-net}
use Rattle.scr_agg.proofs.Roots.{table_of-square}
use Rattle.scr_bio.proofs.BiometricBounds.{nslt-encloses, health_cat-encloses, health-encloses}
use Rattle.scr_nonlife.proofs.NonlifeBounds.{premium_reserve-encloses, nat-encloses, manmade-encloses, cat-encloses, nonlife-encloses}
use Rattle.scr_nonlife.proofs.SegmentBounds.{segment-encloses}
use Rattle.scr_profile.specs.declared.set.Set.{Set}
use Rattle.scr_profile.specs.declared.set.Set.TheVariants as sets
use Rattle.scr_profile.specs.declared.segment.Segment.{Segment}
use Rattle.scr_profile.specs.declared.segment.Segment.TheVariants as kinds
use Rattle.scr_factors.specs.Values.{FactorValues, IsInForm}
use Rattle.scr_sheet.specs.Absorptions.{absorbed}
use Rattle.scr_sheet.specs.Validity.{Valid}
use Rattle.scr_sheet.specs.declared.{keys.CatKey.CatKey, sheet.BalanceSheet.BalanceSheet}
use Rattle.scr_sheet.specs.declared.keys.CatKey.TheVariants as cats
use Rattle.scr_nodes.specs.declared.{node.Measure.Measure, node.Node.Node}
use Rattle.scr_nodes.specs.declared.node.Measure.TheVariants as measures
use Rattle.scr_nodes.specs.declared.node.Node.TheVariants as nodes
use Rattle.scr_nodes.specs.declared.node.Whole.TheVariants as wholes
use Rattle.scr_nodes.specs.declared.node.Risk.TheVariants as risks
use Rattle.scr_nodes.specs.OwnOf.{risk_key, catastrophe_cents, lapse_cents, deviations_of, volumes_in_regions, segment_correlations}
use Rattle.scr_nodes.specs.Sources.{risk_part, segments_of, natural_perils, man_made_perils, health_perils}
use Rattle.scr_nonlife.specs.Nonlife.{premium_reserve_figure}
use Rattle.scr_nonlife.specs.NonlifeEnds.{premium_reserve_ends}
use Rattle.scr_exact.specs.LifeExact.{slt_exact}
use Rattle.scr_exact.specs.NonlifeExact.{catastrophe_charge, lapse_charge, segment_exact, segments_exact, segment_table, premium_reserve_exact, natural_exact, man_made_exact, catastrophe_exact, health_charges, health_catastrophe_exact, nonlife_exact, nslt_exact, health_exact}
use Rattle.scr_exact.specs.Covering.{AreCovering, AreNotNegative, is_part_of_modules}
use Rattle.scr_exact.proofs.Covered.{covered, due}
use Rattle.scr_rules.proofs.NonlifeSizes as sizes

abbrev pub Holds : Ends → Figure → Type 0
Holds e f = Encloses 1000 e.low e.high f

positive : (z : ℤ) → pos 0 <ℤ z → 0 < or_zero z
positive z h = let same = or_zero-is z (omega (arith, ints, h)) in omega (arith, ints, h, same)

module _ (factors : FactorValues) (known : IsInForm factors) (sheet : BalanceSheet) (valid : Valid sheet) (figure : Node → Ends) (covering : AreCovering factors sheet figure)
    (least : AreNotNegative is_part_of_modules figure) where
  reaches : (node : Node) (f : Figure) → Holds (due factors sheet valid figure covering node) f → Holds (figure node) f
  reaches node f h = covered factors sheet valid figure covering 1000 node f h

  -- ---- charges that are handed in
  pub charge-encloses : (key : CatKey) → Holds (figure (nodes.Whole (wholes.CatCharge key))) (catastrophe_charge sheet key)
  charge-encloses key = reaches (nodes.Whole (wholes.CatCharge key)) _ (Encloses-cents (catastrophe_cents key sheet.numbers))

  pub lapse-encloses : (set : Set) → Holds (figure (nodes.Whole (wholes.Lapse set))) (lapse_charge sheet set)
  lapse-encloses set = reaches (nodes.Whole (wholes.Lapse set)) _ (Encloses-cents (lapse_cents set sheet.numbers))

  -- ---- premium and reserve risk
  pub segment-holds : (segment : Segment) → Holds (figure (nodes.Whole (wholes.Segment segment))) (segment_exact factors sheet segment)
  unfolding segment_exact
  segment-holds segment =
      reaches (nodes.Whole (wholes.Segment segment)) _
      (segment-encloses (volumes_in_regions segment sheet.numbers) (deviations_of factors segment).0 (deviations_of factors segment).1)

  low : (segment : Segment) → pos 0 ≤ℤ (figure (nodes.Whole (wholes.Segment segment))).low
  low segment = least (nodes.Whole (wholes.Segment segment)) refl

  segments-hold : (set : Set) → EncloseAll 1000 (map figure (segments_of set)) (segments_exact factors sheet set)
  segments-hold sets.Nl =
      let p = low in
      let e = segment-holds in
      (p kinds.MotorLiability, e kinds.MotorLiability, (p kinds.OtherMotor, e kinds.OtherMotor, (p kinds.Transport, e kinds.Transport, (p kinds.Property, e kinds.Property, (p kinds.GeneralLiability, e kinds.GeneralLiability, (p kinds.Credit, e kinds.Credit, (p kinds.LegalExpenses, e kinds.LegalExpenses, (p kinds.Assistance, e kinds.Assistance, (p kinds.FinancialLoss, e kinds.FinancialLoss, (p kinds.CasualtyReinsurance, e kinds.CasualtyReinsurance, (p kinds.TransportReinsurance, e kinds.TransportReinsurance, (p kinds.PropertyReinsurance, e kinds.PropertyReinsurance, tt))))))))))))
  segments-hold sets.Nslt =
      let p = low in
      let e = segment-holds in
      (p kinds.MedicalExpense, e kinds.MedicalExpense, (p kinds.IncomeProtection, e kinds.IncomeProtection, (p kinds.WorkersCompensation, e kinds.WorkersCompensation, (p kinds.HealthReinsurance, e kinds.HealthReinsurance, tt))))

  segments-counted : (set : Set) → length (map figure (segments_of set)) ≡ (segment_correlations factors set).n
  segments-counted sets.Nl = sym known.nl_segments
  segments-counted sets.Nslt = refl

  square : (set : Set) → IsSquare (length (map figure (segments_of set))) (table_of (segment_correlations factors set))
  square set =
      subst (λ n. IsSquare n (table_of (segment_correlations factors set))) (sym (segments-counted set))
      (table_of-square (segment_correlations factors set))

  -- the table of the code is that of the Regulation
  tables : (set : Set) → table_of (segment_correlations factors set) ≡ segment_table factors set
  tables sets.Nl = refl
  tables sets.Nslt = refl

  pub premium_reserve-holds : (set : Set) → Holds (figure (nodes.Whole (wholes.PremiumReserve set))) (premium_reserve_exact factors sheet set)
  unfolding premium_reserve_exact
  premium_reserve-holds set =
      reaches (nodes.Whole (wholes.PremiumReserve set)) _
      (subst (λ (t : Table). Holds (premium_reserve_ends (map figure (segments_of set)) (table_of (segment_correlations factors set)))
      (premium_reserve_figure (segments_exact factors sheet set) t)) (tables set)
      (premium_reserve-encloses (map figure (segments_of set)) (segments_exact factors sheet set) (table_of (segment_correlations factors set))
      (positive (segment_correlations factors set).den (sizes.correlations-positive factors known sheet valid set)) (square set) (segments-hold set)))

  -- ---- catastrophes
  charge-low : (key : CatKey) → pos 0 ≤ℤ (figure (nodes.Whole (wholes.CatCharge key))).low
  charge-low key = least (nodes.Whole (wholes.CatCharge key)) refl

  pub natural-holds : Holds (figure (nodes.Whole wholes.Natural)) (natural_exact sheet)
  unfolding natural_exact
  natural-holds =
      let p = charge-low in
      let e = charge-encloses in
      reaches (nodes.Whole wholes.Natural) _ (nat-encloses (map figure natural_perils) _ refl
      (p cats.Windstorm, e cats.Windstorm, (p cats.Earthquake, e cats.Earthquake, (p cats.Flood, e cats.Flood, (p cats.Hail, e cats.Hail, (p cats.Subsidence, e cats.Subsidence, tt))))))

  pub man_made-holds : Holds (figure (nodes.Whole wholes.ManMade)) (man_made_exact sheet)
  unfolding man_made_exact
  man_made-holds =
      let p = charge-low in
      let e = charge-encloses in
      reaches (nodes.Whole wholes.ManMade) _ (manmade-encloses (map figure man_made_perils) _ refl
      (p cats.Motor, e cats.Motor, (p cats.Marine, e cats.Marine, (p cats.Aviation, e cats.Aviation, (p cats.Fire, e cats.Fire, (p cats.Liability, e cats.Liability, (p cats.Credit, e cats.Credit, tt)))))))

  pub catastrophe-holds : Holds (figure (nodes.Whole wholes.NonlifeCatastrophe)) (catastrophe_exact sheet)
  unfolding catastrophe_exact
  catastrophe-holds =
      reaches (nodes.Whole wholes.NonlifeCatastrophe) _
      (cat-encloses (figure (nodes.Whole wholes.Natural)) (figure (nodes.Whole wholes.ManMade)) (figure (nodes.Whole (wholes.CatCharge cats.NonProportionalProperty))) (figure (nodes.Whole (wholes.CatCharge cats.Other)))
      (natural_exact sheet) (man_made_exact sheet) (catastrophe_charge sheet cats.NonProportionalProperty) (catastrophe_charge sheet cats.Other)
      (least (nodes.Whole wholes.Natural) refl) (least (nodes.Whole wholes.ManMade) refl)
      (charge-low cats.NonProportionalProperty) (charge-low cats.Other)
      natural-holds man_made-holds (charge-encloses cats.NonProportionalProperty) (charge-encloses cats.Other))

  health_gross-holds : Holds (figure (nodes.Whole wholes.HealthCatastrophe)) (health_charges sheet)
  health_gross-holds =
      let p = charge-low in
      let e = charge-encloses in
      reaches (nodes.Whole wholes.HealthCatastrophe) _ (health_cat-encloses (map figure health_perils) _ refl
      (p cats.MassAccident, e cats.MassAccident, (p cats.AccidentConcentration, e cats.AccidentConcentration, (p cats.Pandemic, e cats.Pandemic, tt))))

  pub health_catastrophe-holds : (measure : Measure) → Holds (figure (risk_part risks.HealthCatastrophe measure)) (health_catastrophe_exact sheet measure)
  unfolding health_catastrophe_exact
  health_catastrophe-holds measures.Gross = health_gross-holds
  health_catastrophe-holds measures.Net =
      reaches (nodes.Whole (wholes.NetPart risks.HealthCatastrophe)) _
      (Encloses-net (figure (nodes.Whole wholes.HealthCatastrophe)) (absorbed (risk_key risks.HealthCatastrophe) sheet.numbers) _ health_gross-holds)

  -- ---- modules
  pub nonlife-holds : (measure : Measure) → Holds (figure (nodes.Whole (wholes.Nonlife measure))) (nonlife_exact factors sheet)
  unfolding nonlife_exact
  nonlife-holds measure =
      reaches (nodes.Whole (wholes.Nonlife measure)) _
      (nonlife-encloses (figure (nodes.Whole (wholes.PremiumReserve sets.Nl))) (figure (nodes.Whole wholes.NonlifeCatastrophe)) (premium_reserve_exact factors sheet sets.Nl) (catastrophe_exact sheet)
      (lapse_cents sets.Nl sheet.numbers) (least (nodes.Whole (wholes.PremiumReserve sets.Nl)) refl)
      (least (nodes.Whole wholes.NonlifeCatastrophe) refl) (premium_reserve-holds sets.Nl) catastrophe-holds)

  pub nslt-holds : (measure : Measure) → Holds (figure (nodes.Whole (wholes.Nslt measure))) (nslt_exact factors sheet)
  unfolding nslt_exact
  nslt-holds measure =
      reaches (nodes.Whole (wholes.Nslt measure)) _
      (nslt-encloses (figure (nodes.Whole (wholes.PremiumReserve sets.Nslt))) (premium_reserve_exact factors sheet sets.Nslt) (lapse_cents sets.Nslt sheet.numbers)
      (least (nodes.Whole (wholes.PremiumReserve sets.Nslt)) refl) (premium_reserve-holds sets.Nslt))

  health_part-low : (measure : Measure) → pos 0 ≤ℤ (figure (risk_part risks.HealthCatastrophe measure)).low
  health_part-low measures.Gross = least (nodes.Whole wholes.HealthCatastrophe) refl
  health_part-low measures.Net = least (nodes.Whole (wholes.NetPart risks.HealthCatastrophe)) refl

  -- where what is similar to life encloses its own figure
  pub health-holds : (measure : Measure) → Holds (figure (nodes.Whole (wholes.Slt measure))) (slt_exact sheet measure)
      → Holds (figure (nodes.Whole (wholes.Health measure))) (health_exact factors sheet measure)
  unfolding health_exact
  health-holds measure h =
      reaches (nodes.Whole (wholes.Health measure)) _
      (health-encloses (figure (nodes.Whole (wholes.Slt measure))) (figure (nodes.Whole (wholes.Nslt measure))) (figure (risk_part risks.HealthCatastrophe measure)) (slt_exact sheet measure) (nslt_exact factors sheet)
      (health_catastrophe_exact sheet measure) (least (nodes.Whole (wholes.Slt measure)) refl) (least (nodes.Whole (wholes.Nslt measure)) refl)
      (health_part-low measure) h (nslt-holds measure) (health_catastrophe-holds measure))
