-- The worked figures of charges that are handed in, of segments, of catastrophes, and of the non-life and health modules of
-- a valid balance sheet: what they are, and how large.
use Rattle.std.proofs.Common.{◌≡◌, ℕ, zero, suc, ◌+◌, ◌-◌, ◌*◌, ◌^◌, ◌≤◌, List, [], ◌∷◌, length, map, drop, sum_by, pos, ◌<ℤ◌, Option, Some, None, refl, sym, subst, arith}
use Rattle.std.specs.Prelude.{slice_index_or}
use Rattle.std.specs.List.{AllByRecursion}
use Rattle.std.specs.Option.{option_map_or}
use Rattle.std.proofs.lemmas.Int.{ints}
use Rattle.std.proofs.lemmas.List.Sums.{sum_by-cons}
use Rattle.scr_num.specs.Amounts.{IsAmount, AreAmounts}
use Rattle.scr_num.specs.Rounding.{Ends, exact_ends, sub_ends}
use Rattle.scr_num.proofs.AmountBounds.{amount-exact, amount-wider, amount-high, amount-cut}
use Rattle.scr_agg.specs.Absorbed.{net_ends}
use Rattle.scr_agg.specs.Correlated.{table_of, CellsWithin}
use Rattle.scr_bio.specs.BiometricEnds.{nslt_ends, health_cat_ends, health_ends}
use Rattle.scr_bio.proofs.BiometricBounds.{nslt-size, health_cat-size, health-size}
use Rattle.scr_nonlife.specs.NonlifeEnds.{premium_reserve_ends, nat_ends, manmade_ends, cat_ends, nonlife_ends}
use Rattle.scr_nonlife.specs.Segment.{total_volume}
use Rattle.scr_nonlife.specs.SegmentEnds.{segment_ends}
use Rattle.scr_nonlife.proofs.NonlifeBounds.{premium_reserve-size, nat-size, manmade-size, cat-size, nonlife-size}
use Rattle.scr_nonlife.proofs.SegmentBounds.{segment-size}
use Rattle.scr_profile.proofs.CorrelationRules.{is_correlation-holds}
use Rattle.scr_profile.proofs.Words.{segment-numbered}
use Rattle.scr_profile.specs.Segments.{number_of, segments, set_of}
use Rattle.scr_profile.specs.declared.correlations.TheConstants.{NSLT}
use Rattle.scr_profile.specs.declared.limits.TheConstants.{MAX_AMOUNT}
use Rattle.scr_profile.specs.declared.segment.Segment.{Segment}
use Rattle.scr_profile.specs.declared.segment.Segment.TheVariants as kinds
use Rattle.scr_profile.specs.declared.set.Set.{Set}
use Rattle.scr_profile.specs.declared.set.Set.TheVariants as sets
use Rattle.scr_factors.specs.Values.{FactorValues, IsInForm, sigma_of}
use Rattle.scr_sheet.specs.Absorptions.{absorbed}
use Rattle.scr_sheet.specs.BalanceSheet.{volumes_of}
use Rattle.scr_sheet.specs.Records.{cat_place, health_cat_place, lapse_place}
use Rattle.scr_sheet.specs.Validity.{Valid}
use Rattle.scr_sheet.specs.Validity as validity
use Rattle.scr_sheet.specs.declared.{keys.CatKey.CatKey, sheet.BalanceSheet.BalanceSheet}
use Rattle.scr_sheet.specs.declared.keys.CatKey.TheVariants as cats
use Rattle.scr_nodes.specs.declared.{node.Measure.Measure, node.Node.Node}
use Rattle.scr_nodes.specs.declared.node.Measure.TheVariants as measures
use Rattle.scr_nodes.specs.declared.node.Node.TheVariants as nodes
use Rattle.scr_nodes.specs.declared.node.Whole.TheVariants as wholes
use Rattle.scr_nodes.specs.declared.node.Risk.TheVariants as risks
use Rattle.scr_nodes.specs.OwnOf.{risk_key, catastrophe_cents, lapse_cents, volumes_in_regions, deviations_of, segment_correlations}
use Rattle.scr_nodes.specs.Sources.{risk_part, segments_of}
use Rattle.scr_rules.specs.NonlifeFits.{MAX_CHARGE}
use Rattle.scr_rules.specs.Worked.{worked}
use Rattle.scr_rules.proofs.Equations.{worked-equation}

-- what holds of each of a list and of what stands in for a missing one holds at a place
pub each-at : {X : Type 0} (P : X → Type 0) (xs : List X) (place : ℕ) (missing : X) → P missing → AllByRecursion P xs
    → P (slice_index_or xs place missing)
each-at P [] place missing h all = h
each-at P (x ∷ xs) zero missing h all = all.0
each-at P (x ∷ xs) (suc place) missing h all = each-at P xs place missing h all.1

-- what absorption leaves of an amount is no more than it
pub net-amount : (most absorb : ℕ) (e : Ends) → IsAmount most e → IsAmount most (net_ends e absorb)
net-amount most absorb e h =
    let rising = h.ordered in
    let above = amount-high most e h in
    amount-cut most (sub_ends e (exact_ends (pos (1000 * absorb)))) (omega (arith, ints)) (omega (arith, ints))

-- ---- segments by their places

-- no volume in any region
abbrev empty : List (ℕ × ℕ)
empty = []

abbrev volume_at : List (List (ℕ × ℕ)) → ℕ → ℕ
volume_at segments place = total_volume (slice_index_or segments place empty)

abbrev all_volumes : List (List (ℕ × ℕ)) → ℕ
all_volumes segments = sum_by total_volume segments

-- the volume at a place and those after it are all from that place on
volume-first : (segments : List (List (ℕ × ℕ))) (place : ℕ)
    → volume_at segments place + all_volumes (drop (suc place) segments) ≡ all_volumes (drop place segments)
volume-first [] zero = refl
volume-first [] (suc place) = refl
volume-first (s ∷ rest) zero = sym (sum_by-cons total_volume s rest)
volume-first (s ∷ rest) (suc place) = volume-first rest place

pub volume-within : (segments : List (List (ℕ × ℕ))) (place : ℕ) → volume_at segments place ≤ all_volumes segments
volume-within [] place = omega arith
volume-within (s ∷ rest) zero = omega (arith, sum_by-cons total_volume s rest)
volume-within (s ∷ rest) (suc place) =
    omega (arith, volume-within rest place, sum_by-cons total_volume s rest)

-- the grains of so many segments from a place on
abbrev grains_from : (count place : ℕ) → List (List (ℕ × ℕ)) → List ℕ
grains_from zero place segments = []
grains_from (suc count) place segments = 1000 * volume_at segments place ∷ grains_from count (suc place) segments

grains-within : (count place : ℕ) (segments : List (List (ℕ × ℕ)))
    → sum_by (λ most. most) (grains_from count place segments) ≤ 1000 * all_volumes (drop place segments)
grains-within zero place segments = omega arith
grains-within (suc count) place segments =
    omega (
      arith,
      sum_by-cons (λ (most : ℕ). most) (1000 * volume_at segments place) (grains_from count (suc place) segments),
      grains-within count (suc place) segments,
      volume-first segments place,
    )

-- the most grains of so many handed-in charges
abbrev pub most_charges : ℕ → List ℕ
most_charges zero = []
most_charges (suc count) = MAX_CHARGE ∷ most_charges count

module _ (factors : FactorValues) (known : IsInForm factors) (sheet : BalanceSheet) (valid : Valid sheet) where
  abbrev figure : Node → Ends
  figure node = worked factors sheet node

  -- ---- charges that are handed in
  pub charge-worked : (key : CatKey) → figure (nodes.Whole (wholes.CatCharge key)) ≡ exact_ends (pos (1000 * catastrophe_cents key sheet.numbers))
  charge-worked key = worked-equation factors sheet valid (nodes.Whole (wholes.CatCharge key))

  pub catastrophe-within : (key : CatKey) → catastrophe_cents key sheet.numbers ≤ MAX_AMOUNT
  catastrophe-within key = by (cat_place key) (health_cat_place key)
    where
      by : (place other : Option ℕ) → option_map_or (λ k. slice_index_or sheet.numbers.cat k 0) place
          (option_map_or (λ k. slice_index_or sheet.numbers.health_cat k 0) other 0) ≤ MAX_AMOUNT
      by (Some k) other = each-at validity.IsAmount sheet.numbers.cat k 0 (omega arith) valid.numbers.cat
      by None (Some k) = each-at validity.IsAmount sheet.numbers.health_cat k 0 (omega arith) valid.numbers.health_cat
      by None None = omega arith

  pub charge-amount : (key : CatKey) → IsAmount MAX_CHARGE (figure (nodes.Whole (wholes.CatCharge key)))
  charge-amount key =
      subst (IsAmount MAX_CHARGE) (sym (charge-worked key))
      (amount-exact MAX_CHARGE (1000 * catastrophe_cents key sheet.numbers) (omega (arith, catastrophe-within key)))

  pub lapse-within : (set : Set) → lapse_cents set sheet.numbers ≤ MAX_AMOUNT
  lapse-within set = each-at validity.IsAmount sheet.numbers.lapse (lapse_place set) 0 (omega arith) valid.numbers.lapse

  pub lapse-worked : (set : Set) → figure (nodes.Whole (wholes.Lapse set)) ≡ exact_ends (pos (1000 * lapse_cents set sheet.numbers))
  lapse-worked set = worked-equation factors sheet valid (nodes.Whole (wholes.Lapse set))

  -- ---- segments
  pub segment-worked : (segment : Segment) → figure (nodes.Whole (wholes.Segment segment))
      ≡ segment_ends (volumes_in_regions segment sheet.numbers) (deviations_of factors segment).0 (deviations_of factors segment).1
  segment-worked segment = worked-equation factors sheet valid (nodes.Whole (wholes.Segment segment))

  sigmas-within : (set : Set) (number : ℕ) → number ≤ segments set
      → ((sigma_of factors set number).0 ≤ 1_000_000) × ((sigma_of factors set number).1 ≤ 1_000_000)
  sigmas-within sets.Nl number le = (
    known.nl_premium.1 (number - 1) 0 (omega (arith, le, known.nl_premium.0)),
    known.nl_reserve.1 (number - 1) 0 (omega (arith, le, known.nl_reserve.0)),
  )
  sigmas-within sets.Nslt number le = (
    known.nslt_premium.1 (number - 1) 0 (omega (arith, le, known.nslt_premium.0)),
    known.nslt_reserve.1 (number - 1) 0 (omega (arith, le, known.nslt_reserve.0)),
  )

  pub deviations-within : (segment : Segment) → ((deviations_of factors segment).0 ≤ 1_000_000) × ((deviations_of factors segment).1 ≤ 1_000_000)
  deviations-within segment = sigmas-within (set_of segment) (number_of segment) (segment-numbered segment).1

  pub volumes-within : (segment : Segment) → total_volume (volumes_in_regions segment sheet.numbers) ≤ MAX_AMOUNT
  volumes-within segment =
      omega (arith, volume-within (volumes_of (set_of segment) sheet.numbers) (number_of segment - 1), valid.within.volumes (set_of segment))

  pub segment-amount : (segment : Segment)
      → IsAmount (1000 * total_volume (volumes_in_regions segment sheet.numbers)) (figure (nodes.Whole (wholes.Segment segment)))
  segment-amount segment =
      let small = deviations-within segment in
      subst (IsAmount (1000 * total_volume (volumes_in_regions segment sheet.numbers))) (sym (segment-worked segment))
      (segment-size (volumes_in_regions segment sheet.numbers) (deviations_of factors segment).0 (deviations_of factors segment).1 small.0 small.1)

  -- ---- premium and reserve risk
  abbrev pub segment_grains : Set → List ℕ
  segment_grains set = grains_from (segments set) 0 (volumes_of set sheet.numbers)

  pub segments-amounts : (set : Set) → AreAmounts (segment_grains set) (map figure (segments_of set))
  segments-amounts sets.Nl =
      let s = segment-amount in
      (s kinds.MotorLiability, (s kinds.OtherMotor, (s kinds.Transport, (s kinds.Property, (s kinds.GeneralLiability, (s kinds.Credit, (s kinds.LegalExpenses, (s kinds.Assistance, (s kinds.FinancialLoss, (s kinds.CasualtyReinsurance, (s kinds.TransportReinsurance, (s kinds.PropertyReinsurance, tt))))))))))))
  segments-amounts sets.Nslt =
      let s = segment-amount in
      (s kinds.MedicalExpense, (s kinds.IncomeProtection, (s kinds.WorkersCompensation, (s kinds.HealthReinsurance, tt))))

  pub segments-within : (set : Set) → sum_by (λ most. most) (segment_grains set) ≤ MAX_CHARGE
  segments-within set = omega (arith, grains-within (segments set) 0 (volumes_of set sheet.numbers), valid.within.volumes set)

  pub correlations-positive : (set : Set) → pos 0 <ℤ (segment_correlations factors set).den
  correlations-positive sets.Nl = known.correlations.denominator
  correlations-positive sets.Nslt = (is_correlation-holds NSLT refl).denominator

  pub correlations-within : (set : Set) → CellsWithin (segment_correlations factors set)
  correlations-within sets.Nl = known.correlations.within
  correlations-within sets.Nslt = (is_correlation-holds NSLT refl).within

  pub segments-counted : (set : Set) → length (map figure (segments_of set)) ≡ (segment_correlations factors set).n
  segments-counted sets.Nl = sym known.nl_segments
  segments-counted sets.Nslt = refl

  pub premium_reserve-worked : (set : Set) → figure (nodes.Whole (wholes.PremiumReserve set))
      ≡ premium_reserve_ends (map figure (segments_of set)) (table_of (segment_correlations factors set))
  premium_reserve-worked set = worked-equation factors sheet valid (nodes.Whole (wholes.PremiumReserve set))

  pub premium_reserve-amount : (set : Set) → IsAmount 30_000_000_000_000_000 (figure (nodes.Whole (wholes.PremiumReserve set)))
  premium_reserve-amount set =
      subst (IsAmount 30_000_000_000_000_000) (sym (premium_reserve-worked set))
      (amount-wider (3 * sum_by (λ most. most) (segment_grains set)) 30_000_000_000_000_000 _ (omega (arith, segments-within set))
      (premium_reserve-size (segment_correlations factors set) (segment_grains set) (map figure (segments_of set))
      (correlations-positive set) (correlations-within set) (segments-counted set) (segments-amounts set)))

  -- ---- catastrophes of non-life
  abbrev charge : CatKey → Ends
  charge key = figure (nodes.Whole (wholes.CatCharge key))

  abbrev pub natural_charges : List Ends
  natural_charges = charge cats.Windstorm ∷ charge cats.Earthquake ∷ charge cats.Flood ∷ charge cats.Hail ∷ charge cats.Subsidence ∷ []

  pub natural-amounts : AreAmounts (most_charges 5) natural_charges
  natural-amounts = (charge-amount cats.Windstorm, (charge-amount cats.Earthquake, (charge-amount cats.Flood, (charge-amount cats.Hail, (charge-amount cats.Subsidence, tt)))))

  pub natural-worked : figure (nodes.Whole wholes.Natural) ≡ nat_ends natural_charges
  natural-worked = worked-equation factors sheet valid (nodes.Whole wholes.Natural)

  pub natural-amount : IsAmount (50 * 10 ^ 15) (figure (nodes.Whole wholes.Natural))
  natural-amount =
      subst (IsAmount (50 * 10 ^ 15)) (sym natural-worked)
      (amount-wider _ (50 * 10 ^ 15) _ (omega arith) (nat-size (most_charges 5) natural_charges refl natural-amounts))

  abbrev pub man_made_charges : List Ends
  man_made_charges = charge cats.Motor ∷ charge cats.Marine ∷ charge cats.Aviation ∷ charge cats.Fire ∷ charge cats.Liability ∷ charge cats.Credit ∷ []

  pub man_made-amounts : AreAmounts (most_charges 6) man_made_charges
  man_made-amounts = (charge-amount cats.Motor, (charge-amount cats.Marine, (charge-amount cats.Aviation, (charge-amount cats.Fire, (charge-amount cats.Liability, (charge-amount cats.Credit, tt))))))

  pub man_made-worked : figure (nodes.Whole wholes.ManMade) ≡ manmade_ends man_made_charges
  man_made-worked = worked-equation factors sheet valid (nodes.Whole wholes.ManMade)

  pub man_made-amount : IsAmount (60 * 10 ^ 15) (figure (nodes.Whole wholes.ManMade))
  man_made-amount =
      subst (IsAmount (60 * 10 ^ 15)) (sym man_made-worked)
      (amount-wider _ (60 * 10 ^ 15) _ (omega arith) (manmade-size (most_charges 6) man_made_charges refl man_made-amounts))

  pub catastrophe-worked : figure (nodes.Whole wholes.NonlifeCatastrophe)
      ≡ cat_ends (figure (nodes.Whole wholes.Natural)) (figure (nodes.Whole wholes.ManMade)) (charge cats.NonProportionalProperty) (charge cats.Other)
  catastrophe-worked = worked-equation factors sheet valid (nodes.Whole wholes.NonlifeCatastrophe)

  pub catastrophe-amount : IsAmount (130 * 10 ^ 15) (figure (nodes.Whole wholes.NonlifeCatastrophe))
  catastrophe-amount =
      subst (IsAmount (130 * 10 ^ 15)) (sym catastrophe-worked)
      (amount-wider _ (130 * 10 ^ 15) _ (omega arith)
      (cat-size (50 * 10 ^ 15) (60 * 10 ^ 15) MAX_CHARGE MAX_CHARGE _ _ _ _ natural-amount man_made-amount (charge-amount cats.NonProportionalProperty) (charge-amount cats.Other)))

  -- ---- non-life
  pub nonlife-worked : (measure : Measure) → figure (nodes.Whole (wholes.Nonlife measure))
      ≡ nonlife_ends (figure (nodes.Whole (wholes.PremiumReserve sets.Nl))) (figure (nodes.Whole wholes.NonlifeCatastrophe)) (lapse_cents sets.Nl sheet.numbers)
  nonlife-worked measure = worked-equation factors sheet valid (nodes.Whole (wholes.Nonlife measure))

  pub nonlife-amount : (measure : Measure) → IsAmount (170 * 10 ^ 15) (figure (nodes.Whole (wholes.Nonlife measure)))
  nonlife-amount measure =
      subst (IsAmount (170 * 10 ^ 15)) (sym (nonlife-worked measure))
      (amount-wider _ (170 * 10 ^ 15) _ (omega (arith, lapse-within sets.Nl))
      (nonlife-size 30_000_000_000_000_000 (130 * 10 ^ 15) _ _ (lapse_cents sets.Nl sheet.numbers) (premium_reserve-amount sets.Nl) catastrophe-amount))

  -- ---- health
  abbrev pub health_charges : List Ends
  health_charges = charge cats.MassAccident ∷ charge cats.AccidentConcentration ∷ charge cats.Pandemic ∷ []

  pub health-amounts : AreAmounts (most_charges 3) health_charges
  health-amounts = (charge-amount cats.MassAccident, (charge-amount cats.AccidentConcentration, (charge-amount cats.Pandemic, tt)))

  pub health_catastrophe-worked : figure (nodes.Whole wholes.HealthCatastrophe) ≡ health_cat_ends health_charges
  health_catastrophe-worked = worked-equation factors sheet valid (nodes.Whole wholes.HealthCatastrophe)

  pub health_catastrophe-amount : IsAmount (30 * 10 ^ 15) (figure (nodes.Whole wholes.HealthCatastrophe))
  health_catastrophe-amount =
      subst (IsAmount (30 * 10 ^ 15)) (sym health_catastrophe-worked)
      (amount-wider _ (30 * 10 ^ 15) _ (omega arith) (health_cat-size (most_charges 3) health_charges refl health-amounts))

  pub health_net-worked : figure (nodes.Whole (wholes.NetPart risks.HealthCatastrophe))
      ≡ net_ends (figure (nodes.Whole wholes.HealthCatastrophe)) (absorbed (risk_key risks.HealthCatastrophe) sheet.numbers)
  health_net-worked = worked-equation factors sheet valid (nodes.Whole (wholes.NetPart risks.HealthCatastrophe))

  pub health_part-amount : (measure : Measure) → IsAmount (30 * 10 ^ 15) (figure (risk_part risks.HealthCatastrophe measure))
  health_part-amount measures.Gross = health_catastrophe-amount
  health_part-amount measures.Net =
      subst (IsAmount (30 * 10 ^ 15)) (sym health_net-worked)
      (net-amount (30 * 10 ^ 15) (absorbed (risk_key risks.HealthCatastrophe) sheet.numbers) _ health_catastrophe-amount)

  pub nslt-worked : (measure : Measure) → figure (nodes.Whole (wholes.Nslt measure))
      ≡ nslt_ends (figure (nodes.Whole (wholes.PremiumReserve sets.Nslt))) (lapse_cents sets.Nslt sheet.numbers)
  nslt-worked measure = worked-equation factors sheet valid (nodes.Whole (wholes.Nslt measure))

  pub nslt-amount : (measure : Measure) → IsAmount (40 * 10 ^ 15) (figure (nodes.Whole (wholes.Nslt measure)))
  nslt-amount measure =
      subst (IsAmount (40 * 10 ^ 15)) (sym (nslt-worked measure))
      (amount-wider _ (40 * 10 ^ 15) _ (omega (arith, lapse-within sets.Nslt))
      (nslt-size 30_000_000_000_000_000 _ (lapse_cents sets.Nslt sheet.numbers) (premium_reserve-amount sets.Nslt)))

  pub health-worked : (measure : Measure) → figure (nodes.Whole (wholes.Health measure))
      ≡ health_ends (figure (nodes.Whole (wholes.Slt measure))) (figure (nodes.Whole (wholes.Nslt measure))) (figure (risk_part risks.HealthCatastrophe measure))
  health-worked measure = worked-equation factors sheet valid (nodes.Whole (wholes.Health measure))

  -- of which so much is similar to life
  pub health-amount : (most : ℕ) (measure : Measure) → IsAmount most (figure (nodes.Whole (wholes.Slt measure)))
      → IsAmount (most + 70 * 10 ^ 15) (figure (nodes.Whole (wholes.Health measure)))
  health-amount most measure h =
      subst (IsAmount (most + 70 * 10 ^ 15)) (sym (health-worked measure))
      (amount-wider _ (most + 70 * 10 ^ 15) _ (omega arith)
      (health-size most (40 * 10 ^ 15) (30 * 10 ^ 15) _ _ _ h (nslt-amount measure) (health_part-amount measure)))
