-- For a valid balance sheet the rules of charges that are handed in, of segments, of catastrophes, and of the non-life and
-- health modules fit their own data and the worked figures of their sources.
use Rattle.std.proofs.Common.{ℕ, ◌*◌, ◌^◌, ◌<◌, ◌≤◌, List, [], ◌∷◌, map, sum_by, pos, ◌≤ℤ◌, arith}
use Rattle.std.specs.List.{AllByRecursion}
use Rattle.std.proofs.lemmas.Int.{ints}
use Rattle.std.proofs.lemmas.List.Sums.{sum_by-cons}
use Rattle.scr_num.specs.Amounts.{IsAmount, AreAmounts}
use Rattle.scr_num.specs.Rounding.{Ends, or_zero}
use Rattle.scr_num.specs.Sizes.{IsWithin}
use Rattle.scr_num.proofs.AmountBounds.{amount-high}
use Rattle.scr_num.proofs.CentAmounts.{or_zero-at_most, square-small}
use Rattle.scr_profile.specs.declared.segment.Segment.{Segment}
use Rattle.scr_profile.specs.declared.set.Set.{Set}
use Rattle.scr_profile.specs.declared.set.Set.TheVariants as sets
use Rattle.scr_factors.specs.Values.{FactorValues, IsInForm}
use Rattle.scr_sheet.proofs.Amounts.{absorbed-within}
use Rattle.scr_sheet.specs.Validity.{Valid}
use Rattle.scr_sheet.specs.declared.{keys.CatKey.CatKey, sheet.BalanceSheet.BalanceSheet}
use Rattle.scr_sheet.specs.declared.keys.CatKey.TheVariants as cats
use Rattle.scr_nodes.specs.declared.{node.Measure.Measure, node.Node.Node}
use Rattle.scr_nodes.specs.declared.node.Node.TheVariants as nodes
use Rattle.scr_nodes.specs.declared.node.Whole.TheVariants as wholes
use Rattle.scr_nodes.specs.declared.node.Risk.TheVariants as risks
use Rattle.scr_nodes.specs.OwnOf.{own_of, risk_key, segment_correlations}
use Rattle.scr_nodes.specs.Sources.{sources_of, segments_of}
use Rattle.scr_rules.specs.Fits.{Fits}
use Rattle.scr_rules.specs.NonlifeFits.{MAX_CHARGE}
use Rattle.scr_rules.specs.Worked.{worked}
use Rattle.scr_rules.proofs.RootAmounts.{root-fits}
use Rattle.scr_rules.proofs.NonlifeSizes as sizes

pub lows-not_negative : (mosts : List ℕ) (es : List Ends) → AreAmounts mosts es → AllByRecursion (λ e. pos 0 ≤ℤ e.low) es
lows-not_negative [] [] h = tt
lows-not_negative [] (e ∷ es) h = absurd h
lows-not_negative (most ∷ mosts) [] h = absurd h
lows-not_negative (most ∷ mosts) (e ∷ es) h = (h.0.not_negative, lows-not_negative mosts es h.1)

pub high-within : (most : ℕ) (e : Ends) → IsAmount most e → or_zero e.high ≤ most
high-within most e h = or_zero-at_most e.high most (amount-high most e h)

pub highs-within : (mosts : List ℕ) (es : List Ends) → AreAmounts mosts es
    → sum_by (λ e. or_zero e.high) es ≤ sum_by (λ most. most) mosts
highs-within [] [] h = omega arith
highs-within [] (e ∷ es) h = absurd h
highs-within (most ∷ mosts) [] h = absurd h
highs-within (most ∷ mosts) (e ∷ es) h =
    omega (
      arith,
      high-within most e h.0,
      highs-within mosts es h.1,
      sum_by-cons (λ (f : Ends). or_zero f.high) e es,
      sum_by-cons (λ (n : ℕ). n) most mosts,
    )

pub amount-within : (most more : ℕ) (e : Ends) → most ≤ more → IsAmount most e → IsWithin more e
amount-within most more e le h = record { low = omega (arith, le, h.low_size); high = omega (arith, le, h.high_size) }

module _ (factors : FactorValues) (known : IsInForm factors) (sheet : BalanceSheet) (valid : Valid sheet) where
  abbrev figure : Node → Ends
  figure node = worked factors sheet node

  abbrev NodeFits : Node → Type 0
  NodeFits node = Fits (own_of factors sheet node) (map figure (sources_of sheet node))

  -- ---- charges that are handed in
  pub charge-fits : (key : CatKey) → NodeFits (nodes.Whole (wholes.CatCharge key))
  charge-fits key = record { small = omega (arith, sizes.catastrophe-within factors known sheet valid key) }

  pub lapse-fits : (set : Set) → NodeFits (nodes.Whole (wholes.Lapse set))
  lapse-fits set = record { small = omega (arith, sizes.lapse-within factors known sheet valid set) }

  -- ---- premium and reserve risk
  pub segment-fits : (segment : Segment) → NodeFits (nodes.Whole (wholes.Segment segment))
  segment-fits segment =
      let small = sizes.deviations-within factors known sheet valid segment in
      record { volume = sizes.volumes-within factors known sheet valid segment; premium_deviation = small.0; reserve_deviation = small.1 }

  places : (set : Set) → (segment_correlations factors set).n ≤ 16
  places sets.Nl = omega (arith, known.nl_segments)
  places sets.Nslt = omega arith

  hundredths : (set : Set) → or_zero (segment_correlations factors set).den ≤ 100
  hundredths sets.Nl = or_zero-at_most factors.correlations.den 100 (omega (arith, ints, known.hundredths))
  hundredths sets.Nslt = omega arith

  rooted : (den highs : ℕ) → den ≤ 100 → highs ≤ MAX_CHARGE → den * (highs * highs) < 2 ^ 127
  rooted den highs few le = square-small den highs MAX_CHARGE le (omega (arith, few))

  pub premium_reserve-fits : (set : Set) → NodeFits (nodes.Whole (wholes.PremiumReserve set))
  premium_reserve-fits set =
      let amounts = sizes.segments-amounts factors known sheet valid set in
      let mosts = sizes.segment_grains factors known sheet valid set in
      let highs = highs-within mosts (map figure (segments_of set)) amounts in
      let within = sizes.segments-within factors known sheet valid set in
      record {
        size = places set;
        denominator = sizes.correlations-positive factors known sheet valid set;
        cells = sizes.correlations-within factors known sheet valid set;
        count = sizes.segments-counted factors known sheet valid set;
        lows = lows-not_negative mosts (map figure (segments_of set)) amounts;
        small = rooted _ _ (hundredths set) (omega (arith, highs, within));
      }

  -- ---- catastrophes
  charge : (key : CatKey) → IsAmount MAX_CHARGE (figure (nodes.Whole (wholes.CatCharge key)))
  charge key = sizes.charge-amount factors known sheet valid key

  pub natural-fits : NodeFits (nodes.Whole wholes.Natural)
  natural-fits = root-fits 5 (sizes.most_charges 5) (map figure (sources_of sheet (nodes.Whole wholes.Natural))) (sizes.natural-amounts factors known sheet valid) (omega arith)

  pub man_made-fits : NodeFits (nodes.Whole wholes.ManMade)
  man_made-fits = root-fits 6 (sizes.most_charges 6) (map figure (sources_of sheet (nodes.Whole wholes.ManMade))) (sizes.man_made-amounts factors known sheet valid) (omega arith)

  pub catastrophe-fits : NodeFits (nodes.Whole wholes.NonlifeCatastrophe)
  catastrophe-fits =
      root-fits 4 (50 * 10 ^ 15 ∷ 60 * 10 ^ 15 ∷ MAX_CHARGE ∷ MAX_CHARGE ∷ []) (map figure (sources_of sheet (nodes.Whole wholes.NonlifeCatastrophe)))
      (sizes.natural-amount factors known sheet valid, (sizes.man_made-amount factors known sheet valid, (charge cats.NonProportionalProperty, (charge cats.Other, tt))))
      (omega arith)

  pub health_catastrophe-fits : NodeFits (nodes.Whole wholes.HealthCatastrophe)
  health_catastrophe-fits = root-fits 3 (sizes.most_charges 3) (map figure (sources_of sheet (nodes.Whole wholes.HealthCatastrophe))) (sizes.health-amounts factors known sheet valid) (omega arith)

  pub health_net-fits : NodeFits (nodes.Whole (wholes.NetPart risks.HealthCatastrophe))
  health_net-fits = record {
    absorbed = absorbed-within (risk_key risks.HealthCatastrophe) sheet.numbers valid.numbers.absorb;
    gross = amount-within _ (2 ^ 100) _ (omega arith) (sizes.health_catastrophe-amount factors known sheet valid);
  }

  -- ---- modules
  pub nonlife-fits : (measure : Measure) → NodeFits (nodes.Whole (wholes.Nonlife measure))
  nonlife-fits measure = record {
    charge = sizes.lapse-within factors known sheet valid sets.Nl;
    parts = root-fits 2 (30_000_000_000_000_000 ∷ 130 * 10 ^ 15 ∷ []) (map figure (sources_of sheet (nodes.Whole (wholes.Nonlife measure))))
        (sizes.premium_reserve-amount factors known sheet valid sets.Nl, (sizes.catastrophe-amount factors known sheet valid, tt)) (omega arith);
  }

  pub nslt-fits : (measure : Measure) → NodeFits (nodes.Whole (wholes.Nslt measure))
  nslt-fits measure =
      let all = sizes.premium_reserve-amount factors known sheet valid sets.Nslt in
      let high = amount-high _ _ all in
      record { charge = sizes.lapse-within factors known sheet valid sets.Nslt; low = all.not_negative; high = omega (arith, ints, high) }

  -- where what is similar to life is no more than the limit
  pub health-fits : (measure : Measure) → IsAmount 5_000_000_000_000_000_000 (figure (nodes.Whole (wholes.Slt measure))) → NodeFits (nodes.Whole (wholes.Health measure))
  health-fits measure h =
      root-fits 3 (5_000_000_000_000_000_000 ∷ 40 * 10 ^ 15 ∷ 30 * 10 ^ 15 ∷ []) (map figure (sources_of sheet (nodes.Whole (wholes.Health measure))))
      (h, (sizes.nslt-amount factors known sheet valid measure, (sizes.health_part-amount factors known sheet valid measure, tt))) (omega arith)
