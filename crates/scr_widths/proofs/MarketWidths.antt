-- How far apart the worked figures of equity, property, spread and concentration risk and of market risk are.
use Rattle.std.proofs.Common.{◌≡◌, ◌∙◌, ℕ, zero, suc, ◌+◌, ◌*◌, ◌≤◌, ℤ, ◌+ℤ◌, ◌*ℤ◌, true, List, [], ◌∷◌, map, filter, sum_by, pos, refl, sym, subst, Some, inl, inr, ◌⊎◌, arith, lit<, lit≤}
use Rattle.std.specs.Int.RustNames.{count_ones}
use Rattle.std.proofs.lemmas.Int.{ints}
use Rattle.std.specs.List.{AllByRecursion}
use Rattle.scr_num.specs.Amounts.{AreAmounts}
use Rattle.scr_num.specs.Narrow.{IsNarrow, AreNarrow}
use Rattle.scr_num.specs.Rounding.{Ends, exact_ends, root_ends, quad_ends}
use Rattle.scr_num.specs.Sums.{sum_ends}
use Rattle.scr_num.proofs.AmountBounds.{amount-add}
use Rattle.scr_num.proofs.Spreads.{narrow-wider, narrow-exact, narrow-add, narrow-scale, narrow-root, narrow-sum}
use Rattle.scr_agg.specs.Unbeaten.{HasSeveral}
use Rattle.scr_conc.specs.ConcentrationEnds.{concentration_ends, squares_units}
use Rattle.scr_factors.specs.Values.{FactorValues}
use Rattle.scr_market.specs.EquityEnds.{fall_ends, infrastructure_ends}
use Rattle.scr_market.specs.Market.{market_correlations}
use Rattle.scr_market.specs.MarketEnds.{market_ends}
use Rattle.scr_market.specs.declared.equity_parts.TheConstants.{MAX_EQUITY_PART}
use Rattle.scr_nodes.proofs.Chosen.{each-chosen}
use Rattle.scr_nodes.proofs.OwnRows.{own-securities}
use Rattle.scr_nodes.specs.OwnOf.{risk_key}
use Rattle.scr_nodes.specs.Rows.{has_class}
use Rattle.scr_nodes.specs.Sources.{gross_of, market_parts, risk_part, security_spread}
use Rattle.scr_nodes.specs.declared.node.Alternatives.TheVariants as alternatives
use Rattle.scr_nodes.specs.declared.{node.Equities.Equities, node.Measure.Measure, node.Node.Node, node.Risk.Risk}
use Rattle.scr_nodes.specs.declared.node.Equities.TheVariants as equities
use Rattle.scr_nodes.specs.declared.node.Measure.TheVariants as measures
use Rattle.scr_nodes.specs.declared.node.Node.TheVariants as nodes
use Rattle.scr_nodes.specs.declared.node.OfSecurity.TheVariants as of_securities
use Rattle.scr_nodes.specs.declared.node.Risk.TheVariants as risks
use Rattle.scr_nodes.specs.declared.node.Whole.TheVariants as wholes
use Rattle.scr_profile.specs.declared.correlations.TheConstants.{EQUITY, MARKET_0, MARKET_HALF}
use Rattle.scr_sheet.specs.Absorptions.{absorbed}
use Rattle.scr_sheet.specs.BalanceSheet.{position_name, position_of}
use Rattle.scr_sheet.specs.Validity.{Valid}
use Rattle.scr_sheet.specs.declared.rows.Class.TheVariants as classes
use Rattle.scr_sheet.specs.declared.{rows.Position.Position, sheet.BalanceSheet.BalanceSheet}
use Rattle.scr_rules.specs.Holdings.{class_total, assets_cents}
use Rattle.scr_rules.specs.Rules.{amount_of}
use Rattle.scr_rules.specs.Worked.{worked}
use Rattle.scr_rules.proofs.MarketSizes.{IsMaskOfTwo, bond-worked, bond_ends_of, spread-worked, concentration-worked, exposures, property-worked, net-worked, interest-mask, six, six_most, six-amounts, market-worked}
use Rattle.scr_rules.proofs.Sizes.{part_ends, part-worked, part-amount, root-worked}
use Rattle.scr_widths.specs.Widths.{currency_width, equity_width, market_width, payments_width, risk_width, scale_of}
use Rattle.scr_widths.proofs.Cleared.{Clear, clear-choice, clear-sources, not-several}
use Rattle.scr_widths.proofs.CurrencyWidths.{currency-narrow}
use Rattle.scr_widths.proofs.InterestWidths.{interest-narrow}
use Rattle.scr_widths.proofs.SumWidths.{each-figure, narrow-known, narrow-net, narrow-root_of}
use Rattle.scr_widths.proofs.Tables.{equity-spreads, market_0-spreads, market_half-spreads}

-- a mask of one alternative of two
one-of-two : (mask : ℕ) → IsMaskOfTwo mask → (HasSeveral mask → ⊥) → (mask ≡ 1) ⊎ (mask ≡ 2)
unfolding count_ones
one-of-two zero two few = absurd (omega (arith, two.some))
one-of-two (suc zero) two few = inl refl
one-of-two (suc (suc zero)) two few = inr refl
one-of-two (suc (suc (suc zero))) two few = absurd (few (lit≤ tt))
one-of-two (suc (suc (suc (suc mask)))) two few = absurd (omega (arith, two.most))

-- the root of either decides
narrow-decided : (w mask : ℕ) (parts : List Ends) → (mask ≡ 1) ⊎ (mask ≡ 2)
    → IsNarrow w (quad_ends parts (market_correlations 0)) → IsNarrow w (quad_ends parts (market_correlations 1))
    → IsNarrow w (market_ends parts mask)
narrow-decided w mask parts (inl e) first second = subst (λ n. IsNarrow w (market_ends parts n)) (sym e) first
narrow-decided w mask parts (inr e) first second = subst (λ n. IsNarrow w (market_ends parts n)) (sym e) second

-- what equities lose
narrow-fall : (cents strategic base : ℕ) (adjustment : ℤ) → IsNarrow 1 (fall_ends cents strategic base adjustment)
narrow-fall cents strategic base adjustment =
    narrow-scale 0 0 1 1000 (exact_ends (pos cents *ℤ (pos base +ℤ adjustment) +ℤ pos (strategic * 220_000))) (lit< tt) (omega arith)
    (narrow-exact (pos cents *ℤ (pos base +ℤ adjustment) +ℤ pos (strategic * 220_000)))

narrow-infrastructure : (cents base percents : ℕ) (adjustment : ℤ) → IsNarrow 1 (infrastructure_ends cents base percents adjustment)
narrow-infrastructure cents base percents adjustment =
    narrow-scale 0 0 1 100_000 (exact_ends (pos cents *ℤ (pos base +ℤ pos percents *ℤ adjustment))) (lit< tt) (omega arith)
    (narrow-exact (pos cents *ℤ (pos base +ℤ pos percents *ℤ adjustment)))

module _ (factors : FactorValues) (sheet : BalanceSheet) (valid : Valid sheet) where
  abbrev figure : Node → Ends
  figure node = worked factors sheet node

  -- ---- equities
  part_ends-narrow : (kind : Equities) → IsNarrow 1 (part_ends sheet kind)
  part_ends-narrow equities.Type1 = narrow-fall (class_total classes.Type1Equity sheet) (class_total classes.Type1Strategic sheet) 390_000 sheet.numbers.sym
  part_ends-narrow equities.Type2 = narrow-fall (class_total classes.Type2Equity sheet) (class_total classes.Type2Strategic sheet) 490_000 sheet.numbers.sym
  part_ends-narrow equities.Infrastructure = narrow-infrastructure (class_total classes.Infrastructure sheet) 30_000_000 77 sheet.numbers.sym
  part_ends-narrow equities.InfrastructureCorporate = narrow-infrastructure (class_total classes.InfrastructureCorporate sheet) 36_000_000 92 sheet.numbers.sym

  pub part-narrow : (kind : Equities) → IsNarrow 2 (figure (nodes.Whole (wholes.EquityPart kind)))
  part-narrow kind =
      subst (IsNarrow 2) (sym (part-worked factors sheet valid kind)) (narrow-wider 1 2 (part_ends sheet kind) (omega arith) (part_ends-narrow kind))

  pub equity-narrow : IsNarrow equity_width (figure (nodes.Whole wholes.EquityRoot))
  equity-narrow =
      let part = part-narrow in
      let amount = part-amount factors sheet valid in
      let type2 = figure (nodes.Whole (wholes.EquityPart equities.Type2)) in
      let infra = figure (nodes.Whole (wholes.EquityPart equities.Infrastructure)) in
      let corporate = figure (nodes.Whole (wholes.EquityPart equities.InfrastructureCorporate)) in
      subst (IsNarrow equity_width) (sym (root-worked factors sheet valid))
      (narrow-root_of 2 EQUITY equity-spreads (MAX_EQUITY_PART ∷ (MAX_EQUITY_PART + MAX_EQUITY_PART + MAX_EQUITY_PART) ∷ [])
      (2 ∷ 6 ∷ []) _ refl (
        amount equities.Type1,
        (
          amount-add (MAX_EQUITY_PART + MAX_EQUITY_PART) MAX_EQUITY_PART _ corporate
              (amount-add MAX_EQUITY_PART MAX_EQUITY_PART type2 infra (amount equities.Type2) (amount equities.Infrastructure))
              (amount equities.InfrastructureCorporate),
          tt,
        ),
      ) (
        part equities.Type1,
        (
          narrow-add 4 2 _ corporate (narrow-add 2 2 type2 infra (part equities.Type2) (part equities.Infrastructure))
              (part equities.InfrastructureCorporate),
          tt,
        ),
      )
      equity_width (lit≤ tt))

  -- ---- property, spread and concentration
  pub property-narrow : IsNarrow 0 (figure (nodes.Whole wholes.Property))
  property-narrow = subst (IsNarrow 0) (sym (property-worked factors sheet valid)) (narrow-exact _)

  pub bond-narrow : (name : List ℕ) (p : Position) → position_of name sheet.securities ≡ Some p
      → IsNarrow 0 (figure (nodes.Security name of_securities.Spread))
  bond-narrow name p is = subst (IsNarrow 0) (sym (bond-worked factors sheet valid name p is)) (narrow-exact _)

  bonds-narrow : IsNarrow 0 (sum_ends (bond_ends_of factors sheet valid))
  bonds-narrow =
      narrow-wider _ 0 (sum_ends (bond_ends_of factors sheet valid)) (omega arith)
      (narrow-sum 0 (bond_ends_of factors sheet valid)
      (each-figure figure (IsNarrow 0) (map security_spread (filter (has_class classes.Bond) sheet.securities))
      (each-chosen (λ p. position_of (position_name p) sheet.securities ≡ Some p) (λ n. IsNarrow 0 (figure n)) (has_class classes.Bond) security_spread sheet.securities
      (own-securities sheet valid) (λ p own e. bond-narrow (position_name p) p own))))

  pub spread-narrow : IsNarrow 2 (figure (nodes.Whole wholes.Spread))
  spread-narrow =
      subst (IsNarrow 2) (sym (spread-worked factors sheet valid))
      (narrow-wider 1 2 _ (omega arith) (narrow-scale 0 0 1 1_000_000 (sum_ends (bond_ends_of factors sheet valid)) (lit< tt) (omega arith) bonds-narrow))

  narrow-concentration : (sum : ℕ) → IsNarrow 2 (concentration_ends sum)
  narrow-concentration sum =
      narrow-scale 1 1 1 100 (root_ends (exact_ends (pos sum))) (lit< tt) (omega arith)
      (narrow-root 0 1 (exact_ends (pos sum)) (omega (arith, ints)) (omega arith) (omega arith) (narrow-exact (pos sum)))

  pub concentration-narrow : IsNarrow 2 (figure (nodes.Whole wholes.Concentration))
  concentration-narrow =
      subst (IsNarrow 2) (sym (concentration-worked factors sheet valid))
      (narrow-concentration (squares_units (assets_cents sheet) (exposures factors sheet valid)))

  -- ---- what absorption leaves of a risk
  pub part-measured : (risk : Risk) (measure : Measure) (w : ℕ) → IsNarrow w (figure (gross_of risk)) → IsNarrow w (figure (risk_part risk measure))
  part-measured risk measures.Gross w h = h
  part-measured risk measures.Net w h =
      subst (IsNarrow w) (sym (net-worked factors sheet valid risk)) (narrow-net w (absorbed (risk_key risk) sheet.numbers) (figure (gross_of risk)) h)

  -- ---- the module
  abbrev six_widths : List ℕ
  six_widths = payments_width (scale_of sheet) ∷ equity_width ∷ 0 ∷ 2 ∷ 2 ∷ currency_width (scale_of sheet) ∷ []

  six-narrow : (measure : Measure) → AllByRecursion (Clear factors sheet valid) (market_parts measure) → AreNarrow six_widths (six factors sheet valid measure)
  six-narrow measure below = (
    interest-narrow factors sheet valid measure below.0,
    (
      part-measured risks.Equity measure equity_width equity-narrow,
      (
        part-measured risks.Property measure 0 property-narrow,
        (
          part-measured risks.Spread measure 2 spread-narrow,
          (part-measured risks.Concentration measure 2 concentration-narrow, (currency-narrow factors sheet valid measure below.1.1.1.1.1.0, tt)),
        ),
      ),
    ),
  )

  pub market-narrow : (measure : Measure) → Clear factors sheet valid (nodes.Whole (wholes.Market measure))
      → IsNarrow (market_width (scale_of sheet)) (figure (nodes.Whole (wholes.Market measure)))
  market-narrow measure clear =
      let below = clear-sources factors sheet valid (nodes.Whole (wholes.Market measure)) clear in
      let choice = figure (nodes.Whole (wholes.Choice alternatives.Interest)) in
      let narrow = six-narrow measure below in
      let amounts = six-amounts factors sheet valid measure in
      let parts = six factors sheet valid measure in
      let most = six_most factors sheet valid in
      subst (IsNarrow (market_width (scale_of sheet))) (sym (market-worked factors sheet valid measure))
      (narrow-decided (market_width (scale_of sheet)) (amount_of choice) parts
      (one-of-two (amount_of choice) (interest-mask factors sheet valid choice refl)
      (not-several choice (clear-choice factors sheet valid (nodes.Whole (wholes.Choice alternatives.Interest)) below.1.1.1.1.1.1.0)))
      (narrow-root_of 3 MARKET_0 market_0-spreads most six_widths parts refl amounts narrow (market_width (scale_of sheet)) (omega arith))
      (narrow-root_of 3 MARKET_HALF market_half-spreads most six_widths parts refl amounts narrow (market_width (scale_of sheet)) (omega arith)))
