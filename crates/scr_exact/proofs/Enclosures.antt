-- For every live node with a figure, the ends of figures that cover their rules enclose the exact figure.
use Rattle.std.proofs.Common.{◌≡◌, ℕ, Bool, true, false, ◌&&◌, List, [], ◌∷◌, ◌++◌, map, filter, ℤ, pos, ◌+ℤ◌, ◌*ℤ◌, ◌≤ℤ◌, if◌then◌else◌, is_some, refl, ap, sym, subst, ◌∙◌, Some, None, Option, not, arith, lit<, inl, inr}
use Rattle.std.specs.Prelude.{IsBitSet}
use Rattle.std.specs.Option.{option_map_or}
use Rattle.std.proofs.lemmas.Bool.{true≢false}
use Rattle.std.proofs.lemmas.Int.{ints}
use Rattle.std.proofs.lemmas.List.{map-append}
use Rattle.scr_num.specs.Fraction.{Fraction, Share, ◌≼◌, over, whole, zero_fraction, product, times}
use Rattle.scr_num.specs.Figure.{Figure, Frac, Times, Max, AtMost}
use Rattle.scr_num.specs.Enclosure.{Encloses}
use Rattle.scr_num.specs.Rounding.{Ends, exact_ends, add_ends, sub_ends, max_ends, or_zero}
use Rattle.scr_num.specs.Sums.{sum_ends}
use Rattle.scr_num.proofs.CentAmounts.{enclosing-in_order}
use Rattle.scr_num.proofs.Enclosing.{Encloses-exact, Encloses-add, Encloses-sub, Encloses-minus, Encloses-max, Encloses-scale}
use Rattle.scr_num.proofs.Fractions.{≼_refl, ≼_trans, times_mono}
use Rattle.scr_num.proofs.SumLemmas.{Encloses-zero, sum_ends-append}
use Rattle.scr_yield_curve.specs.DiscountEnds.{one}
use Rattle.scr_dates.specs.declared.day.Day.{Day}
use Rattle.scr_flow.specs.LossEnds.{scaled_ends}
use Rattle.scr_flow.specs.Payments.{payments_exact}
use Rattle.scr_agg.specs.Absorbed.{net_ends, net_figure}
use Rattle.scr_agg.specs.Choice.{Outcome, chosen, outcome_at}
use Rattle.scr_agg.specs.Unbeaten.{Alternative, EncloseOutcome, EncloseOutcomes}
use Rattle.scr_agg.proofs.Bits.{mask_bits}
use Rattle.scr_agg.proofs.Chosen.{chosen-is}
use Rattle.scr_agg.proofs.Enclosed.{chosen_unbeaten, gross_encloses, net_encloses}
use Rattle.scr_agg.proofs.ExactAmounts.{Encloses-greater, Encloses-net_exact}
use Rattle.scr_agg.proofs.NetAmounts.{Encloses-net}
use Rattle.scr_rate.specs.Interest.{counted, gross_exact}
use Rattle.scr_rate.specs.InterestEnds.{EncloseLosses}
use Rattle.scr_rate.proofs.Costs as costs
use Rattle.scr_market.proofs.EquityBounds.{type1-encloses, type2-encloses, infra-encloses, infracorp-encloses, root-encloses}
use Rattle.scr_factors.specs.Values.{FactorValues, IsInForm}
use Rattle.scr_tables.specs.Names.{same_name}
use Rattle.scr_tables.proofs.TableRows.{All-map, name_of-row_of, same_name-is}
use Rattle.scr_sheet.specs.Absorptions.{absorbed}
use Rattle.scr_sheet.specs.BalanceSheet.{position_name, liability_name, group_name, position_of}
use Rattle.scr_sheet.specs.CashFlows.{is_empty}
use Rattle.scr_sheet.specs.Totals.{total_of}
use Rattle.scr_sheet.specs.declared.rows.Class.TheVariants as classes
use Rattle.scr_sheet.specs.declared.{rows.Curve.Curve, rows.Liability.Liability, rows.Position.Position, sheet.BalanceSheet.BalanceSheet}
use Rattle.scr_sheet.specs.Validity.{Valid}
use Rattle.scr_sheet.proofs.HeldNames.{row-there}
use Rattle.scr_nodes.specs.declared.node.Alternatives.TheVariants as alternatives
use Rattle.scr_nodes.specs.declared.{node.Direction.Direction, node.Equities.Equities, node.Measure.Measure, node.Node.Node}
use Rattle.scr_nodes.specs.declared.node.Direction.TheVariants as directions
use Rattle.scr_nodes.specs.declared.node.Equities.TheVariants as equities
use Rattle.scr_nodes.specs.declared.node.Measure.TheVariants as measures
use Rattle.scr_nodes.specs.declared.node.Node.TheVariants as nodes
use Rattle.scr_nodes.specs.declared.node.OfFund.TheVariants as of_funds
use Rattle.scr_nodes.specs.declared.node.OfSecurity.TheVariants as of_securities
use Rattle.scr_nodes.specs.declared.node.OfLiability.TheVariants as of_liabilities
use Rattle.scr_nodes.specs.declared.node.OfCurrency.TheVariants as of_currencies
use Rattle.scr_nodes.specs.declared.node.OfGroup.TheVariants as of_groups
use Rattle.scr_nodes.specs.declared.node.Whole.TheVariants as wholes
use Rattle.scr_nodes.specs.declared.node.Risk.TheVariants as risks
use Rattle.scr_nodes.specs.Live.{is_live}
use Rattle.scr_nodes.specs.OwnOf.{nothing_paid, paid_by_security, paid_by_liability, interest_key, risk_key}
use Rattle.scr_nodes.specs.Rows.{is_held_in, is_paying, is_paying_in, is_owed_in, liability_of}
use Rattle.scr_nodes.specs.Sources.{security_rate, liability_rate, currency_loss, rates_in, risk_part}
use Rattle.scr_nodes.proofs.OwnRows.{own-securities, own-liabilities}
use Rattle.scr_rules.specs.Alternatives.{EncloseAlternatives, alternative_of, interest_alternatives}
use Rattle.scr_exact.specs.DefaultExact.{default_exact}
use Rattle.scr_exact.specs.Exact.{exact, exact_outcomes, unit_of}
use Rattle.scr_exact.specs.LifeExact.{life_exact, slt_exact}
use Rattle.scr_exact.specs.MarketExact.{equities_exact, equity_exact, liability_worth, bond_exact, group_square_exact, market_exact}
use Rattle.scr_exact.specs.Measured.{measured, absorbed_part}
use Rattle.scr_rules.specs.Holdings.{security_cents, class_total}
use Rattle.scr_exact.specs.InterestExact as interest
use Rattle.scr_exact.specs.InterestExact.{security_unit_loss, security_loss, liability_cost, losses, scenario_of, decisive_outcome, up_absorption, down_absorption}
use Rattle.scr_rules.specs.Rules.{amount_of, paid_ends}
use Rattle.scr_rules.specs.Worked.{worked}
use Rattle.scr_exact.specs.Covering.{AreCovering, AreNotNegative, is_part_of_market, is_part_of_modules, is_whole_number}
use Rattle.scr_exact.proofs.Covered.{covered, due, leaf-encloses, number-encloses, number-is}
use Rattle.scr_rules.proofs.PaymentsEnclosed.{paid-encloses}
use Rattle.scr_exact.proofs.RowsEnclosed.{sum-encloses, rows-enclose, where-encloses}
use Rattle.scr_exact.proofs.MarketEnclosures.{both-enclose as changes-enclose, present-encloses, change-encloses, change-picked-encloses, currency-encloses, property-enclosed, bond-enclosed, spread-enclosed, square-enclosed, concentration-enclosed, net-enclosed, market-enclosed}
use Rattle.scr_rules.proofs.MarketRanges.{bond-there}
use Rattle.scr_rules.proofs.MarketSizes.{AreOrdered, IsMaskOfTwo, assets-worked, group-worked, mask-of-two}
use Rattle.scr_rules.proofs.Payments.{security-known, liability-known, security-fits, liability-fits}
use Rattle.scr_rules.proofs.Ranges.{position-there}
use Rattle.scr_rules.proofs.Sizes.{class-worked, part_ends, part-worked}
use Rattle.scr_rules.proofs.Totals.{fund-worked, security-worked}
use Rattle.scr_exact.proofs.LifeEnclosures as life
use Rattle.scr_exact.proofs.DefaultEnclosures as defaults
use Rattle.scr_exact.proofs.NonlifeEnclosures as nonlife
use Rattle.scr_exact.proofs.LossEnclosures as loss

-- ends in 10^-18 enclose the fraction
abbrev Enclosed : Ends → Fraction → Type 0
Enclosed e p = Encloses one e.low e.high (Frac p)

abbrev Holds : ℕ → Ends → Figure → Type 0
Holds unit e f = Encloses unit e.low e.high f

-- ends that enclose a figure enclose the one that it is
told : (unit : ℕ) (e : Ends) (g f : Figure) → ◌≡◌ {A = Option Figure} (Some g) (Some f) → Holds unit e g → Holds unit e f
told unit e g f is h = let same : g ≡ f = cc in subst (Holds unit e) same h

nothing : (p : Fraction) → p.num ≡ pos 0 → Enclosed (exact_ends (pos 0)) p
nothing p none = Encloses-exact one (pos 0) p (record { positive = lit< tt; equal = zero p.num p.den none })
  where
    zero : (n : ℤ) (d : ℕ) → n ≡ pos 0 → pos 0 *ℤ pos d ≡ n *ℤ pos one
    zero n d e = omega (arith, ints, e)

-- ---- a share of a fraction, and the greater with 0
-- that share of a fraction, as a product of two
abbrev share_of : Share → Fraction → Fraction
share_of share p = product (over (pos share.num) share.den share.positive) p

below_share : (share : Share) (p : Fraction) → times p share ≼ share_of share p
below_share share p = ≼_refl (times p share) (share_of share p) (omega (arith, ints)) (omega arith)

above_share : (share : Share) (p : Fraction) → share_of share p ≼ times p share
above_share share p = ≼_refl (share_of share p) (times p share) (omega (arith, ints)) (omega arith)

Encloses-share : (unit : ℕ) (low high : ℤ) (p : Fraction) (share : Share) → Encloses unit low high (Times (Frac p) share) → Encloses unit low high (Frac (share_of share p))
unfolding AtMost
Encloses-share unit low high p share h =
    let part = share_of share p in
    let a = h.at_most in
    let b = h.at_least in
    record {
      positive = h.positive;
      at_most =
          ≼_trans (over low unit h.positive) (times a.0 share) part a.2
          (≼_trans (times a.0 share) (times p share) part (times_mono a.0 p share a.1) (below_share share p));
      at_least =
          ≼_trans part (times b.0 share) (over high unit h.positive)
          (≼_trans part (times p share) (times b.0 share) (above_share share p) (times_mono p b.0 share b.1)) b.2;
    }

-- the greater of two figures does not depend on which is named first
Encloses-turned : (unit : ℕ) (low high : ℤ) (p q : Fraction) → Encloses unit low high (Max (Frac p) (Frac q)) → Encloses unit low high (Max (Frac q) (Frac p))
unfolding AtMost
Encloses-turned unit low high p q h =
    let b = h.at_least in
    record { positive = h.positive; at_most = elim h.at_most [ inl a ↦ inr a | inr a ↦ inl a ]; at_least = (b.1, b.0) }

counted-encloses : (e : Ends) (p : Fraction) → Enclosed e p → Enclosed (max_ends (exact_ends (pos 0)) e) (counted p)
counted-encloses e p h =
    let m = max_ends (exact_ends (pos 0)) e in
    Encloses-greater one m.low m.high p zero_fraction
    (Encloses-turned one m.low m.high zero_fraction p (Encloses-max one (pos 0) (pos 0) e.low e.high (Frac zero_fraction) (Frac p) (Encloses-zero one (lit< tt)) h))

either : (b : Bool) (e : Ends) (p : Fraction) → b ≡ true → Enclosed e p → Enclosed e (if b then p else zero_fraction)
either true e p is h = h
either false e p is h = absurd (true≢false (sym is))

neither : (b : Bool) (p : Fraction) → (b ≡ true → Enclosed (exact_ends (pos 0)) p) → Enclosed (exact_ends (pos 0)) (if b then p else zero_fraction)
neither true p h = h refl
neither false p h = Encloses-zero one (lit< tt)

in-both : (a b : Bool) → (a && b) ≡ true → a ≡ true
in-both true b h = refl
in-both false b h = absurd (true≢false (sym h))

not-second : (a b : Bool) → (a && b) ≡ false → a ≡ true → b ≡ false
not-second true b h is = h
not-second false b h is = absurd (true≢false (sym is))

-- a figure of market risk which a cell shows
abbrev pub is_of_market : Node → Bool
is_of_market (nodes.Whole (wholes.InterestScenario direction measure)) = true
is_of_market (nodes.Whole (wholes.Picked alternatives.Interest measure)) = true
is_of_market (nodes.Whole (wholes.EquityPart kind)) = true
is_of_market (nodes.Whole wholes.EquityRoot) = true
is_of_market (nodes.Whole (wholes.NetPart risks.Equity)) = true
is_of_market (nodes.Whole (wholes.NetPart risks.Property)) = true
is_of_market (nodes.Whole (wholes.NetPart risks.Spread)) = true
is_of_market (nodes.Whole (wholes.NetPart risks.Concentration)) = true
is_of_market (nodes.Whole (wholes.Currency measure)) = true
is_of_market (nodes.Whole wholes.Property) = true
is_of_market (nodes.Whole wholes.Spread) = true
is_of_market (nodes.Whole wholes.Concentration) = true
is_of_market (nodes.Whole (wholes.Market measure)) = true
is_of_market node = false

module _ (factors : FactorValues) (sheet : BalanceSheet) (valid : Valid sheet) (figure : Node → Ends) (covering : AreCovering factors sheet figure) where
  reaches : (unit : ℕ) (node : Node) (f : Figure) → Holds unit (due factors sheet valid figure covering node) f → Holds unit (figure node) f
  reaches unit node f h = covered factors sheet valid figure covering unit node f h

  number : (unit : ℕ) (node : Node) (f : Figure) → is_whole_number node ≡ true → Holds unit (worked factors sheet node) f → Holds unit (figure node) f
  number unit node f is h = number-encloses factors sheet valid figure covering unit node f is h

  -- ---- payments
  unit-encloses : (direction : Direction) (name : List ℕ) (p : Position) → position_of name sheet.securities ≡ Some p
      → Enclosed (figure (nodes.Security name (of_securities.UnitLoss direction))) (security_unit_loss sheet direction p)
  unfolding security_unit_loss
  unit-encloses direction name p is =
      let fits = security-fits sheet valid direction p (security-known sheet valid name p is) in
      let row = covering.discounts (nodes.Security name (of_securities.UnitLoss direction)) in
      reaches one (nodes.Security name (of_securities.UnitLoss direction)) (Frac (security_unit_loss sheet direction p))
      (subst (λ (found : Option Position). Enclosed (paid_ends (option_map_or (paid_by_security sheet direction) found (nothing_paid sheet direction)) row) (security_unit_loss sheet direction p)) (sym is)
      (paid-encloses (paid_by_security sheet direction p) row (covering.losing direction name p is) fits.near fits.rates))

  own-name : (name : List ℕ) (p : Position) → position_of name sheet.securities ≡ Some p → name ≡ position_name p
  own-name name p is = same_name-is name (position_name p) (name_of-row_of position_name name sheet.securities p is)

  rate-encloses : (direction : Direction) (name : List ℕ) (p : Position) → position_of name sheet.securities ≡ Some p
      → Enclosed (figure (nodes.Security name (of_securities.Rate direction))) (security_loss sheet direction p)
  unfolding security_loss
  rate-encloses direction name p is =
      let e = figure (nodes.Security name (of_securities.UnitLoss direction)) in
      let held = security_cents sheet p in
      let share : Share = record { num = held; den = 1000000; positive = lit< tt } in
      let total : figure (nodes.Security name of_securities.Total) ≡ exact_ends (pos held) =
      number-is factors sheet valid figure covering (nodes.Security name of_securities.Total) refl ∙ security-worked factors sheet valid name (ap is_some is)
      ∙ ap (λ (n : List ℕ). exact_ends (pos (total_of sheet n))) (own-name name p is) in
      reaches one (nodes.Security name (of_securities.Rate direction)) (Frac (security_loss sheet direction p))
      (subst (λ (t : Ends). Enclosed (scaled_ends e (amount_of t)) (security_loss sheet direction p)) (sym total)
      (Encloses-share one _ _ (security_unit_loss sheet direction p) share
      (Encloses-scale one one held 1000000 e.low e.high (Frac (security_unit_loss sheet direction p)) share (lit< tt) (record { positive = lit< tt; equal = omega arith })
      (unit-encloses direction name p is))))

  cost-encloses : (direction : Direction) (name : List ℕ) (l : Liability) → liability_of name sheet.liabilities ≡ Some l
      → Enclosed (figure (nodes.Liability name (of_liabilities.Rate direction))) (liability_cost sheet direction l)
  unfolding liability_cost
  cost-encloses direction name l is =
      let fits = liability-fits sheet valid direction l (liability-known sheet valid name l is) in
      let row = covering.discounts (nodes.Liability name (of_liabilities.Rate direction)) in
      let all = paid-encloses (paid_by_liability sheet direction l) row (covering.costing direction name l is) fits.near fits.rates in
      reaches one (nodes.Liability name (of_liabilities.Rate direction)) (Frac (liability_cost sheet direction l))
      (subst (λ (found : Option Liability). Enclosed (sub_ends (exact_ends (pos 0)) (paid_ends (option_map_or (paid_by_liability sheet direction) found (nothing_paid sheet direction)) row)) (liability_cost sheet direction l))
      (sym is) (Encloses-minus one _ _ zero_fraction _ (Encloses-sub one (pos 0) (pos 0) _ _ (Frac zero_fraction) (Frac _) (Encloses-zero one (lit< tt)) all)))

  -- a security without payments loses nothing
  no-payments : (direction : Direction) (p : Position) → is_paying p ≡ false → (security_loss sheet direction p).num ≡ pos 0
  unfolding security_loss security_unit_loss payments_exact
  no-payments direction p none = by p.security.flows none
    where
      by : (flows : List (Day × ℤ)) → not (is_empty flows) ≡ false → (product (over (pos (security_cents sheet p)) 1_000_000 (lit< tt)) (interest.payments_loss sheet direction p.security.currency flows)).num ≡ pos 0
      by [] e = omega (arith, ints)
      by (flow ∷ flows) e = absurd (true≢false e)

  -- ---- what a currency loses
  rates-enclose : (direction : Direction) (currency : List ℕ) → Enclosed (sum_ends (map figure (rates_in currency direction sheet))) (interest.currency_loss sheet direction currency)
  unfolding interest.currency_loss
  rates-enclose direction currency =
      let securities = rows-enclose one (lit< tt) figure (security_rate direction) (is_paying_in currency) (is_held_in currency) (security_loss sheet direction) sheet.securities
      (All-map (λ p. position_of (position_name p) sheet.securities ≡ Some p) _ sheet.securities
      (λ p own. record {
        passes = λ e. either (same_name currency p.security.currency) _ _ (in-both (same_name currency p.security.currency) (is_paying p) e) (rate-encloses direction (position_name p) p own);
        fails = λ e. neither (same_name currency p.security.currency) _ (λ same. nothing (security_loss sheet direction p) (no-payments direction p (not-second (same_name currency p.security.currency) (is_paying p) e same)));
      }) (own-securities sheet valid)) in
      let liabilities = where-encloses figure (liability_rate direction) (is_owed_in currency) one (lit< tt) (liability_cost sheet direction) sheet.liabilities
      (All-map (λ l. liability_of (liability_name l) sheet.liabilities ≡ Some l) _ sheet.liabilities (λ l own e. cost-encloses direction (liability_name l) l own) (own-liabilities sheet valid)) in
      let xs = map (security_rate direction) (filter (is_paying_in currency) sheet.securities) in
      let ys = map (liability_rate direction) (filter (is_owed_in currency) sheet.liabilities) in
      let split : sum_ends (map figure (xs ++ ys)) ≡ add_ends (sum_ends (map figure xs)) (sum_ends (map figure ys)) = ap sum_ends (map-append figure xs ys) ∙ sum_ends-append (map figure xs) (map figure ys) in
      subst (λ (e : Ends). Enclosed e (interest.currency_loss sheet direction currency)) (sym split) (sum-encloses one (lit< tt) (sum_ends (map figure xs)) (sum_ends (map figure ys)) _ _ securities liabilities)

  lost-encloses : (direction : Direction) (currency : List ℕ) → Enclosed (figure (nodes.Currency currency (of_currencies.Loss direction))) (counted (interest.currency_loss sheet direction currency))
  lost-encloses direction currency =
      reaches one (nodes.Currency currency (of_currencies.Loss direction)) (Frac (counted (interest.currency_loss sheet direction currency)))
      (counted-encloses (sum_ends (map figure (rates_in currency direction sheet))) (interest.currency_loss sheet direction currency) (rates-enclose direction currency))

  losses-enclose : (direction : Direction) (curves : List Curve) → EncloseLosses (map figure (map (currency_loss direction) curves)) (map (λ (c : Curve). interest.currency_loss sheet direction c.currency) curves)
  losses-enclose direction [] = tt
  losses-enclose direction (c ∷ curves) = (lost-encloses direction c.currency, losses-enclose direction curves)

  -- ---- the scenarios and the one that decides
  gross-encloses : (direction : Direction) → Holds 1000 (figure (nodes.Whole (wholes.InterestScenario direction measures.Gross))) (Frac (gross_exact (losses sheet direction)))
  gross-encloses direction =
      reaches 1000 (nodes.Whole (wholes.InterestScenario direction measures.Gross)) (Frac (gross_exact (losses sheet direction)))
      (costs.gross_encloses (map figure (map (currency_loss direction) sheet.curves)) (losses sheet direction) (losses-enclose direction sheet.curves))

  absorb-is : (direction : Direction) → Holds 1000 (net_ends (figure (nodes.Whole (wholes.InterestScenario direction measures.Gross))) (absorbed (interest_key direction) sheet.numbers)) (Frac (scenario_of sheet direction).net)
  unfolding scenario_of
  absorb-is directions.Up =
      let e = figure (nodes.Whole (wholes.InterestScenario directions.Up measures.Gross)) in
      Encloses-net_exact 1000 _ _ (gross_exact (losses sheet directions.Up)) (up_absorption sheet) (Encloses-net e (up_absorption sheet) (Frac (gross_exact (losses sheet directions.Up))) (gross-encloses directions.Up))
  absorb-is directions.Down =
      let e = figure (nodes.Whole (wholes.InterestScenario directions.Down measures.Gross)) in
      Encloses-net_exact 1000 _ _ (gross_exact (losses sheet directions.Down)) (down_absorption sheet) (Encloses-net e (down_absorption sheet) (Frac (gross_exact (losses sheet directions.Down))) (gross-encloses directions.Down))

  scenario-gross : (direction : Direction) → Holds 1000 (figure (nodes.Whole (wholes.InterestScenario direction measures.Gross))) (Frac (scenario_of sheet direction).gross)
  unfolding scenario_of
  scenario-gross directions.Up = gross-encloses directions.Up
  scenario-gross directions.Down = gross-encloses directions.Down

  scenario-encloses : (direction : Direction) → EncloseOutcome 1000 (alternative_of figure (λ measure. nodes.Whole (wholes.InterestScenario direction measure))) (scenario_of sheet direction)
  scenario-encloses direction = record {
    gross = scenario-gross direction;
    net = reaches 1000 (nodes.Whole (wholes.InterestScenario direction measures.Net)) (Frac (scenario_of sheet direction).net) (absorb-is direction);
  }

  abbrev rise_and_fall : List Alternative
  rise_and_fall = interest_alternatives figure

  abbrev pub outcomes : List Outcome
  outcomes = scenario_of sheet directions.Up ∷ scenario_of sheet directions.Down ∷ []

  pub both-enclose : EncloseOutcomes 1000 rise_and_fall outcomes
  both-enclose = (scenario-encloses directions.Up, (scenario-encloses directions.Down, tt))

  decisive-is : decisive_outcome sheet ≡ outcome_at outcomes (chosen outcomes)
  unfolding decisive_outcome scenario_of
  decisive-is = refl

  picked-encloses : (measure : Measure) → Holds 1000 (figure (nodes.Whole (wholes.Picked alternatives.Interest measure))) (Frac (measured measure (decisive_outcome sheet)))
  picked-encloses measures.Gross =
      reaches 1000 (nodes.Whole (wholes.Picked alternatives.Interest measures.Gross)) (Frac (decisive_outcome sheet).gross)
      (rw decisive-is (gross_encloses 1000 rise_and_fall outcomes (chosen outcomes) both-enclose (chosen-is outcomes (lit< tt))))
  picked-encloses measures.Net =
      reaches 1000 (nodes.Whole (wholes.Picked alternatives.Interest measures.Net)) (Frac (decisive_outcome sheet).net)
      (rw decisive-is (net_encloses 1000 rise_and_fall outcomes (chosen outcomes) both-enclose (chosen-is outcomes (lit< tt))))

  -- the mask of the choice has the bit of the one that decides by the exact requirements
  pub choice-has-decisive : IsBitSet (amount_of (figure (nodes.Whole (wholes.Choice alternatives.Interest)))) (chosen outcomes)
  choice-has-decisive =
      subst (λ (e : Ends). IsBitSet (or_zero e.low) (chosen outcomes)) (sym (covering.choices (nodes.Whole (wholes.Choice alternatives.Interest)) refl))
      ((mask_bits rise_and_fall (chosen outcomes) (chosen-is outcomes (lit< tt)).listed).1
      (chosen_unbeaten 1000 rise_and_fall outcomes (chosen outcomes) both-enclose (chosen-is outcomes (lit< tt))))

  -- and one or both bits, since the ends of what encloses a figure are in order
  interest-mask : IsMaskOfTwo (amount_of (figure (nodes.Whole (wholes.Choice alternatives.Interest))))
  interest-mask =
      subst (λ (e : Ends). IsMaskOfTwo (or_zero e.low)) (sym (covering.choices (nodes.Whole (wholes.Choice alternatives.Interest)) refl))
      (mask-of-two _ _ (orders directions.Up) (orders directions.Down))
    where
      orders : (direction : Direction) → AreOrdered (alternative_of figure (λ measure. nodes.Whole (wholes.InterestScenario direction measure)))
      orders direction = record {
        gross = enclosing-in_order 1000 _ _ _ (scenario-encloses direction).gross;
        net = enclosing-in_order 1000 _ _ _ (scenario-encloses direction).net;
      }

  -- ---- equities
  part-encloses : (kind : Equities) → Holds 1000 (part_ends sheet kind) (equities_exact sheet kind)
  part-encloses equities.Type1 = type1-encloses (class_total classes.Type1Equity sheet) (class_total classes.Type1Strategic sheet) sheet.numbers.sym
  part-encloses equities.Type2 = type2-encloses (class_total classes.Type2Equity sheet) (class_total classes.Type2Strategic sheet) sheet.numbers.sym
  part-encloses equities.Infrastructure = infra-encloses (class_total classes.Infrastructure sheet) sheet.numbers.sym
  part-encloses equities.InfrastructureCorporate = infracorp-encloses (class_total classes.InfrastructureCorporate sheet) sheet.numbers.sym

  equities-enclose : (kind : Equities) → Holds 1000 (figure (nodes.Whole (wholes.EquityPart kind))) (equities_exact sheet kind)
  equities-enclose kind =
      leaf-encloses factors sheet valid figure covering 1000 (nodes.Whole (wholes.EquityPart kind)) (equities_exact sheet kind) refl
      (subst (λ (e : Ends). Holds 1000 e (equities_exact sheet kind)) (sym (part-worked factors sheet valid kind)) (part-encloses kind))

  -- ---- whole cents
  cents-enclose : (e : Ends) (n : ℕ) → e ≡ exact_ends (pos n) → Holds 1 e (Frac (whole (pos n)))
  cents-enclose e n is = subst (λ (f : Ends). Holds 1 f (Frac (whole (pos n)))) (sym is) (Encloses-exact 1 (pos n) (whole (pos n)) (record { positive = lit< tt; equal = refl }))

  -- what the alternatives of each choice come to
  pub outcomes-enclosed : EncloseAlternatives figure (exact_outcomes sheet)
  outcomes-enclosed = record {
    interest = both-enclose;
    change = changes-enclose factors sheet valid figure covering;
    lapses = life.lapses-enclose factors sheet valid figure covering;
    variance = defaults.variance-holds factors sheet valid figure covering;
  }

  -- ---- where no part of a root of market risk is below 0
  module _ (least : AreNotNegative is_part_of_market figure) where
    equity-encloses : Holds 1000 (figure (nodes.Whole wholes.EquityRoot)) (equity_exact sheet)
    unfolding equity_exact
    equity-encloses =
        let a = figure (nodes.Whole (wholes.EquityPart equities.Type1)) in
        let b = figure (nodes.Whole (wholes.EquityPart equities.Type2)) in
        let c = figure (nodes.Whole (wholes.EquityPart equities.Infrastructure)) in
        let d = figure (nodes.Whole (wholes.EquityPart equities.InfrastructureCorporate)) in
        let others = add_ends (add_ends b c) d in
        let two = Encloses-add 1000 b.low b.high c.low c.high _ _ (equities-enclose equities.Type2) (equities-enclose equities.Infrastructure) in
        let three = Encloses-add 1000 (add_ends b c).low (add_ends b c).high d.low d.high _ _ two (equities-enclose equities.InfrastructureCorporate) in
        reaches 1000 (nodes.Whole wholes.EquityRoot) (equity_exact sheet)
        (root-encloses a others _ _ (low equities.Type1) (all_low b.low c.low d.low (low equities.Type2) (low equities.Infrastructure) (low equities.InfrastructureCorporate)) (equities-enclose equities.Type1) three)
      where
        low : (kind : Equities) → pos 0 ≤ℤ (figure (nodes.Whole (wholes.EquityPart kind))).low
        low kind = least (nodes.Whole (wholes.EquityPart kind)) refl

        all_low : (x y z : ℤ) → pos 0 ≤ℤ x → pos 0 ≤ℤ y → pos 0 ≤ℤ z → pos 0 ≤ℤ ((x +ℤ y) +ℤ z)
        all_low x y z h k l = omega (arith, ints, h, k, l)

    equity-net : Holds 1000 (figure (nodes.Whole (wholes.NetPart risks.Equity))) (net_figure (equity_exact sheet) (absorbed (risk_key risks.Equity) sheet.numbers))
    equity-net =
        reaches 1000 (nodes.Whole (wholes.NetPart risks.Equity)) (net_figure (equity_exact sheet) (absorbed (risk_key risks.Equity) sheet.numbers))
        (Encloses-net (figure (nodes.Whole wholes.EquityRoot)) (absorbed (risk_key risks.Equity) sheet.numbers) (equity_exact sheet) equity-encloses)

    -- ---- the market risk module
    market-encloses : (measure : Measure) → Holds 1000 (figure (nodes.Whole (wholes.Market measure))) (market_exact factors sheet measure)
    unfolding market_exact
    market-encloses measure =
        market-enclosed factors sheet valid figure covering least measure (Frac (measured measure (decisive_outcome sheet))) (equity_exact sheet) (chosen outcomes) (chosen-is outcomes (lit< tt)).listed interest-mask
        (picked-encloses measure) equity-encloses choice-has-decisive

    -- ---- the figures of market risk, which hold for all factors

    pub market-node-encloses : (node : Node) → is_of_market node ≡ true → (f : Figure) → exact factors sheet node ≡ Some f → Holds (unit_of node) (figure node) f
    market-node-encloses (nodes.Whole (wholes.InterestScenario direction measures.Gross)) of f is = told 1000 _ _ f is (scenario-encloses direction).gross
    market-node-encloses (nodes.Whole (wholes.InterestScenario direction measures.Net)) of f is = told 1000 _ _ f is (scenario-encloses direction).net
    market-node-encloses (nodes.Whole (wholes.Picked alternatives.Interest measure)) of f is = told 1000 _ _ f is (picked-encloses measure)
    market-node-encloses (nodes.Whole (wholes.EquityPart kind)) of f is = told 1000 _ _ f is (equities-enclose kind)
    market-node-encloses (nodes.Whole wholes.EquityRoot) of f is = told 1000 _ _ f is equity-encloses
    market-node-encloses (nodes.Whole (wholes.NetPart risks.Equity)) of f is = told 1000 _ _ f is equity-net
    market-node-encloses (nodes.Whole (wholes.NetPart risks.Property)) of f is = told 1000 _ _ f is (net-enclosed factors sheet valid figure covering risks.Property _ (property-enclosed factors sheet valid figure covering))
    market-node-encloses (nodes.Whole (wholes.NetPart risks.Spread)) of f is = told 1000 _ _ f is (net-enclosed factors sheet valid figure covering risks.Spread _ (spread-enclosed factors sheet valid figure covering))
    market-node-encloses (nodes.Whole (wholes.NetPart risks.Concentration)) of f is = told 1000 _ _ f is (net-enclosed factors sheet valid figure covering risks.Concentration _ (concentration-enclosed factors sheet valid figure covering))
    market-node-encloses (nodes.Whole (wholes.Currency measure)) of f is = told 1000 _ _ f is (currency-encloses factors sheet valid figure covering measure)
    market-node-encloses (nodes.Whole wholes.Property) of f is = told 1000 _ _ f is (property-enclosed factors sheet valid figure covering)
    market-node-encloses (nodes.Whole wholes.Spread) of f is = told 1000 _ _ f is (spread-enclosed factors sheet valid figure covering)
    market-node-encloses (nodes.Whole wholes.Concentration) of f is = told 1000 _ _ f is (concentration-enclosed factors sheet valid figure covering)
    market-node-encloses (nodes.Whole (wholes.Market measure)) of f is = told 1000 _ _ f is (market-encloses measure)
    market-node-encloses node of f is = absurd (cc)

-- ---- every live node with a figure, where the factors are in form
module _ (factors : FactorValues) (known : IsInForm factors) (sheet : BalanceSheet) (valid : Valid sheet) (figure : Node → Ends) (covering : AreCovering factors sheet figure)
    (least_of_market : AreNotNegative is_part_of_market figure) (least : AreNotNegative is_part_of_modules figure) where
  -- the modules that stand in files of their own
  default-encloses : (measure : Measure) → Holds 1000 (figure (risk_part risks.Default measure)) (absorbed_part sheet measure risks.Default (default_exact sheet))
  default-encloses measures.Gross = defaults.default-node-encloses factors sheet valid figure covering least (default_exact sheet) refl
  default-encloses measures.Net = defaults.net-node-encloses factors sheet valid figure covering least (net_figure (default_exact sheet) (absorbed (risk_key risks.Default) sheet.numbers)) refl

  others-enclosed : loss.AreOthersEnclosed factors sheet figure
  others-enclosed = record {
    market_holds = market-encloses factors sheet valid figure covering least_of_market;
    default_holds = default-encloses;
    life_holds = λ (measure : Measure). life.life-encloses factors sheet valid figure covering least measure (life_exact sheet measure) refl;
    slt_holds = λ (measure : Measure). life.slt-encloses factors sheet valid figure covering least measure (slt_exact sheet measure) refl;
  }

  whole_cents : (node : Node) (n : ℕ) → is_whole_number node ≡ true → worked factors sheet node ≡ exact_ends (pos n) → Holds 1 (figure node) (Frac (whole (pos n)))
  whole_cents node n of is = cents-enclose factors sheet valid figure covering (figure node) n (number-is factors sheet valid figure covering node of ∙ is)

  pub node-encloses : (node : Node) → is_live sheet node ≡ true → (f : Figure) → exact factors sheet node ≡ Some f → Holds (unit_of node) (figure node) f
  node-encloses (nodes.Fund name of_funds.Total) live f is = told 1 _ _ f is (whole_cents (nodes.Fund name of_funds.Total) _ refl (fund-worked factors sheet valid name live))
  node-encloses (nodes.Security name of_securities.Total) live f is = told 1 _ _ f is (whole_cents (nodes.Security name of_securities.Total) _ refl (security-worked factors sheet valid name live))
  node-encloses (nodes.Security name (of_securities.UnitLoss direction)) live f is =
      let p = position-there (position_of name sheet.securities) live in
      told one _ _ f (ap (λ found. Some (Frac (option_map_or (security_unit_loss sheet direction) found zero_fraction))) (sym p.1) ∙ is) (unit-encloses factors sheet valid figure covering direction name p.0 p.1)
  node-encloses (nodes.Security name (of_securities.Rate direction)) live f is =
      let p = position-there (position_of name sheet.securities) live in
      told one _ _ f (ap (λ found. Some (Frac (option_map_or (security_loss sheet direction) found zero_fraction))) (sym p.1) ∙ is) (rate-encloses factors sheet valid figure covering direction name p.0 p.1)
  node-encloses (nodes.Liability name (of_liabilities.Rate direction)) live f is =
      let l = row-there liability_name name sheet.liabilities live in
      told one _ _ f (ap (λ found. Some (Frac (option_map_or (liability_cost sheet direction) found zero_fraction))) (sym l.1) ∙ is) (cost-encloses factors sheet valid figure covering direction name l.0 l.1)
  node-encloses (nodes.Currency currency (of_currencies.Loss direction)) live f is = told one _ _ f is (lost-encloses factors sheet valid figure covering direction currency)
  node-encloses (nodes.Whole (wholes.InterestScenario direction measures.Gross)) live f is = market-node-encloses factors sheet valid figure covering least_of_market (nodes.Whole (wholes.InterestScenario direction measures.Gross)) refl f is
  node-encloses (nodes.Whole (wholes.Choice which)) live f is = absurd (let clash : None ≡ Some f = is in cc)
  node-encloses (nodes.Whole (wholes.ClassSum class)) live f is = told 1 _ _ f is (whole_cents (nodes.Whole (wholes.ClassSum class)) _ refl (class-worked factors sheet valid class))
  node-encloses (nodes.Liability name of_liabilities.Present) live f is =
      let l = row-there liability_name name sheet.liabilities live in
      told one _ _ f (ap (λ found. Some (Frac (option_map_or (liability_worth sheet) found zero_fraction))) (sym l.1) ∙ is) (present-encloses factors sheet valid figure covering name l.0 l.1)
  node-encloses (nodes.Currency currency (of_currencies.Scenario direction measure)) live f is = told 1000 _ _ f is (change-encloses factors sheet valid figure covering direction measure currency)
  node-encloses (nodes.Currency currency of_currencies.Choice) live f is = absurd (let clash : None ≡ Some f = is in cc)
  node-encloses (nodes.Currency currency (of_currencies.Picked measure)) live f is = told 1000 _ _ f is (change-picked-encloses factors sheet valid figure covering measure currency)
  node-encloses (nodes.Security name of_securities.Spread) live f is =
      let p = bond-there (position_of name sheet.securities) live in
      told 1_000_000_000 _ _ f (ap (λ found. Some (Frac (option_map_or (bond_exact factors sheet) found zero_fraction))) (sym p.1) ∙ is) (bond-enclosed factors sheet valid figure covering name p.0 p.1)
  node-encloses (nodes.Group name of_groups.Total) live f is = told 1 _ _ f is (whole_cents (nodes.Group name of_groups.Total) _ refl (group-worked factors sheet valid name))
  node-encloses (nodes.Whole wholes.Assets) live f is = told 1 _ _ f is (whole_cents (nodes.Whole wholes.Assets) _ refl (assets-worked factors sheet valid))
  node-encloses (nodes.Group name of_groups.ConcentrationSquare) live f is =
      let g = row-there group_name name sheet.groups live in
      told 10_000_000_000 _ _ f (ap (λ found. Some (Frac (option_map_or (group_square_exact sheet) found zero_fraction))) (sym g.1) ∙ is) (square-enclosed factors sheet valid figure covering name g.0 g.1)
  node-encloses (nodes.Liability name (of_liabilities.Loss projection)) live f is = life.liability-encloses factors sheet valid figure covering name projection live f is
  node-encloses (nodes.Whole (wholes.BioScenario biometric projection measure)) live f is = life.scenario-encloses factors sheet valid figure covering biometric projection measure f is
  node-encloses (nodes.Whole (wholes.Picked alternatives.LifeLapse measure)) live f is = life.life_picked-encloses factors sheet valid figure covering measure f is
  node-encloses (nodes.Whole (wholes.Picked alternatives.HealthLapse measure)) live f is = life.health_picked-encloses factors sheet valid figure covering measure f is
  node-encloses (nodes.Whole (wholes.Life measure)) live f is = life.life-encloses factors sheet valid figure covering least measure f is
  node-encloses (nodes.Whole (wholes.Slt measure)) live f is = life.slt-encloses factors sheet valid figure covering least measure f is
  node-encloses (nodes.Group name of_groups.Loss) live f is = defaults.group-encloses factors sheet valid figure covering name f is
  node-encloses (nodes.Whole (wholes.ClassLoss class)) live f is = defaults.class-encloses factors sheet valid figure covering class f is
  node-encloses (nodes.Whole (wholes.ClassSquare class)) live f is = defaults.square-encloses factors sheet valid figure covering class f is
  node-encloses (nodes.Whole wholes.Variance) live f is = defaults.variance-node-encloses factors sheet valid figure covering f is
  node-encloses (nodes.Whole wholes.DefaultBand) live f is = absurd (let clash : None ≡ Some f = is in cc)
  node-encloses (nodes.Whole wholes.DefaultType1) live f is = defaults.type1-node-encloses factors sheet valid figure covering f is
  node-encloses (nodes.Whole wholes.DefaultType2) live f is = defaults.type2-node-encloses factors sheet valid figure covering f is
  node-encloses (nodes.Whole wholes.Default) live f is = defaults.default-node-encloses factors sheet valid figure covering least f is
  node-encloses (nodes.Whole (wholes.NetPart risks.Default)) live f is = defaults.net-node-encloses factors sheet valid figure covering least f is
  node-encloses (nodes.Whole (wholes.NetPart risks.HealthCatastrophe)) live f is = told 1000 _ _ f is (nonlife.health_catastrophe-holds factors known sheet valid figure covering least measures.Net)
  node-encloses (nodes.Whole (wholes.Segment segment)) live f is = told 1000 _ _ f is (nonlife.segment-holds factors known sheet valid figure covering least segment)
  node-encloses (nodes.Whole (wholes.PremiumReserve set)) live f is = told 1000 _ _ f is (nonlife.premium_reserve-holds factors known sheet valid figure covering least set)
  node-encloses (nodes.Whole (wholes.CatCharge key)) live f is = told 1000 _ _ f is (nonlife.charge-encloses factors known sheet valid figure covering least key)
  node-encloses (nodes.Whole (wholes.Lapse set)) live f is = told 1000 _ _ f is (nonlife.lapse-encloses factors known sheet valid figure covering least set)
  node-encloses (nodes.Whole wholes.Natural) live f is = told 1000 _ _ f is (nonlife.natural-holds factors known sheet valid figure covering least)
  node-encloses (nodes.Whole wholes.ManMade) live f is = told 1000 _ _ f is (nonlife.man_made-holds factors known sheet valid figure covering least)
  node-encloses (nodes.Whole wholes.NonlifeCatastrophe) live f is = told 1000 _ _ f is (nonlife.catastrophe-holds factors known sheet valid figure covering least)
  node-encloses (nodes.Whole wholes.HealthCatastrophe) live f is = told 1000 _ _ f is (nonlife.health_catastrophe-holds factors known sheet valid figure covering least measures.Gross)
  node-encloses (nodes.Whole (wholes.Nslt measure)) live f is = told 1000 _ _ f is (nonlife.nslt-holds factors known sheet valid figure covering least measure)
  node-encloses (nodes.Whole (wholes.Health measure)) live f is =
      told 1000 _ _ f is (loss.module-health-holds factors known sheet valid figure covering least others-enclosed measure)
  node-encloses (nodes.Whole (wholes.Nonlife measure)) live f is = told 1000 _ _ f is (nonlife.nonlife-holds factors known sheet valid figure covering least measure)
  node-encloses (nodes.Whole wholes.Intangible) live f is = told 1000 _ _ f is (loss.intangible-holds factors known sheet valid figure covering least)
  node-encloses (nodes.Whole (wholes.Bscr measure)) live f is =
      told 1000 _ _ f is (loss.bscr-holds factors known sheet valid figure covering least others-enclosed measure)
  node-encloses (nodes.Whole (wholes.OpPart part)) live f is =
      told 1000 _ _ f is (loss.operational-holds factors known sheet valid figure covering least others-enclosed part)
  node-encloses (nodes.Whole (wholes.Adjust adjustment)) live f is =
      told 1000 _ _ f is (loss.adjustment-holds factors known sheet valid figure covering least others-enclosed adjustment)
  node-encloses (nodes.Whole wholes.Scr) live f is =
      told 1000 _ _ f is (loss.scr-holds factors known sheet valid figure covering least others-enclosed)
  node-encloses (nodes.Whole wholes.Diversification) live f is =
      told 1000 _ _ f is (loss.diversification-holds factors known sheet valid figure covering least others-enclosed)
  node-encloses node live f is = market-node-encloses factors sheet valid figure covering least_of_market node refl f is
