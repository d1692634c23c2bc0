-- A choice that is left open is one between alternatives that are near, and a figure that rests on an open choice rests on
-- such a one.
use Rattle.std.proofs.Common.{◌≡◌, ℕ, zero, suc, ◌+◌, ◌*◌, ◌≤◌, Bool, true, false, ◌||◌, ◌⊎◌, inl, inr, List, [], ◌∷◌, length, map, nat_le, refl, sym, subst, arith}
use Rattle.std.specs.Prelude.{Any}
use Rattle.std.specs.Int.RustNames.{count_ones}
use Rattle.std.specs.List.{AllByRecursion, list_any}
use Rattle.std.proofs.lemmas.Bool.{true≢false}
use Rattle.std.proofs.lemmas.Bool.Decides.{nat_tests}
use Rattle.scr_num.specs.Figure.{Frac}
use Rattle.scr_num.specs.Narrow.{IsNarrow}
use Rattle.scr_num.specs.Rounding.{Ends, root_ends}
use Rattle.scr_num.proofs.Enclosing.{Encloses-root_of}
use Rattle.scr_agg.specs.Choice.{Outcome}
use Rattle.scr_agg.specs.Nearness.{HasOpen}
use Rattle.scr_agg.specs.Unbeaten.{Alternative, EncloseOutcomes, HasSeveral, mask_of}
use Rattle.scr_agg.proofs.Bits.{several_bits}
use Rattle.scr_agg.proofs.ChoiceWidths.{open_choice}
use Rattle.scr_default.specs.Type1Ends.{type1_mask}
use Rattle.scr_default.proofs.Widths.{narrow-deviation, type1-near}
use Rattle.scr_factors.specs.Values.{FactorValues}
use Rattle.scr_nodes.specs.Reckoned.{reckoned, reckoned_within}
use Rattle.scr_nodes.specs.Sources.{sources_of}
use Rattle.scr_nodes.specs.declared.node.Alternatives.TheVariants as alternatives
use Rattle.scr_nodes.specs.declared.node.Biometric.{Biometric}
use Rattle.scr_nodes.specs.declared.node.Biometric.TheVariants as biometrics
use Rattle.scr_nodes.specs.declared.node.Node.{Node}
use Rattle.scr_nodes.specs.declared.node.Node.TheVariants as nodes
use Rattle.scr_nodes.specs.declared.node.OfCurrency.TheVariants as of_currencies
use Rattle.scr_nodes.specs.declared.node.Whole.TheVariants as wholes
use Rattle.scr_sheet.specs.Validity.{Valid}
use Rattle.scr_sheet.specs.declared.sheet.BalanceSheet.{BalanceSheet}
use Rattle.scr_rules.specs.Alternatives.{EncloseAlternatives, Outcomes, currency_alternatives, interest_alternatives, lapse_alternatives}
use Rattle.scr_rules.specs.Close.{close_under, is_open, is_open_choice}
use Rattle.scr_rules.specs.DefaultGrains.{total_grains}
use Rattle.scr_rules.specs.Rules.{amount_of}
use Rattle.scr_rules.specs.Worked.{worked}
use Rattle.scr_rules.proofs.DefaultSizes.{band-is, variance-amount}
use Rattle.scr_rules.proofs.Equations.{worked-equation}
use Rattle.scr_widths.specs.Choices.{HasNearBands, IsNearChoice, RestsOnNearChoice, RestsWithin, gap_width}
use Rattle.scr_widths.specs.Widths.{payments_width, scale_of}
use Rattle.scr_widths.proofs.CurrencyWidths.{near-gross, near-net}
use Rattle.scr_widths.proofs.DefaultWidths.{variance-narrow}
use Rattle.scr_widths.proofs.InterestWidths.{alternatives-gross, alternatives-net}
use Rattle.scr_widths.proofs.LifeWidths.{lapses-gross, lapses-net}

-- a mask that is open has two bits
two-bits : (n : ℕ) → nat_le 2 n ≡ true → 2 ≤ n
two-bits n e = grind (arith, nat_tests)

several-in : (mask : Ends) → is_open mask ≡ true → HasSeveral (amount_of mask)
several-in mask e = two-bits (count_ones (amount_of mask)) e

-- alternatives whose mask is open have two that are within twice their width
near-of : (w gap : ℕ) (list : List Alternative) (outcomes : List Outcome) → w + w ≡ gap → EncloseOutcomes 1000 list outcomes
    → AllByRecursion (λ a. IsNarrow w a.gross) list → AllByRecursion (λ a. IsNarrow w a.net) list → HasSeveral (mask_of list)
    → HasOpen 1000 gap list outcomes
near-of w gap list outcomes twice enclosed grosses nets several =
    subst (λ g. HasOpen 1000 g list outcomes) twice
    (open_choice 1000 w list outcomes enclosed grosses nets ((several_bits list).0 several))

or_either : (a b : Bool) → (a || b) ≡ true → (a ≡ true) ⊎ (b ≡ true)
or_either true b e = inl refl
or_either false b e = inr e

-- one of the list has it
any-true : (test : Node → Bool) (P : Node → Type 0) → ((n : Node) → test n ≡ true → P n) → (list : List Node)
    → list_any (λ b. b) (map test list) ≡ true → Any P list
any-true test P step [] e = absurd (true≢false (sym e))
any-true test P step (n ∷ list) e = elim (or_either (test n) (list_any (λ b. b) (map test list)) e) [
  | inl here ↦ (0, n, omega arith, refl, step n here)
  | inr later ↦
      let found = any-true test P step list later in
      (suc found.0, found.1, omega (arith, found.2), found.3, found.4)
]

module _ (factors : FactorValues) (sheet : BalanceSheet) (valid : Valid sheet) (outcomes : Outcomes) (enclosed : EncloseAlternatives (worked factors sheet) outcomes) where
  abbrev figure : Node → Ends
  figure node = worked factors sheet node

  twice-payments : payments_width (scale_of sheet) + payments_width (scale_of sheet) ≡ gap_width sheet
  twice-payments = by (scale_of sheet).multiple
    where
      by : (m : ℕ) → 16 * m + 16 * m ≡ 32 * m
      by m = omega arith

  interest-near : is_open (figure (nodes.Whole (wholes.Choice alternatives.Interest))) ≡ true
      → HasOpen 1000 (gap_width sheet) (interest_alternatives figure) outcomes.interest
  interest-near e =
      near-of (payments_width (scale_of sheet)) (gap_width sheet) (interest_alternatives figure) outcomes.interest twice-payments
      enclosed.interest (alternatives-gross factors sheet valid) (alternatives-net factors sheet valid)
      (subst (λ (mask : Ends). HasSeveral (amount_of mask)) (worked-equation factors sheet valid (nodes.Whole (wholes.Choice alternatives.Interest)))
      (several-in (figure (nodes.Whole (wholes.Choice alternatives.Interest))) e))

  currency-near : (currency : List ℕ) → is_open (figure (nodes.Currency currency of_currencies.Choice)) ≡ true
      → HasOpen 1000 (gap_width sheet) (currency_alternatives figure currency) (outcomes.change currency)
  currency-near currency e =
      near-of (payments_width (scale_of sheet)) (gap_width sheet) (currency_alternatives figure currency) (outcomes.change currency) twice-payments
      (enclosed.change currency) (near-gross factors sheet valid currency) (near-net factors sheet valid currency)
      (subst (λ (mask : Ends). HasSeveral (amount_of mask)) (worked-equation factors sheet valid (nodes.Currency currency of_currencies.Choice))
      (several-in (figure (nodes.Currency currency of_currencies.Choice)) e))

  lapses-near : (biometric : Biometric) → HasSeveral (mask_of (lapse_alternatives figure biometric))
      → HasOpen 1000 (gap_width sheet) (lapse_alternatives figure biometric) (outcomes.lapses biometric)
  lapses-near biometric several =
      near-of (payments_width (scale_of sheet)) (gap_width sheet) (lapse_alternatives figure biometric) (outcomes.lapses biometric) twice-payments
      (enclosed.lapses biometric) (lapses-gross factors sheet valid biometric) (lapses-net factors sheet valid biometric) several

  life-several : is_open (figure (nodes.Whole (wholes.Choice alternatives.LifeLapse))) ≡ true → HasSeveral (mask_of (lapse_alternatives figure biometrics.Life))
  life-several e =
      subst (λ (mask : Ends). HasSeveral (amount_of mask)) (worked-equation factors sheet valid (nodes.Whole (wholes.Choice alternatives.LifeLapse)))
      (several-in (figure (nodes.Whole (wholes.Choice alternatives.LifeLapse))) e)

  health-several : is_open (figure (nodes.Whole (wholes.Choice alternatives.HealthLapse))) ≡ true → HasSeveral (mask_of (lapse_alternatives figure biometrics.Health))
  health-several e =
      subst (λ (mask : Ends). HasSeveral (amount_of mask)) (worked-equation factors sheet valid (nodes.Whole (wholes.Choice alternatives.HealthLapse)))
      (several-in (figure (nodes.Whole (wholes.Choice alternatives.HealthLapse))) e)

  bands-near : is_open (figure (nodes.Whole wholes.DefaultBand)) ≡ true → HasNearBands sheet outcomes.variance
  bands-near e =
      let variance = figure (nodes.Whole wholes.Variance) in
      let amount = variance-amount factors sheet valid in
      let several : HasSeveral (type1_mask (total_grains sheet) variance) =
      subst (λ (mask : Ends). HasSeveral (amount_of mask)) (band-is factors sheet valid) (several-in (figure (nodes.Whole wholes.DefaultBand)) e) in
      record {
        deviation = root_ends variance;
        encloses = Encloses-root_of 1000 variance.low variance.high (Frac outcomes.variance) enclosed.variance;
        narrow = narrow-deviation variance amount.not_negative (variance-narrow factors sheet valid);
        between = (type1-near (total_grains sheet) variance amount.not_negative (variance-narrow factors sheet valid) several).0;
      }

  pub choice-near : (node : Node) → is_open_choice factors sheet node ≡ true → IsNearChoice factors sheet outcomes node
  choice-near (nodes.Whole (wholes.Choice alternatives.Interest)) e = interest-near e
  choice-near (nodes.Whole (wholes.Choice alternatives.LifeLapse)) e = lapses-near biometrics.Life (life-several e)
  choice-near (nodes.Whole (wholes.Choice alternatives.HealthLapse)) e = lapses-near biometrics.Health (health-several e)
  choice-near (nodes.Currency currency of_currencies.Choice) e = currency-near currency e
  choice-near (nodes.Whole wholes.DefaultBand) e = bands-near e
  choice-near node e = absurd (true≢false (sym e))

  -- ---- under a figure
  abbrev closes : Node → List Bool → Bool
  closes node below = is_open_choice factors sheet node || list_any (λ b. b) below

  rests : (steps : ℕ) (node : Node) → reckoned_within false closes sheet steps node ≡ true → RestsWithin factors sheet outcomes steps node
  unfolding reckoned_within
  rests zero node e = absurd (true≢false (sym e))
  rests (suc steps) node e =
      elim (or_either (is_open_choice factors sheet node) (list_any (λ b. b) (map (reckoned_within false closes sheet steps) (sources_of sheet node))) e) [
        | inl here ↦ inl (choice-near node here)
        | inr below ↦ inr (any-true (reckoned_within false closes sheet steps) (RestsWithin factors sheet outcomes steps) (rests steps) (sources_of sheet node) below)
      ]

  pub rests-near : (node : Node) → close_under factors sheet node ≡ true → RestsOnNearChoice factors sheet outcomes node
  unfolding close_under reckoned
  rests-near node e = record { steps = length sheet.funds + 200; there = rests (length sheet.funds + 200) node e }
