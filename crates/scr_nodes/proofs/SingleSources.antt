-- No figure is a source of another twice.
use Rattle.std.proofs.Common.{◌≡◌, ◌⊎◌, inl, inr, ℕ, Bool, true, List, [], ◌∷◌, map, filter, refl}
use Rattle.scr_funds.proofs.Members.{IsMember}
use Rattle.scr_profile.specs.declared.default_class.DefaultClass.{DefaultClass}
use Rattle.scr_profile.specs.declared.set.Set.TheVariants as sets
use Rattle.scr_sheet.specs.BalanceSheet.{group_name, position_name, liability_name, stake_name, curve_name}
use Rattle.scr_sheet.specs.declared.{sheet.BalanceSheet.BalanceSheet, rows.Class.Class, rows.Liability.Liability, rows.Position.Position, rows.Stake.Stake}
use Rattle.scr_sheet.specs.declared.rows.Class.TheVariants as classes
use Rattle.scr_sheet.specs.Validity.{Valid}
use Rattle.scr_sheet.proofs.Holds.{distinct-securities, distinct-funds}
use Rattle.scr_nodes.specs.declared.node.Adjustment.TheVariants as adjustments
use Rattle.scr_nodes.specs.declared.node.Alternatives.TheVariants as alternatives
use Rattle.scr_nodes.specs.declared.{node.Direction.Direction, node.Node.Node}
use Rattle.scr_nodes.specs.declared.node.Equities.TheVariants as equities
use Rattle.scr_nodes.specs.declared.node.Measure.TheVariants.{Gross}
use Rattle.scr_nodes.specs.declared.node.Node.TheVariants as nodes
use Rattle.scr_nodes.specs.declared.node.OfFund.TheVariants as of_funds
use Rattle.scr_nodes.specs.declared.node.OfSecurity.TheVariants as of_securities
use Rattle.scr_nodes.specs.declared.node.OfLiability.TheVariants as of_liabilities
use Rattle.scr_nodes.specs.declared.node.OfCurrency.TheVariants as of_currencies
use Rattle.scr_nodes.specs.declared.node.OfGroup.TheVariants as of_groups
use Rattle.scr_nodes.specs.declared.node.Whole.TheVariants as wholes
use Rattle.scr_nodes.specs.declared.node.Operational.TheVariants as operations
use Rattle.scr_nodes.specs.LiveNodes.{HasNoRepeats}
use Rattle.scr_nodes.specs.Rows.{holds, is_closed, is_paying_in, is_owed_in, has_class, is_held_in, is_foreign, is_of_group, has_group, is_of_default_class, is_stressed}
use Rattle.scr_nodes.specs.Sources.{sources_of, fund_total, security_total, security_rate, liability_rate, liability_present, liability_loss, currency_loss, currency_picked, security_spread, concentration_square, group_loss, rates_in, worths_in, funds_of_class, held_of_class, losses_of_class}
use Rattle.scr_nodes.proofs.OwnRows.{distinct-groups, distinct-liabilities}
use Rattle.scr_nodes.proofs.Apart.{AreApart, apart-append, apart-chosen, apart-mapped, chosen-member, one-place}
use Rattle.scr_nodes.proofs.Parts.{part_of, differ, apart-by_parts}
use Rattle.scr_nodes.proofs.Told.{told-currency, told-fund, told-group_loss, told-liability, told-loss, told-picked, told-present, told-rate, told-security, told-spread, told-square}

-- two families have nothing in common
rate-or-cost : (direction : Direction) (p : Position) (l : Liability) (x : Node) → security_rate direction p ≡ x
    → liability_rate direction l ≡ x → ⊥
rate-or-cost direction p l x first second = absurd (cc)

security-or-present : (p : Position) (l : Liability) (x : Node) → security_total p ≡ x → liability_present l ≡ x → ⊥
security-or-present p l x first second = absurd (cc)

security-or-fund : (p : Position) (s : Stake) (x : Node) → security_total p ≡ x → fund_total s ≡ x → ⊥
security-or-fund p s x first second = absurd (cc)

one : (x : Node) → AreApart (x ∷ [])
one x = ((λ m. m), tt)

two : (x y : Node) → (x ≡ y → ⊥) → AreApart (x ∷ y ∷ [])
two x y first = ((λ m. by m), one y)
  where
    by : (x ≡ y) ⊎ ⊥ → ⊥
    by (inl e) = first e
    by (inr m) = m

module _ (sheet : BalanceSheet) (valid : Valid sheet) where
  apart-funds : (test : Stake → Bool) → AreApart (map fund_total (filter test sheet.funds))
  apart-funds test =
      apart-chosen fund_total test stake_name told-fund sheet.funds (distinct-funds sheet valid.named_once)

  apart-securities : (test : Position → Bool) → AreApart (map security_total (filter test sheet.securities))
  apart-securities test =
      apart-chosen security_total test position_name told-security sheet.securities
      (distinct-securities sheet valid.named_once)

  apart-rates : (currency : List ℕ) (direction : Direction) → AreApart (rates_in currency direction sheet)
  apart-rates currency direction =
      apart-append (map (security_rate direction) (filter (is_paying_in currency) sheet.securities))
      (map (liability_rate direction) (filter (is_owed_in currency) sheet.liabilities))
      (apart-chosen (security_rate direction) (is_paying_in currency) position_name (told-rate direction)
      sheet.securities (distinct-securities sheet valid.named_once))
      (apart-chosen (liability_rate direction) (is_owed_in currency) liability_name (told-liability direction)
      sheet.liabilities (distinct-liabilities sheet valid))
      (λ x m n. let p = chosen-member (security_rate direction) (is_paying_in currency) sheet.securities x m in
      let l = chosen-member (liability_rate direction) (is_owed_in currency) sheet.liabilities x n in
      rate-or-cost direction p.0 l.0 x p.3 l.3)

  apart-worths : (currency : List ℕ) → AreApart (worths_in currency sheet)
  apart-worths currency =
      apart-append (map security_total (filter (is_held_in currency) sheet.securities))
      (map liability_present (filter (is_owed_in currency) sheet.liabilities)) (apart-securities (is_held_in currency))
      (apart-chosen liability_present (is_owed_in currency) liability_name told-present sheet.liabilities
      (distinct-liabilities sheet valid))
      (λ x m n. let p = chosen-member security_total (is_held_in currency) sheet.securities x m in
      let l = chosen-member liability_present (is_owed_in currency) sheet.liabilities x n in
      security-or-present p.0 l.0 x p.3 l.3)

  funds-apart : (class : Class) → AreApart (funds_of_class class sheet)
  funds-apart classes.Type2Equity = apart-funds is_closed
  funds-apart class = tt

  not-fund : (class : Class) (x : Node) → IsMember x (map security_total (filter (has_class class) sheet.securities))
      → IsMember x (funds_of_class class sheet) → ⊥
  not-fund classes.Type2Equity x m n =
      let p = chosen-member security_total (has_class classes.Type2Equity) sheet.securities x m in
      let s = chosen-member fund_total is_closed sheet.funds x n in
      security-or-fund p.0 s.0 x p.3 s.3
  not-fund class x m n = n

  apart-held : (class : Class) → AreApart (held_of_class class sheet)
  apart-held class =
      apart-append (map security_total (filter (has_class class) sheet.securities)) (funds_of_class class sheet)
      (apart-securities (has_class class)) (funds-apart class) (not-fund class)

  apart-losses_of_class : (class : DefaultClass) → AreApart (losses_of_class class sheet)
  apart-losses_of_class class =
      apart-chosen group_loss (is_of_default_class class) group_name told-group_loss sheet.groups
      (distinct-groups sheet valid)

  -- words of different parts
  apart-words : (node : Node) → differ (map part_of (sources_of sheet node)) ≡ true → AreApart (sources_of sheet node)
  apart-words node h = apart-by_parts (sources_of sheet node) h

  apart-sources : (node : Node) → AreApart (sources_of sheet node)
  apart-sources (nodes.Fund name of_funds.Total) = apart-funds (holds name)
  apart-sources (nodes.Security name of_securities.Total) = apart-funds (holds name)
  apart-sources (nodes.Security name (of_securities.Rate direction)) = two _ _ (λ e. absurd (cc))
  apart-sources (nodes.Liability name of_liabilities.Present) = apart-words (nodes.Liability name of_liabilities.Present) refl
  apart-sources (nodes.Currency currency (of_currencies.Loss direction)) = apart-rates currency direction
  apart-sources (nodes.Whole (wholes.InterestScenario direction Gross)) =
      apart-mapped (currency_loss direction) (λ c. true) curve_name (told-currency direction) sheet.curves
      valid.currencies_once
  apart-sources (nodes.Currency currency (of_currencies.Scenario direction Gross)) = apart-worths currency
  apart-sources (nodes.Whole (wholes.Currency measure)) =
      apart-chosen (currency_picked measure) (is_foreign sheet) curve_name (told-picked measure) sheet.curves
      valid.currencies_once
  apart-sources (nodes.Whole (wholes.Choice alternatives.Interest)) = apart-words (nodes.Whole (wholes.Choice alternatives.Interest)) refl
  apart-sources (nodes.Whole (wholes.Picked alternatives.Interest measure)) =
      apart-words (nodes.Whole (wholes.Picked alternatives.Interest measure)) refl
  apart-sources (nodes.Whole (wholes.ClassSum class)) = apart-held class
  apart-sources (nodes.Whole (wholes.EquityPart equities.Type1)) = apart-words (nodes.Whole (wholes.EquityPart equities.Type1)) refl
  apart-sources (nodes.Whole wholes.Spread) =
      apart-chosen security_spread (has_class classes.Bond) position_name told-spread sheet.securities
      (distinct-securities sheet valid.named_once)
  apart-sources (nodes.Group name of_groups.Total) = apart-securities (is_of_group name)
  apart-sources (nodes.Whole wholes.Assets) = apart-securities has_group
  apart-sources (nodes.Whole wholes.Concentration) =
      apart-mapped concentration_square (λ g. true) group_name told-square sheet.groups (distinct-groups sheet valid)
  apart-sources (nodes.Whole (wholes.Market Gross)) = apart-words (nodes.Whole (wholes.Market Gross)) refl
  apart-sources (nodes.Whole (wholes.ClassLoss class)) = apart-losses_of_class class
  apart-sources (nodes.Whole (wholes.ClassSquare class)) = apart-losses_of_class class
  apart-sources (nodes.Whole (wholes.BioScenario biometric projection Gross)) =
      apart-chosen (liability_loss projection) (is_stressed biometric projection) liability_name (told-loss projection)
      sheet.liabilities (distinct-liabilities sheet valid)
  apart-sources (nodes.Whole (wholes.Life Gross)) = apart-words (nodes.Whole (wholes.Life Gross)) refl
  apart-sources (nodes.Whole (wholes.Slt Gross)) = apart-words (nodes.Whole (wholes.Slt Gross)) refl
  apart-sources (nodes.Whole (wholes.PremiumReserve sets.Nl)) = apart-words (nodes.Whole (wholes.PremiumReserve sets.Nl)) refl
  apart-sources (nodes.Whole (wholes.Health Gross)) = apart-words (nodes.Whole (wholes.Health Gross)) refl
  apart-sources (nodes.Whole (wholes.Bscr Gross)) = apart-words (nodes.Whole (wholes.Bscr Gross)) refl
  apart-sources (nodes.Whole (wholes.OpPart operations.Premiums)) = apart-words (nodes.Whole (wholes.OpPart operations.Premiums)) refl
  apart-sources (nodes.Whole (wholes.Adjust adjustments.TechnicalProvisions)) =
      apart-words (nodes.Whole (wholes.Adjust adjustments.TechnicalProvisions)) refl
  apart-sources node = apart-words node refl

  pub sources-once : (node : Node) → HasNoRepeats (sources_of sheet node)
  sources-once node = λ j k x first second. one-place (sources_of sheet node) (apart-sources node) j k x first second
