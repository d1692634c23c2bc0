-- The sources of a live node of a valid balance sheet are live.
use Rattle.std.proofs.Common.{◌≡◌, ℕ, Bool, true, false, ◌&&◌, List, [], ◌∷◌, map, Option, Some, None, is_some, refl, ap, ◌∙◌}
use Rattle.std.specs.List.{AllByRecursion, filter, list_all}
use Rattle.std.specs.Option.{option_map_or}
use Rattle.scr_tables.specs.Names.{same_name}
use Rattle.scr_tables.specs.Tables.{row_of}
use Rattle.scr_tables.proofs.TableRows.{All-append}
use Rattle.scr_profile.specs.declared.default_class.DefaultClass.{DefaultClass}
use Rattle.scr_profile.specs.declared.set.Set.{Set}
use Rattle.scr_profile.specs.declared.set.Set.TheVariants as sets
use Rattle.scr_sheet.specs.BalanceSheet.{group_name, position_name, liability_name, stake_name, curve_name, position_of, stake_of}
use Rattle.scr_sheet.specs.declared.{keys.Projection.Projection, sheet.BalanceSheet.BalanceSheet, rows.Class.Class, rows.Liability.Liability, rows.Position.Position, rows.Stake.Stake}
use Rattle.scr_sheet.specs.declared.keys.Projection.TheVariants as projections
use Rattle.scr_sheet.specs.declared.rows.Class.TheVariants as classes
use Rattle.scr_sheet.specs.Validity.{Valid}
use Rattle.scr_nodes.specs.declared.{node.Adjustment.Adjustment, node.Alternatives.Alternatives, node.Biometric.Biometric, node.Direction.Direction, node.Equities.Equities, node.Measure.Measure, node.Node.Node, node.Operational.Operational, node.Risk.Risk}
use Rattle.scr_nodes.specs.declared.node.Adjustment.TheVariants as adjustments
use Rattle.scr_nodes.specs.declared.node.Alternatives.TheVariants as alternatives
use Rattle.scr_nodes.specs.declared.node.Biometric.TheVariants as biometrics
use Rattle.scr_nodes.specs.declared.node.Equities.TheVariants as equities
use Rattle.scr_nodes.specs.declared.node.Measure.TheVariants.{Gross, Net}
use Rattle.scr_nodes.specs.declared.node.Node.TheVariants as nodes
use Rattle.scr_nodes.specs.declared.node.OfFund.TheVariants as of_funds
use Rattle.scr_nodes.specs.declared.node.OfSecurity.TheVariants as of_securities
use Rattle.scr_nodes.specs.declared.node.OfLiability.TheVariants as of_liabilities
use Rattle.scr_nodes.specs.declared.node.OfCurrency.TheVariants as of_currencies
use Rattle.scr_nodes.specs.declared.node.OfGroup.TheVariants as of_groups
use Rattle.scr_nodes.specs.declared.node.Whole.TheVariants as wholes
use Rattle.scr_nodes.specs.declared.node.Operational.TheVariants as operations
use Rattle.scr_nodes.specs.declared.node.Risk.TheVariants as risks
use Rattle.scr_nodes.specs.Rows.{holds, is_closed, is_paying, is_paying_in, is_owed_in, has_class, liability_of, group_of, is_held_in, is_foreign, is_of_group, has_group, is_of_default_class, has_flows, is_stress, is_of_kind, is_stressed, has_stress}
use Rattle.scr_nodes.specs.Sources.{sources_of, fund_total, security_total, security_rate, liability_rate, liability_present, liability_loss, currency_loss, currency_picked, security_spread, concentration_square, group_loss, rates_in, worths_in, funds_of_class, held_of_class, foreign_picked, losses_of_class, losses_under, interest_scenarios, lapse_scenarios, scenarios, classes_of, gross_of, market_parts, health_parts, segments_of, modules, operational_sources, adjustment_sources}
use Rattle.scr_nodes.specs.Live.{is_live}
use Rattle.scr_nodes.proofs.Chosen.{each-chosen, each-mapped, each-tested}
use Rattle.scr_nodes.proofs.OwnRows.{own-funds, own-securities, own-liabilities, own-curves, own-groups}
use Rattle.scr_nodes.proofs.Parts.{both}

abbrev pub IsLive : BalanceSheet → Node → Type 0
IsLive sheet node = is_live sheet node ≡ true

-- a row that passes is one
there : {Row : Type 0} (test : Row → Bool) (found : Option Row) → option_map_or test found false ≡ true → is_some found
    ≡ true
there test None h = absurd (cc)
there test (Some row) h = refl

-- a row that passes stands under its name
pub passes-own : {Row : Type 0} (test : Row → Bool) (found : Option Row) (row : Row) → found ≡ Some row → test row
    ≡ true
    → option_map_or test found false ≡ true
passes-own test found row own e = ap (λ f. option_map_or test f false) own ∙ e

-- a kind's stresses are not the best estimate
stress-is : (biometric : Biometric) (projection : Projection) → has_stress biometric projection ≡ true
    → is_stress projection ≡ true
stress-is biometric projections.Base h = absurd (cc)
stress-is biometric projection h = refl

module _ (sheet : BalanceSheet) (valid : Valid sheet) where
  -- words that are figures of every balance sheet
  tested : (list : List Node) → list_all (is_live sheet) list ≡ true → AllByRecursion (IsLive sheet) list
  tested list h = each-tested (is_live sheet) list h

  live-funds : (test : Stake → Bool) → AllByRecursion (IsLive sheet) (map fund_total (filter test sheet.funds))
  live-funds test =
      each-chosen (λ s. stake_of (stake_name s) sheet.funds ≡ Some s) (IsLive sheet) test fund_total sheet.funds
      (own-funds sheet valid) (λ s own e. ap is_some own)

  live-securities : (test : Position → Bool)
      → AllByRecursion (IsLive sheet) (map security_total (filter test sheet.securities))
  live-securities test =
      each-chosen (λ p. position_of (position_name p) sheet.securities ≡ Some p) (IsLive sheet) test security_total
      sheet.securities (own-securities sheet valid) (λ p own e. ap is_some own)

  live-class : (class : Class) → AllByRecursion (IsLive sheet) (funds_of_class class sheet)
  live-class classes.Type2Equity = live-funds is_closed
  live-class class = tt

  live-rates : (currency : List ℕ) (direction : Direction)
      → AllByRecursion (IsLive sheet) (rates_in currency direction sheet)
  live-rates currency direction =
      All-append (IsLive sheet) (map (security_rate direction) (filter (is_paying_in currency) sheet.securities))
      (map (liability_rate direction) (filter (is_owed_in currency) sheet.liabilities))
      (each-chosen (λ p. position_of (position_name p) sheet.securities ≡ Some p) (IsLive sheet)
      (is_paying_in currency) (security_rate direction) sheet.securities (own-securities sheet valid)
      (λ p own e. passes-own is_paying (position_of (position_name p) sheet.securities) p own
      (both (same_name currency p.security.currency) (is_paying p) e).1))
      (each-chosen (λ l. liability_of (liability_name l) sheet.liabilities ≡ Some l) (IsLive sheet)
      (is_owed_in currency)
      (liability_rate direction) sheet.liabilities (own-liabilities sheet valid) (λ l own e. ap is_some own))

  live-worths : (currency : List ℕ) → AllByRecursion (IsLive sheet) (worths_in currency sheet)
  live-worths currency =
      All-append (IsLive sheet) (map security_total (filter (is_held_in currency) sheet.securities))
      (map liability_present (filter (is_owed_in currency) sheet.liabilities)) (live-securities (is_held_in currency))
      (each-chosen (λ l. liability_of (liability_name l) sheet.liabilities ≡ Some l) (IsLive sheet)
      (is_owed_in currency)
      liability_present sheet.liabilities (own-liabilities sheet valid) (λ l own e. ap is_some own))

  live-held : (class : Class) → AllByRecursion (IsLive sheet) (held_of_class class sheet)
  live-held class =
      All-append (IsLive sheet) (map security_total (filter (has_class class) sheet.securities))
      (funds_of_class class sheet) (live-securities (has_class class)) (live-class class)

  live-foreign : (measure : Measure) → AllByRecursion (IsLive sheet) (foreign_picked measure sheet)
  live-foreign measure =
      each-chosen (λ c. row_of curve_name (curve_name c) sheet.curves ≡ Some c) (IsLive sheet) (is_foreign sheet)
      (currency_picked measure) sheet.curves (own-curves sheet valid)
      (λ c own e. passes-own (is_foreign sheet) (row_of curve_name (curve_name c) sheet.curves) c own e)

  live-bonds : AllByRecursion (IsLive sheet) (map security_spread (filter (has_class classes.Bond) sheet.securities))
  live-bonds =
      each-chosen (λ p. position_of (position_name p) sheet.securities ≡ Some p) (IsLive sheet) (has_class classes.Bond)
      security_spread sheet.securities (own-securities sheet valid)
      (λ p own e. passes-own (has_class classes.Bond) (position_of (position_name p) sheet.securities) p own e)

  live-squares : AllByRecursion (IsLive sheet) (map concentration_square sheet.groups)
  live-squares =
      each-mapped (λ g. group_of (group_name g) sheet.groups ≡ Some g) (IsLive sheet) (λ g. true) concentration_square
      sheet.groups (own-groups sheet valid) (λ g own. ap is_some own)

  live-losses_of_class : (class : DefaultClass) → AllByRecursion (IsLive sheet) (losses_of_class class sheet)
  live-losses_of_class class =
      each-chosen (λ g. group_of (group_name g) sheet.groups ≡ Some g) (IsLive sheet) (is_of_default_class class)
      group_loss sheet.groups (own-groups sheet valid) (λ g own e. ap is_some own)

  pub loss-live : (projection : Projection) (liability : Liability) → is_stress projection ≡ true
      → liability_of (liability_name liability) sheet.liabilities ≡ Some liability → has_flows projection liability
      ≡ true
      → is_live sheet (liability_loss projection liability) ≡ true
  loss-live projection liability stress own e =
      ap (λ t. t && option_map_or (has_flows projection) (liability_of (liability_name liability)
      sheet.liabilities) false)
      stress
      ∙ passes-own (has_flows projection) (liability_of (liability_name liability) sheet.liabilities) liability own e

  live-losses : (biometric : Biometric) (projection : Projection) → is_stress projection ≡ true
      → AllByRecursion (IsLive sheet) (losses_under biometric projection sheet)
  live-losses biometric projection stress =
      each-chosen (λ l. liability_of (liability_name l) sheet.liabilities ≡ Some l) (IsLive sheet)
      (is_stressed biometric projection) (liability_loss projection) sheet.liabilities (own-liabilities sheet valid)
      (λ l own e. loss-live projection l stress own (both (is_of_kind biometric l.kind) (has_flows projection l) e).1)

  live-scenarios : (which : Alternatives) → AllByRecursion (IsLive sheet) (scenarios which)
  live-scenarios alternatives.Interest = tested interest_scenarios refl
  live-scenarios alternatives.LifeLapse = tested (lapse_scenarios biometrics.Life) refl
  live-scenarios alternatives.HealthLapse = tested (lapse_scenarios biometrics.Health) refl

  live-classes : (e : Equities) → AllByRecursion (IsLive sheet) (classes_of e)
  live-classes equities.Type1 = tested (classes_of equities.Type1) refl
  live-classes e = tested (classes_of e) refl

  live-gross : (risk : Risk) → IsLive sheet (gross_of risk)
  live-gross risks.Equity = refl
  live-gross risk = refl

  live-operational : (part : Operational) → AllByRecursion (IsLive sheet) (operational_sources part)
  live-operational operations.Premiums = tested (operational_sources operations.Premiums) refl
  live-operational part = tested (operational_sources part) refl

  live-adjustment : (adjustment : Adjustment) → AllByRecursion (IsLive sheet) (adjustment_sources adjustment)
  live-adjustment adjustments.TechnicalProvisions = tested (adjustment_sources adjustments.TechnicalProvisions) refl
  live-adjustment adjustments.DeferredTaxes = tested (adjustment_sources adjustments.DeferredTaxes) refl

  live-segments : (set : Set) → AllByRecursion (IsLive sheet) (segments_of set)
  live-segments sets.Nl = tested (segments_of sets.Nl) refl
  live-segments sets.Nslt = tested (segments_of sets.Nslt) refl

  pub sources-live : (node : Node) → is_live sheet node ≡ true → AllByRecursion (IsLive sheet) (sources_of sheet node)
  sources-live (nodes.Fund name of_funds.Total) h = live-funds (holds name)
  sources-live (nodes.Security name of_securities.Total) h = live-funds (holds name)
  sources-live (nodes.Security name (of_securities.Rate direction)) h = (there is_paying (position_of name sheet.securities) h, (h, tt))
  sources-live (nodes.Liability name of_liabilities.Present) h = tt
  sources-live (nodes.Currency currency (of_currencies.Loss direction)) h = live-rates currency direction
  sources-live (nodes.Whole (wholes.InterestScenario direction Gross)) h =
      each-mapped (λ c. row_of curve_name (curve_name c) sheet.curves ≡ Some c) (IsLive sheet) (λ c. true)
      (currency_loss direction) sheet.curves (own-curves sheet valid) (λ c own. ap is_some own)
  sources-live (nodes.Currency currency (of_currencies.Scenario direction Gross)) h = live-worths currency
  sources-live (nodes.Currency currency (of_currencies.Scenario direction Net)) h = (h, tt)
  sources-live (nodes.Currency currency of_currencies.Choice) h = (h, (h, (h, (h, tt))))
  sources-live (nodes.Currency currency (of_currencies.Picked measure)) h = (h, (h, (h, (h, (h, tt)))))
  sources-live (nodes.Whole (wholes.Currency measure)) h = live-foreign measure
  sources-live (nodes.Whole (wholes.Choice which)) h = live-scenarios which
  sources-live (nodes.Whole (wholes.Picked which measure)) h =
      All-append (IsLive sheet) (scenarios which) (nodes.Whole (wholes.Choice which) ∷ []) (live-scenarios which) (refl, tt)
  sources-live (nodes.Whole (wholes.ClassSum class)) h = live-held class
  sources-live (nodes.Whole (wholes.EquityPart e)) h = live-classes e
  sources-live (nodes.Security name of_securities.Spread) h =
      (there (has_class classes.Bond) (position_of name sheet.securities) h, tt)
  sources-live (nodes.Whole wholes.Spread) h = live-bonds
  sources-live (nodes.Group name of_groups.Total) h = live-securities (is_of_group name)
  sources-live (nodes.Whole wholes.Assets) h = live-securities has_group
  sources-live (nodes.Group name of_groups.ConcentrationSquare) h = (refl, (h, tt))
  sources-live (nodes.Whole wholes.Concentration) h = live-squares
  sources-live (nodes.Whole (wholes.NetPart risk)) h = (live-gross risk, tt)
  sources-live (nodes.Whole (wholes.Market Gross)) h = tested (market_parts Gross) refl
  sources-live (nodes.Whole (wholes.ClassLoss class)) h = live-losses_of_class class
  sources-live (nodes.Whole (wholes.ClassSquare class)) h = live-losses_of_class class
  sources-live (nodes.Whole (wholes.BioScenario biometric projection Gross)) h =
      live-losses biometric projection (stress-is biometric projection h)
  sources-live (nodes.Whole (wholes.BioScenario biometric projection Net)) h = (h, tt)
  sources-live (nodes.Whole (wholes.PremiumReserve set)) h = live-segments set
  sources-live (nodes.Whole (wholes.Health Gross)) h = tested (health_parts Gross) refl
  sources-live (nodes.Whole (wholes.Bscr Gross)) h = tested (modules Gross) refl
  sources-live (nodes.Whole (wholes.OpPart part)) h = live-operational part
  sources-live (nodes.Whole (wholes.Adjust adjustment)) h = live-adjustment adjustment
  sources-live node h = tested (sources_of sheet node) refl
