-- The sources of a figure stand in earlier families than it.
use Rattle.std.proofs.Common.{◌≡◌, ℕ, ◌<◌, nat_lt, true, List, map, filter, refl, arith}
use Rattle.std.specs.List.{list_all}
use Rattle.scr_tables.proofs.TableRows.{All-append}
use Rattle.scr_profile.specs.declared.default_class.DefaultClass.{DefaultClass}
use Rattle.scr_profile.specs.declared.set.Set.TheVariants as sets
use Rattle.scr_sheet.specs.declared.{keys.Projection.Projection, sheet.BalanceSheet.BalanceSheet, rows.Class.Class, rows.Curve.Curve, rows.Liability.Liability, rows.Position.Position}
use Rattle.scr_sheet.specs.declared.keys.Projection.TheVariants as projections
use Rattle.scr_sheet.specs.declared.rows.Class.TheVariants as classes
use Rattle.scr_nodes.specs.declared.node.Adjustment.TheVariants as adjustments
use Rattle.scr_nodes.specs.declared.node.Alternatives.TheVariants as alternatives
use Rattle.scr_nodes.specs.declared.{node.Biometric.Biometric, node.Direction.Direction, node.Measure.Measure, node.Node.Node}
use Rattle.scr_nodes.specs.declared.node.Biometric.TheVariants as biometrics
use Rattle.scr_nodes.specs.declared.node.Direction.TheVariants.{Up, Down}
use Rattle.scr_nodes.specs.declared.node.Equities.TheVariants as equities
use Rattle.scr_nodes.specs.declared.node.Measure.TheVariants.{Gross, Net}
use Rattle.scr_nodes.specs.declared.node.Node.TheVariants as nodes
use Rattle.scr_nodes.specs.declared.node.OfFund.TheVariants as of_funds
use Rattle.scr_nodes.specs.declared.node.OfSecurity.TheVariants as of_securities
use Rattle.scr_nodes.specs.declared.node.OfLiability.TheVariants as of_liabilities
use Rattle.scr_nodes.specs.declared.node.OfCurrency.TheVariants as of_currencies
use Rattle.scr_nodes.specs.declared.node.OfGroup.TheVariants as of_groups
use Rattle.scr_nodes.specs.declared.node.Whole.TheVariants as wholes
use Rattle.scr_nodes.specs.declared.node.Operational.TheVariants as operations
use Rattle.scr_nodes.specs.declared.node.Risk.TheVariants as risks
use Rattle.scr_nodes.specs.Rows.{holds, is_closed, is_paying_in, is_owed_in, has_class, is_held_in, is_foreign, is_of_group, has_group, is_of_default_class, is_stressed}
use Rattle.scr_nodes.specs.Sources.{sources_of, fund_total, security_total, security_rate, liability_rate, liability_present, liability_loss, currency_loss, currency_picked, security_spread, concentration_square, group_loss, rates_in, worths_in, funds_of_class, held_of_class, losses_of_class, losses_under, foreign_picked}
use Rattle.scr_nodes.proofs.Below.{AllBelow, below-chosen, below-mapped, below-tested, below-weaker}
use Rattle.scr_nodes.proofs.Parts.{part_of}

module _ (sheet : BalanceSheet) where
  below-rates : (currency : List ℕ) (direction : Direction) → AllBelow part_of 8 (rates_in currency direction sheet)
  below-rates currency direction =
      All-append (λ n. part_of n < 8) (map (security_rate direction) (filter (is_paying_in currency) sheet.securities))
      (map (liability_rate direction) (filter (is_owed_in currency) sheet.liabilities))
      (below-chosen part_of 8 (is_paying_in currency) (security_rate direction) sheet.securities (rate direction))
      (below-chosen part_of 8 (is_owed_in currency) (liability_rate direction) sheet.liabilities (cost direction))
    where
      rate : (d : Direction) (p : Position) → part_of (security_rate d p) < 8
      rate Up p = omega arith
      rate Down p = omega arith

      cost : (d : Direction) (l : Liability) → part_of (liability_rate d l) < 8
      cost Up l = omega arith
      cost Down l = omega arith

  below-worths : (currency : List ℕ) → AllBelow part_of 9 (worths_in currency sheet)
  below-worths currency =
      All-append (λ n. part_of n < 9) (map security_total (filter (is_held_in currency) sheet.securities))
      (map liability_present (filter (is_owed_in currency) sheet.liabilities))
      (below-chosen part_of 9 (is_held_in currency) security_total sheet.securities (λ p. omega arith))
      (below-chosen part_of 9 (is_owed_in currency) liability_present sheet.liabilities (λ l. omega arith))

  below-held : (class : Class) → AllBelow part_of 2 (held_of_class class sheet)
  below-held class =
      All-append (λ n. part_of n < 2) (map security_total (filter (has_class class) sheet.securities))
      (funds_of_class class sheet)
      (below-chosen part_of 2 (has_class class) security_total sheet.securities (λ p. omega arith)) (funds class)
    where
      funds : (c : Class) → AllBelow part_of 2 (funds_of_class c sheet)
      funds classes.Type2Equity = below-chosen part_of 2 is_closed fund_total sheet.funds (λ s. omega arith)
      funds c = tt

  below-currencies : (direction : Direction) → AllBelow part_of 20 (map (currency_loss direction) sheet.curves)
  below-currencies direction = below-mapped part_of 20 (currency_loss direction) sheet.curves (loss direction)
    where
      loss : (d : Direction) (c : Curve) → part_of (currency_loss d c) < 20
      loss Up c = omega arith
      loss Down c = omega arith

  below-losses : (biometric : Biometric) (projection : Projection) → AllBelow part_of 18
      (losses_under biometric projection sheet)
  below-losses biometric projection =
      below-chosen part_of 18 (is_stressed biometric projection) (liability_loss projection) sheet.liabilities (loss projection)
    where
      loss : (p : Projection) (l : Liability) → part_of (liability_loss p l) < 18
      loss projections.Base l = omega arith
      loss p l = omega arith

  below-class : (class : DefaultClass) → AllBelow part_of 32 (losses_of_class class sheet)
  below-class class = below-chosen part_of 32 (is_of_default_class class) group_loss sheet.groups (λ g. omega arith)

  below-picked : (measure : Measure) → AllBelow part_of 27 (foreign_picked measure sheet)
  below-picked Gross = below-chosen part_of 27 (is_foreign sheet) (currency_picked Gross) sheet.curves (λ c. omega arith)
  below-picked Net = below-chosen part_of 27 (is_foreign sheet) (currency_picked Net) sheet.curves (λ c. omega arith)

  tested : (node : Node) → list_all (λ n. nat_lt (part_of n) (part_of node)) (sources_of sheet node) ≡ true
      → AllBelow part_of (part_of node) (sources_of sheet node)
  tested node h = below-tested part_of (part_of node) (sources_of sheet node) h

  pub sources-earlier : (node : Node) → 0 < part_of node → AllBelow part_of (part_of node) (sources_of sheet node)
  sources-earlier (nodes.Fund name of_funds.Total) h = absurd (omega arith)
  sources-earlier (nodes.Security name of_securities.Total) h = below-chosen part_of 1 (holds name) fund_total sheet.funds (λ s. omega arith)
  sources-earlier (nodes.Security name (of_securities.Rate Up)) h = tested (nodes.Security name (of_securities.Rate Up)) refl
  sources-earlier (nodes.Liability name of_liabilities.Present) h = tested (nodes.Liability name of_liabilities.Present) refl
  sources-earlier (nodes.Currency currency (of_currencies.Loss direction)) h =
      below-weaker part_of 8 (part_of (nodes.Currency currency (of_currencies.Loss direction))) (omega arith) (rates_in currency direction sheet)
      (below-rates currency direction)
  sources-earlier (nodes.Whole (wholes.InterestScenario direction Gross)) h =
      below-weaker part_of 20 (part_of (nodes.Whole (wholes.InterestScenario direction Gross))) (omega arith)
      (map (currency_loss direction) sheet.curves) (below-currencies direction)
  sources-earlier (nodes.Whole (wholes.InterestScenario direction Net)) h = (omega arith, tt)
  sources-earlier (nodes.Currency currency (of_currencies.Scenario direction Gross)) h =
      below-weaker part_of 9 (part_of (nodes.Currency currency (of_currencies.Scenario direction Gross))) (omega arith)
      (worths_in currency sheet)
      (below-worths currency)
  sources-earlier (nodes.Currency currency (of_currencies.Scenario direction Net)) h = (omega arith, tt)
  sources-earlier (nodes.Currency currency (of_currencies.Picked Gross)) h = tested (nodes.Currency currency (of_currencies.Picked Gross)) refl
  sources-earlier (nodes.Whole (wholes.Choice alternatives.Interest)) h = tested (nodes.Whole (wholes.Choice alternatives.Interest)) refl
  sources-earlier (nodes.Whole (wholes.Picked alternatives.Interest Gross)) h = tested (nodes.Whole (wholes.Picked alternatives.Interest Gross)) refl
  sources-earlier (nodes.Whole (wholes.Currency measure)) h =
      below-weaker part_of 27 (part_of (nodes.Whole (wholes.Currency measure))) (omega arith) (foreign_picked measure sheet)
      (below-picked measure)
  sources-earlier (nodes.Whole (wholes.ClassSum class)) h =
      below-weaker part_of 2 (part_of (nodes.Whole (wholes.ClassSum class))) (omega arith) (held_of_class class sheet) (below-held class)
  sources-earlier (nodes.Whole (wholes.EquityPart equities.Type1)) h = tested (nodes.Whole (wholes.EquityPart equities.Type1)) refl
  sources-earlier (nodes.Whole wholes.Spread) h =
      below-chosen part_of 55 (has_class classes.Bond) security_spread sheet.securities (λ p. omega arith)
  sources-earlier (nodes.Group name of_groups.Total) h =
      below-chosen part_of 28 (is_of_group name) security_total sheet.securities (λ p. omega arith)
  sources-earlier (nodes.Whole wholes.Assets) h = below-chosen part_of 29 has_group security_total sheet.securities (λ p. omega arith)
  sources-earlier (nodes.Whole wholes.Concentration) h = below-mapped part_of 56 concentration_square sheet.groups (λ g. omega arith)
  sources-earlier (nodes.Whole (wholes.NetPart risks.Equity)) h = tested (nodes.Whole (wholes.NetPart risks.Equity)) refl
  sources-earlier (nodes.Whole (wholes.Market Gross)) h = tested (nodes.Whole (wholes.Market Gross)) refl
  sources-earlier (nodes.Whole (wholes.ClassLoss class)) h =
      below-weaker part_of 32 (part_of (nodes.Whole (wholes.ClassLoss class))) (omega arith) (losses_of_class class sheet) (below-class class)
  sources-earlier (nodes.Whole (wholes.ClassSquare class)) h =
      below-weaker part_of 32 (part_of (nodes.Whole (wholes.ClassSquare class))) (omega arith) (losses_of_class class sheet)
      (below-class class)
  sources-earlier (nodes.Whole (wholes.BioScenario biometrics.Life projection Gross)) h =
      below-weaker part_of 18 (part_of (nodes.Whole (wholes.BioScenario biometrics.Life projection Gross))) (omega arith)
      (losses_under biometrics.Life projection sheet) (below-losses biometrics.Life projection)
  sources-earlier (nodes.Whole (wholes.BioScenario biometrics.Health projection Gross)) h =
      below-weaker part_of 18 (part_of (nodes.Whole (wholes.BioScenario biometrics.Health projection Gross))) (omega arith)
      (losses_under biometrics.Health projection sheet) (below-losses biometrics.Health projection)
  sources-earlier (nodes.Whole (wholes.BioScenario biometric projection Net)) h = (omega arith, tt)
  sources-earlier (nodes.Whole (wholes.Life Gross)) h = tested (nodes.Whole (wholes.Life Gross)) refl
  sources-earlier (nodes.Whole (wholes.Slt Gross)) h = tested (nodes.Whole (wholes.Slt Gross)) refl
  sources-earlier (nodes.Whole (wholes.PremiumReserve sets.Nl)) h = tested (nodes.Whole (wholes.PremiumReserve sets.Nl)) refl
  sources-earlier (nodes.Whole (wholes.Nslt Gross)) h = tested (nodes.Whole (wholes.Nslt Gross)) refl
  sources-earlier (nodes.Whole (wholes.Health Gross)) h = tested (nodes.Whole (wholes.Health Gross)) refl
  sources-earlier (nodes.Whole (wholes.Nonlife Gross)) h = tested (nodes.Whole (wholes.Nonlife Gross)) refl
  sources-earlier (nodes.Whole (wholes.Bscr Gross)) h = tested (nodes.Whole (wholes.Bscr Gross)) refl
  sources-earlier (nodes.Whole (wholes.OpPart operations.Premiums)) h = tested (nodes.Whole (wholes.OpPart operations.Premiums)) refl
  sources-earlier (nodes.Whole (wholes.Adjust adjustments.TechnicalProvisions)) h =
      tested (nodes.Whole (wholes.Adjust adjustments.TechnicalProvisions)) refl
  sources-earlier (nodes.Whole (wholes.Picked alternatives.LifeLapse Gross)) h =
      tested (nodes.Whole (wholes.Picked alternatives.LifeLapse Gross)) refl
  sources-earlier (nodes.Whole (wholes.Picked alternatives.HealthLapse Gross)) h =
      tested (nodes.Whole (wholes.Picked alternatives.HealthLapse Gross)) refl
  sources-earlier node h = tested node refl
