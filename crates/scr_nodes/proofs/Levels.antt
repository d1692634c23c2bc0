-- The sources of a figure stand at lower levels than it.
use Rattle.std.proofs.Common.{◌≡◌, ℕ, ◌<◌, max, nat_lt, true, map, filter, Contains, refl, arith}
use Rattle.std.specs.List.{list_all}
use Rattle.scr_funds.proofs.Members.{IsMember-from_Contains, at_member}
use Rattle.scr_tables.proofs.TableRows.{All-append}
use Rattle.scr_profile.specs.declared.set.Set.TheVariants as sets
use Rattle.scr_sheet.specs.declared.sheet.BalanceSheet.{BalanceSheet}
use Rattle.scr_sheet.specs.declared.rows.Class.{Class}
use Rattle.scr_sheet.specs.declared.rows.Class.TheVariants as classes
use Rattle.scr_nodes.specs.declared.node.Adjustment.TheVariants as adjustments
use Rattle.scr_nodes.specs.declared.node.Alternatives.TheVariants as alternatives
use Rattle.scr_nodes.specs.declared.node.Equities.TheVariants as equities
use Rattle.scr_nodes.specs.declared.node.Measure.TheVariants.{Gross}
use Rattle.scr_nodes.specs.declared.node.Node.{Node}
use Rattle.scr_nodes.specs.declared.node.Node.TheVariants as nodes
use Rattle.scr_nodes.specs.declared.node.OfCurrency.TheVariants as of_currencies
use Rattle.scr_nodes.specs.declared.node.OfFund.TheVariants as of_funds
use Rattle.scr_nodes.specs.declared.node.OfGroup.TheVariants as of_groups
use Rattle.scr_nodes.specs.declared.node.OfLiability.TheVariants as of_liabilities
use Rattle.scr_nodes.specs.declared.node.OfSecurity.TheVariants as of_securities
use Rattle.scr_nodes.specs.declared.node.Operational.TheVariants as operations
use Rattle.scr_nodes.specs.declared.node.Risk.TheVariants as risks
use Rattle.scr_nodes.specs.declared.node.Whole.TheVariants as wholes
use Rattle.scr_nodes.specs.Levels.{level}
use Rattle.scr_nodes.specs.Rows.{holds, is_closed, is_paying_in, is_owed_in, has_class, is_held_in, is_foreign, is_of_group, has_group, is_of_default_class, is_stressed}
use Rattle.scr_nodes.specs.Sources.{sources_of, fund_total, security_total, security_rate, liability_rate, liability_present, liability_loss, currency_loss, currency_picked, security_spread, concentration_square, group_loss, funds_of_class}
use Rattle.scr_nodes.proofs.Below.{AllBelow, below-chosen, below-mapped, below-tested}

-- below its level, and at level 0 below the first
abbrev limit : Node → ℕ
limit node = max 1 (level node)

module _ (sheet : BalanceSheet) where
  funds : (class : Class) → AllBelow level 2 (funds_of_class class sheet)
  funds classes.Type2Equity = below-chosen level 2 is_closed fund_total sheet.funds (λ s. omega arith)
  funds class = tt

  tested : (node : Node) → list_all (λ n. nat_lt (level n) (limit node)) (sources_of sheet node) ≡ true
      → AllBelow level (limit node) (sources_of sheet node)
  tested node h = below-tested level (limit node) (sources_of sheet node) h

  sources-within : (node : Node) → AllBelow level (limit node) (sources_of sheet node)
  sources-within (nodes.Fund name of_funds.Total) =
      below-chosen level 1 (holds name) fund_total sheet.funds (λ s. omega arith)
  sources-within (nodes.Security name of_securities.Total) =
      below-chosen level 1 (holds name) fund_total sheet.funds (λ s. omega arith)
  sources-within (nodes.Liability name of_liabilities.Present) = tt
  sources-within (nodes.Currency currency (of_currencies.Loss direction)) =
      All-append (λ n. level n < 3) (map (security_rate direction) (filter (is_paying_in currency) sheet.securities))
      (map (liability_rate direction) (filter (is_owed_in currency) sheet.liabilities))
      (below-chosen level 3 (is_paying_in currency) (security_rate direction) sheet.securities (λ p. omega arith))
      (below-chosen level 3 (is_owed_in currency) (liability_rate direction) sheet.liabilities (λ l. omega arith))
  sources-within (nodes.Currency currency (of_currencies.Scenario direction Gross)) =
      All-append (λ n. level n < 2) (map security_total (filter (is_held_in currency) sheet.securities))
      (map liability_present (filter (is_owed_in currency) sheet.liabilities))
      (below-chosen level 2 (is_held_in currency) security_total sheet.securities (λ p. omega arith))
      (below-chosen level 2 (is_owed_in currency) liability_present sheet.liabilities (λ l. omega arith))
  sources-within (nodes.Group name of_groups.Total) =
      below-chosen level 2 (is_of_group name) security_total sheet.securities (λ p. omega arith)
  sources-within (nodes.Whole (wholes.InterestScenario direction Gross)) =
      below-mapped level 4 (currency_loss direction) sheet.curves (λ c. omega arith)
  sources-within (nodes.Whole (wholes.Currency measure)) =
      below-chosen level 6 (is_foreign sheet) (currency_picked measure) sheet.curves (λ c. omega arith)
  sources-within (nodes.Whole (wholes.ClassSum class)) =
      All-append (λ n. level n < 2) (map security_total (filter (has_class class) sheet.securities))
      (funds_of_class class sheet)
      (below-chosen level 2 (has_class class) security_total sheet.securities (λ p. omega arith)) (funds class)
  sources-within (nodes.Whole wholes.Spread) =
      below-chosen level 3 (has_class classes.Bond) security_spread sheet.securities (λ p. omega arith)
  sources-within (nodes.Whole wholes.Assets) =
      below-chosen level 2 has_group security_total sheet.securities (λ p. omega arith)
  sources-within (nodes.Whole wholes.Concentration) =
      below-mapped level 4 concentration_square sheet.groups (λ g. omega arith)
  sources-within (nodes.Whole (wholes.ClassLoss class)) =
      below-chosen level 1 (is_of_default_class class) group_loss sheet.groups (λ g. omega arith)
  sources-within (nodes.Whole (wholes.ClassSquare class)) =
      below-chosen level 1 (is_of_default_class class) group_loss sheet.groups (λ g. omega arith)
  sources-within (nodes.Whole (wholes.BioScenario biometric projection Gross)) =
      below-chosen level 1 (is_stressed biometric projection) (liability_loss projection) sheet.liabilities
      (λ l. omega arith)
  sources-within (nodes.Whole (wholes.Choice alternatives.Interest)) =
      tested (nodes.Whole (wholes.Choice alternatives.Interest)) refl
  sources-within (nodes.Whole (wholes.Picked alternatives.Interest measure)) =
      tested (nodes.Whole (wholes.Picked alternatives.Interest measure)) refl
  sources-within (nodes.Whole (wholes.EquityPart equities.Type1)) =
      tested (nodes.Whole (wholes.EquityPart equities.Type1)) refl
  sources-within (nodes.Whole (wholes.NetPart risks.Equity)) = tested (nodes.Whole (wholes.NetPart risks.Equity)) refl
  sources-within (nodes.Whole (wholes.Market Gross)) = tested (nodes.Whole (wholes.Market Gross)) refl
  sources-within (nodes.Whole (wholes.Life Gross)) = tested (nodes.Whole (wholes.Life Gross)) refl
  sources-within (nodes.Whole (wholes.Slt Gross)) = tested (nodes.Whole (wholes.Slt Gross)) refl
  sources-within (nodes.Whole (wholes.PremiumReserve sets.Nl)) =
      tested (nodes.Whole (wholes.PremiumReserve sets.Nl)) refl
  sources-within (nodes.Whole (wholes.Health Gross)) = tested (nodes.Whole (wholes.Health Gross)) refl
  sources-within (nodes.Whole (wholes.Bscr Gross)) = tested (nodes.Whole (wholes.Bscr Gross)) refl
  sources-within (nodes.Whole (wholes.OpPart operations.Premiums)) =
      tested (nodes.Whole (wholes.OpPart operations.Premiums)) refl
  sources-within (nodes.Whole (wholes.Adjust adjustments.TechnicalProvisions)) =
      tested (nodes.Whole (wholes.Adjust adjustments.TechnicalProvisions)) refl
  sources-within node = tested node refl

  source-within : (node source : Node) → Contains (sources_of sheet node) source → level source < limit node
  source-within node source has =
      at_member (λ n. level n < limit node) (sources_of sheet node) source (sources-within node)
      (IsMember-from_Contains (sources_of sheet node) source has)

  pub source-lower : (node source : Node) → 0 < level node → Contains (sources_of sheet node) source
      → level source < level node
  source-lower node source some has = let less = source-within node source has in omega (arith)

  pub source-none : (node source : Node) → level node ≡ 0 → Contains (sources_of sheet node) source → level source ≡ 0
  source-none node source none has = let less = source-within node source has in omega (arith)
