-- The level of a figure, by its table and its family.
use Rattle.std.proofs.Common.{◌≡◌, ℕ, ◌<◌, Contains, List, refl, sym, ap, ◌∙◌, arith}
use Rattle.std.specs.List.{AllByRecursion}
use Rattle.scr_funds.proofs.Members.{IsMember-from_Contains, at_member}
use Rattle.scr_ids.specs.declared.table.Table.{Table}
use Rattle.scr_ids.specs.declared.table.Table.TheVariants as tables
use Rattle.scr_sheet.specs.declared.sheet.BalanceSheet.{BalanceSheet}
use Rattle.scr_nodes.specs.Levels.{level, whole_level}
use Rattle.scr_nodes.specs.declared.{node.Node.Node, node.Whole.Whole}
use Rattle.scr_nodes.specs.Rows.{holds}
use Rattle.scr_nodes.specs.Sources.{fund_total, sources_of}
use Rattle.scr_nodes.specs.declared.node.Adjustment.TheVariants as adjustments
use Rattle.scr_nodes.specs.declared.node.Alternatives.TheVariants as alternatives
use Rattle.scr_nodes.specs.declared.node.Measure.TheVariants.{Gross}
use Rattle.scr_nodes.specs.declared.node.Node.TheVariants as nodes
use Rattle.scr_nodes.specs.declared.node.OfCurrency.TheVariants as of_currencies
use Rattle.scr_nodes.specs.declared.node.OfFund.TheVariants as of_funds
use Rattle.scr_nodes.specs.declared.node.OfGroup.TheVariants as of_groups
use Rattle.scr_nodes.specs.declared.node.OfLiability.TheVariants as of_liabilities
use Rattle.scr_nodes.specs.declared.node.OfSecurity.TheVariants as of_securities
use Rattle.scr_nodes.specs.declared.node.Operational.TheVariants as operations
use Rattle.scr_nodes.specs.declared.node.Risk.TheVariants as risks
use Rattle.scr_nodes.specs.declared.node.Whole.TheVariants as wholes
use Rattle.scr_nodes.proofs.Chosen.{each-chosen, each-row}
use Rattle.scr_figure_ids.specs.Families.{family_of, table_of, whole_family}
use Rattle.scr_figure_ids.proofs.Told.{told}

-- what each figure of the table with this family has for its level
abbrev pub HasLevel : Table → ℕ → ℕ → Type 0
HasLevel table family own = (node : Node) → table_of node ≡ table → family_of node ≡ family → level node ≡ own

pub whole-level : (family : ℕ) (what : Whole) → whole_family what ≡ family → family < 154
    → HasLevel tables.Whole family (whole_level what)
whole-level family what own low (nodes.Whole w) t f =
    ap level (told (nodes.Whole w) (nodes.Whole what) refl (f ∙ sym own) refl (omega (arith, f, low)))
whole-level family what own low node t f = absurd (cc)

-- ---- at the lowest level

abbrev AllFunds : List Node → Type 0
AllFunds list = AllByRecursion (λ n. table_of n ≡ tables.Fund) list

module _ (sheet : BalanceSheet) where
  holders : (name : List ℕ) → AllFunds (sources_of sheet (nodes.Fund name of_funds.Total))
  holders name =
      each-chosen (λ r. Unit {0}) (λ n. table_of n ≡ tables.Fund) (holds name) fund_total sheet.funds (each-row sheet.funds)
      (λ r fact e. refl)

  lowest : (node : Node) → level node ≡ 0 → AllFunds (sources_of sheet node)
  lowest (nodes.Fund name of_funds.Total) h = holders name
  lowest (nodes.Security name (of_securities.UnitLoss direction)) h = tt
  lowest (nodes.Security name what) h = absurd (omega (arith, h))
  lowest (nodes.Liability name of_liabilities.Present) h = tt
  lowest (nodes.Liability name what) h = tt
  lowest (nodes.Currency currency (of_currencies.Scenario direction Gross)) h = absurd (omega (arith, h))
  lowest (nodes.Currency currency what) h = absurd (omega (arith, h))
  lowest (nodes.Group name of_groups.Loss) h = tt
  lowest (nodes.Group name what) h = absurd (omega (arith, h))
  lowest (nodes.Whole wholes.DefaultType2) h = tt
  lowest (nodes.Whole (wholes.Segment segment)) h = tt
  lowest (nodes.Whole (wholes.CatCharge key)) h = tt
  lowest (nodes.Whole (wholes.Lapse set)) h = tt
  lowest (nodes.Whole wholes.Intangible) h = tt
  lowest (nodes.Whole (wholes.OpPart operations.Premiums)) h = tt
  lowest (nodes.Whole (wholes.OpPart operations.Provisions)) h = tt
  lowest (nodes.Whole (wholes.BioScenario biometric projection Gross)) h = absurd (omega (arith, h))
  lowest (nodes.Whole (wholes.InterestScenario direction Gross)) h = absurd (omega (arith, h))
  lowest (nodes.Whole (wholes.Choice alternatives.Interest)) h = absurd (omega (arith, h))
  lowest (nodes.Whole (wholes.Picked alternatives.Interest measure)) h = absurd (omega (arith, h))
  lowest (nodes.Whole (wholes.NetPart risks.Equity)) h = absurd (omega (arith, h))
  lowest (nodes.Whole (wholes.Adjust adjustments.TechnicalProvisions)) h = absurd (omega (arith, h))
  lowest (nodes.Whole what) h = absurd (omega (arith, h))

  pub lowest-source : (node source : Node) → level node ≡ 0 → Contains (sources_of sheet node) source
      → table_of source ≡ tables.Fund
  lowest-source node source h has =
      at_member (λ n. table_of n ≡ tables.Fund) (sources_of sheet node) source (lowest node h)
      (IsMember-from_Contains (sources_of sheet node) source has)
