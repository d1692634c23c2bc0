-- Figures that cover their rules (this project's own): the ends of each reach as far as those that its rule gives on the
-- figures of its sources, at discounts that enclose the exact ones. Then they enclose the exact figures, whoever found them
-- and whatever they are. The worked figures are such.
use Rattle.std.specs.Prelude.{◌≡◌, ℕ, pos, ◌≤ℤ◌, Bool, true, false, List, Some, map}
use Rattle.scr_num.specs.Rounding.{Ends}
use Rattle.scr_agg.specs.Unbeaten.{Covers}
use Rattle.scr_factors.specs.Values.{FactorValues}
use Rattle.scr_sheet.specs.BalanceSheet.{position_of}
use Rattle.scr_sheet.specs.declared.keys.Projection.{Projection}
use Rattle.scr_sheet.specs.declared.rows.Liability.{Liability}
use Rattle.scr_sheet.specs.declared.rows.Position.{Position}
use Rattle.scr_sheet.specs.declared.sheet.BalanceSheet.{BalanceSheet}
use Rattle.scr_nodes.specs.declared.node.Alternatives.TheVariants as alternatives
use Rattle.scr_nodes.specs.declared.node.Direction.{Direction}
use Rattle.scr_nodes.specs.declared.node.Node.{Node}
use Rattle.scr_nodes.specs.declared.node.Node.TheVariants as nodes
use Rattle.scr_nodes.specs.declared.node.OfCurrency.TheVariants as of_currencies
use Rattle.scr_nodes.specs.declared.node.OfLiability.TheVariants as of_liabilities
use Rattle.scr_nodes.specs.declared.node.OfSecurity.TheVariants as of_securities
use Rattle.scr_nodes.specs.declared.node.Risk.{Risk}
use Rattle.scr_nodes.specs.declared.node.Risk.TheVariants as risks
use Rattle.scr_nodes.specs.declared.node.Whole.TheVariants as wholes
use Rattle.scr_nodes.specs.OwnOf.{own_of}
use Rattle.scr_nodes.specs.Rows.{liability_of, rates_of}
use Rattle.scr_nodes.specs.Sources.{sources_of}
use Rattle.scr_discounts.specs.Discounts.{CurrencyDiscounts}
use Rattle.scr_discounts.specs.Kept.{AreDiscountsAt}
use Rattle.scr_rules.specs.Rules.{rule}

-- ---- what is known exactly

-- a whole number: what is held or exposed in cents, and losses given default and squares of requirements in their units
abbrev pub is_whole_number : Node → Bool
is_whole_number (nodes.Fund name what) = true
is_whole_number (nodes.Security name of_securities.Total) = true
is_whole_number (nodes.Group name what) = true
is_whole_number (nodes.Whole (wholes.ClassSum class)) = true
is_whole_number (nodes.Whole wholes.Assets) = true
is_whole_number (nodes.Whole (wholes.ClassLoss class)) = true
is_whole_number (nodes.Whole (wholes.ClassSquare class)) = true
is_whole_number node = false

-- which alternatives may decide
abbrev pub is_choice : Node → Bool
is_choice (nodes.Whole (wholes.Choice which)) = true
is_choice (nodes.Currency currency of_currencies.Choice) = true
is_choice (nodes.Whole wholes.DefaultBand) = true
is_choice node = false

-- ---- covering

pub record AreCovering (factors : FactorValues) (sheet : BalanceSheet) (figure : Node → Ends) : Type 0 where
  -- at which each figure's own payments are worth what they are
  pub discounts : Node → CurrencyDiscounts
  pub losing : (direction : Direction) (name : List ℕ) (p : Position) → position_of name sheet.securities ≡ Some p
      → AreDiscountsAt (rates_of p.security.currency sheet) (discounts (nodes.Security name (of_securities.UnitLoss direction)))
  pub costing : (direction : Direction) (name : List ℕ) (l : Liability) → liability_of name sheet.liabilities ≡ Some l
      → AreDiscountsAt (rates_of l.currency sheet) (discounts (nodes.Liability name (of_liabilities.Rate direction)))
  pub owing : (name : List ℕ) (l : Liability) → liability_of name sheet.liabilities ≡ Some l
      → AreDiscountsAt (rates_of l.currency sheet) (discounts (nodes.Liability name of_liabilities.Present))
  pub stressed : (projection : Projection) (name : List ℕ) (l : Liability) → liability_of name sheet.liabilities ≡ Some l
      → AreDiscountsAt (rates_of l.currency sheet) (discounts (nodes.Liability name (of_liabilities.Loss projection)))
  pub covers : (node : Node) → Covers (figure node) (rule (own_of factors sheet node) (discounts node) (map figure (sources_of sheet node)))
  -- and nothing else is told of a whole number, nor of a choice
  pub whole : (node : Node) → is_whole_number node ≡ true
      → figure node ≡ rule (own_of factors sheet node) (discounts node) (map figure (sources_of sheet node))
  pub choices : (node : Node) → is_choice node ≡ true
      → figure node ≡ rule (own_of factors sheet node) (discounts node) (map figure (sources_of sheet node))

-- ---- parts of roots, of which none may be told to be below 0

abbrev pub is_risk_of_market : Risk → Bool
is_risk_of_market risks.Default = false
is_risk_of_market risks.HealthCatastrophe = false
is_risk_of_market risk = true

-- of the roots over equities and over market risk (Articles 164 and 168(4) of Delegated Regulation (EU) 2015/35)
abbrev pub is_part_of_market : Node → Bool
is_part_of_market (nodes.Whole (wholes.Picked alternatives.Interest measure)) = true
is_part_of_market (nodes.Whole (wholes.EquityPart kind)) = true
is_part_of_market (nodes.Whole wholes.EquityRoot) = true
is_part_of_market (nodes.Whole wholes.Property) = true
is_part_of_market (nodes.Whole wholes.Spread) = true
is_part_of_market (nodes.Whole wholes.Concentration) = true
is_part_of_market (nodes.Whole (wholes.NetPart risk)) = is_risk_of_market risk
is_part_of_market (nodes.Whole (wholes.Currency measure)) = true
is_part_of_market node = false

-- of the roots over default risk, over biometric stresses, over segments, over catastrophes and over modules (Articles 87,
-- 114, 115, 119, 120, 128, 136, 144, 146, 151, 160 and 189)
abbrev pub is_part_of_modules : Node → Bool
is_part_of_modules (nodes.Whole wholes.DefaultType1) = true
is_part_of_modules (nodes.Whole wholes.DefaultType2) = true
is_part_of_modules (nodes.Whole (wholes.BioScenario biometric projection measure)) = true
is_part_of_modules (nodes.Whole (wholes.Picked alternatives.LifeLapse measure)) = true
is_part_of_modules (nodes.Whole (wholes.Picked alternatives.HealthLapse measure)) = true
is_part_of_modules (nodes.Whole (wholes.Segment segment)) = true
is_part_of_modules (nodes.Whole (wholes.PremiumReserve set)) = true
is_part_of_modules (nodes.Whole (wholes.CatCharge key)) = true
is_part_of_modules (nodes.Whole wholes.Natural) = true
is_part_of_modules (nodes.Whole wholes.ManMade) = true
is_part_of_modules (nodes.Whole wholes.NonlifeCatastrophe) = true
is_part_of_modules (nodes.Whole wholes.HealthCatastrophe) = true
is_part_of_modules (nodes.Whole (wholes.NetPart risks.HealthCatastrophe)) = true
is_part_of_modules (nodes.Whole (wholes.Slt measure)) = true
is_part_of_modules (nodes.Whole (wholes.Nslt measure)) = true
is_part_of_modules (nodes.Whole (wholes.Market measure)) = true
is_part_of_modules (nodes.Whole wholes.Default) = true
is_part_of_modules (nodes.Whole (wholes.NetPart risks.Default)) = true
is_part_of_modules (nodes.Whole (wholes.Life measure)) = true
is_part_of_modules (nodes.Whole (wholes.Health measure)) = true
is_part_of_modules (nodes.Whole (wholes.Nonlife measure)) = true
is_part_of_modules node = false

-- the low end of none of these is below 0
abbrev pub AreNotNegative : (Node → Bool) → (Node → Ends) → Type 0
AreNotNegative is_part figure = (node : Node) → is_part node ≡ true → pos 0 ≤ℤ (figure node).low
