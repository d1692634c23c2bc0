-- Each live figure that has a stated width and rests on no open choice keeps to it, in grains and in cents.
use Rattle.std.proofs.Common.{◌≡◌, ◌∙◌, ℕ, ◌+◌, ◌*◌, ◌/◌, ◌≤◌, ℤ, List, Bool, true, false, Option, Some, None, pos, refl, ap, sym, subst, arith, lit<}
use Rattle.std.specs.Option.{option_map_or}
use Rattle.std.specs.Prelude.{option_map}
use Rattle.std.proofs.lemmas.Int.{ints}
use Rattle.scr_num.specs.Narrow.{IsNarrow}
use Rattle.scr_num.specs.Rounding.{Ends, exact_ends, ceil_div, floor_div}
use Rattle.scr_num.proofs.Spreads.{narrow-exact, narrow-quotient, narrow-wider}
use Rattle.scr_factors.specs.Values.{FactorValues, IsInForm}
use Rattle.scr_nodes.specs.Live.{is_live}
use Rattle.scr_nodes.specs.Rows.{has_class}
use Rattle.scr_nodes.specs.declared.node.Alternatives.TheVariants as alternatives
use Rattle.scr_nodes.specs.declared.{node.Measure.Measure, node.Node.Node, node.Risk.Risk, node.Whole.Whole}
use Rattle.scr_nodes.specs.declared.node.Measure.TheVariants as measures
use Rattle.scr_nodes.specs.declared.node.Node.TheVariants as nodes
use Rattle.scr_nodes.specs.declared.node.OfFund.TheVariants as of_funds
use Rattle.scr_nodes.specs.declared.node.OfSecurity.TheVariants as of_securities
use Rattle.scr_nodes.specs.declared.node.OfCurrency.TheVariants as of_currencies
use Rattle.scr_nodes.specs.declared.node.OfGroup.TheVariants as of_groups
use Rattle.scr_nodes.specs.declared.node.Risk.TheVariants as risks
use Rattle.scr_nodes.specs.declared.node.Whole.TheVariants as wholes
use Rattle.scr_sheet.specs.BalanceSheet.{group_name, position_of}
use Rattle.scr_sheet.specs.Validity.{Valid}
use Rattle.scr_sheet.proofs.HeldNames.{row-there}
use Rattle.scr_sheet.specs.declared.rows.Class.TheVariants as classes
use Rattle.scr_sheet.specs.declared.{rows.Position.Position, sheet.BalanceSheet.BalanceSheet}
use Rattle.scr_rules.specs.Worked.{worked}
use Rattle.scr_rules.proofs.DefaultSizes.{band-is, class-is, group-is, square-is}
use Rattle.scr_rules.proofs.Equations.{worked-equation}
use Rattle.scr_rules.proofs.MarketSizes.{assets-worked, group-worked, square-worked}
use Rattle.scr_rules.proofs.Sizes.{class-worked}
use Rattle.scr_widths.specs.Widths.{risk_width, scale_of, stated_width, whole_width, width}
use Rattle.scr_widths.proofs.Cleared.{Clear, clear-sources}
use Rattle.scr_widths.proofs.CurrencyWidths.{currency-narrow}
use Rattle.scr_widths.proofs.DefaultWidths.{default-narrow, default-part, type1-narrow, type2-narrow}
use Rattle.scr_widths.proofs.InterestWidths.{interest-narrow, scenario-narrow}
use Rattle.scr_widths.proofs.LifeWidths.{health_lapse-narrow, life-narrow, life_lapse-narrow, slt-narrow, stress-narrow}
use Rattle.scr_widths.proofs.LossWidths as loss
use Rattle.scr_widths.proofs.MarketWidths.{bond-narrow, concentration-narrow, equity-narrow, market-narrow, part-measured, part-narrow, property-narrow, spread-narrow}
use Rattle.scr_widths.proofs.NonlifeWidths as nonlife

-- within what is stated, where something is
abbrev pub KeepsTo : Option ℕ → Ends → Type 0
KeepsTo (Some most) e = IsNarrow most e
KeepsTo None e = Unit {0}

-- what passes a test is there
there : {A : Type 0} (test : A → Bool) (found : Option A) → option_map_or test found false ≡ true → (x : A) × (found ≡ Some x)
there test None e = absurd (cc)
there test (Some x) e = (x, refl)

-- rounded outward to cents
to-cents : (w : ℕ) (e : Ends) → IsNarrow w e → IsNarrow (w / 1000 + 2) (record { low = floor_div e.low 1000; high = ceil_div e.high 1000 })
to-cents w e h =
    narrow-wider (w / 1000 + 1 + 1) (w / 1000 + 2) _ (omega arith)
    (narrow-quotient e.low e.high (w / 1000 + 1) 1000 (lit< tt) (omega (arith, ints, h.apart)))

module _ (factors : FactorValues) (known : IsInForm factors) (sheet : BalanceSheet) (valid : Valid sheet) where
  abbrev figure : Node → Ends
  figure node = worked factors sheet node

  -- whole numbers
  number : (node : Node) (z : ℤ) → figure node ≡ exact_ends z → IsNarrow 0 (figure node)
  number node z is = subst (IsNarrow 0) (sym is) (narrow-exact z)

  abbrev RiskKeeps : Risk → Type 0
  RiskKeeps risk = IsNarrow (risk_width risk) (figure (nodes.Whole (wholes.NetPart risk)))

  net-narrow : (risk : Risk) → Clear factors sheet valid (nodes.Whole (wholes.NetPart risk)) → RiskKeeps risk
  net-narrow risks.Equity clear = part-measured factors sheet valid risks.Equity measures.Net _ (equity-narrow factors sheet valid)
  net-narrow risks.Property clear = part-measured factors sheet valid risks.Property measures.Net _ (property-narrow factors sheet valid)
  net-narrow risks.Spread clear = part-measured factors sheet valid risks.Spread measures.Net _ (spread-narrow factors sheet valid)
  net-narrow risks.Concentration clear = part-measured factors sheet valid risks.Concentration measures.Net _ (concentration-narrow factors sheet valid)
  net-narrow risks.Default clear = default-part factors sheet valid measures.Net clear
  net-narrow risks.HealthCatastrophe clear = nonlife.health_part-narrow factors known sheet valid measures.Net

  whole-narrow : (what : Whole) → is_live sheet (nodes.Whole what) ≡ true → Clear factors sheet valid (nodes.Whole what)
      → KeepsTo (whole_width (scale_of sheet) what) (figure (nodes.Whole what))
  whole-narrow (wholes.InterestScenario direction measure) live clear = scenario-narrow factors sheet valid direction measure
  whole-narrow (wholes.Choice which) live clear = number (nodes.Whole (wholes.Choice which)) _ (worked-equation factors sheet valid (nodes.Whole (wholes.Choice which)))
  whole-narrow (wholes.Picked alternatives.Interest measure) live clear = interest-narrow factors sheet valid measure clear
  whole-narrow (wholes.Picked alternatives.LifeLapse measure) live clear = life_lapse-narrow factors sheet valid measure clear
  whole-narrow (wholes.Picked alternatives.HealthLapse measure) live clear = health_lapse-narrow factors sheet valid measure clear
  whole-narrow (wholes.ClassSum class) live clear = number (nodes.Whole (wholes.ClassSum class)) _ (class-worked factors sheet valid class)
  whole-narrow (wholes.EquityPart kind) live clear = part-narrow factors sheet valid kind
  whole-narrow wholes.EquityRoot live clear = equity-narrow factors sheet valid
  whole-narrow wholes.Property live clear = property-narrow factors sheet valid
  whole-narrow wholes.Spread live clear = spread-narrow factors sheet valid
  whole-narrow wholes.Assets live clear = number (nodes.Whole wholes.Assets) _ (assets-worked factors sheet valid)
  whole-narrow wholes.Concentration live clear = concentration-narrow factors sheet valid
  whole-narrow (wholes.NetPart risk) live clear = net-narrow risk clear
  whole-narrow (wholes.Currency measure) live clear = currency-narrow factors sheet valid measure clear
  whole-narrow (wholes.Market measure) live clear = market-narrow factors sheet valid measure clear
  whole-narrow (wholes.ClassLoss class) live clear = number (nodes.Whole (wholes.ClassLoss class)) _ (class-is factors sheet valid class)
  whole-narrow (wholes.ClassSquare class) live clear = number (nodes.Whole (wholes.ClassSquare class)) _ (square-is factors sheet valid class)
  whole-narrow wholes.Variance live clear = tt
  whole-narrow wholes.DefaultBand live clear = number (nodes.Whole wholes.DefaultBand) _ (band-is factors sheet valid)
  whole-narrow wholes.DefaultType1 live clear = type1-narrow factors sheet valid clear
  whole-narrow wholes.DefaultType2 live clear = type2-narrow factors sheet valid
  whole-narrow wholes.Default live clear = default-narrow factors sheet valid clear
  whole-narrow (wholes.BioScenario biometric projection measure) live clear = stress-narrow factors sheet valid biometric projection measure
  whole-narrow (wholes.Life measure) live clear = life-narrow factors sheet valid measure clear
  whole-narrow (wholes.Slt measure) live clear = slt-narrow factors sheet valid measure clear
  whole-narrow (wholes.Segment segment) live clear = nonlife.segment-narrow factors known sheet valid segment
  whole-narrow (wholes.PremiumReserve set) live clear = nonlife.premium_reserve-narrow factors known sheet valid set
  whole-narrow (wholes.CatCharge key) live clear = nonlife.charge-narrow factors known sheet valid key
  whole-narrow (wholes.Lapse set) live clear = nonlife.lapse-narrow factors known sheet valid set
  whole-narrow wholes.Natural live clear = nonlife.natural-narrow factors known sheet valid
  whole-narrow wholes.ManMade live clear = nonlife.man_made-narrow factors known sheet valid
  whole-narrow wholes.NonlifeCatastrophe live clear = nonlife.catastrophe-narrow factors known sheet valid
  whole-narrow wholes.HealthCatastrophe live clear = nonlife.health_catastrophe-narrow factors known sheet valid
  whole-narrow (wholes.Nslt measure) live clear = nonlife.nslt-narrow factors known sheet valid measure
  whole-narrow (wholes.Health measure) live clear = loss.health-narrow factors known sheet valid measure clear
  whole-narrow (wholes.Nonlife measure) live clear = nonlife.nonlife-narrow factors known sheet valid measure
  whole-narrow wholes.Intangible live clear = number (nodes.Whole wholes.Intangible) _ (worked-equation factors sheet valid (nodes.Whole wholes.Intangible))
  whole-narrow (wholes.Bscr measure) live clear = loss.bscr-narrow factors known sheet valid measure clear
  whole-narrow (wholes.OpPart part) live clear = loss.operational-narrow factors known sheet valid part clear
  whole-narrow (wholes.Adjust adjustment) live clear = loss.adjustment-narrow factors known sheet valid adjustment clear
  whole-narrow wholes.Scr live clear = loss.scr-narrow factors known sheet valid clear
  whole-narrow wholes.Diversification live clear = loss.diversification-narrow factors known sheet valid clear

  pub node-keeps : (node : Node) → is_live sheet node ≡ true → Clear factors sheet valid node → KeepsTo (width (scale_of sheet) node) (figure node)
  node-keeps (nodes.Fund name of_funds.Total) live clear = number (nodes.Fund name of_funds.Total) _ (worked-equation factors sheet valid (nodes.Fund name of_funds.Total))
  node-keeps (nodes.Security name of_securities.Total) live clear = number (nodes.Security name of_securities.Total) _ (worked-equation factors sheet valid (nodes.Security name of_securities.Total))
  node-keeps (nodes.Security name of_securities.Spread) live clear =
      let found = there (has_class classes.Bond) (position_of name sheet.securities) live in
      bond-narrow factors sheet valid name found.0 found.1
  node-keeps (nodes.Security name what) live clear = tt
  node-keeps (nodes.Liability name what) live clear = tt
  node-keeps (nodes.Currency currency of_currencies.Choice) live clear = number (nodes.Currency currency of_currencies.Choice) _ (worked-equation factors sheet valid (nodes.Currency currency of_currencies.Choice))
  node-keeps (nodes.Currency currency what) live clear = tt
  node-keeps (nodes.Group name of_groups.Total) live clear = number (nodes.Group name of_groups.Total) _ (group-worked factors sheet valid name)
  node-keeps (nodes.Group name of_groups.ConcentrationSquare) live clear =
      let found = row-there group_name name sheet.groups live in
      number (nodes.Group name of_groups.ConcentrationSquare) _ (square-worked factors sheet valid name found.0 found.1)
  node-keeps (nodes.Group name of_groups.Loss) live clear = number (nodes.Group name of_groups.Loss) _ (group-is factors sheet valid name)
  node-keeps (nodes.Whole what) live clear = whole-narrow what live clear

  -- ---- the law
  pub grains-kept : (node : Node) → is_live sheet node ≡ true → Clear factors sheet valid node → (most : ℕ)
      → width (scale_of sheet) node ≡ Some most → IsNarrow most (figure node)
  grains-kept node live clear most is = subst (λ o. KeepsTo o (figure node)) is (node-keeps node live clear)

  pub cents-kept : (node : Node) → is_live sheet node ≡ true → Clear factors sheet valid node → (most : ℕ)
      → stated_width sheet node ≡ Some most
      → IsNarrow most (record { low = floor_div (figure node).low 1000; high = ceil_div (figure node).high 1000 })
  cents-kept node live clear most is = subst (λ o. KeepsTo o in_cents) is (rounded (width (scale_of sheet) node) (node-keeps node live clear))
    where
      in_cents : Ends
      in_cents = record { low = floor_div (figure node).low 1000; high = ceil_div (figure node).high 1000 }

      rounded : (stated : Option ℕ) → KeepsTo stated (figure node) → KeepsTo (option_map (λ grains. grains / 1000 + 2) stated) in_cents
      rounded None h = tt
      rounded (Some w) h = to-cents w (figure node) h
