-- How far apart the worked figures of counterparty default risk are.
use Rattle.std.proofs.Common.{◌≡◌, ◌∙◌, ℕ, ◌+◌, ◌*◌, ◌^◌, List, [], ◌∷◌, pos, refl, sym, subst, arith, lit≤}
use Rattle.scr_num.specs.Narrow.{IsNarrow}
use Rattle.scr_num.specs.Rounding.{Ends}
use Rattle.scr_num.proofs.Spreads.{narrow-wider, narrow-exact}
use Rattle.scr_agg.specs.Unbeaten.{HasSeveral}
use Rattle.scr_default.specs.Type1Ends.{type1_mask}
use Rattle.scr_default.proofs.Widths.{narrow-variance, narrow-type1}
use Rattle.scr_factors.specs.Values.{FactorValues}
use Rattle.scr_nodes.specs.declared.{node.Measure.Measure, node.Node.Node}
use Rattle.scr_nodes.specs.declared.node.Measure.TheVariants as measures
use Rattle.scr_nodes.specs.declared.node.Node.TheVariants as nodes
use Rattle.scr_nodes.specs.declared.node.Risk.TheVariants as risks
use Rattle.scr_nodes.specs.declared.node.Whole.TheVariants as wholes
use Rattle.scr_nodes.specs.OwnOf.{risk_key}
use Rattle.scr_nodes.specs.Sources.{risk_part}
use Rattle.scr_profile.specs.declared.correlations.TheConstants.{DEFAULT}
use Rattle.scr_sheet.specs.Absorptions.{absorbed}
use Rattle.scr_sheet.specs.Validity.{Valid}
use Rattle.scr_sheet.specs.declared.sheet.BalanceSheet.{BalanceSheet}
use Rattle.scr_rules.specs.DefaultGrains.{class_grains, class_square_grains, in_classes, total_grains}
use Rattle.scr_rules.specs.Rules.{amount_of}
use Rattle.scr_rules.specs.Worked.{worked}
use Rattle.scr_rules.proofs.DefaultSizes.{variance-is, variance-amount, band-is, type1-is, type1-amount, type2-is, type2-amount, default-is, net-is}
use Rattle.scr_widths.specs.Widths.{default_width}
use Rattle.scr_widths.proofs.Cleared.{Clear, clear-choice, clear-sources, not-several}
use Rattle.scr_widths.proofs.SumWidths.{narrow-net, narrow-root_of}
use Rattle.scr_widths.proofs.Tables.{default-spreads}

module _ (factors : FactorValues) (sheet : BalanceSheet) (valid : Valid sheet) where
  abbrev figure : Node → Ends
  figure node = worked factors sheet node

  pub variance-narrow : IsNarrow 42 (figure (nodes.Whole wholes.Variance))
  variance-narrow =
      subst (IsNarrow 42) (sym (variance-is factors sheet valid))
      (narrow-variance (in_classes (class_grains sheet)) (in_classes (class_square_grains sheet)))

  -- one band alone is possible
  one-band : Clear factors sheet valid (nodes.Whole wholes.DefaultBand)
      → HasSeveral (type1_mask (total_grains sheet) (figure (nodes.Whole wholes.Variance))) → ⊥
  one-band clear =
      subst (λ (e : Ends). HasSeveral (amount_of e) → ⊥) (band-is factors sheet valid)
      (not-several (figure (nodes.Whole wholes.DefaultBand))
      (clear-choice factors sheet valid (nodes.Whole wholes.DefaultBand) clear))

  pub type1-narrow : Clear factors sheet valid (nodes.Whole wholes.DefaultType1)
      → IsNarrow 60 (figure (nodes.Whole wholes.DefaultType1))
  type1-narrow clear =
      let below = clear-sources factors sheet valid (nodes.Whole wholes.DefaultType1) clear in
      let variance = figure (nodes.Whole wholes.Variance) in
      let amount = variance-amount factors sheet valid in
      subst (IsNarrow 60) (sym (type1-is factors sheet valid))
      (narrow-wider 35 60 _ (lit≤ tt)
      (narrow-type1 (total_grains sheet) variance amount.not_negative variance-narrow (one-band below.1.1.1.1.1.1.1.0)))

  pub type2-narrow : IsNarrow 0 (figure (nodes.Whole wholes.DefaultType2))
  type2-narrow = subst (IsNarrow 0) (sym (type2-is factors sheet valid)) (narrow-exact _)

  pub default-narrow : Clear factors sheet valid (nodes.Whole wholes.Default)
      → IsNarrow default_width (figure (nodes.Whole wholes.Default))
  default-narrow clear =
      let below = clear-sources factors sheet valid (nodes.Whole wholes.Default) clear in
      subst (IsNarrow default_width) (sym (default-is factors sheet valid))
      (narrow-root_of 2 DEFAULT default-spreads (16 * 10 ^ 16 ∷ 2 * 10 ^ 16 ∷ []) (60 ∷ 0 ∷ []) _ refl
      (type1-amount factors sheet valid, (type2-amount factors sheet valid, tt)) (type1-narrow below.0, (type2-narrow, tt))
      default_width (lit≤ tt))

  pub default-part : (measure : Measure) → Clear factors sheet valid (risk_part risks.Default measure)
      → IsNarrow default_width (figure (risk_part risks.Default measure))
  default-part measures.Gross clear = default-narrow clear
  default-part measures.Net clear =
      let below = clear-sources factors sheet valid (nodes.Whole (wholes.NetPart risks.Default)) clear in
      subst (IsNarrow default_width) (sym (net-is factors sheet valid))
      (narrow-net default_width (absorbed (risk_key risks.Default) sheet.numbers) (figure (nodes.Whole wholes.Default))
      (default-narrow below.0))
