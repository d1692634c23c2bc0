-- How far apart the worked figures of the Basic Solvency Capital Requirement, of operational risk, of the adjustments and of
-- the Solvency Capital Requirement are.
use Rattle.std.proofs.Common.{◌≡◌, ◌∙◌, ℕ, ◌+◌, ◌*◌, ◌/◌, ◌^◌, ◌≤◌, ℤ, ◌-ℤ◌, List, [], ◌∷◌, map, sum_by, pos, refl, sym, subst, arith, lit<, lit≤}
use Rattle.std.specs.Prelude.{slice_index_or}
use Rattle.std.specs.List.{AllByRecursion}
use Rattle.scr_num.specs.Cents.{cents_ends}
use Rattle.scr_num.specs.Narrow.{IsNarrow, AreNarrow}
use Rattle.scr_num.specs.Rounding.{Ends, exact_ends, add_ends, max_ends, min_ends, quad_ends, scale_ends, sub_ends}
use Rattle.scr_num.specs.Sums.{sum_ends}
use Rattle.scr_num.proofs.Spreads.{narrow-wider, narrow-exact, narrow-add, narrow-max, narrow-min, narrow-scale, narrow-sub, narrow-total}
use Rattle.scr_factors.specs.Values.{FactorValues, IsInForm}
use Rattle.scr_loss.specs.BscrEnds.{bscr_ends, intangible_ends, known_diversification_ends, modules_ends}
use Rattle.scr_loss.specs.OperationalEnds.{op_ends, or_nil_ends, prem_ends, prov_ends}
use Rattle.scr_loss.specs.AbsorptionEnds.{absorbed_ends, adj_dt_ends, adj_tp_ends, scr_ends, tax_ends}
use Rattle.scr_profile.specs.declared.correlations.TheConstants.{BSCR}
use Rattle.scr_profile.specs.declared.operational.OpInput.{OpInput}
use Rattle.scr_nodes.specs.OwnOf.{premiums_of, provisions_of}
use Rattle.scr_nodes.specs.Sources.{modules}
use Rattle.scr_nodes.specs.declared.node.Adjustment.TheVariants as adjustments
use Rattle.scr_nodes.specs.declared.{node.Measure.Measure, node.Node.Node}
use Rattle.scr_nodes.specs.declared.node.Measure.TheVariants as measures
use Rattle.scr_nodes.specs.declared.node.Node.TheVariants as nodes
use Rattle.scr_nodes.specs.declared.node.Operational.{Operational}
use Rattle.scr_nodes.specs.declared.node.Operational.TheVariants as operations
use Rattle.scr_nodes.specs.declared.node.Adjustment.{Adjustment}
use Rattle.scr_nodes.specs.declared.node.Whole.TheVariants as wholes
use Rattle.scr_sheet.specs.Validity.{Valid}
use Rattle.scr_sheet.specs.declared.sheet.BalanceSheet.{BalanceSheet}
use Rattle.scr_rules.specs.Worked.{worked}
use Rattle.scr_rules.proofs.LossSizes.{AreOthersWithin, prem-exact, modules-amounts, module_grains, premiums-worked, provisions-worked, bscr-worked, diversification-worked, cap-worked, charge-worked, absorbing-worked, taxed-worked, scr-worked}
use Rattle.scr_rules.proofs.ModulesTogether.{life_grains, others-within, slt_grains}
use Rattle.scr_widths.specs.Widths.{absorbing_width, adjustment_width, bscr_width, cap_width, default_width, diversification_width, health_width, life_width, market_width, nonlife_width, operational_width, requirement_width, scale_of, taxed_width}
use Rattle.scr_widths.specs.declared.scale.Scale.{Scale}
use Rattle.scr_widths.proofs.Cleared.{Clear, clear-sources}
use Rattle.scr_widths.proofs.DefaultWidths.{default-part}
use Rattle.scr_widths.proofs.LifeWidths.{life-narrow, slt-narrow}
use Rattle.scr_widths.proofs.MarketWidths.{market-narrow}
use Rattle.scr_widths.proofs.NonlifeWidths as nonlife
use Rattle.scr_widths.proofs.SumWidths.{narrow-from, narrow-known, narrow-less, narrow-more, narrow-number, narrow-root_of}
use Rattle.scr_widths.proofs.Tables.{bscr-spreads}

-- ---- plain rules
narrow-premiums : (op : OpInput) → IsNarrow 0 (prem_ends op)
narrow-premiums op = subst (IsNarrow 0) (sym (prem-exact op)) (narrow-exact _)

narrow-or_nil : (z : ℤ) → IsNarrow 0 (or_nil_ends (exact_ends z))
narrow-or_nil z = narrow-max 0 (exact_ends (pos 0)) (exact_ends z) (narrow-exact (pos 0)) (narrow-exact z)

narrow-provisions : (op : OpInput) → IsNarrow 2 (prov_ends op)
narrow-provisions op =
    let life = or_nil_ends (exact_ends (op.tpl -ℤ op.tpul)) in
    let other = or_nil_ends (exact_ends op.tpn) in
    narrow-add 1 1 (scale_ends life 9 2) (scale_ends other 30 1)
    (narrow-scale 0 0 9 2 life (lit< tt) (omega arith) (narrow-or_nil (op.tpl -ℤ op.tpul)))
    (narrow-scale 0 0 30 1 other (lit< tt) (omega arith) (narrow-or_nil op.tpn))

narrow-cap : (w : ℕ) (basic : Ends) → IsNarrow w basic → IsNarrow (3 * w / 10 + 2) (scale_ends basic 3 10)
narrow-cap w basic h =
    narrow-wider (3 * w / 10 + 1 + 1) (3 * w / 10 + 2) (scale_ends basic 3 10) (omega arith)
    (narrow-scale w (3 * w / 10 + 1) 3 10 basic (lit< tt) (next w) h)
  where
    next : (n : ℕ) → n * 3 ≤ (3 * n / 10 + 1) * 10
    next n = omega arith

narrow-charge : (w expenses : ℕ) (cap premiums provisions : Ends) → 2 ≤ w → IsNarrow w cap → IsNarrow 0 premiums → IsNarrow 2 provisions
    → IsNarrow w (op_ends cap premiums provisions expenses)
narrow-charge w expenses cap premiums provisions le h k l =
    narrow-more w (250 * expenses) (min_ends cap (max_ends premiums provisions))
    (narrow-min w cap (max_ends premiums provisions) h
    (narrow-max w premiums provisions (narrow-known w premiums k) (narrow-wider 2 w provisions le l)))

narrow-absorbing : (w benefits : ℕ) (basic net : Ends) → IsNarrow w basic → IsNarrow w net → IsNarrow (w + w) (adj_tp_ends basic net benefits)
narrow-absorbing w benefits basic net h k =
    narrow-from (w + w) 0 (absorbed_ends basic net benefits)
    (narrow-max (w + w) (min_ends (sub_ends basic net) (cents_ends benefits)) (exact_ends (pos 0))
    (narrow-min (w + w) (sub_ends basic net) (cents_ends benefits) (narrow-sub w w basic net h k) (narrow-known (w + w) (cents_ends benefits) (narrow-exact _)))
    (narrow-number (w + w) 0))

narrow-taxed : (w rate cap : ℕ) (basic absorbed op : Ends) → IsNarrow w (add_ends (add_ends basic absorbed) op)
    → IsNarrow (rate * w / 1_000_000 + 2) (adj_dt_ends basic absorbed op rate cap)
narrow-taxed w rate cap basic absorbed op h =
    let loss = max_ends (exact_ends (pos 0)) (add_ends (add_ends basic absorbed) op) in
    let k = rate * w / 1_000_000 in
    narrow-from (k + 2) 0 (tax_ends loss rate cap)
    (narrow-min (k + 2) (scale_ends loss rate 1_000_000) (cents_ends cap)
    (narrow-wider (k + 1 + 1) (k + 2) (scale_ends loss rate 1_000_000) (omega arith)
    (narrow-scale w (k + 1) rate 1_000_000 loss (lit< tt) (next (rate * w) (w * rate) (omega arith))
    (narrow-max w (exact_ends (pos 0)) (add_ends (add_ends basic absorbed) op) (narrow-number w 0) h)))
    (narrow-known (k + 2) (cents_ends cap) (narrow-exact _)))
  where
    next : (n m : ℕ) → m ≡ n → m ≤ (n / 1_000_000 + 1) * 1_000_000
    next n m e = omega (arith, e)

module _ (factors : FactorValues) (known : IsInForm factors) (sheet : BalanceSheet) (valid : Valid sheet) where
  abbrev figure : Node → Ends
  figure node = worked factors sheet node

  abbrev scale : Scale
  scale = scale_of sheet

  -- ---- the modules
  pub health-narrow : (measure : Measure) → Clear factors sheet valid (nodes.Whole (wholes.Health measure))
      → IsNarrow (health_width scale) (figure (nodes.Whole (wholes.Health measure)))
  health-narrow measure clear =
      let below = clear-sources factors sheet valid (nodes.Whole (wholes.Health measure)) clear in
      let others = others-within factors sheet valid in
      nonlife.health-narrow factors known sheet valid (slt_grains factors sheet valid) measure (others.slt_amount measure) (slt-narrow factors sheet valid measure below.0)

  abbrev module_widths : List ℕ
  module_widths = market_width scale ∷ default_width ∷ life_width scale ∷ health_width scale ∷ nonlife_width ∷ []

  modules-narrow : (measure : Measure) → AllByRecursion (Clear factors sheet valid) (modules measure) → AreNarrow module_widths (map figure (modules measure))
  modules-narrow measure below = (
    market-narrow factors sheet valid measure below.0,
    (
      default-part factors sheet valid measure below.1.0,
      (
        life-narrow factors sheet valid measure below.1.1.0,
        (health-narrow measure below.1.1.1.0, (nonlife.nonlife-narrow factors known sheet valid measure, tt)),
      ),
    ),
  )

  -- ---- the Basic Solvency Capital Requirement
  basic-narrow : (measure : Measure) → AllByRecursion (Clear factors sheet valid) (modules measure)
      → IsNarrow (bscr_width scale) (bscr_ends (map figure (modules measure)) sheet.numbers.intangible)
  basic-narrow measure below =
      narrow-more (bscr_width scale) (800 * sheet.numbers.intangible) (modules_ends (map figure (modules measure)))
      (narrow-root_of 3 BSCR bscr-spreads
      (module_grains factors known sheet valid _ _ _ _ (others-within factors sheet valid)) module_widths (map figure (modules measure)) refl
      (modules-amounts factors known sheet valid _ _ _ _ (others-within factors sheet valid) measure) (modules-narrow measure below)
      (bscr_width scale) (omega arith))

  pub bscr-narrow : (measure : Measure) → Clear factors sheet valid (nodes.Whole (wholes.Bscr measure))
      → IsNarrow (bscr_width scale) (figure (nodes.Whole (wholes.Bscr measure)))
  bscr-narrow measure clear =
      subst (IsNarrow (bscr_width scale)) (sym (bscr-worked factors known sheet valid measure))
      (basic-narrow measure (clear-sources factors sheet valid (nodes.Whole (wholes.Bscr measure)) clear))

  pub diversification-narrow : Clear factors sheet valid (nodes.Whole wholes.Diversification)
      → IsNarrow (diversification_width scale) (figure (nodes.Whole wholes.Diversification))
  diversification-narrow clear =
      let below = clear-sources factors sheet valid (nodes.Whole wholes.Diversification) clear in
      let parts = map figure (modules measures.Gross) in
      let intangible = sheet.numbers.intangible in
      let basic = bscr_ends parts intangible in
      let clear_modules : AllByRecursion (Clear factors sheet valid) (modules measures.Gross) =
      (below.0, (below.1.0, (below.1.1.0, (below.1.1.1.0, (below.1.1.1.1.0, tt))))) in
      subst (IsNarrow (diversification_width scale)) (sym (diversification-worked factors known sheet valid))
      (narrow-wider (sum_by (λ w. w) module_widths + bscr_width scale) (diversification_width scale) _ (omega arith)
      (narrow-sub (sum_by (λ w. w) module_widths) (bscr_width scale) (sum_ends parts) (sub_ends basic (intangible_ends intangible))
      (narrow-total module_widths parts (modules-narrow measures.Gross clear_modules))
      (narrow-less (bscr_width scale) (800 * intangible) basic (basic-narrow measures.Gross clear_modules))))

  -- ---- operational risk
  premiums-narrow : IsNarrow 0 (figure (nodes.Whole (wholes.OpPart operations.Premiums)))
  premiums-narrow = subst (IsNarrow 0) (sym (premiums-worked factors known sheet valid)) (narrow-premiums (premiums_of sheet.numbers))

  provisions-narrow : IsNarrow 2 (figure (nodes.Whole (wholes.OpPart operations.Provisions)))
  provisions-narrow = subst (IsNarrow 2) (sym (provisions-worked factors known sheet valid)) (narrow-provisions (provisions_of sheet.numbers))

  cap-narrow : Clear factors sheet valid (nodes.Whole (wholes.OpPart operations.Cap)) → IsNarrow (cap_width scale) (figure (nodes.Whole (wholes.OpPart operations.Cap)))
  cap-narrow clear =
      let below = clear-sources factors sheet valid (nodes.Whole (wholes.OpPart operations.Cap)) clear in
      subst (IsNarrow (cap_width scale)) (sym (cap-worked factors known sheet valid))
      (narrow-cap (bscr_width scale) (figure (nodes.Whole (wholes.Bscr measures.Gross))) (bscr-narrow measures.Gross below.0))

  pub operational-narrow : (part : Operational) → Clear factors sheet valid (nodes.Whole (wholes.OpPart part))
      → IsNarrow (operational_width scale part) (figure (nodes.Whole (wholes.OpPart part)))
  operational-narrow operations.Premiums clear = premiums-narrow
  operational-narrow operations.Provisions clear = provisions-narrow
  operational-narrow operations.Cap clear = cap-narrow clear
  operational-narrow operations.Charge clear =
      let below = clear-sources factors sheet valid (nodes.Whole (wholes.OpPart operations.Charge)) clear in
      subst (IsNarrow (cap_width scale)) (sym (charge-worked factors known sheet valid))
      (narrow-charge (cap_width scale) (slice_index_or sheet.numbers.earned 6 0) (figure (nodes.Whole (wholes.OpPart operations.Cap)))
      (figure (nodes.Whole (wholes.OpPart operations.Premiums))) (figure (nodes.Whole (wholes.OpPart operations.Provisions))) (omega arith)
      (cap-narrow below.1.1.0) premiums-narrow provisions-narrow)

  -- ---- adjustments
  absorbing-narrow : Clear factors sheet valid (nodes.Whole (wholes.Adjust adjustments.TechnicalProvisions))
      → IsNarrow (absorbing_width scale) (figure (nodes.Whole (wholes.Adjust adjustments.TechnicalProvisions)))
  absorbing-narrow clear =
      let below = clear-sources factors sheet valid (nodes.Whole (wholes.Adjust adjustments.TechnicalProvisions)) clear in
      subst (IsNarrow (absorbing_width scale)) (sym (absorbing-worked factors known sheet valid))
      (narrow-absorbing (bscr_width scale) sheet.numbers.fdb (figure (nodes.Whole (wholes.Bscr measures.Gross))) (figure (nodes.Whole (wholes.Bscr measures.Net)))
      (bscr-narrow measures.Gross below.0) (bscr-narrow measures.Net below.1.0))

  pub adjustment-narrow : (adjustment : Adjustment) → Clear factors sheet valid (nodes.Whole (wholes.Adjust adjustment))
      → IsNarrow (adjustment_width scale adjustment) (figure (nodes.Whole (wholes.Adjust adjustment)))
  adjustment-narrow adjustments.TechnicalProvisions clear = absorbing-narrow clear
  adjustment-narrow adjustments.DeferredTaxes clear =
      let below = clear-sources factors sheet valid (nodes.Whole (wholes.Adjust adjustments.DeferredTaxes)) clear in
      let basic = figure (nodes.Whole (wholes.Bscr measures.Gross)) in
      let absorbed = figure (nodes.Whole (wholes.Adjust adjustments.TechnicalProvisions)) in
      let op = figure (nodes.Whole (wholes.OpPart operations.Charge)) in
      subst (IsNarrow (taxed_width scale)) (sym (taxed-worked factors known sheet valid))
      (narrow-taxed (bscr_width scale + absorbing_width scale + cap_width scale) sheet.numbers.tax sheet.numbers.cap basic absorbed op
      (narrow-add (bscr_width scale + absorbing_width scale) (cap_width scale) (add_ends basic absorbed) op
      (narrow-add (bscr_width scale) (absorbing_width scale) basic absorbed (bscr-narrow measures.Gross below.0) (absorbing-narrow below.1.0))
      (operational-narrow operations.Charge below.1.1.0)))

  -- ---- the Solvency Capital Requirement
  pub scr-narrow : Clear factors sheet valid (nodes.Whole wholes.Scr) → IsNarrow (requirement_width scale) (figure (nodes.Whole wholes.Scr))
  scr-narrow clear =
      let below = clear-sources factors sheet valid (nodes.Whole wholes.Scr) clear in
      let basic = figure (nodes.Whole (wholes.Bscr measures.Gross)) in
      let absorbed = figure (nodes.Whole (wholes.Adjust adjustments.TechnicalProvisions)) in
      let taxed = figure (nodes.Whole (wholes.Adjust adjustments.DeferredTaxes)) in
      let op = figure (nodes.Whole (wholes.OpPart operations.Charge)) in
      subst (IsNarrow (requirement_width scale)) (sym (scr-worked factors known sheet valid))
      (narrow-add (bscr_width scale + absorbing_width scale + taxed_width scale) (cap_width scale) (add_ends (add_ends basic absorbed) taxed) op
      (narrow-add (bscr_width scale + absorbing_width scale) (taxed_width scale) (add_ends basic absorbed) taxed
      (narrow-add (bscr_width scale) (absorbing_width scale) basic absorbed (bscr-narrow measures.Gross below.0) (adjustment-narrow adjustments.TechnicalProvisions below.1.0))
      (adjustment-narrow adjustments.DeferredTaxes below.1.1.0))
      (operational-narrow operations.Charge below.1.1.1.0))
