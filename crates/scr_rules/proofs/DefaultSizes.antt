-- The worked figures of counterparty default risk of a valid balance sheet, and how large they are.
use Rattle.std.proofs.Common.{◌≡◌, ℕ, zero, suc, ◌+◌, ◌*◌, ◌^◌, ◌<◌, ◌≤◌, List, [], ◌∷◌, map, filter, get_or, slice_index, sum_by, pos, refl, ap, ap₂, sym, subst, ◌∙◌, arith}
use Rattle.std.specs.List.{AllByRecursion}
use Rattle.scr_num.specs.Amounts.{IsAmount}
use Rattle.scr_num.specs.Rounding.{Ends, exact_ends}
use Rattle.scr_num.proofs.AmountBounds.{amount-exact, amount-wider, amount-high}
use Rattle.scr_agg.specs.Absorbed.{net_ends}
use Rattle.scr_agg.proofs.ChosenAmounts.{amount-net}
use Rattle.scr_default.specs.LossesEnds.{lgd_bank_grains}
use Rattle.scr_default.specs.VarianceEnds.{variance_ends}
use Rattle.scr_default.specs.Type1Ends.{type1_ends, type1_mask}
use Rattle.scr_default.specs.DefaultEnds.{type2_ends, default_ends}
use Rattle.scr_default.specs.declared.TheConstants.{MAX_LOSS}
use Rattle.scr_default.proofs.Band.{type1-size}
use Rattle.scr_default.proofs.Enclosed.{variance-size, squares-size}
use Rattle.scr_default.proofs.Roots.{type2-size, default-size}
use Rattle.scr_factors.specs.Values.{FactorValues}
use Rattle.scr_profile.specs.declared.default_class.DefaultClass.{DefaultClass}
use Rattle.scr_profile.specs.declared.default_class.DefaultClass.TheVariants as default_classes
use Rattle.scr_profile.specs.declared.limits.TheConstants.{MAX_AMOUNT}
use Rattle.scr_sheet.specs.Absorptions.{absorbed}
use Rattle.scr_sheet.specs.Validity.{Valid}
use Rattle.scr_sheet.specs.Validity as validity
use Rattle.scr_sheet.specs.declared.{rows.Bank.Bank, rows.Group.Group, sheet.BalanceSheet.BalanceSheet}
use Rattle.scr_nodes.specs.declared.node.Node.{Node}
use Rattle.scr_nodes.specs.declared.node.Node.TheVariants as nodes
use Rattle.scr_nodes.specs.declared.node.OfGroup.TheVariants as of_groups
use Rattle.scr_nodes.specs.declared.node.Whole.TheVariants as wholes
use Rattle.scr_nodes.specs.declared.node.Risk.TheVariants as risks
use Rattle.scr_nodes.specs.OwnOf.{reinsured, risk_key}
use Rattle.scr_nodes.specs.Rows.{is_bank_of, is_reinsurer_of, is_of_default_class}
use Rattle.scr_nodes.specs.Sources.{group_loss, losses_of_class}
use Rattle.scr_rules.specs.DefaultGrains.{group_grains, class_grains, class_square_grains, in_classes, total_grains, overdue_cents, other_due_cents}
use Rattle.scr_rules.specs.DefaultRules.{reinsured_grains, losses_grains}
use Rattle.scr_rules.specs.Figures.{amount_of}
use Rattle.scr_rules.specs.Worked.{worked}
use Rattle.scr_rules.proofs.DefaultTotals.{where-mapped, where-measured, group-small, class-small, total-small, squares-small}
use Rattle.scr_rules.proofs.Equations.{worked-equation}
use Rattle.scr_rules.proofs.Gathered.{rows-sum}

-- what holds of every row
every : {X : Type 0} (P : X → Type 0) (xs : List X) → ((x : X) → P x) → AllByRecursion P xs
every P [] each = tt
every P (x ∷ xs) each = (each x, every P xs each)

in_classes-same : (f g : DefaultClass → ℕ) → ((class : DefaultClass) → f class ≡ g class) → in_classes f ≡ in_classes g
in_classes-same f g same = rw (same default_classes.Step0, same default_classes.Step1, same default_classes.Step2, same default_classes.Step3, same default_classes.Step4, same default_classes.Steps5And6) refl

-- what holds of six places
pub six : (P : ℕ → Type 0) → P 0 → P 1 → P 2 → P 3 → P 4 → P 5 → (k : ℕ) → k < 6 → P k
six P a b c d e f zero within = a
six P a b c d e f (suc zero) within = b
six P a b c d e f (suc (suc zero)) within = c
six P a b c d e f (suc (suc (suc zero))) within = d
six P a b c d e f (suc (suc (suc (suc zero)))) within = e
six P a b c d e f (suc (suc (suc (suc (suc zero))))) within = f
six P a b c d e f (suc (suc (suc (suc (suc (suc k)))))) within = absurd (omega (arith, within))

due-small : (due : List ℕ) (k : ℕ) → AllByRecursion validity.IsAmount due → get_or due k 0 ≤ MAX_AMOUNT
due-small [] k all = omega arith
due-small (cents ∷ due) zero all = all.0
due-small (cents ∷ due) (suc k) all = due-small due k all.1

pub overdue-small : (sheet : BalanceSheet) → Valid sheet → overdue_cents sheet ≤ MAX_AMOUNT
overdue-small sheet valid = due-small sheet.numbers.due 0 valid.numbers.due

pub other-small : (sheet : BalanceSheet) → Valid sheet → other_due_cents sheet ≤ MAX_AMOUNT
other-small sheet valid = due-small sheet.numbers.due 1 valid.numbers.due

module _ (factors : FactorValues) (sheet : BalanceSheet) (valid : Valid sheet) where
  abbrev figure : Node → Ends
  figure node = worked factors sheet node

  -- ---- losses given default
  pub losses-are : (name : List ℕ) → losses_grains (map (λ (b : Bank). b.cents) (filter (is_bank_of name) sheet.banks)) (map reinsured (filter (is_reinsurer_of name) sheet.reinsurers)) ≡ group_grains sheet name
  unfolding group_grains
  losses-are name =
      ap₂ ◌+◌ (where-mapped (is_bank_of name) (λ (b : Bank). b.cents) lgd_bank_grains sheet.banks) (where-mapped (is_reinsurer_of name) reinsured reinsured_grains sheet.reinsurers)

  pub group-is : (name : List ℕ) → figure (nodes.Group name of_groups.Loss) ≡ exact_ends (pos (group_grains sheet name))
  group-is name = worked-equation factors sheet valid (nodes.Group name of_groups.Loss) ∙ ap (λ n. exact_ends (pos n)) (losses-are name)

  pub group-amount : (name : List ℕ) → IsAmount MAX_LOSS (figure (nodes.Group name of_groups.Loss))
  group-amount name = subst (IsAmount MAX_LOSS) (sym (group-is name)) (amount-exact MAX_LOSS (group_grains sheet name) (group-small sheet valid name))

  pub class-is : (class : DefaultClass) → figure (nodes.Whole (wholes.ClassLoss class)) ≡ exact_ends (pos (class_grains sheet class))
  unfolding class_grains
  class-is class =
      worked-equation factors sheet valid (nodes.Whole (wholes.ClassLoss class))
      ∙ rows-sum figure group_loss (is_of_default_class class) (λ g. group_grains sheet g.name) sheet.groups
      (every (λ (g : Group). figure (group_loss g) ≡ exact_ends (pos (group_grains sheet g.name))) sheet.groups (λ g. group-is g.name))

  pub class-amount : (class : DefaultClass) → IsAmount MAX_LOSS (figure (nodes.Whole (wholes.ClassLoss class)))
  class-amount class = subst (IsAmount MAX_LOSS) (sym (class-is class)) (amount-exact MAX_LOSS (class_grains sheet class) (class-small sheet valid class))

  pub losses-sum : (class : DefaultClass) → sum_by amount_of (map figure (losses_of_class class sheet)) ≡ class_grains sheet class
  unfolding class_grains
  losses-sum class =
      where-measured figure group_loss (is_of_default_class class) amount_of (λ g. group_grains sheet g.name) sheet.groups
      (every (λ (g : Group). amount_of (figure (group_loss g)) ≡ group_grains sheet g.name) sheet.groups (λ g. ap amount_of (group-is g.name)))

  pub square-is : (class : DefaultClass) → figure (nodes.Whole (wholes.ClassSquare class)) ≡ exact_ends (pos (class_square_grains sheet class))
  unfolding class_square_grains
  square-is class =
      worked-equation factors sheet valid (nodes.Whole (wholes.ClassSquare class))
      ∙ ap (λ n. exact_ends (pos n))
      (where-measured figure group_loss (is_of_default_class class) (λ e. amount_of e * amount_of e) (λ g. group_grains sheet g.name * group_grains sheet g.name) sheet.groups
      (every (λ (g : Group). amount_of (figure (group_loss g)) * amount_of (figure (group_loss g)) ≡ group_grains sheet g.name * group_grains sheet g.name) sheet.groups
      (λ g. ap (λ e. amount_of e * amount_of e) (group-is g.name))))

  pub square-amount : (class : DefaultClass) → IsAmount (amount_of (figure (nodes.Whole (wholes.ClassLoss class))) * amount_of (figure (nodes.Whole (wholes.ClassLoss class)))) (figure (nodes.Whole (wholes.ClassSquare class)))
  square-amount class =
      subst (λ (e : Ends). IsAmount (amount_of e * amount_of e) (figure (nodes.Whole (wholes.ClassSquare class)))) (sym (class-is class))
      (subst (IsAmount (class_grains sheet class * class_grains sheet class)) (sym (square-is class)) (amount-exact (class_grains sheet class * class_grains sheet class) (class_square_grains sheet class) (squares-small sheet valid class)))

  -- ---- their variance
  pub variance-is : figure (nodes.Whole wholes.Variance) ≡ variance_ends (in_classes (class_grains sheet)) (in_classes (class_square_grains sheet))
  variance-is =
      worked-equation factors sheet valid (nodes.Whole wholes.Variance)
      ∙ ap₂ variance_ends (in_classes-same (λ class. amount_of (figure (nodes.Whole (wholes.ClassLoss class)))) (class_grains sheet) (λ class. ap amount_of (class-is class)))
      (in_classes-same (λ class. amount_of (figure (nodes.Whole (wholes.ClassSquare class)))) (class_square_grains sheet) (λ class. ap amount_of (square-is class)))

  pub variance-amount : IsAmount (105 * 10 ^ 30) (figure (nodes.Whole wholes.Variance))
  variance-amount =
      let totals = in_classes (class_grains sheet) in
      let squares = in_classes (class_square_grains sheet) in
      let small = six (λ k. slice_index totals k ≤ MAX_LOSS) (class-small sheet valid default_classes.Step0) (class-small sheet valid default_classes.Step1) (class-small sheet valid default_classes.Step2) (class-small sheet valid default_classes.Step3) (class-small sheet valid default_classes.Step4) (class-small sheet valid default_classes.Steps5And6) in
      let squared = six (λ k. slice_index squares k ≤ slice_index totals k * slice_index totals k) (squares-small sheet valid default_classes.Step0) (squares-small sheet valid default_classes.Step1) (squares-small sheet valid default_classes.Step2) (squares-small sheet valid default_classes.Step3) (squares-small sheet valid default_classes.Step4) (squares-small sheet valid default_classes.Steps5And6) in
      subst (IsAmount (105 * 10 ^ 30)) (sym variance-is) (variance-size totals squares small (squares-size totals squares small squared))

  -- ---- type 1 and type 2 exposures
  pub total-is : amount_of (figure (nodes.Whole (wholes.ClassLoss default_classes.Step0))) + amount_of (figure (nodes.Whole (wholes.ClassLoss default_classes.Step1))) + amount_of (figure (nodes.Whole (wholes.ClassLoss default_classes.Step2))) + amount_of (figure (nodes.Whole (wholes.ClassLoss default_classes.Step3)))
      + amount_of (figure (nodes.Whole (wholes.ClassLoss default_classes.Step4))) + amount_of (figure (nodes.Whole (wholes.ClassLoss default_classes.Steps5And6))) ≡ total_grains sheet
  total-is = rw (class-is default_classes.Step0, class-is default_classes.Step1, class-is default_classes.Step2, class-is default_classes.Step3, class-is default_classes.Step4, class-is default_classes.Steps5And6) refl

  pub band-is : figure (nodes.Whole wholes.DefaultBand) ≡ exact_ends (pos (type1_mask (total_grains sheet) (figure (nodes.Whole wholes.Variance))))
  band-is = worked-equation factors sheet valid (nodes.Whole wholes.DefaultBand) ∙ ap (λ n. exact_ends (pos (type1_mask n (figure (nodes.Whole wholes.Variance))))) total-is

  pub type1-is : figure (nodes.Whole wholes.DefaultType1) ≡ type1_ends (total_grains sheet) (figure (nodes.Whole wholes.Variance))
  type1-is = worked-equation factors sheet valid (nodes.Whole wholes.DefaultType1) ∙ ap (λ n. type1_ends n (figure (nodes.Whole wholes.Variance))) total-is

  pub type1-amount : IsAmount (16 * 10 ^ 16) (figure (nodes.Whole wholes.DefaultType1))
  type1-amount =
      subst (IsAmount (16 * 10 ^ 16)) (sym type1-is)
      (type1-size (total_grains sheet) (figure (nodes.Whole wholes.Variance)) (total-small sheet valid) (amount-wider (105 * 10 ^ 30) (10 ^ 33) (figure (nodes.Whole wholes.Variance)) (omega arith) variance-amount))

  pub type2-is : figure (nodes.Whole wholes.DefaultType2) ≡ type2_ends (overdue_cents sheet) (other_due_cents sheet)
  type2-is = worked-equation factors sheet valid (nodes.Whole wholes.DefaultType2)

  pub type2-amount : IsAmount (2 * 10 ^ 16) (figure (nodes.Whole wholes.DefaultType2))
  type2-amount =
      subst (IsAmount (2 * 10 ^ 16)) (sym type2-is)
      (amount-wider (900 * overdue_cents sheet + 150 * other_due_cents sheet) (2 * 10 ^ 16) (type2_ends (overdue_cents sheet) (other_due_cents sheet)) (omega (arith, overdue-small sheet valid, other-small sheet valid)) (type2-size (overdue_cents sheet) (other_due_cents sheet)))

  -- ---- the module
  pub default-is : figure (nodes.Whole wholes.Default) ≡ default_ends (figure (nodes.Whole wholes.DefaultType1)) (figure (nodes.Whole wholes.DefaultType2))
  default-is = worked-equation factors sheet valid (nodes.Whole wholes.Default)

  pub default-amount : IsAmount (18 * 10 ^ 16) (figure (nodes.Whole wholes.Default))
  default-amount =
      subst (IsAmount (18 * 10 ^ 16)) (sym default-is)
      (amount-wider (16 * 10 ^ 16 + 2 * 10 ^ 16) (18 * 10 ^ 16) (default_ends (figure (nodes.Whole wholes.DefaultType1)) (figure (nodes.Whole wholes.DefaultType2))) (omega arith) (default-size (16 * 10 ^ 16) (2 * 10 ^ 16) (figure (nodes.Whole wholes.DefaultType1)) (figure (nodes.Whole wholes.DefaultType2)) type1-amount type2-amount))

  pub net-is : figure (nodes.Whole (wholes.NetPart risks.Default)) ≡ net_ends (figure (nodes.Whole wholes.Default)) (absorbed (risk_key risks.Default) sheet.numbers)
  net-is = worked-equation factors sheet valid (nodes.Whole (wholes.NetPart risks.Default))

  pub net-amount : IsAmount (18 * 10 ^ 16) (figure (nodes.Whole (wholes.NetPart risks.Default)))
  net-amount =
      subst (IsAmount (18 * 10 ^ 16)) (sym net-is)
      (amount-net (18 * 10 ^ 16) (figure (nodes.Whole wholes.Default)) (absorbed (risk_key risks.Default) sheet.numbers) default-amount.ordered (amount-high (18 * 10 ^ 16) (figure (nodes.Whole wholes.Default)) default-amount))
