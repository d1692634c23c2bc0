-- The rules of counterparty default risk fit for a valid balance sheet.
use Rattle.std.proofs.Common.{◌≡◌, ℕ, ◌+◌, ◌*◌, ◌^◌, ◌≤◌, Bool, true, false, List, [], ◌∷◌, map, filter, if◌then◌else◌, sym, subst, arith}
use Rattle.std.specs.List.{AllByRecursion}
use Rattle.std.proofs.lemmas.Int.{ints}
use Rattle.std.proofs.lemmas.List.Elements.{All-from_recursion}
use Rattle.scr_num.specs.Amounts.{IsAmount}
use Rattle.scr_num.specs.Rounding.{Ends}
use Rattle.scr_num.specs.Sizes.{IsWithin}
use Rattle.scr_num.proofs.AmountBounds.{amount-high}
use Rattle.scr_default.specs.declared.TheConstants.{MAX_LOSS}
use Rattle.scr_factors.specs.Values.{FactorValues}
use Rattle.scr_profile.specs.declared.default_class.DefaultClass.{DefaultClass}
use Rattle.scr_profile.specs.declared.default_class.DefaultClass.TheVariants as default_classes
use Rattle.scr_profile.specs.declared.limits.TheConstants.{MAX_AMOUNT}
use Rattle.scr_sheet.specs.Validity.{Valid, IsBank, IsRein}
use Rattle.scr_sheet.specs.declared.{rows.Bank.Bank, rows.Group.Group, sheet.BalanceSheet.BalanceSheet}
use Rattle.scr_sheet.proofs.Amounts.{absorbed-within}
use Rattle.scr_nodes.specs.declared.node.Node.{Node}
use Rattle.scr_nodes.specs.declared.node.Node.TheVariants as nodes
use Rattle.scr_nodes.specs.declared.node.OfGroup.TheVariants as of_groups
use Rattle.scr_nodes.specs.declared.node.Whole.TheVariants as wholes
use Rattle.scr_nodes.specs.declared.node.Risk.TheVariants as risks
use Rattle.scr_nodes.specs.OwnOf.{own_of, reinsured, risk_key}
use Rattle.scr_nodes.specs.Rows.{is_bank_of, is_reinsurer_of, is_of_default_class}
use Rattle.scr_nodes.specs.Sources.{sources_of, group_loss, losses_of_class}
use Rattle.scr_rules.specs.DefaultFits.{IsReinsured}
use Rattle.scr_rules.specs.DefaultGrains.{group_grains}
use Rattle.scr_rules.specs.Figures.{amount_at, figure_at}
use Rattle.scr_rules.specs.Fits.{Fits}
use Rattle.scr_rules.specs.Worked.{worked}
use Rattle.scr_rules.proofs.DefaultSizes.{six, overdue-small, other-small, losses-are, group-is, group-amount, class-amount, square-amount, losses-sum, variance-amount, total-is, type1-amount, type2-amount, default-amount}
use Rattle.scr_rules.proofs.DefaultTotals.{group-small, class-small, groups-small, total-small, where-at-most}
use Rattle.scr_rules.proofs.Gathered.{rows-together, together-wider}
use Rattle.scr_rules.proofs.LifeSizes.{high-part}

-- what holds of the rows that pass a test, as they are shown
chosen-all : {Row X : Type 0} (test : Row → Bool) (shown : Row → X) (P : Row → Type 0) (Q : X → Type 0) (rows : List Row) → ((row : Row) → P row → Q (shown row)) → AllByRecursion P rows
    → AllByRecursion Q (map shown (filter test rows))
chosen-all test shown P Q [] tells all = tt
chosen-all test shown P Q (row ∷ rows) tells all = by (test row) (tells row all.0) (chosen-all test shown P Q rows tells all.1)
  where
    by : (b : Bool) → Q (shown row) → AllByRecursion Q (map shown (filter test rows)) → AllByRecursion Q (map shown (if b then row ∷ filter test rows else filter test rows))
    by true own rest = (own, rest)
    by false own rest = rest

every-figure : (figure : Node → Ends) (P : Ends → Type 0) (groups : List Group) → ((name : List ℕ) → P (figure (nodes.Group name of_groups.Loss))) → AllByRecursion P (map figure (map group_loss groups))
every-figure figure P [] each = tt
every-figure figure P (group ∷ groups) each = (each group.name, every-figure figure P groups each)

module _ (factors : FactorValues) (sheet : BalanceSheet) (valid : Valid sheet) where
  abbrev figure : Node → Ends
  figure node = worked factors sheet node

  abbrev NodeFits : Node → Type 0
  NodeFits node = Fits (own_of factors sheet node) (map figure (sources_of sheet node))

  pub group-fits : (name : List ℕ) → NodeFits (nodes.Group name of_groups.Loss)
  group-fits name = record {
    banks_within = All-from_recursion (λ cents. cents ≤ MAX_AMOUNT) (map (λ (b : Bank). b.cents) (filter (is_bank_of name) sheet.banks))
        (chosen-all (is_bank_of name) (λ (b : Bank). b.cents) IsBank (λ cents. cents ≤ MAX_AMOUNT) sheet.banks (λ b own. own.2) valid.banks);
    reinsurers_within = All-from_recursion IsReinsured (map reinsured (filter (is_reinsurer_of name) sheet.reinsurers))
        (chosen-all (is_reinsurer_of name) reinsured IsRein IsReinsured sheet.reinsurers (λ r own. record { recoverables = own.2; mitigation = own.3; collateral = own.4 }) valid.reinsurers);
    together = subst (λ n. n ≤ MAX_LOSS) (sym (losses-are factors sheet valid name)) (group-small sheet valid name);
  }

  pub class-fits : (class : DefaultClass) → NodeFits (nodes.Whole (wholes.ClassLoss class))
  class-fits class =
      together-wider _ _ _
      (omega (arith, where-at-most (is_of_default_class class) (λ (g : Group). group_grains sheet g.name) sheet.groups, groups-small sheet valid))
      (rows-together figure group_loss (is_of_default_class class) (λ (g : Group). group_grains sheet g.name) sheet.groups
      (each sheet.groups))
    where
      each : (groups : List Group) → AllByRecursion (λ g. is_of_default_class class g ≡ true → IsWithin (group_grains sheet g.name) (figure (group_loss g))) groups
      each [] = tt
      each (g ∷ groups) = ((λ passed. subst (IsWithin (group_grains sheet g.name)) (sym (group-is factors sheet valid g.name)) (record { low = omega arith; high = omega arith })), each groups)

  pub squares-fit : (class : DefaultClass) → NodeFits (nodes.Whole (wholes.ClassSquare class))
  squares-fit class = record {
    each = All-from_recursion (IsAmount MAX_LOSS) (map figure (losses_of_class class sheet)) (every-figure figure (IsAmount MAX_LOSS) (filter (is_of_default_class class) sheet.groups) (λ name. group-amount factors sheet valid name));
    together = subst (λ n. n ≤ MAX_LOSS) (sym (losses-sum factors sheet valid class)) (class-small sheet valid class);
  }

  pub variance-fits : NodeFits (nodes.Whole wholes.Variance)
  variance-fits =
      let figures = map figure (sources_of sheet (nodes.Whole wholes.Variance)) in
      let loss = class-amount factors sheet valid in
      let square = square-amount factors sheet valid in
      record {
        losses = six (λ k. IsAmount MAX_LOSS (figure_at figures k)) (loss default_classes.Step0) (loss default_classes.Step1) (loss default_classes.Step2) (loss default_classes.Step3) (loss default_classes.Step4) (loss default_classes.Steps5And6);
        squares = six (λ k. IsAmount (amount_at figures k * amount_at figures k) (figure_at figures (6 + k))) (square default_classes.Step0) (square default_classes.Step1) (square default_classes.Step2) (square default_classes.Step3) (square default_classes.Step4) (square default_classes.Steps5And6);
      }

  pub band-fits : NodeFits (nodes.Whole wholes.DefaultBand)
  band-fits =
      let figures = map figure (sources_of sheet (nodes.Whole wholes.DefaultBand)) in
      let loss = class-amount factors sheet valid in
      let variance = variance-amount factors sheet valid in
      record {
        losses = six (λ k. IsAmount MAX_LOSS (figure_at figures k)) (loss default_classes.Step0) (loss default_classes.Step1) (loss default_classes.Step2) (loss default_classes.Step3) (loss default_classes.Step4) (loss default_classes.Steps5And6);
        together = subst (λ n. n ≤ MAX_LOSS) (sym (total-is factors sheet valid)) (total-small sheet valid);
        low = variance.not_negative;
        high = omega (arith, ints, amount-high (105 * 10 ^ 30) (figure (nodes.Whole wholes.Variance)) variance);
      }

  pub type1-fits : NodeFits (nodes.Whole wholes.DefaultType1)
  type1-fits =
      let figures = map figure (sources_of sheet (nodes.Whole wholes.DefaultType1)) in
      let loss = class-amount factors sheet valid in
      let variance = variance-amount factors sheet valid in
      record {
        losses = six (λ k. IsAmount MAX_LOSS (figure_at figures k)) (loss default_classes.Step0) (loss default_classes.Step1) (loss default_classes.Step2) (loss default_classes.Step3) (loss default_classes.Step4) (loss default_classes.Steps5And6);
        together = subst (λ n. n ≤ MAX_LOSS) (sym (total-is factors sheet valid)) (total-small sheet valid);
        low = variance.not_negative;
        high = omega (arith, ints, amount-high (105 * 10 ^ 30) (figure (nodes.Whole wholes.Variance)) variance);
      }

  pub type2-fits : NodeFits (nodes.Whole wholes.DefaultType2)
  type2-fits = record { overdue_within = overdue-small sheet valid; other_within = other-small sheet valid }

  pub default-fits : NodeFits (nodes.Whole wholes.Default)
  default-fits =
      let a = type1-amount factors sheet valid in
      let b = type2-amount factors sheet valid in
      let first = high-part _ _ a in
      let second = high-part _ _ b in
      record { lows = (a.not_negative, (b.not_negative, tt)); highs = omega (arith, first, second) }

  pub net-fits : NodeFits (nodes.Whole (wholes.NetPart risks.Default))
  net-fits =
      let gross = default-amount factors sheet valid in
      record {
        absorbed = absorbed-within (risk_key risks.Default) sheet.numbers valid.numbers.absorb;
        gross = record { low = omega (arith, gross.low_size); high = omega (arith, gross.high_size) };
      }
