-- Sums over the rows that pass a test, and the losses given default of a valid balance sheet: how large they are.
use Rattle.std.proofs.Common.{◌≡◌, ℕ, ◌+◌, ◌*◌, ◌==◌, ◌≤◌, Bool, true, false, List, [], ◌∷◌, map, filter, sum_by, if◌then◌else◌, inl, inr, refl, ◌∙◌, eq-eqb, arith}
use Rattle.std.specs.List.{AllByRecursion}
use Rattle.std.proofs.lemmas.Bool.{cases_eq, ne_eqb}
use Rattle.std.proofs.lemmas.List.Sums.{sum_by-cons, sum_by-le-sum_by}
use Rattle.scr_num.specs.Rounding.{Ends}
use Rattle.scr_default.specs.declared.TheConstants.{MAX_LOSS}
use Rattle.scr_funds.proofs.SumsBy.{sum_by-add, sum_by-map, sum_by-filter}
use Rattle.scr_profile.specs.DefaultClasses.{class_of_step, first_step}
use Rattle.scr_profile.specs.declared.default_class.DefaultClass.{DefaultClass}
use Rattle.scr_profile.specs.declared.default_class.DefaultClass.TheVariants as default_classes
use Rattle.scr_sheet.specs.BalanceSheet.{group_name}
use Rattle.scr_sheet.specs.Validity.{Valid}
use Rattle.scr_sheet.specs.declared.{rows.Bank.Bank, rows.Group.Group, rows.Rein.Rein, sheet.BalanceSheet.BalanceSheet}
use Rattle.scr_nodes.specs.declared.node.Node.{Node}
use Rattle.scr_nodes.specs.Rows.{is_bank_of, is_reinsurer_of, is_of_default_class}
use Rattle.scr_nodes.proofs.OwnRows.{distinct-groups}
use Rattle.scr_rules.specs.DefaultGrains.{total_where, bank_grains, reinsurer_grains, group_grains, class_grains, class_square_grains, total_grains}
use Rattle.scr_rules.proofs.Currencies.{each-row-once}

-- ---- sums over the rows that pass a test
if-at-most : (b : Bool) (n : ℕ) → (if b then n else 0) ≤ n
if-at-most true n = omega arith
if-at-most false n = omega arith

pub where-at-most : {Row : Type 0} (test : Row → Bool) (amount : Row → ℕ) (rows : List Row) → total_where test amount rows ≤ sum_by amount rows
where-at-most test amount rows = sum_by-le-sum_by (λ row. if test row then amount row else 0) amount rows (λ row. if-at-most (test row) (amount row))

-- of mapped rows that passed it
pub where-mapped : {Row X : Type 0} (test : Row → Bool) (shown : Row → X) (amount : X → ℕ) (rows : List Row)
    → sum_by amount (map shown (filter test rows)) ≡ total_where test (λ row. amount (shown row)) rows
where-mapped test shown amount rows = sum_by-map amount shown (filter test rows) ∙ sum_by-filter (λ row. amount (shown row)) test rows

-- of a measure of the figures of the rows
pub where-measured : {Row : Type 0} (figure : Node → Ends) (node_of : Row → Node) (test : Row → Bool) (measure : Ends → ℕ) (amount : Row → ℕ) (rows : List Row)
    → AllByRecursion (λ row. measure (figure (node_of row)) ≡ amount row) rows → sum_by measure (map figure (map node_of (filter test rows))) ≡ total_where test amount rows
where-measured figure node_of test measure amount [] each = refl
where-measured {Row} figure node_of test measure amount (row ∷ rows) each =
    by (test row) each.0 (where-measured figure node_of test measure amount rows each.1) (sum_by-cons (λ (r : Row). if test r then amount r else 0) row rows)
  where
    by : (b : Bool) → measure (figure (node_of row)) ≡ amount row → sum_by measure (map figure (map node_of (filter test rows))) ≡ total_where test amount rows
        → total_where test amount (row ∷ rows) ≡ (if b then amount row else 0) + total_where test amount rows
        → sum_by measure (map figure (map node_of (if b then row ∷ filter test rows else filter test rows))) ≡ total_where test amount (row ∷ rows)
    by true here later is =
        let first = sum_by-cons measure (figure (node_of row)) (map figure (map node_of (filter test rows))) in
        omega (arith, first, here, later, is)
    by false here later is = omega (arith, later, is)

-- a sum of squares is at most the square of the sum
pub where-squares : {Row : Type 0} (test : Row → Bool) (amount : Row → ℕ) (rows : List Row) → total_where test (λ row. amount row * amount row) rows ≤ total_where test amount rows * total_where test amount rows
where-squares test amount [] = omega arith
where-squares {Row} test amount (row ∷ rows) =
    by (test row) (amount row) _ _ _ _ (where-squares test amount rows) (sum_by-cons (λ (r : Row). if test r then amount r * amount r else 0) row rows) (sum_by-cons (λ (r : Row). if test r then amount r else 0) row rows)
  where
    by : (b : Bool) (n q s all whole : ℕ) → q ≤ s * s → all ≡ (if b then n * n else 0) + q → whole ≡ (if b then n else 0) + s → all ≤ whole * whole
    by true n q s all whole h e f = rw (e, f) (omega (arith, h))
    by false n q s all whole h e f = rw (e, f) (omega (arith, h))

-- what no row exceeds a thousandfold, no sum does
times-thousand : {Row : Type 0} (f g : Row → ℕ) (rows : List Row) → ((row : Row) → f row ≤ 1000 * g row) → sum_by f rows ≤ 1000 * sum_by g rows
times-thousand f g [] each = omega arith
times-thousand f g (row ∷ rows) each = omega (arith, sum_by-cons f row rows, sum_by-cons g row rows, each row, times-thousand f g rows each)

-- ---- the classes
-- what a number adds at its own place, so far as the places have come
record IsCounted (class most places sum : ℕ) : Type 0 where
  within : sum ≤ most
  none : places ≤ class → sum ≡ 0

one-more : (class most places sum : ℕ) → IsCounted class most places sum → IsCounted class most (places + 1) (sum + (if class == places then most else 0))
one-more class most places sum h =
    elim (cases_eq class places) [
      | inl same ↦
          let value : (if class == places then most else 0) ≡ most = rw (eq-eqb class places same) refl in
          let none = h.none (omega (arith, same)) in
          record { within = omega (arith, value, none); none = λ le. absurd (omega (arith, le, same)) }
      | inr other ↦
          let value : (if class == places then most else 0) ≡ 0 = rw (ne_eqb class places other) refl in
          record { within = omega (arith, value, h.within); none = λ le. let none = h.none (omega (arith, le)) in omega (arith, value, none) }
    ]

one-class : (class most : ℕ)
    → (if class == 0 then most else 0) + (if class == 1 then most else 0) + (if class == 2 then most else 0) + (if class == 3 then most else 0) + (if class == 4 then most else 0) + (if class == 5 then most else 0)
    ≤ most
one-class class most =
    let all = one-more class most 5 _ (one-more class most 4 _ (one-more class most 3 _ (one-more class most 2 _ (one-more class most 1 _ (one-more class most 0 0 (record { within = omega arith; none = λ le. refl })))))) in
    omega (arith, all.within)

in-one-class : (amount : Group → ℕ) (groups : List Group)
    → total_where (is_of_default_class default_classes.Step0) amount groups + total_where (is_of_default_class default_classes.Step1) amount groups + total_where (is_of_default_class default_classes.Step2) amount groups
    + total_where (is_of_default_class default_classes.Step3) amount groups + total_where (is_of_default_class default_classes.Step4) amount groups + total_where (is_of_default_class default_classes.Steps5And6) amount groups ≤ sum_by amount groups
in-one-class amount [] = omega arith
in-one-class amount (group ∷ groups) =
    omega (
      arith,
      one-class (first_step (class_of_step group.step)) (amount group),
      in-one-class amount groups,
      sum_by-cons amount group groups,
      sum_by-cons (λ (g : Group). if is_of_default_class default_classes.Step0 g then amount g else 0) group groups,
      sum_by-cons (λ (g : Group). if is_of_default_class default_classes.Step1 g then amount g else 0) group groups,
      sum_by-cons (λ (g : Group). if is_of_default_class default_classes.Step2 g then amount g else 0) group groups,
      sum_by-cons (λ (g : Group). if is_of_default_class default_classes.Step3 g then amount g else 0) group groups,
      sum_by-cons (λ (g : Group). if is_of_default_class default_classes.Step4 g then amount g else 0) group groups,
      sum_by-cons (λ (g : Group). if is_of_default_class default_classes.Steps5And6 g then amount g else 0) group groups,
    )

-- ---- of a valid balance sheet
module _ (sheet : BalanceSheet) (valid : Valid sheet) where
  all-grains : sum_by bank_grains sheet.banks + sum_by reinsurer_grains sheet.reinsurers ≤ MAX_LOSS
  all-grains =
      let banks = times-thousand bank_grains (λ (b : Bank). b.cents) sheet.banks (λ b. omega arith) in
      let reinsurers = times-thousand reinsurer_grains (λ (r : Rein). r.recoverables + r.mitigation) sheet.reinsurers (λ r. omega arith) in
      omega (arith, banks, reinsurers, valid.within.defaults)

  pub group-small : (name : List ℕ) → group_grains sheet name ≤ MAX_LOSS
  unfolding group_grains
  group-small name =
      omega (arith, where-at-most (is_bank_of name) bank_grains sheet.banks, where-at-most (is_reinsurer_of name) reinsurer_grains sheet.reinsurers, all-grains)

  pub groups-small : sum_by (λ group. group_grains sheet group.name) sheet.groups ≤ MAX_LOSS
  unfolding group_grains
  groups-small =
      let banks = each-row-once group_name (λ (b : Bank). b.group) bank_grains sheet.groups sheet.banks (distinct-groups sheet valid) in
      let reinsurers = each-row-once group_name (λ (r : Rein). r.group) reinsurer_grains sheet.groups sheet.reinsurers (distinct-groups sheet valid) in
      let parts = sum_by-add (λ (g : Group). total_where (is_bank_of g.name) bank_grains sheet.banks) (λ (g : Group). total_where (is_reinsurer_of g.name) reinsurer_grains sheet.reinsurers) sheet.groups in
      omega (arith, banks, reinsurers, parts, all-grains)

  pub class-small : (class : DefaultClass) → class_grains sheet class ≤ MAX_LOSS
  unfolding class_grains
  class-small class = omega (arith, where-at-most (is_of_default_class class) (λ (g : Group). group_grains sheet g.name) sheet.groups, groups-small)

  pub total-small : total_grains sheet ≤ MAX_LOSS
  unfolding class_grains
  total-small = omega (arith, in-one-class (λ (g : Group). group_grains sheet g.name) sheet.groups, groups-small)

  pub squares-small : (class : DefaultClass) → class_square_grains sheet class ≤ class_grains sheet class * class_grains sheet class
  unfolding class_grains class_square_grains
  squares-small class = where-squares (is_of_default_class class) (λ (g : Group). group_grains sheet g.name) sheet.groups
