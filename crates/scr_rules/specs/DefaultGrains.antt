-- The losses given default as they are worked out (this project's own): in grains, thousandths of a cent, in which each is
-- a whole number, and so exactly those of Article 192 of Delegated Regulation (EU) 2015/35. Beside them what is due.
use Rattle.std.specs.Prelude.{ℕ, ◌+◌, ◌*◌, Bool, List, [], ◌∷◌, slice_index_or, sum_by, if◌then◌else◌}
use Rattle.scr_default.specs.LossesEnds.{lgd_bank_grains, lgd_rein_grains}
use Rattle.scr_profile.specs.declared.default_class.DefaultClass.{DefaultClass}
use Rattle.scr_profile.specs.declared.default_class.DefaultClass.TheVariants as default_classes
use Rattle.scr_sheet.specs.declared.rows.Bank.{Bank}
use Rattle.scr_sheet.specs.declared.rows.Rein.{Rein}
use Rattle.scr_sheet.specs.declared.sheet.BalanceSheet.{BalanceSheet}
use Rattle.scr_nodes.specs.Rows.{is_bank_of, is_reinsurer_of, is_of_default_class}

-- a sum over the rows that pass a test
abbrev pub total_where : {Row : Type 0} → (Row → Bool) → (Row → ℕ) → List Row → ℕ
total_where test amount rows = sum_by (λ row. if test row then amount row else 0) rows

abbrev pub bank_grains : Bank → ℕ
bank_grains bank = lgd_bank_grains bank.cents

abbrev pub reinsurer_grains : Rein → ℕ
reinsurer_grains reinsurer = lgd_rein_grains reinsurer.recoverables reinsurer.mitigation reinsurer.collateral

unfoldable pub group_grains : BalanceSheet → (name : List ℕ) → ℕ
group_grains sheet name =
    total_where (is_bank_of name) bank_grains sheet.banks + total_where (is_reinsurer_of name) reinsurer_grains sheet.reinsurers

unfoldable pub class_grains : BalanceSheet → DefaultClass → ℕ
class_grains sheet class = total_where (is_of_default_class class) (λ group. group_grains sheet group.name) sheet.groups

unfoldable pub class_square_grains : BalanceSheet → DefaultClass → ℕ
class_square_grains sheet class =
    total_where (is_of_default_class class) (λ group. group_grains sheet group.name * group_grains sheet group.name)
    sheet.groups

-- of each class, by their first steps
abbrev pub in_classes : (DefaultClass → ℕ) → List ℕ
in_classes of_class =
    of_class default_classes.Step0 ∷ of_class default_classes.Step1 ∷ of_class default_classes.Step2
    ∷ of_class default_classes.Step3 ∷ of_class default_classes.Step4 ∷ of_class default_classes.Steps5And6 ∷ []

-- of all groups
abbrev pub total_grains : BalanceSheet → ℕ
total_grains sheet =
    class_grains sheet default_classes.Step0 + class_grains sheet default_classes.Step1
    + class_grains sheet default_classes.Step2 + class_grains sheet default_classes.Step3
    + class_grains sheet default_classes.Step4 + class_grains sheet default_classes.Steps5And6

-- what has been due for more than three months, and all else that is due, in cents
abbrev pub overdue_cents : BalanceSheet → ℕ
overdue_cents sheet = slice_index_or sheet.numbers.due 0 0

abbrev pub other_due_cents : BalanceSheet → ℕ
other_due_cents sheet = slice_index_or sheet.numbers.due 1 0
