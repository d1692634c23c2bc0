-- The exact figures of counterparty default risk, in cents: Articles 189, 192 and 199 to 202 of Delegated Regulation (EU)
-- 2015/35. Nothing is rounded.
use Rattle.std.specs.Prelude.{ℕ, List, Some}
use Rattle.scr_num.specs.Fraction.{Fraction, plus, square}
use Rattle.scr_num.specs.Figure.{Figure}
use Rattle.scr_default.specs.Losses.{lgd_bank_exact, lgd_rein_exact}
use Rattle.scr_default.specs.Variance.{sum_of_classes, variance_exact}
use Rattle.scr_default.specs.Type1.{band_of, type1_figure}
use Rattle.scr_default.specs.Default.{type2_figure, default_figure}
use Rattle.scr_profile.specs.DefaultClasses.{class_of_step}
use Rattle.scr_profile.specs.declared.default_class.DefaultClass.{DefaultClass}
use Rattle.scr_sheet.specs.declared.rows.Bank.{Bank}
use Rattle.scr_sheet.specs.declared.rows.Rein.{Rein}
use Rattle.scr_sheet.specs.declared.sheet.BalanceSheet.{BalanceSheet}
use Rattle.scr_nodes.specs.Rows.{is_bank_of, is_reinsurer_of, is_of_default_class}
use Rattle.scr_rules.specs.DefaultGrains.{overdue_cents, other_due_cents}
use Rattle.scr_exact.specs.InterestExact.{sum_where}

-- ---- losses given default (Article 192)

abbrev pub bank_loss : Bank → Fraction
bank_loss bank = lgd_bank_exact bank.cents

abbrev pub reinsurer_loss : Rein → Fraction
reinsurer_loss reinsurer = lgd_rein_exact reinsurer.recoverables reinsurer.mitigation reinsurer.collateral

-- what is lost where a group defaults: by all its banks and reinsurers (this project's own)
unfoldable pub group_loss : BalanceSheet → (name : List ℕ) → Fraction
group_loss sheet name =
    plus (sum_where (is_bank_of name) bank_loss sheet.banks) (sum_where (is_reinsurer_of name) reinsurer_loss sheet.reinsurers)

-- of the groups of a class of probability, and the squares of these losses
unfoldable pub class_loss : BalanceSheet → DefaultClass → Fraction
class_loss sheet class = sum_where (is_of_default_class class) (λ group. group_loss sheet group.name) sheet.groups

unfoldable pub class_square : BalanceSheet → DefaultClass → Fraction
class_square sheet class =
    sum_where (is_of_default_class class) (λ group. square (group_loss sheet group.name)) sheet.groups

-- those of the class of a step, and so of each class by its first step
abbrev pub loss_at : BalanceSheet → (step : ℕ) → Fraction
loss_at sheet step = class_loss sheet (class_of_step (Some step))

abbrev pub square_at : BalanceSheet → (step : ℕ) → Fraction
square_at sheet step = class_square sheet (class_of_step (Some step))

-- ---- type 1 and type 2 exposures (Articles 199 to 202)

-- the losses of all classes together
abbrev pub total_loss : BalanceSheet → Fraction
total_loss sheet = sum_of_classes (loss_at sheet)

-- the variance of the loss distribution of all type 1 exposures (Article 201)
unfoldable pub default_variance : BalanceSheet → Fraction
default_variance sheet = variance_exact (loss_at sheet) (square_at sheet)

-- the band of the standard deviation that decides: 0 up to 7 percent of all losses, 1 up to 20 percent, 2 above (Article
-- 200)
abbrev pub default_band : BalanceSheet → ℕ
default_band sheet = band_of (total_loss sheet) (default_variance sheet)

-- the capital requirements for type 1 exposures, for type 2 exposures and for both together (Articles 200, 202 and 189(1))
unfoldable pub type1_exact : BalanceSheet → Figure
type1_exact sheet = type1_figure (total_loss sheet) (default_variance sheet)

abbrev pub due_exact : BalanceSheet → Figure
due_exact sheet = type2_figure (overdue_cents sheet) (other_due_cents sheet)

unfoldable pub default_exact : BalanceSheet → Figure
default_exact sheet = default_figure (type1_exact sheet) (due_exact sheet)
