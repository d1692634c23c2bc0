-- What is owed of an engine is owed of the factors and the book over which it was made.
use Rattle.std.proofs.Common.{◌≡◌, ℕ, List, ap₂, subst, sym}
use Rattle.scr_factors.specs.Values.{FactorValues}
use Rattle.scr_io.specs.Content.{Content}
use Rattle.scr_obligations.specs.Moment.{Answer, Shelved, Sunk}
use Rattle.scr_obligations.specs.Outcome.{TellsNothing}
use Rattle.scr_obligations.specs.Owes.{Owes}
use Rattle.scr_sheet.specs.declared.sheet.BalanceSheet.{BalanceSheet}
use Rattle.scr_tree.specs.Standing.{Standing}
use Rattle.scr_run.specs.Plans.{plan_on}
use Rattle.scr_run.specs.declared.status.Status.{Status}

module _ (made : Standing) (factors : FactorValues) (sheet : BalanceSheet)
    (has_factors : made.factors ≡ factors) (has_sheet : made.sheet ≡ sheet) (edits_name : List ℕ) where
  same_plan : plan_on made.factors edits_name made.sheet ≡ plan_on factors edits_name sheet
  same_plan = ap₂ (λ values book. plan_on values edits_name book) has_factors has_sheet

  pub owed_over : (before now : Shelved) (old new : Sunk) (answer : Answer Status)
      → Owes (plan_on made.factors edits_name made.sheet) before now old new answer
      → Owes (plan_on factors edits_name sheet) before now old new answer
  owed_over before now old new answer h = subst (λ plan. Owes plan before now old new answer) same_plan h

  pub silent_over : (content : List ℕ → Content) → TellsNothing (plan_on factors edits_name sheet) content
      → TellsNothing (plan_on made.factors edits_name made.sheet) content
  silent_over content h = subst (λ plan. TellsNothing plan content) (sym same_plan) h
