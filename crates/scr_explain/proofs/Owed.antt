-- What is owed of an answer, and of the engine that gives it.
use Rattle.std.proofs.Common.{◌≡◌, ℕ, Bool, List, ap, ap₂, subst}
use Rattle.scr_factors.specs.Values.{FactorValues}
use Rattle.scr_obligations.specs.Moment.{Answer, Shelved, Sunk}
use Rattle.scr_obligations.specs.Owes.{Owes}
use Rattle.scr_obligations.specs.Plan.{Plan}
use Rattle.scr_obligations.specs.Plan.Plan.{Tell}
use Rattle.scr_sheet.specs.declared.sheet.BalanceSheet.{BalanceSheet}
use Rattle.scr_tree.specs.Standing.{Standing}
use Rattle.scr_run.specs.Plans.{ended_status}
use Rattle.scr_run.specs.declared.status.Status.{Status}
use Rattle.scr_explain.specs.Answer.{answer_to, answered}
use Rattle.scr_explain.specs.declared.question.Asked.{Asked}

module _ (asked : Asked) (factors : FactorValues) (sheet : BalanceSheet) where
  module _ (text : List ℕ) (refused : Bool) (is : ◌≡◌ {A = List ℕ × Bool} (text, refused) (answer_to factors sheet asked)) where
    same_text : ◌≡◌ {A = Plan Status} (Tell (ended_status refused) text) (answered asked factors sheet)
    unfolding answered
    same_text = ap (λ (a : List ℕ × Bool). let p : Plan Status = Tell (ended_status a.1) a.0 in p) is

    -- the text of the answer is what is owed
    pub owed_as : (before now : Shelved) (old new : Sunk) (answer : Answer Status)
        → Owes (Tell (ended_status refused) text) before now old new answer
        → Owes (answered asked factors sheet) before now old new answer
    owed_as before now old new answer h = subst (λ plan. Owes plan before now old new answer) same_text h

  module _ (made : Standing) (has_factors : made.factors ≡ factors) (has_sheet : made.sheet ≡ sheet) where
    same_plan : answered asked made.factors made.sheet ≡ answered asked factors sheet
    same_plan = ap₂ (λ values book. answered asked values book) has_factors has_sheet

    -- what is owed of an engine is owed of the factors and the book over which it was made
    pub owed_over : (before now : Shelved) (old new : Sunk) (answer : Answer Status)
        → Owes (answered asked made.factors made.sheet) before now old new answer
        → Owes (answered asked factors sheet) before now old new answer
    owed_over before now old new answer h = subst (λ plan. Owes plan before now old new answer) same_plan h
