use Rattle.std.proofs.Common.{refl, ap}
use Rattle.scr_obligations.proofs.AllPlans.{wants_memory}
use Rattle.scr_obligations.proofs.Walks.{goes_on, stops}
use Rattle.scr_tree.specs.Standing.{Standing}
use Rattle.scr_explain.specs.Answer.{question_plan}
use Rattle.scr_explain.proofs.Owed.{owed_over}
use Rattle.scr_explain.proofs.explaining.explain.Goals as goal

pub returns-in-Err : goal.returns-in-Err
unfolding question_plan
returns-in-Err g c = stops _ _ _ _ _ _ _ _ c.in-Err.ensures.stopped refl

pub returns-in-Err-file_book : goal.returns-in-Err-file_book
unfolding question_plan
returns-in-Err-file_book g c =
    goes_on _ _ _ _ _ _ _ _ _ _ c.in-Ok.ensures.passed (stops _ _ _ _ _ _ _ _ c.in-Err-file_book.ensures.stopped refl)

-- an engine could not be made
pub returns-in_default : goal.returns-in_default
unfolding question_plan
returns-in_default g c =
    goes_on _ _ _ _ _ _ _ _ _ _ c.in-Ok.ensures.passed
    (goes_on _ _ _ _ _ _ _ _ _ _ c.in-Ok-file_book.ensures.passed (wants_memory _ _ _))

pub returns : goal.returns
unfolding question_plan
returns g c =
    goes_on _ _ _ _ _ _ _ _ _ _ c.in-Ok.ensures.passed
    (goes_on _ _ _ _ _ _ _ _ _ _ c.in-Ok-file_book.ensures.passed
    (owed_over _ _ _ c.in-Ok-new.engine (ap (λ (s : Standing). s.factors) c.in-Ok-new.ensures) (ap (λ (s : Standing). s.sheet) c.in-Ok-new.ensures)
    _ _ _ _ _ (c.tell-status.ensures _)))
