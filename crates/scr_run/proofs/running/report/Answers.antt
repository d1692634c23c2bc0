use Rattle.std.proofs.Common.{refl, ap}
use Rattle.scr_obligations.proofs.AllPlans.{wants_memory}
use Rattle.scr_obligations.proofs.Walks.{goes_on, silent_later, stops}
use Rattle.scr_obligations.specs.Plan.{ask}
use Rattle.scr_tree.specs.Standing.{Standing}
use Rattle.scr_run.specs.Plans.{plan_on, report_plan}
use Rattle.scr_run.specs.Readings.{book_in}
use Rattle.scr_run.proofs.Engines.{owed_over, silent_over}
use Rattle.scr_run.proofs.running.report.Goals as goal

pub returns-in-Err-clause-owed : goal.returns-in-Err-clause-owed
unfolding report_plan
returns-in-Err-clause-owed g c = stops _ _ _ _ _ _ _ _ c.in-Err.ensures.stopped refl

pub returns-in-Err-file_book-clause-owed : goal.returns-in-Err-file_book-clause-owed
unfolding report_plan
returns-in-Err-file_book-clause-owed g c =
    goes_on _ _ _ _ _ _ _ _ _ _ c.in-Ok.ensures.passed (stops _ _ _ _ _ _ _ _ c.in-Err-file_book.ensures.stopped refl)

-- an engine could not be made
pub returns-in_default-clause-owed : goal.returns-in_default-clause-owed
unfolding report_plan
returns-in_default-clause-owed g c =
    goes_on _ _ _ _ _ _ _ _ _ _ c.in-Ok.ensures.passed
    (goes_on _ _ _ _ _ _ _ _ _ _ c.in-Ok-file_book.ensures.passed (wants_memory _ _ _))

pub returns-clause-owed : goal.returns-clause-owed
unfolding report_plan
returns-clause-owed g c =
    goes_on _ _ _ _ _ _ _ _ _ _ c.in-Ok.ensures.passed
    (goes_on _ _ _ _ _ _ _ _ _ _ c.in-Ok-file_book.ensures.passed
    (owed_over c.in-Ok-new.engine _ _ (ap (λ (s : Standing). s.factors) c.in-Ok-new.ensures) (ap (λ (s : Standing). s.sheet) c.in-Ok-new.ensures)
    _ _ _ _ _ _ c.report_on-status.ensures.owed))

pub returns-clause-silent : goal.returns-clause-silent
unfolding report_plan
returns-clause-silent g c =
    λ silent. c.report_on-status.ensures.silent
    (silent_over c.in-Ok-new.engine _ _ (ap (λ (s : Standing). s.factors) c.in-Ok-new.ensures) (ap (λ (s : Standing). s.sheet) c.in-Ok-new.ensures) _ _
    (silent_later _ _ (plan_on c.in-Ok.factors c.args.files.edits.now) _ _ _ c.in-Ok-file_book.ensures.passed
    (silent_later _ _ (λ values. ask c.args.files.book.now book_in
    (plan_on values c.args.files.edits.now)) _ _ _ c.in-Ok.ensures.passed silent)))
