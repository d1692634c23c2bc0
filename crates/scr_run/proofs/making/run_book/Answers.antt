use Rattle.std.proofs.Common.{◌∙◌, ap, sym}
use Rattle.scr_tree.specs.Standing.{Standing}
use Rattle.scr_obligations.proofs.AllPlans.{wants_memory}
use Rattle.scr_run.specs.Readings.{book_in}
use Rattle.scr_run.proofs.MadeRuns.{book_off, owed_on, silent_on}
use Rattle.scr_run.proofs.making.run_book.Goals as goal

pub returns-in_default-clause-owed : goal.returns-in_default-clause-owed
returns-in_default-clause-owed g c = λ shelf. wants_memory _ _ _

pub returns-in-Err-clause-owed : goal.returns-in-Err-clause-owed
returns-in-Err-clause-owed g c =
    λ shelf. book_off _ _ _ (c.as_slice.ensures.value ∙ c.in-Ok.ensures.book) _ _ _ c.in-Err.ensures.answer

pub returns-in_default-new-clause-owed : goal.returns-in_default-new-clause-owed
returns-in_default-new-clause-owed g c = λ shelf. wants_memory _ _ _

pub returns-clause-owed : goal.returns-clause-owed
returns-clause-owed g c =
    λ shelf. owed_on _ _ _ _ c.in-Ok-new.engine (ap (λ (s : Standing). s.factors) c.in-Ok-new.ensures) (ap (λ (s : Standing). s.sheet) c.in-Ok-new.ensures)
    (c.as_slice-2.ensures.value ∙ c.in-Ok.ensures.script)
    (sym (ap book_in (c.as_slice.ensures.value ∙ c.in-Ok.ensures.book)) ∙ c.in-Ok-book_of.ensures.answer) _ _ _ _
    (c.run_script-status.ensures.owed shelf)

pub returns-clause-silent : goal.returns-clause-silent
returns-clause-silent g c =
    λ content silent. c.run_script-status.ensures.silent content
    (silent_on _ _ _ _ c.in-Ok-new.engine (ap (λ (s : Standing). s.factors) c.in-Ok-new.ensures) (ap (λ (s : Standing). s.sheet) c.in-Ok-new.ensures)
    (c.as_slice-2.ensures.value ∙ c.in-Ok.ensures.script)
    (sym (ap book_in (c.as_slice.ensures.value ∙ c.in-Ok.ensures.book)) ∙ c.in-Ok-book_of.ensures.answer) content silent)
