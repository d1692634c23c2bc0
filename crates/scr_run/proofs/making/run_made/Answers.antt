use Rattle.std.proofs.Common.{refl}
use Rattle.scr_obligations.proofs.Walks.{goes_on, silent_later, stops}
use Rattle.scr_run.specs.Plans.{book_plan, made_plan}
use Rattle.scr_run.proofs.making.run_made.Goals as goal

pub returns-in-Ok-clause-owed : goal.returns-in-Ok-clause-owed
unfolding made_plan
returns-in-Ok-clause-owed g c = goes_on _ _ _ _ _ _ _ _ _ _ c.in-Ok.ensures.passed (c.run_book.ensures.owed _)

pub returns-in-Err-clause-owed : goal.returns-in-Err-clause-owed
unfolding made_plan
returns-in-Err-clause-owed g c = stops _ _ _ _ _ _ _ _ c.in-Err.ensures.stopped refl

pub returns-in-Ok-clause-silent : goal.returns-in-Ok-clause-silent
unfolding made_plan
returns-in-Ok-clause-silent g c =
    λ silent. c.run_book.ensures.silent _ (silent_later _ _ (book_plan c.args.number) _ _ _ c.in-Ok.ensures.passed silent)
