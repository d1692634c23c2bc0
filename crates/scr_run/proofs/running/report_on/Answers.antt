use Rattle.std.proofs.Common.{refl}
use Rattle.scr_obligations.proofs.Walks.{goes_on, silent_later, stops}
use Rattle.scr_run.specs.Plans.{plan_on, told}
use Rattle.scr_run.proofs.Told.{cut_told, short_told, whole_told}
use Rattle.scr_run.proofs.running.report_on.Goals as goal

pub returns-in-Err-clause-owed : goal.returns-in-Err-clause-owed
unfolding plan_on
returns-in-Err-clause-owed g c = stops _ _ _ _ _ _ _ _ c.in-Err.ensures.stopped refl

pub returns-in-Ok-write_report-clause-owed : goal.returns-in-Ok-write_report-clause-owed
unfolding plan_on
returns-in-Ok-write_report-clause-owed g c =
    goes_on _ _ _ _ _ _ _ _ _ _ c.in-Ok.ensures.passed
    (whole_told _ _ _ _ _ _ _ c.as_slice.ensures.value _ _ c.ended.ensures c.in-Ok-write_report.ensures.written c.in-Ok-write_report.ensures.refused)

pub returns-in-Err-Failed-clause-owed : goal.returns-in-Err-Failed-clause-owed
unfolding plan_on
returns-in-Err-Failed-clause-owed g c =
    goes_on _ _ _ _ _ _ _ _ _ _ c.in-Ok.ensures.passed
    (cut_told _ _ _ _ _ _ _ c.as_slice.ensures.value _ c.in-Err-Failed.field-0-is c.in-Err-Failed.ensures.written)

pub returns-clause-owed : goal.returns-clause-owed
unfolding plan_on
returns-clause-owed g c =
    goes_on _ _ _ _ _ _ _ _ _ _ c.in-Ok.ensures.passed
    (short_told _ _ _ _ _ _ _ c.as_slice.ensures.value _ c.in-Err-NoMemory.field-0-is c.in-Err-NoMemory.ensures.written)

pub returns-in-Ok-write_report-clause-silent : goal.returns-in-Ok-write_report-clause-silent
unfolding plan_on told
returns-in-Ok-write_report-clause-silent g c =
    λ silent. absurd (silent_later _ _ (told c.args.engine.now.factors c.args.engine.now.sheet) _ _ _ c.in-Ok.ensures.passed silent)

pub returns-in-Err-Failed-clause-silent : goal.returns-in-Err-Failed-clause-silent
unfolding plan_on told
returns-in-Err-Failed-clause-silent g c =
    λ silent. absurd (silent_later _ _ (told c.args.engine.now.factors c.args.engine.now.sheet) _ _ _ c.in-Ok.ensures.passed silent)

pub returns-clause-silent : goal.returns-clause-silent
unfolding plan_on told
returns-clause-silent g c =
    λ silent. absurd (silent_later _ _ (told c.args.engine.now.factors c.args.engine.now.sheet) _ _ _ c.in-Ok.ensures.passed silent)
