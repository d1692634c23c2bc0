use Rattle.scr_run.proofs.MadeRuns.{on_script, script_off, tells}
use Rattle.scr_run.proofs.FileSteps.{edits_long}
use Rattle.scr_run.proofs.Told.{cut_text, short_text, whole_text}
use Rattle.scr_run.proofs.making.run_script.Goals as goal

pub returns-in-Err-clause-owed : goal.returns-in-Err-clause-owed
returns-in-Err-clause-owed g c =
    λ shelf. script_off _ _ _ _ _ _ _ (edits_long _ _ c.in-Err.ensures.limited.0 c.in-Err.ensures.limited.1)

pub returns-in-Ok-write_summary-clause-owed : goal.returns-in-Ok-write_summary-clause-owed
returns-in-Ok-write_summary-clause-owed g c =
    λ shelf. on_script _ _ _ _ c.in-Ok.ensures.limited _ _ _ _
    (whole_text _ _ _ _ _ _ _ c.ended.ensures c.in-Ok-write_summary.ensures.written c.in-Ok-write_summary.ensures.refused)

pub returns-in-Err-Failed-clause-owed : goal.returns-in-Err-Failed-clause-owed
returns-in-Err-Failed-clause-owed g c =
    λ shelf. on_script _ _ _ _ c.in-Ok.ensures.limited _ _ _ _
    (cut_text _ _ _ _ _ _ c.in-Err-Failed.field-0-is c.in-Err-Failed.ensures.written)

pub returns-in-Err-NoMemory-clause-owed : goal.returns-in-Err-NoMemory-clause-owed
returns-in-Err-NoMemory-clause-owed g c =
    λ shelf. on_script _ _ _ _ c.in-Ok.ensures.limited _ _ _ _
    (short_text _ _ _ _ _ _ c.in-Err-NoMemory.field-0-is c.in-Err-NoMemory.ensures.written)

pub returns-in-Ok-write_summary-clause-silent : goal.returns-in-Ok-write_summary-clause-silent
returns-in-Ok-write_summary-clause-silent g c =
    λ content silent. absurd (tells _ _ _ _ c.in-Ok.ensures.limited content silent)

pub returns-in-Err-Failed-clause-silent : goal.returns-in-Err-Failed-clause-silent
returns-in-Err-Failed-clause-silent g c =
    λ content silent. absurd (tells _ _ _ _ c.in-Ok.ensures.limited content silent)

pub returns-in-Err-NoMemory-clause-silent : goal.returns-in-Err-NoMemory-clause-silent
returns-in-Err-NoMemory-clause-silent g c = λ content silent. absurd (tells _ _ _ _ c.in-Ok.ensures.limited content silent)
