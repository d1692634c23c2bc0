use Rattle.scr_run.proofs.FileSteps.{factors_passed, factors_stop}
use Rattle.scr_run.proofs.files.file_factors.Goals as goal

pub returns-in-Ok-read_factors-clause-passed : goal.returns-in-Ok-read_factors-clause-passed
returns-in-Ok-read_factors-clause-passed g c =
    factors_passed _ _ _ _ _ c.as_slice.ensures.value _ c.in-Ok.ensures.passed c.in-Ok-read_factors.ensures

pub returns-clause-stopped : goal.returns-clause-stopped
returns-clause-stopped g c =
    factors_stop _ _ _ _ _ c.as_slice.ensures.value _ _ c.factors_refused.ensures.status c.in-Ok.ensures.passed c.in-Err-read_factors.ensures
