use Rattle.scr_sheet.specs.Records.{applied}
use Rattle.scr_figure_ids.specs.Records.{step_of}
use Rattle.scr_figure_ids.proofs.Moved.{step-can_back, step-takes_back}
use Rattle.scr_figure_ids.proofs.Recorded.{record-leads}
use Rattle.scr_figure_ids.proofs.laws.taken_back.Goals as goal

pub returns-clause-can : goal.returns-clause-can
returns-clause-can c = λ edit sheet before now numbered takes.
    step-can_back (step_of edit sheet) sheet (applied edit sheet) before now (record-leads edit sheet) numbered takes

pub returns-clause-numbered : goal.returns-clause-numbered
returns-clause-numbered c = λ edit sheet before between now numbered takes back.
    (step-takes_back (step_of edit sheet) sheet (applied edit sheet) before between now (record-leads edit sheet) numbered takes back).0

pub returns-clause-kept : goal.returns-clause-kept
returns-clause-kept c = λ edit sheet before between now numbered takes back.
    (step-takes_back (step_of edit sheet) sheet (applied edit sheet) before between now (record-leads edit sheet) numbered takes back).1
