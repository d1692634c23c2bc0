use Rattle.scr_sheet.specs.Records.{applied}
use Rattle.scr_figure_ids.specs.Records.{step_of}
use Rattle.scr_figure_ids.proofs.Live.{named-once}
use Rattle.scr_figure_ids.proofs.Moved.{step-can, step-keeps, step-numbered}
use Rattle.scr_figure_ids.proofs.Recorded.{record-leads}
use Rattle.scr_figure_ids.proofs.laws.records.Goals as goal

pub returns-clause-can : goal.returns-clause-can
returns-clause-can c = λ edit sheet places numbered.
    step-can (step_of edit sheet) sheet (applied edit sheet) places (record-leads edit sheet) numbered

pub returns-clause-numbered : goal.returns-clause-numbered
returns-clause-numbered c = λ edit sheet before now numbered takes.
    step-numbered (step_of edit sheet) sheet (applied edit sheet) before now (record-leads edit sheet) takes numbered

pub returns-clause-keeps : goal.returns-clause-keeps
returns-clause-keeps c = λ edit sheet before now valid valid_now takes.
    step-keeps (step_of edit sheet) sheet (applied edit sheet) before now (record-leads edit sheet) takes
    (named-once sheet valid) (named-once (applied edit sheet) valid_now)
