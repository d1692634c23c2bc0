-- What record asks for.
use Rattle.std.proofs.Common.{refl, sym, ap, ◌∙◌}
use Rattle.scr_csv.specs.declared.fault.LineFault.TheVariants.{Syntax}
use Rattle.scr_run.proofs.Recording.{of_record, of_refusal}
use Rattle.scr_run.proofs.records.record.Goals as goal

pub returns-in-Ok : goal.returns-in-Ok
returns-in-Ok c =
    of_record _ _ _ _ _ c.in-Ok.ensures.answer c.take.ensures.answer c.take.ensures.ok c.take.ensures.err

pub returns-in-Err-Syntax : goal.returns-in-Err-Syntax
returns-in-Err-Syntax c =
    let fault = c.in-Err-Syntax.field-0-is ∙ ap Syntax (sym c.in-Err-Syntax.field-is) in
    (of_refusal _ _ _ _ c.in-Err-Syntax.ensures.answer fault, refl)
