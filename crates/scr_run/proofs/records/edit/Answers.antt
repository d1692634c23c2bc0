-- What the engine is asked for.
use Rattle.std.proofs.Common.{refl, sym, ap, ◌∙◌}
use Rattle.scr_csv.specs.declared.fault.LineFault.TheVariants.{Syntax}
use Rattle.scr_run.proofs.Recording.{of_reply, of_refusal}
use Rattle.scr_run.proofs.records.edit.Goals as goal

pub returns-in-Ok : goal.returns-in-Ok
returns-in-Ok g c =
    of_reply _ _ _ _ _ c.in-Ok.ensures.answer c.apply.ensures.answer c.apply.ensures.ok c.apply.ensures.err

pub returns-in-Err-Syntax : goal.returns-in-Err-Syntax
returns-in-Err-Syntax g c =
    let fault = c.in-Err-Syntax.field-0-is ∙ ap Syntax (sym c.in-Err-Syntax.field-is) in
    (of_refusal _ _ _ _ c.in-Err-Syntax.ensures.answer fault, record { factors = refl; sheet = refl; rolls = λ roll. refl })

pub returns-in-Err-NoMemory : goal.returns-in-Err-NoMemory
returns-in-Err-NoMemory g c = record { factors = refl; sheet = refl; rolls = λ roll. refl }
