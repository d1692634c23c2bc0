use Rattle.std.proofs.Common.{rules, Some, ap, ◌∙◌}
use Rattle.scr_obligations.proofs.AllPlans.{wants_memory}
use Rattle.scr_run.proofs.Told.{unusable}
use Rattle.scr_args.specs.Texts.{said_of}
use Rattle.scr_args.specs.declared.words.Words.TheVariants as words
use Rattle.scr_args.proofs.Workers.{within}
use Rattle.scr_run.proofs.running.run.Goals as goal

pub returns-in-Err-Usage-clause-owed : goal.returns-in-Err-Usage-clause-owed
returns-in-Err-Usage-clause-owed g c = unusable _ _ _ (search rules)

pub returns-in-Err-NoMemory-clause-owed : goal.returns-in-Err-NoMemory-clause-owed
returns-in-Err-NoMemory-clause-owed g c = wants_memory _ _ _

pub report-requires-clause-crew : goal.report-requires-clause-crew
report-requires-clause-crew g c κs lives =
    let it = c.in-Ok-Files in
    within c.args.words.now (said_of (words.Files it.factors it.book it.edits it.workers))
    (it.ensures ∙ ap (λ v. Some (said_of v)) it.field-0-is)

pub run_made-requires-clause-crew : goal.run_made-requires-clause-crew
run_made-requires-clause-crew g c κs lives =
    let it = c.in-Ok-Make in
    within c.args.words.now (said_of (words.Make it.factors it.number it.workers))
    (it.ensures ∙ ap (λ v. Some (said_of v)) it.field-0-is)
