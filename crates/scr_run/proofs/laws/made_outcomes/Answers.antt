-- The made book and its script are read, and none of their records is refused.
use Rattle.std.proofs.Common.{◌∙◌, ap}
use Rattle.scr_cells.specs.Block.{requirement_line}
use Rattle.scr_csv.specs.Lines.{records}
use Rattle.scr_made.specs.Made.{made_book, made_script, script_text}
use Rattle.scr_obligations.specs.Outcome.{outcome}
use Rattle.scr_obligations.specs.Plan.{unless_refused}
use Rattle.scr_obligations.specs.Plan.Plan.{Tell}
use Rattle.scr_sheet.specs.BalanceSheet.{opening}
use Rattle.scr_made.proofs.Sizes.{length-script}
use Rattle.scr_made.specs.Accepted.{sheet_after}
use Rattle.scr_run.proofs.Leads.{made_goes_on, made_stops}
use Rattle.scr_run.proofs.MadeBooks.{all_accepted, as_many, at_content, made_book_in, none_refused, script_in}
use Rattle.scr_run.proofs.laws.made_outcomes.Goals as goal
use Rattle.scr_run.specs.Plans.{book_plan, ended_status, made_plan, script_plan, summed}
use Rattle.scr_run.specs.Summary.{summary_text}

pub returns-clause-plan : goal.returns-clause-plan
unfolding book_plan script_plan summed
returns-clause-plan c number values =
    let sheet = sheet_after (made_book number) opening in
    let script = script_text number in
    ap (unless_refused (script_plan values number script))
    (made_book_in number (c.read_as_made.ensures.book_read number) (c.without_fault.ensures.book number) (c.within_a_file.ensures.book number))
    ∙ ap (unless_refused (summed values number sheet)) (script_in script (c.within_a_file.ensures.script number))
    ∙ ap (λ refused. Tell (ended_status refused) (summary_text (requirement_line values) number script sheet))
    (none_refused (records script) (made_script number) sheet (c.read_as_made.ensures.script_read number) (c.without_fault.ensures.script number))

pub returns-clause-summary : goal.returns-clause-summary
returns-clause-summary c name number content factors values there are_values =
    made_goes_on name number content factors there values are_values
    ∙ ap (λ plan. outcome plan content) (returns-clause-plan c number values)

pub returns-clause-factors : goal.returns-clause-factors
returns-clause-factors c name number content factors due there e = made_stops name number content factors there due e

pub returns-clause-called : goal.returns-clause-called
unfolding made_plan
returns-clause-called c name number content status h =
    at_content number (λ values. summary_text (requirement_line values) number (script_text number) (sheet_after (made_book number) opening))
    (returns-clause-plan c number) content status (content name) h

pub returns-clause-count : goal.returns-clause-count
returns-clause-count c number =
    let sheet = sheet_after (made_book number) opening in
    let lines = records (script_text number) in
    let read = c.read_as_made.ensures.script_read number in
    let twenty = length-script number in (
      as_many lines (made_script number) read ∙ twenty,
      all_accepted lines (made_script number) sheet read (c.without_fault.ensures.script number) ∙ twenty,
    )
