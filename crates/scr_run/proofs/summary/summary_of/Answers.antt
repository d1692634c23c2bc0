use Rattle.std.proofs.Common.{◌∙◌, ap₂}
use Rattle.scr_cells.specs.Block.{requirement_line}
use Rattle.scr_run.proofs.ScriptSteps.{refusal_is, summed_up}
use Rattle.scr_run.proofs.summary.summary_of.Goals as goal

pub returns-clause-text : goal.returns-clause-text
returns-clause-text g c =
    summed_up (requirement_line c.args.engine.now.factors) c.args.number c.args.script.now c.args.engine.now.sheet _ _
    c.in_ok-counts.ensures.records c.in_ok-counts.ensures.accepted _ _ _ _ _ _ _ c.new-text.ensures.items
    c.in_ok-push_counts.ensures c.in_ok-push_book_line.ensures c.in_ok-push_edits_line.ensures
    c.in_ok-push_last_line.ensures
    (c.as_slice.ensures.value ∙ c.in_ok-book.ensures)
    (c.as_slice-2.ensures.value ∙ c.in_ok-last.ensures
    ∙ ap₂ requirement_line c.in_ok-counts.ensures.engine.factors c.in_ok-counts.ensures.engine.sheet)

pub returns-clause-refused : goal.returns-clause-refused
returns-clause-refused g c =
    refusal_is (requirement_line c.args.engine.now.factors) c.args.number c.args.script.now c.args.engine.now.sheet _ _
    c.in_ok-counts.ensures.records c.in_ok-counts.ensures.accepted
