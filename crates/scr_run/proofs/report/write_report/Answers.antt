use Rattle.std.proofs.Common.{◌≡◌, ◌∙◌, ℕ, List, ap, refl, subst}
use Rattle.scr_cells.specs.Block.{block_text}
use Rattle.scr_csv.specs.Lines.{records}
use Rattle.scr_csv.specs.LineOrder.{lines_left}
use Rattle.scr_io.specs.Cause.{Rose}
use Rattle.scr_obligations.specs.Moment.{sunk}
use Rattle.scr_run.specs.Report.{answers, any_refused}
use Rattle.scr_run.proofs.Pieces.{front_left, leaves_none}
use Rattle.scr_run.proofs.ReplySteps.{opening_begun, refusal_told, replies_due, replies_none, reply_begun, reply_written, same_block, told_at_end}
use Rattle.scr_run.proofs.report.write_report.Goals as goal

pub returns-in-Err-clause-written : goal.returns-in-Err-clause-written
returns-in-Err-clause-written g c = (
  opening_begun (block_text c.args.engine.now.factors) c.args.edits.now c.args.engine.now.sheet
      (sunk (g.K.Sink.written c.args.sink.now) (g.K.Sink.faults c.args.sink.now))
      (sunk (g.K.Sink.written c.write_all.new.sink) (g.K.Sink.faults c.write_all.new.sink)) c.as_slice.result.now
      (c.as_slice.ensures.value ∙ c.in-Ok.ensures.text) c.write_all.ensures.front,
  c.in-Err.ensures.failed,
)

pub returns-in-Err-write_all-clause-written : goal.returns-in-Err-write_all-clause-written
returns-in-Err-write_all-clause-written g c = (
  reply_begun (block_text c.args.engine.now.factors)
      (sunk (g.K.Sink.written c.args.sink.now) (g.K.Sink.faults c.args.sink.now)) _
      _ _ c.in-Some.line.number c.in-Some.line.text.now c.loop-line.engine.sheet c.in-Some.ensures.steps
      (sunk (g.K.Sink.written c.loop-line.sink) (g.K.Sink.faults c.loop-line.sink))
      (sunk (g.K.Sink.written c.write_all-in-loop-line.new.sink)
      (g.K.Sink.faults c.write_all-in-loop-line.new.sink)) _
      (c.as_slice-in-loop-line.ensures.value ∙ c.in-Ok-reply_to.ensures.text
      ∙ same_block c.in-Some.line.number c.in-Some.line.text.now c.loop-line.engine _ c.loop-line.invariant.factors)
      c.loop-line.invariant.text c.write_all-in-loop-line.ensures.front,
  subst (λ (n : ℕ). Rose n
      (g.K.Sink.faults c.write_all-in-loop-line.new.sink)) c.loop-line.invariant.faults c.in-Err-write_all.ensures.failed,
)

pub loop-line-init : goal.loop-line-init
loop-line-init g c =
    let same : lines_left c.into_iter-line-iterator.result ≡ records c.args.edits.now = ap lines_left c.into_iter-line-iterator.ensures.into_iter_gives ∙ c.lines-line-items.ensures in
    record {
      text = replies_due (block_text c.args.engine.now.factors) c.args.edits.now c.args.engine.now.sheet
          (sunk (g.K.Sink.written c.args.sink.now) (g.K.Sink.faults c.args.sink.now))
          (sunk (g.K.Sink.written c.write_all.new.sink) (g.K.Sink.faults c.write_all.new.sink)) c.as_slice.result.now
          (c.as_slice.ensures.value ∙ c.in-Ok.ensures.text) _ same c.in-Ok-write_all.ensures.ok;
      factors = refl;
      told = ap (λ (lines : List (ℕ × List ℕ)). any_refused (answers lines c.args.engine.now.sheet)) same;
      faults = c.in-Ok-write_all.ensures.steady;
    }

pub loop-line-preserved : goal.loop-line-preserved
loop-line-preserved g c = record {
  text = reply_written (block_text c.args.engine.now.factors)
      (sunk (g.K.Sink.written c.args.sink.now) (g.K.Sink.faults c.args.sink.now)) _
      _ _ c.in-Some.line.number c.in-Some.line.text.now c.loop-line.engine.sheet c.in-Some.ensures.steps
      (sunk (g.K.Sink.written c.loop-line.sink) (g.K.Sink.faults c.loop-line.sink))
      (sunk (g.K.Sink.written c.write_all-in-loop-line.new.sink)
      (g.K.Sink.faults c.write_all-in-loop-line.new.sink)) _
      (c.as_slice-in-loop-line.ensures.value ∙ c.in-Ok-reply_to.ensures.text
      ∙ same_block c.in-Some.line.number c.in-Some.line.text.now c.loop-line.engine _ c.loop-line.invariant.factors)
      c.reply_to.new.engine.sheet c.in-Ok-reply_to.ensures.engine.sheet
      c.loop-line.invariant.text c.in-Ok-write_all-2.ensures.ok;
  factors = c.in-Ok-reply_to.ensures.engine.factors ∙ c.loop-line.invariant.factors;
  told = refusal_told _ _ c.in-Some.line.number c.in-Some.line.text.now c.loop-line.engine.sheet c.in-Some.ensures.steps _ _ _ c.reply_to.new.engine.sheet
      c.in-Ok-reply_to.ensures.engine.sheet c.in-Ok-reply_to.ensures.refused c.loop-line.invariant.told;
  faults = c.in-Ok-write_all-2.ensures.steady ∙ c.loop-line.invariant.faults;
}

pub returns-in_default-reply_to-clause-written : goal.returns-in_default-reply_to-clause-written
returns-in_default-reply_to-clause-written g c = (
  front_left (sunk (g.K.Sink.written c.args.sink.now) (g.K.Sink.faults c.args.sink.now)) _
      (sunk (g.K.Sink.written c.loop-line.sink) (g.K.Sink.faults c.loop-line.sink)) _ c.loop-line.invariant.text,
  c.loop-line.invariant.faults,
)

pub returns-clause-written : goal.returns-clause-written
returns-clause-written g c = (
  leaves_none (sunk (g.K.Sink.written c.args.sink.now) (g.K.Sink.faults c.args.sink.now)) _
      (sunk (g.K.Sink.written c.loop-line.sink) (g.K.Sink.faults c.loop-line.sink)) _
      (replies_none
      (block_text c.args.engine.now.factors) _ c.loop-line.engine.sheet c.in-None.ensures.steps.0) c.loop-line.invariant.text,
  c.loop-line.invariant.faults,
)

pub returns-clause-refused : goal.returns-clause-refused
returns-clause-refused g c = told_at_end _ c.loop-line.engine.sheet c.loop-line.refused _ c.in-None.ensures.steps.0 c.loop-line.invariant.told
