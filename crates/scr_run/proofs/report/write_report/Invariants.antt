use Rattle.std.proofs.Common.{◌≡◌, ◌||◌}
use Rattle.scr_cells.specs.Block.{block_text}
use Rattle.scr_csv.specs.Lines.{records}
use Rattle.scr_csv.specs.LineOrder.{lines_left}
use Rattle.scr_obligations.specs.Moment.{sunk}
use Rattle.scr_run.specs.Report.{answers, any_refused, replies_text, report_text}
use Rattle.scr_run.specs.Writing.{Leaves}
use Rattle.scr_run.proofs.report.write_report.Given as goal

-- the replies to the records that are left are what is still due of the report
abbrev pub invariant-loop-line : goal.invariant-loop-line
invariant-loop-line g l = record {
  text : Leaves (sunk (g.K.Sink.written l.fn.sink) (g.K.Sink.faults l.fn.sink))
      (sunk (g.K.Sink.written l.sink) (g.K.Sink.faults l.sink))
      (report_text (block_text l.fn.engine.factors) l.edits l.fn.engine.sheet)
      (replies_text (block_text l.fn.engine.factors) (answers (lines_left l.line-iterator) l.engine.sheet));
  factors : l.engine.factors ≡ l.fn.engine.factors;
  told : (l.refused || any_refused (answers (lines_left l.line-iterator) l.engine.sheet)) ≡ any_refused
      (answers (records l.edits) l.fn.engine.sheet);
  faults : g.K.Sink.faults l.sink ≡ g.K.Sink.faults l.fn.sink;
}
