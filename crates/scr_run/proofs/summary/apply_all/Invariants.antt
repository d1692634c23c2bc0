-- The records counted so far and those that are left are all records of the script, and so with what they leave.
use Rattle.std.proofs.Common.{◌≡◌, ◌+◌, ◌≤◌, length}
use Rattle.scr_csv.specs.LineOrder.{lines_left}
use Rattle.scr_csv.specs.Lines.{records}
use Rattle.scr_run.specs.Report.{answers}
use Rattle.scr_run.specs.Summary.{accepted, left_by}
use Rattle.scr_run.proofs.summary.apply_all.Given as goal

abbrev pub invariant-loop-line : goal.invariant-loop-line
invariant-loop-line g l = record {
  counted : l.counts.records + length (lines_left l.line-iterator) ≡ length (records l.script);
  taken : l.counts.accepted + accepted (answers (lines_left l.line-iterator) l.engine.sheet)
      ≡ accepted (answers (records l.script) l.fn.engine.sheet);
  fewer : l.counts.accepted ≤ l.counts.records;
  factors : l.engine.factors ≡ l.fn.engine.factors;
  left : left_by l.engine.sheet (answers (lines_left l.line-iterator) l.engine.sheet)
      ≡ left_by l.fn.engine.sheet (answers (records l.script) l.fn.engine.sheet);
}
