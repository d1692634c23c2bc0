use Rattle.std.proofs.Common.{◌≡◌, drop}
use Rattle.scr_sheet.specs.Faults.{outside, first_fault}
use Rattle.scr_sheet.proofs.fields.first_outside.Given as goal

abbrev pub invariant-loop-value : goal.invariant-loop-value
invariant-loop-value l = first_fault (outside l.quantity l.low l.high) (drop l.value-index l.values) ≡ first_fault (outside l.quantity l.low l.high) l.values
