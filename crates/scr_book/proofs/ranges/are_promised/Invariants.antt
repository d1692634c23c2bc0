use Rattle.std.proofs.Common.{◌≡◌, drop}
use Rattle.scr_sheet.specs.Faults.{outside_promise, first_fault}
use Rattle.scr_book.proofs.ranges.are_promised.Given as goal

abbrev pub invariant-loop-flow : goal.invariant-loop-flow
invariant-loop-flow l = first_fault outside_promise (drop l.flow-index l.flow-items) ≡ first_fault outside_promise l.flows
