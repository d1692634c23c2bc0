use Rattle.std.proofs.Common.{◌≡◌, drop}
use Rattle.scr_sheet.specs.Faults.{outside_weight, first_fault}
use Rattle.scr_sheet.proofs.fields.outside_weights.Given as goal

abbrev pub invariant-loop-weight : goal.invariant-loop-weight
invariant-loop-weight l = first_fault outside_weight (drop l.weight-index l.components) ≡ first_fault outside_weight l.components
