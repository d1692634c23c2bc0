use Rattle.std.proofs.Common.{◌≡◌, drop}
use Rattle.scr_sheet.specs.Faults.{misplaced_component, first_fault}
use Rattle.scr_sheet.proofs.checks.only_holdings.Given as goal

abbrev pub invariant-loop-name : goal.invariant-loop-name
invariant-loop-name l = first_fault (misplaced_component l.fund l.sheet) (drop l.name-index l.components) ≡ first_fault (misplaced_component l.fund l.sheet) l.components
