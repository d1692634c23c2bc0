use Rattle.std.proofs.Common.{◌≡◌, drop}
use Rattle.scr_sheet.specs.Faults.{unknown_component, first_fault}
use Rattle.scr_sheet.proofs.checks.known_components.Given as goal

abbrev pub invariant-loop-name : goal.invariant-loop-name
invariant-loop-name l = first_fault (unknown_component l.fund l.sheet) (drop l.name-index l.components) ≡ first_fault (unknown_component l.fund l.sheet) l.components
