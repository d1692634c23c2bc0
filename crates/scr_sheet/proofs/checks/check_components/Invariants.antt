use Rattle.std.proofs.Common.{◌≡◌, ◌+◌, ◌*◌, ◌-◌, ◌≤◌, [], drop}
use Rattle.scr_sheet.specs.Faults.{components_fault}
use Rattle.scr_profile.specs.declared.limits.TheConstants.{MAX_FUND_COMPONENTS}
use Rattle.scr_sheet.proofs.MetNames.{met_names}
use Rattle.scr_sheet.proofs.checks.check_components.Given as goal

abbrev pub invariant-loop-name : goal.invariant-loop-name
invariant-loop-name l =
    (l.field ≡ 2 + 2 * l.name-index) × (l.name-index ≤ MAX_FUND_COMPONENTS)
    × (components_fault l.field (MAX_FUND_COMPONENTS - l.name-index) (met_names l.met.entries) (drop l.name-index l.components) ≡ components_fault 2 MAX_FUND_COMPONENTS [] l.components)
