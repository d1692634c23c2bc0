-- The weights of a fund's components, as the code takes them (this project's own).
use Rattle.std.specs.Prelude.{ℕ, ℤ, ◌≤◌, List, length}
use Rattle.std.specs.List.{AllByRecursion}
use Rattle.scr_sheet.specs.Forms.{IsName}
use Rattle.scr_sheet.specs.Validity.{IsBetween}
use Rattle.scr_profile.specs.declared.limits.TheConstants.{MAX_FUND_COMPONENTS, MIN_WEIGHT, MAX_WEIGHT}
use Rattle.scr_nodes.specs.Own.{Share}
use Rattle.scr_rules.specs.declared.by_weight.ByWeight.{ByWeight}

-- each within its limits, and not too many
pub record AreWeights (components : List (List ℕ × ℤ)) : Type 0 where
  pub each : AllByRecursion (λ c. IsName c.0 × IsBetween MIN_WEIGHT MAX_WEIGHT c.1) components
  pub few : length components ≤ MAX_FUND_COMPONENTS

abbrev pub shown : ByWeight → Share
shown share = record { before = share.before; through = share.through; all = share.all }
