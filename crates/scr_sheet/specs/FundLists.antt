-- The components of one fund (this project's own).
use Rattle.std.specs.Prelude.{ℕ, ℤ, ◌≤◌, List, length, map}
use Rattle.std.specs.List.{IsDistinct}
use Rattle.scr_tables.specs.Names.{same_name}
use Rattle.scr_profile.specs.declared.limits.TheConstants.{MAX_FUND_COMPONENTS}

-- no two have one name, and they are 1,000 at most
abbrev pub AreOfOneFund : List (List ℕ × ℤ) → Type 0
AreOfOneFund components = IsDistinct same_name (map (λ c. c.0) components) × (length components ≤ MAX_FUND_COMPONENTS)
