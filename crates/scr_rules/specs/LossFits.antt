-- When the rules of the Basic Solvency Capital Requirement, of operational risk, of the adjustments and of the Solvency
-- Capital Requirement keep to 128 bits (this project's own).
use Rattle.std.specs.Prelude.{ℕ, ◌+◌, ◌≤◌, pos, ◌≤ℤ◌, List}
use Rattle.scr_num.specs.Rounding.{Ends, or_zero}
use Rattle.scr_num.specs.Sizes.{IsWithin}
use Rattle.scr_profile.specs.declared.limits.TheConstants.{MAX_AMOUNT}
use Rattle.scr_rules.specs.Figures.{figure_at}

-- the most grains of a requirement, and of all modules together
abbrev pub MAX_REQUIREMENT : ℕ
MAX_REQUIREMENT = 5_000_000_000_000_000_000

abbrev pub MAX_MODULES : ℕ
MAX_MODULES = 6_000_000_000_000_000_000

-- the high end of the figure at a place
abbrev pub high_at : List Ends → ℕ → ℕ
high_at figures k = or_zero (figure_at figures k).high

-- none of the five modules is below 0, and together they are within their limit
pub record AreModules (figures : List Ends) : Type 0 where
  pub market : pos 0 ≤ℤ (figure_at figures 0).low
  pub default_risk : pos 0 ≤ℤ (figure_at figures 1).low
  pub life : pos 0 ≤ℤ (figure_at figures 2).low
  pub health : pos 0 ≤ℤ (figure_at figures 3).low
  pub nonlife : pos 0 ≤ℤ (figure_at figures 4).low
  pub highs :
      high_at figures 0 + high_at figures 1 + high_at figures 2 + high_at figures 3 + high_at figures 4 ≤ MAX_MODULES

pub record FitsBscr (intangible : ℕ) (figures : List Ends) : Type 0 where
  pub amount : intangible ≤ MAX_AMOUNT
  pub modules : AreModules figures

abbrev pub IsRequirement : Ends → Type 0
IsRequirement e = IsWithin MAX_REQUIREMENT e

pub record FitsDiversified (intangible : ℕ) (figures : List Ends) : Type 0 where
  pub amount : intangible ≤ MAX_AMOUNT
  pub modules : AreModules figures
  pub basic : IsRequirement (figure_at figures 5)

pub record FitsCharge (expenses : ℕ) (figures : List Ends) : Type 0 where
  pub amount : expenses ≤ MAX_AMOUNT
  pub premiums : IsRequirement (figure_at figures 0)
  pub provisions : IsRequirement (figure_at figures 1)
  pub most : IsRequirement (figure_at figures 2)

pub record FitsAbsorbing (benefits : ℕ) (figures : List Ends) : Type 0 where
  pub amount : benefits ≤ MAX_AMOUNT
  pub gross : IsRequirement (figure_at figures 0)
  pub net : IsRequirement (figure_at figures 1)

pub record FitsTaxed (rate cap : ℕ) (figures : List Ends) : Type 0 where
  pub share : rate ≤ 1_000_000
  pub amount : cap ≤ MAX_AMOUNT
  pub basic : IsRequirement (figure_at figures 0)
  pub provisions : IsRequirement (figure_at figures 1)
  pub operational : IsRequirement (figure_at figures 2)

pub record FitsRequirement (figures : List Ends) : Type 0 where
  pub basic : IsRequirement (figure_at figures 0)
  pub provisions : IsRequirement (figure_at figures 1)
  pub taxes : IsRequirement (figure_at figures 2)
  pub operational : IsRequirement (figure_at figures 3)
