-- When the rules of counterparty default risk keep to 128 bits (this project's own).
use Rattle.std.specs.Prelude.{ℕ, ◌+◌, ◌*◌, ◌^◌, ◌<◌, ◌≤◌, pos, ◌≤ℤ◌, All, List, sum_by}
use Rattle.scr_num.specs.Amounts.{IsAmount}
use Rattle.scr_num.specs.Rounding.{Ends}
use Rattle.scr_default.specs.declared.TheConstants.{MAX_LOSS}
use Rattle.scr_profile.specs.declared.limits.TheConstants.{MAX_AMOUNT}
use Rattle.scr_nodes.specs.Own.{Reinsured}
use Rattle.scr_rules.specs.Figures.{figure_at, amount_of, amount_at}
use Rattle.scr_rules.specs.DefaultRules.{losses_grains, loss_total}

pub record IsReinsured (reinsurer : Reinsured) : Type 0 where
  pub recoverables : reinsurer.recoverables ≤ MAX_AMOUNT
  pub mitigation : reinsurer.mitigation ≤ MAX_AMOUNT
  pub collateral : reinsurer.collateral ≤ MAX_AMOUNT

pub record FitsLosses (banks : List ℕ) (reinsurers : List Reinsured) : Type 0 where
  pub banks_within : All (λ cents. cents ≤ MAX_AMOUNT) banks
  pub reinsurers_within : All IsReinsured reinsurers
  pub together : losses_grains banks reinsurers ≤ MAX_LOSS

-- amounts of which each is within the most that is lost, and so are all
pub record FitsSquares (figures : List Ends) : Type 0 where
  pub each : All (IsAmount MAX_LOSS) figures
  pub together : sum_by amount_of figures ≤ MAX_LOSS

-- the losses of the classes, and no sum of squares above the square of the sum
pub record FitsVariance (figures : List Ends) : Type 0 where
  pub losses : (k : ℕ) → k < 6 → IsAmount MAX_LOSS (figure_at figures k)
  pub squares : (k : ℕ) → k < 6 → IsAmount (amount_at figures k * amount_at figures k) (figure_at figures (6 + k))

pub record FitsBand (figures : List Ends) : Type 0 where
  pub losses : (k : ℕ) → k < 6 → IsAmount MAX_LOSS (figure_at figures k)
  pub together : loss_total figures ≤ MAX_LOSS
  pub low : pos 0 ≤ℤ (figure_at figures 6).low
  pub high : (figure_at figures 6).high ≤ℤ pos (10 ^ 33)

pub record FitsDue (overdue other : ℕ) : Type 0 where
  pub overdue_within : overdue ≤ MAX_AMOUNT
  pub other_within : other ≤ MAX_AMOUNT
