-- The last days of all lists of payments, counted beside the rows (this project's own), so that a reference date looks at no row.
use Rattle.std.specs.Prelude.{◌≡◌, ℕ, ℤ, ◌+◌, List, sum_by}
use Rattle.scr_dates.specs.Civil.{IsDay}
use Rattle.scr_counters.specs.Days.{count_of, ends_on}
use Rattle.scr_sheet.specs.CashFlows.{last_day, flows_under, all_projections}
use Rattle.scr_sheet.specs.declared.keys.Projection.{Projection}
use Rattle.scr_sheet.specs.declared.rows.Liability.{Liability}
use Rattle.scr_sheet.specs.declared.rows.LiabilityFlows.{LiabilityFlows}
use Rattle.scr_sheet.specs.declared.rows.Position.{Position}
use Rattle.scr_sheet.specs.declared.sheet.BalanceSheet.{BalanceSheet}

-- how many lists end on a day: those of securities
abbrev pub security_ends : ℤ → Position → ℕ
security_ends day position = ends_on day (last_day position.security.flows)

-- those of a liability under some projections, and under all
abbrev pub projections_ending : ℤ → LiabilityFlows → List Projection → ℕ
projections_ending day flows projections = sum_by (λ projection. ends_on day (last_day (flows_under projection flows))) projections

abbrev pub liability_ends : ℤ → Liability → ℕ
liability_ends day liability = projections_ending day liability.flows all_projections

-- and those of the whole sheet
abbrev pub lists_ending : ℤ → BalanceSheet → ℕ
lists_ending day sheet = sum_by (security_ends day) sheet.securities + sum_by (liability_ends day) sheet.liabilities

-- each day is counted as often as a list ends on it
pub record AreDaysOf (sheet : BalanceSheet) (days : List (List ℕ)) : Type 0 where
  pub counted : (day : ℤ) → IsDay day → count_of day days ≡ lists_ending day sheet
