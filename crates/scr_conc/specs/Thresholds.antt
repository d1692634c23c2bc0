-- The relative excess exposure thresholds and the risk factors of market risk concentration: Articles 185 to 187 of
-- Delegated Regulation (EU) 2015/35.
use Rattle.std.specs.Prelude.{ℕ, pos, nat_lt, if◌then◌else◌, slice_index, Option, Some, None}
use Rattle.std.proofs.Common.{lit<}
use Rattle.scr_num.specs.Fraction.{Fraction, over, percent}
use Rattle.scr_profile.specs.declared.group_kind.GroupKind.{GroupKind}
use Rattle.scr_profile.specs.declared.group_kind.GroupKind.TheVariants.{Name, Covered, Property, State}
use Rattle.scr_profile.specs.StepTables.{thresholds, risk_factors}
use Rattle.scr_profile.specs.declared.tables.TheConstants.{CT, G}

-- so many thousandths of a percent
abbrev pub thousandths_of_percent : ℕ → Fraction
thousandths_of_percent n = over (pos n) 100_000 (lit< tt)

-- what is printed for a credit quality step from 0 to 6 (Articles 185 and 186)
abbrev pub threshold_of_step : ℕ → Fraction
threshold_of_step step = thousandths_of_percent (slice_index thresholds step)

abbrev pub factor_of_step : ℕ → Fraction
factor_of_step step = thousandths_of_percent (slice_index risk_factors step)

-- a group without a step counts as one of step 5 (this project's own)
abbrev pub step_of : Option ℕ → ℕ
step_of None = 5
step_of (Some step) = step

-- 15 percent for covered bonds of step 0 or 1 (Article 187(1)), 10 percent for immovable property (Article 187(2)), and
-- that of the step for all others
abbrev pub threshold_exact : GroupKind → Option ℕ → Fraction
threshold_exact Name step = threshold_of_step (step_of step)
threshold_exact Covered step =
    if nat_lt (step_of step) 2 then percent 15 else threshold_of_step (step_of step)
threshold_exact Property step = percent 10
threshold_exact State step = threshold_of_step (step_of step)

-- 12 percent for immovable property (Article 187(2)), nothing for central governments and their like (Article 187(3)),
-- and that of the step for all others
abbrev pub factor_exact : GroupKind → Option ℕ → Fraction
factor_exact Name step = factor_of_step (step_of step)
factor_exact Covered step = factor_of_step (step_of step)
factor_exact Property step = percent 12
factor_exact State step = percent 0

-- ---- the same as whole numbers: thresholds in thousandths, and factors in hundredths
abbrev pub threshold_units : GroupKind → Option ℕ → ℕ
threshold_units Name step = slice_index CT (step_of step)
threshold_units Covered step = if nat_lt (step_of step) 2 then 150 else slice_index CT (step_of step)
threshold_units Property step = 100
threshold_units State step = slice_index CT (step_of step)

abbrev pub factor_units : GroupKind → Option ℕ → ℕ
factor_units Name step = slice_index G (step_of step)
factor_units Covered step = slice_index G (step_of step)
factor_units Property step = 12
factor_units State step = 0
