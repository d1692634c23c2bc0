use Rattle.std.proofs.Common.{◌≡◌, map, take}
use Rattle.scr_sheet.specs.declared.rows.Curve.{Curve}
use Rattle.scr_discounts.specs.Discounts.{discounts_at}
use Rattle.scr_discounts.specs.Kept.{rows_of}
use Rattle.scr_discounts.proofs.discounting.curves_of.Given as goal

-- the rows so far are those of the curves so far
abbrev pub invariant-loop-k : goal.invariant-loop-k
invariant-loop-k l = rows_of l.curves ≡ map (λ (curve : Curve). discounts_at curve.rates) (take l.k l.sheet.curves)
