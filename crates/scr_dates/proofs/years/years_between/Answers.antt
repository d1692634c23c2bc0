use Rattle.std.proofs.Common.{w16, FitsSigned, ◌∙◌, pos, ◌-ℤ◌, ap, arith}
use Rattle.std.proofs.lemmas.Int.{to_z-of_z}
use Rattle.jiff_core.proofs.SignedLemmas.{signed_arith}
use Rattle.scr_dates.proofs.Dates.{unsigned_abs-same}
use Rattle.scr_dates.proofs.years.years_between.Goals as goal

pub returns : goal.returns
returns c =
    let start : FitsSigned w16 c.args.start.year = omega (arith, signed_arith, c.args.start.year_in) in
    let end : FitsSigned w16 c.args.end.year = omega (arith, signed_arith, c.args.end.year_in) in
    let size = rw (to_z-of_z w16 c.args.end.year, to_z-of_z w16 c.args.start.year) at c.abs_diff.ensures in
    let same = unsigned_abs-same (c.args.end.year -ℤ c.args.start.year) (omega (arith, signed_arith)) in
    omega (arith, signed_arith, ap pos size ∙ same)
