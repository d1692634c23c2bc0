use Rattle.std.proofs.Common.{◌≡◌, w16, w32, FitsSigned, pos, ◌+ℤ◌, ◌∙◌, arith, rules, to_z-of_z}
use Rattle.jiff_core.proofs.SignedLemmas.{signed_arith}
use Rattle.scr_dates.proofs.Found.{date-is, later-day}
use Rattle.scr_dates.proofs.kept_years.anniversary.Goals as goal

pub later_year-requires-clause-start : goal.later_year-requires-clause-start
later_year-requires-clause-start c = let is = date-is c.args.start c.requires.start in is.year

pub constrain-requires-clause-year_in : goal.constrain-requires-clause-year_in
constrain-requires-clause-year_in c =
    let is = date-is c.args.start c.requires.start in
    let low = c.args.start.year_in.0 in
    let sum : FitsSigned w16 c.later_year.result = rw c.later_year.ensures (omega (arith, signed_arith, low, is.year, c.requires.years)) in
    simp to_z-of_z (rw c.later_year.ensures (omega (arith, signed_arith, low), omega (arith, signed_arith, is.year, c.requires.years)))

pub returns : goal.returns
returns c =
    let is = date-is c.args.start c.requires.start in
    let low = c.args.start.year_in.0 in
    let sum : FitsSigned w16 c.later_year.result = rw c.later_year.ensures (omega (arith, signed_arith, low, is.year, c.requires.years)) in
    let year = simp to_z-of_z at c.constrain.ensures.year in
    let day = simp to_z-of_z at c.constrain.ensures.day in
    let fits : FitsSigned w32 c.to_unix_epoch_day.result = search rules in
    simp to_z-of_z (c.to_unix_epoch_day.ensures.value ∙ later-day c.args.start c.constrain.result c.args.years (year ∙ c.later_year.ensures) c.constrain.ensures.month (rw c.later_year.ensures at day))
