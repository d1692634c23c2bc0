use Rattle.std.proofs.Common.{◌≡◌, ◌+◌, ◌<◌, ℤ, w32, FitsSigned, arith, length, length-set, sym, ◌∙◌, to_z-of_z, pos, rules}
use Rattle.scr_dates.specs.Years.{anniversary}
use Rattle.scr_dates.proofs.Anniversaries.{date_anniversary}
use Rattle.scr_dates.proofs.Found.{kept-more, date-is, IsDated}
use Rattle.scr_dates.proofs.kept_years.Years.new.Goals as goal

pub loop-n-preserved : goal.loop-n-preserved
loop-n-preserved c =
    let is : IsDated c.args.asof.number c.date_of-start.result = rw c.date_of-start.ensures at (date-is c.date_of-start.result (rw c.date_of-start.ensures c.requires)) in
    let day : FitsSigned w32 c.anniversary.result = search rules in
    let here : c.anniversary.result ≡ anniversary c.args.asof.number c.loop-n.n = c.anniversary.ensures ∙ sym (is.same c.loop-n.n) in
    let within : c.loop-n.n < length c.loop-n.days = omega (arith, c.loop-n.invariant.0, c.loop-n-test.true) in
    simp to_z-of_z (rw c.from.ensures (length-set c.loop-n.days c.loop-n.n c.anniversary.result ∙ c.loop-n.invariant.0, kept-more c.args.asof.number c.loop-n.days c.loop-n.n c.anniversary.result within here c.loop-n.invariant.1))
