use Rattle.std.proofs.Common.{FitsSigned, w64, to_z-of_z, rules}
use Rattle.scr_yield_curve.specs.DiscountEnds.{discount_ends}
use Rattle.scr_yield_curve.proofs.discount.discount.Goals as goal

pub loop-k-init : goal.loop-k-init
unfolding discount_ends
loop-k-init c = c.exact-span.ensures.ends

pub loop-k-preserved : goal.loop-k-preserved
loop-k-preserved c =
    let fits : FitsSigned w64 c.args.rate = search rules in
    simp to_z-of_z (simp to_z-of_z at c.year_later-span.ensures)
