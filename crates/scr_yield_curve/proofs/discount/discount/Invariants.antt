use Rattle.std.proofs.Common.{◌≡◌}
use Rattle.scr_num.specs.Rounding.{ends}
use Rattle.scr_yield_curve.specs.DiscountEnds.{discount_ends}
use Rattle.scr_yield_curve.proofs.discount.discount.Given as goal

abbrev pub invariant-loop-k : goal.invariant-loop-k
invariant-loop-k l = ends l.span ≡ discount_ends l.rate l.k
