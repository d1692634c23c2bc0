use Rattle.std.proofs.Common.{◌≡◌, ℕ, ◌+◌, ◌<◌, length, get_or, ℤ}
use Rattle.scr_num.specs.declared.span.Span.{Span}
use Rattle.scr_num.specs.Rounding.{ends}
use Rattle.scr_yield_curve.specs.DiscountEnds.{discount_ends}
use Rattle.scr_yield_curve.proofs.discount.discounts.Given as goal

abbrev pub invariant-loop-i : goal.invariant-loop-i
invariant-loop-i l =
    (length l.at ≡ 100) × ((k : ℕ) (d : Span) (e : ℤ) → k < l.i → ends (get_or l.at k d) ≡ discount_ends (get_or l.curve k e) (1 + k))
