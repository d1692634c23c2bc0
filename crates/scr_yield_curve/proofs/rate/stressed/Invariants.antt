use Rattle.std.proofs.Common.{◌≡◌, ℕ, ◌+◌, ◌<◌, length, get_or, ℤ}
use Rattle.scr_num.specs.Enclosure.{Measures}
use Rattle.scr_yield_curve.specs.Rate.{rate}
use Rattle.scr_yield_curve.specs.Parts.{parts, IsRateInParts}
use Rattle.scr_yield_curve.proofs.rate.stressed.Given as goal

abbrev pub invariant-loop-i : goal.invariant-loop-i
invariant-loop-i l =
    (length l.curve ≡ 100)
    × ((k : ℕ) (d : ℤ) → k < l.i → Measures parts (get_or l.curve k d) (rate l.rates l.tilt (k + 1)) × IsRateInParts (get_or l.curve k d))
