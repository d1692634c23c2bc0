use Rattle.std.proofs.Common.{◌≡◌, length, take}
use Rattle.scr_yield_curve.proofs.rate.narrowed.Given as goal

-- the rates so far are the same
abbrev pub invariant-loop-i : goal.invariant-loop-i
invariant-loop-i l = record { places : length l.narrow ≡ 100; same : take l.i l.narrow ≡ take l.i l.rates }
