use Rattle.std.proofs.Common.{map, take}
use Rattle.scr_num.specs.Rounding.{ends}
use Rattle.scr_yield_curve.proofs.FallLemmas.{AreFalls}
use Rattle.scr_yield_curve.proofs.falls.Falls.new.Given as goal

abbrev pub invariant-loop-i : goal.invariant-loop-i
invariant-loop-i l = AreFalls l.base (map ends l.from.at) l.stressed (map ends l.to.at) l.at l.i
