use Rattle.std.proofs.Common.{map}
use Rattle.scr_num.specs.Rounding.{ends}
use Rattle.scr_rules.proofs.DefaultCode.{IsSquared}
use Rattle.scr_rules.proofs.default_rules.square_sum.Given as goal

abbrev pub invariant-loop-span : goal.invariant-loop-span
invariant-loop-span l = IsSquared (map ends l.spans) l.span-index l.sum
