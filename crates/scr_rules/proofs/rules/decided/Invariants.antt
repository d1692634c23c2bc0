use Rattle.std.proofs.Common.{map}
use Rattle.scr_num.specs.Rounding.{ends}
use Rattle.scr_rules.proofs.CodeLemmas.{AreListed}
use Rattle.scr_rules.proofs.rules.decided.Given as goal

abbrev pub invariant-loop-k : goal.invariant-loop-k
invariant-loop-k l = AreListed (map ends l.spans) l.k l.list
