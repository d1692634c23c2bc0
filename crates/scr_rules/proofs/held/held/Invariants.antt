use Rattle.std.proofs.Common.{map}
use Rattle.scr_num.specs.Rounding.{ends}
use Rattle.scr_rules.proofs.CodeLemmas.{AreAdded}
use Rattle.scr_rules.proofs.held.held.Given as goal

abbrev pub invariant-loop-k : goal.invariant-loop-k
invariant-loop-k l = AreAdded l.name l.cents l.sheet.funds (map ends l.spans) l.k l.next l.sum
