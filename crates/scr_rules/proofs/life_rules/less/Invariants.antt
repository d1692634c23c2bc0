use Rattle.scr_rules.proofs.LifeCode.{AreDifferences}
use Rattle.scr_rules.proofs.life_rules.less.Given as goal

abbrev pub invariant-loop-k : goal.invariant-loop-k
invariant-loop-k l = AreDifferences l.amounts l.others l.differences l.k
