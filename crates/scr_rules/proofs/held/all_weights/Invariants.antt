use Rattle.scr_rules.proofs.CodeLemmas.{AreSummed}
use Rattle.scr_rules.proofs.held.all_weights.Given as goal

abbrev pub invariant-loop-weight : goal.invariant-loop-weight
invariant-loop-weight l = AreSummed l.components l.weight-index l.all
