use Rattle.scr_rules.proofs.CodeLemmas.{IsNotBefore}
use Rattle.scr_rules.proofs.held.weights.Given as goal

abbrev pub invariant-loop-component : goal.invariant-loop-component
invariant-loop-component l = IsNotBefore l.name l.components l.component-index l.before
