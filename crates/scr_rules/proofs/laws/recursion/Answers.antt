use Rattle.std.proofs.Common.{◌≡◌, true}
use Rattle.scr_nodes.proofs.LiveSources.{sources-live}
use Rattle.scr_nodes.specs.Live.{is_live}
use Rattle.scr_rules.proofs.Equations.{worked-equation, worked-only, close-equation}
use Rattle.scr_rules.proofs.laws.recursion.Goals as goal

pub returns : goal.returns
returns c = record {
  equation = worked-equation;
  only = λ factors sheet valid found equation.
      worked-only factors sheet valid (λ node. is_live sheet node ≡ true) (sources-live sheet valid) found equation;
  close = close-equation;
}
