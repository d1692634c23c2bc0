use Rattle.scr_funds.proofs.Members.{each-from_members}
use Rattle.scr_nodes.specs.declared.node.Node.{Node}
use Rattle.scr_nodes.specs.Sources.{sources_of}
use Rattle.scr_nodes.proofs.Reckoning.{reckoned-equation, reckoned-only}
use Rattle.scr_nodes.proofs.laws.recursion.Goals as goal

pub returns-clause-equation : goal.returns-clause-equation
returns-clause-equation g c = λ none rule sheet node valid. reckoned-equation none rule sheet valid node

pub returns-clause-only : goal.returns-clause-only
returns-clause-only g c = λ none rule sheet valid found equation node.
    reckoned-only none rule sheet valid (λ n. Unit {0})
    (λ n i. each-from_members (λ (m : Node). Unit {0}) (sources_of sheet n) (λ m h. tt)) found
    (λ n i. equation n) node tt
