-- What edges_are_put_back asks for.
use Rattle.std.proofs.Common.{subst, sym}
use Rattle.scr_funds.specs.Chains.{IsAcyclic}
use Rattle.scr_funds.specs.Components.{Components, components_of}
use Rattle.scr_tests.proofs.funds.edges_are_put_back.Goals as goal

pub put_back-requires-clause-acyclic : goal.put_back-requires-clause-acyclic
put_back-requires-clause-acyclic g c =
    let Sound : Components → Type 0 = λ all. IsAcyclic (components_of all) in
    subst Sound (sym c.remove-kept.ensures.back) c.remove-kept.ensures.order.acyclic
