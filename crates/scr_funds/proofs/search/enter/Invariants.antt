-- What is left of the components is still to be entered.
use Rattle.std.proofs.Common.{◌≡◌, drop}
use Rattle.scr_funds.specs.Edges.{leads_on}
use Rattle.scr_funds.specs.Search.{entered}
use Rattle.scr_funds.proofs.search.enter.Given as goal

abbrev pub invariant-loop-component : goal.invariant-loop-component
invariant-loop-component l =
    entered (leads_on l.edges l.to) l.place (drop l.component-index l.components) l.reached.entries
    ≡ entered (leads_on l.edges l.to) l.place l.components l.fn.reached.entries
