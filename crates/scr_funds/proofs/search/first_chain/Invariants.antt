-- What was reached is noted down, as far as the place is done.
use Rattle.std.proofs.Common.{◌≡◌, ◌-◌, ◌^◌, ℕ, true}
use Rattle.scr_funds.specs.Chains.{LeadsTo}
use Rattle.scr_funds.specs.Edges.{edges_in, leads_on}
use Rattle.scr_funds.proofs.Inner.{Searched}
use Rattle.scr_funds.proofs.search.first_chain.Given as goal

abbrev pub invariant-loop-place : goal.invariant-loop-place
invariant-loop-place l =
    (on : (fund : ℕ) → ¬ (fund ≡ l.to) → LeadsTo (edges_in l.edges) fund l.to → leads_on l.edges l.to fund ≡ true)
    → Searched (edges_in l.edges) l.to (leads_on l.edges l.to) on l.edges.from l.reached.entries l.place

abbrev pub decreases-loop-place : goal.decreases-loop-place
decreases-loop-place l = 2 ^ 64 - l.place
