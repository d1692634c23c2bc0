-- The dues so far are entered.
use Rattle.std.proofs.Common.{◌≡◌}
use Rattle.scr_subgraph.proofs.Entering.{IsNaming}
use Rattle.scr_subgraph.proofs.round.all_dependants.Given as goal

abbrev pub invariant-loop-place : goal.invariant-loop-place
invariant-loop-place l = record {
  naming : IsNaming l.slots l.lists.rows l.place;
  rooms : l.lists.rooms ≡ l.counts.items;
}
