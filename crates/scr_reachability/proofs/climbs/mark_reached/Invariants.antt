-- What is reached so far, with the dependants of what stands before the place.
use Rattle.std.proofs.Common.{◌≡◌, ◌-◌, ◌^◌, length, take}
use Rattle.scr_reachability.proofs.Climbing.{IsClimbed}
use Rattle.scr_reachability.proofs.climbs.mark_reached.Given as goal

abbrev pub invariant-loop-place : goal.invariant-loop-place
invariant-loop-place l = record {
  climbed : IsClimbed l.links.edges l.starts l.marked.list l.place;
  size : l.marked.size ≡ l.fn.marked.size;
  first : take (length l.starts) l.marked.list ≡ l.starts;
}

abbrev pub decreases-loop-place : goal.decreases-loop-place
decreases-loop-place l = 2 ^ 64 - l.place
