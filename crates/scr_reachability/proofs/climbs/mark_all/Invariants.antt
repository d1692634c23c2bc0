-- What is left of the starts is still to be marked.
use Rattle.std.proofs.Common.{◌≡◌, drop, nat_eq}
use Rattle.indexmap.specs.IndexSet.{insert_all}
use Rattle.scr_reachability.proofs.climbs.mark_all.Given as goal

abbrev pub invariant-loop-start : goal.invariant-loop-start
invariant-loop-start l =
    (insert_all nat_eq l.marked.list (drop l.start-index l.starts) ≡ insert_all nat_eq l.fn.marked.list l.starts)
    × (l.marked.size ≡ l.fn.marked.size)
