use Rattle.std.proofs.Common.{length}
use Rattle.scr_reachability.proofs.Cutting.{IsCutting}
use Rattle.scr_reachability.proofs.relinking.unlink.Given as goal

-- to all other numbers the links are as before
abbrev pub invariant-loop-edge : goal.invariant-loop-edge
invariant-loop-edge l = IsCutting l.number l.fn.links l.links

abbrev pub decreases-loop-edge : goal.decreases-loop-edge
decreases-loop-edge l = length l.links.edges
