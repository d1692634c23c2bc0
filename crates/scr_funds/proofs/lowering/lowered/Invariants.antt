-- As long as a rank was left, each fund is above its components or pending.
use Rattle.std.proofs.Common.{◌≡◌, true}
use Rattle.scr_funds.specs.Edges.{edges_in}
use Rattle.scr_funds.specs.Ranks.{AreLowered}
use Rattle.scr_funds.proofs.Lowered.{nothing}
use Rattle.scr_funds.proofs.lowering.lowered.Given as goal

abbrev pub invariant-loop : goal.invariant-loop
invariant-loop l = l.is_kept ≡ true
    → AreLowered (edges_in l.edges) l.edges.ranks.now nothing l.lowering.fresh.entries l.lowering.pending.keys
