-- The components so far are below the fund, as long as it is not lowered itself.
use Rattle.std.proofs.Common.{take}
use Rattle.scr_funds.specs.Edges.{edges_in}
use Rattle.scr_funds.proofs.Lowered.{Sinking}
use Rattle.scr_funds.proofs.lowering.Lowering.lower.Given as goal

abbrev pub invariant-loop-component : goal.invariant-loop-component
invariant-loop-component l =
    Sinking (edges_in l.edges) l.edges.ranks.now l.fund l.below (take l.component-index l.components)
    l.self.fresh.entries l.self.pending.keys
