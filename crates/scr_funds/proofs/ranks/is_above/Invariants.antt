-- The components so far have lower ranks.
use Rattle.std.proofs.Common.{◌<◌, All, take}
use Rattle.scr_funds.specs.Ranks.{rank_of}
use Rattle.scr_funds.proofs.ranks.is_above.Given as goal

abbrev pub invariant-loop-component : goal.invariant-loop-component
invariant-loop-component l =
    All (λ component. rank_of l.ranks component < rank_of l.ranks l.fn.fund) (take l.component-index l.components)
