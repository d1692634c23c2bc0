use Rattle.std.proofs.Common.{◌≡◌, ◌++◌, drop, map}
use Rattle.scr_explanation.specs.Told.{size}
use Rattle.scr_explanation.proofs.shown.sizes_of.Given as goal

-- the sizes so far, and those of the rest
abbrev pub invariant-loop-node : goal.invariant-loop-node
invariant-loop-node l =
    l.sizes.items ++ map (size l.engine.factors l.engine.sheet) (drop l.node-index l.nodes)
    ≡ map (size l.engine.factors l.engine.sheet) l.nodes
