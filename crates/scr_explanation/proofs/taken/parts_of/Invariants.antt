use Rattle.std.proofs.Common.{◌≡◌, ◌++◌, drop}
use Rattle.scr_explanation.specs.Taken.{parts_of}
use Rattle.scr_explanation.proofs.taken.parts_of.Given as goal

-- the bounds so far, and those of the rest
abbrev pub invariant-loop-node : goal.invariant-loop-node
invariant-loop-node l =
    l.parts.items ++ parts_of l.engine.factors l.engine.sheet (drop l.node-index l.sources)
    ≡ parts_of l.engine.factors l.engine.sheet l.sources
