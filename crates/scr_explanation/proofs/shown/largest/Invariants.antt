use Rattle.std.proofs.Common.{◌≡◌, ◌++◌, drop, filter}
use Rattle.scr_explanation.specs.Told.{is_among_largest}
use Rattle.scr_explanation.proofs.shown.largest.Given as goal

-- the largest so far, and those of the rest
abbrev pub invariant-loop-node : goal.invariant-loop-node
invariant-loop-node l =
    l.told.items ++ filter (is_among_largest l.engine.factors l.engine.sheet l.top l.sources) (drop l.node-index l.sources)
    ≡ filter (is_among_largest l.engine.factors l.engine.sheet l.top l.sources) l.sources
