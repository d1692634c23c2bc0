use Rattle.std.proofs.Common.{◌≡◌, ◌++◌, filter, drop}
use Rattle.scr_touched.specs.Candidates.{touches}
use Rattle.scr_touched.proofs.candidates.chosen.Given as goal

-- what was chosen and what passes of the rest are all that passes
abbrev pub invariant-loop-node : goal.invariant-loop-node
invariant-loop-node l = l.list.items ++ filter (touches l.sheet l.change) (drop l.node-index l.all)
    ≡ filter (touches l.sheet l.change) l.all
