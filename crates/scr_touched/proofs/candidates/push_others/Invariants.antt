use Rattle.std.proofs.Common.{◌≡◌, ◌++◌, filter, drop, not}
use Rattle.scr_touched.specs.Candidates.{is_of_row}
use Rattle.scr_touched.proofs.candidates.push_others.Given as goal

-- what was pushed and what is left to push are all
abbrev pub invariant-loop-node : goal.invariant-loop-node
invariant-loop-node l = l.list.items ++ filter (λ node. not (is_of_row l.sheet l.change node)) (drop l.node-index l.later)
    ≡ l.initial.list.items ++ filter (λ node. not (is_of_row l.sheet l.change node)) l.later
