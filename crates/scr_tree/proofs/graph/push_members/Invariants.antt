use Rattle.std.proofs.Common.{◌≡◌, ◌++◌, ◌+◌, map, take}
use Rattle.scr_tree.proofs.graph.push_members.Given as goal

-- the numbers of the members so far stand behind what stood there
abbrev pub invariant-loop-first : goal.invariant-loop-first
invariant-loop-first l = l.list.items ≡ l.initial.list.items ++ map (λ first. first + l.family) (take l.first-index l.firsts)
