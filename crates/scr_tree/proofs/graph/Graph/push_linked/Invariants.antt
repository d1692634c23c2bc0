use Rattle.std.proofs.Common.{◌≡◌, ◌++◌, ℕ, map}
use Rattle.scr_reachability.specs.Linked.{sources_in}
use Rattle.scr_tree.proofs.graph.Graph.push_linked.Given as goal

-- the sources so far, and those of the edges that are left
abbrev pub invariant-loop-source : goal.invariant-loop-source
invariant-loop-source l =
    l.list.items ++ map (λ (source : ℕ × ℕ). source.0) l.source-iterator
    ≡ l.initial.list.items ++ sources_in l.self.links.now.edges l.number
