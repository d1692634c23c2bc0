use Rattle.std.proofs.Common.{◌≡◌, ◌++◌, ℕ, map}
use Rattle.scr_reachability.specs.Linked.{sources_in}
use Rattle.scr_reachability.proofs.linking.linked_sources.Given as goal

-- the sources so far, and those of the edges that are left
abbrev pub invariant-loop-source : goal.invariant-loop-source
invariant-loop-source l =
    l.list.items ++ map (λ (source : ℕ × ℕ). source.0) l.source-iterator ≡ sources_in l.links.edges l.number
