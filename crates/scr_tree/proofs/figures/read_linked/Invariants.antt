use Rattle.std.proofs.Common.{◌≡◌, ◌++◌, ℕ, List, map}
use Rattle.scr_reachability.specs.Linked.{sources_in}
use Rattle.scr_tree.specs.Figures.{AreReadAt}
use Rattle.scr_tree.proofs.figures.read_linked.Given as goal

-- those so far are read, and then there are those of the links that are left
abbrev pub invariant-loop-source : goal.invariant-loop-source
invariant-loop-source l =
    (done : List ℕ) × AreReadAt l.figures done l.below
    × (done ++ map (λ (source : ℕ × ℕ). source.0) l.source-iterator ≡ sources_in l.links.edges l.number)
