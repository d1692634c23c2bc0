use Rattle.std.proofs.Common.{◌≡◌, ◌++◌, ◌+◌, drop}
use Rattle.std.specs.Prelude.{flat_map}
use Rattle.scr_explanation.specs.Account.{account, figure_text}
use Rattle.scr_explanation.proofs.account.+push_tree.Given as goal

abbrev pub decreases-push_tree : goal.decreases-push_tree
decreases-push_tree l = l.extent.depth

-- the figure, the accounts of its sources so far, and those of the rest
abbrev pub invariant-loop-source : goal.invariant-loop-source
invariant-loop-source l =
    l.out.items ++ flat_map (account l.engine.factors l.engine.sheet l.below.top l.below.depth (l.level + 1)) (drop l.source-index l.source-items)
    ≡ (l.fn.out.items ++ figure_text l.engine.factors l.engine.sheet l.level l.node)
    ++ flat_map (account l.engine.factors l.engine.sheet l.below.top l.below.depth (l.level + 1)) l.source-items
