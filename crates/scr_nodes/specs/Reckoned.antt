-- Figures reckoned from those of their sources by plain recursion (this project's own). For a valid balance sheet a law
-- says that the recursion obeys its equation, and that nothing else does, so the number of levels needs no belief.
use Rattle.std.specs.Prelude.{ℕ, zero, suc, ◌+◌, List, length, map}
use Rattle.scr_sheet.specs.declared.sheet.BalanceSheet.{BalanceSheet}
use Rattle.scr_nodes.specs.declared.node.Node.{Node}
use Rattle.scr_nodes.specs.Sources.{sources_of}

-- `rule` gives the figure of a node from the figures of its sources; `none` stands where no level is left
module _ {A : Type 0} (none : A) (rule : Node → List A → A) (sheet : BalanceSheet) where
  unfoldable pub reckoned_within : ℕ → Node → A
  reckoned_within zero node = none
  reckoned_within (suc levels) node = rule node (map (reckoned_within levels) (sources_of sheet node))

  -- A chain of funds is no longer than their table. Above it each figure is of a later family than its sources, and no chain of
  -- families has 200 of them.
  unfoldable pub reckoned : Node → A
  reckoned node = reckoned_within (length sheet.funds + 200) node
