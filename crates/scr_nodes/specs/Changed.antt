-- Which figures change from one balance sheet to another (this project's own): those whose own data or list of sources is not the same,
-- and those that one of them has alone.
use Rattle.std.specs.Prelude.{◌≡◌, ◌||◌, IsTrue}
use Rattle.scr_factors.specs.Values.{FactorValues}
use Rattle.scr_sheet.specs.declared.sheet.BalanceSheet.{BalanceSheet}
use Rattle.scr_nodes.specs.Live.{is_live}
use Rattle.scr_nodes.specs.OwnOf.{own_of}
use Rattle.scr_nodes.specs.Sources.{sources_of}
use Rattle.scr_nodes.specs.declared.node.Node.{Node}

-- two balance sheets have the figure or lack it both, and it is reckoned from the same data and the same figures
pub record IsSame (factors : FactorValues) (before after : BalanceSheet) (node : Node) : Type 0 where
  pub live : is_live before node ≡ is_live after node
  pub own : own_of factors before node ≡ own_of factors after node
  pub sources : sources_of before node ≡ sources_of after node

-- it is a figure of one of them, and not the same
pub record IsChanged (factors : FactorValues) (before after : BalanceSheet) (node : Node) : Type 0 where
  pub live : IsTrue (is_live before node || is_live after node)
  pub changed : ¬ (IsSame factors before after node)
