-- What changes of a figure or a Block from one book to another (own): its existence, its own data, or its sources.
use Rattle.std.specs.Prelude.{◌≡◌, ◌||◌, IsTrue, length}
use Rattle.scr_factors.specs.Values.{FactorValues}
use Rattle.scr_sum_tree.specs.Blocks.{top_count}
use Rattle.scr_nodes.specs.Own.{Own}
use Rattle.scr_nodes.specs.Own.Own.{Added, Foreign}
use Rattle.scr_nodes.specs.OwnOf.{own_of}
use Rattle.scr_nodes.specs.declared.node.Measure.TheVariants as measures
use Rattle.scr_nodes.specs.declared.node.Node.TheVariants as nodes
use Rattle.scr_nodes.specs.declared.node.OfCurrency.TheVariants as of_currencies
use Rattle.scr_block_graph.specs.Graph.{Rolled, is_live_in, roll_in, sources_in}
use Rattle.scr_block_graph.specs.declared.point.Point.{Point}
use Rattle.scr_block_graph.specs.declared.point.Point.TheVariants as points
use Rattle.scr_block_graph.specs.declared.sum.Sum.TheVariants as sums

-- The data besides its sources from which a point is computed (own). A currency's scenario lists securities first and then
-- liabilities, so the number of nodes for securities is such a datum.
abbrev pub own_in : FactorValues → Rolled → Point → Own
own_in factors book (points.Figure (nodes.Currency currency (of_currencies.Scenario direction measures.Gross))) =
    Foreign direction (top_count (length (roll_in book (sums.Assets currency))))
own_in factors book (points.Figure node) = own_of factors book.sheet node
own_in factors book (points.Block block) = Added

-- Both books have the point or neither has it, with equal own data and equal sources (own).
pub record IsSameIn (factors : FactorValues) (before after : Rolled) (point : Point) : Type 0 where
  pub live : is_live_in before point ≡ is_live_in after point
  pub own : own_in factors before point ≡ own_in factors after point
  pub sources : sources_in before point ≡ sources_in after point

-- At least one of the books has the point, and the books differ in it (own).
pub record IsChangedIn (factors : FactorValues) (before after : Rolled) (point : Point) : Type 0 where
  pub live : IsTrue (is_live_in before point || is_live_in after point)
  pub changed : ¬ IsSameIn factors before after point
