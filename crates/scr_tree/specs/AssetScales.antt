-- What the concentrations of all groups are measured by (this project's own).
use Rattle.std.specs.Prelude.{◌≡◌}
use Rattle.scr_num.specs.Rounding.{ends}
use Rattle.scr_nodes.specs.declared.node.Node.TheVariants as nodes
use Rattle.scr_nodes.specs.declared.node.Whole.TheVariants as wholes
use Rattle.scr_rules.specs.Rules.{amount_of}
use Rattle.scr_partial_sums.specs.declared.figure.Figure.{Figure}
use Rattle.scr_block_graph.specs.declared.point.Point.TheVariants as points
use Rattle.scr_tree.specs.Figures.{worth_of}
use Rattle.scr_tree.specs.Ready.{reckoning_on}
use Rattle.scr_tree.specs.declared.basis.Basis.{Basis}
use Rattle.scr_tree.specs.declared.reckoning.AssetScale.{AssetScale}

-- It is by so many cents as the assets come to, and rests on an open choice where their figure does.
pub record IsScaleOn (b : Basis) (scale : AssetScale) : Type 0 where
  pub assets : Figure
  pub worth : worth_of assets ≡ (reckoning_on b).worth (points.Figure (nodes.Whole wholes.Assets))
  pub cents : amount_of (ends assets.span) ≡ scale.scale
  pub close : scale.close ≡ assets.close
