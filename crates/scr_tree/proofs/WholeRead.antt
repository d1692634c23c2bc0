-- A figure of the whole sheet that is reckoned from no large sum is reckoned from what is linked to its number.
use Rattle.std.proofs.Common.{◌≡◌, ◌<◌, ℕ, All, List, None, true, is_some, length, refl, ap, subst}
use Rattle.scr_nodes.specs.Live.{is_live}
use Rattle.scr_nodes.specs.declared.node.Node.TheVariants as nodes
use Rattle.scr_nodes.specs.declared.node.Whole.{Whole}
use Rattle.scr_reachability.specs.Linked.{AreAt, sources_in as linked_in}
use Rattle.scr_partial_sums.specs.declared.figure.Figure.{Figure}
use Rattle.scr_block_graph.specs.Books.{rolled_of}
use Rattle.scr_block_graph.specs.Graph.{is_live_in, sources_in}
use Rattle.scr_block_graph.specs.Sums.{first_sum}
use Rattle.scr_block_graph.specs.declared.point.Point.{Point}
use Rattle.scr_block_graph.specs.declared.point.Point.TheVariants as points
use Rattle.scr_tree.specs.Figures.{AreReadAt, AreSpansOf}
use Rattle.scr_tree.specs.Ready.{IsBasis, IsReadyOn, StandsOn, reckoning_on}
use Rattle.scr_tree.specs.declared.basis.Basis.{Basis}
use Rattle.scr_tree.specs.declared.figures.Below.{Below}
use Rattle.scr_tree.proofs.Here.{have-here, within-here}
use Rattle.scr_tree.proofs.Known.{read-right}
use Rattle.scr_tree.proofs.PointSources.{linked-at}

module _ (b : Basis) (is : IsBasis b) (figures : List Figure) (number : ℕ) (ready : IsReadyOn b figures number) (what : Whole)
    (at : StandsOn b (points.Figure (nodes.Whole what)) number) where
  abbrev here : Point
  here = points.Figure (nodes.Whole what)

  pub whole-live : is_live b.inputs.book.now.sheet (nodes.Whole what) ≡ true
  whole-live =
      subst (λ p. is_live_in (rolled_of b.inputs.book.now) p ≡ true)
      (is.graph.numbers_of.numbers.exact number ready.node here ready.at at) ready.live

  module _ (plain : first_sum (nodes.Whole what) ≡ None) where
    whole-linked : AreAt (StandsOn b) (linked_in b.links.now.edges number) (sources_in (rolled_of b.inputs.book.now) here)
    whole-linked =
        linked-at b.inputs.book.now b.places.now b.lists.now b.links.now.edges is.graph (nodes.Whole what) number at whole-live
        (ap is_some plain) refl

    pub whole-within : All (λ source. source < length figures) (linked_in b.links.now.edges number)
    whole-within = within-here b is figures number ready here at (linked_in b.links.now.edges number) whole-linked

    pub whole-read : (below : Below) → AreReadAt figures (linked_in b.links.now.edges number) below
        → AreSpansOf (reckoning_on b) (sources_in (rolled_of b.inputs.book.now) here) below
    whole-read below read =
        read-right (reckoning_on b) figures (linked_in b.links.now.edges number) (sources_in (rolled_of b.inputs.book.now) here) below
        (have-here b is figures number ready here at (linked_in b.links.now.edges number) whole-linked) read
