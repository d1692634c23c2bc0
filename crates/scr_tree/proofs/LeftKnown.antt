-- What is left of the first reckoning once rows, currencies and Blocks are reckoned: it is linked, and all else is known.
use Rattle.std.proofs.Common.{◌≡◌, inl, ℕ, ◌<◌, true, false, Contains, List, length, ◌∙◌, arith}
use Rattle.std.proofs.lemmas.Bool.{and_parts}
use Rattle.scr_sum_tree.specs.Blocks.{is_block}
use Rattle.scr_links.specs.Edges.{Linked}
use Rattle.scr_tables.proofs.TableRows.{passes_or_fails}
use Rattle.scr_nodes.specs.declared.node.Node.{Node}
use Rattle.scr_nodes.specs.declared.node.Node.TheVariants as nodes
use Rattle.scr_nodes.specs.declared.node.OfSecurity.TheVariants as of_securities
use Rattle.scr_nodes.specs.declared.node.Whole.TheVariants as wholes
use Rattle.scr_partial_sums.specs.declared.figure.Figure.{Figure}
use Rattle.scr_block_graph.specs.Books.{rolled_of}
use Rattle.scr_block_graph.specs.Graph.{is_live_in, reads, roll_in}
use Rattle.scr_block_graph.specs.Sums.{reader_of}
use Rattle.scr_block_graph.specs.declared.point.Point.{Point}
use Rattle.scr_block_graph.specs.declared.point.Point.TheVariants as points
use Rattle.scr_tree.specs.Figures.{AreKnownOf, AreSettled, HasFigure}
use Rattle.scr_tree.specs.First.{AreDoneTo, AreLinkedTo, IsGround, IsWhole, link_ground, numbers_of}
use Rattle.scr_tree.specs.Left.{AreLeft, is_left}
use Rattle.scr_tree.specs.Order.{IsOrder}
use Rattle.scr_tree.specs.Points.{IsGraphOf, StandsIn, book_graph, book_reckoning}
use Rattle.scr_tree.specs.Ready.{IsNoneOf}
use Rattle.scr_tree.specs.Turns.{stage_of, turn}
use Rattle.scr_tree.specs.declared.making.Ground.{Ground}
use Rattle.scr_tree.proofs.AllMade.{points-linked}
use Rattle.scr_tree.proofs.Turns.{all-done}

-- a figure that is not left comes before those of the whole sheet
early-figure : (node : Node) → is_left (points.Figure node) ≡ false → stage_of node < 7
early-figure (nodes.Fund name what) apart = omega arith
early-figure (nodes.Security name of_securities.Total) apart = omega arith
early-figure (nodes.Security name what) apart = omega arith
early-figure (nodes.Liability name what) apart = omega arith
early-figure (nodes.Group name what) apart = omega arith
early-figure (nodes.Currency name what) apart = omega arith
early-figure (nodes.Whole wholes.Assets) apart = omega arith
early-figure (nodes.Whole what) apart = absurd (let clash : true ≡ false = apart in cc)

module _ (ground : Ground) (g : IsGround ground) where
  abbrev At : Point → ℕ → Type 0
  At = StandsIn ground.inputs.book.now ground.places.now ground.lists.now

  -- with the links of what is left the graph is that of the book
  pub left-graph : (links : Linked) → AreLinkedTo (link_ground ground) links (turn 7 0 153)
      → IsGraphOf ground.inputs.book.now ground.places.now ground.lists.now links.edges
  left-graph links is = record { numbers_of = g.points; linked = points-linked ground g links.edges is.linked }

  -- a point that stands at none of the numbers of what is left is known
  pub left-known : (figures : List Figure) (list reached numbers ends : List ℕ) → AreDoneTo ground figures (turn 7 0 0) (turn 7 0 153)
      → AreLeft (numbers_of ground) list → ((number : ℕ) → Contains list number → Contains reached number)
      → IsOrder (book_graph (rolled_of ground.inputs.book.now)) At reached numbers ends
      → AreKnownOf (book_reckoning ground.inputs.factors.now (rolled_of ground.inputs.book.now)) At figures (IsNoneOf At numbers)
  unfolding AreKnownOf
  left-known figures list reached numbers ends is left marked order = λ point number at live none.
      by point number at live
      (passes_or_fails (is_left point)
      (λ its. absurd (none number at (order.all number (marked number (left.all point number at live its)) (point, at, live)))) (λ apart. apart))
    where
      by : (point : Point) (number : ℕ) → At point number → is_live_in (rolled_of ground.inputs.book.now) point ≡ true → is_left point ≡ false
          → HasFigure (book_reckoning ground.inputs.factors.now (rolled_of ground.inputs.book.now)) figures number point
      by (points.Figure node) number at live apart = is.reckoned.known node number at live (inl (early-figure node apart))
      by (points.Block block) number at live apart =
          is.blocks_there (points.Block block) number at live
          (all-done ground.inputs.book.now.sheet ground.places.now g.numbered (reader_of block.sum)
          (and_parts (reads ground.inputs.book.now.sheet block.sum)
          (is_block (length (roll_in (rolled_of ground.inputs.book.now) block.sum)) block.level block.index) live).0)

  -- when it is reckoned too, all is there
  pub left-made : (figures now : List Figure) (links : Linked) → length figures ≡ ground.places.now.size → length now ≡ length figures
      → AreLinkedTo (link_ground ground) links (turn 7 0 153)
      → AreSettled (book_reckoning ground.inputs.factors.now (rolled_of ground.inputs.book.now)) At now → IsWhole ground now links
  left-made figures now links many count all settled = record {
    count = count ∙ many;
    size = all.size;
    settled = settled;
    linked = points-linked ground g links.edges all.linked;
  }
