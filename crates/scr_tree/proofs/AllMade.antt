-- The beginning and the end of the first reckoning: at last each figure and each Block of the book is there, and figures are linked that
-- neither rows nor lists give.
use Rattle.std.proofs.Common.{◌≡◌, inl, ℕ, ◌+◌, ◌++◌, Bool, true, false, is_some, if◌then◌else◌, List, [], ◌∷◌, map, length, Some, slice_get, refl, sym, ap, subst, ◌∙◌, arith}
use Rattle.std.specs.Option.{option_map}
use Rattle.std.specs.Prelude.{not}
use Rattle.std.proofs.lemmas.Bool.{and_parts}
use Rattle.scr_sum_tree.specs.Blocks.{is_block}
use Rattle.scr_figure_ids.specs.Numbers.{StandsAt}
use Rattle.scr_figure_ids.proofs.Standing.{stands}
use Rattle.scr_links.specs.Edges.{Edge, Linked}
use Rattle.scr_nodes.specs.Sources.{sources_of}
use Rattle.scr_nodes.specs.declared.node.Node.{Node}
use Rattle.scr_nodes.specs.declared.node.Node.TheVariants as nodes
use Rattle.scr_nodes.specs.declared.node.Whole.TheVariants as wholes
use Rattle.scr_reachability.specs.Linked.{AreAt, AreLinkedOf, sources_in as linked_in}
use Rattle.scr_block_graph.specs.Books.{rolled_of}
use Rattle.scr_block_graph.specs.Graph.{is_live_in, reads, roll_in, sources_in, tops_of}
use Rattle.scr_block_graph.specs.Sums.{first_sum, reader_of, second_sum}
use Rattle.scr_block_graph.specs.declared.point.Point.{Point}
use Rattle.scr_block_graph.specs.declared.point.Point.TheVariants as points
use Rattle.scr_partial_sums.specs.declared.figure.Figure.{Figure}
use Rattle.scr_tree.specs.Figures.{AreKnownOf, AreSettled, HasFigure, worth_at, worth_of}
use Rattle.scr_tree.specs.First.{AreDone, AreLinkedTo, AreReckonedTo, IsGround, IsLinkedBefore, IsWhole, link_ground}
use Rattle.scr_tree.specs.Graphs.{graph_of}
use Rattle.scr_tree.specs.Points.{IsLinkedPoint, StandsIn, book_graph, book_reckoning, is_linked}
use Rattle.scr_tree.specs.Turns.{turn}
use Rattle.scr_tree.specs.declared.making.Ground.{Ground}
use Rattle.scr_tree.proofs.Made.{links-all, none-reckoned}
use Rattle.scr_tree.proofs.Turns.{all-done}

-- what is linked is reckoned from no sum
not-false : (b : Bool) → not b ≡ true → b ≡ false
not-false true h = absurd (let clash : false ≡ true = h in cc)
not-false false h = refl

pub unsummed : (node : Node) → is_linked node ≡ true → is_some (first_sum node) ≡ false
unsummed (nodes.Fund name what) its = refl
unsummed (nodes.Security name what) its = refl
unsummed (nodes.Liability name what) its = refl
unsummed (nodes.Group name what) its = absurd (let clash : false ≡ true = its in cc)
unsummed (nodes.Currency name what) its = not-false (is_some (first_sum (nodes.Currency name what))) its
unsummed (nodes.Whole what) its = not-false (is_some (first_sum (nodes.Whole what))) its

module _ (ground : Ground) (g : IsGround ground) where
  abbrev At : Point → ℕ → Type 0
  At = StandsIn ground.inputs.book.now ground.places.now ground.lists.now

  pub nothing-reckoned : (figures : List Figure) → length figures ≡ ground.places.now.size → AreReckonedTo ground figures (turn 0 0 0)
  nothing-reckoned figures count = record {
    count = count;
    known = none-reckoned ground.inputs.factors.now ground.inputs.book.now.sheet g.valid ground.places.now g.numbered g.numbers figures;
  }

  -- ---- the assets of which concentrations are measured

  pub assets-known : (figures : List Figure) → AreReckonedTo ground figures (turn 3 0 0)
      → option_map worth_of (slice_get figures 153)
      ≡ Some (worth_at ground.inputs.factors.now ground.inputs.book.now.sheet (nodes.Whole wholes.Assets))
  unfolding AreKnownOf
  assets-known figures is =
      is.known (nodes.Whole wholes.Assets) 153
      (subst (StandsAt ground.inputs.book.now.sheet ground.places.now (nodes.Whole wholes.Assets))
      (ap (λ n. n + 153) g.numbered.whole ∙ (let z : 0 + 153 ≡ 153 = refl in z))
      (stands ground.inputs.book.now.sheet ground.places.now g.numbered (nodes.Whole wholes.Assets) (omega arith) 0 refl)) refl (inl (omega arith))

  -- ---- the end

  points-at : (numbers : List ℕ) (list : List Node) → AreAt (StandsAt ground.inputs.book.now.sheet ground.places.now) numbers list
      → AreAt At numbers (map points.Figure list)
  points-at [] [] at = tt
  points-at [] (m ∷ list) at = absurd at
  points-at (n ∷ numbers) [] at = absurd at
  points-at (n ∷ numbers) (m ∷ list) at = (at.0, points-at numbers list at.1)

  -- the sources of a figure that is linked are those that the balance sheet gives it
  linked-at : (numbers : List ℕ) (node : Node) → is_linked node ≡ true
      → AreAt (StandsAt ground.inputs.book.now.sheet ground.places.now) numbers (sources_of ground.inputs.book.now.sheet node)
      → AreAt At numbers (sources_in (rolled_of ground.inputs.book.now) (points.Figure node))
  linked-at numbers node its at =
      subst (λ t. AreAt At numbers (if t then tops_of (rolled_of ground.inputs.book.now) (first_sum node) ++ tops_of (rolled_of ground.inputs.book.now) (second_sum node)
      else map points.Figure (sources_of ground.inputs.book.now.sheet node))) (sym (unsummed node its))
      (points-at numbers (sources_of ground.inputs.book.now.sheet node) at)

  settled : (figures : List Figure) → AreDone ground figures (turn 7 0 153)
      → AreSettled (book_reckoning ground.inputs.factors.now (rolled_of ground.inputs.book.now)) At figures
  unfolding AreKnownOf
  settled figures is = λ point number at live all. by point number at live
    where
      by : (point : Point) (number : ℕ) → At point number → is_live_in (rolled_of ground.inputs.book.now) point ≡ true
          → HasFigure (book_reckoning ground.inputs.factors.now (rolled_of ground.inputs.book.now)) figures number point
      by (points.Figure node) number at live =
          is.reckoned.known node number at live (all-done ground.inputs.book.now.sheet ground.places.now g.numbered node live)
      by (points.Block block) number at live =
          is.blocks_there (points.Block block) number at live
          (all-done ground.inputs.book.now.sheet ground.places.now g.numbered (reader_of block.sum)
          (and_parts (reads ground.inputs.book.now.sheet block.sum)
          (is_block (length (roll_in (rolled_of ground.inputs.book.now) block.sum)) block.level block.index) live).0)

  -- what is linked among the figures of the balance sheet is linked among the points of the book
  pub points-linked : (edges : List Edge)
      → AreLinkedOf (graph_of ground.inputs.book.now.sheet) (StandsAt ground.inputs.book.now.sheet ground.places.now) edges
      (IsLinkedBefore ground.inputs.book.now.sheet (turn 7 0 153))
      → AreLinkedOf (book_graph (rolled_of ground.inputs.book.now)) At edges IsLinkedPoint
  points-linked edges before = record {
    done = λ point number at live its. done point number at live its;
    only = λ e has. let l = linked.only e has in (points.Figure l.0, l.1, l.2, l.3);
  }
    where
      linked : AreLinkedOf (graph_of ground.inputs.book.now.sheet) (StandsAt ground.inputs.book.now.sheet ground.places.now) edges
          (λ n. is_linked n ≡ true)
      linked = links-all ground.inputs.book.now.sheet g.valid ground.places.now g.numbered g.numbers edges before

      done : (point : Point) (number : ℕ) → At point number → is_live_in (rolled_of ground.inputs.book.now) point ≡ true → IsLinkedPoint point
          → AreAt At (linked_in edges number) (sources_in (rolled_of ground.inputs.book.now) point)
      done (points.Figure node) number at live its = linked-at (linked_in edges number) node its (linked.done node number at live its)
      done (points.Block block) number at live its = absurd its

  pub all-made : (figures : List Figure) (links : Linked) → AreDone ground figures (turn 7 0 153)
      → AreLinkedTo (link_ground ground) links (turn 7 0 153) → IsWhole ground figures links
  all-made figures links is all = record {
    count = is.reckoned.count;
    size = all.size;
    settled = settled figures is;
    linked = points-linked links.edges all.linked;
  }
