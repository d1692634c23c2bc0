-- The Blocks under the figures of the whole sheet in the first reckoning by several workers.
use Rattle.std.proofs.Common.{◌≡◌, ℕ, ◌<◌, ◌∙◌, true, List, refl, sym, ap, subst, arith}
use Rattle.scr_figure_ids.specs.Families.{whole_family}
use Rattle.scr_nodes.specs.Live.{is_live}
use Rattle.scr_nodes.specs.declared.node.Node.{Node}
use Rattle.scr_nodes.specs.declared.node.Node.TheVariants as nodes
use Rattle.scr_nodes.specs.declared.node.Whole.{Whole}
use Rattle.scr_block_graph.specs.Books.{rolled_of}
use Rattle.scr_block_graph.specs.Sums.{member_of, reader_of}
use Rattle.scr_block_graph.specs.declared.point.Point.{Point}
use Rattle.scr_block_graph.specs.declared.point.Point.TheVariants as points
use Rattle.scr_block_graph.specs.declared.sum.Sum.{Sum}
use Rattle.scr_block_graph.specs.declared.sum.Sum.TheVariants as sums
use Rattle.scr_partial_sums.specs.declared.figure.Figure.{Figure}
use Rattle.scr_tree.specs.First.{AreBlocksThere, AreDoneTo, AreMembersThere, IsBlockBefore, IsBlockOf, IsGround, IsSumOf, KeepsOffBlocks}
use Rattle.scr_tree.specs.Points.{StandsIn, book_reckoning}
use Rattle.scr_tree.specs.Turns.{IsBefore, Turn, next, stage_of, turn}
use Rattle.scr_tree.specs.declared.making.Ground.{Ground}
use Rattle.scr_tree.proofs.BlocksMade.{blocks-next, known-off}
use Rattle.scr_tree.proofs.Grounds.{blocks-on}
use Rattle.scr_tree.proofs.Known.{known-weaker}
use Rattle.scr_tree.proofs.SumsMade.{blocks-weaker, figures-off, its-reader, members-early, read-own}
use Rattle.scr_tree.proofs.Turns.{TakesTurn, dead-skipped, not-before, stage-of-whole}

-- sums run over rows alone
member-early : (sum : Sum) (name : List ℕ) → stage_of (member_of sum name) < 7
member-early (sums.Class class) name = omega arith
member-early sums.Closed name = omega arith
member-early sums.Spreads name = omega arith
member-early sums.Grouped name = omega arith
member-early (sums.Group group) name = omega arith
member-early (sums.Assets currency) name = omega arith
member-early (sums.Rates currency direction) name = omega arith
member-early (sums.Costs currency direction) name = omega arith
member-early (sums.Presents currency) name = omega arith
member-early (sums.Losses biometric projection) name = omega arith
member-early sums.Squares name = omega arith

module _ (ground : Ground) (g : IsGround ground) (whole : Whole) (number : ℕ) (own : whole_family whole ≡ number) (few : number < 153) where
  abbrev node : Node
  node = nodes.Whole whole

  abbrev t : Turn
  t = turn 7 0 number

  its_turn : TakesTurn ground.inputs.book.now.sheet t node
  its_turn = record { at = stage-of-whole whole (subst (λ n. n < 153) (sym own) few); row = refl; family = own }

  module _ (before : List Figure) (is : AreDoneTo ground before (turn 7 0 0) t) where
    -- the figures of all members are there
    pub whole-members : AreMembersThere ground before (IsSumOf node)
    whole-members = members-early ground g before (turn 7 0 0) (IsSumOf node) (λ sum name of. member-early sum name) is.reckoned.known

    -- no other figure writes Blocks under its sums
    pub whole-own : AreBlocksThere ground before (λ sum. IsSumOf node sum × (reader_of sum ≡ node → ⊥))
    whole-own =
        known-weaker (book_reckoning ground.inputs.factors.now (rolled_of ground.inputs.book.now))
        (StandsIn ground.inputs.book.now ground.places.now ground.lists.now) before (IsBlockBefore ground.inputs.book.now.sheet t)
        (IsBlockOf (λ sum. IsSumOf node sum × (reader_of sum ≡ node → ⊥))) (λ point live q. by point q) is.blocks_there
      where
        by : (point : Point) → IsBlockOf (λ sum. IsSumOf node sum × (reader_of sum ≡ node → ⊥)) point
            → IsBlockBefore ground.inputs.book.now.sheet t point
        by (points.Figure n) q = absurd q
        by (points.Block block) q = absurd (q.1 (its-reader node refl block.sum q.0))

    -- the balance sheet does not have it
    pub whole-dead : (is_live ground.inputs.book.now.sheet node ≡ true → ⊥) → AreDoneTo ground before (turn 7 0 0) (next t)
    whole-dead dead = record {
      reckoned = is.reckoned;
      blocks_there = blocks-on ground g before t (next t)
          (dead-skipped ground.inputs.book.now.sheet ground.places.now g.numbered t node its_turn dead) is.blocks_there;
    }

    -- the Blocks under its sums are written
    pub whole-under : is_live ground.inputs.book.now.sheet node ≡ true → (now : List Figure)
        → KeepsOffBlocks ground (λ sum. reader_of sum ≡ node) before now → AreBlocksThere ground now (IsSumOf node)
        → AreDoneTo ground now (turn 7 0 0) (next t)
    whole-under live now kept blocks = record {
      reckoned = record {
        count = kept.count ∙ is.reckoned.count;
        known = figures-off ground g before now (λ sum. reader_of sum ≡ node) (IsBefore ground.inputs.book.now.sheet (turn 7 0 0)) kept
            is.reckoned.known;
      };
      blocks_there = blocks-next ground g now t node its_turn live
          (λ sum reads.
          blocks-weaker ground g now (IsSumOf node) (λ s. s ≡ sum) (λ s e. read-own node s (ap reader_of e ∙ reads)) blocks)
          (known-off ground g before now (λ sum. reader_of sum ≡ node) (IsBlockBefore ground.inputs.book.now.sheet t)
          (λ block reads early.
          not-before ground.inputs.book.now.sheet g.valid t node its_turn (subst (IsBefore ground.inputs.book.now.sheet t) reads early))
          kept is.blocks_there);
    }
