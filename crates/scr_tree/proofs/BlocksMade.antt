-- The Blocks in the first reckoning: which are there after each turn.
use Rattle.std.proofs.Common.{◌≡◌, ◌⊎◌, inl, inr, ℕ, ◌<◌, ◌≤◌, arith, true, false, List, slice_get, refl, sym, ap, subst, ◌∙◌}
use Rattle.std.specs.Option.{option_map}
use Rattle.std.proofs.lemmas.Bool.{and_parts}
use Rattle.scr_figure_ids.specs.Families.{family_of}
use Rattle.scr_figure_ids.specs.Numbers.{StandsAt}
use Rattle.scr_sheet.specs.declared.sheet.BalanceSheet.{BalanceSheet}
use Rattle.scr_nodes.specs.Live.{is_live}
use Rattle.scr_nodes.specs.declared.node.Node.{Node}
use Rattle.scr_block_graph.specs.Books.{rolled_of}
use Rattle.scr_block_graph.specs.Graph.{is_live_in}
use Rattle.scr_block_graph.specs.Sums.{reader_of}
use Rattle.scr_block_graph.specs.declared.point.Block.{Block}
use Rattle.scr_block_graph.specs.declared.point.Point.{Point}
use Rattle.scr_block_graph.specs.declared.point.Point.TheVariants as points
use Rattle.scr_block_graph.specs.declared.sum.Sum.{Sum}
use Rattle.scr_block_graph.specs.declared.sum.Sum.TheVariants as sums
use Rattle.scr_partial_sums.specs.declared.figure.Figure.{Figure}
use Rattle.scr_tree.specs.Figures.{AreKnownOf, HasFigure, worth_of}
use Rattle.scr_tree.specs.First.{AreBlocksThere, IsBlockBefore, IsGround, KeepsOffBlocks}
use Rattle.scr_tree.specs.Points.{StandsIn, book_reckoning, is_linked}
use Rattle.scr_tree.specs.Turns.{IsBefore, Turn, next, stage_of, turn}
use Rattle.scr_tree.specs.declared.making.Ground.{Ground}
use Rattle.scr_tree.proofs.Made.{same-turn}
use Rattle.scr_tree.proofs.Turns.{TakesTurn, step-back}

-- what is reckoned from sums is linked by lists
pub reader-unlinked : (sum : Sum) → is_linked (reader_of sum) ≡ false
reader-unlinked (sums.Class class) = refl
reader-unlinked sums.Closed = refl
reader-unlinked sums.Spreads = refl
reader-unlinked sums.Grouped = refl
reader-unlinked (sums.Group name) = refl
reader-unlinked (sums.Assets currency) = refl
reader-unlinked (sums.Rates currency direction) = refl
reader-unlinked (sums.Costs currency direction) = refl
reader-unlinked (sums.Presents currency) = refl
reader-unlinked (sums.Losses biometric projection) = refl
reader-unlinked sums.Squares = refl

-- no total of a fund or of a security is
reader-late : (sum : Sum) → 2 ≤ stage_of (reader_of sum)
reader-late (sums.Class class) = omega arith
reader-late sums.Closed = omega arith
reader-late sums.Spreads = omega arith
reader-late sums.Grouped = omega arith
reader-late (sums.Group name) = omega arith
reader-late (sums.Assets currency) = omega arith
reader-late (sums.Rates currency direction) = omega arith
reader-late (sums.Costs currency direction) = omega arith
reader-late (sums.Presents currency) = omega arith
reader-late (sums.Losses biometric projection) = omega arith
reader-late sums.Squares = omega arith

none-early : (sheet : BalanceSheet) (sum : Sum) → IsBefore sheet (turn 2 0 0) (reader_of sum) → ⊥
none-early sheet sum (inl less) = let late = reader-late sum in omega (arith, less, late)
none-early sheet sum (inr h) = by h.1.before
  where
    by : (h.1.k < 0) ⊎ ((h.1.k ≡ 0) × (family_of (reader_of sum) < 0)) → ⊥
    by (inl less) = omega (arith, less)
    by (inr same) = let low = same.1 in omega (arith, low)

-- a figure is no Block
pub no-block : (node : Node) (block : Block) → points.Figure node ≡ points.Block block → ⊥
no-block node block e = absurd (cc)

module _ (ground : Ground) (g : IsGround ground) where
  abbrev At : Point → ℕ → Type 0
  At = StandsIn ground.inputs.book.now ground.places.now ground.lists.now

  abbrev Known : List Figure → (Point → Type 0) → Type 0
  Known figures P = AreKnownOf (book_reckoning ground.inputs.factors.now (rolled_of ground.inputs.book.now)) At figures P

  abbrev Has : List Figure → ℕ → Point → Type 0
  Has figures number point = HasFigure (book_reckoning ground.inputs.factors.now (rolled_of ground.inputs.book.now)) figures number point

  -- none is owed while there are totals alone
  pub blocks-none : (figures : List Figure) → Known figures (IsBlockBefore ground.inputs.book.now.sheet (turn 2 0 0))
  unfolding AreKnownOf
  blocks-none figures = λ point m at live before. by point m before
    where
      by : (point : Point) (m : ℕ) → IsBlockBefore ground.inputs.book.now.sheet (turn 2 0 0) point → Has figures m point
      by (points.Figure node) m before = absurd before
      by (points.Block block) m before = absurd (none-early ground.inputs.book.now.sheet block.sum before)

  -- ---- what is written beside them

  module _ (old now : List Figure) where
    -- the figure of a node
    pub blocks-beside : (node : Node) (number : ℕ) (P : Point → Type 0) → ((n : Node) → P (points.Figure n) → ⊥)
        → StandsAt ground.inputs.book.now.sheet ground.places.now node number
        → ((other : ℕ) → (other ≡ number → ⊥) → slice_get now other ≡ slice_get old other) → Known old P → Known now P
    unfolding AreKnownOf
    blocks-beside node number P none stands others known = λ point m at live p. by point m at live p
      where
        by : (point : Point) (m : ℕ) → At point m → is_live_in (rolled_of ground.inputs.book.now) point ≡ true → P point → Has now m point
        by (points.Figure n) m at live p = absurd (none n p)
        by (points.Block block) m at live p =
            ap (option_map worth_of) (others m (λ same.
            no-block node block (g.points.numbers.exact m (points.Figure node) (points.Block block)
            (subst (StandsAt ground.inputs.book.now.sheet ground.places.now node) (sym same) stands) at)))
            ∙ known (points.Block block) m at live p

    -- Blocks of other sums
    pub known-off : (Q : Sum → Type 0) (P : Point → Type 0) → ((block : Block) → Q block.sum → P (points.Block block) → ⊥)
        → KeepsOffBlocks ground Q old now → Known old P → Known now P
    unfolding AreKnownOf
    known-off Q P apart kept known = λ point m at live p.
        ap (option_map worth_of) (kept.others m (λ block q there.
        apart block q (subst P (g.points.numbers.exact m point (points.Block block) at there) p)))
        ∙ known point m at live p

  -- ---- turns

  -- with those of the sums of the figure whose turn it is
  pub blocks-next : (figures : List Figure) (t : Turn) (node : Node) → TakesTurn ground.inputs.book.now.sheet t node
      → is_live ground.inputs.book.now.sheet node ≡ true
      → ((sum : Sum) → reader_of sum ≡ node → AreBlocksThere ground figures (λ s. s ≡ sum))
      → Known figures (IsBlockBefore ground.inputs.book.now.sheet t) → Known figures (IsBlockBefore ground.inputs.book.now.sheet (next t))
  unfolding AreKnownOf
  blocks-next figures t node turn alive own known = λ point m at live before. by point m at live before
    where
      by : (point : Point) (m : ℕ) → At point m → is_live_in (rolled_of ground.inputs.book.now) point ≡ true
          → IsBlockBefore ground.inputs.book.now.sheet (next t) point → Has figures m point
      by (points.Figure n) m at live before = absurd before
      by (points.Block block) m at live before = either (step-back ground.inputs.book.now.sheet t (reader_of block.sum) before)
        where
          either : IsBefore ground.inputs.book.now.sheet t (reader_of block.sum) ⊎ TakesTurn ground.inputs.book.now.sheet t (reader_of block.sum)
              → Has figures m (points.Block block)
          either (inl earlier) = known (points.Block block) m at live earlier
          either (inr its) =
              own block.sum
              (same-turn ground.inputs.book.now.sheet g.valid ground.places.now g.numbered g.numbers t (reader_of block.sum) node
              (and_parts _ _ live).0 its turn)
              (points.Block block) m at live refl
