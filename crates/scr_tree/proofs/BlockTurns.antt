-- The Blocks of the first reckoning: at which turns sums are read.
use Rattle.std.proofs.Common.{◌≡◌, ◌⊎◌, inl, inr, ℕ, ◌<◌, Bool, true, false, is_some, List, slice_get, refl, ap, ◌∙◌, arith}
use Rattle.std.specs.Option.{option_map}
use Rattle.std.specs.Prelude.{not}
use Rattle.scr_figure_ids.specs.Families.{family_of}
use Rattle.scr_ids.specs.Ranges.{IsAt}
use Rattle.scr_ids.specs.declared.table.Table.TheVariants as tables
use Rattle.scr_nodes.specs.declared.node.{Node.Node, OfCurrency.OfCurrency, Whole.Whole}
use Rattle.scr_nodes.specs.declared.node.Node.TheVariants as nodes
use Rattle.scr_block_graph.specs.BlockNumbers.{place_of}
use Rattle.scr_block_graph.specs.Books.{rolled_of}
use Rattle.scr_block_graph.specs.Graph.{is_live_in}
use Rattle.scr_block_graph.specs.Sums.{first_sum, reader_of}
use Rattle.scr_block_graph.specs.declared.point.Point.{Point}
use Rattle.scr_block_graph.specs.declared.point.Point.TheVariants as points
use Rattle.scr_block_graph.specs.declared.sum.Sum.{Sum}
use Rattle.scr_block_graph.specs.declared.sum.Sum.TheVariants as sums
use Rattle.scr_partial_sums.specs.declared.figure.Figure.{Figure}
use Rattle.scr_tree.specs.Figures.{AreKnownOf, HasFigure, Reckoning, worth_of}
use Rattle.scr_tree.specs.First.{IsBlockBefore, IsGround}
use Rattle.scr_tree.specs.Points.{StandsIn, book_reckoning, is_linked}
use Rattle.scr_tree.specs.Turns.{IsBefore, Turn, stage_of, turn}
use Rattle.scr_tree.specs.declared.making.Ground.{Ground}
use Rattle.scr_tree.proofs.Known.{known-weaker}

-- between the assets of which concentrations are measured and the groups no sum is read
reader-between : (sum : Sum) → stage_of (reader_of sum) < 5 → stage_of (reader_of sum) < 3
reader-between (sums.Class class) low = absurd (omega (arith, low))
reader-between sums.Closed low = absurd (omega (arith, low))
reader-between sums.Spreads low = absurd (omega (arith, low))
reader-between sums.Grouped low = omega arith
reader-between (sums.Group name) low = absurd (omega (arith, low))
reader-between (sums.Assets currency) low = absurd (omega (arith, low))
reader-between (sums.Rates currency direction) low = absurd (omega (arith, low))
reader-between (sums.Costs currency direction) low = absurd (omega (arith, low))
reader-between (sums.Presents currency) low = absurd (omega (arith, low))
reader-between (sums.Losses biometric projection) low = absurd (omega (arith, low))
reader-between sums.Squares low = absurd (omega (arith, low))

-- a figure of a currency or of the whole sheet is reckoned from a sum, or is linked
either : (b : Bool) → (b ≡ true) ⊎ (not b ≡ true)
either true = inl refl
either false = inr refl

pub currency-read : (name : List ℕ) (what : OfCurrency)
    → (is_some (first_sum (nodes.Currency name what)) ≡ true) ⊎ (is_linked (nodes.Currency name what) ≡ true)
currency-read name what = either (is_some (first_sum (nodes.Currency name what)))

pub whole-read : (what : Whole) → (is_some (first_sum (nodes.Whole what)) ≡ true) ⊎ (is_linked (nodes.Whole what) ≡ true)
whole-read what = either (is_some (first_sum (nodes.Whole what)))

module _ (ground : Ground) (g : IsGround ground) where
  abbrev At : Point → ℕ → Type 0
  At = StandsIn ground.inputs.book.now ground.places.now ground.lists.now

  abbrev of_book : Reckoning Point
  of_book = book_reckoning ground.inputs.factors.now (rolled_of ground.inputs.book.now)

  abbrev AreThere : List Figure → Turn → Type 0
  AreThere figures t = AreKnownOf of_book At figures (IsBlockBefore ground.inputs.book.now.sheet t)

  -- nothing comes before the first figure of a stage but what is of an earlier one
  early : (s : ℕ) (node : Node) → IsBefore ground.inputs.book.now.sheet (turn s 0 0) node → stage_of node < s
  early s node (inl less) = less
  early s node (inr h) = absurd (by h.1.before)
    where
      by : (h.1.k < 0) ⊎ ((h.1.k ≡ 0) × (family_of node < 0)) → ⊥
      by (inl less) = omega (arith, less)
      by (inr same) = let l = same.1 in omega (arith, l)

  -- figures of rows are read off no sum, but for the totals of groups
  pub blocks-rows : (figures : List Figure) → AreThere figures (turn 3 0 0) → AreThere figures (turn 5 0 0)
  blocks-rows figures there =
      known-weaker of_book At figures (IsBlockBefore ground.inputs.book.now.sheet (turn 3 0 0)) (IsBlockBefore ground.inputs.book.now.sheet (turn 5 0 0))
      (λ point live before. back point before) there
    where
      back : (point : Point) → IsBlockBefore ground.inputs.book.now.sheet (turn 5 0 0) point → IsBlockBefore ground.inputs.book.now.sheet (turn 3 0 0) point
      back (points.Figure node) before = before
      back (points.Block block) before = inl (reader-between block.sum (early 5 (reader_of block.sum) before))

  -- where no part of a list has another figure
  pub blocks-kept : (a b : List Figure) (t : Turn)
      → ((slot j number : ℕ) → IsAt ground.places.now tables.Part slot j number → slice_get b number ≡ slice_get a number)
      → AreThere a t → AreThere b t
  unfolding AreKnownOf
  blocks-kept a b t same there = λ point number at live before. by point number at live before
    where
      by : (point : Point) (number : ℕ) → At point number → is_live_in (rolled_of ground.inputs.book.now) point ≡ true
          → IsBlockBefore ground.inputs.book.now.sheet t point → HasFigure of_book b number point
      by (points.Figure node) number at live before = absurd before
      by (points.Block block) number at live before =
          ap (option_map worth_of) (same at.slot (place_of block.sum) number at.at) ∙ there (points.Block block) number at live before
