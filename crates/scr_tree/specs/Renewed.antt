-- Figures that are the sums of others, and Blocks that are still what an edit found (this project's own).
use Rattle.std.specs.Prelude.{◌≡◌, ℕ, ◌<◌, true, List, length, map}
use Rattle.scr_num.specs.Rounding.{Ends, ends}
use Rattle.scr_num.specs.Sums.{sum_ends}
use Rattle.scr_reachability.specs.Linked.{AreAt}
use Rattle.scr_partial_sums.specs.Figures.{ends_at, member_number}
use Rattle.scr_partial_sums.specs.Written.{is_open_at}
use Rattle.scr_partial_sums.specs.declared.figure.Figure.{Figure}
use Rattle.scr_block_graph.specs.Books.{rolled_of}
use Rattle.scr_block_graph.specs.Graph.{Rolled, is_live_in, sources_in}
use Rattle.scr_block_graph.specs.declared.point.Block.{Block}
use Rattle.scr_block_graph.specs.declared.point.Point.{Point}
use Rattle.scr_block_graph.specs.declared.point.Point.TheVariants as points
use Rattle.scr_tree.specs.Ready.{StandsOn}
use Rattle.scr_tree.specs.Together.{any_close}
use Rattle.scr_tree.specs.declared.basis.Basis.{Basis}

-- what the figures at these numbers come to together
abbrev pub sum_at : List Figure → List ℕ → Ends
sum_at figures numbers = sum_ends (map (ends_at figures) numbers)

-- the numbers of the figures of one family of the rows with these first numbers
abbrev pub family_numbers : ℕ → List ℕ → List ℕ
family_numbers family firsts = map (member_number family) firsts

-- the figure is the sum of those at these numbers, and rests on an open choice where one of them does
pub record IsSumOf (figures : List Figure) (numbers : List ℕ) (figure : Figure) : Type 0 where
  pub span : ends figure.span ≡ sum_at figures numbers
  pub close : figure.close ≡ any_close figures numbers

-- so is the figure that stands at the number
pub record IsSumAt (figures : List Figure) (numbers : List ℕ) (number : ℕ) : Type 0 where
  pub there : number < length figures
  pub span : ends_at figures number ≡ sum_at figures numbers
  pub close : is_open_at figures number ≡ any_close figures numbers

-- each Block of a kind that the book has is in these figures the sum of those that it adds up
abbrev pub AreSums : Rolled → (Point → ℕ → Type 0) → List Figure → (Point → Type 0) → Type 0
AreSums book At figures P = (block : Block) (number : ℕ) (numbers : List ℕ) → is_live_in book (points.Block block) ≡ true → P (points.Block block)
    → At (points.Block block) number → AreAt At numbers (sources_in book (points.Block block)) → IsSumAt figures numbers number

-- each Block is
abbrev pub AreSumsOn : Basis → List Figure → Type 0
AreSumsOn b figures = AreSums (rolled_of b.inputs.book.now) (StandsOn b) figures (λ point. Unit {0})
