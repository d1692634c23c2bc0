-- What points come to together whose figures are known (this project's own).
use Rattle.std.specs.Prelude.{◌≡◌, ◌-◌, ℕ, List, map}
use Rattle.std.specs.List.{list_any, range_with_len}
use Rattle.scr_sum_tree.specs.declared.blocks.Level.{Level}
use Rattle.scr_num.specs.Rounding.{Ends, ends}
use Rattle.scr_num.specs.Sums.{sum_ends}
use Rattle.scr_reachability.specs.Linked.{AreAt}
use Rattle.scr_partial_sums.specs.declared.figure.Figure.{Figure}
use Rattle.scr_block_graph.specs.Graph.{block_point}
use Rattle.scr_block_graph.specs.declared.point.Point.{Point}
use Rattle.scr_block_graph.specs.declared.sum.Sum.{Sum}
use Rattle.scr_tree.specs.Figures.{HaveFigures}
use Rattle.scr_tree.specs.Ready.{StandsOn, reckoning_on}
use Rattle.scr_tree.specs.declared.basis.Basis.{Basis}

-- their figures are known, at whatever numbers they stand
abbrev pub AreKnownAt : Basis → List Figure → List Point → Type 0
AreKnownAt b figures points = (numbers : List ℕ) → AreAt (StandsOn b) numbers points → HaveFigures (reckoning_on b) figures numbers points

-- what one comes to
abbrev pub worked_of : Basis → Point → Ends
worked_of b point = ((reckoning_on b).worth point).worked

-- the figure is the sum of theirs, and rests on an open choice where one of theirs does
pub record IsAddedUp (b : Basis) (points : List Point) (figure : Figure) : Type 0 where
  pub span : ends figure.span ≡ sum_ends (map (worked_of b) points)
  pub close : figure.close ≡ list_any (λ t. t) (map (λ point. ((reckoning_on b).worth point).close) points)

-- the Blocks of a sum from one of a level up to another
abbrev pub blocks_among : Sum → Level → ℕ → ℕ → List Point
blocks_among sum level start end = map (block_point sum level) (range_with_len start (end - start))
