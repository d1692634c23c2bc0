-- What is left of the first reckoning once rows, currencies and Blocks are reckoned (this project's own).
use Rattle.std.specs.Prelude.{◌≡◌, ℕ, Bool, true, false, Contains, List, nat_eq}
use Rattle.std.specs.List.{IsDistinct}
use Rattle.scr_nodes.specs.declared.node.Node.TheVariants as nodes
use Rattle.scr_nodes.specs.declared.node.Whole.{Whole}
use Rattle.scr_nodes.specs.declared.node.Whole.TheVariants as wholes
use Rattle.scr_block_graph.specs.Books.{rolled_of}
use Rattle.scr_block_graph.specs.Graph.{is_live_in}
use Rattle.scr_block_graph.specs.declared.point.Point.{Point}
use Rattle.scr_block_graph.specs.declared.point.Point.TheVariants as points
use Rattle.scr_tree.specs.Points.{StandsIn}
use Rattle.scr_tree.specs.declared.graph.Numbers.{Numbers}

-- Whether a figure of the whole sheet is worked out after all rows: all but `Assets` are (own).
abbrev pub is_after_rows : Whole → Bool
is_after_rows wholes.Assets = false
is_after_rows what = true

-- The figures of the whole sheet, but the assets of which concentrations are measured, from which the rows of groups are reckoned.
abbrev pub is_left : Point → Bool
is_left (points.Figure (nodes.Whole what)) = is_after_rows what
is_left point = false

-- a point that is left, and that the book has, stands at the number
abbrev pub IsLeftAt : Numbers → ℕ → Type 0
IsLeftAt numbers number = (point : Point) × StandsIn numbers.book.now numbers.places.now numbers.lists.now point number
    × (is_live_in (rolled_of numbers.book.now) point ≡ true) × (is_left point ≡ true)

-- just the numbers of the points that are left and that the book has, each once
pub record AreLeft (numbers : Numbers) (list : List ℕ) : Type 0 where
  pub once : IsDistinct nat_eq list
  pub each : (number : ℕ) → Contains list number → IsLeftAt numbers number
  pub all : (point : Point) (number : ℕ) → StandsIn numbers.book.now numbers.places.now numbers.lists.now point number
      → is_live_in (rolled_of numbers.book.now) point ≡ true → is_left point ≡ true → Contains list number
