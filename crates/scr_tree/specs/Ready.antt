-- When figures can be reckoned from those that are known, and are right (this project's own).
use Rattle.std.specs.Prelude.{◌≡◌, ℕ, ◌+◌, ◌<◌, true, List, Contains, Some, length, nat_eq, slice_get}
use Rattle.std.specs.List.{IsDistinct}
use Rattle.scr_sheet.specs.Validity.{Valid}
use Rattle.scr_ids.specs.Ranges.{first}
use Rattle.scr_ids.specs.declared.table.Table.TheVariants as ranged
use Rattle.scr_reachability.specs.LinkedDues.{IsLiveAt}
use Rattle.scr_reachability.specs.Graph.{Graph, IsClosed}
use Rattle.scr_reachability.specs.Linked.{AreAt, AreNumbers}
use Rattle.scr_partial_sums.specs.declared.figure.Figure.{Figure}
use Rattle.scr_block_graph.specs.Books.{rolled_of}
use Rattle.scr_block_graph.specs.declared.point.Point.{Point}
use Rattle.scr_tree.specs.Figures.{AreKnownOf, AreSettled, HaveFigures, Reckoning, worth_of}
use Rattle.scr_tree.specs.Inputs.{AreOfBook}
use Rattle.scr_tree.specs.Order.{IsOrder}
use Rattle.scr_tree.specs.Points.{IsGraphOf, StandsIn, book_graph, book_reckoning}
use Rattle.scr_tree.specs.declared.basis.Basis.{Basis}
use Rattle.scr_tree.specs.declared.graph.Graph.{Graph as TheGraph}
use Rattle.scr_tree.specs.declared.graph.Numbers.{Numbers}

-- a live figure stands at the number, and those of its sources are known, at whatever numbers these stand
pub record IsReady {Node : Type 0} (reckoning : Reckoning Node) (At : Node → ℕ → Type 0) (figures : List Figure) (number : ℕ) : Type 0 where
  pub node : Node
  pub at : At node number
  pub live : reckoning.graph.live node ≡ true
  pub sources : (numbers : List ℕ) → AreAt At numbers (reckoning.graph.sources node) → HaveFigures reckoning figures numbers (reckoning.graph.sources node)

-- the figure is that of the node at the number
abbrev pub IsRight : {Node : Type 0} → Reckoning Node → (Node → ℕ → Type 0) → ℕ → Figure → Type 0
IsRight {Node} reckoning At number figure = (node : Node) → At node number → worth_of figure ≡ reckoning.worth node

-- the node stands at none of these numbers
abbrev pub IsNoneOf : {Node : Type 0} → (Node → ℕ → Type 0) → List ℕ → Node → Type 0
IsNoneOf At numbers node = (number : ℕ) → At node number → Contains numbers number → ⊥

-- Each of the numbers is that of a live figure and comes once, after those of its sources.
pub record AreInTurn {Node : Type 0} (graph : Graph Node) (At : Node → ℕ → Type 0) (numbers : List ℕ) : Type 0 where
  pub once : IsDistinct nat_eq numbers
  pub each : (number : ℕ) → Contains numbers number → IsLiveAt graph At number
  pub before : (k i number source_number : ℕ) (node source : Node) → slice_get numbers k ≡ Some number
      → At node number → Contains (graph.sources node) source
      → At source source_number → slice_get numbers i ≡ Some source_number → i < k

-- Whatever a live figure is reckoned from lives, and all that live have numbers.
pub record IsUp {Node : Type 0} (graph : Graph Node) (At : Node → ℕ → Type 0) (size : ℕ) : Type 0 where
  pub closed : IsClosed graph
  pub numbers : AreNumbers graph At size

-- ---- of what figures are reckoned from

-- The book of a basis with the ids of its figures and Blocks (own).
abbrev pub numbers_on : Basis → Numbers
numbers_on b = record { book = b.inputs.book; places = b.places; lists = b.lists }

-- The ids of a basis with the edges kept beside them (own).
abbrev pub graph_on : Basis → TheGraph
graph_on b = record { numbers = numbers_on b; links = b.links }

-- The book is valid, its figures and Blocks have their numbers, and what neither rows nor lists give is linked.
pub record IsBasis (b : Basis) : Type 0 where
  pub valid : Valid b.inputs.book.now.sheet
  pub graph : IsGraphOf b.inputs.book.now b.places.now b.lists.now b.links.now.edges
  pub rates : AreOfBook b.inputs

-- The graph of points of the book of a basis, with the figure of each (own).
abbrev pub reckoning_on : Basis → Reckoning Point
reckoning_on b = book_reckoning b.inputs.factors.now (rolled_of b.inputs.book.now)

-- A point is kept at this id on a basis (own).
abbrev pub StandsOn : Basis → Point → ℕ → Type 0
StandsOn b = StandsIn b.inputs.book.now b.places.now b.lists.now

-- `IsReady` for the graph, figures and ids of a basis (own).
abbrev pub IsReadyOn : Basis → List Figure → ℕ → Type 0
IsReadyOn b figures number = IsReady (reckoning_on b) (StandsOn b) figures number

-- `IsRight` for the graph, figures and ids of a basis (own).
abbrev pub IsRightOn : Basis → ℕ → Figure → Type 0
IsRightOn b number figure = IsRight (reckoning_on b) (StandsOn b) number figure

-- Some list of reached ids exists for which `IsOrder` holds on the graph and ids of a basis (own).
abbrev pub IsOrderOn : Basis → List ℕ → List ℕ → Type 0
IsOrderOn b numbers ends = (reached : List ℕ) × IsOrder (book_graph (rolled_of b.inputs.book.now)) (StandsOn b) reached numbers ends

-- `AreInTurn` for the graph and ids of a basis (own).
abbrev pub AreInTurnOn : Basis → List ℕ → Type 0
AreInTurnOn b numbers = AreInTurn (book_graph (rolled_of b.inputs.book.now)) (StandsOn b) numbers

-- the figures of all points are known but of those at these numbers
abbrev pub AreKnownBut : Basis → List Figure → List ℕ → Type 0
AreKnownBut b figures numbers = AreKnownOf (reckoning_on b) (StandsOn b) figures (IsNoneOf (StandsOn b) numbers)

-- `AreSettled` for the graph, figures and ids of a basis (own).
abbrev pub AreSettledOn : Basis → List Figure → Type 0
AreSettledOn b figures = AreSettled (reckoning_on b) (StandsOn b) figures

-- ---- squares by row

-- the number of the square of the group in a row
abbrev pub square_number : Basis → ℕ → ℕ
square_number b row = first b.places.now ranged.Group row + 1

-- The row at this position, from 0, is a group, and its concentration square is kept at this id (own).
abbrev pub IsSquareOn : Basis → ℕ → ℕ → Type 0
IsSquareOn b row number = (row < length b.inputs.book.now.sheet.groups) × (square_number b row ≡ number)
