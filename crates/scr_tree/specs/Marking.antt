-- What is marked as reckoned from a point (this project's own).
use Rattle.std.specs.Prelude.{◌≡◌, ◌↔◌, ◌⊎◌, ◌<◌, ℕ, Bool, true, false, List, Contains, Some, nat_eq, length, slice_get}
use Rattle.std.specs.List.{IsDistinct}
use Rattle.scr_sum_tree.specs.declared.readers.Reader.{Reader}
use Rattle.scr_sum_tree.specs.declared.readers.Reader.TheVariants as readers
use Rattle.scr_book.specs.RolledSheets.{RolledSheet}
use Rattle.scr_ids.specs.Ranges.{Numbered}
use Rattle.scr_nodes.specs.declared.node.Node.TheVariants as nodes
use Rattle.scr_nodes.specs.declared.node.OfGroup.TheVariants as of_groups
use Rattle.scr_nodes.specs.declared.node.Whole.TheVariants as wholes
use Rattle.scr_member_index.specs.declared.lists.Lists.{Lists}
use Rattle.scr_reachability.specs.Leading.{Leads}
use Rattle.scr_block_graph.specs.Books.{rolled_of}
use Rattle.scr_block_graph.specs.Graph.{is_live_in, member_point, roll_in, sources_in}
use Rattle.scr_block_graph.specs.Reading.{IsReading, ReadsMember}
use Rattle.scr_block_graph.specs.Sums.{roll_of}
use Rattle.scr_block_graph.specs.declared.sum.Sum.TheVariants as sums
use Rattle.scr_book.specs.Places.{names_in}
use Rattle.scr_sheet.specs.Members.{table_of}
use Rattle.scr_block_graph.specs.declared.point.Point.{Point}
use Rattle.scr_block_graph.specs.declared.point.Point.TheVariants as points
use Rattle.scr_block_graph.specs.declared.sum.Sum.{Sum}
use Rattle.scr_tree.specs.Points.{IsLinkedPoint, StandsIn, book_graph}

-- just those are marked more of which it holds, each once; what was marked stands where it stood
pub record AreMarkedMore (P : ℕ → Type 0) (old new : List ℕ) : Type 0 where
  pub once : IsDistinct nat_eq old → IsDistinct nat_eq new
  pub kept : (place other : ℕ) → slice_get old place ≡ Some other → slice_get new place ≡ Some other
  pub marked : (number : ℕ) → Contains new number ↔ (Contains old number ⊎ P number)

-- a live point at the number is a reader of the sum
pub record IsReaderAt (book : RolledSheet) (places : Numbered) (lists : Lists) (sum : Sum) (reader : Reader) (number : ℕ) : Type 0 where
  pub point : Point
  pub at : StandsIn book places lists point number
  pub live : is_live_in (rolled_of book) point ≡ true
  pub reads : IsReading sum reader point

-- a live point at the number adds up, for the sum, the figure of the member of this name
pub record IsMemberReaderAt (book : RolledSheet) (places : Numbered) (lists : Lists) (sum : Sum) (name : List ℕ) (number : ℕ) : Type 0 where
  pub point : Point
  pub at : StandsIn book places lists point number
  pub live : is_live_in (rolled_of book) point ≡ true
  pub reads : ReadsMember (rolled_of book) sum point (member_point sum name)

-- so does one for the member in the row at a place of the table of the sum's members, of whatever name it is
abbrev pub AreRowMarked : RolledSheet → Numbered → Lists → Sum → ℕ → List ℕ → List ℕ → Type 0
AreRowMarked book places lists sum row old new =
    (name : List ℕ) → slice_get (names_in (table_of (roll_of sum)) book.sheet) row ≡ Some name
    → AreMarkedMore (IsMemberReaderAt book places lists sum name) old new

-- a live point at the number is reckoned from the point at another
pub record IsDependantAt (book : RolledSheet) (places : Numbered) (lists : Lists) (source number : ℕ) : Type 0 where
  pub point : Point
  pub below : Point
  pub at : StandsIn book places lists point number
  pub live : is_live_in (rolled_of book) point ≡ true
  pub from : StandsIn book places lists below source
  pub reads : Contains (sources_in (rolled_of book) point) below

-- a live point at the number leads to the one at another
pub record IsAboveAt (book : RolledSheet) (places : Numbered) (lists : Lists) (source number : ℕ) : Type 0 where
  pub point : Point
  pub at : StandsIn book places lists point number
  pub live : is_live_in (rolled_of book) point ≡ true
  pub leads : Leads (book_graph (rolled_of book)) (λ below. StandsIn book places lists below source) point

-- A point is the concentration square of some group (own).
abbrev pub IsSquare : Point → Type 0
IsSquare point = (name : List ℕ) × (point ≡ points.Figure (nodes.Group name of_groups.ConcentrationSquare))

-- The point of the assets against which concentrations are measured, a figure of the whole sheet (own).
abbrev pub assets : Point
assets = points.Figure (nodes.Whole wholes.Assets)

-- the point is the square of a group, or a Block over squares
abbrev pub is_squares : Sum → Bool
is_squares sums.Squares = true
is_squares sum = false

-- Whether a point is the concentration square of a group, or a Block over such squares (own).
abbrev pub is_of_squares : Point → Bool
is_of_squares (points.Figure (nodes.Group name of_groups.ConcentrationSquare)) = true
is_of_squares (points.Figure node) = false
is_of_squares (points.Block block) = is_squares block.sum

-- such a point stands at the number and lives
pub record IsSquaresAt (book : RolledSheet) (places : Numbered) (lists : Lists) (number : ℕ) : Type 0 where
  pub point : Point
  pub at : StandsIn book places lists point number
  pub live : is_live_in (rolled_of book) point ≡ true
  pub is : is_of_squares point ≡ true

-- the assets are marked, with which all squares are reached
abbrev pub AreAssetsMarked : RolledSheet → Numbered → Lists → List ℕ → Type 0
AreAssetsMarked book places lists marks = (number : ℕ) × StandsIn book places lists assets number × Contains marks number

-- a live point at the number is reckoned from all squares together, where there are any
pub record IsAboveSquares (book : RolledSheet) (places : Numbered) (lists : Lists) (number : ℕ) : Type 0 where
  pub point : Point
  pub at : StandsIn book places lists point number
  pub live : is_live_in (rolled_of book) point ≡ true
  pub some : 0 < length (roll_in (rolled_of book) sums.Squares)
  pub reads : IsReading sums.Squares readers.Whole point

-- the assets stand at the number, and the square of a group at the other
abbrev pub IsSquareOfAssets : RolledSheet → Numbered → Lists → ℕ → ℕ → Type 0
IsSquareOfAssets book places lists number other =
    StandsIn book places lists assets number × ((square : Point) × IsSquare square × StandsIn book places lists square other)

-- the square of a group stands at the number, and the assets are marked
pub record IsLeftToAssets (book : RolledSheet) (places : Numbered) (lists : Lists) (marks : List ℕ) (number : ℕ) : Type 0 where
  pub square : Point
  pub is : IsSquare square
  pub at : StandsIn book places lists square number
  pub assets_at : ℕ
  pub there : StandsIn book places lists assets assets_at
  pub marked : Contains marks assets_at

-- All that is reckoned from the point at the number is marked, and nothing but what leads to it. Squares and what adds them up are left to the
-- assets where these are marked, with which just what is reckoned from all squares together is marked.
pub record AreMarkedFrom (book : RolledSheet) (places : Numbered) (lists : Lists) (number : ℕ) (old new : List ℕ) : Type 0 where
  pub once : IsDistinct nat_eq old → IsDistinct nat_eq new
  pub kept : (place other : ℕ) → slice_get old place ≡ Some other → slice_get new place ≡ Some other
  pub each : (other : ℕ) → Contains new other → Contains old other ⊎ IsAboveAt book places lists number other
  pub all : (other : ℕ) → IsDependantAt book places lists number other
      → Contains new other ⊎ (IsLeftToAssets book places lists old number ⊎ IsSquareOfAssets book places lists number other)
  pub squares : StandsIn book places lists assets number → (other : ℕ) → IsAboveSquares book places lists other → Contains new other

-- the same of a point whose sources are linked, and of one whose sources are not
abbrev pub IsLinkedDependantAt : RolledSheet → Numbered → Lists → ℕ → ℕ → Type 0
IsLinkedDependantAt book places lists source number = (is : IsDependantAt book places lists source number) × IsLinkedPoint is.point

-- The point at `number` is a dependant of the one at `source`, and no linked point (own).
abbrev pub IsPlainDependantAt : RolledSheet → Numbered → Lists → ℕ → ℕ → Type 0
IsPlainDependantAt book places lists source number = (is : IsDependantAt book places lists source number) × (IsLinkedPoint is.point → ⊥)

-- the row at a place of the table of the sum's members is a member of its list
abbrev pub IsMemberAt : RolledSheet → Sum → ℕ → Type 0
IsMemberAt book sum row =
    (name : List ℕ) × (slice_get (names_in (table_of (roll_of sum)) book.sheet) row ≡ Some name) × Contains (roll_in (rolled_of book) sum) name

-- a live square stands at the number, or what adds up squares, where there are any
pub record IsSquareOrAbove (book : RolledSheet) (places : Numbered) (lists : Lists) (number : ℕ) : Type 0 where
  pub point : Point
  pub at : StandsIn book places lists point number
  pub live : is_live_in (rolled_of book) point ≡ true
  pub some : 0 < length (roll_in (rolled_of book) sums.Squares)
  pub is : IsSquare point ⊎ ((reader : Reader) × IsReading sums.Squares reader point)

-- ---- what is reached

-- just the marked numbers are reached, and where all squares are, those of squares and of the Blocks over them
pub record AreReached (book : RolledSheet) (places : Numbered) (lists : Lists) (squares : Bool) (marks reached : List ℕ) : Type 0 where
  pub each : (number : ℕ) → Contains reached number → Contains marks number ⊎ ((squares ≡ true) × IsSquaresAt book places lists number)
  pub marked : (number : ℕ) → Contains marks number → Contains reached number
  pub all : squares ≡ true → (number : ℕ) → IsSquaresAt book places lists number → Contains reached number

-- so many of the marked numbers that those of squares alone are missing, where all squares are reached
pub record AreMarksLeft (book : RolledSheet) (places : Numbered) (lists : Lists) (squares : Bool) (marks left : List ℕ) : Type 0 where
  pub each : (number : ℕ) → Contains left number → Contains marks number × (squares ≡ true → IsSquaresAt book places lists number → ⊥)
  pub all : (number : ℕ) → Contains marks number → Contains left number ⊎ ((squares ≡ true) × IsSquaresAt book places lists number)
