-- The points of an order, reckoned by several workers at once (this project's own).
use Rattle.std.specs.Prelude.{◌≡◌, ℕ, ◌+◌, ◌++◌, Bool, true, false, List, [], ◌∷◌, Option, Some, None, pos, flat_map, if◌then◌else◌, length, map, nat_eq}
use Rattle.std.specs.List.{AllByRecursion, list_any, range_with_len}
use Rattle.std.specs.Option.{option_and_then, option_map, option_map_or}
use Rattle.scr_num.specs.Rounding.{Ends, ends, exact_ends}
use Rattle.scr_num.specs.declared.span.Span.{Span}
use Rattle.scr_sum_tree.specs.Blocks.{blocks_at}
use Rattle.scr_sum_tree.specs.declared.blocks.Level.{Level}
use Rattle.scr_sum_tree.specs.declared.blocks.Level.TheVariants as levels
use Rattle.scr_reachability.specs.declared.ranks.Due.{Due}
use Rattle.scr_factors.specs.Values.{FactorValues}
use Rattle.scr_sheet.specs.declared.sheet.BalanceSheet.{BalanceSheet}
use Rattle.scr_book.specs.RolledSheets.{RolledSheet}
use Rattle.scr_nodes.specs.declared.node.Node.{Node}
use Rattle.scr_nodes.specs.LiveNodes.{live_nodes}
use Rattle.scr_ids.specs.Ranges.{Numbered, first}
use Rattle.scr_ids.specs.declared.table.Table.TheVariants as ranged
use Rattle.scr_figure_ids.specs.Families.{family_of, name_of, table_of}
use Rattle.scr_figure_ids.specs.Numbers.{names_in}
use Rattle.scr_figure_ids.specs.Records.{place_in}
use Rattle.scr_member_index.specs.declared.lists.Lists.{Lists}
use Rattle.scr_sum_slots.specs.Parts.{slot_of}
use Rattle.scr_reachability.specs.LinkedDues.{IsDue, numbers_of}
use Rattle.scr_partial_sums.specs.Written.{is_open_at}
use Rattle.scr_partial_sums.specs.declared.figure.Figure.{Figure}
use Rattle.scr_block_graph.specs.Books.{rolled_of}
use Rattle.scr_block_graph.specs.BlockNumbers.{part_of, place_of}
use Rattle.scr_block_graph.specs.Graph.{Rolled, block_point, roll_in}
use Rattle.scr_block_graph.specs.Sums.{first_sum, roll_of, second_sum}
use Rattle.scr_block_graph.specs.declared.point.Block.{Block}
use Rattle.scr_block_graph.specs.declared.point.Point.{Point}
use Rattle.scr_block_graph.specs.declared.point.Point.TheVariants as points
use Rattle.scr_block_graph.specs.declared.sum.Sum.{Sum}
use Rattle.scr_tree.specs.Figures.{HasFigure}
use Rattle.scr_tree.specs.Points.{book_graph, list_numbers, point_worth}
use Rattle.scr_tree.specs.Ready.{IsBasis, StandsOn, reckoning_on}
use Rattle.scr_tree.specs.declared.basis.Basis.{Basis}

-- ---- the number of a point

-- the number of a figure, if a row has its name
abbrev pub number_in : BalanceSheet → Numbered → Node → Option ℕ
number_in sheet places node =
    option_map (λ k. first places (table_of node) k + family_of node) (place_in (name_of node) (names_in sheet (table_of node)))

-- the number of a Block, if its part is there
abbrev pub block_number_in : RolledSheet → Numbered → Lists → Block → Option ℕ
block_number_in book places lists block =
    option_and_then (λ (list : ℕ). option_map (λ (slot : ℕ). first places ranged.Part slot + place_of block.sum) (slot_of (part_of list block) lists.parts))
    (list_numbers book.rolls (roll_of block.sum))

-- The id at which a figure or a Block is kept; `None` if it has none (own).
abbrev pub point_number : RolledSheet → Numbered → Lists → Point → Option ℕ
point_number book places lists (points.Figure node) = number_in book.sheet places node
point_number book places lists (points.Block block) = block_number_in book places lists block

-- ---- all points of a book

-- All Blocks of one level over the list of a sum, by position from 0 (own).
abbrev pub blocks_of_level : Rolled → Sum → Level → List Point
blocks_of_level book sum level = map (block_point sum level) (range_with_len 0 (blocks_at (length (roll_in book sum)) level))

-- All Blocks over the list of a sum, first level before second; none without a sum (own).
abbrev pub blocks_under : Rolled → Option Sum → List Point
blocks_under book None = []
blocks_under book (Some sum) = blocks_of_level book sum levels.First ++ blocks_of_level book sum levels.Second

-- All Blocks under the two sums of a figure, the first sum before the second (own).
abbrev pub blocks_below : Rolled → Node → List Point
blocks_below book node = blocks_under book (first_sum node) ++ blocks_under book (second_sum node)

-- All points of a book: the figures of its live nodes, then the Blocks under them (own).
abbrev pub live_points : Rolled → List Point
live_points book = map points.Figure (live_nodes book.sheet) ++ flat_map (blocks_below book) (live_nodes book.sheet)

-- ---- the figure at a number

-- Whether a point is kept at this id; false for a point without one (own).
abbrev pub has_number : RolledSheet → Numbered → Lists → ℕ → Point → Bool
has_number book places lists number point = option_map_or (nat_eq number) (point_number book places lists point) false

-- the first of these points that has the number
abbrev pub point_with : RolledSheet → Numbered → Lists → ℕ → List Point → Option Point
point_with book places lists number [] = None
point_with book places lists number (point ∷ rest) =
    if has_number book places lists number point then Some point else point_with book places lists number rest

-- the ends at a number are those of the point of the book that has it
unfoldable pub ends_at : FactorValues → RolledSheet → Numbered → Lists → ℕ → Ends
ends_at factors book places lists number =
    option_map_or (λ point. (point_worth factors (rolled_of book) point).worked)
    (point_with book places lists number (live_points (rolled_of book))) (exact_ends (pos 0))

-- ---- of what figures are reckoned from

-- The ends of the figure at an id, for the factors, book and lists of a basis (own).
abbrev pub ends_on : Basis → ℕ → Ends
ends_on b number = ends_at b.inputs.factors.now b.inputs.book.now b.places.now b.lists.now number

-- the spans have these ends, one at each number
abbrev pub AreSpansOn : Basis → List ℕ → List Span → Type 0
AreSpansOn b numbers spans = map ends spans ≡ map (ends_on b) numbers

-- A span has the ends of the figure at this id on a basis (own).
abbrev pub IsSpanOn : Basis → ℕ → Span → Type 0
IsSpanOn b number span = ends span ≡ ends_on b number

-- a live point stands at the number, and its figure is there
unfoldable pub IsKnownOn : Basis → List Figure → ℕ → Type 0
IsKnownOn b figures number =
    IsBasis b × ((point : Point) × StandsOn b point number × ((reckoning_on b).graph.live point ≡ true)
    × HasFigure (reckoning_on b) figures number point)

-- a live point is due, with the numbers of its sources
unfoldable pub IsDueOn : Basis → Due → Type 0
IsDueOn b due = IsBasis b × IsDue (book_graph (rolled_of b.inputs.book.now)) (StandsOn b) due

-- what is due at each of the numbers, in their order
pub record AreDuesOn (b : Basis) (numbers : List ℕ) (dues : List Due) : Type 0 where
  pub numbers_are : numbers_of dues ≡ numbers
  pub each : AllByRecursion (IsDueOn b) dues

-- ---- open choices

-- one of the figures at these numbers rests on an open choice
abbrev pub any_close : List Figure → List ℕ → Bool
any_close figures numbers = list_any (is_open_at figures) numbers
