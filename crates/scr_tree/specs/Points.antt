-- The figures and Blocks of a book by their numbers, and what each comes to (this project's own).
use Rattle.std.specs.Prelude.{◌≡◌, ℕ, Bool, true, false, is_some, not, List, Option}
use Rattle.std.specs.List.{list_any}
use Rattle.scr_num.specs.Sums.{sum_ends}
use Rattle.scr_factors.specs.Values.{FactorValues}
use Rattle.scr_links.specs.Edges.{Edge}
use Rattle.scr_book.specs.RolledSheets.{RolledSheet}
use Rattle.scr_book.specs.Rolls.{AreRollsOf, KeptRolls, number_of_roll}
use Rattle.scr_sheet.specs.declared.roll.Roll.{Roll}
use Rattle.scr_nodes.specs.declared.node.Node.{Node}
use Rattle.scr_nodes.specs.declared.node.Node.TheVariants as nodes
use Rattle.scr_nodes.specs.declared.node.OfGroup.TheVariants as of_groups
use Rattle.scr_nodes.specs.declared.node.OfSecurity.TheVariants as of_securities
use Rattle.scr_ids.specs.Ranges.{Numbered}
use Rattle.scr_ids.specs.declared.table.Table.TheVariants as tables
use Rattle.scr_figure_ids.specs.Families.{table_of}
use Rattle.scr_figure_ids.specs.Numbers.{IsNumbered, StandsAt}
use Rattle.scr_member_index.specs.Lists.{AreListsOf}
use Rattle.scr_member_index.specs.declared.lists.Lists.{Lists}
use Rattle.scr_reachability.specs.Graph.{Graph}
use Rattle.scr_reachability.specs.Linked.{AreLinkedOf, AreNumbers}
use Rattle.scr_rules.specs.Close.{close_under}
use Rattle.scr_rules.specs.Worked.{worked}
use Rattle.scr_block_graph.specs.Books.{rolled_of}
use Rattle.scr_block_graph.specs.BlockNumbers.{PointAt}
use Rattle.scr_block_graph.specs.Graph.{Rolled, is_live_in, sources_in, worth_in}
use Rattle.scr_block_graph.specs.Sums.{first_sum}
use Rattle.scr_block_graph.specs.declared.point.Point.{Point}
use Rattle.scr_block_graph.specs.declared.point.Point.TheVariants as points
use Rattle.scr_tree.specs.Figures.{Reckoning, Worth}

-- ---- the graph of a book, and what its points come to

-- The graph of a book: its live points, each with its sources (own).
abbrev pub book_graph : Rolled → Graph Point
book_graph book = record { live = is_live_in book; sources = sources_in book }

-- a Block comes to what its members come to together, and rests on an open choice where one of them does
abbrev pub point_worth : FactorValues → Rolled → Point → Worth
point_worth factors book point = record {
  worked = worth_in sum_ends (worked factors book.sheet) book point;
  close = worth_in (list_any (λ b. b)) (close_under factors book.sheet) book point;
}

-- The graph of a book with the figure of each point under these factors (own).
abbrev pub book_reckoning : FactorValues → Rolled → Reckoning Point
book_reckoning factors book = record { graph = book_graph book; worth = point_worth factors book }

-- the point is the total of a fund
abbrev pub IsFundPoint : Point → Type 0
IsFundPoint (points.Figure node) = table_of node ≡ tables.Fund
IsFundPoint (points.Block block) = ⊥

-- ---- numbers

-- the number of each member list that the book keeps
abbrev pub list_numbers : KeptRolls → Roll → Option ℕ
list_numbers kept roll = number_of_roll roll kept

-- the point has this number
abbrev pub StandsIn : RolledSheet → Numbered → Lists → Point → ℕ → Type 0
StandsIn book places lists point number = PointAt (StandsAt book.sheet places) (list_numbers book.rolls) lists.parts places point number

-- ---- links

-- The sources of these figures are linked to their numbers. Those of all others are read off rows and lists.
abbrev pub is_linked : Node → Bool
is_linked (nodes.Fund name what) = true
is_linked (nodes.Security name of_securities.Total) = true
is_linked (nodes.Currency currency what) = not (is_some (first_sum (nodes.Currency currency what)))
is_linked (nodes.Whole what) = not (is_some (first_sum (nodes.Whole what)))
is_linked node = false

-- Those of these figures of a row stand beside them among the row's numbers, but for the assets, of which there is one number.
abbrev pub is_beside : Node → Bool
is_beside (nodes.Security name (of_securities.Rate direction)) = true
is_beside (nodes.Security name of_securities.Spread) = true
is_beside (nodes.Group name of_groups.ConcentrationSquare) = true
is_beside node = false

-- A point is a figure of a linked node; a Block never is (own).
abbrev pub IsLinkedPoint : Point → Type 0
IsLinkedPoint (points.Figure node) = is_linked node ≡ true
IsLinkedPoint (points.Block block) = ⊥

-- ---- what is kept of a book's numbers

-- the member lists are those of the balance sheet, each row has its numbers, numbered lists and parts are the book's, and each point of the
-- book has one number
pub record AreNumbersOf (book : RolledSheet) (places : Numbered) (lists : Lists) : Type 0 where
  pub rolls : AreRollsOf book.sheet book.rolls
  pub numbered : IsNumbered book.sheet places
  pub lists_of : AreListsOf book places lists
  pub numbers : AreNumbers (book_graph (rolled_of book)) (StandsIn book places lists) places.size

-- and figures are linked that neither rows nor lists give
pub record IsGraphOf (book : RolledSheet) (places : Numbered) (lists : Lists) (edges : List Edge) : Type 0 where
  pub numbers_of : AreNumbersOf book places lists
  pub linked : AreLinkedOf (book_graph (rolled_of book)) (StandsIn book places lists) edges IsLinkedPoint
