-- What a record reaches in the graph of a balance sheet, and in a book's graph, which has Blocks besides (own). A node is reached
-- if it exists after the record and a chain of sources leads from it to a touched node.
use Rattle.std.specs.Prelude.{◌≡◌, ◌⊎◌, ℕ, ◌<◌, ◌≤◌, true, List, Contains, Some, length, slice_get}
use Rattle.scr_sum_tree.specs.Blocks.{end_of, start_of}
use Rattle.scr_factors.specs.Values.{FactorValues}
use Rattle.scr_sheet.specs.Records.{applied}
use Rattle.scr_sheet.specs.Validity.{Valid}
use Rattle.scr_sheet.specs.declared.edit.Edit.{Edit}
use Rattle.scr_sheet.specs.declared.sheet.BalanceSheet.{BalanceSheet}
use Rattle.scr_nodes.specs.Changed.{IsChanged}
use Rattle.scr_nodes.specs.Live.{is_live}
use Rattle.scr_nodes.specs.Sources.{sources_of}
use Rattle.scr_nodes.specs.declared.node.Node.{Node}
use Rattle.scr_reachability.specs.Graph.{Graph}
use Rattle.scr_reachability.specs.Leading.{IsInReach}
use Rattle.scr_block_graph.specs.Graph.{AreRolls, Rolled, is_live_in, roll_in, sources_in}
use Rattle.scr_block_graph.specs.Sums.{member_of}
use Rattle.scr_block_graph.specs.Touched.{IsTouchedIn, applied_in}
use Rattle.scr_block_graph.specs.declared.point.Block.{Block}
use Rattle.scr_block_graph.specs.declared.point.Point.{Point}
use Rattle.scr_block_graph.specs.declared.point.Point.TheVariants as points

-- ---- the two graphs

-- The figures of a balance sheet with their sources (own).
abbrev pub sheet_graph : BalanceSheet → Graph Node
sheet_graph sheet = record { live = is_live sheet; sources = sources_of sheet }

-- The figures and Blocks of a book with their sources (own).
abbrev pub book_graph : Rolled → Graph Point
book_graph book = record { live = is_live_in book; sources = sources_in book }

-- ---- reached nodes

-- The record reaches the figure in the graph of the balance sheet (own).
abbrev pub IsFigureReached : FactorValues → BalanceSheet → Edit → Node → Type 0
IsFigureReached factors sheet edit node = IsInReach (sheet_graph (applied edit sheet)) (IsChanged factors sheet (applied edit sheet)) node

-- The record reaches the figure or Block in the graph of the book (own).
abbrev pub IsPointReached : FactorValues → Rolled → Edit → Point → Type 0
IsPointReached factors book edit point = IsInReach (book_graph (applied_in edit book)) (IsTouchedIn factors book edit) point

-- The balance sheet is valid before and after the record, and the lists have exactly its members before (own).
pub record AreKept (edit : Edit) (book : Rolled) : Type 0 where
  pub valid : Valid book.sheet
  pub valid_after : Valid (applied edit book.sheet)
  pub rolls : AreRolls book

-- ---- members and Blocks under a Block

-- The name is a member of the Block's sum, at a position that the Block spans (own).
pub record IsUnder (book : Rolled) (block : Block) (name : List ℕ) : Type 0 where
  pub place : ℕ
  pub at : slice_get (roll_in book block.sum) place ≡ Some name
  pub behind : start_of (length (roll_in book block.sum)) block.level block.index ≤ place
  pub before : place < end_of (length (roll_in book block.sum)) block.level block.index

-- `part` is the Block itself, or a Block that it adds up (own).
abbrev pub IsPartOf : Rolled → Block → Block → Type 0
IsPartOf book block part = (part ≡ block) ⊎ Contains (sources_in book (points.Block block)) (points.Block part)

-- The record reaches the Block, said without chains through Blocks (own). The book has it after the record. And the record touches
-- it or a Block that it adds up, or reaches a member's figure under it.
abbrev pub IsBlockReached : FactorValues → Rolled → Edit → Block → Type 0
IsBlockReached factors book edit block =
    (is_live_in (applied_in edit book) (points.Block block) ≡ true)
    × (((part : Block) × IsPartOf (applied_in edit book) block part × IsTouchedIn factors book edit (points.Block part))
    ⊎ ((name : List ℕ) × IsUnder (applied_in edit book) block name × IsFigureReached factors book.sheet edit (member_of block.sum name)))
