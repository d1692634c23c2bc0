-- The graph of a book: the figures of its balance sheet, with the Blocks under its large sums (own). All other edges are as in the
-- graph of the balance sheet.
use Rattle.std.specs.Prelude.{◌≡◌, ℕ, ◌&&◌, ◌++◌, Bool, List, [], Option, Some, None, is_some, if◌then◌else◌, length, map}
use Rattle.std.specs.List.{IsDistinct, list_any, range_with_len}
use Rattle.scr_tables.specs.Names.{same_name}
use Rattle.scr_sum_tree.specs.Blocks.{block_sources, is_block, part, parts, tops}
use Rattle.scr_sum_tree.specs.declared.blocks.Level.{Level}
use Rattle.scr_sum_tree.specs.declared.blocks.Level.TheVariants as levels
use Rattle.scr_sheet.specs.Members.{is_member}
use Rattle.scr_sheet.specs.declared.roll.Roll.{Roll}
use Rattle.scr_sheet.specs.declared.sheet.BalanceSheet.{BalanceSheet}
use Rattle.scr_nodes.specs.declared.node.Node.{Node}
use Rattle.scr_nodes.specs.Live.{is_live}
use Rattle.scr_nodes.specs.Sources.{sources_of}
use Rattle.scr_block_graph.specs.Sums.{first_sum, member_of, names_listed, reader_of, roll_of, second_sum}
use Rattle.scr_block_graph.specs.declared.point.Block.{Block}
use Rattle.scr_block_graph.specs.declared.point.Point.{Point}
use Rattle.scr_block_graph.specs.declared.point.Point.TheVariants as points
use Rattle.scr_block_graph.specs.declared.sum.Sum.{Sum}

-- A balance sheet with the members of each list, by position (own).
pub record Rolled : Type 0 where
  pub sheet : BalanceSheet
  pub rolls : Roll → List (List ℕ)

-- The list has exactly the members that the balance sheet gives it, each once (own).
pub record IsRoll (book : Rolled) (roll : Roll) : Type 0 where
  pub members : (name : List ℕ) → list_any (same_name name) (book.rolls roll) ≡ is_member roll name book.sheet
  pub once : IsDistinct same_name (book.rolls roll)

-- All lists have exactly the members that the balance sheet gives them, each once (own).
pub record AreRolls (book : Rolled) : Type 0 where
  pub members : (roll : Roll) (name : List ℕ) → list_any (same_name name) (book.rolls roll) ≡ is_member roll name book.sheet
  pub once : (roll : Roll) → IsDistinct same_name (book.rolls roll)

-- The members of a sum, in the order of their list (own).
abbrev pub roll_in : Rolled → Sum → List (List ℕ)
roll_in book sum = book.rolls (roll_of sum)

-- The balance sheet has a figure that is computed from the sum (own).
abbrev pub reads : BalanceSheet → Sum → Bool
reads sheet sum = is_live sheet (reader_of sum)

-- The book has the Block: its sum is read, and its list is long enough (own).
abbrev pub has_block : Rolled → Block → Bool
has_block book block = reads book.sheet block.sum && is_block (length (roll_in book block.sum)) block.level block.index

-- The book has the figure or the Block (own).
abbrev pub is_live_in : Rolled → Point → Bool
is_live_in book (points.Figure node) = is_live book.sheet node
is_live_in book (points.Block block) = has_block book block

-- The point of a sum's member: its figure that the sum adds up (own).
abbrev pub member_point : Sum → List ℕ → Point
member_point sum name = points.Figure (member_of sum name)

-- The point of a Block under a sum (own).
abbrev pub block_point : Sum → Level → ℕ → Point
block_point sum level i = points.Block (record { sum = sum; level = level; index = i })

-- The points at the top of a sum: its members, or its Blocks of the first or the second level; none if there is no sum (own).
abbrev pub tops_of : Rolled → Option Sum → List Point
tops_of book None = []
tops_of book (Some sum) = tops (member_point sum) (block_point sum) (roll_in book sum)

-- The sources of a point, in order (own): points at the top of its sums for a figure computed from sums, else the sources in the
-- balance sheet; nodes below for a Block.
abbrev pub sources_in : Rolled → Point → List Point
sources_in book (points.Figure node) =
    if is_some (first_sum node) then tops_of book (first_sum node) ++ tops_of book (second_sum node)
    else map points.Figure (sources_of book.sheet node)
sources_in book (points.Block block) = block_sources (member_point block.sum) (block_point block.sum) (roll_in book block.sum) block.level block.index

-- The figures that a sum adds up, in the order of their table (own).
abbrev pub listed : BalanceSheet → Option Sum → List Node
listed sheet None = []
listed sheet (Some sum) = map (member_of sum) (names_listed sheet sum)

-- what a point is worth: a Block is worth what its members are worth together
module _ {A : Type 0} (sum : List A → A) (worth : Node → A) (book : Rolled) where
  -- The value of Block `i` of the first level: the sum over the members that it spans (own).
  abbrev pub first_worth : Sum → ℕ → A
  first_worth of i = sum (map (λ name. worth (member_of of name)) (part i (roll_in book of)))

  -- The value of a Block: the sum over its members, or over its Blocks of the first level (own).
  abbrev pub block_worth : Sum → Level → ℕ → A
  block_worth of levels.First i = first_worth of i
  block_worth of levels.Second i = sum (map (first_worth of) (part i (range_with_len 0 (parts (length (roll_in book of))))))

  -- The value of a point, from given values of figures (own).
  abbrev pub worth_in : Point → A
  worth_in (points.Figure node) = worth node
  worth_in (points.Block block) = block_worth block.sum block.level block.index
