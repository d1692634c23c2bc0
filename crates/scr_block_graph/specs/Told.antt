-- The points that a record touches, as they are listed (own).
use Rattle.std.specs.Prelude.{◌≡◌, ◌⊎◌, ◌||◌, ◌++◌, ◌∷◌, Bool, true, false, not, Contains, List, [], Option, Some, None, flat_map, if◌then◌else◌, map}
use Rattle.std.specs.Bool.{beq}
use Rattle.std.specs.Option.{option_map, option_map_or}
use Rattle.scr_sum_tree.specs.declared.blocks.Level.TheVariants as levels
use Rattle.scr_nodes.specs.declared.node.Direction.TheVariants as directions
use Rattle.scr_nodes.specs.declared.node.Node.{Node}
use Rattle.scr_nodes.specs.declared.node.Node.TheVariants as nodes
use Rattle.scr_nodes.specs.declared.node.OfCurrency.TheVariants as of_currencies
use Rattle.scr_sheet.specs.declared.edit.Edit.{Edit}
use Rattle.scr_block_graph.specs.Graph.{IsRoll, Rolled, block_point}
use Rattle.scr_block_graph.specs.Sums.{first_sum, roll_of, second_sum}
use Rattle.scr_block_graph.specs.Turns.{changed_blocks, keeps_tops, turn_of}
use Rattle.scr_block_graph.specs.declared.point.Point.{Point}
use Rattle.scr_block_graph.specs.declared.point.Point.TheVariants as points
use Rattle.scr_block_graph.specs.declared.sum.Sum.{Sum}
use Rattle.scr_block_graph.specs.declared.turns.Turn.{Turn}

-- ---- figures

-- A figure computed from the sum comes or goes, or the points at the top of the sum change (own).
abbrev pub moves : Turn → Bool
moves turn = not (beq turn.was_read turn.is_read) || not (keeps_tops turn)

-- The sum, if there is one, before and after a record (own).
abbrev pub turn_at : Edit → Rolled → Option Sum → Option Turn
turn_at edit book sum = option_map (turn_of edit book) sum

-- The sums of a figure do not keep it unchanged: it has none, or one of them moves (own).
abbrev pub kept_by : Option Turn → Option Turn → Bool
kept_by None second = true
kept_by (Some first) second = moves first || option_map_or moves second false

-- A figure that the record changes in the balance sheet changes in the graph of the book too (own). One computed from sums does so
-- only if one of them moves.
abbrev pub is_kept : Edit → Rolled → Node → Bool
is_kept edit book node = kept_by (turn_at edit book (first_sum node)) (turn_at edit book (second_sum node))

-- ---- Blocks

-- The Blocks under a figure's sums are listed with this figure (own). A currency's two scenarios share their sums, and the rise
-- lists them.
abbrev pub is_reader : Node → Bool
is_reader (nodes.Currency currency (of_currencies.Scenario directions.Down measure)) = false
is_reader node = true

-- The Blocks under a sum that change, first level before second (own).
abbrev pub blocks_by : Option Turn → List Point
blocks_by None = []
blocks_by (Some turn) =
    map (block_point turn.sum levels.First) (changed_blocks turn levels.First)
    ++ map (block_point turn.sum levels.Second) (changed_blocks turn levels.Second)

-- The Blocks under a sum that change by the record; none if there is no sum (own).
abbrev pub blocks_under : Edit → Rolled → Option Sum → List Point
blocks_under edit book sum = blocks_by (turn_at edit book sum)

-- ---- both

-- The touched points that are listed with a figure, from its sums before and after: itself if it changes, and Blocks under the
-- sums (own).
abbrev pub points_by : Node → Option Turn → Option Turn → List Point
points_by node first second =
    (if kept_by first second then points.Figure node ∷ [] else [])
    ++ (if is_reader node then blocks_by first ++ blocks_by second else [])

-- The touched points that are listed with a figure (own).
abbrev pub points_of : Edit → Rolled → Node → List Point
points_of edit book node = points_by node (turn_at edit book (first_sum node)) (turn_at edit book (second_sum node))

-- All touched points, listed figure by figure over the figures that the record changes in the balance sheet (own).
abbrev pub touched_points : Edit → Rolled → List Node → List Point
touched_points edit book told = flat_map (points_of edit book) told

-- The lists of these figures' sums have exactly the members that the balance sheet gives them (own).
abbrev pub HaveRolls : Rolled → List Node → Type 0
HaveRolls book told = (node : Node) → Contains told node → (sum : Sum) → (first_sum node ≡ Some sum) ⊎ (second_sum node ≡ Some sum)
    → IsRoll book (roll_of sum)
