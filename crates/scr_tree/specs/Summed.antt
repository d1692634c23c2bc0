-- What one large sum comes to, and its Blocks by their numbers (this project's own).
use Rattle.std.specs.Prelude.{◌≡◌, ℕ, ◌<◌, ◌^◌, false, List, [], Option, Some, None, length, map, pos, slice_get}
use Rattle.std.specs.List.{range_with_len}
use Rattle.std.specs.Option.{option_map_or}
use Rattle.scr_sum_tree.specs.Blocks.{blocks_at, part, parts}
use Rattle.scr_sum_tree.specs.declared.blocks.Level.{Level}
use Rattle.scr_sum_tree.specs.declared.blocks.Level.TheVariants as levels
use Rattle.scr_num.specs.Rounding.{Ends, exact_ends}
use Rattle.scr_num.specs.Sizes.{AreTogether}
use Rattle.scr_num.specs.Sums.{sum_ends}
use Rattle.scr_factors.specs.Values.{FactorValues}
use Rattle.scr_book.specs.RolledSheets.{RolledSheet}
use Rattle.scr_nodes.specs.declared.node.Direction.{Direction}
use Rattle.scr_nodes.specs.declared.node.Measure.TheVariants as measures
use Rattle.scr_nodes.specs.declared.node.Node.{Node}
use Rattle.scr_nodes.specs.declared.node.Node.TheVariants as nodes
use Rattle.scr_nodes.specs.declared.node.OfCurrency.TheVariants as of_currencies
use Rattle.scr_rules.specs.Worked.{worked}
use Rattle.scr_member_index.specs.Lists.{members_of}
use Rattle.scr_partial_sums.specs.Figures.{ends_at, members_ends}
use Rattle.scr_partial_sums.specs.Written.{AreNumbered, is_open_at, number_of}
use Rattle.scr_partial_sums.specs.declared.figure.Figure.{Figure}
use Rattle.scr_partial_sums.specs.declared.writing.Subtotals.{Subtotals}
use Rattle.scr_block_graph.specs.Books.{rolled_of}
use Rattle.scr_block_graph.specs.Graph.{block_point, roll_in}
use Rattle.scr_block_graph.specs.Sums.{member_of, roll_of}
use Rattle.scr_block_graph.specs.declared.point.Block.{Block}
use Rattle.scr_block_graph.specs.declared.point.Point.TheVariants as points
use Rattle.scr_block_graph.specs.declared.sum.Sum.{Sum}
use Rattle.scr_figure_ids.specs.Families.{family_of}
use Rattle.scr_tree.specs.Points.{StandsIn}
use Rattle.scr_tree.specs.declared.graph.Numbers.{Numbers}

-- what a sum comes to by the factors
abbrev pub sum_in : FactorValues → RolledSheet → Sum → Ends
sum_in factors book sum = sum_ends (map (λ name. worked factors book.sheet (member_of sum name)) (roll_in (rolled_of book) sum))

-- the same of one that need not be there; none comes to nothing
abbrev pub summed_in : FactorValues → RolledSheet → Option Sum → Ends
summed_in factors book found = option_map_or (sum_in factors book) found (exact_ends (pos 0))

-- the direction of a currency's change that the figure is the cost of
abbrev pub foreign_of : Node → Option Direction
foreign_of (nodes.Currency currency (of_currencies.Scenario direction measures.Gross)) = Some direction
foreign_of node = None

-- The first ids of the member rows of a sum, in the order of its list (own).
abbrev pub firsts_on : Numbers → Sum → List ℕ
firsts_on numbers sum = members_of (roll_of sum) numbers.book.now.rolls numbers.lists.now

-- The family of the figure that a sum takes from each member row (own).
abbrev pub family_in : Sum → ℕ
family_in sum = family_of (member_of sum [])

-- The number of members in the list of a sum (own).
abbrev pub count_on : Numbers → Sum → ℕ
count_on numbers sum = length (roll_in (rolled_of numbers.book.now) sum)

-- what the figures come to together that stand at the numbers of its members
abbrev pub sum_on : Numbers → Sum → List Figure → Ends
sum_on numbers sum figures = sum_ends (members_ends figures (family_in sum) (firsts_on numbers sum))

-- these figures are so small that they can be added up
abbrev pub AreMembersOn : Numbers → Sum → List Figure → Type 0
AreMembersOn numbers sum figures = AreTogether (2 ^ 124) (members_ends figures (family_in sum) (firsts_on numbers sum))

-- what a Block comes to that spans some of these: a part of them, or a part of what their parts come to
abbrev pub spanned_ends : List Ends → Level → ℕ → Ends
spanned_ends ends levels.First i = sum_ends (part i ends)
spanned_ends ends levels.Second i = sum_ends (part i (map (λ j. sum_ends (part j ends)) (range_with_len 0 (parts (length ends)))))

-- the Blocks of the sum have the numbers that are told by a list and a place
pub record AreOwnBlocks (numbers : Numbers) (sum : Sum) (blocks : Subtotals) : Type 0 where
  pub numbered : AreNumbered blocks (count_on numbers sum)
  pub places : blocks.places.now ≡ numbers.places.now
  pub at : (level : Level) (i : ℕ) → i < blocks_at (count_on numbers sum) level
      → StandsIn numbers.book.now numbers.places.now numbers.lists.now (block_point sum level i) (number_of blocks level i)

-- each Block of the sum comes to what the members under it come to in the figures before, and rests on no choice
pub record AreBlocksOn (numbers : Numbers) (sum : Sum) (members now : List Figure) : Type 0 where
  pub sums : (level : Level) (i number : ℕ) → i < blocks_at (count_on numbers sum) level
      → StandsIn numbers.book.now numbers.places.now numbers.lists.now (block_point sum level i) number
      → ends_at now number ≡ spanned_ends (members_ends members (family_in sum) (firsts_on numbers sum)) level i
  pub settled : (level : Level) (i number : ℕ) → i < blocks_at (count_on numbers sum) level
      → StandsIn numbers.book.now numbers.places.now numbers.lists.now (block_point sum level i) number → is_open_at now number ≡ false
  pub same : members_ends now (family_in sum) (firsts_on numbers sum) ≡ members_ends members (family_in sum) (firsts_on numbers sum)

-- all figures stay but for those of its Blocks
pub record KeepsOffBlocksOn (numbers : Numbers) (sum : Sum) (before now : List Figure) : Type 0 where
  pub count : length now ≡ length before
  pub others : (number : ℕ) → ((block : Block) → block.sum ≡ sum → StandsIn numbers.book.now numbers.places.now numbers.lists.now (points.Block block) number → ⊥)
      → slice_get now number ≡ slice_get before number
