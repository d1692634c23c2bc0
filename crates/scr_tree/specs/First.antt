-- What the first reckoning of all figures has made (this project's own).
use Rattle.std.specs.Prelude.{◌≡◌, ◌⊎◌, ℕ, ◌<◌, ◌≤◌, ◌++◌, true, false, All, Contains, List, None, Option, Some, length, map, nat_eq, slice_get}
use Rattle.scr_discounts.specs.KeptRates.{all_rates, known_of}
use Rattle.scr_factors.specs.Values.{FactorValues, IsInForm}
use Rattle.scr_figure_ids.specs.Numbers.{IsNumbered, StandsAt}
use Rattle.scr_figure_ids.specs.Gathered.{AreMembersOf}
use Rattle.scr_links.specs.Edges.{Linked}
use Rattle.scr_ids.specs.Ranges.{Numbered}
use Rattle.scr_rules.specs.ByRow.{IsEstimateOf}
use Rattle.scr_rules.specs.GroupLosses.{AreLossesOf}
use Rattle.scr_rules.specs.declared.liability_rows.Estimate.{Estimate}
use Rattle.scr_sheet.specs.declared.rows.Liability.{Liability}
use Rattle.scr_sheet.specs.declared.sheet.BalanceSheet.{BalanceSheet}
use Rattle.scr_sheet.specs.Totals.{total_of}
use Rattle.scr_sheet.specs.Validity.{Valid}
use Rattle.scr_look_through.specs.ByNumber.{names_by_number}
use Rattle.scr_nodes.specs.declared.node.Node.{Node}
use Rattle.scr_reachability.specs.Linked.{AreLinkedOf, AreNumbers, edges_to, sources_in}
use Rattle.scr_tree.specs.Figures.{AreKnownOf, AreSettled, reckoning_of}
use Rattle.scr_tree.specs.Inputs.{AreOfBook}
use Rattle.scr_tree.specs.Turns.{IsBefore, Turn, turn}
use Rattle.scr_partial_sums.specs.declared.figure.Figure.{Figure}
use Rattle.scr_tree.specs.declared.first.{Found.Found, Gathered.Gathered, Numbering.Numbering}
use Rattle.scr_tree.specs.declared.graph.Numbers.{Numbers}
use Rattle.scr_tree.specs.declared.making.Ground.{Ground}
use Rattle.scr_tree.specs.declared.making.LinkGround.{LinkGround}
use Rattle.scr_tree.specs.declared.making.LinkedGround.{LinkedGround}
use Rattle.scr_tree.specs.Graphs.{graph_of}
use Rattle.scr_book.specs.RolledSheets.{RolledSheet}
use Rattle.scr_sum_tree.specs.declared.blocks.Level.TheVariants as levels
use Rattle.scr_member_index.specs.Lists.{AreListsOf}
use Rattle.scr_sum_slots.specs.Parts.{Parted, slot_of}
use Rattle.scr_sheet.specs.declared.roll.Roll.{Roll}
use Rattle.scr_sheet.specs.declared.roll.Roll.TheVariants as rolls
use Rattle.scr_tree.specs.Reading.{IsRollOf}
use Rattle.scr_member_index.specs.declared.lists.Lists.{Lists}
use Rattle.scr_block_graph.specs.Books.{rolled_of}
use Rattle.scr_block_graph.specs.Graph.{Rolled, member_point, roll_in}
use Rattle.scr_block_graph.specs.Sums.{first_sum, reader_of, second_sum}
use Rattle.scr_block_graph.specs.declared.point.Block.{Block}
use Rattle.scr_block_graph.specs.declared.point.Point.{Point}
use Rattle.scr_block_graph.specs.declared.point.Point.TheVariants as points
use Rattle.scr_block_graph.specs.declared.sum.Sum.{Sum}
use Rattle.scr_block_graph.specs.declared.sum.Sum.TheVariants as sums
use Rattle.scr_tree.specs.Points.{AreNumbersOf, IsLinkedPoint, StandsIn, book_graph, book_reckoning, is_linked}

-- ---- what is made

-- a figure before a turn, which is linked
abbrev pub IsLinkedBefore : BalanceSheet → Turn → Node → Type 0
IsLinkedBefore sheet t node = IsBefore sheet t node × (is_linked node ≡ true)

-- a Block under a sum of which a reader comes before a turn
abbrev pub IsBlockBefore : BalanceSheet → Turn → Point → Type 0
IsBlockBefore sheet t (points.Figure node) = ⊥
IsBlockBefore sheet t (points.Block block) = IsBefore sheet t (reader_of block.sum)

-- Each figure and each Block is at its number, and figures are linked that neither rows nor lists give.
pub record IsAllMade (factors : FactorValues) (book : RolledSheet) (places : Numbered) (lists : Lists) (figures : List Figure) (links : Linked) : Type 0 where
  pub count : length figures ≡ places.size
  pub size : links.size ≤ places.size
  pub settled : AreSettled (book_reckoning factors (rolled_of book)) (StandsIn book places lists) figures
  pub linked : AreLinkedOf (book_graph (rolled_of book)) (StandsIn book places lists) links.edges IsLinkedPoint

-- the rows are those of a valid balance sheet, and so are the numbers, the lists, the rates, the gathered rows and the losses
pub record IsGround (ground : Ground) : Type 0 where
  pub form : IsInForm ground.inputs.factors.now
  pub valid : Valid ground.inputs.book.now.sheet
  pub rates : AreOfBook ground.inputs
  pub numbered : IsNumbered ground.inputs.book.now.sheet ground.places.now
  pub numbers : AreNumbers (graph_of ground.inputs.book.now.sheet) (StandsAt ground.inputs.book.now.sheet ground.places.now) ground.places.now.size
  pub points : AreNumbersOf ground.inputs.book.now ground.places.now ground.lists.now
  pub members : AreMembersOf ground.inputs.book.now.sheet ground.members.now
  pub losses : AreLossesOf ground.inputs.book.now.sheet ground.losses.now

-- what the links of all figures are made from
abbrev pub link_ground : Ground → LinkGround
link_ground ground = record {
  alloc = ground.alloc;
  book = ground.inputs.book;
  places = ground.places;
  members = ground.members;
}

-- the rows are those of a valid balance sheet, and so are the numbers and the gathered rows
pub record IsLinkGround (ground : LinkGround) : Type 0 where
  pub valid : Valid ground.book.now.sheet
  pub numbered : IsNumbered ground.book.now.sheet ground.places.now
  pub numbers : AreNumbers (graph_of ground.book.now.sheet) (StandsAt ground.book.now.sheet ground.places.now) ground.places.now.size
  pub members : AreMembersOf ground.book.now.sheet ground.members.now

-- what is held of each fund and then of each security, in cents
abbrev pub totals_of : BalanceSheet → List ℕ
totals_of sheet = map (total_of sheet) (names_by_number sheet)

-- There is a place for each figure, and all before a turn are reckoned.
pub record AreReckonedTo (ground : Ground) (figures : List Figure) (t : Turn) : Type 0 where
  pub count : length figures ≡ ground.places.now.size
  pub known : AreKnownOf (reckoning_of ground.inputs.factors.now ground.inputs.book.now.sheet) (StandsAt ground.inputs.book.now.sheet ground.places.now) figures
      (IsBefore ground.inputs.book.now.sheet t)

-- Figures before a turn are linked that neither rows nor lists give.
pub record AreLinkedTo (ground : LinkGround) (links : Linked) (t : Turn) : Type 0 where
  pub size : links.size ≤ ground.places.now.size
  pub linked : AreLinkedOf (graph_of ground.book.now.sheet) (StandsAt ground.book.now.sheet ground.places.now) links.edges
      (IsLinkedBefore ground.book.now.sheet t)

-- these sources are linked to the number, and to all others the same as before
pub record IsLinkedNext (number : ℕ) (sources : List ℕ) (before now : Linked) : Type 0 where
  pub size : (size : ℕ) → number < size → All (λ source. source < size) sources → before.size ≤ size → now.size ≤ size
  pub made : sources_in now.edges number ≡ sources_in before.edges number ++ sources
  pub kept : (other : ℕ) → nat_eq number other ≡ false → edges_to now.edges other ≡ edges_to before.edges other

-- the estimate is that of the liability at the place
abbrev pub IsEstimated : BalanceSheet → ℕ → Estimate → Type 0
IsEstimated sheet k estimate =
    (liability : Liability) → slice_get sheet.liabilities k ≡ Some liability → IsEstimateOf sheet liability estimate

-- all figures before one turn are reckoned, and the Blocks are there under sums that are read before another
pub record AreDoneTo (ground : Ground) (figures : List Figure) (t u : Turn) : Type 0 where
  pub reckoned : AreReckonedTo ground figures t
  pub blocks_there : AreKnownOf (book_reckoning ground.inputs.factors.now (rolled_of ground.inputs.book.now))
      (StandsIn ground.inputs.book.now ground.places.now ground.lists.now) figures (IsBlockBefore ground.inputs.book.now.sheet u)

-- all figures of rows are reckoned, but no Block under the total of a group is there
abbrev pub AreRowsDone : Ground → List Figure → Type 0
AreRowsDone ground figures = AreDoneTo ground figures (turn 6 0 0) (turn 5 0 0)

-- All figures before turn `t` are worked out, with the Blocks under the sums that they read (own).
abbrev pub AreDone : Ground → List Figure → Turn → Type 0
AreDone ground figures t = AreDoneTo ground figures t t

-- `IsAllMade` for these figures and edges, with the factors, book and ids of a ground (own).
abbrev pub IsWhole : Ground → List Figure → Linked → Type 0
IsWhole ground figures links = IsAllMade ground.inputs.factors.now ground.inputs.book.now ground.places.now ground.lists.now figures links

-- what figures are read from: the ground, and all links that neither rows nor lists give
pub record IsLinkedGround (linked : LinkedGround) : Type 0 where
  pub ground : IsGround linked.ground
  pub links : AreLinkedTo (link_ground linked.ground) linked.links.now (turn 7 0 153)

-- what numbers are read off
abbrev pub numbers_of : Ground → Numbers
numbers_of ground = record { book = ground.inputs.book; places = ground.places; lists = ground.lists }

-- ---- large sums

-- the figure is reckoned from the sum
abbrev pub IsSumOf : Node → Sum → Type 0
IsSumOf node sum = (first_sum node ≡ Some sum) ⊎ (second_sum node ≡ Some sum)

-- the point is the figure of a member of a sum of a kind
pub record IsMemberOf (book : Rolled) (P : Sum → Type 0) (point : Point) : Type 0 where
  pub sum : Sum
  pub kind : P sum
  pub name : List ℕ
  pub there : Contains (roll_in book sum) name
  pub is : member_point sum name ≡ point

-- the figures of all members are there
abbrev pub AreMembersThere : Ground → List Figure → (Sum → Type 0) → Type 0
AreMembersThere ground figures P =
    AreKnownOf (book_reckoning ground.inputs.factors.now (rolled_of ground.inputs.book.now)) (StandsIn ground.inputs.book.now ground.places.now ground.lists.now)
    figures (IsMemberOf (rolled_of ground.inputs.book.now) P)

-- the Blocks under them are there
abbrev pub IsBlockOf : (Sum → Type 0) → Point → Type 0
IsBlockOf P (points.Figure node) = ⊥
IsBlockOf P (points.Block block) = P block.sum

-- The figures of all Blocks over sums with property `P` are known (own).
abbrev pub AreBlocksThere : Ground → List Figure → (Sum → Type 0) → Type 0
AreBlocksThere ground figures P =
    AreKnownOf (book_reckoning ground.inputs.factors.now (rolled_of ground.inputs.book.now)) (StandsIn ground.inputs.book.now ground.places.now ground.lists.now)
    figures (IsBlockOf P)

-- all figures stay but for those of the Blocks under them
pub record KeepsOffBlocks (ground : Ground) (P : Sum → Type 0) (before now : List Figure) : Type 0 where
  pub count : length now ≡ length before
  pub others : (number : ℕ) → ((block : Block) → P block.sum
      → StandsIn ground.inputs.book.now ground.places.now ground.lists.now (points.Block block) number → ⊥)
      → slice_get now number ≡ slice_get before number

-- the gathered rows and the totals are those of the balance sheet
pub record IsGathered (sheet : BalanceSheet) (gathered : Gathered) : Type 0 where
  pub members : AreMembersOf sheet gathered.members
  pub totals : gathered.totals.items ≡ totals_of sheet

-- each row of the book has its numbers, and its lists have theirs
pub record AreNumbered (book : RolledSheet) (numbering : Numbering) : Type 0 where
  pub rows : IsNumbered book.sheet numbering.places
  pub lists : AreListsOf book numbering.places numbering.lists

-- there is a place for the figure at each number
abbrev pub HaveRoom : Numbering → List Figure → Type 0
HaveRoom numbering figures = length figures ≡ numbering.places.size

-- all that is found is the book's
pub record IsFound (book : RolledSheet) (found : Found) : Type 0 where
  pub rates : known_of found.rates ≡ all_rates book.sheet
  pub losses : AreLossesOf book.sheet found.losses
  pub numbering : AreNumbered book found.numbering
  pub gathered : IsGathered book.sheet found.gathered
  pub room : HaveRoom found.numbering found.figures

-- ---- groups, by the slots of the parts of their lists

-- The first part of the list on the first level has the slot. So a list that falls into Blocks begins at one slot.
abbrev pub BeginsAt : Parted → ℕ → ℕ → Type 0
BeginsAt parts slot list = slot_of (record { list = list; level = levels.First; index = 0 }) parts ≡ Some slot

-- the sum over a group's securities
abbrev pub group_sum : Roll → Option Sum
group_sum (rolls.Group name) = Some (sums.Group name)
group_sum roll = None

-- it is the sum over the securities of a group, whose list begins at the slot
pub record IsGroupAt (book : RolledSheet) (parts : Parted) (slot : ℕ) (sum : Sum) : Type 0 where
  pub list : ℕ
  pub begins : BeginsAt parts slot list
  pub name : List ℕ
  pub is : sum ≡ sums.Group name
  pub of : IsRollOf book.rolls list (rolls.Group name)

-- one of the first slots
pub record IsGroupBelow (ground : Ground) (slots : ℕ) (sum : Sum) : Type 0 where
  pub slot : ℕ
  pub before : slot < slots
  pub at : IsGroupAt ground.inputs.book.now ground.lists.now.parts slot sum

-- a Block under a sum that is read before the groups, or under the total of one of these
abbrev pub IsBlockBelow : Ground → ℕ → Point → Type 0
IsBlockBelow ground slots (points.Figure node) = ⊥
IsBlockBelow ground slots (points.Block block) =
    IsBefore ground.inputs.book.now.sheet (turn 5 0 0) (reader_of block.sum) ⊎ IsGroupBelow ground slots block.sum

-- all figures of rows are there, and the Blocks under the totals of the groups whose lists begin at one of the first slots
pub record AreGroupsDone (ground : Ground) (figures : List Figure) (slots : ℕ) : Type 0 where
  pub reckoned : AreReckonedTo ground figures (turn 6 0 0)
  pub blocks_there : AreKnownOf (book_reckoning ground.inputs.factors.now (rolled_of ground.inputs.book.now))
      (StandsIn ground.inputs.book.now ground.places.now ground.lists.now) figures (IsBlockBelow ground slots)
