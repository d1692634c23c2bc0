-- A record that the book has taken, and what it changes beside the book (this project's own).
use Rattle.std.specs.Prelude.{◌≡◌, ◌↔◌, ◌⊎◌, ℕ, ◌+◌, ◌<◌, ◌≤◌, true, List, [], Contains, IfSome, Option, Some, None, Vec, length, nat_eq, slice_get}
use Rattle.std.specs.Global.{Global}
use Rattle.std.specs.List.{IsDistinct}
use Rattle.std.specs.Option.{option_map_or}
use Rattle.scr_sum_tree.specs.Blocks.{HasEachOnce}
use Rattle.scr_factors.specs.Values.{FactorValues}
use Rattle.scr_sheet.specs.Faults.{fault_of}
use Rattle.scr_sheet.specs.Records.{applied}
use Rattle.scr_sheet.specs.Validity.{Valid}
use Rattle.scr_sheet.specs.declared.edit.Edit.{Edit}
use Rattle.scr_sheet.specs.declared.sheet.BalanceSheet.{BalanceSheet}
use Rattle.scr_nodes.specs.declared.node.Node.{Node}
use Rattle.scr_book.specs.RolledSheets.{AreRolled, RolledSheet}
use Rattle.scr_book.specs.Rolls.{number_of_roll}
use Rattle.scr_sheet.specs.declared.roll.Roll.{Roll}
use Rattle.scr_ids.specs.Ranges.{Numbered, count}
use Rattle.scr_figure_ids.specs.Numbers.{StandsAt}
use Rattle.scr_figure_ids.specs.Records.{step_of}
use Rattle.scr_figure_ids.specs.Steps.{Takes}
use Rattle.scr_figure_ids.specs.declared.steps.Step.{Step}
use Rattle.scr_figure_ids.specs.declared.steps.Step.TheVariants as steps
use Rattle.scr_discounts.specs.declared.known.Rates.{Rates}
use Rattle.scr_discounts.specs.KeptRates.{all_rates, known_of}
use Rattle.scr_member_index.specs.Following.{AreFollowed, AreStill, CanBeTakenBack, CanFollow}
use Rattle.scr_member_index.specs.Lists.{HasLists, HaveRanges}
use Rattle.scr_member_index.specs.declared.standing.Move.{Move}
use Rattle.scr_member_index.specs.declared.standing.Stood.{Stood}
use Rattle.scr_ids.specs.declared.table.Table.TheVariants as ranged
use Rattle.scr_sum_slots.specs.Parts.{size_of}
use Rattle.scr_member_index.specs.Parting.{HasMoreParts}
use Rattle.scr_member_index.specs.Standing.{move_of, stood_of}
use Rattle.scr_member_index.specs.declared.lists.Lists.{Lists}
use Rattle.scr_reachability.specs.LinkedDues.{AreStarts}
use Rattle.scr_reachability.specs.Leading.{IsCountOf, IsInReach}
use Rattle.scr_reachability.specs.Linked.{sources_in}
use Rattle.scr_block_graph.specs.Books.{rolled_of}
use Rattle.scr_block_graph.specs.Graph.{Rolled, is_live_in}
use Rattle.scr_block_graph.specs.Touched.{IsTouchedIn}
use Rattle.scr_block_graph.specs.declared.point.Point.{Point}
use Rattle.scr_tree.specs.Ceiling.{IsCeiling}
use Rattle.scr_tree.specs.Figures.{AreKnownOf, AreSettled}
use Rattle.scr_tree.specs.KeptRates.{keeps_rates}
use Rattle.scr_tree.specs.Marking.{AreAssetsMarked, is_of_squares}
use Rattle.scr_tree.specs.Points.{AreNumbersOf, IsGraphOf, StandsIn, book_graph, book_reckoning}
use Rattle.scr_tree.specs.Renewed.{AreSums}
use Rattle.scr_tree.specs.Starts.{relinked}
use Rattle.scr_tree.specs.declared.edits.State.{State}
use Rattle.scr_tree.specs.declared.edits.Taken.{Taken}

-- ---- what an engine keeps beside factors and book

-- The rates are those of the balance sheet; each figure and each Block of the book has a number and is there; and where a ceiling is kept no
-- group's total is above it, and no square comes to anything.
pub record IsStateOf (factors : FactorValues) (book : RolledSheet) (state : State) : Type 0 where
  pub rates : known_of state.rates ≡ all_rates book.sheet
  pub graph : IsGraphOf book state.places state.lists state.links.edges
  pub figures : AreSettled (book_reckoning factors (rolled_of book)) (StandsIn book state.places state.lists) state.figures
  pub ceiling : IsCeiling state.places state.figures state.scratch.ceiling
  pub size : state.links.size ≤ state.places.size

-- rates, figures, lists and links are as they were, and all rows have their numbers: those of parts may be more
pub record IsUndone (old now : State) : Type 0 where
  pub rates : now.rates ≡ old.rates
  pub places : HasMoreParts old.places now.places
  pub lists : AreStill old.lists now.lists
  pub figures : (number : ℕ) → number < length old.figures
      → slice_get now.figures number ≡ slice_get old.figures number
  pub links : (number : ℕ) → sources_in now.links.edges number ≡ sources_in old.links.edges number
  pub size : old.links.size ≤ old.places.size → now.links.size ≤ now.places.size

-- and numbers and lists are the same
pub record IsUnchanged (old now : State) : Type 0 where
  pub rates : now.rates ≡ old.rates
  pub places : now.places ≡ old.places
  pub lists : now.lists ≡ old.lists
  pub figures : (number : ℕ) → number < length old.figures
      → slice_get now.figures number ≡ slice_get old.figures number
  pub links : (number : ℕ) → sources_in now.links.edges number ≡ sources_in old.links.edges number
  pub size : old.links.size ≤ old.places.size → now.links.size ≤ old.places.size

-- ---- a record

-- The book comes from the one before by the record, which has no fault; each list keeps its number; and these are the points that the record
-- touches, each once.
pub record IsTakenFrom (factors : FactorValues) (before after : RolledSheet) (taken : Taken) : Type 0 where
  pub valid : Valid before.sheet
  pub none : fault_of taken.edit.now before.sheet ≡ None
  pub sheet : after.sheet ≡ applied taken.edit.now before.sheet
  pub rolls : AreRolled taken.edit.now before after
  pub lists : (roll : Roll) (number : ℕ) → number_of_roll roll before.rolls ≡ Some number → number_of_roll roll after.rolls ≡ Some number
  pub step : taken.step ≡ step_of taken.edit.now before.sheet
  pub touched : (point : Point) → Contains taken.touched.now point ↔ IsTouchedIn factors (rolled_of before) taken.edit.now point
  pub once : HasEachOnce taken.touched.now

-- Where a figure stands while a record is taken: in the balance sheet before where a row goes, and else in the one after.
abbrev pub StandsYet : Step → BalanceSheet → Numbered → BalanceSheet → Numbered → Node → ℕ → Type 0
StandsYet (steps.Goes table k) before old after now node number = StandsAt before old node number
StandsYet step before old after now node number = StandsAt after now node number

-- the numbers of the figures whose links the record may change are known beforehand where a row goes
abbrev pub AreGone : Step → Edit → BalanceSheet → Numbered → List Point → Option (Vec ℕ Global) → Type 0
AreGone (steps.Goes table k) edit before old touched gone =
    (numbers : Vec ℕ Global) × (gone ≡ Some numbers) × IsDistinct nat_eq numbers.items
    × AreStarts (StandsAt before old) (relinked edit touched) numbers.items
AreGone step edit before old touched gone = gone ≡ None

-- what is kept is that of the book before, of which it is known where the record's row stood
pub record IsRecorded (factors : FactorValues) (after : RolledSheet) (taken : Taken) (gone : Option (Vec ℕ Global))
    (state : State) : Type 0 where
  pub before : RolledSheet
  pub by : IsTakenFrom factors before after taken
  pub gone_numbers : AreGone taken.step taken.edit.now before.sheet state.places taken.touched.now gone
  pub stood : taken.stood.now ≡ stood_of taken.edit.now before state.places
  pub state_before : IsStateOf factors before state
  pub marks : state.marks.list ≡ []

-- the same once the numbers of rows have followed
pub record IsFollowed (factors : FactorValues) (after : RolledSheet) (taken : Taken) (gone : Option (Vec ℕ Global))
    (state : State) : Type 0 where
  pub before : RolledSheet
  pub old : Numbered
  pub by : IsTakenFrom factors before after taken
  pub gone_numbers : AreGone taken.step taken.edit.now before.sheet old taken.touched.now gone
  pub stood : taken.stood.now ≡ stood_of taken.edit.now before old
  pub takes : Takes taken.step old state.places
  pub rates : known_of state.rates ≡ all_rates before.sheet
  pub graph : IsGraphOf before old state.lists state.links.edges
  pub figures : AreSettled (book_reckoning factors (rolled_of before)) (StandsIn before old state.lists) state.figures
  pub ceiling : IsCeiling state.places state.figures state.scratch.ceiling
  pub size : state.links.size ≤ old.size
  pub marks : state.marks.list ≡ []

-- ---- lists

-- the numbers of rows are the book's, and the row stood where it is told, in lists that are those of a book before
pub record CanFollowLists (book : RolledSheet) (stood : Option Stood) (state : State) : Type 0 where
  pub ranges : HaveRanges book.sheet state.places
  pub table : IfSome stood (λ stood. HasLists stood.table)
  pub can : (move : Move) → move_of stood book state.places ≡ Some move → CanFollow move state.lists

-- the lists can be put back as they were
abbrev pub CanPutBack : Option Move → Lists → Lists → Type 0
CanPutBack None before now = now ≡ before
CanPutBack (Some move) before now = CanBeTakenBack move before now

-- nothing but the lists is another
pub record KeepsAllButLists (old now : State) : Type 0 where
  pub rates : now.rates ≡ old.rates
  pub places : now.places ≡ old.places
  pub figures : now.figures ≡ old.figures
  pub links : now.links ≡ old.links
  pub marks : now.marks ≡ old.marks

-- the lists have followed the move that is told, with a row of numbers for each slot
pub record HaveFollowed (book : RolledSheet) (stood : Option Stood) (moved : Option Move) (old now : State) : Type 0 where
  pub told : moved ≡ move_of stood book old.places
  pub lists : IfSome moved (λ move. AreFollowed move old.lists now.lists × (size_of now.lists.parts ≤ count now.places ranged.Part))
  pub still : moved ≡ None → now.lists ≡ old.lists
  pub back : CanPutBack moved old.lists now.lists
  pub places : HasMoreParts old.places now.places
  pub rates : now.rates ≡ old.rates
  pub figures : now.figures ≡ old.figures
  pub ceiling : now.scratch.ceiling ≡ old.scratch.ceiling
  pub links : now.links ≡ old.links
  pub marks : now.marks ≡ old.marks

-- The same once the lists have followed: numbers are those of the book after; what was there before and is still has the number that it
-- had; and no figure stands where another stood.
pub record IsMoved (factors : FactorValues) (after : RolledSheet) (taken : Taken) (gone : Option (Vec ℕ Global))
    (state : State) : Type 0 where
  pub before : RolledSheet
  pub old : Numbered
  pub former : Lists
  pub by : IsTakenFrom factors before after taken
  pub gone_numbers : AreGone taken.step taken.edit.now before.sheet old taken.touched.now gone
  pub numbers : AreNumbersOf after state.places state.lists
  pub keeps : (point : Point) (number : ℕ) → StandsIn after state.places state.lists point number
      → is_live_in (rolled_of before) point ≡ true → StandsIn before old former point number
  pub still_before : (node : Node) (number : ℕ) → StandsAt before.sheet old node number
      → StandsYet taken.step before.sheet old after.sheet state.places node number
  pub still_after : (node : Node) (number : ℕ) → StandsAt after.sheet state.places node number
      → StandsYet taken.step before.sheet old after.sheet state.places node number
  pub grown : old.size ≤ state.places.size
  pub rates : known_of state.rates ≡ all_rates before.sheet
  pub graph : IsGraphOf before old former state.links.edges
  pub figures : AreSettled (book_reckoning factors (rolled_of before)) (StandsIn before old former) state.figures
  pub ceiling : IsCeiling state.places state.figures state.scratch.ceiling
  pub size : state.links.size ≤ old.size
  pub marks : state.marks.list ≡ []

-- what is kept is that of a book before which the record was taken, and stays so
abbrev pub KeepsState : FactorValues → RolledSheet → RolledSheet → Taken → State → State → Type 0
KeepsState factors before after taken old now =
    IsTakenFrom factors before after taken → IsStateOf factors before old → old.marks.list ≡ []
    → IsStateOf factors before now × (now.marks.list ≡ [])

-- ---- from the links on

-- The links are those of the book after the record, and the figures of all are known that it does not reach. What each Block came to is yet the
-- sum of what those came to that it adds up, unless the record touches it.
pub record IsRelinkedFor (factors : FactorValues) (after : RolledSheet) (touched : List Point) (rates : Option Rates) (state : State) : Type 0 where
  pub valid : Valid after.sheet
  pub graph : IsGraphOf after state.places state.lists state.links.edges
  pub rates_after : option_map_or known_of rates (known_of state.rates) ≡ all_rates after.sheet
  pub others : AreKnownOf (book_reckoning factors (rolled_of after)) (StandsIn after state.places state.lists) state.figures
      (λ point. IsInReach (book_graph (rolled_of after)) (Contains touched) point → ⊥)
  pub blocks : AreSums (rolled_of after) (StandsIn after state.places state.lists) state.figures (λ point. Contains touched point → ⊥)
  pub room : state.places.size ≤ length state.figures
  pub ceiling : IsCeiling state.places state.figures state.scratch.ceiling
  pub marks : state.marks.list ≡ []
  pub marked : state.places.size ≤ state.marks.size

-- Just the numbers of points are marked that the book has and that are touched or reckoned from such. Where the assets are marked squares and
-- the Blocks over them are reached without a mark.
pub record AreReachedMarks (book : RolledSheet) (places : Numbered) (lists : Lists) (touched : List Point) (marks : List ℕ) : Type 0 where
  pub once : IsDistinct nat_eq marks
  pub each : (number : ℕ) → Contains marks number → (point : Point) × StandsIn book places lists point number
      × IsInReach (book_graph (rolled_of book)) (Contains touched) point
  pub all : (point : Point) (number : ℕ) → StandsIn book places lists point number
      → IsInReach (book_graph (rolled_of book)) (Contains touched) point
      → Contains marks number ⊎ ((is_of_squares point ≡ true) × AreAssetsMarked book places lists marks)

-- ---- steps

-- as many steps as figures and Blocks are reached from those that are listed
abbrev pub StepsReach : Rolled → List Point → ℕ → ℕ → Type 0
StepsReach after touched old new =
    (count : ℕ) × IsCountOf (IsInReach (book_graph after) (Contains touched)) count × (new ≡ old + count)

-- ---- rates

-- rates of their own, where the record changes some or the reference date
abbrev pub AreRowsFor : Edit → BalanceSheet → Option Rates → Type 0
AreRowsFor edit sheet None = keeps_rates edit ≡ true
AreRowsFor edit sheet (Some rows) = known_of rows ≡ all_rates sheet
