-- What is kept of a book is that of another one with the same balance sheet and the same member lists, in which each list has the number
-- that it had.
use Rattle.std.proofs.Common.{◌≡◌, ℕ, List, [], ◌∷◌, map, length, Option, Some, None, slice_get, refl, sym, ap, subst, ◌∙◌, arith}
use Rattle.std.specs.Option.{option_map_or}
use Rattle.std.proofs.lemmas.Option.{slice_get_within}
use Rattle.scr_sum_tree.specs.Blocks.{blocks_at}
use Rattle.scr_sum_tree.specs.declared.blocks.Level.{Level}
use Rattle.scr_sum_tree.specs.declared.blocks.Level.TheVariants as levels
use Rattle.scr_factors.specs.Values.{FactorValues}
use Rattle.scr_ids.specs.Ranges.{Numbered}
use Rattle.scr_sum_slots.specs.Parts.{count_of, slots_of}
use Rattle.scr_member_lists.specs.Seatings.{names_of}
use Rattle.scr_sheet.specs.Members.{table_of}
use Rattle.scr_sheet.specs.declared.{keys.Table.Table, roll.Roll.Roll}
use Rattle.scr_book.specs.RolledSheets.{AreStill, RolledSheet}
use Rattle.scr_book.specs.Rolls.{AreRollsOf, listed, number_of_roll, roll_of}
use Rattle.scr_discounts.specs.KeptRates.{all_rates}
use Rattle.scr_figure_ids.specs.Numbers.{IsNumbered, StandsAt}
use Rattle.scr_member_index.specs.Lists.{AreListsOf, first_of, lists_in}
use Rattle.scr_member_index.specs.declared.lists.Lists.{Lists}
use Rattle.scr_links.specs.Edges.{Edge}
use Rattle.scr_reachability.specs.Linked.{AreAt, AreLinkedOf, AreNumbers}
use Rattle.scr_block_graph.specs.BlockNumbers.{list_number}
use Rattle.scr_block_graph.specs.Books.{rolled_of}
use Rattle.scr_block_graph.specs.Graph.{Rolled}
use Rattle.scr_block_graph.specs.Sums.{roll_of as sum_roll}
use Rattle.scr_block_graph.specs.declared.point.Point.{Point}
use Rattle.scr_block_graph.specs.declared.point.Point.TheVariants as points
use Rattle.scr_partial_sums.specs.declared.figure.Figure.{Figure}
use Rattle.scr_tree.specs.Changed.{IsStateOf}
use Rattle.scr_tree.specs.Figures.{AreKnownOf, AreSettled}
use Rattle.scr_tree.specs.Points.{AreNumbersOf, IsLinkedPoint, StandsIn, book_graph, book_reckoning}
use Rattle.scr_tree.specs.declared.edits.State.{State}
use Rattle.scr_book.proofs.RollLists.{lists-still}
use Rattle.scr_tree.proofs.PointNumbers.{numbered-names, one-list, roll-has-lists}

-- the books are one, as the graph sees them
pub rolled-still : (old new : RolledSheet) → new.sheet ≡ old.sheet → AreStill old new → rolled_of new ≡ rolled_of old
rolled-still old new sheet still = λ i. record { sheet = sheet i; rolls = λ roll. still roll i }

-- a list without members falls into no Blocks
no-blocks : (level : Level) → blocks_at 0 level ≡ 0
no-blocks levels.First = refl
no-blocks levels.Second = refl

-- each list is the same under its number, whether a roll has the number or none
pub record AreSameLists (old new : RolledSheet) : Type 0 where
  pub sheet : new.sheet ≡ old.sheet
  pub kept : AreRollsOf new.sheet new.rolls
  pub still : AreStill old new
  pub names : (table : Table) (number : ℕ) → names_of number (lists_in table new.rolls) ≡ names_of number (lists_in table old.rolls)
  pub numbers : (roll : Roll) (number : ℕ) → number_of_roll roll old.rolls ≡ Some number → number_of_roll roll new.rolls ≡ Some number

pub same-lists : (old new : RolledSheet) → new.sheet ≡ old.sheet → AreRollsOf old.sheet old.rolls → AreRollsOf new.sheet new.rolls
    → AreStill old new
    → ((roll : Roll) (number : ℕ) → number_of_roll roll old.rolls ≡ Some number → number_of_roll roll new.rolls ≡ Some number)
    → AreSameLists old new
same-lists old new sheet was is still numbers = record {
  sheet = sheet;
  kept = is;
  still = still;
  names = (lists-still old new was is still numbers).names;
  numbers = numbers;
}

module _ (old new : RolledSheet) (places : Numbered) (lists : Lists) (same : AreSameLists old new) (is : AreNumbersOf old places lists) where
  listed-still : AreListsOf new places lists
  listed-still = record {
    firsts = λ table has list.
        is.lists_of.firsts table has list
        ∙ (ap (map (first_of old.sheet places table)) (sym (same.names table list))
        ∙ ap (λ s. map (first_of s places table) (names_of list (lists_in table new.rolls))) (sym same.sheet));
    parts = λ table has number level.
        is.lists_of.parts table has number level ∙ ap (λ names. blocks_at (length names) level) (sym (same.names table number));
    rows = is.lists_of.rows;
  }

  -- a list that has parts had a number before
  numbered-before : (roll : Roll) (level : Level) (index number slot : ℕ) → number_of_roll roll new.rolls ≡ Some number
      → slice_get (slots_of (list_number roll number) level lists.parts) index ≡ Some slot → number_of_roll roll old.rolls ≡ Some number
  numbered-before roll level index number slot now there = by (number_of_roll roll old.rolls) refl
    where
      by : (found : Option ℕ) → number_of_roll roll old.rolls ≡ found → number_of_roll roll old.rolls ≡ Some number
      by (Some n) e =
          let both : Some n ≡ Some number = sym (same.numbers roll n e) ∙ now in
          let one : n ≡ number = cc in
          e ∙ ap (λ m. Some m) one
      by None e =
          let none : roll_of roll old.rolls ≡ [] = ap (λ f. option_map_or (λ n. names_of n (listed roll old.rolls)) f []) e in
          let empty : names_of number (lists_in (table_of roll) new.rolls) ≡ [] =
          sym (numbered-names roll new.rolls number now) ∙ (same.still roll ∙ none) in
          let count : count_of (list_number roll number) level lists.parts ≡ blocks_at 0 level =
          ap (λ list. count_of list level lists.parts) (sym (one-list roll number))
          ∙ (listed-still.parts (table_of roll) (roll-has-lists roll) number level
          ∙ ap (λ (names : List (List ℕ)). blocks_at (length names) level) empty) in
          let inside = slice_get_within (slots_of (list_number roll number) level lists.parts) index slot there in
          let zero : blocks_at 0 level ≡ 0 = no-blocks level in
          absurd (omega (arith, count, inside, zero))

  -- ---- the same points have the same numbers

  pub stands-back : (point : Point) (number : ℕ) → StandsIn new places lists point number → StandsIn old places lists point number
  stands-back (points.Figure node) number at = subst (λ s. StandsAt s places node number) same.sheet at
  stands-back (points.Block block) number at = record {
    roll = at.roll;
    numbered = numbered-before (sum_roll block.sum) block.level block.index at.roll at.slot at.numbered at.part;
    slot = at.slot;
    part = at.part;
    at = at.at;
  }

  pub stands-still : (point : Point) (number : ℕ) → StandsIn old places lists point number → StandsIn new places lists point number
  stands-still (points.Figure node) number at = subst (λ s. StandsAt s places node number) (sym same.sheet) at
  stands-still (points.Block block) number at = record {
    roll = at.roll;
    numbered = same.numbers (sum_roll block.sum) at.roll at.numbered;
    slot = at.slot;
    part = at.part;
    at = at.at;
  }

  one-book : rolled_of new ≡ rolled_of old
  one-book = rolled-still old new same.sheet same.still

  pub numbers-still : AreNumbersOf new places lists
  numbers-still = record {
    rolls = same.kept;
    numbered = subst (λ s. IsNumbered s places) (sym same.sheet) is.numbered;
    lists_of = listed-still;
    numbers = subst (λ (book : Rolled). AreNumbers (book_graph book) (StandsIn new places lists) places.size) (sym one-book) (record {
      exact = λ number a b x y. is.numbers.exact number a b (stands-back a number x) (stands-back b number y);
      only = λ point n m x y. is.numbers.only point n m (stands-back point n x) (stands-back point m y);
      live = λ point live. let own = is.numbers.live point live in (own.0, stands-still point own.0 own.1);
      within = λ point number at. is.numbers.within point number (stands-back point number at);
    });
  }

  at-still : (numbers : List ℕ) (list : List Point) → AreAt (StandsIn old places lists) numbers list → AreAt (StandsIn new places lists) numbers list
  at-still [] [] at = tt
  at-still [] (point ∷ list) at = absurd at
  at-still (n ∷ numbers) [] at = absurd at
  at-still (n ∷ numbers) (point ∷ list) at = (stands-still point n at.0, at-still numbers list at.1)

  pub links-still : (edges : List Edge) → AreLinkedOf (book_graph (rolled_of old)) (StandsIn old places lists) edges IsLinkedPoint
      → AreLinkedOf (book_graph (rolled_of new)) (StandsIn new places lists) edges IsLinkedPoint
  links-still edges linked =
      subst (λ (book : Rolled). AreLinkedOf (book_graph book) (StandsIn new places lists) edges IsLinkedPoint) (sym one-book) (record {
        done = λ point number at live its. at-still _ _ (linked.done point number (stands-back point number at) live its);
        only = λ e has. let l = linked.only e has in (l.0, stands-still l.0 e.dependant l.1, l.2, l.3);
      })

  pub figures-still : (factors : FactorValues) (figures : List Figure)
      → AreSettled (book_reckoning factors (rolled_of old)) (StandsIn old places lists) figures
      → AreSettled (book_reckoning factors (rolled_of new)) (StandsIn new places lists) figures
  unfolding AreKnownOf
  figures-still factors figures known =
      subst (λ (book : Rolled). AreSettled (book_reckoning factors book) (StandsIn new places lists) figures) (sym one-book)
      (λ point number at live all. known point number (stands-back point number at) live all)

pub state-still : (factors : FactorValues) (old new : RolledSheet) (state : State) → AreSameLists old new → IsStateOf factors old state
    → IsStateOf factors new state
state-still factors old new state same is = record {
  rates = is.rates ∙ ap all_rates (sym same.sheet);
  graph = record {
    numbers_of = numbers-still old new state.places state.lists same is.graph.numbers_of;
    linked = links-still old new state.places state.lists same is.graph.numbers_of state.links.edges is.graph.linked;
  };
  figures = figures-still old new state.places state.lists same is.graph.numbers_of factors state.figures is.figures;
  ceiling = is.ceiling;
  size = is.size;
}
