-- The numbers of the points of a book: each figure and each Block that it has, has one, and no other.
use Rattle.std.proofs.Common.{◌≡◌, ℕ, ◌<◌, true, false, [], length, Option, Some, None, refl, sym, ap, ◌∙◌, arith}
use Rattle.std.specs.Option.{option_map_or}
use Rattle.scr_sum_tree.specs.Blocks.{blocks_at}
use Rattle.scr_ids.specs.Ranges.{IsApart, IsWithin, Numbered}
use Rattle.scr_ids.specs.declared.table.Table.TheVariants as ranged
use Rattle.scr_sum_slots.specs.Parts.{AreOwn, count_of}
use Rattle.scr_member_lists.specs.Seatings.{names_of}
use Rattle.scr_sheet.specs.Members.{table_of}
use Rattle.scr_sheet.specs.declared.{roll.Roll.Roll, sheet.BalanceSheet.BalanceSheet}
use Rattle.scr_sheet.specs.declared.keys.Table.TheVariants as tables
use Rattle.scr_sheet.specs.declared.roll.Roll.TheVariants as rolls
use Rattle.scr_book.specs.RolledSheets.{RolledSheet}
use Rattle.scr_book.specs.Rolls.{AreRollsOf, KeptRolls, listed, number_of_roll, roll_of}
use Rattle.scr_figure_ids.specs.Numbers.{IsNumbered, StandsAt}
use Rattle.scr_figure_ids.proofs.Standing.{figure-or-part}
use Rattle.scr_member_index.specs.Lists.{AreListsOf, HasLists, HaveRanges, list_in, lists_in}
use Rattle.scr_member_index.specs.declared.lists.Lists.{Lists}
use Rattle.scr_block_graph.specs.BlockNumbers.{HaveParts, list_number}
use Rattle.scr_block_graph.specs.Books.{rolled_of}
use Rattle.scr_block_graph.proofs.BlockNumbers.{point-exact, point-lives, point-only, point-within}
use Rattle.scr_block_graph.proofs.ListNumbers.{lists-apart}
use Rattle.scr_reachability.specs.Linked.{AreNumbers}
use Rattle.scr_tree.specs.Graphs.{graph_of}
use Rattle.scr_tree.specs.Points.{StandsIn, book_graph, list_numbers}

-- the rows of the tables whose rows are members of lists have their ranges
pub have-ranges : (sheet : BalanceSheet) (places : Numbered) → IsNumbered sheet places → HaveRanges sheet places
have-ranges sheet places numbered tables.Security has = numbered.rows ranged.Security refl
have-ranges sheet places numbered tables.Liability has = numbered.rows ranged.Liability refl
have-ranges sheet places numbered tables.Fund has = numbered.rows ranged.Fund refl
have-ranges sheet places numbered tables.Group has = numbered.rows ranged.Group refl
have-ranges sheet places numbered tables.Bank has = absurd (let clash : false ≡ true = has in cc)
have-ranges sheet places numbered tables.Rein has = absurd (let clash : false ≡ true = has in cc)
have-ranges sheet places numbered tables.Curve has = absurd (let clash : false ≡ true = has in cc)

-- the members of each list are rows of a table that has lists, in which it has one number
pub roll-has-lists : (roll : Roll) → HasLists (table_of roll)
roll-has-lists (rolls.Class class) = refl
roll-has-lists rolls.Closed = refl
roll-has-lists rolls.Bonds = refl
roll-has-lists rolls.Grouped = refl
roll-has-lists (rolls.Group group) = refl
roll-has-lists (rolls.Assets currency) = refl
roll-has-lists (rolls.Flows currency) = refl
roll-has-lists (rolls.Lines currency) = refl
roll-has-lists (rolls.Losses kind projection) = refl
roll-has-lists rolls.Groups = refl

pub one-list : (roll : Roll) (number : ℕ) → list_in (table_of roll) number ≡ list_number roll number
one-list (rolls.Class class) number = refl
one-list rolls.Closed number = refl
one-list rolls.Bonds number = refl
one-list rolls.Grouped number = refl
one-list (rolls.Group group) number = refl
one-list (rolls.Assets currency) number = refl
one-list (rolls.Flows currency) number = refl
one-list (rolls.Lines currency) number = refl
one-list (rolls.Losses kind projection) number = refl
one-list rolls.Groups number = refl

-- a list with members has a number
numbered-list : (roll : Roll) (kept : KeptRolls) → 0 < length (roll_of roll kept) → (number : ℕ) × (number_of_roll roll kept ≡ Some number)
numbered-list roll kept some = by (number_of_roll roll kept) refl
  where
    by : (found : Option ℕ) → number_of_roll roll kept ≡ found → (number : ℕ) × (number_of_roll roll kept ≡ Some number)
    by (Some number) e = (number, e)
    by None e =
        let none : length (roll_of roll kept) ≡ 0 = ap (λ f. length (option_map_or (λ n. names_of n (listed roll kept)) f [])) e in
        absurd (omega (arith, some, none))

pub numbered-names : (roll : Roll) (kept : KeptRolls) (number : ℕ) → number_of_roll roll kept ≡ Some number
    → roll_of roll kept ≡ names_of number (lists_in (table_of roll) kept)
numbered-names roll kept number is = ap (λ f. option_map_or (λ n. names_of n (listed roll kept)) f []) is

pub have-parts : (book : RolledSheet) (places : Numbered) (lists : Lists) → AreListsOf book places lists
    → HaveParts (rolled_of book) (list_numbers book.rolls) lists.parts places
have-parts book places lists of = record {
  numbered = λ roll many. numbered-list roll book.rolls (omega (arith, many));
  counts = λ roll number is level.
      ap (λ list. count_of list level lists.parts) (sym (one-list roll number))
      ∙ (of.parts (table_of roll) (roll-has-lists roll) number level
      ∙ ap (λ names. blocks_at (length names) level) (sym (numbered-names roll book.rolls number is)));
  rows = of.rows;
}

pub points-numbered : (book : RolledSheet) (places : Numbered) (lists : Lists) → AreRollsOf book.sheet book.rolls → IsApart places
    → IsWithin places → AreOwn lists.parts → AreListsOf book places lists
    → AreNumbers (graph_of book.sheet) (StandsAt book.sheet places) places.size
    → AreNumbers (book_graph (rolled_of book)) (StandsIn book places lists) places.size
points-numbered book places lists kept apart within own of figures = record {
  exact = point-exact (StandsAt book.sheet places) (list_numbers book.rolls) lists.parts places (figure-or-part book.sheet places apart) apart own
      (lists-apart book.rolls kept.numbered) figures.exact;
  only = point-only (StandsAt book.sheet places) (list_numbers book.rolls) lists.parts places figures.only;
  live = point-lives (StandsAt book.sheet places) (rolled_of book) (list_numbers book.rolls) lists.parts places (have-parts book places lists of) own
      figures.live;
  within = point-within (StandsAt book.sheet places) (list_numbers book.rolls) lists.parts places within figures.within;
}
