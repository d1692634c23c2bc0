-- A list of a book has no more members than the table has rows that they are.
use Rattle.std.proofs.Common.{◌≡◌, ℕ, ◌+◌, ◌≤◌, Bool, true, false, cond, List, [], ◌∷◌, filter, length, map, refl, sym, ◌∙◌, arith}
use Rattle.std.proofs.lemmas.List.{length-map}
use Rattle.scr_sum_tree.specs.Sums.{AddsUp, total}
use Rattle.scr_sum_tree.proofs.SameMembers.{total-same}
use Rattle.scr_sheet.specs.BalanceSheet.{group_name, liability_name, position_name, stake_name}
use Rattle.scr_sheet.specs.Validity.{Valid}
use Rattle.scr_sheet.specs.declared.rows.Class.TheVariants as classes
use Rattle.scr_sheet.specs.declared.sheet.BalanceSheet.{BalanceSheet}
use Rattle.scr_nodes.specs.Rows.{has_class, has_group, is_closed, is_held_in, is_of_group, is_owed_in, is_paying_in, is_stressed}
use Rattle.scr_block_graph.specs.Graph.{IsRoll, Rolled, roll_in}
use Rattle.scr_block_graph.specs.Sums.{names_listed, roll_of}
use Rattle.scr_block_graph.specs.declared.sum.Sum.{Sum}
use Rattle.scr_block_graph.specs.declared.sum.Sum.TheVariants as sums
use Rattle.scr_block_graph.proofs.Members.{listed-members, listed-once}

-- as many as there are names
ones : List (List ℕ) → ℕ
ones names = total 0 (λ a b. a + b) (map (λ name. 1) names)

numbers-add_up : AddsUp 0 (λ a b. a + b)
numbers-add_up = record { grouped = λ a b c. omega arith; swapped = λ a b. omega arith; empty = λ a. omega arith }

ones-length : (names : List (List ℕ)) → ones names ≡ length names
unfolding ones
ones-length [] = refl
ones-length (name ∷ names) = let rest = ones-length names in omega (arith, rest)

kept-few : {Row : Type 0} (name_of : Row → List ℕ) (test : Row → Bool) (rows : List Row) → length (map name_of (filter test rows)) ≤ length rows
kept-few name_of test [] = omega arith
kept-few name_of test (row ∷ rows) = by (test row) (kept-few name_of test rows)
  where
    by : (t : Bool) → length (map name_of (filter test rows)) ≤ length rows → length (map name_of (cond t (row ∷ filter test rows) (filter test rows))) ≤ length (row ∷ rows)
    by true rest = omega (arith, rest)
    by false rest = omega (arith, rest)

module _ (sheet : BalanceSheet) (valid : Valid sheet) where
  securities-few : (test : _) → length (map position_name (filter test sheet.securities)) ≤ 20000
  securities-few test = let most : length sheet.securities ≤ 20000 = valid.within.securities in omega (arith, most, kept-few position_name test sheet.securities)

  liabilities-few : (test : _) → length (map liability_name (filter test sheet.liabilities)) ≤ 20000
  liabilities-few test = let most : length sheet.liabilities ≤ 2000 = valid.within.liabilities in omega (arith, most, kept-few liability_name test sheet.liabilities)

  listed-few : (sum : Sum) → length (names_listed sheet sum) ≤ 20000
  listed-few (sums.Class class) = securities-few (has_class class)
  listed-few sums.Closed = let most : length sheet.funds ≤ 2000 = valid.within.funds in omega (arith, most, kept-few stake_name is_closed sheet.funds)
  listed-few sums.Spreads = securities-few (has_class classes.Bond)
  listed-few sums.Grouped = securities-few has_group
  listed-few (sums.Group group) = securities-few (is_of_group group)
  listed-few (sums.Assets currency) = securities-few (is_held_in currency)
  listed-few (sums.Rates currency direction) = securities-few (is_paying_in currency)
  listed-few (sums.Costs currency direction) = liabilities-few (is_owed_in currency)
  listed-few (sums.Presents currency) = liabilities-few (is_owed_in currency)
  listed-few (sums.Losses biometric projection) = liabilities-few (is_stressed biometric projection)
  listed-few sums.Squares = let most : length sheet.groups ≤ 10000 = valid.within.groups in omega (arith, most, length-map sheet.groups group_name)

module _ (book : Rolled) (valid : Valid book.sheet) (sum : Sum) (own : IsRoll book (roll_of sum)) where
  same-length : length (names_listed book.sheet sum) ≡ length (roll_in book sum)
  unfolding ones
  same-length =
      sym (ones-length (names_listed book.sheet sum))
      ∙ total-same 0 (λ a b. a + b) numbers-add_up (λ name. 1) (names_listed book.sheet sum) (roll_in book sum)
      (listed-once book.sheet valid sum) own.once
      (λ name. listed-members book.sheet valid sum name ∙ sym (own.members name))
      ∙ ones-length (roll_in book sum)

  pub few_members : length (roll_in book sum) ≤ 20000
  few_members = omega (arith, same-length, listed-few book.sheet valid sum)
