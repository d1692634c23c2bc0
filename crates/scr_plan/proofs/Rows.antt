-- Where the list of a sum stays, so do the names of the rows that it adds up, in the order of their table.
use Rattle.std.proofs.Common.{◌≡◌, ℕ, Bool, true, false, List, map, filter, is_some, Option, refl, sym, ap, subst, ◌∙◌}
use Rattle.std.specs.Bool.{beq}
use Rattle.std.specs.List.{IsDistinct, list_any}
use Rattle.std.specs.Option.{option_map_or}
use Rattle.scr_tables.specs.Names.{same_name}
use Rattle.scr_tables.specs.Tables.{has_row, row_of}
use Rattle.scr_row_change.specs.Changes.{IsNamed, after, change_of}
use Rattle.scr_row_change.specs.Comparisons.{passes}
use Rattle.scr_row_change.specs.Exchanges.{HasName, exchanged}
use Rattle.scr_row_change.specs.declared.change.Change.{Change}
use Rattle.scr_row_change.specs.declared.change.Change.TheVariants as changes
use Rattle.scr_row_change.proofs.Exchanged.{listed, listed_all, row-own}
use Rattle.scr_sheet.specs.BalanceSheet.{group_name, liability_name, position_name, position_of, stake_name, stake_of}
use Rattle.scr_sheet.specs.Members.{is_member}
use Rattle.scr_sheet.specs.Records.{applied}
use Rattle.scr_sheet.specs.Validity.{Valid}
use Rattle.scr_sheet.specs.declared.{edit.Edit.Edit, rows.Liability.Liability, rows.Position.Position, rows.Stake.Stake, sheet.BalanceSheet.BalanceSheet}
use Rattle.scr_sheet.specs.declared.rows.Class.TheVariants as classes
use Rattle.scr_nodes.specs.Rows.{has_class, has_group, is_closed, is_held_in, is_of_group, is_owed_in, is_paying_in, is_stressed}
use Rattle.scr_block_graph.specs.Graph.{Rolled, roll_in}
use Rattle.scr_block_graph.specs.Sums.{names_listed, roll_of}
use Rattle.scr_block_graph.specs.Touched.{applied_in}
use Rattle.scr_block_graph.specs.declared.sum.Sum.{Sum}
use Rattle.scr_block_graph.specs.declared.sum.Sum.TheVariants as sums
use Rattle.scr_block_graph.proofs.Laters.{applied-after, is-named-change}
use Rattle.scr_block_graph.proofs.Members.{once-funds, once-groups, once-liabilities, once-securities, same-test}
use Rattle.scr_plan.specs.Ways.{AreKept}
use Rattle.scr_plan.proofs.Lists.{after-rolls}

beq-same : (a b : Bool) → a ≡ b → beq a b ≡ true
beq-same true true e = refl
beq-same false false e = refl
beq-same true false e = absurd (cc)
beq-same false true e = absurd (cc)

-- ---- a table in which one row is exchanged

module _ {Row : Type 0} (name_of : Row → List ℕ) (name : List ℕ) (new : Option Row) (rows : List Row) (named : HasName name_of name new)
    (distinct : IsDistinct same_name (map name_of rows)) where
  rows-kept : (test : Row → Bool)
      → option_map_or test (row_of name_of name rows) false ≡ option_map_or test (row_of name_of name (exchanged name_of name new rows)) false
      → map name_of (filter test rows) ≡ map name_of (filter test (exchanged name_of name new rows))
  rows-kept test same =
      (listed name_of name new rows named test name_of (λ a b e. e)).0
      (beq-same (passes test (row_of name_of name rows)) (passes test new) (same ∙ ap (passes test) (row-own name_of name new rows distinct named)))

  rows-all : has_row name_of name rows ≡ has_row name_of name (exchanged name_of name new rows)
      → map name_of rows ≡ map name_of (exchanged name_of name new rows)
  rows-all same =
      (listed_all name_of name new rows named name_of (λ a b e. e)).0
      (beq-same (is_some (row_of name_of name rows)) (is_some new) (same ∙ ap is_some (row-own name_of name new rows distinct named)))

-- ---- the tables of a balance sheet

module _ (sheet : BalanceSheet) (valid : Valid sheet) where
  securities-kept : (change : Change) → IsNamed change → (test : Position → Bool)
      → ((name : List ℕ) → option_map_or test (position_of name sheet.securities) false ≡ option_map_or test (position_of name (after change sheet).securities) false)
      → map position_name (filter test sheet.securities) ≡ map position_name (filter test (after change sheet).securities)
  securities-kept (changes.Security name new) named test same =
      rows-kept position_name name new sheet.securities named (once-securities sheet valid) test (same name)
  securities-kept change named test same = refl

  funds-kept : (change : Change) → IsNamed change → (test : Stake → Bool)
      → ((name : List ℕ) → option_map_or test (stake_of name sheet.funds) false ≡ option_map_or test (stake_of name (after change sheet).funds) false)
      → map stake_name (filter test sheet.funds) ≡ map stake_name (filter test (after change sheet).funds)
  funds-kept (changes.Fund name new) named test same =
      rows-kept stake_name name new sheet.funds named (once-funds sheet valid) test (same name)
  funds-kept change named test same = refl

  liabilities-kept : (change : Change) → IsNamed change → (test : Liability → Bool)
      → ((name : List ℕ) → option_map_or test (row_of liability_name name sheet.liabilities) false
      ≡ option_map_or test (row_of liability_name name (after change sheet).liabilities) false)
      → map liability_name (filter test sheet.liabilities) ≡ map liability_name (filter test (after change sheet).liabilities)
  liabilities-kept (changes.Liability name new) named test same =
      rows-kept liability_name name new sheet.liabilities named (once-liabilities sheet valid) test (same name)
  liabilities-kept change named test same = refl

  groups-kept : (change : Change) → IsNamed change
      → ((name : List ℕ) → has_row group_name name sheet.groups ≡ has_row group_name name (after change sheet).groups)
      → map group_name sheet.groups ≡ map group_name (after change sheet).groups
  groups-kept (changes.Group name new) named same = rows-all group_name name new sheet.groups named (once-groups sheet valid) (same name)
  groups-kept change named same = refl

  module _ (change : Change) (named : IsNamed change) where
    abbrev then : BalanceSheet
    then = after change sheet

    names-kept : (sum : Sum) → ((name : List ℕ) → is_member (roll_of sum) name sheet ≡ is_member (roll_of sum) name then)
        → names_listed sheet sum ≡ names_listed then sum
    names-kept (sums.Class class) same = securities-kept change named (has_class class) same
    names-kept sums.Closed same = funds-kept change named is_closed same
    names-kept sums.Spreads same = securities-kept change named (has_class classes.Bond) same
    names-kept sums.Grouped same = securities-kept change named has_group same
    names-kept (sums.Group group) same = securities-kept change named (is_of_group group) same
    names-kept (sums.Assets currency) same = securities-kept change named (is_held_in currency) same
    names-kept (sums.Rates currency direction) same = securities-kept change named (is_paying_in currency) same
    names-kept (sums.Costs currency direction) same = liabilities-kept change named (is_owed_in currency) same
    names-kept (sums.Presents currency) same = liabilities-kept change named (is_owed_in currency) same
    names-kept (sums.Losses biometric projection) same =
        liabilities-kept change named (is_stressed biometric projection)
        (λ name. ap (λ test. option_map_or test (row_of liability_name name sheet.liabilities) false) (same-test biometric projection)
        ∙ same name
        ∙ ap (λ test. option_map_or test (row_of liability_name name then.liabilities) false) (sym (same-test biometric projection)))
    names-kept sums.Squares same = groups-kept change named same

-- ---- before a record and after it

module _ (edit : Edit) (book : Rolled) (kept : AreKept edit book) (sum : Sum) where
  abbrev later : Rolled
  later = applied_in edit book

  made : after (change_of edit book.sheet) book.sheet ≡ applied edit book.sheet
  made = applied-after edit book.sheet (change_of edit book.sheet) kept.valid refl

  pub names-stay : roll_in book sum ≡ roll_in later sum → names_listed book.sheet sum ≡ names_listed later.sheet sum
  names-stay same =
      subst (λ sheet. names_listed book.sheet sum ≡ names_listed sheet sum) made
      (names-kept book.sheet kept.valid (change_of edit book.sheet) (is-named-change edit book.sheet (change_of edit book.sheet) refl) sum
      (λ name. sym (kept.rolls.members (roll_of sum) name)
      ∙ ap (λ names. list_any (same_name name) names) same
      ∙ (after-rolls edit book kept.rolls).members (roll_of sum) name
      ∙ ap (is_member (roll_of sum) name) (sym made)))
