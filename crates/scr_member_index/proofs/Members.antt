-- What stands beside the list of a roll, and the rows of the members.
use Rattle.std.proofs.Common.{◌≡◌, ℕ, List, [], length, map, Option, Some, None, refl, sym, ap, subst, ◌∙◌}
use Rattle.std.specs.Option.{option_map_or}
use Rattle.scr_ids.specs.Ranges.{Numbered as Ranges, count}
use Rattle.scr_member_lists.specs.Seatings.{AreSeated, Seated, names_of}
use Rattle.scr_sum_slots.specs.Firsts.{firsts_in}
use Rattle.scr_sheet.specs.Members.{table_of}
use Rattle.scr_sheet.specs.declared.{sheet.BalanceSheet.BalanceSheet, keys.Table.Table, roll.Roll.Roll}
use Rattle.scr_book.specs.Places.{names_in}
use Rattle.scr_book.specs.RolledSheets.{RolledSheet}
use Rattle.scr_book.specs.Rolls.{AreRollsOf, listed, number_of_roll, roll_of, seated_in}
use Rattle.scr_book.proofs.RollSettled.{own-table}
use Rattle.scr_book.proofs.RollSteps.{seated-in}
use Rattle.scr_member_index.specs.Lists.{AreListsOf, HasLists, HaveRanges, first_of, firsts_at, members_of, ranges_of}
use Rattle.scr_member_index.specs.declared.lists.Lists.{Lists}

pub members-own : (book : RolledSheet) (places : Ranges) (lists : Lists) → AreListsOf book places lists → (roll : Roll)
    → members_of roll book.rolls lists ≡ map (first_of book.sheet places (table_of roll)) (roll_of roll book.rolls)
members-own book places lists are roll = by (number_of_roll roll book.rolls) refl
  where
    first : List ℕ → ℕ
    first = first_of book.sheet places (table_of roll)

    beside : Option ℕ → List ℕ
    beside found = option_map_or (λ number. firsts_in number (firsts_at (table_of roll) lists)) found []

    in_list : Option ℕ → List (List ℕ)
    in_list found = option_map_or (λ number. names_of number (listed roll book.rolls)) found []

    by : (found : Option ℕ) → number_of_roll roll book.rolls ≡ found → beside (number_of_roll roll book.rolls) ≡ map first (in_list (number_of_roll roll book.rolls))
    by None e = ap beside e ∙ ap (map first) (sym (ap in_list e))
    by (Some number) e = ap beside e ∙ are.firsts (table_of roll) (own-table roll) number ∙ ap (map first) (sym (ap in_list e))

-- ---- rows and their seats, as a book shows them

module _ (book : RolledSheet) (places : Ranges) (table : Table) (has : HasLists table) (shown : BalanceSheet) (same : shown ≡ book.sheet) where
  pub rows-seated : AreRollsOf book.sheet book.rolls → (seating : Seated) → seating ≡ seated_in table book.rolls → AreSeated (names_in table shown) seating
  rows-seated kept seating own =
      subst (λ (s : Seated). AreSeated (names_in table shown) s) (sym own)
      (subst (λ (sheet : BalanceSheet). AreSeated (names_in table sheet) (seated_in table book.rolls)) (sym same)
      (seated-in table book.sheet book.rolls has (kept.seated table)))

  pub rows-counted : HaveRanges book.sheet places → count places (ranges_of table) ≡ length (names_in table shown)
  rows-counted ranges = ranges table has ∙ sym (ap (λ (sheet : BalanceSheet). length (names_in table sheet)) same)
