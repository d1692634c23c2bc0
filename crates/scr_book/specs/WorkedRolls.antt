-- A worked roll (this project's own): a hundred securities of one class are made, and each third of them is dropped.
use Rattle.std.specs.Prelude.{ℕ, ◌*◌, List, [], ◌∷◌, ◌++◌, None, fold, map, pos}
use Rattle.std.specs.List.{range_with_len}
use Rattle.scr_sheet.specs.BalanceSheet.{opening, euro}
use Rattle.scr_sheet.specs.Records.{applied}
use Rattle.scr_sheet.specs.declared.{sheet.BalanceSheet.BalanceSheet, edit.Edit.Edit, roll.Roll.Roll}
use Rattle.scr_sheet.specs.declared.edit.Edit.TheVariants as edits
use Rattle.scr_sheet.specs.declared.keys.Table.TheVariants as tables
use Rattle.scr_sheet.specs.declared.rows.Class.TheVariants as classes
use Rattle.scr_book.specs.Rolls.{rolled}

-- the name that is one byte, 0 to 99
abbrev pub letter : ℕ → List ℕ
letter k = k ∷ []

abbrev pub made : ℕ → Edit
made k = edits.Security (letter k) classes.Property None euro (pos 0)

abbrev pub dropped : ℕ → Edit
dropped k = edits.Remove tables.Security (letter k)

-- a hundred are made, and then the first, the fourth and so on up to the hundredth are dropped
unfoldable pub thirds_dropped : List Edit
thirds_dropped = map made (range_with_len 0 100) ++ map dropped (map (λ k. 3 * k) (range_with_len 0 34))

-- a sheet and the members of a roll, as a record leaves them
abbrev pub after : Roll → BalanceSheet × List (List ℕ) → Edit → BalanceSheet × List (List ℕ)
after roll book edit = (applied edit book.0, rolled edit book.0 roll book.1)

-- the members of a roll after the records, from the opening sheet on, of which a roll has none
unfoldable pub members_after : Roll → List Edit → List (List ℕ)
members_after roll edits = (fold (after roll) (opening, []) edits).1

-- the places of those that left are taken by those that were last
unfoldable pub thirds_left : List (List ℕ)
thirds_left = map letter (
    77 ∷ 1 ∷ 2 ∷ 98 ∷ 4 ∷ 5 ∷ 97 ∷ 7 ∷ 8 ∷ 67 ∷ 10 ∷ 11 ∷ 95 ∷ 13 ∷ 14 ∷ 94 ∷ 16 ∷ 17 ∷ 68 ∷ 19 ∷ 20 ∷ 92 ∷ 22 ∷ 23 ∷
    91 ∷ 25 ∷ 26 ∷ 76 ∷ 28 ∷ 29 ∷ 89 ∷ 31 ∷ 32 ∷ 88 ∷ 34 ∷ 35 ∷ 70 ∷ 37 ∷ 38 ∷ 86 ∷ 40 ∷ 41 ∷ 85 ∷ 43 ∷ 44 ∷ 71 ∷ 46 ∷
    47 ∷ 83 ∷ 49 ∷ 50 ∷ 82 ∷ 52 ∷ 53 ∷ 74 ∷ 55 ∷ 56 ∷ 80 ∷ 58 ∷ 59 ∷ 79 ∷ 61 ∷ 62 ∷ 73 ∷ 64 ∷ 65 ∷ [])
