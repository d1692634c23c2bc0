-- What the records of passages give, one passage after another.
use Rattle.std.proofs.Common.{◌≡◌, ℕ, ◌+◌, ◌≤◌, List, [], ◌∷◌, ◌++◌, length, Result, Ok, Err, refl, ap, ◌∙◌, append_assoc, length-append, arith}
use Rattle.std.specs.Global.{Vec}
use Rattle.scr_line_chunks.specs.Passages.{IsWhole, ended_lines, joined, records_behind}
use Rattle.scr_line_chunks.proofs.Marks.{behind-append}
use Rattle.scr_sheet.specs.declared.sheet.BalanceSheet.{BalanceSheet}
use Rattle.scr_sheet.specs.declared.fault.Fault.{Fault}
use Rattle.scr_run.specs.BookAnswers.{Filled}
use Rattle.scr_run.specs.declared.records.BookFault.{BookFault}
use Rattle.scr_run.specs.declared.records.BookFault.TheVariants as book_faults
use Rattle.scr_run.specs.BookFile.{and_then_lines, recorded, sheet_from}

-- what more records make of the balance sheet that those before them give
abbrev then_from : List (ℕ × List ℕ) → Result BalanceSheet (ℕ × Fault) → Result BalanceSheet (ℕ × Fault)
then_from lines (Ok sheet) = sheet_from lines sheet
then_from lines (Err refused) = Err refused

sheet-append : (before lines : List (ℕ × List ℕ)) (sheet : BalanceSheet)
    → sheet_from (before ++ lines) sheet ≡ then_from lines (sheet_from before sheet)
sheet-append [] lines sheet = refl
sheet-append (line ∷ before) lines sheet = by (sheet-append before lines) (recorded line.1 sheet)
  where
    by : ((new : BalanceSheet) → sheet_from (before ++ lines) new ≡ then_from lines (sheet_from before new))
        → (r : Result BalanceSheet Fault) → and_then_lines line.0 (sheet_from (before ++ lines)) r
        ≡ then_from lines (and_then_lines line.0 (sheet_from before) r)
    by more (Ok new) = more new
    by more (Err fault) = refl

module _ (passed : ℕ) (passage rest : List ℕ) (whole : IsWhole passage) (sheet : BalanceSheet) where
  sheet_behind : sheet_from (records_behind passed (passage ++ rest)) sheet
      ≡ then_from (records_behind (passed + ended_lines passage) rest) (sheet_from (records_behind passed passage) sheet)
  sheet_behind =
      ap (λ (lines : List (ℕ × List ℕ)). sheet_from lines sheet) (behind-append passed passage rest whole)
      ∙ sheet-append (records_behind passed passage) (records_behind (passed + ended_lines passage) rest) sheet

  -- the records of a passage were applied
  pub passage_applied : (new : BalanceSheet) → sheet_from (records_behind passed passage) sheet ≡ Ok new
      → sheet_from (records_behind passed (passage ++ rest)) sheet
      ≡ sheet_from (records_behind (passed + ended_lines passage) rest) new
  passage_applied new e = sheet_behind ∙ ap (then_from (records_behind (passed + ended_lines passage) rest)) e

  -- one of them was refused
  pub passage_refused : (refused : ℕ × Fault) → sheet_from (records_behind passed passage) sheet ≡ Err refused
      → sheet_from (records_behind passed (passage ++ rest)) sheet ≡ Err refused
  passage_refused refused e = sheet_behind ∙ ap (then_from (records_behind (passed + ended_lines passage) rest)) e

-- the bytes of the passages that are left, of which one comes next
pub joined_from : (left more : List (Vec ℕ)) (passage : Vec ℕ) (last : List ℕ) → left ≡ passage ∷ more
    → joined left ++ last ≡ passage.items ++ (joined more ++ last)
joined_from left more passage last e =
    ap (λ (passages : List (Vec ℕ)). joined passages ++ last) e ∙ append_assoc passage.items (joined more) last

-- the lines that have passed and the bytes that are left are no more than the bytes of the file
pub still_short : (passed later : ℕ) (passage rest left : List ℕ) → left ≡ passage ++ rest → passed + length left ≤ 67108864
    → later ≤ passed + length passage → later + length rest ≤ 67108864
still_short passed later passage rest left e short within =
    let parts : length left ≡ length passage + length rest = ap length e ∙ length-append passage rest in
    omega (arith, parts, short, within)

-- a fault of a passage is the file's
pub fault_stays : (due whole : Result BalanceSheet (ℕ × Fault)) (fault : BookFault) (new : BalanceSheet)
    → ((refused : ℕ × Fault) → due ≡ Err refused → whole ≡ Err refused)
    → Filled {A = Unit {0}} due (Err fault) new → Filled {A = Unit {0}} whole (Err fault) new
fault_stays due whole (book_faults.Record line fault) new same told = same (line, fault) told
fault_stays due whole book_faults.NoMemory new same told = tt
