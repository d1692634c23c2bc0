-- The records of a script, counted one after another.
use Rattle.std.proofs.Common.{◌≡◌, ◌∙◌, ◌+◌, ◌≤◌, ◌&&◌, ◌==◌, ◌||◌, Bool, true, false, cond, ℕ, suc, List, [], ◌∷◌, length, Result, Ok, Err, is_err, is_ok, ◌++◌, refl, sym, ap, ap₂, arith, nat_lt, lt-ltb, le-ltb, ltb-true, ltb-false}
use Rattle.std.specs.List.{enumerate_from, slice_split}
use Rattle.std.specs.Str.Lines.{lines, lines_of_parts}
use Rattle.std.proofs.lemmas.List.FromFn.{length-enumerate_from}
use Rattle.std.proofs.lemmas.List.Splits.{length-slice_split}
use Rattle.std.proofs.lemmas.List.Sums.{count_by-le-length, length-filter, sum_by-cons}
use Rattle.scr_csv.specs.Lines.{is_record, records, without_mark}
use Rattle.scr_sheet.specs.declared.fault.Fault.{Fault}
use Rattle.scr_sheet.specs.declared.sheet.BalanceSheet.{BalanceSheet}
use Rattle.scr_run.specs.BookFile.{recorded}
use Rattle.scr_run.specs.Report.{Reply, after, answers, any_refused}
use Rattle.scr_made.specs.Summary.{book_line, counts_text, edits_line, last_line}
use Rattle.scr_run.specs.Summary.{accepted, left_by, summary_text}

-- ---- how many records a file can have

lines-short : (parts : List (List ℕ)) → length (lines_of_parts parts) ≤ length parts
lines-short [] = omega arith
lines-short (x ∷ []) = go (length x == 0)
  where
    go : (b : Bool) → length (cond b [] (x ∷ [])) ≤ 1
    go true = omega arith
    go false = omega arith
lines-short (x ∷ y ∷ more) = let rest = lines-short (y ∷ more) in omega (arith, rest)

unmarked-short : (bytes : List ℕ) → length (without_mark bytes) ≤ length bytes
unmarked-short [] = omega arith
unmarked-short (a ∷ []) = omega arith
unmarked-short (a ∷ b ∷ []) = omega arith
unmarked-short (a ∷ b ∷ c ∷ bytes) = go (((a == 0xEF) && (b == 0xBB)) && (c == 0xBF))
  where
    go : (m : Bool) → length (cond m bytes (a ∷ b ∷ c ∷ bytes)) ≤ length (a ∷ b ∷ c ∷ bytes)
    go true = omega arith
    go false = omega arith

pub few_records : (bytes : List ℕ) → length (records bytes) ≤ length bytes + 1
few_records bytes =
    let text = without_mark bytes in
    let parts = slice_split (λ b. b == 10) text in
    omega (
      arith,
      length-filter (λ (line : ℕ × List ℕ). is_record line.1) (enumerate_from 1 (lines text)),
      count_by-le-length (λ (line : ℕ × List ℕ). is_record line.1) (enumerate_from 1 (lines text)),
      length-enumerate_from 1 (lines text),
      lines-short parts,
      length-slice_split (λ b. b == 10) text,
      count_by-le-length (λ b. b == 10) text,
      unmarked-short bytes,
    )

-- ---- accepted and refused

pub length_answers : (lines : List (ℕ × List ℕ)) (sheet : BalanceSheet) → length (answers lines sheet) ≡ length lines
length_answers [] sheet = refl
length_answers (line ∷ lines) sheet =
    ap suc (length_answers lines (after (recorded line.1 sheet) sheet))

pub accepted-next : (reply : Reply) (replies : List Reply) → accepted (reply ∷ replies) ≡ cond (is_ok reply.1) 1 0 + accepted replies
accepted-next reply replies = sum_by-cons (λ (r : Reply). cond (is_ok r.1) 1 0) reply replies

one_more : (a n : ℕ) → nat_lt (1 + a) (suc n) ≡ nat_lt a n
one_more a n = go (nat_lt a n) refl
  where
    go : (b : Bool) → nat_lt a n ≡ b → nat_lt (1 + a) (suc n) ≡ nat_lt a n
    go true e = lt-ltb (1 + a) (suc n) (omega (arith, ltb-true a n e)) ∙ sym e
    go false e = le-ltb (1 + a) (suc n) (omega (arith, ltb-false a n e)) ∙ sym e

-- some record is refused where fewer are accepted than there are
pub fewer_accepted : (replies : List Reply) → nat_lt (accepted replies) (length replies) ≡ any_refused replies
fewer_accepted [] = refl
fewer_accepted (reply ∷ replies) =
    ap (λ n. nat_lt n (suc (length replies))) (accepted-next reply replies) ∙ go reply.1 (fewer_accepted replies)
  where
    go : (answer : Result BalanceSheet Fault) → nat_lt (accepted replies) (length replies) ≡ any_refused replies
        → nat_lt (cond (is_ok answer) 1 0 + accepted replies) (suc (length replies)) ≡ (is_err answer || any_refused replies)
    go (Ok sheet) e = one_more (accepted replies) (length replies) ∙ e
    go (Err fault) e = lt-ltb _ _ (omega (arith, count_by-le-length (λ (r : Reply). is_ok r.1) replies))

-- ---- the summary

module _ (line : BalanceSheet → List ℕ) (number : ℕ) (script : List ℕ) (sheet : BalanceSheet) (counted taken : ℕ)
    (is_counted : counted ≡ length (records script)) (is_taken : taken ≡ accepted (answers (records script) sheet)) where
  pub summed_up : (before counts with_book with_edits whole book last : List ℕ) → before ≡ []
      → counts ≡ before ++ counts_text number → with_book ≡ counts ++ book_line book
      → with_edits ≡ with_book ++ edits_line counted taken → whole ≡ with_edits ++ last_line last
      → book ≡ line sheet → last ≡ line (left_by sheet (answers (records script) sheet))
      → whole ≡ summary_text line number script sheet
  unfolding summary_text
  summed_up before counts with_book with_edits whole book last e f g h k is_book is_last =
      let first : counts ≡ counts_text number = f ∙ ap (λ (x : List ℕ). x ++ counts_text number) e in
      let second : with_book ≡ counts_text number ++ book_line (line sheet) =
      g ∙ ap₂ (λ (x y : List ℕ). x ++ book_line y) first is_book in
      let third : with_edits ≡ (counts_text number ++ book_line (line sheet)) ++ edits_line (length (records script)) (accepted (answers (records script) sheet)) =
      h ∙ (λ i. second i ++ edits_line (is_counted i) (is_taken i)) in
      k ∙ ap₂ (λ (x y : List ℕ). x ++ last_line y) third is_last

  pub refusal_is : nat_lt taken counted ≡ any_refused (answers (records script) sheet)
  refusal_is =
      ap₂ nat_lt is_taken (is_counted ∙ sym (length_answers (records script) sheet))
      ∙ fewer_accepted (answers (records script) sheet)
