-- What the texts of records are read as that are all accepted: the sheet that they leave, and no refusal.
use Rattle.std.proofs.Common.{◌≡◌, ◌∙◌, ◌≤◌, ◌⊎◌, ℕ, false, if◌then◌else◌, List, [], ◌∷◌, length, map, Result, Ok, Err, inl, inr, refl, sym, ap, subst, arith}
use Rattle.std.proofs.lemmas.Bool.{le-leb}
use Rattle.std.proofs.lemmas.List.{length-map}
use Rattle.scr_csv.specs.Lines.{records}
use Rattle.scr_csv.specs.Records.{edit_of_line}
use Rattle.scr_csv.specs.declared.fault.LineFault.{LineFault}
use Rattle.scr_factors.specs.Values.{FactorValues}
use Rattle.scr_io.specs.Content.{Absent, Content, Holds, Untold}
use Rattle.scr_io.specs.declared.reading.TheConstants.{MAX_BYTES}
use Rattle.scr_made.specs.Made.{book_text, made_book}
use Rattle.scr_made.specs.ReadBack.{edits_read}
use Rattle.scr_obligations.specs.Outcome.{Calls}
use Rattle.scr_obligations.specs.Owes.{Allows}
use Rattle.scr_obligations.specs.Plan.{and_then, unless_refused}
use Rattle.scr_obligations.specs.Plan.Plan.{Tell}
use Rattle.scr_sheet.specs.BalanceSheet.{opening}
use Rattle.scr_sheet.specs.Records.{applied}
use Rattle.scr_sheet.specs.declared.{edit.Edit.Edit, sheet.BalanceSheet.BalanceSheet}
use Rattle.scr_made.specs.Accepted.{AreAccepted, IsSound, sheet_after}
use Rattle.scr_run.proofs.ScriptSteps.{accepted-next}
use Rattle.scr_run.specs.BookFile.{and_then_lines, read_edit, recorded, sheet_from, sheet_of, unless_faulty}
use Rattle.scr_run.specs.Plans.{book_plan}
use Rattle.scr_run.specs.Readings.{book_in, bytes_in, edits_in, factors_in, sheet_or_fault, too_long_of}
use Rattle.scr_run.specs.Report.{after, answers, any_refused}
use Rattle.scr_run.specs.Summary.{accepted}
use Rattle.scr_run.specs.declared.files.Role.{Role}
use Rattle.scr_run.specs.declared.files.Role.TheVariants as roles
use Rattle.scr_run.specs.declared.status.Status.{Status}
use Rattle.scr_run.specs.declared.status.Status.TheVariants as statuses

-- ---- lines that are read as records, each of them accepted

abbrev reads_of : List (ℕ × List ℕ) → List (Result Edit LineFault)
reads_of lines = map (λ line. edit_of_line line.1) lines

head_read : (line : ℕ × List ℕ) (lines : List (ℕ × List ℕ)) (edit : Edit) (edits : List Edit)
    → reads_of (line ∷ lines) ≡ map Ok (edit ∷ edits) → (edit_of_line line.1 ≡ Ok edit) × (reads_of lines ≡ map Ok edits)
head_read line lines edit edits e = (cc, cc)

recorded_is : (text : List ℕ) (edit : Edit) (sheet : BalanceSheet) → edit_of_line text ≡ Ok edit → IsSound edit sheet
    → recorded text sheet ≡ Ok (applied edit sheet)
unfolding recorded IsSound
recorded_is text edit sheet e sound =
    ap (λ read. read_edit read sheet) e ∙ ap (λ fault. unless_faulty fault (applied edit sheet)) sound

book_read : (lines : List (ℕ × List ℕ)) (edits : List Edit) (sheet : BalanceSheet) → reads_of lines ≡ map Ok edits
    → AreAccepted edits sheet → sheet_from lines sheet ≡ Ok (sheet_after edits sheet)
book_read [] [] sheet e all = refl
book_read [] (edit ∷ edits) sheet e all = absurd (cc)
book_read (line ∷ lines) [] sheet e all = absurd (cc)
book_read (line ∷ lines) (edit ∷ edits) sheet e all =
    let both = head_read line lines edit edits e in
    ap (and_then_lines line.0 (sheet_from lines)) (recorded_is line.1 edit sheet both.0 all.0)
    ∙ book_read lines edits (applied edit sheet) both.1 all.1

answers-next : (line : ℕ × List ℕ) (lines : List (ℕ × List ℕ)) (sheet now : BalanceSheet) → recorded line.1 sheet ≡ Ok now
    → answers (line ∷ lines) sheet ≡ (line.0, Ok now) ∷ answers lines now
answers-next line lines sheet now e = ap (λ read. (line.0, read) ∷ answers lines (after read sheet)) e

pub none_refused : (lines : List (ℕ × List ℕ)) (edits : List Edit) (sheet : BalanceSheet) → reads_of lines ≡ map Ok edits
    → AreAccepted edits sheet → any_refused (answers lines sheet) ≡ false
none_refused [] [] sheet e all = refl
none_refused [] (edit ∷ edits) sheet e all = absurd (cc)
none_refused (line ∷ lines) [] sheet e all = absurd (cc)
none_refused (line ∷ lines) (edit ∷ edits) sheet e all =
    let both = head_read line lines edit edits e in
    ap any_refused (answers-next line lines sheet (applied edit sheet) (recorded_is line.1 edit sheet both.0 all.0))
    ∙ none_refused lines edits (applied edit sheet) both.1 all.1

pub all_accepted : (lines : List (ℕ × List ℕ)) (edits : List Edit) (sheet : BalanceSheet) → reads_of lines ≡ map Ok edits
    → AreAccepted edits sheet → accepted (answers lines sheet) ≡ length edits
all_accepted [] [] sheet e all = refl
all_accepted [] (edit ∷ edits) sheet e all = absurd (cc)
all_accepted (line ∷ lines) [] sheet e all = absurd (cc)
all_accepted (line ∷ lines) (edit ∷ edits) sheet e all =
    let both = head_read line lines edit edits e in
    let now = applied edit sheet in
    let rest = all_accepted lines edits now both.1 all.1 in
    let next = ap accepted (answers-next line lines sheet now (recorded_is line.1 edit sheet both.0 all.0)) in
    omega (arith, next, rest, accepted-next (line.0, Ok now) (answers lines now))

pub as_many : (lines : List (ℕ × List ℕ)) (edits : List Edit) → reads_of lines ≡ map Ok edits → length lines ≡ length edits
as_many lines edits e = sym (length-map lines (λ line. edit_of_line line.1)) ∙ ap length e ∙ length-map edits Ok

-- ---- texts within the limit of a file

within_limit : (role : Role) (bytes : List ℕ) → length bytes ≤ 67_108_864 → bytes_in role bytes ≡ Ok bytes
within_limit role bytes h =
    ap (λ t. if t then Ok bytes else Err (too_long_of role)) (le-leb (length bytes) MAX_BYTES h)

pub made_book_in : (number : ℕ) → edits_read (book_text number) ≡ map Ok (made_book number)
    → AreAccepted (made_book number) opening → length (book_text number) ≤ 67_108_864
    → book_in (book_text number) ≡ Ok (sheet_after (made_book number) opening)
unfolding sheet_of
made_book_in number read all short =
    ap (and_then (λ bytes. sheet_or_fault (sheet_of bytes))) (within_limit roles.Book (book_text number) short)
    ∙ ap sheet_or_fault (book_read (records (book_text number)) (made_book number) opening read all)

pub script_in : (script : List ℕ) → length script ≤ 67_108_864 → edits_in script ≡ Ok script
script_in script short = within_limit roles.Edits script short

-- ---- the statuses that are called for

module _ (number : ℕ) (text : FactorValues → List ℕ)
    (plan : (values : FactorValues) → book_plan number values ≡ Tell statuses.Done (text values))
    (content : List ℕ → Content) (status : Status) where
  -- the status is Done, or one that a factor file calls for
  abbrev Known : Type 0
  Known = (status ≡ statuses.Done) ⊎ ((factors : List ℕ) × (factors_in factors ≡ Err status))

  at_bytes : (bytes : List ℕ) → Calls (unless_refused (book_plan number) (factors_in bytes)) content status → Known
  at_bytes bytes h = by (factors_in bytes) refl h
    where
      by : (read : Result FactorValues Status) → factors_in bytes ≡ read
          → Calls (unless_refused (book_plan number) read) content status → Known
      by (Ok values) e h = inl (subst (λ p. Calls p content status) (plan values) h)
      by (Err due) e h = let same : status ≡ due = h in inr (bytes, e ∙ ap Err (sym same))

  pub at_content : (found : Content)
      → Allows found (λ bytes. Calls (unless_refused (book_plan number) (factors_in bytes)) content status) → Known
  at_content Untold h = at_bytes h.0 h.1
  at_content Absent h = absurd h
  at_content (Holds bytes) h = at_bytes bytes h
