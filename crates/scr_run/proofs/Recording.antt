-- What the code answers to a record, by what the book answers.
use Rattle.std.proofs.Common.{◌≡◌, ℕ, List, Option, Some, None, Result, Ok, Err, OnOk, OnErr, refl, sym, ap, subst, ◌∙◌}
use Rattle.scr_csv.specs.declared.fault.LineFault.{LineFault}
use Rattle.scr_csv.specs.declared.fault.LineFault.TheVariants.{Syntax}
use Rattle.scr_csv.specs.Kept.{kept}
use Rattle.scr_csv.specs.Reading.{made, Answers as Reads}
use Rattle.scr_csv.specs.Records.{edit_of_line}
use Rattle.scr_csv.proofs.Keeping.{kept_faults, kept_whole, list_first}
use Rattle.scr_sheet.specs.Faults.{Answers, fault_of, list_fault}
use Rattle.scr_sheet.specs.Records.{applied}
use Rattle.scr_sheet.specs.declared.edit.Edit.{Edit}
use Rattle.scr_sheet.specs.declared.fault.Fault.{Fault}
use Rattle.scr_sheet.specs.declared.fault.Fault.TheVariants as faults
use Rattle.scr_sheet.specs.declared.sheet.BalanceSheet.{BalanceSheet}
use Rattle.scr_tree.specs.Standing.{HasSheet, IsAfter, IsAsBefore, Standing, Refuses}
use Rattle.scr_tree.specs.declared.refusal.Refusal.{Refusal}
use Rattle.scr_tree.specs.declared.refusal.Refusal.TheVariants as refusals
use Rattle.scr_run.specs.BookAnswers.{Recorded, Replied}
use Rattle.scr_run.specs.BookFile.{read_edit, recorded, unless_faulty}

-- the record was applied, or its fault was told
applied_or_told : {A : Type 0} (due : Option Fault) (after old new : BalanceSheet) (result : Result A Fault)
    → Answers due result → OnOk result (new ≡ after) → OnErr result (new ≡ old)
    → Recorded (unless_faulty due after) old result new
applied_or_told due after old new (Ok done) answer ok err = ap (λ f. unless_faulty f after) answer ∙ ap Ok (sym ok)
applied_or_told due after old new (Err (faults.Syntax k)) answer ok err = (ap (λ f. unless_faulty f after) answer, err)
applied_or_told due after old new (Err (faults.UnknownName name)) answer ok err =
    (ap (λ f. unless_faulty f after) answer, err)
applied_or_told due after old new (Err (faults.WrongKind name)) answer ok err =
    (ap (λ f. unless_faulty f after) answer, err)
applied_or_told due after old new (Err (faults.InUse name user)) answer ok err =
    (ap (λ f. unless_faulty f after) answer, err)
applied_or_told due after old new (Err (faults.Cycle path)) answer ok err =
    (ap (λ f. unless_faulty f after) answer, err)
applied_or_told due after old new (Err (faults.Range quantity value limit)) answer ok err =
    (ap (λ f. unless_faulty f after) answer, err)
applied_or_told due after old new (Err faults.NoMemory) answer ok err = err

-- a record of which a list is cut makes of a balance sheet what the whole record makes of it
kept_makes : (whole : Edit) (sheet : BalanceSheet)
    → unless_faulty (fault_of (kept whole) sheet) (applied (kept whole) sheet)
    ≡ unless_faulty (fault_of whole sheet) (applied whole sheet)
kept_makes whole sheet = go (list_fault whole) refl
  where
    go : (o : Option Fault) → list_fault whole ≡ o
        → unless_faulty (fault_of (kept whole) sheet) (applied (kept whole) sheet)
        ≡ unless_faulty (fault_of whole sheet) (applied whole sheet)
    go None none = ap (λ edit. unless_faulty (fault_of edit sheet) (applied edit sheet)) (kept_whole whole none)
    go (Some fault) some =
        let first : fault_of whole sheet ≡ Some fault = list_first whole sheet fault some in
        ap (λ f. unless_faulty f (applied (kept whole) sheet)) (kept_faults whole sheet ∙ first)
        ∙ sym (ap (λ f. unless_faulty f (applied whole sheet)) first)

-- what a line makes of a balance sheet is what the record makes that is kept of it
recorded_kept : (text : List ℕ) (edit : Edit) (sheet : BalanceSheet) → made kept (edit_of_line text) ≡ Ok edit
    → recorded text sheet ≡ unless_faulty (fault_of edit sheet) (applied edit sheet)
unfolding recorded
recorded_kept text edit sheet e = go (edit_of_line text) e
  where
    go : (read : Result Edit LineFault) → made kept read ≡ Ok edit
        → read_edit read sheet ≡ unless_faulty (fault_of edit sheet) (applied edit sheet)
    go (Ok whole) h =
        let cut : ◌≡◌ {A = Result Edit LineFault} (Ok (kept whole)) (Ok edit) = h in
        let same : kept whole ≡ edit = cc in
        sym (kept_makes whole sheet) ∙ ap (λ e. unless_faulty (fault_of e sheet) (applied e sheet)) same
    go (Err fault) h = absurd (cc)

-- so does the book where the line is a record
pub of_record : {A : Type 0} (text : List ℕ) (edit : Edit) (old new : BalanceSheet) (result : Result A Fault)
    → made kept (edit_of_line text) ≡ Ok edit → Answers (fault_of edit old) result
    → OnOk result (new ≡ applied edit old) → OnErr result (new ≡ old)
    → Recorded (recorded text old) old result new
of_record text edit old new result e answer ok err =
    subst (λ due. Recorded due old result new) (sym (recorded_kept text edit old e))
    (applied_or_told (fault_of edit old) (applied edit old) old new result answer ok err)

-- and so does the engine
has_sheet : (edit : Edit) (old new : Standing) (result : Result (Unit {0}) Refusal) → OnOk result (IsAfter edit old new)
    → OnOk result (HasSheet (applied edit old.sheet) old new)
has_sheet edit old new (Ok done) is = record { factors = is.factors; sheet = is.sheet }
has_sheet edit old new (Err refusal) is = is

replied : (due : Option Fault) (after : BalanceSheet) (old new : Standing) (result : Result (Unit {0}) Refusal)
    → Refuses due result → OnOk result (HasSheet after old new) → OnErr result (IsAsBefore old new)
    → Replied (unless_faulty due after) old result new
replied due after old new (Ok done) answer ok err = (after, ap (λ f. unless_faulty f after) answer, ok)
replied due after old new (Err (refusals.Fault fault)) answer ok err = (ap (λ f. unless_faulty f after) answer, err)
replied due after old new (Err refusals.NoMemory) answer ok err = err

pub of_reply : (text : List ℕ) (edit : Edit) (old new : Standing) (result : Result (Unit {0}) Refusal)
    → made kept (edit_of_line text) ≡ Ok edit → Refuses (fault_of edit old.sheet) result
    → OnOk result (IsAfter edit old new) → OnErr result (IsAsBefore old new)
    → Replied (recorded text old.sheet) old result new
of_reply text edit old new result e answer ok err =
    subst (λ due. Replied due old result new) (sym (recorded_kept text edit old.sheet e))
    (replied (fault_of edit old.sheet) (applied edit old.sheet) old new result answer (has_sheet edit old new result ok) err)

-- a line that is no record has its fault
pub of_refusal : (text : List ℕ) (told : LineFault) (field : ℕ) (sheet : BalanceSheet)
    → Reads {A = Edit} (made kept (edit_of_line text)) (Err told) → told ≡ Syntax field
    → recorded text sheet ≡ Err (faults.Syntax field)
unfolding recorded
of_refusal text told field sheet answer same = go (edit_of_line text)
    (subst (λ fault. Reads {A = Edit} (made kept (edit_of_line text)) (Err fault)) same answer)
  where
    go : (read : Result Edit LineFault) → made kept read ≡ Err (Syntax field)
        → read_edit read sheet ≡ Err (faults.Syntax field)
    go (Ok whole) h = absurd (cc)
    go (Err due) h =
        let cut : ◌≡◌ {A = Result Edit LineFault} (Err due) (Err (Syntax field)) = h in
        let is : due ≡ Syntax field = cc in
        ap (λ f. read_edit (Err f) sheet) is
