-- How far the report was written, as what its plan owes.
use Rattle.std.proofs.Common.{◌≡◌, Bool, true, false, ℕ, List, Option, None, Ok, Err, refl, sym, ap, subst}
use Rattle.scr_cells.specs.Block.{block_text}
use Rattle.scr_csv.specs.Lines.{records}
use Rattle.scr_factors.specs.Values.{FactorValues}
use Rattle.scr_obligations.specs.Moment.{Answer, Shelved, Sunk}
use Rattle.scr_obligations.specs.Moment.Cause.{Memory, Writing}
use Rattle.scr_obligations.specs.Moment.Answer.{GaveUp}
use Rattle.scr_obligations.specs.Plan.{Plan}
use Rattle.scr_obligations.specs.Plan.Plan.{Tell}
use Rattle.scr_args.specs.Forms.{Said}
use Rattle.scr_obligations.specs.Owes.{Owes}
use Rattle.scr_sheet.specs.declared.sheet.BalanceSheet.{BalanceSheet}
use Rattle.scr_run.specs.Plans.{ended_status, plan_of, told}
use Rattle.scr_run.specs.Report.{answers, any_refused, report_text}
use Rattle.scr_run.specs.Statuses.{answer_of}
use Rattle.scr_run.specs.Writing.{WritesText}
use Rattle.scr_run.specs.declared.report.WriteFault.{WriteFault}
use Rattle.scr_run.specs.declared.report.WriteFault.TheVariants as faults
use Rattle.scr_run.specs.declared.status.Status.{Status}
use Rattle.scr_run.specs.declared.status.Status.TheVariants as statuses

-- words that have no form end the run
pub unusable : (words : Option Said) (shelf : Shelved) (sink : Sunk) → words ≡ None
    → Owes (plan_of words) shelf shelf sink sink (answer_of statuses.Usage)
unfolding Owes
unusable words shelf sink e =
    subst (λ n. Owes (plan_of n) shelf shelf sink sink (answer_of statuses.Usage)) (sym e) (refl, refl, refl)

-- how far a text was written whose status says whether a record was refused
module _ (text : List ℕ) (due : Bool) (shelf : Shelved) (old new : Sunk) where
  abbrev plan : Plan Status
  plan = Tell (ended_status due) text

  ended : (refused : Bool) → WritesText {A = Bool} text old new (Ok refused) → refused ≡ due
      → Owes plan shelf shelf old new (answer_of (ended_status refused))
  unfolding Owes
  ended true written e = (ap ended_status e, refl, written.0, written.1)
  ended false written e = (ap ended_status e, refl, written.0, written.1)

  -- the whole text was written
  pub whole_text : (refused : Bool) (status : Status) → status ≡ ended_status refused
      → WritesText {A = Bool} text old new (Ok refused) → refused ≡ due
      → Owes plan shelf shelf old new (answer_of status)
  whole_text refused status is_status written e =
      subst (λ s. Owes plan shelf shelf old new (answer_of s)) (sym is_status) (ended refused written e)

  cut : WritesText {A = Bool} text old new (Err faults.Failed) → Owes plan shelf shelf old new (GaveUp Writing)
  unfolding Owes
  cut written = (refl, written.0, written.1)

  short : WritesText {A = Bool} text old new (Err faults.NoMemory) → Owes plan shelf shelf old new (GaveUp Memory)
  unfolding Owes
  short written = (refl, written.0, written.1)

  -- a write failed
  pub cut_text : (fault : WriteFault) → fault ≡ faults.Failed → WritesText {A = Bool} text old new (Err fault)
      → Owes plan shelf shelf old new (GaveUp Writing)
  cut_text fault is_fault written =
      cut (subst (λ f. WritesText {A = Bool} text old new (Err f)) is_fault written)

  -- memory was refused
  pub short_text : (fault : WriteFault) → fault ≡ faults.NoMemory → WritesText {A = Bool} text old new (Err fault)
      → Owes plan shelf shelf old new (GaveUp Memory)
  short_text fault is_fault written =
      short (subst (λ f. WritesText {A = Bool} text old new (Err f)) is_fault written)

-- the report, on edits that were read
module _ (values : FactorValues) (sheet : BalanceSheet) (shelf : Shelved) (old new : Sunk) (edits seen : List ℕ)
    (is_seen : seen ≡ edits) where
  abbrev report : List ℕ
  report = report_text (block_text values) seen sheet

  abbrev due : Bool
  due = any_refused (answers (records seen) sheet)

  on_edits : (answer : Answer Status) → Owes (Tell (ended_status due) report) shelf shelf old new answer
      → Owes (told values sheet edits) shelf shelf old new answer
  unfolding told
  on_edits answer owed = subst (λ es. Owes (told values sheet es) shelf shelf old new answer) is_seen owed

  pub whole_told : (refused : Bool) (status : Status) → status ≡ ended_status refused
      → WritesText {A = Bool} report old new (Ok refused) → refused ≡ due
      → Owes (told values sheet edits) shelf shelf old new (answer_of status)
  whole_told refused status is_status written e =
      on_edits (answer_of status) (whole_text report due shelf old new refused status is_status written e)

  pub cut_told : (fault : WriteFault) → fault ≡ faults.Failed → WritesText {A = Bool} report old new (Err fault)
      → Owes (told values sheet edits) shelf shelf old new (GaveUp Writing)
  cut_told fault is_fault written =
      on_edits (GaveUp Writing) (cut_text report due shelf old new fault is_fault written)

  pub short_told : (fault : WriteFault) → fault ≡ faults.NoMemory → WritesText {A = Bool} report old new (Err fault)
      → Owes (told values sheet edits) shelf shelf old new (GaveUp Memory)
  short_told fault is_fault written =
      on_edits (GaveUp Memory) (short_text report due shelf old new fault is_fault written)
