-- The plan of each form of words (this project's own): which files are read, in which order, and what is written.
use Rattle.std.specs.Prelude.{ℕ, List, Bool, true, false, Option, Some, None}
use Rattle.scr_csv.specs.Lines.{records}
use Rattle.scr_cells.specs.Block.{block_text, requirement_line}
use Rattle.scr_factors.specs.Values.{FactorValues}
use Rattle.scr_made.specs.Made.{book_text, script_text}
use Rattle.scr_sheet.specs.declared.sheet.BalanceSheet.{BalanceSheet}
use Rattle.scr_obligations.specs.Plan.{Plan, ask, unless_refused}
use Rattle.scr_obligations.specs.Plan.Plan.{End, Tell}
use Rattle.scr_run.specs.Readings.{factors_in, book_in, edits_in}
use Rattle.scr_run.specs.Report.{answers, any_refused, report_text}
use Rattle.scr_run.specs.Summary.{summary_text}
use Rattle.scr_run.specs.declared.status.Status.{Status}
use Rattle.scr_run.specs.declared.status.Status.TheVariants as statuses
use Rattle.scr_args.specs.Forms.{Said}

-- the status of a run whose text is whole
abbrev pub ended_status : Bool → Status
ended_status true = statuses.Refused
ended_status false = statuses.Done

-- ---- the report on files

-- the names of the files
pub record Names : Type 0 where
  pub factors : List ℕ
  pub book : List ℕ
  pub edits : List ℕ

-- the report on a book and its edits is written
unfoldable pub told : FactorValues → BalanceSheet → List ℕ → Plan Status
told values sheet edits = Tell (ended_status (any_refused (answers (records edits) sheet)))
    (report_text (block_text values) edits sheet)

-- the edits of a book are read
unfoldable pub plan_on : FactorValues → List ℕ → BalanceSheet → Plan Status
plan_on values edits_name sheet = ask edits_name edits_in (told values sheet)

-- `--factors`, `--book`, `--edits`
unfoldable pub report_plan : Names → Plan Status
report_plan names = ask names.factors factors_in (λ values. ask names.book book_in (plan_on values names.edits))

-- ---- the summary of a made book

-- the summary of a book and its script is written
unfoldable pub summed : FactorValues → ℕ → BalanceSheet → List ℕ → Plan Status
summed values number sheet script = Tell (ended_status (any_refused (answers (records script) sheet)))
    (summary_text (requirement_line values) number script sheet)

-- a script is read as the edits of a file are
unfoldable pub script_plan : FactorValues → ℕ → List ℕ → BalanceSheet → Plan Status
script_plan values number script sheet = unless_refused (summed values number sheet) (edits_in script)

-- the made book is read as that of a file is, and then its script
unfoldable pub book_plan : ℕ → FactorValues → Plan Status
book_plan number values = unless_refused (script_plan values number (script_text number)) (book_in (book_text number))

-- `--factors`, `--make`
unfoldable pub made_plan : List ℕ → ℕ → Plan Status
made_plan factors number = ask factors factors_in (book_plan number)

-- ---- the forms

-- words that have no form end the run
abbrev pub plan_of : Option Said → Plan Status
plan_of None = End statuses.Usage
plan_of (Some (Said.Files factors book edits workers)) = report_plan (record { factors = factors; book = book; edits = edits })
plan_of (Some (Said.Make factors number workers)) = made_plan factors number
