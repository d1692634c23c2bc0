-- What a run on a made book owes.
use Rattle.std.proofs.Common.{◌≡◌, ◌∙◌, ℕ, List, Option, Some, Result, Ok, refl, sym, ap, ap₂, subst}
use Rattle.scr_cells.specs.Block.{requirement_line}
use Rattle.scr_csv.specs.Lines.{records}
use Rattle.scr_factors.specs.Values.{FactorValues}
use Rattle.scr_io.specs.Content.{Content}
use Rattle.scr_made.specs.Made.{book_text, script_text}
use Rattle.scr_obligations.proofs.AllPlans.{wants_memory}
use Rattle.scr_obligations.specs.Moment.{Answer, Shelved, Sunk}
use Rattle.scr_obligations.specs.Moment.Answer.{Due, GaveUp}
use Rattle.scr_obligations.specs.Moment.Cause.{Memory, Reading, Writing}
use Rattle.scr_obligations.specs.Outcome.{TellsNothing}
use Rattle.scr_obligations.specs.Owes.{Owes}
use Rattle.scr_obligations.specs.Plan.{Plan, unless_refused}
use Rattle.scr_obligations.specs.Plan.Plan.{Tell}
use Rattle.scr_sheet.specs.declared.sheet.BalanceSheet.{BalanceSheet}
use Rattle.scr_tree.specs.Standing.{Standing}
use Rattle.scr_args.specs.Forms.{Said}
use Rattle.scr_run.specs.Plans.{book_plan, ended_status, plan_of, script_plan, summed}
use Rattle.scr_run.specs.Readings.{CallsFor, book_in, edits_in}
use Rattle.scr_run.specs.Report.{answers, any_refused}
use Rattle.scr_run.specs.Summary.{summary_text}
use Rattle.scr_run.specs.declared.status.Status.{Status}

-- what is owed for what the words say
module _ (due : Option Said) (said : Said) (is : due ≡ Some said) where
  pub owed_by : (before now : Shelved) (old new : Sunk) (answer : Answer Status)
      → Owes (plan_of (Some said)) before now old new answer → Owes (plan_of due) before now old new answer
  owed_by before now old new answer h = subst (λ d. Owes (plan_of d) before now old new answer) (sym is) h

  pub silent_by : (content : List ℕ → Content) → TellsNothing (plan_of due) content
      → TellsNothing (plan_of (Some said)) content
  silent_by content h = subst (λ d. TellsNothing (plan_of d) content) is h

-- bytes at hand call for a status, or memory was refused
pub called_off : {V : Type 0} (rest : V → Plan Status) (due : Result V Status) (shelf : Shelved) (sink : Sunk)
    (answer : Answer Status) → CallsFor due answer → Owes (unless_refused rest due) shelf shelf sink sink answer
unfolding Owes
called_off rest due shelf sink (Due status) e =
    subst (λ r. Owes (unless_refused rest r) shelf shelf sink sink (Due status)) (sym e) (refl, refl, refl)
called_off rest due shelf sink (GaveUp Reading) h = absurd h
called_off rest due shelf sink (GaveUp Writing) h = absurd h
called_off rest due shelf sink (GaveUp Memory) h = wants_memory (unless_refused rest due) shelf sink

module _ (values : FactorValues) (number : ℕ) (script : List ℕ) (sheet : BalanceSheet)
    (reads : edits_in script ≡ Ok script) where
  script_told : script_plan values number script sheet
      ≡ Tell (ended_status (any_refused (answers (records script) sheet))) (summary_text (requirement_line values) number script sheet)
  unfolding script_plan summed
  script_told = ap (unless_refused (summed values number sheet)) reads

  pub on_script : (shelf : Shelved) (old new : Sunk) (answer : Answer Status)
      → Owes (Tell (ended_status (any_refused (answers (records script) sheet))) (summary_text (requirement_line values) number script sheet)) shelf shelf old new answer
      → Owes (script_plan values number script sheet) shelf shelf old new answer
  on_script shelf old new answer h = subst (λ plan. Owes plan shelf shelf old new answer) (sym script_told) h

  pub tells : (content : List ℕ → Content) → TellsNothing (script_plan values number script sheet) content → ⊥
  tells content h = subst (λ plan. TellsNothing plan content) script_told h

module _ (number : ℕ) (factors : FactorValues) (sheet : BalanceSheet) (script : List ℕ) (made : Standing)
    (has_factors : made.factors ≡ factors) (has_sheet : made.sheet ≡ sheet) (is_script : script ≡ script_text number)
    (reads : book_in (book_text number) ≡ Ok sheet) where
  goes_on_with : script_plan made.factors number script made.sheet ≡ book_plan number factors
  unfolding book_plan
  goes_on_with =
      ap₂ (λ values book. script_plan values number script book) has_factors has_sheet
      ∙ ap (λ s. script_plan factors number s sheet) is_script
      ∙ sym (ap (unless_refused (script_plan factors number (script_text number))) reads)

  pub owed_on : (shelf : Shelved) (old new : Sunk) (answer : Answer Status)
      → Owes (script_plan made.factors number script made.sheet) shelf shelf old new answer
      → Owes (book_plan number factors) shelf shelf old new answer
  owed_on shelf old new answer h = subst (λ plan. Owes plan shelf shelf old new answer) goes_on_with h

  pub silent_on : (content : List ℕ → Content) → TellsNothing (book_plan number factors) content
      → TellsNothing (script_plan made.factors number script made.sheet) content
  silent_on content h = subst (λ plan. TellsNothing plan content) (sym goes_on_with) h

-- a made book that calls for a status
pub book_off : (number : ℕ) (factors : FactorValues) (bytes : List ℕ) → bytes ≡ book_text number
    → (shelf : Shelved) (sink : Sunk) (answer : Answer Status) → CallsFor (book_in bytes) answer
    → Owes (book_plan number factors) shelf shelf sink sink answer
unfolding book_plan
book_off number factors bytes is shelf sink answer h =
    called_off (script_plan factors number (script_text number)) (book_in (book_text number)) shelf sink answer
    (subst (λ b. CallsFor (book_in b) answer) is h)

-- a script that calls for a status
pub script_off : (values : FactorValues) (number : ℕ) (script : List ℕ) (sheet : BalanceSheet)
    → (shelf : Shelved) (sink : Sunk) (answer : Answer Status) → CallsFor (edits_in script) answer
    → Owes (script_plan values number script sheet) shelf shelf sink sink answer
unfolding script_plan
script_off values number script sheet shelf sink answer h =
    called_off (summed values number sheet) (edits_in script) shelf sink answer h
