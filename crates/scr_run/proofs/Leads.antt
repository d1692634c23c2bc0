-- Where the plan of a report leads by the contents of its files.
use Rattle.std.proofs.Common.{◌≡◌, ℕ, List, Result, Ok, Err, ap, ◌∙◌}
use Rattle.scr_cells.specs.Block.{block_text}
use Rattle.scr_csv.specs.Lines.{records}
use Rattle.scr_factors.specs.Values.{FactorValues}
use Rattle.scr_io.specs.Content.{Content, Holds}
use Rattle.scr_obligations.specs.Outcome.{outcome, outcome_at}
use Rattle.scr_obligations.specs.Outcome.Outcome.{Ends, Tells}
use Rattle.scr_obligations.specs.Plan.{Plan, ask, unless_refused}
use Rattle.scr_sheet.specs.declared.sheet.BalanceSheet.{BalanceSheet}
use Rattle.scr_run.specs.Plans.{Names, book_plan, ended_status, made_plan, plan_on, report_plan, told}
use Rattle.scr_run.specs.Readings.{book_in, edits_in, factors_in}
use Rattle.scr_run.specs.Report.{answers, any_refused, report_text}
use Rattle.scr_run.specs.declared.status.Status.{Status}

module _ {V : Type 0} (name : List ℕ) (reading : List ℕ → Result V Status) (rest : V → Plan Status)
    (content : List ℕ → Content) (bytes : List ℕ) (there : content name ≡ Holds bytes) where
  -- the file's bytes say where the plan leads
  by_bytes : outcome (ask name reading rest) content ≡ outcome (unless_refused rest (reading bytes)) content
  by_bytes = ap (outcome_at (λ b. outcome (unless_refused rest (reading b)) content)) there

  passes : (value : V) → reading bytes ≡ Ok value
      → outcome (ask name reading rest) content ≡ outcome (rest value) content
  passes value e = by_bytes ∙ ap (λ r. outcome (unless_refused rest r) content) e

  stops : (due : Status) → reading bytes ≡ Err due → outcome (ask name reading rest) content ≡ Ends due
  stops due e = by_bytes ∙ ap (λ r. outcome (unless_refused rest r) content) e

module _ (names : Names) (content : List ℕ → Content) (factors : List ℕ)
    (has_factors : content names.factors ≡ Holds factors) where
  pub factors_stop : (due : Status) → factors_in factors ≡ Err due → outcome (report_plan names) content ≡ Ends due
  unfolding report_plan
  factors_stop due e = stops names.factors factors_in _ content factors has_factors due e

  module _ (book : List ℕ) (values : FactorValues) (are_values : factors_in factors ≡ Ok values)
      (has_book : content names.book ≡ Holds book) where
    pub book_stops : (due : Status) → book_in book ≡ Err due → outcome (report_plan names) content ≡ Ends due
    unfolding report_plan
    book_stops due e =
        passes names.factors factors_in (λ values. ask names.book book_in
        (plan_on values names.edits)) content factors has_factors values are_values
        ∙ stops names.book book_in (plan_on values names.edits) content book has_book due e

    module _ (edits : List ℕ) (sheet : BalanceSheet) (is_sheet : book_in book ≡ Ok sheet)
        (has_edits : content names.edits ≡ Holds edits) where
      to_edits : outcome (report_plan names) content ≡ outcome (ask names.edits edits_in (told values sheet)) content
      unfolding report_plan plan_on
      to_edits =
          passes names.factors factors_in (λ values. ask names.book book_in
          (plan_on values names.edits)) content factors has_factors values are_values
          ∙ passes names.book book_in (plan_on values names.edits) content book has_book sheet is_sheet

      pub edits_stop : (due : Status) → edits_in edits ≡ Err due → outcome (report_plan names) content ≡ Ends due
      edits_stop due e = to_edits ∙ stops names.edits edits_in (told values sheet) content edits has_edits due e

      pub report_told : (script : List ℕ) → edits_in edits ≡ Ok script
          → outcome (report_plan names) content ≡ Tells (ended_status (any_refused (answers (records script) sheet)))
          (report_text (block_text values) script sheet)
      unfolding told
      report_told script e = to_edits ∙ passes names.edits edits_in (told values sheet) content edits has_edits script e

-- ---- a made book

module _ (name : List ℕ) (number : ℕ) (content : List ℕ → Content) (factors : List ℕ)
    (there : content name ≡ Holds factors) where
  pub made_stops : (due : Status) → factors_in factors ≡ Err due → outcome (made_plan name number) content ≡ Ends due
  unfolding made_plan
  made_stops due e = stops name factors_in (book_plan number) content factors there due e

  pub made_goes_on : (values : FactorValues) → factors_in factors ≡ Ok values
      → outcome (made_plan name number) content ≡ outcome (book_plan number values) content
  unfolding made_plan
  made_goes_on values e = passes name factors_in (book_plan number) content factors there values e
