-- What is kept of a record of which a list is too long (this project's own).
use Rattle.std.specs.Prelude.{ℕ, ◌+◌, List, take}
use Rattle.scr_dates.specs.Text.{day_of_text}
use Rattle.scr_profile.specs.declared.limits.TheConstants.{MAX_RATES, MAX_FLOWS, MAX_FUND_COMPONENTS}
use Rattle.scr_sheet.specs.declared.edit.Edit.{Edit}
use Rattle.scr_sheet.specs.declared.edit.Edit.TheVariants as edits
use Rattle.scr_fields.specs.FieldForms.{name_of, currency_of}
use Rattle.scr_fields.specs.Words.{value_of, projection_word, all_projections}
use Rattle.scr_csv.specs.declared.verb.Verb.{Verb}
use Rattle.scr_csv.specs.declared.verb.Verb.TheVariants as verbs
use Rattle.scr_csv.specs.Reading.{◌>>=◌, next, numbers_from, pairs_from, made}
use Rattle.scr_csv.specs.Records.{Record, record_of}
use Rattle.scr_csv.specs.Verbs.{verb_word, all_verbs}

-- The members of a list up to the first that is one too many, where it may have so many: all that it may be refused for
-- is among these.
abbrev pub kept_members : {A : Type 0} → ℕ → List A → List A
kept_members most members = take (most + 1) members

-- a record whose list is cut so; a record whose list is not too long is the record itself
abbrev pub kept : Edit → Edit
kept (edits.Curve currency rates) = edits.Curve currency (kept_members MAX_RATES rates)
kept (edits.Flows security flows) = edits.Flows security (kept_members MAX_FLOWS flows)
kept (edits.Fund name components) = edits.Fund name (kept_members MAX_FUND_COMPONENTS components)
kept (edits.LiabilityFlows liability projection flows) = edits.LiabilityFlows liability projection
    (kept_members MAX_FLOWS flows)
kept edit = edit

-- ---- the same, as the fields are read

abbrev pub kept_curve_record : Record
kept_curve_record = do
  currency ← next currency_of
  (λ rest. made (edits.Curve currency) (made (kept_members MAX_RATES) (numbers_from rest.number rest.fields)))

abbrev pub kept_flows_record : Record
kept_flows_record = do
  security ← next name_of
  (λ rest. made (edits.Flows security) (made (kept_members MAX_FLOWS) (pairs_from day_of_text rest.number rest.fields)))

abbrev pub kept_fund_record : Record
kept_fund_record = do
  name ← next name_of
  (λ rest. made (edits.Fund name) (made (kept_members MAX_FUND_COMPONENTS)
      (pairs_from name_of rest.number rest.fields)))

abbrev pub kept_liability_flows_record : Record
kept_liability_flows_record = do
  line ← next name_of
  projection ← next (value_of projection_word all_projections)
  (λ rest. made (edits.LiabilityFlows line projection) (made (kept_members MAX_FLOWS)
      (pairs_from day_of_text rest.number rest.fields)))

abbrev pub kept_record_of : Verb → Record
kept_record_of verbs.Curve = kept_curve_record
kept_record_of verbs.Flows = kept_flows_record
kept_record_of verbs.Fund = kept_fund_record
kept_record_of verbs.LiabilityFlows = kept_liability_flows_record
kept_record_of verb = record_of verb

unfoldable pub any_kept_record : Record
any_kept_record = do
  verb ← next (value_of verb_word all_verbs)
  kept_record_of verb
