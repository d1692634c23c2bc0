-- The fields of each verb's record, in their order, and the record that a line spells (this project's own).
use Rattle.std.specs.Prelude.{ℕ, List, Result, Err, if◌then◌else◌}
use Rattle.std.specs.List.{list_all}
use Rattle.scr_dates.specs.Text.{day_of_text}
use Rattle.scr_sheet.specs.declared.edit.Edit.{Edit}
use Rattle.scr_sheet.specs.declared.edit.Edit.TheVariants as edits
use Rattle.scr_csv.specs.declared.{fault.LineFault.LineFault, verb.Verb.Verb}
use Rattle.scr_csv.specs.declared.fault.LineFault.TheVariants.{Syntax}
use Rattle.scr_csv.specs.declared.verb.Verb.TheVariants as verbs
use Rattle.scr_fields.specs.FieldForms.{name_of, currency_of, group_of, step_of, segment_of, region_of, absorb_key_of}
use Rattle.scr_csv.specs.LineFields.{line_fields, is_printed}
use Rattle.scr_fields.specs.Numbers.{number_value}
use Rattle.scr_csv.specs.Reading.{Rest, ◌>>=◌, next, only, numbers_from, pairs_from, made}
use Rattle.scr_fields.specs.Words.{value_of, table_word, all_tables, group_kind_word, all_group_kinds, class_word, all_classes, liability_kind_word, all_liability_kinds, projection_word, all_projections, set_word, all_sets, cat_key_word, all_cat_keys}
use Rattle.scr_csv.specs.Verbs.{verb_word, all_verbs}

-- what follows the verb: the fields that make the record
abbrev pub Record : Type 0
Record = Rest → Result Edit LineFault

abbrev pub asof_record : Record
asof_record = do
  date ← next day_of_text
  currency ← next currency_of
  only (edits.Asof date currency)

abbrev pub curve_record : Record
curve_record = do
  currency ← next currency_of
  (λ rest. made (edits.Curve currency) (numbers_from rest.number rest.fields))

abbrev pub group_record : Record
group_record = do
  name ← next name_of
  kind ← next (value_of group_kind_word all_group_kinds)
  step ← next step_of
  only (edits.Group name kind step)

abbrev pub security_record : Record
security_record = do
  name ← next name_of
  class ← next (value_of class_word all_classes)
  group ← next group_of
  currency ← next currency_of
  duration ← next number_value
  only (edits.Security name class group currency duration)

abbrev pub flows_record : Record
flows_record = do
  security ← next name_of
  (λ rest. made (edits.Flows security) (pairs_from day_of_text rest.number rest.fields))

abbrev pub fund_record : Record
fund_record = do
  name ← next name_of
  (λ rest. made (edits.Fund name) (pairs_from name_of rest.number rest.fields))

abbrev pub hold_record : Record
hold_record = do
  name ← next name_of
  cents ← next number_value
  only (edits.Hold name cents)

abbrev pub liability_record : Record
liability_record = do
  name ← next name_of
  kind ← next (value_of liability_kind_word all_liability_kinds)
  currency ← next currency_of
  only (edits.Liability name kind currency)

abbrev pub liability_flows_record : Record
liability_flows_record = do
  line ← next name_of
  projection ← next (value_of projection_word all_projections)
  (λ rest. made (edits.LiabilityFlows line projection) (pairs_from day_of_text rest.number rest.fields))

abbrev pub absorb_record : Record
absorb_record = do
  key ← next absorb_key_of
  cents ← next number_value
  only (edits.Absorb key cents)

abbrev pub segment_record : Record
segment_record = do
  set ← next (value_of set_word all_sets)
  number ← next (segment_of set)
  region ← next region_of
  premium ← next number_value
  reserve ← next number_value
  only (edits.Segment set number region premium reserve)

abbrev pub cat_record : Record
cat_record = do
  key ← next (value_of cat_key_word all_cat_keys)
  cents ← next number_value
  only (edits.Cat key cents)

abbrev pub lapse_record : Record
lapse_record = do
  set ← next (value_of set_word all_sets)
  cents ← next number_value
  only (edits.Lapse set cents)

abbrev pub rein_record : Record
rein_record = do
  name ← next name_of
  group ← next name_of
  recoverables ← next number_value
  mitigation ← next number_value
  collateral ← next number_value
  only (edits.Rein name group recoverables mitigation collateral)

abbrev pub bank_record : Record
bank_record = do
  name ← next name_of
  group ← next name_of
  cents ← next number_value
  only (edits.Bank name group cents)

abbrev pub due_record : Record
due_record = do
  overdue ← next number_value
  other ← next number_value
  only (edits.Due overdue other)

abbrev pub op_record : Record
op_record = do
  tpl ← next number_value
  tpul ← next number_value
  tpn ← next number_value
  el ← next number_value
  eul ← next number_value
  pel ← next number_value
  peul ← next number_value
  en ← next number_value
  pen ← next number_value
  expul ← next number_value
  only (edits.Op tpl tpul tpn el eul pel peul en pen expul)

abbrev pub sym_record : Record
sym_record = do
  millionths ← next number_value
  only (edits.Sym millionths)

abbrev pub tax_record : Record
tax_record = do
  millionths ← next number_value
  most ← next number_value
  only (edits.Tax millionths most)

abbrev pub fdb_record : Record
fdb_record = do
  cents ← next number_value
  only (edits.Fdb cents)

abbrev pub intangible_record : Record
intangible_record = do
  cents ← next number_value
  only (edits.Intangible cents)

abbrev pub remove_record : Record
remove_record = do
  table ← next (value_of table_word all_tables)
  name ← next name_of
  only (edits.Remove table name)

abbrev pub record_of : Verb → Record
record_of verbs.Asof = asof_record
record_of verbs.Curve = curve_record
record_of verbs.Group = group_record
record_of verbs.Security = security_record
record_of verbs.Flows = flows_record
record_of verbs.Fund = fund_record
record_of verbs.Hold = hold_record
record_of verbs.Liability = liability_record
record_of verbs.LiabilityFlows = liability_flows_record
record_of verbs.Absorb = absorb_record
record_of verbs.Segment = segment_record
record_of verbs.Cat = cat_record
record_of verbs.Lapse = lapse_record
record_of verbs.Rein = rein_record
record_of verbs.Bank = bank_record
record_of verbs.Due = due_record
record_of verbs.Op = op_record
record_of verbs.Sym = sym_record
record_of verbs.Tax = tax_record
record_of verbs.Fdb = fdb_record
record_of verbs.Intangible = intangible_record
record_of verbs.Remove = remove_record

-- the verb is the first field, and the number of its fault is 0
unfoldable pub any_record : Record
any_record = do
  verb ← next (value_of verb_word all_verbs)
  record_of verb

-- the record that a line spells, or its first fault
abbrev pub edit_of_line : List ℕ → Result Edit LineFault
edit_of_line text = if list_all is_printed text then any_record
    (record { number = 0; fields = line_fields text }) else Err (Syntax 0)
