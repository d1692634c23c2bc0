-- How a record is written (this project's own): its verb, and then its fields in their order with a comma before each,
-- without quotes, and each number without leading zeros.
use Rattle.std.specs.Prelude.{ℕ, ℤ, pos, ◌++◌, ◌∷◌, List, [], map, flat_map}
use Rattle.scr_dates.specs.declared.day.Day.{Day}
use Rattle.scr_sheet.specs.declared.edit.Edit.{Edit}
use Rattle.scr_sheet.specs.declared.edit.Edit.TheVariants as edits
use Rattle.scr_fields.specs.KeyWords.{absorb_text}
use Rattle.scr_fields.specs.Texts.{number_text, day_text, or_dash, step_text}
use Rattle.scr_fields.specs.Words.{table_word, group_kind_word, class_word, liability_kind_word, projection_word, set_word, cat_key_word}
use Rattle.scr_csv.specs.declared.verb.Verb.{Verb}
use Rattle.scr_csv.specs.declared.verb.Verb.TheVariants as verbs
use Rattle.scr_csv.specs.Verbs.{verb_word}

abbrev pub flow_fields : List (Day × ℤ) → List (List ℕ)
flow_fields flows = flat_map (λ flow. day_text flow.0 ∷ number_text flow.1 ∷ []) flows

abbrev pub component_fields : List (List ℕ × ℤ) → List (List ℕ)
component_fields components = flat_map (λ component. component.0 ∷ number_text component.1 ∷ []) components

unfoldable pub next_field : List ℕ → List ℕ
next_field field = 44 ∷ field

unfoldable pub record_text : Verb → List (List ℕ) → List ℕ
record_text verb fields = verb_word verb ++ flat_map next_field fields

-- the verb of a record and the fields after it
abbrev pub edit_verb : Edit → Verb
edit_verb (edits.Asof date currency) = verbs.Asof
edit_verb (edits.Curve currency rates) = verbs.Curve
edit_verb (edits.Group name kind step) = verbs.Group
edit_verb (edits.Security name class group currency duration) = verbs.Security
edit_verb (edits.Flows security flows) = verbs.Flows
edit_verb (edits.Fund name components) = verbs.Fund
edit_verb (edits.Hold name cents) = verbs.Hold
edit_verb (edits.Liability name kind currency) = verbs.Liability
edit_verb (edits.LiabilityFlows liability projection flows) = verbs.LiabilityFlows
edit_verb (edits.Absorb key cents) = verbs.Absorb
edit_verb (edits.Segment set number region premium reserve) = verbs.Segment
edit_verb (edits.Cat key cents) = verbs.Cat
edit_verb (edits.Lapse set cents) = verbs.Lapse
edit_verb (edits.Rein name group recoverables mitigation collateral) = verbs.Rein
edit_verb (edits.Bank name group cents) = verbs.Bank
edit_verb (edits.Due overdue other) = verbs.Due
edit_verb (edits.Op tpl tpul tpn el eul pel peul en pen expul) = verbs.Op
edit_verb (edits.Sym millionths) = verbs.Sym
edit_verb (edits.Tax millionths most) = verbs.Tax
edit_verb (edits.Fdb cents) = verbs.Fdb
edit_verb (edits.Intangible cents) = verbs.Intangible
edit_verb (edits.Remove table name) = verbs.Remove

abbrev pub edit_fields : Edit → List (List ℕ)
edit_fields (edits.Asof date currency) = day_text date ∷ currency ∷ []
edit_fields (edits.Curve currency rates) = currency ∷ map number_text rates
edit_fields (edits.Group name kind step) = name ∷ group_kind_word kind ∷ step_text step ∷ []
edit_fields (edits.Security name class group currency duration) =
    name ∷ class_word class ∷ or_dash group ∷ currency ∷ number_text duration ∷ []
edit_fields (edits.Flows security flows) = security ∷ flow_fields flows
edit_fields (edits.Fund name components) = name ∷ component_fields components
edit_fields (edits.Hold name cents) = name ∷ number_text cents ∷ []
edit_fields (edits.Liability name kind currency) = name ∷ liability_kind_word kind ∷ currency ∷ []
edit_fields (edits.LiabilityFlows liability projection flows) = liability ∷ projection_word projection ∷ flow_fields
    flows
edit_fields (edits.Absorb key cents) = absorb_text key ∷ number_text cents ∷ []
edit_fields (edits.Segment set number region premium reserve) =
    set_word set ∷ number_text (pos number) ∷ number_text (pos region) ∷ number_text premium ∷ number_text reserve ∷ []
edit_fields (edits.Cat key cents) = cat_key_word key ∷ number_text cents ∷ []
edit_fields (edits.Lapse set cents) = set_word set ∷ number_text cents ∷ []
edit_fields (edits.Rein name group recoverables mitigation collateral) =
    name ∷ group ∷ number_text recoverables ∷ number_text mitigation ∷ number_text collateral ∷ []
edit_fields (edits.Bank name group cents) = name ∷ group ∷ number_text cents ∷ []
edit_fields (edits.Due overdue other) = map number_text (overdue ∷ other ∷ [])
edit_fields (edits.Op tpl tpul tpn el eul pel peul en pen expul) =
    map number_text (tpl ∷ tpul ∷ tpn ∷ el ∷ eul ∷ pel ∷ peul ∷ en ∷ pen ∷ expul ∷ [])
edit_fields (edits.Sym millionths) = map number_text (millionths ∷ [])
edit_fields (edits.Tax millionths most) = map number_text (millionths ∷ most ∷ [])
edit_fields (edits.Fdb cents) = map number_text (cents ∷ [])
edit_fields (edits.Intangible cents) = map number_text (cents ∷ [])
edit_fields (edits.Remove table name) = table_word table ∷ name ∷ []

-- the line of a record, without its end
unfoldable pub edit_text : Edit → List ℕ
edit_text edit = record_text (edit_verb edit) (edit_fields edit)
