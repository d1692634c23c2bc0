-- A record's line is read as the record.
use Rattle.std.proofs.Common.{◌≡◌, ℕ, ℤ, pos, ◌+◌, ◌<◌, ◌==◌, ◌&&◌, Bool, true, false, not, List, [], ◌∷◌, ◌++◌, map, Some, Ok, length, refl, ap, ◌∙◌, arith}
use Rattle.std.specs.Prelude.{flat_map}
use Rattle.std.specs.List.{list_all, list_any, AllByRecursion, onto_first}
use Rattle.std.proofs.lemmas.List.{append-nil}
use Rattle.std.proofs.lemmas.Bool.{and_parts, and_from}
use Rattle.std.proofs.lemmas.List.Folds.{list_all-append}
use Rattle.scr_dates.specs.declared.day.Day.{Day}
use Rattle.scr_dates.specs.Text.{day_of_text}
use Rattle.scr_sheet.specs.Forms.{IsNumber, AreFlows, AreComponents, Formed}
use Rattle.scr_sheet.specs.declared.edit.Edit.{Edit}
use Rattle.scr_sheet.specs.declared.edit.Edit.TheVariants as edits
use Rattle.scr_fields.specs.FieldForms.{name_of}
use Rattle.scr_fields.specs.Texts.{number_text}
use Rattle.scr_fields.specs.Words.{value_of}
use Rattle.scr_fields.proofs.AbsorbKeys.{currency_found, key_read}
use Rattle.scr_fields.proofs.FormLemmas.{list_all-weaker}
use Rattle.scr_fields.proofs.PlainTexts.{Plain, is_plain, name_plain, currency_plain, absorb_key_plain}
use Rattle.scr_fields.proofs.Spelled.{spelled_table, spelled_group_kind, spelled_class, spelled_liability_kind, spelled_projection, spelled_set, spelled_cat_key}
use Rattle.scr_fields.proofs.WrittenDays.{day_read, day_plain}
use Rattle.scr_fields.proofs.WrittenForms.{name_read, group_read, group_plain, step_read, step_plain, segment_fits, segment_read, region_read}
use Rattle.scr_fields.proofs.WrittenNumbers.{number_read, number_plain}
use Rattle.scr_csv.specs.declared.verb.Verb.{Verb}
use Rattle.scr_csv.specs.LineFields.{is_printed, is_quote}
use Rattle.scr_csv.specs.Reading.{next, field, only, numbers_from, pairs_from}
use Rattle.scr_csv.specs.Records.{any_record, record_of, edit_of_line}
use Rattle.scr_csv.specs.RecordTexts.{flow_fields, component_fields, next_field, record_text, edit_verb, edit_fields, edit_text}
use Rattle.scr_csv.specs.Parts.{pieces}
use Rattle.scr_csv.specs.Verbs.{verb_word, all_verbs}
use Rattle.scr_csv.proofs.LineSplit.{line_fields-not_empty}
use Rattle.scr_csv.proofs.Refusals.{from}
use Rattle.scr_csv.proofs.Verbs.{spelled_verb}

-- ---- the cut of a line at its commas

abbrev AllPlain : List (List ℕ) → Type 0
AllPlain fields = AllByRecursion Plain fields

plain_parts : (b : ℕ) → is_plain b ≡ true → (is_printed b ≡ true) × ((b == 44) ≡ false) × (is_quote b ≡ false)
plain_parts b h = (grind (arith, h), grind (arith, h), grind (arith, h))

piece_ends : (xs ys : List ℕ) → Plain xs → pieces (xs ++ (44 ∷ ys)) ≡ xs ∷ pieces ys
piece_ends [] ys h = refl
piece_ends (x ∷ xs) ys h =
    let parts = and_parts (is_plain x) (list_all is_plain xs) h in
    rw ((plain_parts x parts.0).1) (ap (onto_first x) (piece_ends xs ys parts.1))

one_piece : (xs : List ℕ) → Plain xs → pieces xs ≡ xs ∷ []
one_piece [] h = refl
one_piece (x ∷ xs) h =
    let parts = and_parts (is_plain x) (list_all is_plain xs) h in
    rw ((plain_parts x parts.0).1) (ap (onto_first x) (one_piece xs parts.1))

fields_cut : (first : List ℕ) (fields : List (List ℕ)) → Plain first → AllPlain fields
    → pieces (first ++ flat_map next_field fields) ≡ first ∷ fields
unfolding next_field
fields_cut first [] h k = rw (append-nil first) (one_piece first h)
fields_cut first (second ∷ fields) h k =
    piece_ends first (second ++ flat_map next_field fields) h
    ∙ ap (λ (more : List (List ℕ)). first ∷ more) (fields_cut second fields k.0 k.1)

-- ---- its bytes

abbrev is_shown : ℕ → Bool
is_shown b = is_printed b && not (is_quote b)

plain_shown : (b : ℕ) → is_plain b ≡ true → is_shown b ≡ true
plain_shown b h = let p = plain_parts b h in rw (p.0, p.2) refl

shown-append : (xs ys : List ℕ) → list_all is_shown xs ≡ true → list_all is_shown ys ≡ true
    → list_all is_shown (xs ++ ys) ≡ true
shown-append xs ys h k = list_all-append is_shown xs ys ∙ and_from _ _ h k

plain_text_shown : (text : List ℕ) → Plain text → list_all is_shown text ≡ true
plain_text_shown text h = list_all-weaker is_plain is_shown plain_shown text h

fields_shown : (fields : List (List ℕ)) → AllPlain fields → list_all is_shown (flat_map next_field fields) ≡ true
unfolding next_field
fields_shown [] h = refl
fields_shown (first ∷ fields) h = shown-append (44 ∷ first) (flat_map next_field fields) (plain_text_shown first h.0)
    (fields_shown fields h.1)

shown_printed : (text : List ℕ) → list_all is_shown text ≡ true → list_all is_printed text ≡ true
shown_printed text h = list_all-weaker is_shown is_printed
    (λ b k. (and_parts (is_printed b) (not (is_quote b)) k).0) text h

not_true : (b : Bool) → not b ≡ true → b ≡ false
not_true true h = absurd (cc)
not_true false h = refl

shown_unquoted : (text : List ℕ) → list_all is_shown text ≡ true → list_any is_quote text ≡ false
shown_unquoted [] h = refl
shown_unquoted (b ∷ bs) h =
    let parts = and_parts (is_shown b) (list_all is_shown bs) h in
    let byte = and_parts (is_printed b) (not (is_quote b)) parts.0 in
    rw (not_true (is_quote b) byte.1) (shown_unquoted bs parts.1)

-- ---- the fields of a written line

verb_filled : (verb : Verb) (word : List ℕ) → value_of verb_word all_verbs word ≡ Some verb → 0 < length word
unfolding value_of
verb_filled verb [] h = absurd (cc)
verb_filled verb (b ∷ bs) h = omega arith

filled : (xs more : List ℕ) → 0 < length xs → (length (xs ++ more) == 0) ≡ false
filled [] more h = absurd (omega (arith, h))
filled (x ∷ xs) more h = grind arith

line_read : (verb : Verb) (fields : List (List ℕ)) → AllPlain fields
    → edit_of_line (record_text verb fields) ≡ any_record (from 0 (verb_word verb ∷ fields))
unfolding record_text
line_read verb fields h =
    let text = verb_word verb ++ flat_map next_field fields in
    let shown = shown-append (verb_word verb) (flat_map next_field fields)
    (plain_text_shown (verb_word verb) (spelled_verb verb).plain) (fields_shown fields h) in
    let printed = shown_printed text shown in
    let some = filled (verb_word verb) (flat_map next_field fields)
    (verb_filled verb (verb_word verb) (spelled_verb verb).read) in
    let cut = line_fields-not_empty text some printed (shown_unquoted text shown)
    ∙ fields_cut (verb_word verb) fields (spelled_verb verb).plain h in
    rw printed (ap (λ (all : List (List ℕ)). any_record (from 0 all)) cut)

verb_read : (verb : Verb) (fields : List (List ℕ))
    → any_record (from 0 (verb_word verb ∷ fields)) ≡ record_of verb (from 1 fields)
unfolding any_record next field
verb_read verb fields = rw ((spelled_verb verb).read) refl

-- ---- lists

numbers_read : (n : ℕ) (zs : List ℤ) → AllByRecursion IsNumber zs → numbers_from n (map number_text zs) ≡ Ok zs
numbers_read n [] h = refl
numbers_read n (z ∷ zs) h = rw (number_read z h.0, numbers_read (n + 1) zs h.1) refl

numbers_plain : (zs : List ℤ) → AllByRecursion IsNumber zs → AllPlain (map number_text zs)
numbers_plain [] h = tt
numbers_plain (z ∷ zs) h = (number_plain z h.0, numbers_plain zs h.1)

flows_read : (n : ℕ) (flows : List (Day × ℤ)) → AreFlows flows → pairs_from day_of_text n (flow_fields flows) ≡ Ok flows
flows_read n [] h = refl
flows_read n (flow ∷ flows) h = rw (day_read flow.0 h.0.0, number_read flow.1 h.0.1, flows_read (n + 2) flows h.1) refl

flows_plain : (flows : List (Day × ℤ)) → AreFlows flows → AllPlain (flow_fields flows)
flows_plain [] h = tt
flows_plain (flow ∷ flows) h = (day_plain flow.0 h.0.0, (number_plain flow.1 h.0.1, flows_plain flows h.1))

components_read : (n : ℕ) (components : List (List ℕ × ℤ)) → AreComponents components
    → pairs_from name_of n (component_fields components) ≡ Ok components
components_read n [] h = refl
components_read n (c ∷ components) h = rw
    (name_read c.0 h.0.0, number_read c.1 h.0.1, components_read (n + 2) components h.1) refl

components_plain : (components : List (List ℕ × ℤ)) → AreComponents components → AllPlain (component_fields components)
components_plain [] h = tt
components_plain (c ∷ components) h = (name_plain c.0 h.0.0, (number_plain c.1 h.0.1, components_plain components h.1))

-- ---- each record

infixr 5 ◌&◌
-- one fact and then the others
◌&◌ : {A B : Type 0} → A → B → A × B
a & b = (a, b)

fields_plain : (edit : Edit) → Formed edit → AllPlain (edit_fields edit)
fields_plain (edits.Asof date currency) h = (day_plain date h.0, (currency_plain currency h.1, tt))
fields_plain (edits.Curve currency rates) h = (currency_plain currency h.0, numbers_plain rates h.1)
fields_plain (edits.Group name kind step) h = (name_plain name h.0, ((spelled_group_kind kind).plain, (step_plain step h.1, tt)))
fields_plain (edits.Security name class group currency duration) h =
    name_plain name h.0 & (spelled_class class).plain & group_plain group h.1 & currency_plain currency h.2
    & number_plain duration h.3 & tt
fields_plain (edits.Flows security flows) h = (name_plain security h.0, flows_plain flows h.1)
fields_plain (edits.Fund name components) h = (name_plain name h.0, components_plain components h.1)
fields_plain (edits.Hold name cents) h = (name_plain name h.0, (number_plain cents h.1, tt))
fields_plain (edits.Liability name kind currency) h =
    name_plain name h.0 & (spelled_liability_kind kind).plain & currency_plain currency h.1 & tt
fields_plain (edits.LiabilityFlows liability projection flows) h =
    name_plain liability h.0 & (spelled_projection projection).plain & flows_plain flows h.1
fields_plain (edits.Absorb key cents) h = (absorb_key_plain key h.0, (number_plain cents h.1, tt))
fields_plain (edits.Segment set number region premium reserve) h =
    (spelled_set set).plain & number_plain (pos number) (segment_fits set number h.1)
    & number_plain (pos region) (omega (arith, h.3)) & number_plain premium h.4 & number_plain reserve h.5 & tt
fields_plain (edits.Cat key cents) h = ((spelled_cat_key key).plain, (number_plain cents h, tt))
fields_plain (edits.Lapse set cents) h = ((spelled_set set).plain, (number_plain cents h, tt))
fields_plain (edits.Rein name group recoverables mitigation collateral) h =
    name_plain name h.0 & name_plain group h.1 & number_plain recoverables h.2 & number_plain mitigation h.3
    & number_plain collateral h.4 & tt
fields_plain (edits.Bank name group cents) h = name_plain name h.0 & name_plain group h.1 & number_plain cents h.2 & tt
fields_plain (edits.Due overdue other) h = (number_plain overdue h.0, (number_plain other h.1, tt))
fields_plain (edits.Op tpl tpul tpn el eul pel peul en pen expul) h =
    numbers_plain (tpl ∷ tpul ∷ tpn ∷ el ∷ eul ∷ pel ∷ peul ∷ en ∷ pen ∷ expul ∷ [])
    (h.0, (h.1, (h.2, (h.3, (h.4, (h.5, (h.6, (h.7, (h.8, (h.9, tt))))))))))
fields_plain (edits.Sym millionths) h = (number_plain millionths h, tt)
fields_plain (edits.Tax millionths most) h = (number_plain millionths h.0, (number_plain most h.1, tt))
fields_plain (edits.Fdb cents) h = (number_plain cents h, tt)
fields_plain (edits.Intangible cents) h = (number_plain cents h, tt)
fields_plain (edits.Remove table name) h = ((spelled_table table).plain, (name_plain name h, tt))

fields_read : (edit : Edit) → Formed edit → record_of (edit_verb edit) (from 1 (edit_fields edit)) ≡ Ok edit
unfolding next field only
fields_read (edits.Asof date currency) h = rw (day_read date h.0, currency_found currency h.1) refl
fields_read (edits.Curve currency rates) h = rw (currency_found currency h.0, numbers_read 2 rates h.1) refl
fields_read (edits.Group name kind step) h = rw (name_read name h.0, (spelled_group_kind kind).read, step_read step h.1) refl
fields_read (edits.Security name class group currency duration) h =
    rw (
      name_read name h.0,
      (spelled_class class).read,
      group_read group h.1,
      currency_found currency h.2,
      number_read duration h.3,
    ) refl
fields_read (edits.Flows security flows) h = rw (name_read security h.0, flows_read 2 flows h.1) refl
fields_read (edits.Fund name components) h = rw (name_read name h.0, components_read 2 components h.1) refl
fields_read (edits.Hold name cents) h = rw (name_read name h.0, number_read cents h.1) refl
fields_read (edits.Liability name kind currency) h = rw
    (name_read name h.0, (spelled_liability_kind kind).read, currency_found currency h.1) refl
fields_read (edits.LiabilityFlows liability projection flows) h = rw
    (name_read liability h.0, (spelled_projection projection).read, flows_read 3 flows h.1) refl
fields_read (edits.Absorb key cents) h = rw (key_read key h.0, number_read cents h.1) refl
fields_read (edits.Segment set number region premium reserve) h =
    rw (
      (spelled_set set).read,
      segment_read set number h.0 h.1,
      region_read region h.2 h.3,
      number_read premium h.4,
      number_read reserve h.5,
    ) refl
fields_read (edits.Cat key cents) h = rw ((spelled_cat_key key).read, number_read cents h) refl
fields_read (edits.Lapse set cents) h = rw ((spelled_set set).read, number_read cents h) refl
fields_read (edits.Rein name group recoverables mitigation collateral) h =
    rw (
      name_read name h.0,
      name_read group h.1,
      number_read recoverables h.2,
      number_read mitigation h.3,
      number_read collateral h.4,
    ) refl
fields_read (edits.Bank name group cents) h = rw (name_read name h.0, name_read group h.1, number_read cents h.2) refl
fields_read (edits.Due overdue other) h = rw (number_read overdue h.0, number_read other h.1) refl
fields_read (edits.Op tpl tpul tpn el eul pel peul en pen expul) h =
    rw (
      number_read tpl h.0,
      number_read tpul h.1,
      number_read tpn h.2,
      number_read el h.3,
      number_read eul h.4,
      number_read pel h.5,
      number_read peul h.6,
      number_read en h.7,
      number_read pen h.8,
      number_read expul h.9,
    ) refl
fields_read (edits.Sym millionths) h = rw (number_read millionths h) refl
fields_read (edits.Tax millionths most) h = rw (number_read millionths h.0, number_read most h.1) refl
fields_read (edits.Fdb cents) h = rw (number_read cents h) refl
fields_read (edits.Intangible cents) h = rw (number_read cents h) refl
fields_read (edits.Remove table name) h = rw ((spelled_table table).read, name_read name h) refl

pub record_read : (edit : Edit) → Formed edit → edit_of_line (edit_text edit) ≡ Ok edit
unfolding edit_text
record_read edit h =
    line_read (edit_verb edit) (edit_fields edit) (fields_plain edit h) ∙ verb_read (edit_verb edit) (edit_fields edit)
    ∙ fields_read edit h
