-- A line is refused for the first field with which no record can begin, and for no other.
use Rattle.std.proofs.Common.{◌≡◌, ◌↔◌, ◌⊎◌, inl, inr, ℕ, suc, ℤ, pos, ◌+◌, ◌<◌, ◌++◌, true, List, length, take, drop, None, Result, Ok, Err, refl, sym, ap, subst, ◌∙◌, append_assoc, codes, arith, Some}
use Rattle.std.specs.List.{list_all}
use Rattle.std.proofs.lemmas.Bool.{cases_lt, cases_order}
use Rattle.std.proofs.lemmas.List.{take-append-drop, take-take}
use Rattle.scr_dates.specs.Text.{day_of_text}
use Rattle.scr_dates.specs.Civil.{day_number}
use Rattle.scr_profile.specs.declared.set.Set.{Set}
use Rattle.scr_profile.specs.declared.set.Set.TheVariants as sets
use Rattle.scr_profile.specs.declared.group_kind.GroupKind.TheVariants as groups
use Rattle.scr_sheet.specs.declared.edit.Edit.{Edit}
use Rattle.scr_sheet.specs.declared.edit.Edit.TheVariants as edits
use Rattle.scr_sheet.specs.declared.keys.AbsorbKey.TheVariants as absorb
use Rattle.scr_sheet.specs.declared.keys.CatKey.TheVariants as cats
use Rattle.scr_sheet.specs.declared.keys.Projection.TheVariants as projections
use Rattle.scr_sheet.specs.declared.keys.Table.TheVariants as tables
use Rattle.scr_sheet.specs.declared.rows.Class.TheVariants as classes
use Rattle.scr_sheet.specs.declared.rows.LiabilityKind.TheVariants as liabilities
use Rattle.scr_fields.specs.FieldForms.{name_of, currency_of, group_of, step_of, small_number, segment_of, region_of, absorb_key_of}
use Rattle.scr_fields.specs.Numbers.{number_value}
use Rattle.scr_fields.specs.Words.{value_of}
use Rattle.scr_fields.proofs.AbsorbKeys.{currency_found, key_read}
use Rattle.scr_fields.proofs.Spelled.{Spelled, spelled_table, spelled_group_kind, spelled_class, spelled_liability_kind, spelled_projection, spelled_set, spelled_cat_key}
use Rattle.scr_fields.proofs.WrittenForms.{name_read, group_read, step_read}
use Rattle.scr_csv.specs.declared.{fault.LineFault.LineFault, verb.Verb.Verb}
use Rattle.scr_csv.specs.declared.fault.LineFault.TheVariants.{Syntax}
use Rattle.scr_csv.specs.declared.verb.Verb.TheVariants as verbs
use Rattle.scr_csv.specs.LineFields.{line_fields, is_printed}
use Rattle.scr_csv.specs.Reading.{Rest, ◌>>=◌, next}
use Rattle.scr_csv.specs.Records.{any_record, record_of, edit_of_line}
use Rattle.scr_csv.specs.Refusals.{IsAtFault, AreRecord, BeginRecord}
use Rattle.scr_csv.proofs.Refusals.{Telling, from, telling-next, telling-only, telling-numbers, telling-pairs}
use Rattle.scr_csv.proofs.Verbs.{spelled_verb}

-- ---- the next field in each form, of which there is a text

abbrev After : Type 0 → Type 0
After A = A → Rest → Result Edit LineFault

worded : {A : Type 0} {word : A → List ℕ} {all : List A} {a : A} → Spelled word all a → (then : After A)
    → ((a : A) → Telling (then a)) → Telling (next (value_of word all) >>= then)
worded {A} {word} {all} {a} spelled = telling-next (value_of word all) (word a) a spelled.read

named : (then : After (List ℕ)) → ((name : List ℕ) → Telling (then name)) → Telling (next name_of >>= then)
named = telling-next name_of (codes "A") (codes "A") (name_read (codes "A") refl)

priced : (then : After (List ℕ)) → ((currency : List ℕ) → Telling (then currency)) → Telling (next currency_of >>= then)
priced = telling-next currency_of (codes "EUR") (codes "EUR") (currency_found (codes "EUR") refl)

counted : (then : After ℤ) → ((z : ℤ) → Telling (then z)) → Telling (next number_value >>= then)
counted = telling-next number_value (codes "0") (pos 0) refl

a_segment : (set : Set) → segment_of set (codes "1") ≡ Some 1
unfolding segment_of small_number
a_segment sets.Nl = refl
a_segment sets.Nslt = refl

a_region : region_of (codes "1") ≡ Some 1
unfolding region_of small_number
a_region = refl

-- ---- each verb

record_told : (verb : Verb) → Telling (record_of verb)
record_told verbs.Asof =
    telling-next day_of_text (codes "2000-01-01") (record {
      number = day_number
          (record { year = pos 2000; month = 1; day = 1 });
    }) refl _
    (λ date. priced _ (λ currency. telling-only (edits.Asof date currency)))
record_told verbs.Curve = priced _ (λ currency. telling-numbers (edits.Curve currency))
record_told verbs.Group =
    named _ (λ name. worded (spelled_group_kind groups.Name) _
    (λ kind. telling-next step_of (codes "-") None (step_read None tt) _
    (λ step. telling-only (edits.Group name kind step))))
record_told verbs.Security =
    named _ (λ name. worded (spelled_class classes.Type1Equity) _
    (λ class. telling-next group_of (codes "-") None (group_read None tt) _
    (λ group. priced _ (λ currency. counted _
    (λ duration. telling-only (edits.Security name class group currency duration))))))
record_told verbs.Flows = named _ (λ security. telling-pairs day_of_text (edits.Flows security))
record_told verbs.Fund = named _ (λ fund. telling-pairs name_of (edits.Fund fund))
record_told verbs.Hold = named _ (λ name. counted _ (λ cents. telling-only (edits.Hold name cents)))
record_told verbs.Liability =
    named _ (λ name. worded (spelled_liability_kind liabilities.Life) _
    (λ kind. priced _ (λ currency. telling-only (edits.Liability name kind currency))))
record_told verbs.LiabilityFlows =
    named _ (λ liability. worded (spelled_projection projections.Base) _
    (λ projection. telling-pairs day_of_text (edits.LiabilityFlows liability projection)))
record_told verbs.Absorb =
    telling-next absorb_key_of (codes "equity") absorb.Equity (key_read absorb.Equity tt) _
    (λ key. counted _ (λ cents. telling-only (edits.Absorb key cents)))
record_told verbs.Segment =
    worded (spelled_set sets.Nl) _ (λ set. telling-next (segment_of set) (codes "1") 1 (a_segment set) _
    (λ number. telling-next region_of (codes "1") 1 a_region _
    (λ region. counted _ (λ premium. counted _
    (λ reserve. telling-only (edits.Segment set number region premium reserve))))))
record_told verbs.Cat =
    worded (spelled_cat_key cats.Flood) _ (λ key. counted _ (λ cents. telling-only (edits.Cat key cents)))
record_told verbs.Lapse =
    worded (spelled_set sets.Nl) _ (λ set. counted _ (λ cents. telling-only (edits.Lapse set cents)))
record_told verbs.Rein =
    named _ (λ name. named _ (λ group. counted _ (λ recoverables. counted _ (λ mitigation. counted _
    (λ collateral. telling-only (edits.Rein name group recoverables mitigation collateral))))))
record_told verbs.Bank = named _
    (λ name. named _ (λ group. counted _ (λ cents. telling-only (edits.Bank name group cents))))
record_told verbs.Due = counted _ (λ overdue. counted _ (λ other. telling-only (edits.Due overdue other)))
record_told verbs.Op =
    counted _ (λ tpl. counted _ (λ tpul. counted _ (λ tpn. counted _ (λ el. counted _ (λ eul. counted _
    (λ pel. counted _ (λ peul. counted _ (λ en. counted _ (λ pen. counted _
    (λ expul. telling-only (edits.Op tpl tpul tpn el eul pel peul en pen expul)))))))))))
record_told verbs.Sym = counted _ (λ millionths. telling-only (edits.Sym millionths))
record_told verbs.Tax = counted _ (λ millionths. counted _ (λ most. telling-only (edits.Tax millionths most)))
record_told verbs.Fdb = counted _ (λ cents. telling-only (edits.Fdb cents))
record_told verbs.Intangible = counted _ (λ cents. telling-only (edits.Intangible cents))
record_told verbs.Remove =
    worded (spelled_table tables.Security) _ (λ table. named _ (λ name. telling-only (edits.Remove table name)))

any_told : Telling any_record
unfolding any_record
any_told = worded (spelled_verb verbs.Curve) _ record_told

-- ---- the field at fault

-- fields that are a record begin one, as many as are taken of them
begins : (i : ℕ) (fields : List (List ℕ)) → AreRecord fields → BeginRecord (take i fields)
begins i fields are = (drop i fields, subst AreRecord (sym (take-append-drop i fields)) are)

-- where some fields begin a record, fewer of them do
fewer : (i : ℕ) (fields : List (List ℕ)) → BeginRecord fields → BeginRecord (take i fields)
fewer i fields (more, are) = (
  drop i fields ++ more,
  subst AreRecord
      (ap (λ (f : List (List ℕ)). f ++ more) (sym (take-append-drop i fields))
      ∙ append_assoc (take i fields) (drop i fields) more) are,
)

record Refused (fields : List (List ℕ)) (fault : LineFault) : Type 0 where
  place : ℕ
  is : fault ≡ Syntax place
  there : IsAtFault place fields

refused_at : (fields : List (List ℕ)) (fault : LineFault) → any_record (from 0 fields) ≡ Err fault → Refused fields fault
refused_at fields fault h =
    let (j, is, there) = any_told.told 0 fields fault h in
    let same : 0 + j ≡ j = omega arith in
    let next_place : suc j ≡ j + 1 = omega arith in
    record {
      place = j;
      is = is ∙ ap Syntax same;
      there = record {
        within = there.within;
        before = there.before;
        missing = λ all are. cc (sym h ∙ are.1);
        wrong = λ lt. subst (λ i. ¬ BeginRecord (take i fields)) next_place (there.wrong lt);
      };
    }

none_earlier : (j k : ℕ) (fields : List (List ℕ)) → IsAtFault j fields → IsAtFault k fields → ¬ (j < k)
none_earlier j k fields first second earlier = first.wrong (omega (arith, earlier, second.within))
    (subst BeginRecord (take-take (j + 1) k fields (omega (arith, earlier)))
    (fewer (j + 1) (take k fields) second.before))

-- at most one field is at fault
one_place : (j k : ℕ) (fields : List (List ℕ)) → IsAtFault j fields → IsAtFault k fields → j ≡ k
one_place j k fields first second = order (cases_order j k)
  where
    order : (j ≡ k) ⊎ ((j < k) ⊎ (k < j)) → j ≡ k
    order (inl same) = same
    order (inr (inl lt)) = absurd (none_earlier j k fields first second lt)
    order (inr (inr lt)) = absurd (none_earlier k j fields second first lt)

no_record : (k : ℕ) (fields : List (List ℕ)) → IsAtFault k fields → ¬ AreRecord fields
no_record k fields fault are =
    elim (cases_lt k (length fields)) [
      | inl lt ↦ fault.wrong lt (begins (k + 1) fields are)
      | inr le ↦ fault.missing (omega (arith, le, fault.within)) are
    ]

refused : (k : ℕ) (fields : List (List ℕ)) → IsAtFault k fields → any_record (from 0 fields) ≡ Err (Syntax k)
refused k fields fault = go (any_record (from 0 fields)) refl
  where
    go : (read : Result Edit LineFault) → any_record (from 0 fields) ≡ read
        → any_record (from 0 fields) ≡ Err (Syntax k)
    go (Ok edit) h = absurd (no_record k fields fault (edit, h))
    go (Err told) h =
        let refusal = refused_at fields told h in
        h ∙ ap Err (refusal.is ∙ ap Syntax (one_place refusal.place k fields refusal.there fault))

same_place : (j k : ℕ) → ◌≡◌ {A = LineFault} (Syntax k) (Syntax j) → j ≡ k
same_place j k h = cc

pub line_fault : (text : List ℕ) (k : ℕ) → list_all is_printed text ≡ true
    → (edit_of_line text ≡ Err (Syntax k)) ↔ IsAtFault k (line_fields text)
line_fault text k printed = (told, λ fault. rw printed (refused k (line_fields text) fault))
  where
    told : edit_of_line text ≡ Err (Syntax k) → IsAtFault k (line_fields text)
    told h =
        let refusal = refused_at (line_fields text) (Syntax k) (rw printed at h) in
        subst (λ i. IsAtFault i (line_fields text)) (same_place refusal.place k refusal.is) refusal.there
