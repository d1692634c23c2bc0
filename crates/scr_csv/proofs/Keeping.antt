-- A record that is read with its list cut is the record of the line with its list cut, and has its faults.
use Rattle.std.proofs.Common.{◌≡◌, ℕ, zero, suc, ℤ, ◌+◌, ◌*◌, ◌≤◌, true, false, Bool, cond, List, [], ◌∷◌, length, take, Option, Some, None, Result, Ok, Err, refl, sym, ap, subst, ◌∙◌, arith, inl, inr}
use Rattle.std.specs.Prelude.{nat_lt}
use Rattle.std.specs.List.{list_all}
use Rattle.std.specs.Option.{option_or}
use Rattle.std.proofs.lemmas.Bool.{cases_lt}
use Rattle.std.proofs.lemmas.List.{take_all, length-take-le}
use Rattle.scr_dates.specs.Text.{day_of_text}
use Rattle.scr_profile.specs.declared.limits.TheConstants.{MAX_RATES, MAX_FLOWS, MAX_FUND_COMPONENTS}
use Rattle.scr_sheet.specs.declared.edit.Edit.{Edit}
use Rattle.scr_sheet.specs.declared.edit.Edit.TheVariants as edits
use Rattle.scr_sheet.specs.declared.fault.Fault.{Fault}
use Rattle.scr_sheet.specs.declared.fault.Fault.TheVariants as faults
use Rattle.scr_sheet.specs.declared.sheet.BalanceSheet.{BalanceSheet}
use Rattle.scr_sheet.specs.Faults.{too_long, rates_fault, components_fault, list_fault, fault_of}
use Rattle.scr_fields.specs.FieldForms.{name_of, currency_of, group_of, step_of, segment_of, region_of, absorb_key_of}
use Rattle.scr_fields.specs.Numbers.{number_value}
use Rattle.scr_fields.specs.Words.{value_of, table_word, all_tables, group_kind_word, all_group_kinds, class_word, all_classes, liability_kind_word, all_liability_kinds, projection_word, all_projections, set_word, all_sets, cat_key_word, all_cat_keys}
use Rattle.scr_csv.specs.declared.{fault.LineFault.LineFault, verb.Verb.Verb}
use Rattle.scr_csv.specs.declared.verb.Verb.TheVariants as verbs
use Rattle.scr_csv.specs.Kept.{kept_members, kept, kept_record_of, any_kept_record}
use Rattle.scr_csv.specs.LineFields.{line_fields, is_printed}
use Rattle.scr_csv.specs.Reading.{Rest, ◌>>=◌, continued, next, only, last, made, numbers_from, pairs_from, Answers}
use Rattle.scr_csv.specs.Records.{any_record, record_of, edit_of_line}
use Rattle.scr_csv.specs.Verbs.{verb_word, all_verbs}

-- ---- the record that is read

-- the first reader gives the second's record with its list cut
abbrev Keeps : (Rest → Result Edit LineFault) → (Rest → Result Edit LineFault) → Type 0
Keeps cut whole = (rest : Rest) → cut rest ≡ made kept (whole rest)

onward : {A : Type 0} (cut whole : A → Rest → Result Edit LineFault) → ((a : A) → Keeps (cut a) (whole a))
    → (read : Result (A × Rest) LineFault) → continued cut read ≡ made kept (continued whole read)
onward cut whole keeps (Ok read) = keeps read.0 read.1
onward cut whole keeps (Err fault) = refl

after : {A : Type 0} (form : List ℕ → Option A) (cut whole : A → Rest → Result Edit LineFault)
    → ((a : A) → Keeps (cut a) (whole a)) → Keeps (next form >>= cut) (next form >>= whole)
after form cut whole keeps rest = onward cut whole keeps (next form rest)

ends : (edit : Edit) → kept edit ≡ edit → (number : ℕ) (fields : List (List ℕ))
    → last edit number fields ≡ made kept (last edit number fields)
ends edit same number [] = ap Ok (sym same)
ends edit same number (more ∷ fields) = refl

whole : (edit : Edit) → kept edit ≡ edit → Keeps (only edit) (only edit)
unfolding only
whole edit same rest = ends edit same rest.number rest.fields

cut_list : {A : Type 0} (make : List A → Edit) (most : ℕ) → ((list : List A) → kept (make list) ≡ make (kept_members most list))
    → (list : Result (List A) LineFault) → made make (made (kept_members most) list) ≡ made kept (made make list)
cut_list make most same (Ok list) = ap Ok (sym (same list))
cut_list make most same (Err fault) = refl

numbered : (cut then : ℤ → Rest → Result Edit LineFault) → ((z : ℤ) → Keeps (cut z) (then z))
    → Keeps (next number_value >>= cut) (next number_value >>= then)
numbered = after number_value

named : (cut then : List ℕ → Rest → Result Edit LineFault) → ((name : List ℕ) → Keeps (cut name) (then name))
    → Keeps (next name_of >>= cut) (next name_of >>= then)
named = after name_of

priced : (cut then : List ℕ → Rest → Result Edit LineFault) → ((name : List ℕ) → Keeps (cut name) (then name))
    → Keeps (next currency_of >>= cut) (next currency_of >>= then)
priced = after currency_of

record_kept : (verb : Verb) → Keeps (kept_record_of verb) (record_of verb)
record_kept verbs.Asof = after day_of_text _ _ (λ date. priced _ _ (λ currency. whole (edits.Asof date currency) refl))
record_kept verbs.Curve = priced _ _ (λ currency rest. cut_list (edits.Curve currency) MAX_RATES (λ list. refl)
    (numbers_from rest.number rest.fields))
record_kept verbs.Group =
    named _ _ (λ name. after (value_of group_kind_word all_group_kinds) _ _ (λ kind. after step_of _ _
    (λ step. whole (edits.Group name kind step) refl)))
record_kept verbs.Security =
    named _ _ (λ name. after (value_of class_word all_classes) _ _ (λ class. after group_of _ _
    (λ group. priced _ _ (λ currency. numbered _ _
    (λ duration. whole (edits.Security name class group currency duration) refl)))))
record_kept verbs.Flows = named _ _ (λ security rest. cut_list (edits.Flows security) MAX_FLOWS (λ list. refl)
    (pairs_from day_of_text rest.number rest.fields))
record_kept verbs.Fund = named _ _ (λ name rest. cut_list (edits.Fund name) MAX_FUND_COMPONENTS (λ list. refl)
    (pairs_from name_of rest.number rest.fields))
record_kept verbs.Hold = named _ _ (λ name. numbered _ _ (λ cents. whole (edits.Hold name cents) refl))
record_kept verbs.Liability =
    named _ _ (λ name. after (value_of liability_kind_word all_liability_kinds) _ _ (λ kind. priced _ _
    (λ currency. whole (edits.Liability name kind currency) refl)))
record_kept verbs.LiabilityFlows =
    named _ _ (λ line. after (value_of projection_word all_projections) _ _ (λ projection rest.
    cut_list (edits.LiabilityFlows line projection) MAX_FLOWS (λ list. refl)
    (pairs_from day_of_text rest.number rest.fields)))
record_kept verbs.Absorb = after absorb_key_of _ _
    (λ key. numbered _ _ (λ cents. whole (edits.Absorb key cents) refl))
record_kept verbs.Segment =
    after (value_of set_word all_sets) _ _ (λ set. after (segment_of set) _ _ (λ number. after region_of _ _
    (λ region. numbered _ _ (λ premium. numbered _ _
    (λ reserve. whole (edits.Segment set number region premium reserve) refl)))))
record_kept verbs.Cat = after (value_of cat_key_word all_cat_keys) _ _
    (λ key. numbered _ _ (λ cents. whole (edits.Cat key cents) refl))
record_kept verbs.Lapse = after (value_of set_word all_sets) _ _
    (λ set. numbered _ _ (λ cents. whole (edits.Lapse set cents) refl))
record_kept verbs.Rein =
    named _ _ (λ name. named _ _ (λ group. numbered _ _ (λ recoverables. numbered _ _ (λ mitigation. numbered _ _
    (λ collateral. whole (edits.Rein name group recoverables mitigation collateral) refl)))))
record_kept verbs.Bank = named _ _
    (λ name. named _ _ (λ group. numbered _ _ (λ cents. whole (edits.Bank name group cents) refl)))
record_kept verbs.Due = numbered _ _ (λ overdue. numbered _ _ (λ other. whole (edits.Due overdue other) refl))
record_kept verbs.Op =
    numbered _ _ (λ tpl. numbered _ _ (λ tpul. numbered _ _ (λ tpn. numbered _ _ (λ el. numbered _ _ (λ eul.
    numbered _ _ (λ pel. numbered _ _ (λ peul. numbered _ _ (λ en. numbered _ _ (λ pen. numbered _ _
    (λ expul. whole (edits.Op tpl tpul tpn el eul pel peul en pen expul) refl))))))))))
record_kept verbs.Sym = numbered _ _ (λ millionths. whole (edits.Sym millionths) refl)
record_kept verbs.Tax = numbered _ _ (λ millionths. numbered _ _ (λ most. whole (edits.Tax millionths most) refl))
record_kept verbs.Fdb = numbered _ _ (λ cents. whole (edits.Fdb cents) refl)
record_kept verbs.Intangible = numbered _ _ (λ cents. whole (edits.Intangible cents) refl)
record_kept verbs.Remove = after (value_of table_word all_tables) _ _
    (λ table. named _ _ (λ name. whole (edits.Remove table name) refl))

pub any_kept : (rest : Rest) → any_kept_record rest ≡ made kept (any_record rest)
unfolding any_kept_record any_record
any_kept = after (value_of verb_word all_verbs) _ _ record_kept

-- what answers a reader of the line's fields answers the line
pub line_kept : (text : List ℕ) (fields : List (List ℕ)) (result : Result Edit LineFault)
    → list_all is_printed text ≡ true → fields ≡ line_fields text
    → Answers (any_kept_record (record { number = 0; fields = fields })) result
    → Answers (made kept (edit_of_line text)) result
line_kept text fields result printed same answer = rw printed (subst (λ due. Answers due result)
    (any_kept (record { number = 0; fields = fields })
    ∙ ap (λ f. made kept (any_record (record { number = 0; fields = f }))) same) answer)

-- ---- its faults

-- a list is too long where what is kept of it is
longer : {A : Type 0} (most : ℕ) (list : List A)
    → nat_lt most (length (kept_members most list)) ≡ nat_lt most (length list)
longer most list =
    elim (cases_lt most (length list)) [
      | inl lt ↦ let whole = length-take-le (most + 1) list (omega (arith, lt)) in grind (arith, lt, whole)
      | inr le ↦ ap (λ l. nat_lt most (length l)) (take_all (most + 1) list (omega (arith, le)))
    ]

too_long_kept : {A : Type 0} (first fields most : ℕ) (list : List A)
    → too_long first fields most (length (kept_members most list)) ≡ too_long first fields most (length list)
too_long_kept first fields most list = ap (λ long. cond long (Some (faults.Syntax (first + fields * most))) None)
    (longer most list)

rates_kept : (rates : List ℤ) → rates_fault (kept_members MAX_RATES rates) ≡ rates_fault rates
rates_kept [] = refl
rates_kept (rate ∷ rates) = too_long_kept 2 1 MAX_RATES (rate ∷ rates)

components_kept : (field left : ℕ) (met : List (List ℕ)) (components : List (List ℕ × ℤ))
    → components_fault field left met (take (suc left) components) ≡ components_fault field left met components
components_kept field left met [] = refl
components_kept field zero met (c ∷ cs) = refl
components_kept field (suc left) met (c ∷ cs) =
    ap (cond _ (Some (faults.Syntax field))) (components_kept (field + 2) left (c.0 ∷ met) cs)

list_kept : (edit : Edit) → list_fault (kept edit) ≡ list_fault edit
list_kept (edits.Curve currency rates) = rates_kept rates
list_kept (edits.Flows security flows) = too_long_kept 2 2 MAX_FLOWS flows
list_kept (edits.Fund name components) = components_kept 2 MAX_FUND_COMPONENTS [] components
list_kept (edits.LiabilityFlows liability projection flows) = too_long_kept 3 2 MAX_FLOWS flows
list_kept edit = refl

not_faulty : (long : Bool) (fault : Fault) (rest : Option Fault) → cond long (Some fault) rest ≡ None
    → (long ≡ false) × (rest ≡ None)
not_faulty true fault rest h = absurd (cc)
not_faulty false fault rest h = (refl, h)

not_longer : (most number : ℕ) → nat_lt most number ≡ false → number ≤ most + 1
not_longer most number h = grind (arith, h)

short_enough : {A : Type 0} (first fields most : ℕ) (list : List A) → too_long first fields most (length list) ≡ None
    → kept_members most list ≡ list
short_enough first fields most list h =
    take_all (most + 1) list (not_longer most (length list) (not_faulty (nat_lt most (length list)) _ None h).0)

rates_whole : (rates : List ℤ) → rates_fault rates ≡ None → kept_members MAX_RATES rates ≡ rates
rates_whole [] h = refl
rates_whole (rate ∷ rates) h = short_enough 2 1 MAX_RATES (rate ∷ rates) h

components_whole : (field left : ℕ) (met : List (List ℕ)) (components : List (List ℕ × ℤ))
    → components_fault field left met components ≡ None → take (suc left) components ≡ components
components_whole field left met [] h = refl
components_whole field zero met (c ∷ cs) h = absurd (cc)
components_whole field (suc left) met (c ∷ cs) h =
    ap (λ (more : List (List ℕ × ℤ)). c ∷ more)
    (components_whole (field + 2) left (c.0 ∷ met) cs
    (not_faulty _ (faults.Syntax field) _ h).1)

-- a record whose list has no fault is kept whole
pub kept_whole : (edit : Edit) → list_fault edit ≡ None → kept edit ≡ edit
kept_whole (edits.Curve currency rates) h = ap (edits.Curve currency) (rates_whole rates h)
kept_whole (edits.Flows security flows) h = ap (edits.Flows security) (short_enough 2 2 MAX_FLOWS flows h)
kept_whole (edits.Fund name components) h =
    ap (edits.Fund name) (components_whole 2 MAX_FUND_COMPONENTS [] components h)
kept_whole (edits.LiabilityFlows liability projection flows) h =
    ap (edits.LiabilityFlows liability projection) (short_enough 3 2 MAX_FLOWS flows h)
kept_whole edit h = refl

first_told : (first rest : Option Fault) (fault : Fault) → first ≡ Some fault → option_or first rest ≡ Some fault
first_told first rest fault h = ap (λ o. option_or o rest) h

-- a fault of its list is the first of a record
pub list_first : (edit : Edit) (sheet : BalanceSheet) (fault : Fault) → list_fault edit ≡ Some fault
    → fault_of edit sheet ≡ Some fault
list_first edit sheet fault h = first_told (list_fault edit) _ fault h

-- the first fault of what is kept of a record is that of the record
pub kept_faults : (edit : Edit) (sheet : BalanceSheet) → fault_of (kept edit) sheet ≡ fault_of edit sheet
kept_faults edit sheet = go (list_fault edit) refl
  where
    go : (o : Option Fault) → list_fault edit ≡ o → fault_of (kept edit) sheet ≡ fault_of edit sheet
    go None none = ap (λ e. fault_of e sheet) (kept_whole edit none)
    go (Some fault) some =
        list_first (kept edit) sheet fault (list_kept edit ∙ some) ∙ sym (list_first edit sheet fault some)
