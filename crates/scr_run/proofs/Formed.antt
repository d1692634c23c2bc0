-- A record that a line spells has its form.
use Rattle.std.proofs.Common.{◌≡◌, ℕ, zero, suc, ℤ, pos, negsuc, neg_ℤ, ◌+◌, ◌-◌, ◌*◌, ◌^◌, ◌<◌, ◌≤◌, ◌==◌, ◌&&◌, Bool, true, false, cond, List, [], ◌∷◌, length, take, drop, Option, Some, None, Result, Ok, Err, IfOk, IfSome, IsTrue, refl, arith, rules, fold, option_map, option_and_then, nat_le, codes}
use Rattle.std.specs.Char.{is_ascii_digit}
use Rattle.std.specs.List.{AllByRecursion, list_all}
use Rattle.std.specs.Option.{option_or}
use Rattle.std.proofs.lemmas.Bool.{leb-true, and_parts}
use Rattle.scr_dates.proofs.Texts.{day_of_text-range}
use Rattle.scr_dates.specs.Civil.{IsDay}
use Rattle.scr_dates.specs.Text.{day_of_text}
use Rattle.scr_dates.specs.declared.day.Day.{Day}
use Rattle.scr_tables.specs.Names.{is_currency, is_name}
use Rattle.scr_profile.specs.Segments.{segments}
use Rattle.scr_profile.specs.declared.set.Set.{Set}
use Rattle.scr_sheet.specs.declared.edit.Edit.{Edit}
use Rattle.scr_sheet.specs.declared.edit.Edit.TheVariants as edits
use Rattle.scr_sheet.specs.declared.keys.AbsorbKey.TheVariants as absorb
use Rattle.scr_sheet.specs.Forms.{AreComponents, AreFlows, Formed, IsAbsorbKey, IsCurrency, IsName, IsNameOrNone, IsNumber, IsStepOrNone}
use Rattle.scr_fields.specs.FieldForms.{absorb_key_of, between, currency_key_of, currency_of, group_of, name_of, region_of, segment_of, small_number, step_of, turn_of}
use Rattle.scr_fields.specs.Numbers.{are_digits, decimal_value, digits_value, number_value}
use Rattle.scr_csv.specs.LineFields.{is_printed, line_fields}
use Rattle.scr_csv.specs.Reading.{Rest, both, continued, field, last, listed, made, next, numbers_from, only, pairs_from, read_to, value_in}
use Rattle.scr_csv.specs.Records as rules_of
use Rattle.scr_fields.specs.Words.{all_scenarios, is_text, scenario_word, value_of}
use Rattle.scr_csv.specs.declared.fault.LineFault.{LineFault}
use Rattle.scr_csv.specs.declared.fault.LineFault.TheVariants as line_faults
use Rattle.scr_csv.specs.declared.verb.Verb.{Verb}
use Rattle.scr_csv.specs.declared.verb.Verb.TheVariants as verbs
use Rattle.scr_fields.proofs.Decimals.{below_power, digit_at, powers_rise}
use Rattle.scr_fields.proofs.FormLemmas.{found_is}
use Rattle.scr_csv.proofs.Steps.{formed_if}

-- ---- the forms of fields

-- what holds where the test passes holds of the value
if_passes : {A : Type 0} (P : A → Type 0) (b : Bool) (a : A) → (b ≡ true → P a) → IfSome (cond b (Some a) None) P
if_passes P true a h = h refl
if_passes P false a h = tt

told_true : (b : Bool) → b ≡ true → IsTrue b
told_true b h = h

name_ok : (field : List ℕ) → IfSome (name_of field) IsName
unfolding name_of
name_ok field = if_passes IsName (is_name field) field (told_true (is_name field))

currency_ok : (field : List ℕ) → IfSome (currency_of field) IsCurrency
unfolding currency_of
currency_ok field = if_passes IsCurrency (is_currency field) field (told_true (is_currency field))

-- what may be lacking
lacking_ok : {A : Type 0} (P : Option A → Type 0) (b : Bool) (o : Option A) → P None → IfSome o (λ a. P (Some a))
    → IfSome (cond b (Some None) (option_map Some o)) P
lacking_ok P true o none some = none
lacking_ok P false None none some = tt
lacking_ok P false (Some a) none some = some

group_ok : (field : List ℕ) → IfSome (group_of field) IsNameOrNone
unfolding group_of
group_ok field = lacking_ok IsNameOrNone (is_text (codes "-") field) (name_of field) tt (name_ok field)

-- ---- numbers

fold_below : (digits : List ℕ) (value i : ℕ) → list_all is_ascii_digit digits ≡ true → value < 10 ^ i
    → fold (λ value digit. value * 10 + (digit - 48)) value digits < 10 ^ (i + length digits)
fold_below [] value i all h = let same : i + 0 ≡ i = omega arith in rw same h
fold_below (d ∷ digits) value i all h =
    let digit = digit_at (d ∷ digits) 0 all (omega arith) in
    let parts = and_parts (is_ascii_digit d) (list_all is_ascii_digit digits) all in
    let later = fold_below digits (value * 10 + (d - 48)) (i + 1) parts.1
    (below_power value i (d - 48) h (omega (arith, digit))) in
    let same : i + suc (length digits) ≡ i + 1 + length digits = omega arith in
    rw same later

decimal_below : (digits : List ℕ) → are_digits digits ≡ true → decimal_value digits < 10 ^ 18
decimal_below digits h =
    let parts = and_parts (nat_le 1 (length digits) && nat_le (length digits) 18) (list_all is_ascii_digit digits) h in
    let sizes = and_parts (nat_le 1 (length digits)) (nat_le (length digits) 18) parts.0 in
    let few : 0 + length digits ≤ 18 = omega (arith, leb-true (length digits) 18 sizes.1) in
    let below : decimal_value digits < 10 ^ (0 + length digits) = fold_below digits 0 0 parts.1 (omega arith) in
    omega (arith, below, powers_rise (0 + length digits) 18 few)

digits_ok : (digits : List ℕ) → IfSome (digits_value digits) (λ n. n < 10 ^ 18)
digits_ok digits = if_passes (λ n. n < 10 ^ 18) (are_digits digits) (decimal_value digits) (decimal_below digits)

abs_pos : (n : ℕ) → n < 10 ^ 18 → IsNumber (pos n)
abs_pos n h = h

abs_neg : (n : ℕ) → n < 10 ^ 18 → IsNumber (neg_ℤ (pos n))
abs_neg zero h = h
abs_neg (suc n) h = h

signed_ok : (sign : ℕ → ℤ) → ((n : ℕ) → n < 10 ^ 18 → IsNumber (sign n)) → (o : Option ℕ) → IfSome o (λ n. n < 10 ^ 18)
    → IfSome (option_map sign o) IsNumber
signed_ok sign f None h = tt
signed_ok sign f (Some n) h = f n h

number_ok : (field : List ℕ) → IfSome (number_value field) IsNumber
number_ok [] = tt
number_ok (b ∷ bytes) =
    elim (b == 45) as (λ t. IfSome (cond t (option_map (λ n. neg_ℤ (pos n)) (digits_value bytes))
    (option_map pos (digits_value (b ∷ bytes)))) IsNumber) [
      | true ↦ signed_ok (λ n. neg_ℤ (pos n)) abs_neg (digits_value bytes) (digits_ok bytes)
      | false ↦ signed_ok pos abs_pos (digits_value (b ∷ bytes)) (digits_ok (b ∷ bytes))
    ]

between_ok : (low high : ℕ) (o : Option ℤ) → IfSome (option_and_then (between low high) o) (λ n. (low ≤ n) × (n ≤ high))
between_ok low high None = tt
between_ok low high (Some (pos n)) =
    if_passes (λ n. (low ≤ n) × (n ≤ high)) (nat_le low n && nat_le n high) n
    (λ h. let parts = and_parts (nat_le low n) (nat_le n high) h in (leb-true low n parts.0, leb-true n high parts.1))
between_ok low high (Some (negsuc n)) = tt

small_ok : (low high : ℕ) (field : List ℕ) → IfSome (small_number low high field) (λ n. (low ≤ n) × (n ≤ high))
unfolding small_number
small_ok low high field = between_ok low high (number_value field)

upper : (low high : ℕ) (o : Option ℕ) → IfSome o (λ n. (low ≤ n) × (n ≤ high)) → IfSome o (λ n. n ≤ high)
upper low high None h = tt
upper low high (Some n) h = h.1

step_ok : (field : List ℕ) → IfSome (step_of field) IsStepOrNone
unfolding step_of
step_ok field = lacking_ok IsStepOrNone (is_text (codes "-") field) (small_number 0 6 field) tt
    (upper 0 6 (small_number 0 6 field) (small_ok 0 6 field))

segment_ok : (set : Set) (field : List ℕ) → IfSome (segment_of set field) (λ n. (1 ≤ n) × (n ≤ segments set))
unfolding segment_of
segment_ok set field = small_ok 1 (segments set) field

region_ok : (field : List ℕ) → IfSome (region_of field) (λ n. (1 ≤ n) × (n ≤ 18))
unfolding region_of
region_ok field = small_ok 1 18 field

-- ---- keys of absorptions

turn_ok : (currency field : List ℕ) → IsCurrency currency → IfSome (turn_of currency field) IsAbsorbKey
turn_ok currency field h =
    elim (is_text (codes ".up") field) as (λ b. IfSome
    (cond b (Some (absorb.CurrencyUp currency))
    (cond (is_text (codes ".down") field) (Some (absorb.CurrencyDown currency)) None)) IsAbsorbKey) [
      | true ↦ h
      | false ↦ if_passes IsAbsorbKey (is_text (codes ".down") field) (absorb.CurrencyDown currency) (λ _. h)
    ]

and_then_ok : {A B : Type 0} (P : A → Type 0) (Q : B → Type 0) (f : A → Option B) → ((a : A) → P a → IfSome (f a) Q)
    → (o : Option A) → IfSome o P → IfSome (option_and_then f o) Q
and_then_ok P Q f h None p = tt
and_then_ok P Q f h (Some a) p = h a p

currency_key_ok : (field : List ℕ) → IfSome (currency_key_of field) IsAbsorbKey
unfolding currency_key_of
currency_key_ok field =
    elim (is_text (take 9 field) (codes "currency.")) as
    (λ b. IfSome (cond b (option_and_then (λ currency. turn_of currency (drop 3 (drop 9 field)))
    (currency_of (take 3 (drop 9 field)))) None) IsAbsorbKey) [
      | true ↦ and_then_ok IsCurrency IsAbsorbKey (λ currency. turn_of currency (drop 3 (drop 9 field)))
          (λ currency h. turn_ok currency (drop 3 (drop 9 field)) h)
          (currency_of (take 3 (drop 9 field))) (currency_ok (take 3 (drop 9 field)))
      | false ↦ tt
    ]

or_ok : {A : Type 0} (P : A → Type 0) (a b : Option A) → IfSome a P → IfSome b P → IfSome (option_or a b) P
or_ok P None b h k = k
or_ok P (Some a) b h k = h

absorb_key_ok : (field : List ℕ) → IfSome (absorb_key_of field) IsAbsorbKey
unfolding absorb_key_of value_of
absorb_key_ok field =
    or_ok IsAbsorbKey (value_of scenario_word all_scenarios field) (currency_key_of field)
    (found_is IsAbsorbKey (λ key. is_text (scenario_word key) field) all_scenarios (search rules)) (currency_key_ok field)

-- any value will do
any_ok : {A : Type 0} (form : List ℕ → Option A) (field : List ℕ) → IfSome (form field) (λ a. Unit {0})
any_ok form field = elim (form field) as (λ o. IfSome o (λ a. Unit {0})) [ None ↦ tt | Some a ↦ tt ]

-- ---- readers

read_ok : {A B : Type 0} (P : A → Type 0) (Q : B → Type 0) (then : A → Rest → Result B LineFault)
    (value : Result A LineFault) (after : Rest)
    → IfOk value P → ((a : A) → P a → (rest : Rest) → IfOk (then a rest) Q)
    → IfOk (continued then (read_to value after)) Q
read_ok P Q then (Ok a) after h k = k a h after
read_ok P Q then (Err fault) after h k = tt

next_ok : {A B : Type 0} (P : A → Type 0) (Q : B → Type 0) (form : List ℕ → Option A)
    (then : A → Rest → Result B LineFault) → ((field : List ℕ) → IfSome (form field) P)
    → ((a : A) → P a → (rest : Rest) → IfOk (then a rest) Q) → (number : ℕ) (fields : List (List ℕ))
    → IfOk (continued then (next form (record { number = number; fields = fields }))) Q
unfolding next field
next_ok P Q form then h k number [] = tt
next_ok P Q form then h k number (first ∷ fields) =
    read_ok P Q then (value_in form number first) (record { number = number + 1; fields = fields })
    (formed_if P (form first) (line_faults.Syntax number) (h first)) k

-- the next field has its form, and what follows it makes what has its own
reads : {A B : Type 0} (P : A → Type 0) (Q : B → Type 0) (form : List ℕ → Option A)
    (then : A → Rest → Result B LineFault) → ((field : List ℕ) → IfSome (form field) P)
    → ((a : A) → P a → (rest : Rest) → IfOk (then a rest) Q) → (rest : Rest) → IfOk (continued then (next form rest)) Q
reads P Q form then h k rest = next_ok P Q form then h k rest.number rest.fields

last_ok : {A : Type 0} (P : A → Type 0) (value : A) (number : ℕ) (fields : List (List ℕ)) → P value
    → IfOk (last value number fields) P
last_ok P value number [] h = h
last_ok P value number (more ∷ fields) h = tt

ends : {A : Type 0} (P : A → Type 0) (value : A) → P value → (rest : Rest) → IfOk (only value rest) P
unfolding only
ends P value h rest = last_ok P value rest.number rest.fields h

-- ---- lists

listed_ok : {A : Type 0} (P : A → Type 0) (a : Result A LineFault) (more : Result (List A) LineFault) → IfOk a P
    → IfOk more (AllByRecursion P) → IfOk (listed a more) (AllByRecursion P)
listed_ok P (Ok a) (Ok more) h k = (h, k)
listed_ok P (Ok a) (Err fault) h k = tt
listed_ok P (Err fault) more h k = tt

both_ok : {A B : Type 0} (P : A → Type 0) (Q : B → Type 0) (a : Result A LineFault) (b : Result B LineFault) → IfOk a P
    → IfOk b Q → IfOk (both a b) (λ pair. P pair.0 × Q pair.1)
both_ok P Q (Ok a) (Ok b) h k = (h, k)
both_ok P Q (Ok a) (Err fault) h k = tt
both_ok P Q (Err fault) b h k = tt

value_ok : {A : Type 0} (P : A → Type 0) (form : List ℕ → Option A) → ((field : List ℕ) → IfSome (form field) P)
    → (number : ℕ) (field : List ℕ) → IfOk (value_in form number field) P
value_ok P form h number field = formed_if P (form field) (line_faults.Syntax number) (h field)

numbers_ok : (number : ℕ) (fields : List (List ℕ)) → IfOk (numbers_from number fields) (AllByRecursion IsNumber)
numbers_ok number [] = tt
numbers_ok number (field ∷ fields) =
    listed_ok IsNumber (value_in number_value number field) (numbers_from (number + 1) fields)
    (value_ok IsNumber number_value number_ok number field) (numbers_ok (number + 1) fields)

pairs_ok : {A : Type 0} (P : A → Type 0) (form : List ℕ → Option A) → ((field : List ℕ) → IfSome (form field) P)
    → (number : ℕ) (fields : List (List ℕ))
    → IfOk (pairs_from form number fields) (AllByRecursion (λ pair. P pair.0 × IsNumber pair.1))
pairs_ok P form h number [] = tt
pairs_ok {A} P form h number (value ∷ []) =
    listed_ok (λ (pair : A × ℤ). P pair.0 × IsNumber pair.1)
    (both (value_in form number value) (Err (line_faults.Syntax (number + 1)))) (Ok [])
    (both_ok P IsNumber (value_in form number value) (Err (line_faults.Syntax (number + 1)))
    (value_ok P form h number value) tt) tt
pairs_ok {A} P form h number (value ∷ amount ∷ fields) =
    listed_ok (λ (pair : A × ℤ). P pair.0 × IsNumber pair.1)
    (both (value_in form number value) (value_in number_value (number + 1) amount))
    (pairs_from form (number + 2) fields)
    (both_ok P IsNumber (value_in form number value) (value_in number_value (number + 1) amount)
    (value_ok P form h number value) (value_ok IsNumber number_value number_ok (number + 1) amount))
    (pairs_ok P form h (number + 2) fields)

made_ok : {A B : Type 0} (P : A → Type 0) (Q : B → Type 0) (f : A → B) → ((a : A) → P a → Q (f a))
    → (value : Result A LineFault) → IfOk value P → IfOk (made f value) Q
made_ok P Q f h (Ok a) p = h a p
made_ok P Q f h (Err fault) p = tt

-- ---- each verb's record

abbrev OfForm : (Rest → Result Edit LineFault) → Type 0
OfForm read = (rest : Rest) → IfOk (read rest) Formed

number : (then : ℤ → Rest → Result Edit LineFault) → ((z : ℤ) → IsNumber z → OfForm (then z))
    → OfForm (λ rest. continued then (next number_value rest))
number then k = reads IsNumber Formed number_value then number_ok k

name : (then : List ℕ → Rest → Result Edit LineFault) → ((n : List ℕ) → IsName n → OfForm (then n))
    → OfForm (λ rest. continued then (next name_of rest))
name then k = reads IsName Formed name_of then name_ok k

currency : (then : List ℕ → Rest → Result Edit LineFault) → ((c : List ℕ) → IsCurrency c → OfForm (then c))
    → OfForm (λ rest. continued then (next currency_of rest))
currency then k = reads IsCurrency Formed currency_of then currency_ok k

word : {A : Type 0} (form : List ℕ → Option A) (then : A → Rest → Result Edit LineFault) → ((a : A) → OfForm (then a))
    → OfForm (λ rest. continued then (next form rest))
word form then k = reads (λ a. Unit {0}) Formed form then (any_ok form) (λ a _. k a)

flows : (number : ℕ) (fields : List (List ℕ)) → IfOk (pairs_from day_of_text number fields) AreFlows
flows number fields = pairs_ok (λ (day : Day). IsDay day.number) day_of_text day_of_text-range number fields

asof : OfForm rules_of.asof_record
asof = reads (λ (day : Day). IsDay day.number) Formed day_of_text _ day_of_text-range
    (λ date d. currency _ (λ c k. ends Formed (edits.Asof date c) (d, k)))

curve : OfForm rules_of.curve_record
curve = currency _ (λ c k rest. made_ok (AllByRecursion IsNumber) Formed (edits.Curve c) (λ rates r. (k, r))
    (numbers_from rest.number rest.fields) (numbers_ok rest.number rest.fields))

group : OfForm rules_of.group_record
group = name _ (λ n h. word _ _ (λ kind. reads IsStepOrNone Formed step_of _ step_ok
    (λ step s. ends Formed (edits.Group n kind step) (h, s))))

security : OfForm rules_of.security_record
security = name _ (λ n h. word _ _ (λ class. reads IsNameOrNone Formed group_of _ group_ok
    (λ g i. currency _ (λ c k. number _ (λ z d. ends Formed (edits.Security n class g c z) (h, i, k, d))))))

security_flows : OfForm rules_of.flows_record
security_flows = name _ (λ n h rest. made_ok AreFlows Formed (edits.Flows n) (λ pairs r. (h, r))
    (pairs_from day_of_text rest.number rest.fields) (flows rest.number rest.fields))

fund : OfForm rules_of.fund_record
fund = name _ (λ n h rest. made_ok AreComponents Formed (edits.Fund n) (λ pairs r. (h, r))
    (pairs_from name_of rest.number rest.fields) (pairs_ok IsName name_of name_ok rest.number rest.fields))

hold : OfForm rules_of.hold_record
hold = name _ (λ n h. number _ (λ z k. ends Formed (edits.Hold n z) (h, k)))

liability : OfForm rules_of.liability_record
liability = name _ (λ n h. word _ _ (λ kind. currency _ (λ c k. ends Formed (edits.Liability n kind c) (h, k))))

liability_flows : OfForm rules_of.liability_flows_record
liability_flows = name _ (λ n h. word _ _ (λ projection rest. made_ok AreFlows Formed
    (edits.LiabilityFlows n projection) (λ pairs r. (h, r)) (pairs_from day_of_text rest.number rest.fields)
    (flows rest.number rest.fields)))

absorb_record : OfForm rules_of.absorb_record
absorb_record = reads IsAbsorbKey Formed absorb_key_of _ absorb_key_ok
    (λ key k. number _ (λ z h. ends Formed (edits.Absorb key z) (k, h)))

segment : OfForm rules_of.segment_record
segment =
    word _ _ (λ set.
    reads (λ n. (1 ≤ n) × (n ≤ segments set)) Formed (segment_of set) _ (segment_ok set) (λ place p.
    reads (λ n. (1 ≤ n) × (n ≤ 18)) Formed region_of _ region_ok (λ region r.
    number _ (λ premium v. number _ (λ reserve w. ends Formed (edits.Segment set place region premium reserve)
    (p.0, p.1, r.0, r.1, v, w))))))

cat : OfForm rules_of.cat_record
cat = word _ _ (λ key. number _ (λ z h. ends Formed (edits.Cat key z) h))

lapse : OfForm rules_of.lapse_record
lapse = word _ _ (λ set. number _ (λ z h. ends Formed (edits.Lapse set z) h))

rein : OfForm rules_of.rein_record
rein = name _ (λ n h. name _ (λ g k. number _
    (λ a i. number _ (λ b j. number _ (λ c l. ends Formed (edits.Rein n g a b c) (h, k, i, j, l))))))

bank : OfForm rules_of.bank_record
bank = name _ (λ n h. name _ (λ g k. number _ (λ a i. ends Formed (edits.Bank n g a) (h, k, i))))

due : OfForm rules_of.due_record
due = number _ (λ a h. number _ (λ b k. ends Formed (edits.Due a b) (h, k)))

op : OfForm rules_of.op_record
op =
    number _ (λ a0 h0. number _ (λ a1 h1. number _
    (λ a2 h2. number _ (λ a3 h3. number _
    (λ a4 h4. number _ (λ a5 h5. number _ (λ a6 h6. number _ (λ a7 h7. number _ (λ a8 h8. number _ (λ a9 h9.
    ends Formed (edits.Op a0 a1 a2 a3 a4 a5 a6 a7 a8 a9) (h0, h1, h2, h3, h4, h5, h6, h7, h8, h9)))))))))))

sym_record : OfForm rules_of.sym_record
sym_record = number _ (λ a h. ends Formed (edits.Sym a) h)

tax : OfForm rules_of.tax_record
tax = number _ (λ a h. number _ (λ b k. ends Formed (edits.Tax a b) (h, k)))

fdb : OfForm rules_of.fdb_record
fdb = number _ (λ a h. ends Formed (edits.Fdb a) h)

intangible : OfForm rules_of.intangible_record
intangible = number _ (λ a h. ends Formed (edits.Intangible a) h)

removal : OfForm rules_of.remove_record
removal = word _ _ (λ table. name _ (λ n h. ends Formed (edits.Remove table n) h))

of_verb : (verb : Verb) → OfForm (rules_of.record_of verb)
of_verb verbs.Asof = asof
of_verb verbs.Curve = curve
of_verb verbs.Group = group
of_verb verbs.Security = security
of_verb verbs.Flows = security_flows
of_verb verbs.Fund = fund
of_verb verbs.Hold = hold
of_verb verbs.Liability = liability
of_verb verbs.LiabilityFlows = liability_flows
of_verb verbs.Absorb = absorb_record
of_verb verbs.Segment = segment
of_verb verbs.Cat = cat
of_verb verbs.Lapse = lapse
of_verb verbs.Rein = rein
of_verb verbs.Bank = bank
of_verb verbs.Due = due
of_verb verbs.Op = op
of_verb verbs.Sym = sym_record
of_verb verbs.Tax = tax
of_verb verbs.Fdb = fdb
of_verb verbs.Intangible = intangible
of_verb verbs.Remove = removal

any_record_ok : OfForm rules_of.any_record
unfolding rules_of.any_record
any_record_ok = word _ _ of_verb

-- the record that a line spells has its form
pub line_formed : (text : List ℕ) → IfOk (rules_of.edit_of_line text) Formed
line_formed text =
    elim (list_all is_printed text) as (λ b. IfOk
    (cond b (rules_of.any_record (record { number = 0; fields = line_fields text }))
    (Err (line_faults.Syntax 0))) Formed) [
      | true ↦ any_record_ok (record { number = 0; fields = line_fields text })
      | false ↦ tt
    ]
