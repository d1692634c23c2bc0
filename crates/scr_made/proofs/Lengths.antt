-- How long the line of a made record is: a verb, and at most 62 fields of at most 32 bytes.
use Rattle.std.proofs.Common.{if◌then◌else◌, ◌≡◌, ℕ, zero, suc, ℤ, pos, negsuc, ◌+◌, ◌*◌, ◌<◌, ◌≤◌, ◌^◌, ◌==◌, ◌&&◌, ◌++◌, Bool, true, false, List, [], ◌∷◌, map, length, Option, None, Some, refl, sym, ap, ◌∙◌, arith, lit<, lit≤, leb-true}
use Rattle.std.specs.Prelude.{codes, flat_map, nat_le}
use Rattle.std.specs.List.{AllByRecursion, list_all}
use Rattle.std.specs.Char.{is_ascii_alphanumeric, is_ascii_uppercase}
use Rattle.std.proofs.lemmas.Bool.{and_parts}
use Rattle.std.proofs.lemmas.Fmt.{length_signed_le}
use Rattle.std.proofs.lemmas.List.{length-append, length-map}
use Rattle.std.proofs.lemmas.List.Concat.{flat_map-cons}
use Rattle.scr_dates.specs.declared.day.Day.{Day}
use Rattle.scr_dates.specs.Civil.{IsDay, date_of}
use Rattle.scr_tables.specs.Names.{is_name_byte}
use Rattle.scr_profile.specs.declared.group_kind.GroupKind.{GroupKind}
use Rattle.scr_profile.specs.declared.group_kind.GroupKind.TheVariants as groups
use Rattle.scr_profile.specs.declared.set.Set.{Set}
use Rattle.scr_profile.specs.declared.set.Set.TheVariants as sets
use Rattle.scr_profile.specs.Segments.{segments}
use Rattle.scr_sheet.specs.Forms.{AreFlows, Formed, IsCurrency, IsName, IsNameOrNone, IsNumber, IsStepOrNone}
use Rattle.scr_sheet.specs.declared.{edit.Edit.Edit, keys.CatKey.CatKey, keys.Projection.Projection, rows.Class.Class, rows.LiabilityKind.LiabilityKind}
use Rattle.scr_sheet.specs.declared.edit.Edit.TheVariants as edits
use Rattle.scr_sheet.specs.declared.keys.CatKey.TheVariants as cats
use Rattle.scr_sheet.specs.declared.keys.Projection.TheVariants as projections
use Rattle.scr_sheet.specs.declared.rows.Class.TheVariants as classes
use Rattle.scr_sheet.specs.declared.rows.LiabilityKind.TheVariants as liabilities
use Rattle.scr_fields.specs.Texts.{civil_text, date_text, day_text, is_taken, number_text, or_dash, step_text}
use Rattle.scr_fields.specs.Words.{cat_key_word, class_word, group_kind_word, liability_kind_word, projection_word, set_word}
use Rattle.scr_csv.specs.RecordTexts.{component_fields, edit_fields, edit_text, edit_verb, flow_fields, next_field, record_text}
use Rattle.scr_csv.specs.Verbs.{verb_word}
use Rattle.scr_csv.specs.declared.verb.Verb.{Verb}
use Rattle.scr_csv.specs.declared.verb.Verb.TheVariants as verbs
use Rattle.scr_made.specs.Records.{record_line, records_text}

-- ---- fields

abbrev IsShort : List ℕ → Type 0
IsShort field = length field ≤ 32

name_short : (name : List ℕ) → IsName name → IsShort name
name_short [] h = omega arith
name_short (b ∷ bytes) h =
    let fits = (and_parts (is_ascii_alphanumeric b && list_all is_name_byte bytes) (nat_le (length (b ∷ bytes)) 32) h).1 in
    leb-true (length (b ∷ bytes)) 32 fits

currency_short : (code : List ℕ) → IsCurrency code → IsShort code
currency_short code h =
    let three = (and_parts (length code == 3) (list_all is_ascii_uppercase code) h).0 in
    grind (arith, three)

group_short : (group : Option (List ℕ)) → IsNameOrNone group → IsShort (or_dash group)
group_short None h = lit≤ tt
group_short (Some name) h = name_short name h

number_short : (z : ℤ) → IsNumber z → IsShort (number_text z)
number_short (pos n) h =
    let few = length_signed_le 19 (pos n) (omega (arith, h)) (omega (arith, h)) in
    omega (arith, few)
number_short (negsuc n) h =
    let few = length_signed_le 19 (negsuc n) (omega (arith, h)) (omega (arith, h)) in
    omega (arith, few)

step_short : (step : Option ℕ) → IsStepOrNone step → IsShort (step_text step)
step_short None h = lit≤ tt
step_short (Some step) h = number_short (pos step) (omega (arith, h))

day_short : (day : Day) → IsShort (day_text day)
unfolding day_text date_text
day_short day = by (is_taken day.number)
  where
    by : (t : Bool) → length (if t then civil_text (date_of day.number) else []) ≤ 32
    by true = lit≤ tt
    by false = lit≤ tt

group_kind_short : (kind : GroupKind) → IsShort (group_kind_word kind)
group_kind_short groups.Name = lit≤ tt
group_kind_short groups.Covered = lit≤ tt
group_kind_short groups.Property = lit≤ tt
group_kind_short groups.State = lit≤ tt

class_short : (class : Class) → IsShort (class_word class)
class_short classes.Type1Equity = lit≤ tt
class_short classes.Type1Strategic = lit≤ tt
class_short classes.Type2Equity = lit≤ tt
class_short classes.Type2Strategic = lit≤ tt
class_short classes.Infrastructure = lit≤ tt
class_short classes.InfrastructureCorporate = lit≤ tt
class_short classes.Property = lit≤ tt
class_short classes.Bond = lit≤ tt
class_short classes.Government = lit≤ tt
class_short classes.Other = lit≤ tt

liability_kind_short : (kind : LiabilityKind) → IsShort (liability_kind_word kind)
liability_kind_short liabilities.Life = lit≤ tt
liability_kind_short liabilities.Health = lit≤ tt
liability_kind_short liabilities.Other = lit≤ tt

projection_short : (projection : Projection) → IsShort (projection_word projection)
projection_short projections.Base = lit≤ tt
projection_short projections.Mortality = lit≤ tt
projection_short projections.Longevity = lit≤ tt
projection_short projections.Disability = lit≤ tt
projection_short projections.Expense = lit≤ tt
projection_short projections.Revision = lit≤ tt
projection_short projections.LapseUp = lit≤ tt
projection_short projections.LapseDown = lit≤ tt
projection_short projections.LapseMass = lit≤ tt
projection_short projections.Catastrophe = lit≤ tt

set_short : (set : Set) → IsShort (set_word set)
set_short sets.Nl = lit≤ tt
set_short sets.Nslt = lit≤ tt

cat_key_short : (key : CatKey) → IsShort (cat_key_word key)
cat_key_short cats.Windstorm = lit≤ tt
cat_key_short cats.Earthquake = lit≤ tt
cat_key_short cats.Flood = lit≤ tt
cat_key_short cats.Hail = lit≤ tt
cat_key_short cats.Subsidence = lit≤ tt
cat_key_short cats.NonProportionalProperty = lit≤ tt
cat_key_short cats.Motor = lit≤ tt
cat_key_short cats.Marine = lit≤ tt
cat_key_short cats.Aviation = lit≤ tt
cat_key_short cats.Fire = lit≤ tt
cat_key_short cats.Liability = lit≤ tt
cat_key_short cats.Credit = lit≤ tt
cat_key_short cats.Other = lit≤ tt
cat_key_short cats.MassAccident = lit≤ tt
cat_key_short cats.AccidentConcentration = lit≤ tt
cat_key_short cats.Pandemic = lit≤ tt

verb_short : (verb : Verb) → length (verb_word verb) ≤ 16
verb_short verbs.Asof = lit≤ tt
verb_short verbs.Curve = lit≤ tt
verb_short verbs.Group = lit≤ tt
verb_short verbs.Security = lit≤ tt
verb_short verbs.Flows = lit≤ tt
verb_short verbs.Fund = lit≤ tt
verb_short verbs.Hold = lit≤ tt
verb_short verbs.Liability = lit≤ tt
verb_short verbs.LiabilityFlows = lit≤ tt
verb_short verbs.Absorb = lit≤ tt
verb_short verbs.Segment = lit≤ tt
verb_short verbs.Cat = lit≤ tt
verb_short verbs.Lapse = lit≤ tt
verb_short verbs.Rein = lit≤ tt
verb_short verbs.Bank = lit≤ tt
verb_short verbs.Due = lit≤ tt
verb_short verbs.Op = lit≤ tt
verb_short verbs.Sym = lit≤ tt
verb_short verbs.Tax = lit≤ tt
verb_short verbs.Fdb = lit≤ tt
verb_short verbs.Intangible = lit≤ tt
verb_short verbs.Remove = lit≤ tt

-- ---- the fields of a record

-- a record of no more fields than a liability's flows of 30 years have, and of no verb that made books lack
abbrev pub IsBrief : Edit → Type 0
IsBrief (edits.Curve currency rates) = length rates ≤ 30
IsBrief (edits.Flows security flows) = length flows ≤ 30
IsBrief (edits.Fund name components) = length components ≤ 30
IsBrief (edits.LiabilityFlows liability projection flows) = length flows ≤ 30
IsBrief (edits.Absorb key cents) = ⊥
IsBrief (edits.Rein name group recoverables mitigation collateral) = ⊥
IsBrief (edits.Remove table name) = ⊥
IsBrief edit = Unit {0}

record AreShort (most : ℕ) (fields : List (List ℕ)) : Type 0 where
  pub each : AllByRecursion IsShort fields
  pub count : length fields ≤ most

-- one field before others
and_one : (most : ℕ) (field : List ℕ) (fields : List (List ℕ)) → IsShort field → AreShort most fields
    → AreShort (suc most) (field ∷ fields)
and_one most field fields own h =
    let count = h.count in
    record { each = (own, h.each); count = omega (arith, count) }

no_more : AreShort 0 []
no_more = record { each = tt; count = omega arith }

wider : (few most : ℕ) (fields : List (List ℕ)) → few ≤ most → AreShort few fields → AreShort most fields
wider few most fields le h = let count = h.count in record { each = h.each; count = omega (arith, count, le) }

numbers_short : (numbers : List ℤ) → AllByRecursion IsNumber numbers → AreShort (length numbers) (map number_text numbers)
numbers_short [] all = no_more
numbers_short (z ∷ zs) all =
    and_one (length zs) (number_text z) (map number_text zs) (number_short z all.0) (numbers_short zs all.1)

-- two fields for each of a list
pairs_short : {A : Type 0} (first second : A → List ℕ) (P : A → Type 0) → ((x : A) → P x → IsShort (first x))
    → ((x : A) → P x → IsShort (second x)) → (xs : List A) → AllByRecursion P xs
    → AreShort (2 * length xs) (flat_map (λ x. first x ∷ second x ∷ []) xs)
pairs_short first second P one other [] all = record { each = tt; count = omega arith }
pairs_short first second P one other (x ∷ xs) all =
    let rest = pairs_short first second P one other xs all.1 in
    rw (flat_map-cons (λ y. first y ∷ second y ∷ []) x xs)
    (wider (suc (suc (2 * length xs))) (2 * suc (length xs))
    (first x ∷ second x ∷ flat_map (λ y. first y ∷ second y ∷ []) xs) (omega arith)
    (and_one (suc (2 * length xs)) (first x) (second x ∷ flat_map (λ y. first y ∷ second y ∷ []) xs) (one x all.0)
    (and_one (2 * length xs) (second x) (flat_map (λ y. first y ∷ second y ∷ []) xs) (other x all.0) rest)))

flows_short : (flows : List (Day × ℤ)) → AreFlows flows → AreShort (2 * length flows) (flow_fields flows)
flows_short flows all =
    pairs_short (λ (flow : Day × ℤ). day_text flow.0) (λ (flow : Day × ℤ). number_text flow.1)
    (λ flow. IsDay flow.0.number × IsNumber flow.1)
    (λ flow h. day_short flow.0) (λ flow h. number_short flow.1 h.1) flows all

few_segments : (set : Set) (number : ℕ) → number ≤ segments set → IsNumber (pos number)
few_segments sets.Nl number h = omega (arith, h)
few_segments sets.Nslt number h = omega (arith, h)

fields_brief : (edit : Edit) → Formed edit → IsBrief edit → AreShort 62 (edit_fields edit)
fields_brief (edits.Asof date currency) h brief =
    wider 2 62 _ (lit≤ tt) (and_one 1 _ _ (day_short date) (and_one 0 _ _ (currency_short currency h.1) no_more))
fields_brief (edits.Curve currency rates) h brief =
    wider (suc (length rates)) 62 _ (omega (arith, brief))
    (and_one (length rates) _ _ (currency_short currency h.0) (numbers_short rates h.1))
fields_brief (edits.Group name kind step) h brief =
    wider 3 62 _ (lit≤ tt)
    (and_one 2 _ _ (name_short name h.0) (and_one 1 _ _ (group_kind_short kind) (and_one 0 _ _ (step_short step h.1) no_more)))
fields_brief (edits.Security name class group currency duration) h brief =
    wider 5 62 _ (lit≤ tt)
    (and_one 4 _ _ (name_short name h.0) (and_one 3 _ _ (class_short class) (and_one 2 _ _ (group_short group h.1)
    (and_one 1 _ _ (currency_short currency h.2) (and_one 0 _ _ (number_short duration h.3) no_more)))))
fields_brief (edits.Flows security flows) h brief =
    wider (suc (2 * length flows)) 62 _ (omega (arith, brief))
    (and_one (2 * length flows) _ _ (name_short security h.0) (flows_short flows h.1))
fields_brief (edits.Fund name components) h brief =
    wider (suc (2 * length components)) 62 _ (omega (arith, brief))
    (and_one (2 * length components) _ _ (name_short name h.0)
    (pairs_short (λ (c : List ℕ × ℤ). c.0) (λ (c : List ℕ × ℤ). number_text c.1)
    (λ c. IsName c.0 × IsNumber c.1)
    (λ c own. name_short c.0 own.0) (λ c own. number_short c.1 own.1) components h.1))
fields_brief (edits.Hold name cents) h brief =
    wider 2 62 _ (lit≤ tt) (and_one 1 _ _ (name_short name h.0) (and_one 0 _ _ (number_short cents h.1) no_more))
fields_brief (edits.Liability name kind currency) h brief =
    wider 3 62 _ (lit≤ tt)
    (and_one 2 _ _ (name_short name h.0)
    (and_one 1 _ _ (liability_kind_short kind) (and_one 0 _ _ (currency_short currency h.1) no_more)))
fields_brief (edits.LiabilityFlows liability projection flows) h brief =
    wider (suc (suc (2 * length flows))) 62 _ (omega (arith, brief))
    (and_one (suc (2 * length flows)) _ _ (name_short liability h.0)
    (and_one (2 * length flows) _ _ (projection_short projection) (flows_short flows h.1)))
fields_brief (edits.Absorb key cents) h brief = absurd brief
fields_brief (edits.Segment set number region premium reserve) h brief =
    wider 5 62 _ (lit≤ tt)
    (and_one 4 _ _ (set_short set)
    (and_one 3 _ _ (number_short (pos number) (few_segments set number h.1))
    (and_one 2 _ _ (number_short (pos region) (let least = h.3 in omega (arith, least)))
    (and_one 1 _ _ (number_short premium h.4) (and_one 0 _ _ (number_short reserve h.5) no_more)))))
fields_brief (edits.Cat key cents) h brief =
    wider 2 62 _ (lit≤ tt) (and_one 1 _ _ (cat_key_short key) (and_one 0 _ _ (number_short cents h) no_more))
fields_brief (edits.Lapse set cents) h brief =
    wider 2 62 _ (lit≤ tt) (and_one 1 _ _ (set_short set) (and_one 0 _ _ (number_short cents h) no_more))
fields_brief (edits.Rein name group recoverables mitigation collateral) h brief = absurd brief
fields_brief (edits.Bank name group cents) h brief =
    wider 3 62 _ (lit≤ tt)
    (and_one 2 _ _ (name_short name h.0) (and_one 1 _ _ (name_short group h.1) (and_one 0 _ _ (number_short cents h.2) no_more)))
fields_brief (edits.Due overdue other) h brief =
    wider 2 62 _ (lit≤ tt) (numbers_short (overdue ∷ other ∷ []) (h.0, (h.1, tt)))
fields_brief (edits.Op tpl tpul tpn el eul pel peul en pen expul) h brief =
    wider 10 62 _ (lit≤ tt)
    (numbers_short (tpl ∷ tpul ∷ tpn ∷ el ∷ eul ∷ pel ∷ peul ∷ en ∷ pen ∷ expul ∷ [])
    (h.0, (h.1, (h.2, (h.3, (h.4, (h.5, (h.6, (h.7, (h.8, (h.9, tt)))))))))))
fields_brief (edits.Sym millionths) h brief = wider 1 62 _ (lit≤ tt) (numbers_short (millionths ∷ []) (h, tt))
fields_brief (edits.Tax millionths most) h brief =
    wider 2 62 _ (lit≤ tt) (numbers_short (millionths ∷ most ∷ []) (h.0, (h.1, tt)))
fields_brief (edits.Fdb cents) h brief = wider 1 62 _ (lit≤ tt) (numbers_short (cents ∷ []) (h, tt))
fields_brief (edits.Intangible cents) h brief = wider 1 62 _ (lit≤ tt) (numbers_short (cents ∷ []) (h, tt))
fields_brief (edits.Remove table name) h brief = absurd brief

-- ---- lines and texts

fields-le : (fields : List (List ℕ)) → AllByRecursion IsShort fields → length (flat_map next_field fields) ≤ 33 * length fields
unfolding next_field
fields-le [] all = lit≤ tt
fields-le (field ∷ fields) all =
    let own = all.0 in
    let rest = fields-le fields all.1 in
    let whole : length (next_field field ++ flat_map next_field fields) ≤ 33 * suc (length fields) =
    omega (arith, own, rest, length-append (next_field field) (flat_map next_field fields)) in
    whole

line-le : (edit : Edit) → Formed edit → IsBrief edit → length (record_line edit) ≤ 2063
unfolding record_line edit_text record_text
line-le edit h brief =
    let short = fields_brief edit h brief in
    let count = short.count in
    let verb = verb_short (edit_verb edit) in
    let fields = fields-le (edit_fields edit) short.each in
    omega (
      arith,
      count,
      verb,
      fields,
      length-append (verb_word (edit_verb edit) ++ flat_map next_field (edit_fields edit)) (codes "\n"),
      length-append (verb_word (edit_verb edit)) (flat_map next_field (edit_fields edit)),
    )

pub text-le : (edits : List Edit) → AllByRecursion Formed edits → AllByRecursion IsBrief edits
    → length (records_text edits) ≤ 2063 * length edits
unfolding records_text
text-le [] formed brief = lit≤ tt
text-le (edit ∷ edits) formed brief =
    let line = line-le edit formed.0 brief.0 in
    let rest = text-le edits formed.1 brief.1 in
    let whole : length (record_line edit ++ records_text edits) ≤ 2063 * suc (length edits) =
    omega (arith, line, rest, length-append (record_line edit) (records_text edits)) in
    rw (flat_map-cons record_line edit edits) whole
