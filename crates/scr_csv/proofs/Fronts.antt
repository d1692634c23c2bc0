-- The first field of a text, where it is known how many bytes it has: those of a day, or the digits of a number.
use Rattle.std.proofs.Common.{◌≡◌, ℕ, zero, suc, ◌+◌, ◌<◌, ◌==◌, Bool, true, false, cond, List, [], ◌∷◌, length, take, drop, get_or, Option, Some, None, Ok, refl, ap, ◌∙◌, arith, inl, inr}
use Rattle.std.specs.Prelude.{nat_eq, nat_le, ◌&&◌, not, IsTrue, is_some, option_map, ok_or, slice_index}
use Rattle.std.specs.Borrow.{Bor}
use Rattle.std.specs.Char.{is_ascii_alphanumeric, is_ascii_digit}
use Rattle.std.specs.Cmp.Lexicographic.{pointwise}
use Rattle.std.specs.List.{list_all, list_any}
use Rattle.std.proofs.lemmas.Bool.{cases_Bool, and_parts, or_parts, eqb-true}
use Rattle.std.proofs.lemmas.List.{take_all}
use Rattle.scr_dates.specs.declared.day.Day.{Day}
use Rattle.scr_dates.specs.Text.{has_date_form, has_two_digits, day_of_text}
use Rattle.scr_tables.specs.Names.{is_name, is_name_byte}
use Rattle.scr_fields.specs.FieldForms.{name_of, group_of}
use Rattle.scr_fields.proofs.FormLemmas.{list_all-weaker}
use Rattle.scr_csv.specs.Parts.{parts, behind, first_as}
use Rattle.scr_csv.specs.declared.fault.LineFault.TheVariants.{Syntax}
use Rattle.scr_csv.specs.Reading.{Rest, field, next, read_to}
use Rattle.scr_csv.proofs.Cuts.{cut_at, cut_nowhere, position_is, position_none, pieces_left}

-- ---- bytes that end no field

-- bytes from `-` on are apart from one before it
pub apart : (end : ℕ) (bs : List ℕ) → end < 45 → list_all (nat_le 45) bs ≡ true → list_any (λ b. b == end) bs ≡ false
apart end [] low all = refl
apart end (b ∷ bs) low all =
    let parts = and_parts (nat_le 45 b) (list_all (nat_le 45) bs) all in
    let other : (b == end) ≡ false = grind (arith, low, parts.0) in
    rw other (apart end bs low parts.1)

digit_high : (b : ℕ) → is_ascii_digit b ≡ true → nat_le 45 b ≡ true
digit_high b h = grind (arith, h)

pub digits_apart : (end : ℕ) (bs : List ℕ) → end < 45 → list_all is_ascii_digit bs ≡ true
    → list_any (λ b. b == end) bs ≡ false
digits_apart end bs low all = apart end bs low (list_all-weaker is_ascii_digit (nat_le 45) digit_high bs all)

name_high : (b : ℕ) → is_name_byte b ≡ true → nat_le 45 b ≡ true
name_high b h = grind (arith, h)

pub name_apart : (end : ℕ) (bs : List ℕ) → end < 45 → list_all is_name_byte bs ≡ true → list_any (λ b. b == end) bs ≡ false
name_apart end bs low all = apart end bs low (list_all-weaker is_name_byte (nat_le 45) name_high bs all)

two_high : (x y : ℕ) → (is_ascii_digit x && is_ascii_digit y) ≡ true → (nat_le 45 x ≡ true) × (nat_le 45 y ≡ true)
two_high x y h =
    let parts = and_parts (is_ascii_digit x) (is_ascii_digit y) h in
    (digit_high x parts.0, digit_high y parts.1)

dash_high : (x : ℕ) → (x == 45) ≡ true → nat_le 45 x ≡ true
dash_high x h = grind (arith, h)

first_of : (x a b c d e f : Bool) → ((((((x && a) && b) && c) && d) && e) && f) ≡ true → x ≡ true
first_of true a b c d e f h = refl
first_of false a b c d e f h = absurd (cc)

ten_bytes : (t : List ℕ) → has_date_form t ≡ true → length t ≡ 10
ten_bytes t form =
    eqb-true (length t) 10
    (first_of (length t == 10) (slice_index t 4 == 45) (slice_index t 7 == 45) (has_two_digits t 0) (has_two_digits t 2)
    (has_two_digits t 5) (has_two_digits t 8) form)

date_high : (t : List ℕ) → has_date_form t ≡ true → list_all (nat_le 45) t ≡ true
date_high (a ∷ b ∷ c ∷ d ∷ e ∷ f ∷ g ∷ h ∷ i ∷ j ∷ []) form =
    let to_day = and_parts _ (is_ascii_digit i && is_ascii_digit j) form in
    let to_month = and_parts _ (is_ascii_digit f && is_ascii_digit g) to_day.0 in
    let to_year = and_parts _ (is_ascii_digit c && is_ascii_digit d) to_month.0 in
    let to_century = and_parts _ (is_ascii_digit a && is_ascii_digit b) to_year.0 in
    let dashes = and_parts (e == 45) (h == 45) to_century.0 in
    let century = two_high a b to_century.1 in
    let year = two_high c d to_year.1 in
    let month = two_high f g to_month.1 in
    let day = two_high i j to_day.1 in
    rw (
      century.0,
      century.1,
      year.0,
      year.1,
      dash_high e dashes.0,
      month.0,
      month.1,
      dash_high h dashes.1,
      day.0,
      day.1,
    ) refl
date_high [] form = absurd (cc)
date_high (a ∷ []) form = absurd (cc)
date_high (a ∷ b ∷ []) form = absurd (cc)
date_high (a ∷ b ∷ c ∷ []) form = absurd (cc)
date_high (a ∷ b ∷ c ∷ d ∷ []) form = absurd (cc)
date_high (a ∷ b ∷ c ∷ d ∷ e ∷ []) form = absurd (cc)
date_high (a ∷ b ∷ c ∷ d ∷ e ∷ f ∷ []) form = absurd (cc)
date_high (a ∷ b ∷ c ∷ d ∷ e ∷ f ∷ g ∷ []) form = absurd (cc)
date_high (a ∷ b ∷ c ∷ d ∷ e ∷ f ∷ g ∷ h ∷ []) form = absurd (cc)
date_high (a ∷ b ∷ c ∷ d ∷ e ∷ f ∷ g ∷ h ∷ i ∷ []) form = absurd (cc)
date_high (a ∷ b ∷ c ∷ d ∷ e ∷ f ∷ g ∷ h ∷ i ∷ j ∷ k ∷ rest) form =
    absurd (omega (arith, ten_bytes (a ∷ b ∷ c ∷ d ∷ e ∷ f ∷ g ∷ h ∷ i ∷ j ∷ k ∷ rest) form))

pub day_apart : (end : ℕ) (t : List ℕ) (day : Day) → end < 45 → day_of_text t ≡ Some day
    → list_any (λ b. b == end) t ≡ false
day_apart end t day low h = elim (cases_Bool (has_date_form t)) [
  | inl form ↦ apart end t low (date_high t form)
  | inr other ↦ absurd (cc (rw other at h))
]

-- ---- where it ends

none_before : (test : ℕ → Bool) (bs : List ℕ) (count k : ℕ) → list_any test (take count bs) ≡ false → k < count
    → k < length bs → test (get_or bs k 0) ≡ false
none_before test [] count k none before within = absurd (omega (arith, within))
none_before test (b ∷ bs) zero k none before within = absurd (omega (arith, before))
none_before test (b ∷ bs) (suc count) zero none before within =
    (or_parts (test b) (list_any test (take count bs)) none).0
none_before test (b ∷ bs) (suc count) (suc k) none before within =
    none_before test bs count k (or_parts (test b) (list_any test (take count bs)) none).1
    (omega (arith, before)) (omega (arith, within))

-- it is all that there is
pub first_all : (end : ℕ) (bs : List ℕ) (count : ℕ) → count ≡ length bs → list_any (λ b. b == end) (take count bs) ≡ false
    → parts end bs ≡ take count bs ∷ []
first_all end bs count all none =
    rw (take_all count bs (omega (arith, all))) (cut_nowhere (λ b. b == end) bs
    (position_none (λ b. b == end) bs
    (λ k within. none_before (λ b. b == end) bs count k none (omega (arith, all, within)) within)))

-- the next byte ends it
pub first_before : (end : ℕ) (bs : List ℕ) (count : ℕ) → count < length bs
    → list_any (λ b. b == end) (take count bs) ≡ false → (get_or bs count 0 == end) ≡ true
    → parts end bs ≡ take count bs ∷ parts end (drop (count + 1) bs)
first_before end bs count within none ends =
    cut_at (λ b. b == end) bs count
    (position_is (λ b. b == end) bs count within
    (λ k before. none_before (λ b. b == end) bs count k none before (omega (arith, before, within))) ends)

-- where no text is left, and only there, no field is
pub at_end : (end : ℕ) (rest : Option (Bor (List ℕ))) (ended : Bool) → is_some rest ≡ not ended
    → (IsTrue ended → behind end rest ≡ []) × (behind end rest ≡ [] → IsTrue ended)
at_end end None true h = (λ k. refl, λ k. refl)
at_end end None false h = absurd (cc)
at_end end (Some text) true h = absurd (cc)
at_end end (Some text) false h =
    (λ k. absurd (cc), λ k. absurd (omega (arith, rw k at (pieces_left (λ b. b == end) text.now))))

-- ---- what it stands for

pub first_read : {A : Type 0} (form : List ℕ → Option A) (fields : List (List ℕ)) (field : List ℕ)
    (rest : List (List ℕ)) (a : A) → fields ≡ field ∷ rest → form field ≡ Some a
    → first_as form fields ≡ Some (a, rest)
first_read form fields field rest a is read = rw (is, read) refl

read_first : {A : Type 0} (o : Option A) (number : ℕ) (fields : List (List ℕ)) (a : A) (after : List (List ℕ))
    → option_map {U = A × List (List ℕ)} (λ value. (value, fields)) o ≡ Some (a, after)
    → read_to (ok_or o (Syntax number)) (record { number = number + 1; fields = fields })
    ≡ Ok (a, record { number = number + 1; fields = after })
read_first None number fields a after h = absurd (cc)
read_first {A} (Some b) number fields a after h =
    let pair : ◌≡◌ {A = A × List (List ℕ)} (b, fields) (a, after) = cc in
    let value : b ≡ a = ap (λ p. p.0) pair in
    let rest : fields ≡ after = ap (λ p. p.1) pair in
    rw (value, rest) refl

go : {A : Type 0} (form : List ℕ → Option A) (number : ℕ) (fields : List (List ℕ)) (a : A) (after : List (List ℕ))
    → first_as form fields ≡ Some (a, after)
    → next form (record { number = number; fields = fields }) ≡ Ok (a, record { number = number + 1; fields = after })
unfolding next field
go form number [] a after h = absurd (cc)
go form number (first ∷ fields) a after h =
    read_first (form first) number fields a after h

pub next_first : {A : Type 0} (form : List ℕ → Option A) (rest : Rest) (a : A) (after : List (List ℕ))
    → first_as form rest.fields ≡ Some (a, after)
    → next form rest ≡ Ok (a, record { number = rest.number + 1; fields = after })
next_first form rest a after h = go form rest.number rest.fields a after h

-- a name is that of its own bytes, and as a group it is no dash
pub name_read : (bs : List ℕ) → is_name bs ≡ true → name_of bs ≡ Some bs
unfolding name_of
name_read bs h = rw h refl

no_dash : (b : ℕ) (rest : Bool) → is_ascii_alphanumeric b ≡ true → (nat_eq 45 b && rest) ≡ false
no_dash b rest h = let other : nat_eq 45 b ≡ false = grind (arith, h) in rw other refl

pub group_read : (bs : List ℕ) → is_name bs ≡ true → group_of bs ≡ Some (Some bs)
unfolding name_of group_of
group_read [] h = absurd (cc)
group_read (b ∷ bs) h =
    let front = and_parts (is_ascii_alphanumeric b && list_all is_name_byte bs) (nat_le (length (b ∷ bs)) 32) h in
    let begins = (and_parts (is_ascii_alphanumeric b) (list_all is_name_byte bs) front.0).0 in
    ap (λ t. cond {A = Option (Option (List ℕ))} t (Some None) (option_map Some (name_of (b ∷ bs))))
    (no_dash b (pointwise nat_eq [] bs) begins)
    ∙ ap (option_map (λ name. Some name)) (name_read (b ∷ bs) h)
