-- A text is a name where all its bytes are those of a name, and the first is a letter or a digit.
use Rattle.std.proofs.Common.{◌≡◌, ℕ, zero, suc, ◌<◌, ◌≤◌, min, true, false, List, [], ◌∷◌, length, take, Option, Some, None, if◌then◌else◌, refl, ap, sym, ◌∙◌, arith, inl, inr}
use Rattle.std.specs.Prelude.{nat_le, ◌&&◌}
use Rattle.std.specs.Char.{is_ascii_alphanumeric}
use Rattle.std.specs.List.{list_all, prefix_len, take_while}
use Rattle.std.proofs.lemmas.Bool.{cases_Bool, cases_lt, and_from, and_parts}
use Rattle.std.proofs.lemmas.List.{take-take, take_all, length-take}
use Rattle.std.proofs.lemmas.List.Folds.{length-prefix_len}
use Rattle.std.proofs.lemmas.List.Sums.{take_while-cons, prefix_len-le-length}
use Rattle.scr_tables.specs.Names.{is_name, is_name_byte, begins_name, name_bytes, leading_name}

bytes_all : (bs : List ℕ) → list_all is_name_byte (take_while is_name_byte bs) ≡ true
bytes_all [] = refl
bytes_all (b ∷ bs) = elim (cases_Bool (is_name_byte b)) [
  | inl own ↦ rw (take_while-cons is_name_byte b bs, own) (and_from (is_name_byte b) _ own (bytes_all bs))
  | inr other ↦ rw (take_while-cons is_name_byte b bs, other) refl
]

all_are : (bs : List ℕ) → list_all is_name_byte bs ≡ true → take_while is_name_byte bs ≡ bs
all_are [] all = refl
all_are (b ∷ bs) all =
    let parts = and_parts (is_name_byte b) (list_all is_name_byte bs) all in
    take_while-cons is_name_byte b bs ∙ rw (parts.0) (ap (λ r. b ∷ r) (all_are bs parts.1))

first_own : (b : ℕ) → is_ascii_alphanumeric b ≡ true → is_name_byte b ≡ true
first_own b h = grind (arith, h)

-- where the front is as long as the text it is the text
whole_front : (text : List ℕ) → length (take_while is_name_byte text) ≡ length text → take_while is_name_byte text ≡ text
whole_front text long =
    let count : prefix_len is_name_byte text ≡ length text = sym (length-prefix_len is_name_byte text) ∙ long in
    ap (λ k. take k text) count ∙ take_all (length text) text (omega arith)

is_name-from : (text : List ℕ) → begins_name text ≡ true → length text ≤ 32
    → length (take_while is_name_byte text) ≡ length text → is_name text ≡ true
is_name-from [] begins few long = absurd (cc)
is_name-from (b ∷ bs) begins few long =
    let all : list_all is_name_byte (b ∷ bs) ≡ true = rw (whole_front (b ∷ bs) long) at (bytes_all (b ∷ bs)) in
    let rest = (and_parts (is_name_byte b) (list_all is_name_byte bs) all).1 in
    let short : nat_le (length (b ∷ bs)) 32 ≡ true = grind (arith, few) in
    and_from _ _ (and_from _ _ begins rest) short

-- and it is none where it begins otherwise, is longer, or has another byte
no_name-begins : (text : List ℕ) → begins_name text ≡ false → is_name text ≡ false
no_name-begins [] begins = refl
no_name-begins (b ∷ bs) begins = rw begins refl

no_name-long : (text : List ℕ) → 32 < length text → is_name text ≡ false
no_name-long [] long = refl
no_name-long (b ∷ bs) long =
    let short : nat_le (length (b ∷ bs)) 32 ≡ false = grind (arith, long) in
    grind (arith, short)

no_name-byte : (text : List ℕ) → (length (take_while is_name_byte text) ≡ length text → ⊥) → is_name text ≡ false
no_name-byte [] other = refl
no_name-byte (b ∷ bs) other = elim (cases_Bool (is_name (b ∷ bs))) [
  | inl named ↦
      let parts = and_parts (is_ascii_alphanumeric b && list_all is_name_byte bs) (nat_le (length (b ∷ bs)) 32) named in
      let both = and_parts (is_ascii_alphanumeric b) (list_all is_name_byte bs) parts.0 in
      let all : list_all is_name_byte (b ∷ bs) ≡ true = and_from _ _ (first_own b both.0) both.1 in
      absurd (other (ap length (all_are (b ∷ bs) all)))
  | inr none ↦ none
]

-- ---- what is told of a text

abbrev told : List ℕ → Option (List ℕ)
told text = if is_name text then Some text else None

pub told_name : (text name : List ℕ) (n : ℕ) → begins_name text ≡ true → length text ≤ 32
    → name ≡ take_while is_name_byte text → n ≡ length (take_while is_name_byte text) → n ≡ length text
    → Some name ≡ told text
told_name text name n begins few named counted all =
    let long : length (take_while is_name_byte text) ≡ length text = sym counted ∙ all in
    rw (is_name-from text begins few long) (ap Some (named ∙ whole_front text long))

pub told_otherwise : (text : List ℕ) → begins_name text ≡ false → None ≡ told text
told_otherwise text other = rw (no_name-begins text other) refl

pub told_long : (text : List ℕ) → 32 < length text → None ≡ told text
told_long text long = rw (no_name-long text long) refl

pub told_byte : (text : List ℕ) (n : ℕ) → n ≡ length (take_while is_name_byte text) → (n ≡ length text → ⊥)
    → None ≡ told text
told_byte text n counted other =
    rw (no_name-byte text (λ long. other (counted ∙ long))) refl

pub is_told : (text name : List ℕ) (n : ℕ) → begins_name text ≡ true → length text ≤ 32
    → name ≡ take_while is_name_byte text → n ≡ length (take_while is_name_byte text) → n ≡ length text
    → is_name name ≡ true
is_told text name n begins few named counted all =
    let long : length (take_while is_name_byte text) ≡ length text = sym counted ∙ all in
    ap is_name (named ∙ whole_front text long) ∙ is_name-from text begins few long

-- ---- the bytes of a name in front of a longer text

-- it is told by the first byte alone
begins_front : (n : ℕ) (text : List ℕ) → 0 < n → begins_name (take n text) ≡ begins_name text
begins_front zero text some = absurd (omega (arith, some))
begins_front (suc n) [] some = refl
begins_front (suc n) (b ∷ bs) some = refl

front_is : (text : List ℕ) (m : ℕ) → m ≡ min (length text) 32 → take m text ≡ take 32 text
front_is text m is = elim (cases_lt (length text) 32) [
  | inl short ↦
      take_all m text (omega (arith, is, short)) ∙ sym (take_all 32 text (omega (arith, short)))
  | inr long ↦
      let same : m ≡ 32 = omega (arith, is, long) in
      ap (λ k. take k text) same
]

begins_is : (text : List ℕ) (m : ℕ) → m ≡ min (length text) 32 → begins_name (take m text) ≡ begins_name text
begins_is text m is = ap begins_name (front_is text m is) ∙ begins_front 32 text (omega arith)

pub found_name : (text name : List ℕ) (m n : ℕ) → m ≡ min (length text) 32 → begins_name (take m text) ≡ true
    → name ≡ take_while is_name_byte (take m text) → n ≡ length (take_while is_name_byte (take m text))
    → ◌≡◌ {A = Option (List ℕ × ℕ)} (Some (name, n)) (leading_name text)
found_name text name m n is begins named counted =
    let front = front_is text m is in
    let own : name ≡ name_bytes text = named ∙ ap (take_while is_name_byte) front in
    let count : n ≡ length (name_bytes text) = counted ∙ ap (λ bs. length (take_while is_name_byte bs)) front in
    rw (sym (begins_is text m is) ∙ begins, own, count) refl

pub found_none : (text : List ℕ) (m : ℕ) → m ≡ min (length text) 32 → begins_name (take m text) ≡ false
    → ◌≡◌ {A = Option (List ℕ × ℕ)} None (leading_name text)
found_none text m is other = rw (sym (begins_is text m is) ∙ other) refl

few_named : (bs : List ℕ) → begins_name bs ≡ true → length bs ≤ 32 → is_name (take_while is_name_byte bs) ≡ true
few_named [] begins few = absurd (cc)
few_named (b ∷ bs) begins few =
    let own : take_while is_name_byte (b ∷ bs) ≡ b ∷ take_while is_name_byte bs =
    take_while-cons is_name_byte b bs ∙ rw (first_own b begins) refl in
    let least = prefix_len-le-length is_name_byte bs in
    let count = length-prefix_len is_name_byte bs in
    let short : nat_le (length (b ∷ take_while is_name_byte bs)) 32 ≡ true = grind (arith, few, least, count) in
    ap is_name own ∙ and_from _ _ (and_from _ _ begins (bytes_all bs)) short

-- they are a name, and one of the text's own front
pub record Leading (text name : List ℕ) (n : ℕ) : Type 0 where
  pub within : n ≤ length text
  pub front : name ≡ take n text
  pub named : is_name (take n text) ≡ true
  pub bytes : list_all is_name_byte (take n text) ≡ true

pub leading_read : (text name : List ℕ) (n : ℕ) → leading_name text ≡ Some (name, n) → Leading text name n
leading_read text name n h = elim (cases_Bool (begins_name text)) [
  | inl begins ↦
      let front = take 32 text in
      let pair : ◌≡◌ {A = List ℕ × ℕ} (name_bytes text, length (name_bytes text)) (name, n) = cc (rw begins at h) in
      let count : prefix_len is_name_byte front ≡ n =
      sym (length-prefix_len is_name_byte front) ∙ ap (λ p. p.1) pair in
      let least = prefix_len-le-length is_name_byte front in
      let size : length front ≡ min 32 (length text) = length-take 32 text in
      let few : n ≤ 32 = omega (arith, count, least, size) in
      let same : name_bytes text ≡ take n text = ap (λ k. take k front) count ∙ take-take n 32 text few in
      let short : length front ≤ 32 = omega (arith, size) in
      record {
        within = omega (arith, count, least, size);
        front = sym (ap (λ p. p.0) pair) ∙ same;
        named = ap is_name (sym same)
            ∙ few_named front (begins_front 32 text (omega arith) ∙ begins) short;
        bytes = rw same at (bytes_all front);
      }
  | inr other ↦ absurd (cc (rw other at h))
]
