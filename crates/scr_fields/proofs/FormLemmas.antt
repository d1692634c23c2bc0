-- Currencies have the form of names, what is found in a closed list is of that list, and slices to the end.
use Rattle.std.proofs.Common.{◌≡◌, ℕ, ◌-◌, ◌==◌, Bool, true, false, cond, List, [], ◌∷◌, length, take, drop, refl, Some, IfSome, length-drop, arith}
use Rattle.std.specs.Prelude.{nat_le, find}
use Rattle.std.specs.List.{list_all, AllByRecursion}
use Rattle.std.specs.Char.{is_ascii_uppercase, is_ascii_alphanumeric}
use Rattle.std.proofs.lemmas.Bool.{eqb-true, and_parts, and_from}
use Rattle.std.proofs.lemmas.List.{take_all}
use Rattle.scr_tables.specs.Names.{is_name, is_currency, is_name_byte}

capital_starts : (b : ℕ) → is_ascii_uppercase b ≡ true → is_ascii_alphanumeric b ≡ true
capital_starts b h = grind (arith, h)

capital_in_name : (b : ℕ) → is_ascii_uppercase b ≡ true → is_name_byte b ≡ true
capital_in_name b h = grind (arith, h)

pub list_all-weaker : (p q : ℕ → Bool) → ((b : ℕ) → p b ≡ true → q b ≡ true) → (bs : List ℕ) → list_all p bs ≡ true
    → list_all q bs ≡ true
list_all-weaker p q h [] all = refl
list_all-weaker p q h (b ∷ bs) all =
    let parts = and_parts (p b) (list_all p bs) all in
    rw (h b parts.0, list_all-weaker p q h bs parts.1) refl

-- three capitals are a name
pub is_name-from_currency : (code : List ℕ) → is_currency code ≡ true → is_name code ≡ true
is_name-from_currency [] h = absurd (cc)
is_name-from_currency (b ∷ bs) h =
    let parts = and_parts (length (b ∷ bs) == 3) (list_all is_ascii_uppercase (b ∷ bs)) h in
    let capitals = and_parts (is_ascii_uppercase b) (list_all is_ascii_uppercase bs) parts.1 in
    let few : nat_le (length (b ∷ bs)) 32 ≡ true = grind (arith, eqb-true _ _ parts.0) in
    and_from _ _ (and_from _ _ (capital_starts b capitals.0)
    (list_all-weaker is_ascii_uppercase is_name_byte capital_in_name bs capitals.1)) few

-- what holds of each value of a list holds of the one that is found
pub found_is : {A : Type 0} (P : A → Type 0) (test : A → Bool) (values : List A) → AllByRecursion P values
    → IfSome (find test values) P
found_is P test [] all = tt
found_is P test (value ∷ values) all =
    elim (test value) as (λ b. IfSome (cond b (Some value) (find test values)) P)
    [ true ↦ all.0 | false ↦ found_is P test values all.1 ]

-- a slice to the end is what is left
pub all_left : (n : ℕ) (xs : List ℕ) → take (length xs - n) (drop n xs) ≡ drop n xs
all_left n xs = take_all _ (drop n xs) (grind (arith, length-drop))
