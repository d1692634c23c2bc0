-- A letter and a number are a name.
use Rattle.std.proofs.Common.{◌≡◌, ℕ, suc, ◌+◌, ◌*◌, ◌-◌, ◌<◌, ◌≤◌, ◌^◌, ◌++◌, true, List, ◌∷◌, length, refl, ◌∙◌, Option, Some, None}
use Rattle.std.proofs.Common.{arith, rules, lit<}
use Rattle.std.specs.Prelude.{decimal, nat_le, fold, if◌then◌else◌}
use Rattle.std.specs.Char.{is_ascii_digit, is_ascii_alphanumeric}
use Rattle.std.specs.List.{list_all}
use Rattle.std.proofs.lemmas.Fmt.{digits_decimal, length-decimal-le}
use Rattle.std.proofs.lemmas.Str.Parse.{IsNumeralModel, numerals_by_fold}
use Rattle.scr_tables.specs.Names.{is_name, is_name_byte}
use Rattle.scr_fields.proofs.FormLemmas.{list_all-weaker}
use Rattle.scr_made.specs.Names.{IsLetter}

own : IsNumeralModel (λ ds. list_all is_ascii_digit ds ≡ true)
    (λ ds. fold (λ value digit. value * 10 + (digit - 48)) 0 ds)
own = numerals_by_fold _ (search rules) (λ n ds. fold (λ value digit. value * 10 + (digit - 48)) n ds) (search rules)

digit_in_name : (b : ℕ) → is_ascii_digit b ≡ true → is_name_byte b ≡ true
digit_in_name b h = grind (arith, h)

digits_in_name : (k : ℕ) → k < 2 ^ 32 → list_all is_name_byte (decimal k) ≡ true
digits_in_name k h =
    list_all-weaker is_ascii_digit is_name_byte digit_in_name (decimal k) (digits_decimal own k (omega (arith, h)))

few_digits : (k : ℕ) → k < 2 ^ 32 → length (decimal k) ≤ 10
few_digits k h = length-decimal-le 10 k (lit< tt) (omega (arith, h)) (omega (arith, h))

is_few : (digits : List ℕ) → length digits ≤ 10 → nat_le (suc (length digits)) 32 ≡ true
is_few digits h = grind (arith, h)

letter_first : (letter : ℕ) (digits : List ℕ) → is_ascii_alphanumeric letter ≡ true
    → list_all is_name_byte digits ≡ true → length digits ≤ 10 → is_name (letter ∷ digits) ≡ true
letter_first letter digits first more few = rw (first, more, is_few digits few) refl

pub numbered_name : (text : List ℕ) (k : ℕ) → IsLetter text → k < 2 ^ 32 → is_name (text ++ decimal k) ≡ true
numbered_name text k h small =
    rw h.1 (letter_first h.0 (decimal k) h.2 (digits_in_name k small) (few_digits k small))

-- so it is found where a name is read
pub found : (text letter : List ℕ) (k : ℕ) (read : Option (List ℕ)) → read ≡ (if is_name text then Some text else None)
    → text ≡ letter ++ decimal k → IsLetter letter → k < 2 ^ 32 → read ≡ Some (letter ++ decimal k)
found text letter k read is spelled h small = is ∙ rw (spelled, numbered_name letter k h small) refl
