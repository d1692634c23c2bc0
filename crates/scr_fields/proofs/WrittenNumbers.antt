-- A number is read back from its text.
use Rattle.std.proofs.Common.{◌≡◌, ℕ, suc, ℤ, pos, negsuc, neg_ℤ, ◌+◌, ◌*◌, ◌-◌, ◌^◌, ◌<◌, ◌≤◌, ◌==◌, true, false, List, [], ◌∷◌, length, Some, refl, ap, codes, arith, rules, lit<}
use Rattle.std.specs.Prelude.{fold, nat_le, nat_eq, option_map}
use Rattle.std.specs.Fmt.{decimal}
use Rattle.std.specs.Char.{is_ascii_digit}
use Rattle.std.specs.List.{list_all}
use Rattle.std.proofs.lemmas.Fmt.{digits_decimal, digits_value-decimal, length-decimal-le, decimal_nonempty}
use Rattle.std.proofs.lemmas.Str.Parse.{IsNumeralModel, numerals_by_fold}
use Rattle.std.proofs.lemmas.Bool.{and_parts}
use Rattle.scr_sheet.specs.Forms.{IsNumber}
use Rattle.scr_fields.specs.Numbers.{decimal_value, digits_value, number_value}
use Rattle.scr_fields.specs.Texts.{number_text}
use Rattle.scr_fields.specs.Words.{is_text}
use Rattle.scr_fields.proofs.FormLemmas.{list_all-weaker}
use Rattle.scr_fields.proofs.PlainTexts.{Plain, is_plain, digit_plain}

own : IsNumeralModel (λ ds. list_all is_ascii_digit ds ≡ true)
    (λ ds. fold (λ value digit. value * 10 + (digit - 48)) 0 ds)
own = numerals_by_fold _ (search rules) (λ n ds. fold (λ value digit. value * 10 + (digit - 48)) n ds) (search rules)

digits_found : (ds : List ℕ) (n : ℕ) → list_all is_ascii_digit ds ≡ true → 0 < length ds → length ds ≤ 18
    → decimal_value ds ≡ n → digits_value ds ≡ Some n
digits_found ds n all some few value =
    let least : nat_le 1 (length ds) ≡ true = grind (arith, some) in
    let most : nat_le (length ds) 18 ≡ true = grind (arith, few) in
    rw (least, most, all, value) refl

no_dash : (b : ℕ) → is_ascii_digit b ≡ true → (b == 45) ≡ false
no_dash b h = grind (arith, h)

pub unsigned_read : (ds : List ℕ) (n : ℕ) → list_all is_ascii_digit ds ≡ true → 0 < length ds → length ds ≤ 18
    → decimal_value ds ≡ n → number_value ds ≡ Some (pos n)
unsigned_read [] n all some few value = absurd (omega (arith, some))
unsigned_read (b ∷ bs) n all some few value =
    rw (
      no_dash b (and_parts (is_ascii_digit b) (list_all is_ascii_digit bs) all).0,
      digits_found
          (b ∷ bs) n all some few value,
    ) refl

record Digits (n : ℕ) : Type 0 where
  all : list_all is_ascii_digit (decimal n) ≡ true
  some : 0 < length (decimal n)
  few : length (decimal n) ≤ 18
  value : decimal_value (decimal n) ≡ n

small : (n : ℕ) → n < 10 ^ 18 → n < 2 ^ 64
small n h = omega (arith, h)

digits_of : (n : ℕ) → n < 10 ^ 18 → Digits n
digits_of n h = record {
  all = digits_decimal own n (small n h);
  some = decimal_nonempty n (small n h);
  few = length-decimal-le 18 n (lit< tt) h (small n h);
  value = digits_value-decimal own n (small n h);
}

pub number_read : (z : ℤ) → IsNumber z → number_value (number_text z) ≡ Some z
number_read (pos n) h = let d = digits_of n h in unsigned_read (decimal n) n d.all d.some d.few d.value
number_read (negsuc n) h =
    let d = digits_of (suc n) h in
    ap (option_map (λ n. neg_ℤ (pos n))) (digits_found (decimal (suc n)) (suc n) d.all d.some d.few d.value)

digits_plain : (n : ℕ) → n < 10 ^ 18 → Plain (decimal n)
digits_plain n h = list_all-weaker is_ascii_digit is_plain digit_plain (decimal n) (digits_of n h).all

pub number_plain : (z : ℤ) → IsNumber z → Plain (number_text z)
number_plain (pos n) h = digits_plain n h
number_plain (negsuc n) h = digits_plain (suc n) h

dash_apart : (b : ℕ) → is_ascii_digit b ≡ true → nat_eq 45 b ≡ false
dash_apart b h = grind (arith, h)

digits_no_dash : (ds : List ℕ) → list_all is_ascii_digit ds ≡ true → 0 < length ds → is_text (codes "-") ds ≡ false
digits_no_dash [] h some = absurd (omega (arith, some))
digits_no_dash (b ∷ bs) h some = rw (dash_apart b (and_parts (is_ascii_digit b) (list_all is_ascii_digit bs) h).0) refl

-- a number of at least 0 is not the `-` that stands for none
pub number_no_dash : (n : ℕ) → n < 10 ^ 18 → is_text (codes "-") (number_text (pos n)) ≡ false
number_no_dash n h = let d = digits_of n h in digits_no_dash (decimal n) d.all d.some
