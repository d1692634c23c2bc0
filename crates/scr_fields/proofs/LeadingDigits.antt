-- The digits in front of a text spell the number that is read from them.
use Rattle.std.proofs.Common.{◌≡◌, ℕ, ℤ, pos, ◌<◌, ◌≤◌, Bool, true, false, List, [], ◌∷◌, length, take, Some, None, refl, ap, sym, ◌∙◌, arith, inl, inr}
use Rattle.std.specs.Prelude.{nat_le}
use Rattle.std.specs.Char.{is_ascii_digit}
use Rattle.std.specs.List.{list_all, prefix_len, take_while}
use Rattle.std.proofs.lemmas.Bool.{cases_Bool, and_from}
use Rattle.std.proofs.lemmas.List.{take-take, length-take}
use Rattle.std.proofs.lemmas.List.Folds.{length-prefix_len}
use Rattle.std.proofs.lemmas.List.Sums.{take_while-cons, prefix_len-le-length}
use Rattle.scr_fields.specs.Numbers.{decimal_value, number_value, leading_digits, leading_number}
use Rattle.scr_fields.proofs.WrittenNumbers.{unsigned_read}

digits_all : (bs : List ℕ) → list_all is_ascii_digit (take_while is_ascii_digit bs) ≡ true
digits_all [] = refl
digits_all (b ∷ bs) = elim (cases_Bool (is_ascii_digit b)) [
  | inl digit ↦ rw (take_while-cons is_ascii_digit b bs, digit) (and_from (is_ascii_digit b) _ digit (digits_all bs))
  | inr other ↦ rw (take_while-cons is_ascii_digit b bs, other) refl
]

record Found (ds : List ℕ) (z : ℤ) (n : ℕ) : Type 0 where
  some : 0 < length ds
  value : pos (decimal_value ds) ≡ z
  count : length ds ≡ n

found : (text : List ℕ) (z : ℤ) (n : ℕ) → leading_number text ≡ Some (z, n) → Found (leading_digits text) z n
found text z n h = elim (cases_Bool (nat_le 1 (length (leading_digits text)))) [
  | inl some ↦
      let pair : ◌≡◌ {A = ℤ × ℕ} (pos (decimal_value (leading_digits text)), length (leading_digits text)) (z, n) =
      cc (rw some at h) in
      record { some = grind (arith, some); value = ap (λ p. p.0) pair; count = ap (λ p. p.1) pair }
  | inr none ↦ absurd (cc (rw none at h))
]

-- they are digits, and a number of their own
pub record Leading (text : List ℕ) (z : ℤ) (n : ℕ) : Type 0 where
  pub within : n ≤ length text
  pub digits : list_all is_ascii_digit (take n text) ≡ true
  pub read : number_value (take n text) ≡ Some z

pub leading_read : (text : List ℕ) (z : ℤ) (n : ℕ) → leading_number text ≡ Some (z, n) → Leading text z n
leading_read text z n h =
    let front = take 18 text in
    let is = found text z n h in
    let count : prefix_len is_ascii_digit front ≡ n = sym (length-prefix_len is_ascii_digit front) ∙ is.count in
    let least = prefix_len-le-length is_ascii_digit front in
    let few : n ≤ 18 = grind (arith, count, least, length-take) in
    let same : leading_digits text ≡ take n text = ap (λ k. take k front) count ∙ take-take n 18 text few in
    record {
      within = grind (arith, count, least, length-take);
      digits = rw same at (digits_all front);
      read = ap number_value (sym same)
          ∙ unsigned_read (leading_digits text) _ (digits_all front) is.some (grind (arith, few, is.count)) refl
          ∙ ap Some is.value;
    }
