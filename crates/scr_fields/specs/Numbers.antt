-- The numbers of a record (this project's own): an optional `-` and 1 to 18 digits.
use Rattle.std.specs.Prelude.{ℕ, ℤ, pos, neg_ℤ, ◌+◌, ◌-◌, ◌*◌, ◌==◌, ◌&&◌, Bool, List, [], ◌∷◌, Option, Some, None, if◌then◌else◌, length, take, nat_le, fold, option_map}
use Rattle.std.specs.Char.{is_ascii_digit}
use Rattle.std.specs.List.{list_all, take_while}

-- what digits stand for, of which the first counts most: `fold` takes them from the left
abbrev pub decimal_value : List ℕ → ℕ
decimal_value digits = fold (λ value digit. value * 10 + (digit - 48)) 0 digits

-- 1 to 18 digits, of which those in front may be 0
abbrev pub are_digits : List ℕ → Bool
are_digits digits = (nat_le 1 (length digits) && nat_le (length digits) 18) && list_all is_ascii_digit digits

abbrev pub digits_value : List ℕ → Option ℕ
digits_value digits = if are_digits digits then Some (decimal_value digits) else None

-- a `-` before the digits turns the sign, and `-0` is 0
abbrev pub number_value : List ℕ → Option ℤ
number_value [] = None
number_value (b ∷ bytes) = if b == 45 then option_map (λ n. neg_ℤ (pos n)) (digits_value bytes) else option_map pos
    (digits_value (b ∷ bytes))

-- the digits in front of a text, of which at most 18 are looked at
abbrev pub leading_digits : List ℕ → List ℕ
leading_digits text = take_while is_ascii_digit (take 18 text)

-- the number that these digits spell, and how many they are
abbrev pub leading_number : List ℕ → Option (ℤ × ℕ)
leading_number text =
    if nat_le 1 (length (leading_digits text))
    then Some (pos (decimal_value (leading_digits text)), length (leading_digits text)) else None
