-- The names of groups, securities, funds, lines, banks and reinsurers, and the codes of currencies (this project's
-- own).
use Rattle.std.specs.Prelude.{ℕ, ◌-◌, ◌++◌, ◌==◌, ◌&&◌, ◌||◌, Bool, false, List, [], ◌∷◌, Option, Some, None, if◌then◌else◌, length, take, fold, nat_le, nat_eq, replicate}
use Rattle.std.specs.Char.{is_ascii_alphanumeric, is_ascii_uppercase}
use Rattle.std.specs.List.{list_all, take_while}
use Rattle.std.specs.Ordering.{nat_cmp, is_lt}
use Rattle.std.specs.Cmp.Lexicographic.{pointwise, slice_cmp}

-- a letter, a digit, or one of `_`, `.` and `-`
abbrev pub is_name_byte : ℕ → Bool
is_name_byte b = ((is_ascii_alphanumeric b || (b == 95)) || (b == 46)) || (b == 45)

-- 1 to 32 bytes, of which the first is a letter or a digit
abbrev pub is_name : List ℕ → Bool
is_name [] = false
is_name (b ∷ bs) = (is_ascii_alphanumeric b && list_all is_name_byte bs) && nat_le (length (b ∷ bs)) 32

-- the first byte is a letter or a digit
abbrev pub begins_name : List ℕ → Bool
begins_name [] = false
begins_name (b ∷ bs) = is_ascii_alphanumeric b

-- the bytes of a name in front of a text, of which at most 32 are looked at
abbrev pub name_bytes : List ℕ → List ℕ
name_bytes text = take_while is_name_byte (take 32 text)

-- the name that these bytes are, and how many they are
abbrev pub leading_name : List ℕ → Option (List ℕ × ℕ)
leading_name text = if begins_name text then Some (name_bytes text, length (name_bytes text)) else None

-- three letters A to Z
abbrev pub is_currency : List ℕ → Bool
is_currency code = (length code == 3) && list_all is_ascii_uppercase code

-- two names are one where their bytes are the same
abbrev pub same_name : List ℕ → List ℕ → Bool
same_name a b = pointwise nat_eq a b

-- the 32 places of a name's bytes, of which those after its end are 0
abbrev pub padded : List ℕ → List ℕ
padded bytes = bytes ++ replicate (32 - length bytes) 0

-- the earlier of two names in byte order, where there are two
abbrev pub earlier : Option (List ℕ) → List ℕ → Option (List ℕ)
earlier None name = Some name
earlier (Some first) name = if is_lt (slice_cmp nat_cmp name first) then Some name else Some first

-- the first of the names in byte order, if there is one
abbrev pub first_in_order : List (List ℕ) → Option (List ℕ)
first_in_order names = fold earlier None names
