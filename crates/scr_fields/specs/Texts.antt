-- How numbers, days and what may be lacking are written (this project's own).
use Rattle.std.specs.Prelude.{ℕ, ℤ, pos, neg_ℤ, ◌+◌, ◌/◌, ◌%◌, ◌||◌, Bool, not, int_lt, unsigned_abs, List, [], ◌∷◌, Option, Some, None, codes, if◌then◌else◌}
use Rattle.std.specs.Fmt.{signed_decimal}
use Rattle.scr_dates.specs.declared.day.Day.{Day}
use Rattle.scr_dates.specs.Civil.{CivilDate, date_of}

-- the digits without leading zeros, after a `-` where the number is below 0
abbrev pub number_text : ℤ → List ℕ
number_text z = signed_decimal z

-- the two digits of a number below 100
abbrev pub tens : ℕ → ℕ
tens n = 48 + n / 10

abbrev pub ones : ℕ → ℕ
ones n = 48 + n % 10

-- `YYYY-MM-DD` of a date of the years 0 to 9999
unfoldable pub date_text : ℕ → ℕ → ℕ → List ℕ
date_text year month day =
    tens (year / 100) ∷ ones (year / 100) ∷ tens (year % 100) ∷ ones (year % 100)
    ∷ 45 ∷ tens month ∷ ones month ∷ 45 ∷ tens day ∷ ones day ∷ []

-- 1 January 1900 to 31 December 2200
abbrev pub is_taken : ℤ → Bool
is_taken number = not (int_lt number (neg_ℤ (pos 25_567)) || int_lt (pos 84_370) number)

abbrev pub civil_text : CivilDate → List ℕ
civil_text date = date_text (unsigned_abs date.year) date.month date.day

-- the date of a day that records may have; another has no text
unfoldable pub day_text : Day → List ℕ
day_text day = if is_taken day.number then civil_text (date_of day.number) else []

-- `-` where there is none
abbrev pub or_dash : Option (List ℕ) → List ℕ
or_dash None = codes "-"
or_dash (Some text) = text

abbrev pub step_text : Option ℕ → List ℕ
step_text None = codes "-"
step_text (Some step) = number_text (pos step)
