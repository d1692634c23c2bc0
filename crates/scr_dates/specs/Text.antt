-- The text of a date, `YYYY-MM-DD` (this project's own).
use Rattle.std.specs.Prelude.{ℕ, ◌+◌, ◌-◌, ◌*◌, nat_le, Bool, ◌&&◌, ◌==◌, if◌then◌else◌, List, length, slice_index, Option, Some, None, pos}
use Rattle.std.specs.Char.{is_ascii_digit}
use Rattle.jiff_core.specs.Calendar.{days_in_month}
use Rattle.scr_dates.specs.declared.day.Day.{Day}
use Rattle.scr_dates.specs.Civil.{day_number}

-- the bytes at k and k + 1 are digits
abbrev pub has_two_digits : List ℕ → ℕ → Bool
has_two_digits text k = is_ascii_digit (slice_index text k) && is_ascii_digit (slice_index text (k + 1))

-- the number that those two digits write
abbrev pub two_digits : List ℕ → ℕ → ℕ
two_digits text k = 10 * (slice_index text k - 48) + (slice_index text (k + 1) - 48)

-- digits in all places but the fifth and the eighth
abbrev pub has_eight_digits : List ℕ → Bool
has_eight_digits text = ((has_two_digits text 0 && has_two_digits text 2) && has_two_digits text 5) && has_two_digits text 8

-- ten bytes: digits, but for a dash (45) in the fifth and in the eighth place
abbrev pub has_date_form : List ℕ → Bool
has_date_form text =
    (length text == 10) && (slice_index text 4 == 45) && (slice_index text 7 == 45)
    && has_two_digits text 0 && has_two_digits text 2 && has_two_digits text 5 && has_two_digits text 8

-- the year, the month and the day that are written there
abbrev pub written_year : List ℕ → ℕ
written_year text = 100 * two_digits text 0 + two_digits text 2

abbrev pub written_month : List ℕ → ℕ
written_month text = two_digits text 5

abbrev pub written_day : List ℕ → ℕ
written_day text = two_digits text 8

-- the calendar has this date, and it lies in the years 1900 to 2200
abbrev pub is_date : ℕ → ℕ → ℕ → Bool
is_date year month day =
    nat_le 1900 year && nat_le year 2200 && nat_le 1 month && nat_le month 12
    && nat_le 1 day && nat_le day (days_in_month (pos year) month)

-- its day
abbrev pub day_of_date : ℕ → ℕ → ℕ → Option Day
day_of_date year month day =
    if is_date year month day
    then Some (record { number = day_number (record { year = pos year; month = month; day = day }) })
    else None

-- the day that a text writes, if it writes such a date in this form
abbrev pub day_of_text : List ℕ → Option Day
day_of_text text =
    if has_date_form text then day_of_date (written_year text) (written_month text) (written_day text)
    else None
