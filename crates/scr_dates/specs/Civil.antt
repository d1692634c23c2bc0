-- The civil calendar: dates one day after another, and the numbers that count them (that days are taken from 1900 to
-- 2200 is this project's own).
use Rattle.std.specs.Prelude.{ℕ, zero, suc, ◌+◌, nat_lt, if◌then◌else◌, ℤ, pos, neg_ℤ, ◌+ℤ◌, ◌-ℤ◌, unsigned_abs}
use Rattle.jiff_core.specs.declared.civil.date.Date.{Date}
use Rattle.jiff_core.specs.Calendar.{days_in_month, days_from_civil, IsBetween}

-- a date: its year, its month from 1 and its day of the month from 1
pub record CivilDate : Type 0 where
  pub year : ℤ
  pub month : ℕ
  pub day : ℕ

-- the parts of a date of the library
abbrev pub civil_date : Date → CivilDate
civil_date date = record { year = date.year; month = date.month; day = date.day }

-- the day number of a date: 0 for 1 January 1970, and negative before it
abbrev pub day_number : CivilDate → ℤ
day_number date = days_from_civil date.year date.month date.day

-- the next day of the month, else the first of the next month, else 1 January
abbrev pub next_date : CivilDate → CivilDate
next_date date =
    if nat_lt date.day (days_in_month date.year date.month) then record date { day = date.day + 1 }
    else (if nat_lt date.month 12 then record { year = date.year; month = date.month + 1; day = 1 }
    else record { year = date.year +ℤ pos 1; month = 1; day = 1 })

-- 1 January 1900, the first date that is taken
abbrev pub first_date : CivilDate
first_date = record { year = pos 1900; month = 1; day = 1 }

-- the date so many days after the first
unfoldable pub date_after : ℕ → CivilDate
date_after zero = first_date
date_after (suc days) = next_date (date_after days)

-- the date with a day number, from that of the first date on
abbrev pub date_of : ℤ → CivilDate
date_of number = date_after (unsigned_abs (number -ℤ day_number first_date))

-- a day of the years 1900 to 2200: 1 January 1900 is day -25,567, and 31 December 2200 day 84,370
abbrev pub IsDay : ℤ → Type 0
IsDay number = IsBetween (neg_ℤ (pos 25_567)) (pos 84_370) number
