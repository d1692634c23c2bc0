-- The days on which the made book pays (this project's own).
use Rattle.std.specs.Prelude.{ℕ, pos}
use Rattle.scr_dates.specs.declared.day.Day.{Day}
use Rattle.scr_dates.specs.Civil.{day_number}

unfoldable pub day_on : ℕ → ℕ → ℕ → Day
day_on year month day = record { number = day_number (record { year = pos year; month = month; day = day }) }

-- 30 June
abbrev pub midyear : ℕ → Day
midyear year = day_on year 6 30

-- 31 December
abbrev pub year_end : ℕ → Day
year_end year = day_on year 12 31
