-- How many lists of payments end on each day of the years 1900 to 2200 (this project's own). The days stand in blocks of
-- so many places, so that the last day that counts is found in few steps.
use Rattle.std.specs.Prelude.{◌≡◌, ℕ, ◌<◌, ◌/◌, ◌%◌, ◌&&◌, List, [], Option, Some, None, if◌then◌else◌, ℤ, pos, neg_ℤ}
use Rattle.std.specs.Prelude.{◌-ℤ◌, ◌<ℤ◌, int_le, slice_index_or, unsigned_abs}
use Rattle.scr_dates.specs.Civil.{IsDay}
use Rattle.scr_dates.specs.declared.day.Day.{Day}
use Rattle.scr_counters.specs.Counts.{count_at}

-- the days from 1 January 1900 to a day
abbrev pub days_to : ℤ → ℕ
days_to day = unsigned_abs (day -ℤ neg_ℤ (pos 25_567))

-- how often a day was counted
unfoldable pub count_of : ℤ → List (List ℕ) → ℕ
count_of day blocks = count_at (slice_index_or blocks (days_to day / 438) []) (days_to day % 438)

-- a list of payments with this last day, if it has a payment, ends on the day: once or not at all
abbrev pub ends_on : ℤ → Option Day → ℕ
ends_on day None = 0
ends_on day (Some last) = if int_le day last.number && int_le last.number day then 1 else 0

-- a day of the years 1900 to 2200, where there is one
abbrev pub IsDayOrNone : Option Day → Type 0
IsDayOrNone None = Unit {0}
IsDayOrNone (Some day) = IsDay day.number

-- the day is one of the calendar, it was counted, and no later one was; or no day was counted
abbrev pub IsLast : List (List ℕ) → Option Day → Type 0
IsLast blocks None = (day : ℤ) → IsDay day → count_of day blocks ≡ 0
IsLast blocks (Some last) =
    IsDay last.number × (0 < count_of last.number blocks) × ((day : ℤ) → IsDay day → last.number <ℤ day → count_of day blocks ≡ 0)
