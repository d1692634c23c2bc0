-- How many years it is to a payment (this project's own).
use Rattle.std.specs.Prelude.{ℕ, zero, suc, ◌+◌, ◌<◌, ◌≤◌, nat_le, nat_lt, Bool, not, ◌&&◌, ◌||◌, ◌==◌, int_le, if◌then◌else◌, ℤ, pos, ◌+ℤ◌, ◌-ℤ◌, ◌<ℤ◌, ◌≤ℤ◌, unsigned_abs}
use Rattle.jiff_core.specs.Calendar.{is_leap_year}
use Rattle.scr_dates.specs.declared.term.Maturity.{Maturity}
use Rattle.scr_dates.specs.declared.term.Maturity.TheVariants.{Past, Years, TooFar}
use Rattle.scr_dates.specs.Civil.{CivilDate, day_number, date_of}

-- the same day of the same month n years later, and 28 February for 29 February in a year that has none
abbrev pub years_later : CivilDate → ℕ → CivilDate
years_later date n =
    let year = date.year +ℤ pos n in
    let is_lost = (date.month == 2) && (date.day == 29) && not (is_leap_year year) in
    record { year = year; month = date.month; day = if is_lost then 28 else date.day }

-- a date comes later in its year than another in its own
abbrev pub is_later_in_year : CivilDate → CivilDate → Bool
is_later_in_year date other = nat_lt date.month other.month || ((date.month == other.month) && nat_lt date.day other.day)

-- the day n years after the reference day
abbrev pub anniversary : ℤ → ℕ → ℤ
anniversary asof n = day_number (years_later (date_of asof) n)

-- the reference date plus n years is on or after the payment date
abbrev pub is_reached : ℤ → ℤ → ℕ → Bool
is_reached asof pay n = int_le pay (anniversary asof n)

-- the least number from n on that passes the test, or n + more if none before that does
unfoldable pub least_from : (ℕ → Bool) → ℕ → ℕ → ℕ
least_from test zero n = n
least_from test (suc more) n = if test n then n else least_from test more (n + 1)

-- the least n of 1 or more for which the reference date plus n years is on or after the payment date
-- (it is at most one more than the days between the two dates, since a year has more than a day)
unfoldable pub years_to : ℤ → ℤ → ℕ
years_to asof pay = least_from (is_reached asof pay) (unsigned_abs (pay -ℤ asof)) 1

-- the maturity of a payment: past on or before the reference date, else that number of years, which is
-- too far above 100
abbrev pub maturity_of : ℤ → ℤ → Maturity
maturity_of asof pay =
    let years = years_to asof pay in
    if int_le pay asof then Past
    else (if nat_le years 100 then Years years else TooFar years)

-- n years from 1 on reach the payment date, and fewer do not
pub record IsLeast (asof pay : ℤ) (n : ℕ) : Type 0 where
  pub least_one : 1 ≤ n
  pub reached : pay ≤ℤ anniversary asof n
  pub fewer : (k : ℕ) → 1 ≤ k → k < n → anniversary asof k <ℤ pay

-- the same as a relation, with nothing to search for
abbrev pub IsMaturity : ℤ → ℤ → Maturity → Type 0
IsMaturity asof pay Past = pay ≤ℤ asof
IsMaturity asof pay (Years n) = (asof <ℤ pay) × IsLeast asof pay n × (n ≤ 100)
IsMaturity asof pay (TooFar n) = (asof <ℤ pay) × IsLeast asof pay n × (100 < n)
