-- Payments (this project's own): each a day and an amount.
use Rattle.std.specs.Prelude.{ℕ, ℤ, List, [], ◌∷◌, Option, Some, None, if◌then◌else◌, int_lt, max, sum_by, unsigned_abs}
use Rattle.std.specs.List.{AllByRecursion}
use Rattle.scr_dates.specs.Civil.{IsDay}
use Rattle.scr_dates.specs.Years.{maturity_of}
use Rattle.scr_dates.specs.declared.{day.Day.Day, term.Maturity.Maturity}
use Rattle.scr_dates.specs.declared.term.Maturity.TheVariants as maturities

-- the absolute amounts, summed
abbrev pub total : List (Day × ℤ) → ℕ
total flows = sum_by (λ flow. unsigned_abs flow.1) flows

-- the later of two days, of which the first may be missing
abbrev pub later : Option Day → Day → Day
later None day = day
later (Some last) day = if int_lt last.number day.number then day else last

-- the last of these days and those of the payments
abbrev pub last_from : Option Day → List (Day × ℤ) → Option Day
last_from last [] = last
last_from last (flow ∷ flows) = last_from (Some (later last flow.0)) flows

-- the last day of a payment
abbrev pub last_day : List (Day × ℤ) → Option Day
last_day flows = last_from None flows

-- payments on days of the calendar
abbrev pub AreOnDays : List (Day × ℤ) → Type 0
AreOnDays flows = AllByRecursion (λ flow. IsDay flow.0.number) flows

-- the years of a maturity, none for a payment that is past
abbrev pub years_of : Maturity → ℕ
years_of maturities.Past = 0
years_of (maturities.Years n) = n
years_of (maturities.TooFar n) = n

-- the greatest number of years from the reference date to a payment
abbrev pub greatest_years : ℤ → List (Day × ℤ) → ℕ
greatest_years asof [] = 0
greatest_years asof (flow ∷ flows) = max (years_of (maturity_of asof flow.0.number)) (greatest_years asof flows)
