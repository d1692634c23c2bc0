-- How many years it is from the reference dates of a made book to its last payment.
use Rattle.std.proofs.Common.{◌≡◌, ℕ, zero, suc, ◌+◌, ◌<◌, ◌≤◌, Bool, true, false, cond, if◌then◌else◌, List, [], ◌∷◌, inl, inr, ℤ, pos, neg_ℤ, ◌-ℤ◌, ◌≤ℤ◌, int_le, unsigned_abs, nat_le, refl, sym, ap, ◌∙◌, subst, arith, lit≤}
use Rattle.std.specs.List.{AllByRecursion}
use Rattle.std.proofs.lemmas.Bool.{cases_lt}
use Rattle.jiff_core.specs.declared.civil.date.Date.{Date}
use Rattle.jiff_core.specs.Calendar.{IsCivilDate, IsYear, days_from_civil, days_of_months, days_of_years, day_count}
use Rattle.jiff_core.specs.Date.{epoch_day}
use Rattle.jiff_core.proofs.SignedLemmas.{signed_arith}
use Rattle.scr_dates.specs.Civil.{CivilDate, civil_date, day_number}
use Rattle.scr_dates.specs.Payments.{greatest_years, years_of}
use Rattle.scr_dates.specs.Years.{anniversary, is_reached, least_from, maturity_of, years_later, years_to}
use Rattle.scr_dates.specs.declared.day.Day.{Day}
use Rattle.scr_dates.specs.declared.term.Maturity.TheVariants.{Past, Years, TooFar}
use Rattle.scr_dates.proofs.Anniversaries.{int_le-yes}
use Rattle.scr_dates.proofs.Dates.{date_of-epoch_day, days_from_civil-lt_year}
use Rattle.scr_made.specs.Days.{day_on, midyear, year_end}

-- 31 December 2054, on or before which all is paid
abbrev pub last_paid : ℤ
last_paid = pos 31045

abbrev pub ArePaid : List (Day × ℤ) → Type 0
ArePaid flows = AllByRecursion (λ flow. flow.0.number ≤ℤ last_paid) flows

-- what is paid by then is at most 100 years away
abbrev pub InSight : ℤ → Type 0
InSight asof = (pay : ℤ) → pay ≤ℤ last_paid → years_of (maturity_of asof pay) ≤ 100

pub greatest-in_sight : (asof : ℤ) → InSight asof → (flows : List (Day × ℤ)) → ArePaid flows → greatest_years asof flows ≤ 100
greatest-in_sight asof sight [] paid = omega arith
greatest-in_sight asof sight (flow ∷ flows) paid =
    let here = sight flow.0.number paid.0 in
    let rest = greatest-in_sight asof sight flows paid.1 in
    omega (arith, here, rest)

-- ---- the search for the number of years ends by the first number that passes

least_step : (t : Bool) (n k rest : ℕ) → n ≤ k → rest ≤ k → cond t n rest ≤ k
least_step true n k rest h most = h
least_step false n k rest h most = most

least-le : (test : ℕ → Bool) (more n k : ℕ) → n ≤ k → test k ≡ true → least_from test more n ≤ k
unfolding least_from
least-le test zero n k h passes = h
least-le test (suc more) n k h passes =
    elim (cases_lt n k) [
      | inl lt ↦ least_step (test n) n k (least_from test more (n + 1)) h
          (least-le test more (n + 1) k (omega arith) passes)
      | inr ge ↦
          let same : n ≡ k = omega arith in
          let here : test n ≡ true = ap test same ∙ passes in
          subst (λ t. cond t n (least_from test more (n + 1)) ≤ k) (sym here) h
    ]

matured : (past near : Bool) (n : ℕ) → n ≤ 100 → years_of (if past then Past else (if near then Years n else TooFar n)) ≤ 100
matured true near n h = omega arith
matured false true n h = h
matured false false n h = h

-- so all is in sight where the last payment is within 30 years
seen : (asof : ℤ) → last_paid ≤ℤ anniversary asof 30 → InSight asof
unfolding years_to
seen asof far pay h =
    let reached : is_reached asof pay 30 ≡ true = int_le-yes pay (anniversary asof 30) (omega (arith, signed_arith, far, h)) in
    let few = least-le (is_reached asof pay) (unsigned_abs (pay -ℤ asof)) 1 30 (lit≤ tt) reached in
    matured (int_le pay asof) (nat_le (years_to asof pay) 100) (years_to asof pay) (omega (arith, few))

-- ---- the two reference dates

number-2024 : days_from_civil (pos 2024) 12 31 ≡ pos 20088
unfolding days_from_civil day_count days_of_years days_of_months
number-2024 = refl

number-2025 : days_from_civil (pos 2025) 12 31 ≡ pos 20453
unfolding days_from_civil day_count days_of_years days_of_months
number-2025 = refl

number-2054 : days_from_civil (pos 2054) 12 31 ≡ pos 31045
unfolding days_from_civil day_count days_of_years days_of_months
number-2054 = refl

number-2055 : days_from_civil (pos 2055) 12 31 ≡ pos 31410
unfolding days_from_civil day_count days_of_years days_of_months
number-2055 = refl

first-2055 : days_from_civil (pos 2055) 1 1 ≡ pos 31046
unfolding days_from_civil day_count days_of_years days_of_months
first-2055 = refl

from_date : (d : Date) → neg_ℤ (pos 25_567) ≤ℤ epoch_day d → last_paid ≤ℤ day_number (years_later (civil_date d) 30) → InSight (epoch_day d)
from_date d low far =
    let is = date_of-epoch_day d low in
    seen (epoch_day d) (subst (λ date. last_paid ≤ℤ day_number (years_later date 30)) (sym is) far)

-- 31 December of a year
ending : (year : ℕ) → 1 ≤ year → year ≤ 9999 → Date
ending year first last = record {
  year = pos year;
  month = 12;
  day = 31;
  year_in = (omega (arith, signed_arith), omega (arith, signed_arith));
  month_in = (lit≤ tt, lit≤ tt);
  day_in = (lit≤ tt, lit≤ tt);
}

pub seen-2024 : InSight (year_end 2024).number
unfolding day_on ending
seen-2024 = from_date (ending 2024 (lit≤ tt) (lit≤ tt)) (omega (arith, signed_arith, number-2024)) (omega (arith, signed_arith, number-2054))

pub seen-2025 : InSight (year_end 2025).number
unfolding day_on ending
seen-2025 = from_date (ending 2025 (lit≤ tt) (lit≤ tt)) (omega (arith, signed_arith, number-2025)) (omega (arith, signed_arith, number-2055))

-- ---- the days of payments

paid_in : (year month day : ℕ) → year ≤ 2054 → IsCivilDate (pos year) month day → (day_on year month day).number ≤ℤ last_paid
unfolding day_on
paid_in year month day h civil =
    let before = days_from_civil-lt_year (pos year) month day (pos 2055) 1 1 civil (lit≤ tt) (omega (arith, signed_arith, h)) in
    omega (arith, signed_arith, before, first-2055)

is_year : (year : ℕ) → 2024 ≤ year → year ≤ 2054 → IsYear (pos year)
is_year year low high = (omega (arith, signed_arith), omega (arith, signed_arith))

pub midyear_paid : (year : ℕ) → 2024 ≤ year → year ≤ 2054 → (midyear year).number ≤ℤ last_paid
midyear_paid year low high = paid_in year 6 30 high (is_year year low high, (lit≤ tt, lit≤ tt), (lit≤ tt, lit≤ tt))

pub year_end_paid : (year : ℕ) → 2024 ≤ year → year ≤ 2054 → (year_end year).number ≤ℤ last_paid
year_end_paid year low high = paid_in year 12 31 high (is_year year low high, (lit≤ tt, lit≤ tt), (lit≤ tt, lit≤ tt))
