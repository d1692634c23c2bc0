-- Day numbers of the years 1900 to 2200, and the dates that they name.
use Rattle.std.proofs.Common.{◌≡◌, ℕ, zero, suc, ◌+◌, ◌<◌, ◌≤◌, inl, inr, refl, sym, ap, ◌∙◌, arith, rules, ℤ, pos, negsuc, neg_ℤ, ◌+ℤ◌, ◌-ℤ◌, ◌<ℤ◌, ◌≤ℤ◌, unsigned_abs, lt-ltb, le-ltb}
use Rattle.std.proofs.lemmas.Bool.{cases_lt}
use Rattle.std.proofs.lemmas.Int.{by_lt_z}
use Rattle.jiff_core.specs.declared.civil.date.Date.{Date}
use Rattle.jiff_core.specs.Calendar.{days_from_civil, days_in_month, IsCivilDate}
use Rattle.jiff_core.specs.Date.{epoch_day}
use Rattle.jiff_core.proofs.SignedLemmas.{signed_arith}
use Rattle.jiff_core.proofs.MarchLemmas.{day_count-early}
use Rattle.jiff_core.proofs.CalendarLemmas.{days_from_civil-day_count, day_count-lt_year, day_count-day_of_year, days_in_month_bounds}
use Rattle.jiff_core.proofs.DateLemmas.{epoch_day_injective, days_from_civil-day, days_from_civil-next_month, days_from_civil-next_year, days_from_civil-max, epoch_day_range}
use Rattle.scr_dates.specs.Civil.{CivilDate, civil_date, day_number, next_date, first_date, date_after, date_of, IsDay}

-- the first day that is taken, and the day after the last
pub first_number : day_number first_date ≡ neg_ℤ (pos 25_567)
first_number =
    omega (
      arith,
      signed_arith,
      days_from_civil-day_count,
      day_count-early (pos 1900) 11899 1 1 refl (omega arith)
          (omega arith) (omega arith),
    )

pub end_number : days_from_civil (pos 2201) 1 1 ≡ pos 84_371
end_number =
    omega (
      arith,
      signed_arith,
      days_from_civil-day_count,
      day_count-early (pos 2201) 12200 1 1 refl (omega arith)
          (omega arith) (omega arith),
    )

-- dates of an earlier year have smaller day numbers
pub days_from_civil-lt_year : (y : ℤ) (m d : ℕ) (y₂ : ℤ) (m₂ d₂ : ℕ) → IsCivilDate y m d → 1 ≤ d₂ → y <ℤ y₂
    → days_from_civil y m d <ℤ days_from_civil y₂ m₂ d₂
days_from_civil-lt_year y m d y₂ m₂ d₂ h first lt =
    omega (arith, signed_arith, days_from_civil-day_count, day_count-lt_year y m d y₂ m₂ d₂ h first lt)

-- and none of a year lies before its 1 January
pub days_from_civil-first : (y : ℤ) (m d : ℕ) → IsCivilDate y m d → days_from_civil y 1 1 ≤ℤ days_from_civil y m d
days_from_civil-first y m d h =
    omega (arith, signed_arith, days_from_civil-day_count, day_count-day_of_year y m d h.2.0)

pub day_in_range : (y : ℤ) (m d : ℕ) → IsCivilDate y m d → pos 1900 ≤ℤ y → y ≤ℤ pos 2200 → IsDay (days_from_civil y m d)
day_in_range y m d h low high =
    let below = days_from_civil-lt_year y m d (pos 2201) 1 1 h (omega arith) (omega (arith, signed_arith)) in
    let above : neg_ℤ (pos 25_567) ≤ℤ days_from_civil y m d = by_lt_z (pos 1900) y
    (λ lt. omega
    (arith, signed_arith, first_number, days_from_civil-lt_year (pos 1900) 1 1 y m d (search rules) h.2.0 lt))
    (λ ge. let same : y ≡ pos 1900 = omega (arith, signed_arith) in
    let first = days_from_civil-first y m d h in
    rw same (omega (arith, signed_arith, first_number, rw same at first))) in
    (above, omega (arith, signed_arith, end_number))

-- no day up to the last is of a later year than 2200
pub year_in_range : (y : ℤ) (m d : ℕ) → IsCivilDate y m d → days_from_civil y m d ≤ℤ pos 84_370 → y ≤ℤ pos 2200
year_in_range y m d h in_range =
    by_lt_z (pos 2200) y
    (λ lt. by_lt_z (pos 2201) y
    (λ more. let after = days_from_civil-lt_year (pos 2201) 1 1 y m d (search rules) h.2.0 more in
    absurd (omega (arith, signed_arith, end_number)))
    (λ le. let same : y ≡ pos 2201 = omega (arith, signed_arith) in
    let first = days_from_civil-first y m d h in
    absurd (omega (arith, signed_arith, end_number, ap (λ z. days_from_civil z 1 1) same))))
    (λ le. le)

next_day : (date : CivilDate) → date.day < days_in_month date.year date.month
    → next_date date ≡ record date { day = date.day + 1 }
next_day date h = rw (lt-ltb _ _ h)

next_month : (date : CivilDate) → days_in_month date.year date.month ≤ date.day → date.month < 12
    → next_date date ≡ record { year = date.year; month = date.month + 1; day = 1 }
next_month date h k = rw (le-ltb _ _ h, lt-ltb _ _ k)

next_year : (date : CivilDate) → days_in_month date.year date.month ≤ date.day → 12 ≤ date.month
    → next_date date ≡ record { year = date.year +ℤ pos 1; month = 1; day = 1 }
next_year date h k = rw (le-ltb _ _ h, le-ltb _ _ k)

-- the next date has the next number
pub next : (d : Date) → epoch_day d <ℤ pos 2_932_896
    → (e : Date) × (civil_date e ≡ next_date (civil_date d)) × (epoch_day e ≡ epoch_day d +ℤ pos 1)
next d h =
    let long = days_in_month_bounds d.year (d.month + 1) in
    elim (cases_lt d.day (days_in_month d.year d.month)) [
      | inl within ↦ (
        record {
          year = d.year;
          month = d.month;
          day = d.day + 1;
          year_in = d.year_in;
          month_in = d.month_in;
          day_in =
              (omega arith, omega arith);
        },
        sym (next_day (civil_date d) within),
        omega (arith, signed_arith, days_from_civil-day d.year d.month d.day (d.day + 1) d.day_in.0 (omega arith)),
      )
      | inr full ↦
          let last : d.day ≡ days_in_month d.year d.month = omega (arith, d.day_in) in
          elim (cases_lt d.month 12) [
            | inl more ↦ (
              record {
                year = d.year;
                month = d.month + 1;
                day = 1;
                year_in = d.year_in;
                month_in =
                    (omega arith, omega arith);
                day_in = (omega arith, omega arith);
              },
              sym (next_month (civil_date d) full more),
              days_from_civil-next_month d.year d.month d.day d.month_in.0 last,
            )
            | inr december ↦
                let twelve : d.month ≡ 12 = omega (arith, d.month_in) in
                let day : d.day ≡ 31 = rw twelve at last in
                by_lt_z d.year (pos 9999)
                (λ lt. (
                  record {
                    year = d.year +ℤ pos 1;
                    month = 1;
                    day = 1;
                    year_in =
                        (omega (arith, signed_arith, d.year_in), omega (arith, signed_arith));
                    month_in =
                        search rules;
                    day_in = (omega arith, omega (arith, days_in_month_bounds (d.year +ℤ pos 1) 1));
                  },
                  sym (next_year (civil_date d) full december),
                  rw (twelve, day)
                      (days_from_civil-next_year d.year (d.year +ℤ pos 1)
                      (omega (arith, signed_arith, d.year_in)) refl),
                ))
                (λ ge. let same : d.year ≡ pos 9999 = omega (arith, signed_arith, d.year_in) in
                let number : epoch_day d ≡ pos 2_932_896 = rw (same, twelve, day) days_from_civil-max in
                absurd (omega (arith, signed_arith)))
          ]
    ]

first : Date
first = record {
  year = pos 1900;
  month = 1;
  day = 1;
  year_in = search rules;
  month_in = search rules;
  day_in =
      search rules;
}

-- the dates after the first are those of the library, with the numbers in a row
pub date_after_is : (n : ℕ) → n ≤ 2_958_463
    → (d : Date) × (date_after n ≡ civil_date d) × (epoch_day d ≡ pos n +ℤ neg_ℤ (pos 25_567))
unfolding date_after first
date_after_is zero h = (first, refl, omega (arith, signed_arith, first_number))
date_after_is (suc n) h =
    let (d, is, number) = date_after_is n (omega arith) in
    let (e, step, more) = next d (omega (arith, signed_arith, number)) in
    (e, ap next_date is ∙ sym step, omega (arith, signed_arith, number, more))

-- a number of at least 0 is its size
pub unsigned_abs-same : (z : ℤ) → pos 0 ≤ℤ z → pos (unsigned_abs z) ≡ z
unsigned_abs-same (pos n) h = refl
unsigned_abs-same (negsuc n) h = absurd (omega (arith, signed_arith))

same_date : (n : ℕ) (e d : Date) → date_after n ≡ civil_date e → epoch_day e ≡ epoch_day d → date_after n ≡ civil_date d
same_date n e d is number = let (year, month, day) = epoch_day_injective e d number in is ∙ rw (year, month, day)

-- so a date of the library is the date with its number
pub date_of-epoch_day : (d : Date) → neg_ℤ (pos 25_567) ≤ℤ epoch_day d → date_of (epoch_day d) ≡ civil_date d
date_of-epoch_day d low =
    let range = epoch_day_range d in
    let n = unsigned_abs (epoch_day d -ℤ day_number first_date) in
    let is = unsigned_abs-same (epoch_day d -ℤ day_number first_date) (omega (arith, signed_arith, first_number)) in
    let (e, same, number) = date_after_is n (omega (arith, signed_arith, range, is, first_number)) in
    same_date n e d same (omega (arith, signed_arith, number, is, first_number))
