-- A text that is taken names a day of the years 1900 to 2200.
use Rattle.std.proofs.Common.{◌≡◌, ℕ, ◌≤◌, Bool, true, false, List, Some, None, IfSome, cond, refl, arith, rules, ℤ, pos}
use Rattle.std.proofs.lemmas.Bool.Decides.{nat_tests}
use Rattle.jiff_core.specs.Calendar.{days_in_month, days_from_civil}
use Rattle.jiff_core.proofs.SignedLemmas.{signed_arith}
use Rattle.scr_dates.specs.declared.day.Day.{Day}
use Rattle.scr_dates.specs.Civil.{IsDay}
use Rattle.scr_dates.specs.Text.{is_date, day_of_date, has_date_form, day_of_text, written_year, written_month, written_day}
use Rattle.scr_dates.proofs.Dates.{day_in_range}

-- what the test of a date says
pub record DateParts (year month day : ℕ) : Type 0 where
  pub year_in : (1900 ≤ year) × (year ≤ 2200)
  pub month_in : (1 ≤ month) × (month ≤ 12)
  pub day_in : (1 ≤ day) × (day ≤ days_in_month (pos year) month)

is_date-parts : (year month day : ℕ) → is_date year month day ≡ true → DateParts year month day
is_date-parts year month day h = record {
  year_in = grind (arith, nat_tests);
  month_in = grind (arith, nat_tests);
  day_in = grind (arith, nat_tests);
}

pub day_of_date-range : (year month day : ℕ) → IfSome (day_of_date year month day) (λ found. IsDay found.number)
day_of_date-range year month day = go (is_date year month day) refl
  where
    number : ℤ
    number = days_from_civil (pos year) month day

    go : (b : Bool) → is_date year month day ≡ b
        → IfSome (cond b (Some (let day : Day = record { number = number } in day)) None) (λ found. IsDay found.number)
    go true h =
        let p = is_date-parts year month day h in
        day_in_range (pos year) month day
        ((omega (arith, signed_arith, p.year_in), omega (arith, signed_arith, p.year_in)), p.month_in, p.day_in)
        (omega (arith, signed_arith, p.year_in)) (omega (arith, signed_arith, p.year_in))
    go false h = search rules

pub day_of_text-range : (text : List ℕ) → IfSome (day_of_text text) (λ found. IsDay found.number)
day_of_text-range text = go (has_date_form text)
  where
    go : (b : Bool) → IfSome (cond b (day_of_date (written_year text) (written_month text) (written_day text)) None)
        (λ found. IsDay found.number)
    go true = day_of_date-range (written_year text) (written_month text) (written_day text)
    go false = search rules
