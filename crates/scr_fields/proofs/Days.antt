-- The date of a day of the years 1900 to 2200.
use Rattle.std.proofs.Common.{◌≡◌, ℤ, pos, ◌≤ℤ◌, sym, subst, arith}
use Rattle.std.proofs.lemmas.Int.{by_lt_z}
use Rattle.jiff_core.specs.declared.civil.date.Date.{Date}
use Rattle.jiff_core.specs.Date.{epoch_day}
use Rattle.jiff_core.proofs.SignedLemmas.{signed_arith}
use Rattle.scr_dates.specs.Civil.{civil_date, date_of, IsDay}
use Rattle.scr_dates.proofs.Dates.{date_of-epoch_day, year_in_range, first_number, days_from_civil-lt_year}

pub record DateOf (d : Date) (number : ℤ) : Type 0 where
  pub is : civil_date d ≡ date_of number
  pub since : pos 1900 ≤ℤ d.year
  pub until : d.year ≤ℤ pos 2200

date_is : (d : Date) → IsDay (epoch_day d) → DateOf d (epoch_day d)
date_is d h = record {
  is = sym (date_of-epoch_day d h.0);
  since = by_lt_z d.year (pos 1900)
      (λ lt. absurd (omega (
        arith,
        signed_arith,
        first_number,
        days_from_civil-lt_year d.year d.month d.day (pos 1900) 1 1
            (d.year_in, d.month_in, d.day_in) (omega arith) lt,
        h.0,
      )))
      (λ ge. ge);
  until = year_in_range d.year d.month d.day (d.year_in, d.month_in, d.day_in) h.1;
}

pub date_found : (d : Date) (number : ℤ) → epoch_day d ≡ number → IsDay number → DateOf d number
date_found d number same h = subst (DateOf d) same (date_is d (subst IsDay (sym same) h))
