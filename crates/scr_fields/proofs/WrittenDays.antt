-- A day is read back from its text.
use Rattle.std.proofs.Common.{◌≡◌, ℕ, ℤ, pos, ◌+◌, ◌*◌, ◌-◌, ◌/◌, ◌%◌, ◌<◌, ◌≤◌, ◌-ℤ◌, true, unsigned_abs, List, [], ◌∷◌, Some, refl, sym, ap, subst, ◌∙◌, arith}
use Rattle.std.specs.Prelude.{nat_le}
use Rattle.std.specs.Char.{is_ascii_digit}
use Rattle.jiff_core.specs.declared.civil.date.Date.{Date}
use Rattle.jiff_core.specs.Calendar.{days_in_month}
use Rattle.jiff_core.specs.Date.{epoch_day}
use Rattle.jiff_core.proofs.SignedLemmas.{signed_arith}
use Rattle.jiff_core.proofs.CalendarLemmas.{days_in_month_bounds}
use Rattle.scr_dates.specs.declared.day.Day.{Day}
use Rattle.scr_dates.specs.Civil.{date_of, day_number, first_date, IsDay}
use Rattle.scr_dates.specs.Text.{is_date, day_of_date, has_date_form, day_of_text, written_year, written_month, written_day}
use Rattle.scr_dates.proofs.Dates.{date_after_is, unsigned_abs-same, first_number}
use Rattle.scr_fields.specs.Texts.{tens, ones, date_text, civil_text, day_text, is_taken}
use Rattle.scr_fields.proofs.Days.{date_found}
use Rattle.scr_fields.proofs.PlainTexts.{Plain, digit_plain}

-- ---- two digits

tens_digit : (n : ℕ) → n < 100 → is_ascii_digit (tens n) ≡ true
tens_digit n h =
    let least : 48 ≤ 48 + n / 10 = omega arith in
    let most : 48 + n / 10 ≤ 57 = omega (arith, h) in
    grind (arith, least, most)

ones_digit : (n : ℕ) → is_ascii_digit (ones n) ≡ true
ones_digit n =
    let least : 48 ≤ 48 + n % 10 = omega arith in
    let most : 48 + n % 10 ≤ 57 = omega arith in
    grind (arith, least, most)

two_back : (n : ℕ) → n < 100 → 10 * (tens n - 48) + (ones n - 48) ≡ n
two_back n h = omega (arith, h)

-- ---- dates

record IsTaken (y m d : ℕ) : Type 0 where
  year_least : 1900 ≤ y
  year_most : y ≤ 2200
  month_least : 1 ≤ m
  month_most : m ≤ 12
  day_least : 1 ≤ d
  day_most : d ≤ days_in_month (pos y) m
  short : d < 100

record AreDigits (a b c d e f g h : ℕ) : Type 0 where
  a_is : is_ascii_digit a ≡ true
  b_is : is_ascii_digit b ≡ true
  c_is : is_ascii_digit c ≡ true
  d_is : is_ascii_digit d ≡ true
  e_is : is_ascii_digit e ≡ true
  f_is : is_ascii_digit f ≡ true
  g_is : is_ascii_digit g ≡ true
  h_is : is_ascii_digit h ≡ true

date_form : (a b c d e f g h : ℕ) → AreDigits a b c d e f g h
    → has_date_form (a ∷ b ∷ c ∷ d ∷ 45 ∷ e ∷ f ∷ 45 ∷ g ∷ h ∷ []) ≡ true
date_form a b c d e f g h are = rw (are.a_is, are.b_is, are.c_is, are.d_is, are.e_is, are.f_is, are.g_is, are.h_is) refl

date_digits : (y m d : ℕ) → IsTaken y m d
    → AreDigits (tens (y / 100)) (ones (y / 100)) (tens (y % 100)) (ones (y % 100)) (tens m) (ones m) (tens d) (ones d)
date_digits y m d h = record {
  a_is = tens_digit (y / 100) (omega (arith, h.year_most));
  b_is = ones_digit (y / 100);
  c_is = tens_digit (y % 100) (omega arith);
  d_is = ones_digit (y % 100);
  e_is = tens_digit m (omega (arith, h.month_most));
  f_is = ones_digit m;
  g_is = tens_digit d h.short;
  h_is = ones_digit d;
}

date_is_date : (y m d : ℕ) → IsTaken y m d → is_date y m d ≡ true
date_is_date y m d h =
    let a : nat_le 1900 y ≡ true = grind (arith, h.year_least) in
    let b : nat_le y 2200 ≡ true = grind (arith, h.year_most) in
    let c : nat_le 1 m ≡ true = grind (arith, h.month_least) in
    let e : nat_le m 12 ≡ true = grind (arith, h.month_most) in
    let f : nat_le 1 d ≡ true = grind (arith, h.day_least) in
    let g : nat_le d (days_in_month (pos y) m) ≡ true = grind (arith, h.day_most) in
    rw (a, b, c, e, f, g) refl

year_back : (y : ℕ) → y ≤ 2200
    → 100 * (10 * (tens (y / 100) - 48) + (ones (y / 100) - 48)) + (10 * (tens (y % 100) - 48) + (ones (y % 100) - 48))
    ≡ y
year_back y h =
    let front = two_back (y / 100) (omega (arith, h)) in
    let back = two_back (y % 100) (omega arith) in
    rw (front, back) (omega arith)

-- what is read, of a text of this form
read_form : (text : List ℕ) (y m d : ℕ) → has_date_form text ≡ true → written_year text ≡ y → written_month text ≡ m
    → written_day text ≡ d
    → day_of_text text ≡ day_of_date y m d
read_form text y m d form year month day = rw (form, year, month, day) refl

found_date : (y m d : ℕ) → is_date y m d ≡ true → day_of_date y m d ≡ Some (record {
  number = day_number
      (record { year = pos y; month = m; day = d });
})
found_date y m d h = rw h refl

date_read : (y m d : ℕ) → IsTaken y m d → day_of_text (date_text y m d) ≡ Some (record {
  number = day_number
      (record { year = pos y; month = m; day = d });
})
unfolding date_text
date_read y m d h =
    read_form (date_text y m d) y m d
    (date_form (tens (y / 100)) (ones (y / 100)) (tens (y % 100)) (ones (y % 100)) (tens m) (ones m) (tens d) (ones d)
    (date_digits y m d h))
    (year_back y h.year_most) (two_back m (omega (arith, h.month_most))) (two_back d h.short)
    ∙ found_date y m d (date_is_date y m d h)

ten_plain : (a b c d e f g h : ℕ) → AreDigits a b c d e f g h → Plain (a ∷ b ∷ c ∷ d ∷ 45 ∷ e ∷ f ∷ 45 ∷ g ∷ h ∷ [])
ten_plain a b c d e f g h are =
    rw (
      digit_plain a are.a_is,
      digit_plain b are.b_is,
      digit_plain c are.c_is,
      digit_plain d are.d_is,
      digit_plain e are.e_is,
      digit_plain f are.f_is,
      digit_plain g are.g_is,
      digit_plain h are.h_is,
    ) refl

date_plain : (y m d : ℕ) → IsTaken y m d → Plain (date_text y m d)
unfolding date_text
date_plain y m d h =
    ten_plain (tens (y / 100)) (ones (y / 100)) (tens (y % 100)) (ones (y % 100)) (tens m) (ones m) (tens d) (ones d)
    (date_digits y m d h)

-- ---- days

taken : (z : ℤ) → IsDay z → is_taken z ≡ true
taken z h = grind (arith, h)

-- the date of the library with this number
record Found (number : ℤ) : Type 0 where
  date : Date
  same : epoch_day date ≡ number

found : (number : ℤ) → IsDay number → Found number
found number h =
    let n = unsigned_abs (number -ℤ day_number first_date) in
    let is = unsigned_abs-same (number -ℤ day_number first_date) (omega (arith, signed_arith, first_number, h.0)) in
    let (d, after, same) = date_after_is n (omega (arith, signed_arith, is, first_number, h.1)) in
    record { date = d; same = omega (arith, signed_arith, same, is, first_number) }

record Written (number : ℤ) : Type 0 where
  year : ℕ
  month : ℕ
  day : ℕ
  taken_is : IsTaken year month day
  text_is : civil_text (date_of number) ≡ date_text year month day
  number_is : day_number (record { year = pos year; month = month; day = day }) ≡ number

written : (number : ℤ) → IsDay number → Written number
written number h =
    let f = found number h in
    let d = f.date in
    let of = date_found d number f.same h in
    let y = unsigned_abs d.year in
    let year : pos y ≡ d.year = unsigned_abs-same d.year (omega (arith, signed_arith, of.since)) in
    let long = days_in_month_bounds d.year d.month in
    record {
      year = y;
      month = d.month;
      day = d.day;
      taken_is = record {
        year_least = omega (arith, signed_arith, of.since, year);
        year_most = omega (arith, signed_arith, of.until, year);
        month_least = d.month_in.0;
        month_most = d.month_in.1;
        day_least = d.day_in.0;
        day_most = subst (λ z. d.day ≤ days_in_month z d.month) (sym year) d.day_in.1;
        short = omega (arith, d.day_in.1, long);
      };
      text_is = ap civil_text (sym of.is);
      number_is = ap (λ year. day_number (record { year = year; month = d.month; day = d.day })) year ∙ f.same;
    }

text_of : (day : Day) → IsDay day.number → day_text day ≡ civil_text (date_of day.number)
unfolding day_text
text_of day h = rw (taken day.number h) refl

same_day : (day : Day) (number : ℤ) → number ≡ day.number → Some (let found : Day = record { number = number } in found)
    ≡ Some day
same_day day number h = rw h refl

pub day_read : (day : Day) → IsDay day.number → day_of_text (day_text day) ≡ Some day
day_read day h =
    let w = written day.number h in
    ap day_of_text (text_of day h ∙ w.text_is) ∙ date_read w.year w.month w.day w.taken_is ∙ same_day day _ w.number_is

pub day_plain : (day : Day) → IsDay day.number → Plain (day_text day)
day_plain day h =
    let w = written day.number h in
    subst Plain (sym (text_of day h ∙ w.text_is)) (date_plain w.year w.month w.day w.taken_is)
