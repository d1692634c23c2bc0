-- The anniversaries of a date, and the least number of years to a payment.
use Rattle.std.proofs.Common.{◌≡◌, ℕ, zero, suc, ◌+◌, ◌<◌, ◌≤◌, ◌⊎◌, inl, inr, nat_lt, Bool, true, false, not, ◌&&◌, ◌||◌, ◌==◌, cond, min, sym, arith, ℤ, pos, neg_ℤ, ◌+ℤ◌, ◌-ℤ◌, ◌<ℤ◌, ◌≤ℤ◌, int_le, unsigned_abs, add-one}
use Rattle.std.proofs.lemmas.Bool.{cases_lt}
use Rattle.std.proofs.lemmas.Bool.Decides.{nat_tests}
use Rattle.std.proofs.lemmas.Int.{ints, by_lt_z}
use Rattle.jiff_core.specs.declared.civil.date.Date.{Date}
use Rattle.jiff_core.specs.Calendar.{days_in_month, is_leap_year, IsCivilDate}
use Rattle.jiff_core.specs.Date.{epoch_day}
use Rattle.jiff_core.proofs.SignedLemmas.{signed_arith}
use Rattle.jiff_core.proofs.CalendarLemmas.{days_in_month_bounds}
use Rattle.jiff_core.proofs.DateLemmas.{civil, epoch_day-lt, epoch_day_same}
use Rattle.scr_dates.specs.Civil.{civil_date, day_number}
use Rattle.scr_dates.specs.Years.{years_later, is_reached, least_from, years_to, IsLeast}
use Rattle.scr_dates.proofs.Dates.{days_from_civil-lt_year, date_of-epoch_day, unsigned_abs-same, year_in_range}

-- the day number of the date n years later
abbrev pub date_anniversary : Date → ℕ → ℤ
date_anniversary d n = day_number (years_later (civil_date d) n)

-- of the days of a month only 29 February can be missing in another year
kept_day : (year : ℤ) (later : ℤ) (month day : ℕ) → day ≤ days_in_month year month
    → cond ((month == 2) && (day == 29) && not (is_leap_year later)) 28 day ≡ min day (days_in_month later month)
kept_day year later month day h = grind (arith, nat_tests)

-- the anniversary is a date
pub anniversary_civil : (d : Date) (n : ℕ) → (d.year +ℤ pos n) ≤ℤ pos 9999
    → IsCivilDate (d.year +ℤ pos n) d.month (years_later (civil_date d) n).day
anniversary_civil d n h =
    let long = days_in_month_bounds (d.year +ℤ pos n) d.month in
    let day = kept_day d.year (d.year +ℤ pos n) d.month d.day d.day_in.1 in
    ((omega (arith, signed_arith, d.year_in), h), d.month_in, rw day (omega (arith, d.day_in), omega arith))

-- a later anniversary has a greater day number
pub anniversary-lt : (d : Date) (n k : ℕ) → (d.year +ℤ pos k) ≤ℤ pos 9999 → n < k
    → date_anniversary d n <ℤ date_anniversary d k
anniversary-lt d n k h lt =
    days_from_civil-lt_year _ _ _ _ _ _ (anniversary_civil d n (omega (arith, signed_arith)))
    (anniversary_civil d k h).2.0 (omega (arith, signed_arith))

-- no years later it is the same day
pub anniversary-zero : (d : Date) → date_anniversary d 0 ≡ epoch_day d
anniversary-zero d =
    let same : d.year +ℤ pos 0 ≡ d.year = omega (arith, signed_arith) in
    let kept : min d.day (days_in_month d.year d.month) ≡ d.day = omega (arith, d.day_in) in
    rw (same, kept_day d.year d.year d.month d.day d.day_in.1, kept)

-- n years are at least n days
pub anniversary-days : (d : Date) (n : ℕ) → (d.year +ℤ pos n) ≤ℤ pos 9999
    → (epoch_day d +ℤ pos n) ≤ℤ date_anniversary d n
anniversary-days d zero h = omega (arith, signed_arith, anniversary-zero d)
anniversary-days d (suc n) h =
    omega (
      arith,
      signed_arith,
      anniversary-days d n (omega (arith, signed_arith)),
      anniversary-lt d n (suc n) h (omega arith),
    )

-- the search finds the first number that passes
pub least_from-is : (test : ℕ → Bool) (more n k : ℕ) → n ≤ k → k ≤ more + n → ((j : ℕ) → n ≤ j → j < k → test j ≡ false)
    → test k ≡ true → least_from test more n ≡ k
unfolding least_from
least_from-is test zero n k low high below here = omega arith
least_from-is test (suc more) n k low high below here =
    elim (cases_lt n k) [
      | inl lt ↦ rw (below n (omega arith) lt)
          (least_from-is test more (n + 1) k (omega arith) (omega arith) (λ j a b. below j (omega arith) b) here)
      | inr ge ↦ let same : n ≡ k = omega arith in rw same (rw here)
    ]

pub int_le-yes : (a b : ℤ) → a ≤ℤ b → int_le a b ≡ true
int_le-yes a b h = grind (arith, ints)

int_le-no : (a b : ℤ) → b <ℤ a → int_le a b ≡ false
int_le-no a b h = grind (arith, ints)

-- the search answers the least number of years
pub record Found (asof pay : ℤ) (n : ℕ) : Type 0 where
  pub value : n ≡ years_to asof pay
  pub least : IsLeast asof pay n

-- that is the number whose anniversary reaches the payment, where the one before it does not
pub found_after : (d : Date) (pay : ℤ) (n : ℕ) → neg_ℤ (pos 25_567) ≤ℤ epoch_day d → (d.year +ℤ pos (n + 1)) ≤ℤ pos 9999
    → date_anniversary d n <ℤ pay → pay ≤ℤ date_anniversary d (n + 1) → Found (epoch_day d) pay (n + 1)
unfolding years_to
found_after d pay n low high before reached =
    let is = date_of-epoch_day d low in
    let days = anniversary-days d n (omega (arith, signed_arith)) in
    let early : (j : ℕ) → j ≤ n → date_anniversary d j <ℤ pay = λ j le. elim (cases_lt j n) [
      | inl lt ↦ omega (arith, signed_arith, anniversary-lt d j n (omega (arith, signed_arith)) lt)
      | inr ge ↦ let same : j ≡ n = omega arith in rw same before
    ] in
    let span = unsigned_abs-same (pay -ℤ epoch_day d) (omega (arith, signed_arith)) in
    record {
      value = sym
          (least_from-is (is_reached (epoch_day d) pay) (unsigned_abs (pay -ℤ epoch_day d)) 1 (n + 1) (omega arith)
          (omega (arith, signed_arith))
          (λ j a b. rw is (int_le-no pay (date_anniversary d j) (early j (omega arith))))
          (rw is (int_le-yes _ _ reached)));
      least = record {
        least_one = omega arith;
        reached = rw is reached;
        fewer =
            λ k a b. rw is (early k (omega arith));
      };
    }

-- the year of an earlier day is not later
pub year-le : (d e : Date) → epoch_day d <ℤ epoch_day e → d.year ≤ℤ e.year
year-le d e h = by_lt_z e.year d.year
    (λ lt. let turned = days_from_civil-lt_year e.year e.month e.day d.year d.month d.day (civil e) d.day_in.0 lt in
    absurd (omega (arith, signed_arith)))
    (λ le. le)

-- where the anniversary in the payment's year is too early, the next one is the first to reach it
pub found_next : (d e : Date) (n : ℕ) → neg_ℤ (pos 25_567) ≤ℤ epoch_day d → epoch_day e ≤ℤ pos 84_370
    → d.year +ℤ pos n ≡ e.year → date_anniversary d n <ℤ epoch_day e → Found (epoch_day d) (epoch_day e) (n + 1)
found_next d e n low last year before =
    let end = year_in_range e.year e.month e.day (civil e) last in
    let high : (d.year +ℤ pos (n + 1)) ≤ℤ pos 9999 = omega (arith, signed_arith) in
    let next = anniversary_civil d (n + 1) high in
    let later : e.year <ℤ (d.year +ℤ pos (n + 1)) = omega (arith, signed_arith) in
    let after = days_from_civil-lt_year e.year e.month e.day (d.year +ℤ pos (n + 1)) d.month
    (years_later (civil_date d) (n + 1)).day (civil e) next.2.0 later in
    found_after d (epoch_day e) n low high before (omega (arith, signed_arith, after))

-- and where it is not, it is the first itself
pub found_same : (d e : Date) (n : ℕ) → neg_ℤ (pos 25_567) ≤ℤ epoch_day d → epoch_day d <ℤ epoch_day e
    → d.year +ℤ pos n ≡ e.year → epoch_day e ≤ℤ date_anniversary d n → Found (epoch_day d) (epoch_day e) n
found_same d e zero low ahead year reached = absurd (omega (arith, signed_arith, anniversary-zero d))
found_same d e (suc n) low ahead year reached =
    let here : (d.year +ℤ pos n) ≤ℤ pos 9999 = omega (arith, signed_arith, e.year_in) in
    let there : (d.year +ℤ pos (n + 1)) ≤ℤ pos 9999 = omega (arith, signed_arith, e.year_in) in
    let before = days_from_civil-lt_year (d.year +ℤ pos n) d.month
    (years_later (civil_date d) n).day e.year e.month e.day (anniversary_civil d n here) e.day_in.0
    (omega (arith, signed_arith)) in
    rw (← add-one) (found_after d (epoch_day e) n low there before (rw add-one reached))

-- ---- what it is to come later in a year, and what it is not
pub later_is : (m n d e : ℕ) → (nat_lt m n || ((m == n) && nat_lt d e)) ≡ true → (m < n) ⊎ ((m ≡ n) × (d < e))
later_is m n d e h =
    elim (cases_lt m n) [
      | inl lt ↦ inl lt
      | inr ge ↦
          let same : m ≡ n = grind (arith, nat_tests) in
          let less : d < e = grind (arith, nat_tests) in
          inr (same, less)
    ]

pub other_is : (m n d e : ℕ) → (nat_lt m n || ((m == n) && nat_lt d e)) ≡ false → (n < m) ⊎ ((n ≡ m) × (e ≤ d))
other_is m n d e h =
    elim (cases_lt n m) [
      | inl lt ↦ inl lt
      | inr ge ↦
          let same : n ≡ m = grind (arith, nat_tests) in
          let least : e ≤ d = grind (arith, nat_tests) in
          inr (same, least)
    ]

-- ---- a date and the anniversary in its year, by their months and days
module _ (d e : Date) (n : ℕ) (year : d.year +ℤ pos n ≡ e.year) where
  in_range : (d.year +ℤ pos n) ≤ℤ pos 9999
  in_range = omega (arith, signed_arith, e.year_in)

  -- the anniversary as a date of the library
  there : Date
  there =
      let c = anniversary_civil d n in_range in
      record { year = d.year +ℤ pos n; month = d.month; day = (years_later (civil_date d) n).day; year_in = c.0; month_in = c.1; day_in = c.2 }

  its_day : (years_later (civil_date d) n).day ≡ min d.day (days_in_month e.year d.month)
  its_day = rw (← year) (kept_day d.year (d.year +ℤ pos n) d.month d.day d.day_in.1)

  pub anniversary_before : (d.month < e.month) ⊎ ((d.month ≡ e.month) × (d.day < e.day)) → date_anniversary d n <ℤ epoch_day e
  unfolding there
  anniversary_before (inl month) = epoch_day-lt there e (inr (year, inl month))
  anniversary_before (inr (month, day)) = epoch_day-lt there e (inr (year, inr (month, omega (arith, its_day, day))))

  pub anniversary_reached : (e.month < d.month) ⊎ ((e.month ≡ d.month) × (e.day ≤ d.day)) → epoch_day e ≤ℤ date_anniversary d n
  unfolding there
  anniversary_reached (inl month) = let lt = epoch_day-lt e there (inr (sym year, inl month)) in omega (arith, signed_arith, lt)
  anniversary_reached (inr (month, day)) =
      let most : e.day ≤ days_in_month e.year d.month = rw (← month) e.day_in.1 in
      elim (cases_lt e.day (years_later (civil_date d) n).day) [
        | inl before ↦ let lt = epoch_day-lt e there (inr (sym year, inr (month, before))) in omega (arith, signed_arith, lt)
        | inr after ↦
            let same = epoch_day_same e there (sym year) month (omega (arith, its_day, day, most, after)) in
            omega (arith, signed_arith, same)
      ]
