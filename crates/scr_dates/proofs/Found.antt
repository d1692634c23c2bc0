-- The first anniversary that reaches a payment gives its years.
use Rattle.std.proofs.Common.{◌≡◌, ℕ, zero, suc, ◌+◌, ◌<◌, ◌≤◌, inl, inr, false, Bool, refl, sym, ap, ◌∙◌, subst, arith, List, length, get_or, set, get_or-set_same, get_or-set_other, ℤ, pos, neg_ℤ, ◌+ℤ◌, ◌-ℤ◌, ◌<ℤ◌, ◌≤ℤ◌, unsigned_abs, int_le, int_lt, ◌-◌, true, cond, min, not, ◌&&◌, ◌==◌, le-leb, nat_le}
use Rattle.std.proofs.lemmas.Bool.{cases_lt, cases_eq}
use Rattle.std.proofs.lemmas.Bool.Decides.{nat_tests}
use Rattle.std.proofs.lemmas.Int.{ints}
use Rattle.jiff_core.specs.declared.civil.date.Date.{Date}
use Rattle.jiff_core.specs.Calendar.{days_in_month, is_leap_year}
use Rattle.jiff_core.specs.Date.{epoch_day}
use Rattle.jiff_core.proofs.SignedLemmas.{signed_arith}
use Rattle.jiff_core.proofs.DateLemmas.{civil}
use Rattle.scr_dates.specs.declared.term.Maturity.{Maturity}
use Rattle.scr_dates.specs.declared.term.Maturity.TheVariants.{Past, Years, TooFar}
use Rattle.scr_dates.specs.Civil.{IsDay}
use Rattle.scr_dates.specs.Payments.{years_of}
use Rattle.scr_dates.specs.Years.{anniversary, is_reached, least_from, years_to, maturity_of}
use Rattle.scr_dates.specs.Kept.{IsKept}
use Rattle.scr_dates.proofs.Anniversaries.{date_anniversary, anniversary-lt, anniversary-zero, anniversary-days, found_after}
use Rattle.scr_dates.proofs.Dates.{date_after_is, date_of-epoch_day, unsigned_abs-same, year_in_range}

int_le-yes : (a b : ℤ) → a ≤ℤ b → int_le a b ≡ true
int_le-yes a b h = grind (arith, ints)

int_le-no : (a b : ℤ) → b <ℤ a → int_le a b ≡ false
int_le-no a b h = grind (arith, ints)

pub le-true : (a b : ℤ) → int_le a b ≡ true → a ≤ℤ b
le-true a b e = grind (arith, ints)

pub le-false : (a b : ℤ) → int_le a b ≡ false → b <ℤ a
le-false a b e = grind (arith, ints)

-- a day of the calendar is that of a date
pub record IsDated (z : ℤ) (d : Date) : Type 0 where
  pub number : epoch_day d ≡ z
  pub low : neg_ℤ (pos 25_567) ≤ℤ epoch_day d
  pub year : d.year ≤ℤ pos 2200
  pub same : (n : ℕ) → anniversary z n ≡ date_anniversary d n

pub date-is : (d : Date) → IsDay (epoch_day d) → IsDated (epoch_day d) d
date-is d day = record {
  number = refl;
  low = day.0;
  year = year_in_range d.year d.month d.day (civil d) day.1;
  same = λ n. let is = date_of-epoch_day d day.0 in rw is refl;
}

pub dated : (z : ℤ) → IsDay z → (d : Date) × IsDated z d
dated z day =
    let n = unsigned_abs (z +ℤ pos 25_567) in
    let size = unsigned_abs-same (z +ℤ pos 25_567) (omega (arith, signed_arith, day.0)) in
    let (d, _, number) = date_after_is n (omega (arith, signed_arith, size, day.1)) in
    let here : epoch_day d ≡ z = omega (arith, signed_arith, number, size) in
    (d, rw here at (date-is d (rw here day)))

pub first-day : (asof : ℤ) → IsDay asof → anniversary asof 0 ≡ asof
first-day asof day = let (d, is) = dated asof day in is.same 0 ∙ anniversary-zero d ∙ is.number

-- of the days of a month only 29 February can be missing in another year
pub kept-day : (year later : ℤ) (month day : ℕ) → day ≤ days_in_month year month
    → cond ((month == 2) && (day == 29) && not (is_leap_year later)) 28 day ≡ min day (days_in_month later month)
kept-day year later month day h = grind (arith, nat_tests)

-- so the date of that year, or the last of its month, is the anniversary
pub later-day : (d e : Date) (n : ℕ) → e.year ≡ d.year +ℤ pos n → e.month ≡ d.month → e.day ≡ min d.day (days_in_month (d.year +ℤ pos n) d.month)
    → epoch_day e ≡ date_anniversary d n
later-day d e n year month day = rw (year, month, day, kept-day d.year (d.year +ℤ pos n) d.month d.day d.day_in.1) refl

-- the anniversary that reaches the payment, where the one before does not
pub reached-at : (asof pay : ℤ) (n : ℕ) → IsDay asof → asof <ℤ pay → n < 100 → anniversary asof n <ℤ pay → pay ≤ℤ anniversary asof (n + 1) → n + 1 ≡ years_to asof pay
reached-at asof pay n day ahead few before reached =
    let (d, is) = dated asof day in
    let found = found_after d pay n is.low (omega (arith, signed_arith, is.year, few)) (rw is.same at before) (rw is.same at reached) in
    rw is.number at found.value

least-above : (test : ℕ → Bool) (more n : ℕ) → n ≤ least_from test more n
unfolding least_from
least-above test zero n = omega arith
least-above test (suc more) n = let rest = least-above test more (n + 1) in grind (arith, rest)

-- a search that passes nothing before a number comes to that number at least
least-past : (test : ℕ → Bool) (more n k : ℕ) → k ≤ more + n → ((j : ℕ) → n ≤ j → j < k → test j ≡ false) → k ≤ least_from test more n
unfolding least_from
least-past test zero n k low fails = omega (arith, low)
least-past test (suc more) n k low fails =
    elim (cases_lt n k) [
      | inl lt ↦ rw (fails n (omega arith) lt) (least-past test more (n + 1) k (omega (arith, low)) (λ j a b. fails j (omega (arith, a)) b))
      | inr ge ↦ omega (arith, ge, least-above test (suc more) n)
    ]

-- a payment after the last anniversary is too far ahead
pub too-far : (asof pay : ℤ) → IsDay asof → asof <ℤ pay → anniversary asof 100 <ℤ pay → 100 < years_to asof pay
unfolding years_to
too-far asof pay day ahead before =
    let (d, is) = dated asof day in
    let days = anniversary-days d 100 (omega (arith, signed_arith, is.year)) in
    let early : (j : ℕ) → j ≤ 100 → anniversary asof j <ℤ pay = λ j le. elim (cases_lt j 100) [
      | inl lt ↦ let less = anniversary-lt d j 100 (omega (arith, signed_arith, is.year)) lt in rw is.same (omega (arith, signed_arith, less, rw is.same at before))
      | inr ge ↦ let same : j ≡ 100 = omega (arith, le, ge) in rw same before
    ] in
    let size = unsigned_abs-same (pay -ℤ asof) (omega (arith, signed_arith, ahead)) in
    omega (
      arith,
      least-past (is_reached asof pay) (unsigned_abs (pay -ℤ asof)) 1 101 (omega (arith, signed_arith, size, days, before, is.same 100, is.number))
          (λ j a b. int_le-no pay (anniversary asof j) (early j (omega (arith, b)))),
    )

-- what comes after an anniversary comes after the reference day
pub after-first : (asof pay : ℤ) (n : ℕ) → IsDay asof → n < 100 → anniversary asof n <ℤ pay → asof <ℤ pay
after-first asof pay n day few before =
    let (d, is) = dated asof day in
    let first = first-day asof day in
    elim (cases_lt 0 n) [
      | inl lt ↦
          let less = anniversary-lt d 0 n (omega (arith, signed_arith, is.year, few)) lt in
          omega (arith, signed_arith, less, rw is.same at before, rw is.same at first)
      | inr ge ↦ let same : n ≡ 0 = omega (arith, ge) in omega (arith, signed_arith, first, rw same at before)
    ]

-- ---- the years that a maturity tells
pub past-years : (asof pay : ℤ) → pay ≤ℤ asof → years_of (maturity_of asof pay) ≡ 0
past-years asof pay past = rw (int_le-yes pay asof past) refl

pub near-years : (asof pay : ℤ) (n : ℕ) → asof <ℤ pay → n ≡ years_to asof pay → n ≤ 100 → years_of (maturity_of asof pay) ≡ n
near-years asof pay n ahead is few = rw (int_le-no pay asof ahead, sym is, le-leb n 100 few) refl

pub far-years : (asof pay : ℤ) → asof <ℤ pay → 100 < years_to asof pay → maturity_of asof pay ≡ TooFar (years_to asof pay)
far-years asof pay ahead far = rw (int_le-no pay asof ahead, lt-not 100 (years_to asof pay) far) refl
  where
    lt-not : (m n : ℕ) → m < n → nat_le n m ≡ false
    lt-not m n h = grind arith

-- ---- the anniversaries, one by one
pub kept-more : (asof : ℤ) (days : List ℤ) (n : ℕ) (z : ℤ) → n < length days → z ≡ anniversary asof n → ((k : ℕ) (d : ℤ) → k < n → get_or days k d ≡ anniversary asof k)
    → (k : ℕ) (d : ℤ) → k < n + 1 → get_or (set days n z) k d ≡ anniversary asof k
kept-more asof days n z within is before k d lt =
    elim (cases_eq k n) [
      | inl same ↦ rw same (get_or-set_same days n z d within ∙ is)
      | inr other ↦ get_or-set_other days n k z d other ∙ before k d (omega (arith, lt, other))
    ]

-- ---- what a comparison with an anniversary tells
pub before-is : (asof pay : ℤ) (days : List ℤ) (n : ℕ) (d : ℤ) → IsKept asof days → n < 101 → int_lt (get_or days n d) pay ≡ true → anniversary asof n <ℤ pay
before-is asof pay days n d kept few less = let each = kept.each n d few in rw (← each) (lt-true (get_or days n d) pay less)
  where
    lt-true : (a b : ℤ) → int_lt a b ≡ true → a <ℤ b
    lt-true a b e = grind (arith, ints)

pub reached-is : (asof pay : ℤ) (days : List ℤ) (n : ℕ) (d : ℤ) → IsKept asof days → n < 101 → int_le pay (get_or days n d) ≡ false → anniversary asof n <ℤ pay
reached-is asof pay days n d kept few less = let each = kept.each n d few in rw (← each) (le-false pay (get_or days n d) less)

pub until-first : (asof pay : ℤ) (days : List ℤ) (n : ℕ) (d : ℤ) → IsKept asof days → asof <ℤ pay → n < 101 → 1 ≤ n → anniversary asof (n - 1) <ℤ pay → int_le pay (get_or days n d) ≡ true
    → n ≡ years_of (maturity_of asof pay)
until-first asof pay days n d kept ahead few some before reached =
    let each = kept.each n d few in
    let same : n - 1 + 1 ≡ n = omega (arith, some) in
    let at : pay ≤ℤ anniversary asof (n - 1 + 1) = rw (same, ← each) (le-true pay (get_or days n d) reached) in
    let is = reached-at asof pay (n - 1) kept.asof_in ahead (omega (arith, few, some)) before at in
    sym (near-years asof pay n ahead (sym same ∙ is) (omega (arith, few)))
