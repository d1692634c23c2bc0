-- The last payment decides the years: a later payment has no fewer.
use Rattle.std.proofs.Common.{◌≡◌, ℕ, zero, suc, ◌+◌, ◌≤◌, ℤ, ◌-ℤ◌, ◌<ℤ◌, ◌≤ℤ◌, Bool, true, false, List, [], ◌∷◌, Option, Some, None, if◌then◌else◌, int_le, int_lt, unsigned_abs, refl, subst, arith}
use Rattle.std.specs.Prelude.{max}
use Rattle.std.specs.Option.{option_map_or}
use Rattle.std.proofs.lemmas.Int.{ints}
use Rattle.scr_dates.specs.declared.day.Day.{Day}
use Rattle.scr_dates.specs.Civil.{IsDay}
use Rattle.scr_dates.specs.Years.{anniversary, is_reached, least_from, years_to, maturity_of}
use Rattle.scr_dates.proofs.Anniversaries.{int_le-yes}
use Rattle.scr_dates.specs.Payments.{later, last_from, last_day, years_of, greatest_years, AreOnDays}

least-above : (test : ℕ → Bool) (more n : ℕ) → n ≤ least_from test more n
unfolding least_from
least-above test zero n = omega arith
least-above test (suc more) n = let rest = least-above test more (n + 1) in grind (arith, rest)

-- a test that is passed earlier, and that is tried no more often
least-earlier : (early late : ℕ → Bool) (a b n : ℕ) → a ≤ b → ((k : ℕ) → late k ≡ true → early k ≡ true) → least_from early a n ≤ least_from late b n
unfolding least_from
least-earlier early late zero b n few passes = least-above late b n
least-earlier early late (suc a) zero n few passes = absurd (omega (arith, few))
least-earlier early late (suc a) (suc b) n few passes =
    let above = least-above late b (n + 1) in
    let rest = least-earlier early late a b (n + 1) (omega (arith, few)) passes in
    let both = passes n in
    grind (arith, above, rest, both)

le-true : (a b : ℤ) → int_le a b ≡ true → a ≤ℤ b
le-true a b e = grind (arith, ints)

le-false : (a b : ℤ) → int_le a b ≡ false → b <ℤ a
le-false a b e = grind (arith, ints)

-- a later payment after the reference date
years_to-le : (asof pay next : ℤ) → asof <ℤ pay → pay ≤ℤ next → years_to asof pay ≤ years_to asof next
unfolding years_to
years_to-le asof pay next ahead order =
    least-earlier (is_reached asof pay) (is_reached asof next) (unsigned_abs (pay -ℤ asof)) (unsigned_abs (next -ℤ asof)) 1 (grind (arith, ints))
    (λ k reached. int_le-yes pay (anniversary asof k) (let past = le-true next (anniversary asof k) reached in omega (arith, ints, past, order)))

-- the years of a payment
abbrev pub years_at : ℤ → Day → ℕ
years_at asof day = years_of (maturity_of asof day.number)

years_at-is : (asof : ℤ) (day : Day) → years_at asof day ≡ (if int_le day.number asof then 0 else years_to asof day.number)
years_at-is asof day = grind arith

years_at-le : (asof : ℤ) (a b : Day) → a.number ≤ℤ b.number → years_at asof a ≤ years_at asof b
years_at-le asof a b order =
    let first = years_at-is asof a in
    let second = years_at-is asof b in
    let least = by (int_le a.number asof) (int_le b.number asof) refl refl in
    omega (arith, first, second, least)
  where
    by : (s t : Bool) → int_le a.number asof ≡ s → int_le b.number asof ≡ t → (if s then 0 else years_to asof a.number) ≤ (if t then 0 else years_to asof b.number)
    by true true e f = omega arith
    by true false e f = omega arith
    by false true e f = let after = le-false a.number asof e in let past = le-true b.number asof f in absurd (omega (arith, ints, after, past, order))
    by false false e f = years_to-le asof a.number b.number (le-false a.number asof e) order

-- of two days the later one has the more years
abbrev years_or : ℤ → Option Day → ℕ
years_or asof last = option_map_or (years_at asof) last 0

years-later : (asof : ℤ) (last : Option Day) (day : Day) → years_at asof (later last day) ≡ max (years_or asof last) (years_at asof day)
years-later asof None day = omega arith
years-later asof (Some last) day =
    let up = years_at-le asof last day in
    let down = years_at-le asof day last in
    grind (arith, ints, up, down)

years-from : (asof : ℤ) (last : Option Day) (flows : List (Day × ℤ)) → max (years_or asof last) (greatest_years asof flows) ≡ years_or asof (last_from last flows)
years-from asof last [] = omega arith
years-from asof last (flow ∷ flows) =
    let first = years-later asof last flow.0 in
    let rest = years-from asof (Some (later last flow.0)) flows in
    omega (arith, first, rest)

-- the greatest number of years is that of the last day
pub years-last : (asof : ℤ) (flows : List (Day × ℤ)) → greatest_years asof flows ≡ option_map_or (λ day. years_at asof day) (last_day flows) 0
years-last asof flows = let all = years-from asof None flows in omega (arith, all)

-- the last day of payments on days of the calendar is one
abbrev IsDayOrNone : Option Day → Type 0
IsDayOrNone None = Unit {0}
IsDayOrNone (Some day) = IsDay day.number

later-on_day : (last : Option Day) (day : Day) → IsDayOrNone last → IsDay day.number → IsDay (later last day).number
later-on_day None day known own = own
later-on_day (Some last) day known own = by (int_lt last.number day.number)
  where
    by : (t : Bool) → IsDay (if t then day else last).number
    by true = own
    by false = known

on_day-from : (last : Option Day) (flows : List (Day × ℤ)) → IsDayOrNone last → AreOnDays flows → IsDayOrNone (last_from last flows)
on_day-from last [] known days = known
on_day-from last (flow ∷ flows) known days = on_day-from (Some (later last flow.0)) flows (later-on_day last flow.0 known days.0) days.1

pub last-on_day : (flows : List (Day × ℤ)) (day : Day) → AreOnDays flows → last_day flows ≡ Some day → IsDay day.number
last-on_day flows day days is = subst IsDayOrNone is (on_day-from None flows tt days)
