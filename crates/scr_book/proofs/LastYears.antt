-- What the last day of all that were counted says of the years to a payment.
use Rattle.std.proofs.Common.{◌≡◌, ℕ, ℤ, ◌+◌, ◌<◌, ◌≤◌, ◌≤ℤ◌, Bool, true, false, ◌&&◌, ltb, int_le, int_lt, pos, List, [], ◌∷◌, Option, Some, None, if◌then◌else◌, sum_by, refl, ap, subst, ◌∙◌, arith}
use Rattle.std.proofs.lemmas.Int.{ints}
use Rattle.std.proofs.lemmas.List.Sums.{sum_by-cons}
use Rattle.std.specs.Prelude.{max}
use Rattle.std.specs.List.{AllByRecursion}
use Rattle.std.specs.Option.{option_map_or}
use Rattle.scr_dates.specs.declared.day.Day.{Day}
use Rattle.scr_dates.specs.Civil.{IsDay}
use Rattle.scr_tables.proofs.TableRows.{All-map, All-both}
use Rattle.scr_counters.specs.Days.{count_of, ends_on, IsLast}
use Rattle.scr_sheet.specs.BalanceSheet.{greatest, security_years, liability_years}
use Rattle.scr_sheet.specs.CashFlows.{last_day, flows_under, greatest_years, all_projections}
use Rattle.scr_sheet.specs.Forms.{AreOnDays}
use Rattle.scr_sheet.specs.Validity.{Valid, IsSecurity, IsLiability}
use Rattle.scr_sheet.specs.declared.rows.Liability.{Liability}
use Rattle.scr_sheet.specs.declared.rows.Position.{Position}
use Rattle.scr_sheet.specs.declared.sheet.BalanceSheet.{BalanceSheet}
use Rattle.scr_sheet.proofs.Greatest.{greatest-le}
use Rattle.scr_dates.proofs.LastDays.{years_at, years-last, last-on_day}
use Rattle.scr_sheet.proofs.Projections.{every_projection}
use Rattle.scr_counters.proofs.ByDay.{ends-own}
use Rattle.scr_book.specs.LastDays.{security_ends, liability_ends, lists_ending, AreDaysOf}
use Rattle.scr_book.proofs.LastDays.{projection-le}

-- a later day has no fewer years: the two are payments, of which the later is the last
years-later : (asof : ℤ) (a b : Day) → a.number ≤ℤ b.number → years_at asof a ≤ years_at asof b
years-later asof a b order = by (int_lt a.number b.number) refl
  where
    both : max (years_at asof a) (max (years_at asof b) 0) ≡ years_at asof (if int_lt a.number b.number then b else a)
    both = years-last asof ((a, pos 0) ∷ (b, pos 0) ∷ [])

    by : (t : Bool) → int_lt a.number b.number ≡ t → years_at asof a ≤ years_at asof b
    by true e =
        let last : max (years_at asof a) (max (years_at asof b) 0) ≡ years_at asof b = both ∙ ap (λ (s : Bool). years_at asof (if s then b else a)) e in
        omega (arith, last)
    by false e =
        let same : a.number ≡ b.number = grind (arith, ints, e, order) in
        subst (λ (n : ℤ). years_at asof a ≤ years_at asof (record { number = n })) same (omega arith)

-- where a part of a sum is above 0, one of its rows has the years
sum-positive : {Row : Type 0} (f g : Row → ℕ) (n : ℕ) → ((row : Row) → 0 < f row → n ≤ g row) → (rows : List Row) → 0 < sum_by f rows → n ≤ greatest g rows
sum-positive f g n each [] some = absurd (omega arith)
sum-positive f g n each (row ∷ rows) some = by (ltb 0 (f row)) refl (sum-positive f g n each rows)
  where
    by : (t : Bool) → ltb 0 (f row) ≡ t → (0 < sum_by f rows → n ≤ greatest g rows) → n ≤ max (g row) (greatest g rows)
    by true e later = let own = each row (grind (arith, e)) in omega (arith, own)
    by false e later =
        let none : f row ≡ 0 = grind (arith, e) in
        let all : sum_by f (row ∷ rows) ≡ f row + sum_by f rows = sum_by-cons f row rows in
        let rest = later (omega (arith, some, all, none)) in
        omega (arith, rest)

-- a list that ends on the day has its years
ends-years : (asof : ℤ) (day : Day) (flows : List (Day × ℤ)) → 0 < ends_on day.number (last_day flows) → years_at asof day ≤ greatest_years asof flows
ends-years asof day flows some = by (last_day flows) refl some
  where
    by : (last : Option Day) → last_day flows ≡ last → 0 < ends_on day.number last → years_at asof day ≤ greatest_years asof flows
    by None e some = absurd (omega (arith, some))
    by (Some last) e some =
        let years : greatest_years asof flows ≡ years_at asof last = years-last asof flows ∙ ap (λ o. option_map_or (λ d. years_at asof d) o 0) e in
        inside (int_le day.number last.number && int_le last.number day.number) refl some years
      where
        inside : (t : Bool) → (int_le day.number last.number && int_le last.number day.number) ≡ t → 0 < (if t then 1 else 0) → greatest_years asof flows ≡ years_at asof last → years_at asof day ≤ greatest_years asof flows
        inside true t some years = let order = years-later asof day last (grind (arith, ints, t)) in omega (arith, order, years)
        inside false t some years = absurd (omega (arith, some))

module _ (sheet : BalanceSheet) (days : List (List ℕ)) (valid : Valid sheet) (are : AreDaysOf sheet days) (asof : ℤ) where
  -- ---- no payment has more years than the last day that was counted

  within-last : (last : Option Day) → IsLast days last → (flows : List (Day × ℤ)) → AreOnDays flows → ((day : ℤ) → ends_on day (last_day flows) ≤ lists_ending day sheet)
      → greatest_years asof flows ≤ option_map_or (λ day. years_at asof day) last 0
  within-last last is flows on_days part = by (last_day flows) refl
    where
      by : (own : Option Day) → last_day flows ≡ own → greatest_years asof flows ≤ option_map_or (λ day. years_at asof day) last 0
      by None e = let years = years-last asof flows ∙ ap (λ o. option_map_or (λ d. years_at asof d) o 0) e in omega (arith, years)
      by (Some day) e =
          let years : greatest_years asof flows ≡ years_at asof day = years-last asof flows ∙ ap (λ o. option_map_or (λ d. years_at asof d) o 0) e in
          let in_day = last-on_day flows day on_days e in
          let own : ends_on day.number (last_day flows) ≡ 1 = ap (ends_on day.number) e ∙ ends-own day in
          let counted = are.counted day.number in_day in
          let some : 0 < count_of day.number days = omega (arith, own, counted, part day.number) in
          inside last is in_day some years
        where
          inside : (last : Option Day) → IsLast days last → IsDay day.number → 0 < count_of day.number days → greatest_years asof flows ≡ years_at asof day → greatest_years asof flows ≤ option_map_or (λ d. years_at asof d) last 0
          inside None is in_day some years = let none = is day.number in_day in absurd (omega (arith, none, some))
          inside (Some last) is in_day some years = order (int_lt last.number day.number) refl
            where
              order : (t : Bool) → int_lt last.number day.number ≡ t → greatest_years asof flows ≤ years_at asof last
              order true t = let none = is.2 day.number in_day (grind (arith, ints, t)) in absurd (omega (arith, none, some))
              order false t = let less = years-later asof day last (grind (arith, ints, t)) in omega (arith, less, years)

  securities-within : (last : Option Day) → IsLast days last → greatest (security_years asof) sheet.securities ≤ option_map_or (λ day. years_at asof day) last 0
  securities-within last is =
      greatest-le (security_years asof) _ sheet.securities
      (All-both (λ p. IsSecurity p) (λ p. (day : ℤ) → security_ends day p ≤ sum_by (security_ends day) sheet.securities) (λ p. security_years asof p ≤ option_map_or (λ day. years_at asof day) last 0) sheet.securities
      (λ p formed part. within-last last is p.security.flows formed.4.0 (λ day. let own = part day in omega (arith, own))) valid.securities (all-parts sheet.securities))
    where
      all-parts : (rows : List Position) → AllByRecursion (λ p. (day : ℤ) → security_ends day p ≤ sum_by (security_ends day) rows) rows
      all-parts [] = tt
      all-parts (row ∷ rows) = (
        λ day. let all : sum_by (security_ends day) (row ∷ rows) ≡ security_ends day row + sum_by (security_ends day) rows = sum_by-cons (security_ends day) row rows in omega (arith, all),
        All-map (λ p. (day : ℤ) → security_ends day p ≤ sum_by (security_ends day) rows) (λ p. (day : ℤ) → security_ends day p ≤ sum_by (security_ends day) (row ∷ rows)) rows
            (λ p part day. let all : sum_by (security_ends day) (row ∷ rows) ≡ security_ends day row + sum_by (security_ends day) rows = sum_by-cons (security_ends day) row rows in let own = part day in omega (arith, all, own)) (all-parts rows),
      )

  liabilities-within : (last : Option Day) → IsLast days last → greatest (liability_years asof) sheet.liabilities ≤ option_map_or (λ day. years_at asof day) last 0
  liabilities-within last is =
      greatest-le (liability_years asof) _ sheet.liabilities
      (All-both (λ l. IsLiability l) (λ l. (day : ℤ) → liability_ends day l ≤ sum_by (liability_ends day) sheet.liabilities) (λ l. liability_years asof l ≤ option_map_or (λ day. years_at asof day) last 0) sheet.liabilities
      (λ l formed part.
      greatest-le (λ p. greatest_years asof (flows_under p l.flows)) _ all_projections
      (every_projection (λ p. greatest_years asof (flows_under p l.flows) ≤ option_map_or (λ day. years_at asof day) last 0)
      (λ p. within-last last is (flows_under p l.flows) (formed.3 p).0 (λ day. let own = part day in let one = projection-le day l.flows p in omega (arith, own, one))))) valid.liabilities (all-parts sheet.liabilities))
    where
      all-parts : (rows : List Liability) → AllByRecursion (λ l. (day : ℤ) → liability_ends day l ≤ sum_by (liability_ends day) rows) rows
      all-parts [] = tt
      all-parts (row ∷ rows) = (
        λ day. let all : sum_by (liability_ends day) (row ∷ rows) ≡ liability_ends day row + sum_by (liability_ends day) rows = sum_by-cons (liability_ends day) row rows in omega (arith, all),
        All-map (λ l. (day : ℤ) → liability_ends day l ≤ sum_by (liability_ends day) rows) (λ l. (day : ℤ) → liability_ends day l ≤ sum_by (liability_ends day) (row ∷ rows)) rows
            (λ l part day. let all : sum_by (liability_ends day) (row ∷ rows) ≡ liability_ends day row + sum_by (liability_ends day) rows = sum_by-cons (liability_ends day) row rows in let own = part day in omega (arith, all, own)) (all-parts rows),
      )

  -- ---- and some payment has as many

  reaches-last : (last : Day) → IsLast days (Some last) → years_at asof last ≤ max (greatest (security_years asof) sheet.securities) (greatest (liability_years asof) sheet.liabilities)
  reaches-last last is = by (ltb 0 (sum_by (security_ends last.number) sheet.securities)) refl
    where
      counted : count_of last.number days ≡ lists_ending last.number sheet
      counted = are.counted last.number is.0

      by : (t : Bool) → ltb 0 (sum_by (security_ends last.number) sheet.securities) ≡ t → years_at asof last ≤ max (greatest (security_years asof) sheet.securities) (greatest (liability_years asof) sheet.liabilities)
      by true e =
          let one = sum-positive (security_ends last.number) (security_years asof) (years_at asof last) (λ p some. ends-years asof last p.security.flows some) sheet.securities (grind (arith, e)) in
          omega (arith, one)
      by false e =
          let none : sum_by (security_ends last.number) sheet.securities ≡ 0 = grind (arith, e) in
          let one = sum-positive (liability_ends last.number) (liability_years asof) (years_at asof last)
          (λ l some. sum-positive (λ p. ends_on last.number (last_day (flows_under p l.flows))) (λ p. greatest_years asof (flows_under p l.flows)) (years_at asof last)
          (λ p own. ends-years asof last (flows_under p l.flows) own) all_projections some) sheet.liabilities (omega (arith, none, counted, is.1)) in
          omega (arith, one)

  pub years-counted : (last : Option Day) → IsLast days last → option_map_or (λ day. years_at asof day) last 0 ≡ max (greatest (security_years asof) sheet.securities) (greatest (liability_years asof) sheet.liabilities)
  years-counted None is = let securities = securities-within None is in let liabilities = liabilities-within None is in omega (arith, securities, liabilities)
  years-counted (Some last) is =
      let securities = securities-within (Some last) is in
      let liabilities = liabilities-within (Some last) is in
      let some = reaches-last last is in
      omega (arith, securities, liabilities, some)
