-- How the counts of last days are carried along by a record.
use Rattle.std.proofs.Common.{◌≡◌, ℕ, ℤ, ◌+◌, ◌*◌, ◌^◌, ◌<◌, ◌≤◌, Bool, true, false, ◌&&◌, int_le, List, [], ◌∷◌, Option, Some, None, if◌then◌else◌, length, sum_by, refl, sym, ap, ◌∙◌, arith}
use Rattle.std.proofs.lemmas.List.Sums.{sum_by-cons}
use Rattle.std.specs.List.{AllByRecursion}
use Rattle.std.specs.Option.{option_map_or}
use Rattle.scr_dates.specs.declared.day.Day.{Day}
use Rattle.scr_dates.specs.Civil.{IsDay}
use Rattle.scr_tables.specs.Tables.{row_of}
use Rattle.scr_tables.proofs.TableRows.{All-map, All-row_of, sum-with_row, sum-without, sum-changed}
use Rattle.scr_counters.specs.Days.{count_of, ends_on, IsDayOrNone}
use Rattle.scr_sheet.specs.BalanceSheet.{position_name, liability_name}
use Rattle.scr_sheet.specs.CashFlows.{last_day, flows_under, with_flows, no_flows, all_projections}
use Rattle.scr_sheet.specs.Faults.{fault_of}
use Rattle.scr_sheet.specs.Forms.{AreOnDays, AreFlows}
use Rattle.scr_sheet.specs.Records.{applied, natural, kept_flows, kept_hold}
use Rattle.scr_sheet.specs.Validity.{Valid, IsSecurity, IsLiability, IsProjected}
use Rattle.scr_sheet.specs.declared.edit.Edit.{Edit}
use Rattle.scr_sheet.specs.declared.edit.Edit.TheVariants as edits
use Rattle.scr_sheet.specs.declared.keys.Projection.{Projection}
use Rattle.scr_sheet.specs.declared.keys.Projection.TheVariants as projections
use Rattle.scr_sheet.specs.declared.keys.Table.TheVariants as tables
use Rattle.scr_sheet.specs.declared.rows.Class.{Class}
use Rattle.scr_sheet.specs.declared.rows.Liability.{Liability}
use Rattle.scr_sheet.specs.declared.rows.LiabilityFlows.{LiabilityFlows}
use Rattle.scr_sheet.specs.declared.rows.LiabilityKind.{LiabilityKind}
use Rattle.scr_sheet.specs.declared.rows.Position.{Position}
use Rattle.scr_sheet.specs.declared.sheet.BalanceSheet.{BalanceSheet}
use Rattle.scr_dates.proofs.LastDays.{last-on_day}
use Rattle.scr_sheet.proofs.Preserved.{passes, right_table}
use Rattle.scr_sheet.proofs.Projections.{each_projection}
use Rattle.scr_sheet.proofs.Sums.{part-le, row-le, sum-change}
use Rattle.scr_book.proofs.Moved.{row_there}
use Rattle.scr_book.specs.LastDays.{security_ends, projections_ending, liability_ends, lists_ending, AreDaysOf}

-- ---- how many lists there may be

ends-most : (day : ℤ) (last : Option Day) → ends_on day last ≤ 1
ends-most day None = omega arith
ends-most day (Some last) = by (int_le day last.number && int_le last.number day)
  where
    by : (t : Bool) → (if t then 1 else 0) ≤ 1
    by true = omega arith
    by false = omega arith

sum-most : {Row : Type 0} (f : Row → ℕ) → ((row : Row) → f row ≤ 10) → (rows : List Row) → sum_by f rows ≤ 10 * length rows
sum-most f few [] = omega arith
sum-most f few (row ∷ rows) =
    let all : sum_by f (row ∷ rows) ≡ f row + sum_by f rows = sum_by-cons f row rows in
    let rest = sum-most f few rows in
    let own = few row in
    omega arith

sum-few : {Row : Type 0} (f : Row → ℕ) → ((row : Row) → f row ≤ 1) → (rows : List Row) → sum_by f rows ≤ length rows
sum-few f few [] = omega arith
sum-few f few (row ∷ rows) =
    let all : sum_by f (row ∷ rows) ≡ f row + sum_by f rows = sum_by-cons f row rows in
    let rest = sum-few f few rows in
    let own = few row in
    omega arith

pub lists-most : (day : ℤ) (sheet : BalanceSheet) → Valid sheet → lists_ending day sheet ≤ 40_000
lists-most day sheet valid =
    let securities = sum-few (security_ends day) (λ p. ends-most day (last_day p.security.flows)) sheet.securities in
    let liabilities = sum-most (liability_ends day) (λ l. sum-few (λ p. ends_on day (last_day (flows_under p l.flows))) (λ p. ends-most day (last_day (flows_under p l.flows))) all_projections) sheet.liabilities in
    omega (arith, securities, liabilities, valid.within.securities, valid.within.liabilities)

-- there is room for one more list where one was taken away
pub has_room : (sheet : BalanceSheet) (before between : List (List ℕ)) (old new : Option Day) → Valid sheet → AreDaysOf sheet before → ((day : ℤ) → IsDay day → count_of day between + ends_on day old ≡ count_of day before)
    → (day : ℤ) → IsDay day → count_of day between + ends_on day new < 2 ^ 32
has_room sheet before between old new valid are moved day in_day =
    let out = moved day in_day in
    let own = are.counted day in_day in
    let most = lists-most day sheet valid in
    let one = ends-most day new in
    omega (arith, out, own, most, one)

-- ---- one list is a part of all

-- the list that is kept for a security
kept-ends : (day : ℤ) (found : Option Position) → ends_on day (last_day (option_map_or (λ p. p.security.flows) found [])) ≡ option_map_or (security_ends day) found 0
kept-ends day None = refl
kept-ends day (Some p) = refl

pub security-part : (day : ℤ) (name : List ℕ) (sheet : BalanceSheet) → ends_on day (last_day (kept_flows name sheet.securities)) ≤ lists_ending day sheet
security-part day name sheet =
    let own = kept-ends day (row_of position_name name sheet.securities) in
    let part = part-le position_name (security_ends day) name sheet.securities in
    omega (arith, own, part)

members-le : {X : Type 0} (f : X → ℕ) (xs : List X) → AllByRecursion (λ x. f x ≤ sum_by f xs) xs
members-le f [] = tt
members-le f (x ∷ xs) =
    let all : sum_by f (x ∷ xs) ≡ f x + sum_by f xs = sum_by-cons f x xs in
    (omega arith, All-map (λ y. f y ≤ sum_by f xs) (λ y. f y ≤ sum_by f (x ∷ xs)) xs (λ y h. omega arith) (members-le f xs))

pub projection-le : (day : ℤ) (flows : LiabilityFlows) (p : Projection) → ends_on day (last_day (flows_under p flows)) ≤ projections_ending day flows all_projections
projection-le day flows = each_projection (λ p. ends_on day (last_day (flows_under p flows)) ≤ projections_ending day flows all_projections) (members-le (λ p. ends_on day (last_day (flows_under p flows))) all_projections)

pub liability-part : (day : ℤ) (name : List ℕ) (sheet : BalanceSheet) (l : Liability) → row_of liability_name name sheet.liabilities ≡ Some l → liability_ends day l ≤ lists_ending day sheet
liability-part day name sheet l is = let part = row-le liability_name (liability_ends day) name sheet.liabilities l is in omega (arith, part)

-- the list that is kept for a liability under a projection
abbrev pub kept_under : Projection → List ℕ → BalanceSheet → List (Day × ℤ)
kept_under p name sheet = option_map_or (λ l. flows_under p l.flows) (row_of liability_name name sheet.liabilities) []

pub projection-part : (day : ℤ) (p : Projection) (name : List ℕ) (sheet : BalanceSheet) → ends_on day (last_day (kept_under p name sheet)) ≤ lists_ending day sheet
projection-part day p name sheet = by (row_of liability_name name sheet.liabilities) refl
  where
    by : (found : Option Liability) → row_of liability_name name sheet.liabilities ≡ found → ends_on day (last_day (option_map_or (λ l. flows_under p l.flows) found [])) ≤ lists_ending day sheet
    by None e = omega arith
    by (Some l) e = let own = projection-le day l.flows p in let part = liability-part day name sheet l e in omega (arith, own, part)

-- the days of what is kept are days of the calendar
pub on_day : (flows : List (Day × ℤ)) → AreOnDays flows → IsDayOrNone (last_day flows)
on_day flows days = by (last_day flows) refl
  where
    by : (last : Option Day) → last_day flows ≡ last → IsDayOrNone last
    by None e = tt
    by (Some day) e = last-on_day flows day days e

pub flows-on_days : (flows : List (Day × ℤ)) → AreFlows flows → AreOnDays flows
flows-on_days flows are = All-map (λ f. IsDay f.0.number × _) (λ f. IsDay f.0.number) flows (λ f h. h.0) are

pub security-on_day : (name : List ℕ) (sheet : BalanceSheet) → Valid sheet → IsDayOrNone (last_day (kept_flows name sheet.securities))
security-on_day name sheet valid = by (row_of position_name name sheet.securities) refl
  where
    by : (found : Option Position) → row_of position_name name sheet.securities ≡ found → IsDayOrNone (last_day (option_map_or (λ p. p.security.flows) found []))
    by None e = tt
    by (Some p) e = on_day p.security.flows (All-row_of position_name IsSecurity name sheet.securities p e valid.securities).4.0

pub projection-on_day : (p : Projection) (name : List ℕ) (sheet : BalanceSheet) → Valid sheet → IsDayOrNone (last_day (kept_under p name sheet))
projection-on_day p name sheet valid = by (row_of liability_name name sheet.liabilities) refl
  where
    by : (found : Option Liability) → row_of liability_name name sheet.liabilities ≡ found → IsDayOrNone (last_day (option_map_or (λ l. flows_under p l.flows) found []))
    by None e = tt
    by (Some l) e = on_day (flows_under p l.flows) ((All-row_of liability_name IsLiability name sheet.liabilities l e valid.liabilities).3 p).0

-- the lists of a liability have their form
pub liability-formed : (name : List ℕ) (sheet : BalanceSheet) (l : Liability) → row_of liability_name name sheet.liabilities ≡ Some l → Valid sheet → (p : Projection) → IsProjected (flows_under p l.flows)
liability-formed name sheet l is valid = (All-row_of liability_name IsLiability name sheet.liabilities l is valid.liabilities).3

-- ---- what a record moves

-- the records that change a list of payments
abbrev pub moves_days : Edit → Bool
moves_days (edits.Flows security flows) = true
moves_days (edits.LiabilityFlows liability projection flows) = true
moves_days (edits.Remove tables.Security name) = true
moves_days (edits.Remove tables.Liability name) = true
moves_days (edits.Remove table name) = false
moves_days edit = false

lists-security : (day : ℤ) (name : List ℕ) (class : Class) (group : Option (List ℕ)) (currency : List ℕ) (duration : ℤ) (sheet : BalanceSheet)
    → lists_ending day (applied (edits.Security name class group currency duration) sheet) ≡ lists_ending day sheet
lists-security day name class group currency duration sheet =
    let new : Position = record { security = record { name = name; class = class; group = group; currency = currency; duration = natural duration; flows = kept_flows name sheet.securities }; held = kept_hold name sheet.securities } in
    let own = kept-ends day (row_of position_name name sheet.securities) in
    let sum = sum-with_row position_name (security_ends day) new sheet.securities in
    omega arith

lists-liability : (day : ℤ) (name : List ℕ) (kind : LiabilityKind) (currency : List ℕ) (sheet : BalanceSheet) → lists_ending day (applied (edits.Liability name kind currency) sheet) ≡ lists_ending day sheet
lists-liability day name kind currency sheet =
    let new : Liability = record { name = name; kind = kind; currency = currency; flows = option_map_or (λ l. l.flows) (row_of liability_name name sheet.liabilities) no_flows } in
    let sum = sum-with_row liability_name (liability_ends day) new sheet.liabilities in
    let same : liability_ends day new ≡ option_map_or (liability_ends day) (row_of liability_name name sheet.liabilities) 0 = by (row_of liability_name name sheet.liabilities) in
    omega arith
  where
    by : (found : Option Liability) → projections_ending day (option_map_or (λ l. l.flows) found no_flows) all_projections ≡ option_map_or (liability_ends day) found 0
    by None = refl
    by (Some l) = refl

lists-hold : (day : ℤ) (name : List ℕ) (cents : ℤ) (sheet : BalanceSheet) → lists_ending day (applied (edits.Hold name cents) sheet) ≡ lists_ending day sheet
lists-hold day name cents sheet =
    let same = sum-changed position_name (security_ends day) (λ p. record p { held = natural cents }) name sheet.securities (λ p. refl) (λ p. refl) in
    omega arith

-- every other record leaves them
pub lists-same : (day : ℤ) (edit : Edit) (sheet : BalanceSheet) → moves_days edit ≡ false → lists_ending day (applied edit sheet) ≡ lists_ending day sheet
lists-same day (edits.Flows security flows) sheet other = absurd (cc)
lists-same day (edits.LiabilityFlows liability projection flows) sheet other = absurd (cc)
lists-same day (edits.Security name class group currency duration) sheet other = lists-security day name class group currency duration sheet
lists-same day (edits.Liability name kind currency) sheet other = lists-liability day name kind currency sheet
lists-same day (edits.Hold name cents) sheet other = lists-hold day name cents sheet
lists-same day (edits.Remove tables.Security name) sheet other = absurd (cc)
lists-same day (edits.Remove tables.Liability name) sheet other = absurd (cc)
lists-same day (edits.Remove tables.Group name) sheet other = refl
lists-same day (edits.Remove tables.Fund name) sheet other = refl
lists-same day (edits.Remove tables.Bank name) sheet other = refl
lists-same day (edits.Remove tables.Rein name) sheet other = refl
lists-same day (edits.Remove tables.Curve name) sheet other = refl
lists-same day edit sheet other = refl

pub days-same : (edit : Edit) (sheet : BalanceSheet) (days : List (List ℕ)) → moves_days edit ≡ false → AreDaysOf sheet days → AreDaysOf (applied edit sheet) days
days-same edit sheet days still are = record { counted = λ day in_day. are.counted day in_day ∙ sym (lists-same day edit sheet still) }

-- a list that is replaced goes out of the counts, and the new one comes in
abbrev pub IsExchanged : List (List ℕ) → List (List ℕ) → List (List ℕ) → Option Day → Option Day → Type 0
IsExchanged before between after old new =
    ((day : ℤ) → IsDay day → count_of day between + ends_on day old ≡ count_of day before)
    × ((day : ℤ) → IsDay day → count_of day after ≡ count_of day between + ends_on day new)

module _ (security : List ℕ) (flows : List (Day × ℤ)) (sheet : BalanceSheet) (none : fault_of (edits.Flows security flows) sheet ≡ None) where
  lists-flows : (day : ℤ) → lists_ending day (applied (edits.Flows security flows) sheet) + ends_on day (last_day (kept_flows security sheet.securities)) ≡ lists_ending day sheet + ends_on day (last_day flows)
  lists-flows day =
      let p = passes (edits.Flows security flows) sheet none in
      let row = row_there position_name security sheet.securities (right_table tables.Security security sheet p.known p.kind) in
      let own : ends_on day (last_day (kept_flows security sheet.securities)) ≡ security_ends day row.0 = ap (λ o. ends_on day (last_day (option_map_or (λ q. q.security.flows) o []))) row.1 in
      let sum = sum-change position_name (security_ends day) (λ q. record q { security = record q.security { flows = flows } }) security sheet.securities row.0 (λ q. refl) row.1 in
      omega (arith, own, sum)

  pub days-flows : (before between after : List (List ℕ)) (old new : Option Day) → AreDaysOf sheet before → old ≡ last_day (kept_flows security sheet.securities) → new ≡ last_day flows
      → IsExchanged before between after old new → AreDaysOf (applied (edits.Flows security flows) sheet) after
  days-flows before between after old new are was now moved =
      record {
        counted = λ day in_day.
            let out = moved.0 day in_day in
            let come = moved.1 day in_day in
            let was_on : ends_on day old ≡ ends_on day (last_day (kept_flows security sheet.securities)) = ap (ends_on day) was in
            let now_on : ends_on day new ≡ ends_on day (last_day flows) = ap (ends_on day) now in
            let own = are.counted day in_day in
            let sum = lists-flows day in
            omega (arith, out, come, was_on, now_on, own, sum);
      }

-- with other flows under one projection
projections-with : (day : ℤ) (p : Projection) (new : List (Day × ℤ)) (flows : LiabilityFlows)
    → projections_ending day (with_flows p new flows) all_projections + ends_on day (last_day (flows_under p flows)) ≡ projections_ending day flows all_projections + ends_on day (last_day new)
projections-with day projections.Base new flows = omega arith
projections-with day projections.Mortality new flows = omega arith
projections-with day projections.Longevity new flows = omega arith
projections-with day projections.Disability new flows = omega arith
projections-with day projections.Expense new flows = omega arith
projections-with day projections.Revision new flows = omega arith
projections-with day projections.LapseUp new flows = omega arith
projections-with day projections.LapseDown new flows = omega arith
projections-with day projections.LapseMass new flows = omega arith
projections-with day projections.Catastrophe new flows = omega arith

module _ (name : List ℕ) (p : Projection) (flows : List (Day × ℤ)) (sheet : BalanceSheet) (l : Liability) (there : row_of liability_name name sheet.liabilities ≡ Some l) where
  lists-projected : (day : ℤ) → lists_ending day (applied (edits.LiabilityFlows name p flows) sheet) + ends_on day (last_day (kept_under p name sheet)) ≡ lists_ending day sheet + ends_on day (last_day flows)
  lists-projected day =
      let own : ends_on day (last_day (kept_under p name sheet)) ≡ ends_on day (last_day (flows_under p l.flows)) = ap (λ o. ends_on day (last_day (option_map_or (λ m. flows_under p m.flows) o []))) there in
      let change : Liability → Liability = λ m. record m { flows = with_flows p flows m.flows } in
      let sum = sum-change liability_name (liability_ends day) change name sheet.liabilities l (λ m. refl) there in
      let with = projections-with day p flows l.flows in
      omega (arith, own, sum, with)

  pub days-projected : (before between after : List (List ℕ)) (old new : Option Day) → AreDaysOf sheet before → old ≡ last_day (kept_under p name sheet) → new ≡ last_day flows
      → IsExchanged before between after old new → AreDaysOf (applied (edits.LiabilityFlows name p flows) sheet) after
  days-projected before between after old new are was now moved =
      record {
        counted = λ day in_day.
            let out = moved.0 day in_day in
            let come = moved.1 day in_day in
            let was_on : ends_on day old ≡ ends_on day (last_day (kept_under p name sheet)) = ap (ends_on day) was in
            let now_on : ends_on day new ≡ ends_on day (last_day flows) = ap (ends_on day) now in
            let own = are.counted day in_day in
            let sum = lists-projected day in
            omega (arith, out, come, was_on, now_on, own, sum);
      }

-- a row that is dropped
pub days-drop_security : (name : List ℕ) (sheet : BalanceSheet) (before after : List (List ℕ)) (old : Option Day) → AreDaysOf sheet before → old ≡ last_day (kept_flows name sheet.securities)
    → ((day : ℤ) → IsDay day → count_of day after + ends_on day old ≡ count_of day before) → AreDaysOf (applied (edits.Remove tables.Security name) sheet) after
days-drop_security name sheet before after old are was moved =
    record {
      counted = λ day in_day.
          let out = moved day in_day in
          let was_on : ends_on day old ≡ option_map_or (security_ends day) (row_of position_name name sheet.securities) 0 = ap (ends_on day) was ∙ kept-ends day (row_of position_name name sheet.securities) in
          let own = are.counted day in_day in
          let sum = sum-without position_name (security_ends day) name sheet.securities in
          omega (arith, out, was_on, own, sum);
    }

pub days-drop_liability : (name : List ℕ) (sheet : BalanceSheet) (l : Liability) → row_of liability_name name sheet.liabilities ≡ Some l → (before after : List (List ℕ)) → AreDaysOf sheet before
    → ((day : ℤ) → IsDay day → count_of day after + liability_ends day l ≡ count_of day before) → AreDaysOf (applied (edits.Remove tables.Liability name) sheet) after
days-drop_liability name sheet l there before after are moved =
    record {
      counted = λ day in_day.
          let out = moved day in_day in
          let was : option_map_or (liability_ends day) (row_of liability_name name sheet.liabilities) 0 ≡ liability_ends day l = ap (λ o. option_map_or (liability_ends day) o 0) there in
          let own = are.counted day in_day in
          let sum = sum-without liability_name (liability_ends day) name sheet.liabilities in
          omega (arith, out, was, own, sum);
    }

-- nothing is counted at first
pub days-opening : (sheet : BalanceSheet) (days : List (List ℕ)) → sheet.securities ≡ [] → sheet.liabilities ≡ [] → ((day : ℤ) → count_of day days ≡ 0) → AreDaysOf sheet days
days-opening sheet days securities liabilities none =
    record {
      counted = λ day in_day.
          let zero = none day in
          let first : sum_by (security_ends day) sheet.securities ≡ 0 = ap (sum_by (security_ends day)) securities in
          let second : sum_by (liability_ends day) sheet.liabilities ≡ 0 = ap (sum_by (liability_ends day)) liabilities in
          omega (arith, zero, first, second);
    }
