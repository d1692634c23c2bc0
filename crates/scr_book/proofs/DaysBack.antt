-- How the counts of last days move back.
use Rattle.std.proofs.Common.{◌≡◌, ℕ, ℤ, ◌+◌, ◌^◌, ◌<◌, ◌≤◌, List, refl, arith}
use Rattle.std.specs.Option.{option_map_or}
use Rattle.scr_dates.specs.Civil.{IsDay}
use Rattle.scr_tables.specs.Tables.{row_of}
use Rattle.scr_counters.specs.Days.{count_of}
use Rattle.scr_sheet.specs.BalanceSheet.{position_name, liability_name}
use Rattle.scr_sheet.specs.Earlier.{with_earlier, FitsIn}
use Rattle.scr_sheet.specs.Validity.{Valid}
use Rattle.scr_sheet.specs.declared.earlier.Earlier.{Earlier}
use Rattle.scr_sheet.specs.declared.earlier.Earlier.TheVariants as earlier
use Rattle.scr_sheet.specs.declared.sheet.BalanceSheet.{BalanceSheet}
use Rattle.scr_sheet.proofs.Sums.{part-le}
use Rattle.scr_book.specs.LastDays.{security_ends, liability_ends, lists_ending, AreDaysOf}
use Rattle.scr_book.specs.Pasts.{name_in, row_in}
use Rattle.scr_book.proofs.LastDays.{lists-most}
use Rattle.scr_book.proofs.Restored.{sum-restored}

-- the lists that end on a day of the row that goes out, and of the one that comes back
abbrev pub ends_now : ℤ → Earlier → BalanceSheet → ℕ
ends_now day (earlier.Securities past) sheet = option_map_or (security_ends day) (row_of position_name (name_in position_name past) sheet.securities) 0
ends_now day (earlier.Liabilities past) sheet = option_map_or (liability_ends day) (row_of liability_name (name_in liability_name past) sheet.liabilities) 0
ends_now day other sheet = 0

abbrev pub ends_then : ℤ → Earlier → ℕ
ends_then day (earlier.Securities past) = option_map_or (security_ends day) (row_in past) 0
ends_then day (earlier.Liabilities past) = option_map_or (liability_ends day) (row_in past) 0
ends_then day other = 0

pub lists-back : (day : ℤ) (what : Earlier) (sheet : BalanceSheet) → FitsIn what sheet → lists_ending day (with_earlier what sheet) + ends_now day what sheet ≡ lists_ending day sheet + ends_then day what
lists-back day (earlier.Securities past) sheet fits = let sum = sum-restored position_name (security_ends day) past sheet.securities fits in omega (arith, sum)
lists-back day (earlier.Liabilities past) sheet fits = let sum = sum-restored liability_name (liability_ends day) past sheet.liabilities fits in omega (arith, sum)
lists-back day (earlier.Groups past) sheet fits = refl
lists-back day (earlier.Funds past) sheet fits = refl
lists-back day (earlier.Banks past) sheet fits = refl
lists-back day (earlier.Reinsurers past) sheet fits = refl
lists-back day (earlier.Curves past) sheet fits = refl
lists-back day (earlier.Numbers numbers) sheet fits = refl

pub now-le : (day : ℤ) (what : Earlier) (sheet : BalanceSheet) → ends_now day what sheet ≤ lists_ending day sheet
now-le day (earlier.Securities past) sheet = let part = part-le position_name (security_ends day) (name_in position_name past) sheet.securities in omega (arith, part)
now-le day (earlier.Liabilities past) sheet = let part = part-le liability_name (liability_ends day) (name_in liability_name past) sheet.liabilities in omega (arith, part)
now-le day (earlier.Groups past) sheet = omega arith
now-le day (earlier.Funds past) sheet = omega arith
now-le day (earlier.Banks past) sheet = omega arith
now-le day (earlier.Reinsurers past) sheet = omega arith
now-le day (earlier.Curves past) sheet = omega arith
now-le day (earlier.Numbers numbers) sheet = omega arith

module _ (what : Earlier) (sheet : BalanceSheet) (fits : FitsIn what sheet) (before : List (List ℕ)) (are : AreDaysOf sheet before) where
  -- what goes out was counted
  pub now-counted : (day : ℤ) → IsDay day → ends_now day what sheet ≤ count_of day before
  now-counted day in_day = let own = are.counted day in_day in let part = now-le day what sheet in omega (arith, own, part)

  module _ (between : List (List ℕ)) (gone : (day : ℤ) → IsDay day → count_of day between + ends_now day what sheet ≡ count_of day before) where
    -- there is room for what comes back
    pub then-fits : Valid (with_earlier what sheet) → (day : ℤ) → IsDay day → count_of day between + ends_then day what < 2 ^ 32
    then-fits valid day in_day =
        let own = are.counted day in_day in
        let out = gone day in_day in
        let sum = lists-back day what sheet fits in
        let most = lists-most day (with_earlier what sheet) valid in
        omega (arith, own, out, sum, most)

    pub days-back : (after : List (List ℕ)) → ((day : ℤ) → IsDay day → count_of day after ≡ count_of day between + ends_then day what) → AreDaysOf (with_earlier what sheet) after
    days-back after come =
        record {
          counted = λ day in_day.
              let own = are.counted day in_day in
              let out = gone day in_day in
              let in' = come day in_day in
              let sum = lists-back day what sheet fits in
              omega (arith, own, out, in', sum);
        }

  -- where no list goes out or comes back
  pub days-still : ((day : ℤ) → ends_now day what sheet ≡ 0) → ((day : ℤ) → ends_then day what ≡ 0) → AreDaysOf (with_earlier what sheet) before
  days-still none_now none_then =
      record {
        counted = λ day in_day.
            let own = are.counted day in_day in
            let sum = lists-back day what sheet fits in
            let out = none_now day in
            let in' = none_then day in
            omega (arith, own, sum, out, in');
      }
