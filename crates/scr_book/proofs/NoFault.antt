-- A record of which no test finds a fault has none.
use Rattle.std.proofs.Common.{◌≡◌, ℤ, pos, ◌≤ℤ◌, Bool, true, false, not, is_some, Option, Some, None, refl, sym, ap, ◌∙◌, arith}
use Rattle.std.proofs.lemmas.Bool.{true≢false}
use Rattle.std.proofs.lemmas.Int.{ints}
use Rattle.std.specs.Option.{option_or}
use Rattle.scr_sheet.specs.declared.sheet.BalanceSheet.{BalanceSheet}
use Rattle.scr_sheet.specs.declared.edit.Edit.{Edit}
use Rattle.scr_sheet.specs.declared.fault.Fault.{Fault}
use Rattle.scr_sheet.specs.declared.fault.Quantity.{Quantity}
use Rattle.scr_sheet.specs.Faults.{list_fault, unknown_name, wrong_kind, in_use, cycle, fields_outside, sheet_outside, out_of_range, fault_of, outside, below_zero}
use Rattle.scr_sheet.specs.Records.{applied}

-- what is told to be none
pub none_if : (fault : Option Fault) (none : Bool) → is_some fault ≡ not none → none ≡ true → fault ≡ None
none_if None none told is = refl
none_if (Some fault) true told is = absurd (true≢false told)
none_if (Some fault) false told is = absurd (true≢false (sym is))

none_of_two : (a b : Option Fault) → a ≡ None → b ≡ None → option_or a b ≡ None
none_of_two a b none next = ap (λ o. option_or o b) none ∙ next

pub within : (edit : Edit) (sheet : BalanceSheet) → fields_outside edit ≡ None → sheet_outside edit (applied edit sheet) ≡ None → out_of_range edit sheet ≡ None
within edit sheet own whole = none_of_two (fields_outside edit) (sheet_outside edit (applied edit sheet)) own whole

pub none_of_six : (edit : Edit) (sheet : BalanceSheet) → list_fault edit ≡ None → unknown_name edit sheet ≡ None → wrong_kind edit sheet ≡ None → in_use edit sheet ≡ None → cycle edit sheet ≡ None → out_of_range edit sheet ≡ None → fault_of edit sheet ≡ None
none_of_six edit sheet list known kind free apart range =
    none_of_two (list_fault edit) _ list (none_of_two (unknown_name edit sheet) _ known (none_of_two (wrong_kind edit sheet) _ kind
    (none_of_two (in_use edit sheet) _ free (none_of_two (cycle edit sheet) _ apart range))))

pub outside_between : (quantity : Quantity) (low high value : ℤ) → low ≤ℤ value → value ≤ℤ high → outside quantity low high value ≡ None
outside_between quantity low high value least most = grind (arith, ints, least, most)

pub not_below_zero : (cents : ℤ) → pos 0 ≤ℤ cents → below_zero cents ≡ None
not_below_zero cents least = grind (arith, ints, least)
