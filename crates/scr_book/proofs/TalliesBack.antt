-- How the tallies of names move back.
use Rattle.std.proofs.Common.{◌≡◌, ℕ, ◌+◌, List, Option, Some, None, sum_by, refl, ap, arith}
use Rattle.std.specs.Option.{option_map_or}
use Rattle.scr_tables.specs.Tables.{row_of}
use Rattle.scr_tables.specs.Pasts.{restored, HasPlace}
use Rattle.scr_tables.specs.declared.past.Past.{Past}
use Rattle.scr_counters.specs.Users.{Tallied, Counts, Moves, nothing}
use Rattle.scr_sheet.specs.BalanceSheet.{position_name, stake_name, liability_name, bank_name, rein_name}
use Rattle.scr_sheet.specs.Earlier.{with_earlier, FitsIn}
use Rattle.scr_sheet.specs.Records.{applied}
use Rattle.scr_sheet.specs.declared.earlier.Earlier.{Earlier}
use Rattle.scr_sheet.specs.declared.earlier.Earlier.TheVariants as earlier
use Rattle.scr_sheet.specs.declared.edit.Edit.{Edit}
use Rattle.scr_sheet.specs.declared.sheet.BalanceSheet.{BalanceSheet}
use Rattle.scr_book.specs.Pasts.{name_in, row_in}
use Rattle.scr_book.specs.Users.{Used, no_uses, kept_uses, position_uses, stake_uses, liability_uses, bank_uses, rein_uses, all_uses, used_before, used_after}
use Rattle.scr_book.specs.UsersBack.{past_uses, used_now, used_then}
use Rattle.scr_book.proofs.Restored.{sum-restored}
use Rattle.scr_book.proofs.Tallies.{exchanged}

-- a tally out of which the old went and into which the new came
pub counts-moved : (first last old new : List ℕ → ℕ) → ((name : List ℕ) → last name + old name ≡ first name + new name) → (before between after : Tallied)
    → Counts first before → Moves old nothing before between → Moves nothing new between after → Counts last after
counts-moved first last old new same before between after are gone come =
    record {
      counted = λ k name.
          let sum = same name in
          let out = gone.moved (come.kept k) name in
          let own = come.moved k name in
          let all = are.counted (gone.kept (come.kept k)) name in
          omega (arith, sum, out, own, all);
    }

module _ (count : Used → ℕ) (none : count no_uses ≡ 0) where
  kept : {Row : Type 0} (uses_of : Row → Used) (found : Option Row) → count (option_map_or uses_of found no_uses) ≡ option_map_or (λ row. count (uses_of row)) found 0
  kept uses_of None = none
  kept uses_of (Some row) = refl

  row-back : {Row : Type 0} (name_of : Row → List ℕ) (uses_of : Row → Used) (past : Past Row) (rows : List Row) → HasPlace name_of past rows
      → sum_by (λ row. count (uses_of row)) (restored name_of past rows) + count (kept_uses name_of uses_of (name_in name_of past) rows)
      ≡ sum_by (λ row. count (uses_of row)) rows + count (past_uses uses_of past)
  row-back name_of uses_of past rows place =
      let now = kept uses_of (row_of name_of (name_in name_of past) rows) in
      let then = kept uses_of (row_in past) in
      let sum = sum-restored name_of (λ row. count (uses_of row)) past rows place in
      omega (arith, now, then, sum)

  pub uses-back : (what : Earlier) (sheet : BalanceSheet) → FitsIn what sheet → all_uses count (with_earlier what sheet) + count (used_now what sheet) ≡ all_uses count sheet + count (used_then what)
  uses-back (earlier.Securities past) sheet fits = let sum = row-back position_name position_uses past sheet.securities fits in omega (arith, sum)
  uses-back (earlier.Funds past) sheet fits = let sum = row-back stake_name stake_uses past sheet.funds fits in omega (arith, sum)
  uses-back (earlier.Liabilities past) sheet fits = let sum = row-back liability_name liability_uses past sheet.liabilities fits in omega (arith, sum)
  uses-back (earlier.Banks past) sheet fits = let sum = row-back bank_name bank_uses past sheet.banks fits in omega (arith, sum)
  uses-back (earlier.Reinsurers past) sheet fits = let sum = row-back rein_name rein_uses past sheet.reinsurers fits in omega (arith, sum)
  uses-back (earlier.Groups past) sheet fits = refl
  uses-back (earlier.Curves past) sheet fits = refl
  uses-back (earlier.Numbers numbers) sheet fits = refl

module _ (count : List ℕ → Used → ℕ) (none : (name : List ℕ) → count name no_uses ≡ 0) where
  -- what stood before is put back
  pub counts-back : (what : Earlier) (sheet : BalanceSheet) → FitsIn what sheet → (old new : Used) → old ≡ used_now what sheet → new ≡ used_then what → (before between after : Tallied)
      → Counts (λ name. all_uses (count name) sheet) before → Moves (λ name. count name old) nothing before between → Moves nothing (λ name. count name new) between after
      → Counts (λ name. all_uses (count name) (with_earlier what sheet)) after
  counts-back what sheet fits old new was is before between after are gone come =
      counts-moved (λ name. all_uses (count name) sheet) (λ name. all_uses (count name) (with_earlier what sheet)) (λ name. count name old) (λ name. count name new)
      (λ name. let sum = uses-back (count name) (none name) what sheet fits in let went = ap (count name) was in let came = ap (count name) is in omega (arith, sum, went, came))
      before between after are gone come

  -- what a record exchanged goes back
  pub counts-exchanged_back : (edit : Edit) (sheet : BalanceSheet) (old new : Used) → old ≡ used_after edit → new ≡ used_before edit sheet → (before between after : Tallied)
      → Counts (λ name. all_uses (count name) (applied edit sheet)) before → Moves (λ name. count name old) nothing before between → Moves nothing (λ name. count name new) between after
      → Counts (λ name. all_uses (count name) sheet) after
  counts-exchanged_back edit sheet old new was is before between after are gone come =
      counts-moved (λ name. all_uses (count name) (applied edit sheet)) (λ name. all_uses (count name) sheet) (λ name. count name old) (λ name. count name new)
      (λ name. let sum = exchanged (count name) (none name) edit sheet in let went = ap (count name) was in let came = ap (count name) is in omega (arith, sum, went, came))
      before between after are gone come
