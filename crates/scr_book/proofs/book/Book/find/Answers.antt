use Rattle.std.proofs.Common.{◌≡◌, ℕ, ◌≤◌, ◌<◌, ◌^◌, List, length, map, Some, slice_get, Fits, w32, sym, subst, ◌∙◌, arith}
use Rattle.std.specs.Option.{option_map}
use Rattle.std.proofs.lemmas.Option.{slice_get-map}
use Rattle.scr_tables.proofs.PastRows.{at_place, below}
use Rattle.scr_sheet.specs.BalanceSheet.{group_name, position_name, liability_name, bank_name, rein_name, stake_name}
use Rattle.scr_sheet.specs.Validity.{Valid}
use Rattle.scr_sheet.specs.declared.sheet.BalanceSheet.{BalanceSheet}
use Rattle.scr_book.proofs.book.Book.find.Goals as goal

-- a row of the name at a place gives the name that place among the names
named : {Row : Type 0} (name_of : Row → List ℕ) (rows : List Row) (k : ℕ) (name : List ℕ) → option_map name_of (slice_get rows k) ≡ Some name → slice_get (map name_of rows) k ≡ Some name
named name_of rows k name is = slice_get-map name_of rows k ∙ is

-- a place in a table of few rows
placed : {Row : Type 0} (name_of : Row → List ℕ) (rows : List Row) (k : ℕ) (name : List ℕ) (most : ℕ) → option_map name_of (slice_get rows k) ≡ Some name → length rows ≤ most → most < 2 ^ 32 → Fits w32 k
placed name_of rows k name most is few small = let row = at_place name_of (slice_get rows k) name is in let within = below name_of rows k row.0 row.1 in omega (arith, within, few, small)

pub returns-in-Some-clause-found : goal.returns-in-Some-clause-found
returns-in-Some-clause-found c =
    subst (λ (s : BalanceSheet). slice_get (map group_name s.groups) c.in-Some.k ≡ Some c.args.name.now) c.sheet-sheet.ensures.sheet (named group_name c.sheet-sheet.result.now.groups c.in-Some.k c.args.name.now c.in-Some.ensures.place)

pub returns-in-Some-place-clause-found : goal.returns-in-Some-place-clause-found
returns-in-Some-place-clause-found c =
    subst (λ (s : BalanceSheet). slice_get (map position_name s.securities) c.in-Some-place.k ≡ Some c.args.name.now) c.sheet-sheet.ensures.sheet (named position_name c.sheet-sheet.result.now.securities c.in-Some-place.k c.args.name.now c.in-Some-place.ensures.place)

pub overflow_cast-result-in-Some-place : goal.overflow_cast-result-in-Some-place
overflow_cast-result-in-Some-place c =
    let few = (subst Valid (sym c.sheet-sheet.ensures.sheet) c.sheet-sheet.ensures.valid).within.securities in
    placed position_name c.sheet-sheet.result.now.securities c.in-Some-place.k c.args.name.now 20_000 c.in-Some-place.ensures.place (omega (arith, few)) (omega arith)

pub returns-in-Some-place-2-clause-found : goal.returns-in-Some-place-2-clause-found
returns-in-Some-place-2-clause-found c =
    subst (λ (s : BalanceSheet). slice_get (map liability_name s.liabilities) c.in-Some-place-2.k ≡ Some c.args.name.now) c.sheet-sheet.ensures.sheet (named liability_name c.sheet-sheet.result.now.liabilities c.in-Some-place-2.k c.args.name.now c.in-Some-place-2.ensures.place)

pub overflow_cast-result-in-Some-place-2 : goal.overflow_cast-result-in-Some-place-2
overflow_cast-result-in-Some-place-2 c =
    let few = (subst Valid (sym c.sheet-sheet.ensures.sheet) c.sheet-sheet.ensures.valid).within.liabilities in
    placed liability_name c.sheet-sheet.result.now.liabilities c.in-Some-place-2.k c.args.name.now 20_000 c.in-Some-place-2.ensures.place (omega (arith, few)) (omega arith)

pub returns-in-Some-place-3-clause-found : goal.returns-in-Some-place-3-clause-found
returns-in-Some-place-3-clause-found c =
    subst (λ (s : BalanceSheet). slice_get (map bank_name s.banks) c.in-Some-place-3.k ≡ Some c.args.name.now) c.sheet-sheet.ensures.sheet (named bank_name c.sheet-sheet.result.now.banks c.in-Some-place-3.k c.args.name.now c.in-Some-place-3.ensures.place)

pub overflow_cast-result-in-Some-place-3 : goal.overflow_cast-result-in-Some-place-3
overflow_cast-result-in-Some-place-3 c =
    let few = (subst Valid (sym c.sheet-sheet.ensures.sheet) c.sheet-sheet.ensures.valid).within.exposures in
    placed bank_name c.sheet-sheet.result.now.banks c.in-Some-place-3.k c.args.name.now 10_000 c.in-Some-place-3.ensures.place (omega (arith, few)) (omega arith)

pub returns-in-Some-place-4-clause-found : goal.returns-in-Some-place-4-clause-found
returns-in-Some-place-4-clause-found c =
    subst (λ (s : BalanceSheet). slice_get (map rein_name s.reinsurers) c.in-Some-place-4.k ≡ Some c.args.name.now) c.sheet-sheet.ensures.sheet (named rein_name c.sheet-sheet.result.now.reinsurers c.in-Some-place-4.k c.args.name.now c.in-Some-place-4.ensures.place)

pub overflow_cast-result-in-Some-place-4 : goal.overflow_cast-result-in-Some-place-4
overflow_cast-result-in-Some-place-4 c =
    let few = (subst Valid (sym c.sheet-sheet.ensures.sheet) c.sheet-sheet.ensures.valid).within.exposures in
    placed rein_name c.sheet-sheet.result.now.reinsurers c.in-Some-place-4.k c.args.name.now 10_000 c.in-Some-place-4.ensures.place (omega (arith, few)) (omega arith)

pub returns-clause-found : goal.returns-clause-found
returns-clause-found c =
    subst (λ (s : BalanceSheet). slice_get (map stake_name s.funds) c.in_ok-k.k ≡ Some c.args.name.now) c.sheet-sheet.ensures.sheet (named stake_name c.sheet-sheet.result.now.funds c.in_ok-k.k c.args.name.now c.in_ok-k.ensures.place)

pub overflow_cast-result-2 : goal.overflow_cast-result-2
overflow_cast-result-2 c =
    let few = (subst Valid (sym c.sheet-sheet.ensures.sheet) c.sheet-sheet.ensures.valid).within.funds in
    placed stake_name c.sheet-sheet.result.now.funds c.in_ok-k.k c.args.name.now 20_000 c.in_ok-k.ensures.place (omega (arith, few)) (omega arith)
