-- How the tallies of names are carried along by a record, and that nothing uses what is not counted.
use Rattle.std.proofs.Common.{◌≡◌, ℕ, ℤ, ◌+◌, ◌<◌, Bool, true, false, ◌||◌, cond, List, [], ◌∷◌, ◌++◌, Option, Some, None, if◌then◌else◌, map, sum_by, refl, sym, ap, ◌∙◌, arith}
use Rattle.std.proofs.lemmas.List.Sums.{sum_by-cons}
use Rattle.std.specs.Prelude.{filter}
use Rattle.std.specs.List.{list_any}
use Rattle.std.specs.Option.{option_or, option_map_or}
use Rattle.scr_tables.specs.Names.{same_name}
use Rattle.scr_tables.specs.Tables.{row_of, with_row, without}
use Rattle.scr_tables.proofs.TableRows.{passes_or_fails, sum-with_row, sum-without, sum-changed}
use Rattle.scr_counters.specs.Users.{Tallied, Counts, Moves, IsFresh, IsUnused, uses, uses_one, uses_each, nothing}
use Rattle.scr_sheet.specs.BalanceSheet.{position_name, stake_name, liability_name, bank_name, rein_name, held_of}
use Rattle.scr_sheet.specs.Records.{applied, natural, kept_flows, kept_hold}
use Rattle.scr_sheet.specs.CashFlows.{with_flows, no_flows}
use Rattle.scr_sheet.specs.Members.{is_of_group}
use Rattle.scr_sheet.specs.Users.{has_component, names_of_holders, names_in_currency, absorption_of, holder_of, user_of, first_row, unless_none}
use Rattle.scr_sheet.specs.declared.edit.Edit.{Edit}
use Rattle.scr_sheet.specs.declared.edit.Edit.TheVariants as edits
use Rattle.scr_sheet.specs.declared.fault.User.{User}
use Rattle.scr_sheet.specs.declared.fault.User.TheVariants as users
use Rattle.scr_sheet.specs.declared.keys.Table.TheVariants as tables
use Rattle.scr_sheet.specs.declared.rows.Bank.{Bank}
use Rattle.scr_sheet.specs.declared.rows.Liability.{Liability}
use Rattle.scr_sheet.specs.declared.rows.Position.{Position}
use Rattle.scr_sheet.specs.declared.rows.Rein.{Rein}
use Rattle.scr_sheet.specs.declared.rows.Stake.{Stake}
use Rattle.scr_sheet.specs.declared.sheet.BalanceSheet.{BalanceSheet}
use Rattle.scr_book.specs.declared.users.Users.{Users}
use Rattle.scr_book.specs.Users.{Used, no_uses, position_uses, stake_uses, liability_uses, bank_uses, rein_uses, of_name, of_currency, all_uses, AreUsersOf, kept_uses, used_before, used_after}

-- ---- what a record exchanges, for any count of what a row uses

module _ (count : Used → ℕ) (none : count no_uses ≡ 0) where
  kept : {Row : Type 0} (uses_of : Row → Used) (found : Option Row) → count (option_map_or uses_of found no_uses) ≡ option_map_or (λ row. count (uses_of row)) found 0
  kept uses_of None = none
  kept uses_of (Some row) = refl

  put : {Row : Type 0} (name_of : Row → List ℕ) (uses_of : Row → Used) (new : Row) (rows : List Row)
      → sum_by (λ row. count (uses_of row)) (with_row name_of new rows) + count (kept_uses name_of uses_of (name_of new) rows) ≡ sum_by (λ row. count (uses_of row)) rows + count (uses_of new)
  put name_of uses_of new rows =
      let own = kept uses_of (row_of name_of (name_of new) rows) in
      let sum = sum-with_row name_of (λ row. count (uses_of row)) new rows in
      omega (arith, own, sum)

  drop : {Row : Type 0} (name_of : Row → List ℕ) (uses_of : Row → Used) (name : List ℕ) (rows : List Row)
      → sum_by (λ row. count (uses_of row)) (without name_of name rows) + count (kept_uses name_of uses_of name rows) ≡ sum_by (λ row. count (uses_of row)) rows + count no_uses
  drop name_of uses_of name rows =
      let own = kept uses_of (row_of name_of name rows) in
      let sum = sum-without name_of (λ row. count (uses_of row)) name rows in
      omega (arith, own, sum, none)

  pub exchanged : (edit : Edit) (sheet : BalanceSheet) → all_uses count (applied edit sheet) + count (used_before edit sheet) ≡ all_uses count sheet + count (used_after edit)
  exchanged (edits.Security name class group currency duration) sheet =
      let new : Position = record {
        security = record { name = name; class = class; group = group; currency = currency; duration = natural duration; flows = kept_flows name sheet.securities };
        held = kept_hold name sheet.securities;
      } in
      let sum = put position_name position_uses new sheet.securities in
      omega (arith, sum)
  exchanged (edits.Fund name components) sheet =
      let new : Stake = record { fund = record { name = name; components = components }; held = option_map_or (λ s. s.held) (row_of stake_name name sheet.funds) 0 } in
      let sum = put stake_name stake_uses new sheet.funds in
      omega (arith, sum)
  exchanged (edits.Liability name kind currency) sheet =
      let new : Liability = record { name = name; kind = kind; currency = currency; flows = option_map_or (λ l. l.flows) (row_of liability_name name sheet.liabilities) no_flows } in
      let sum = put liability_name liability_uses new sheet.liabilities in
      omega (arith, sum)
  exchanged (edits.Bank name group cents) sheet =
      let new : Bank = record { name = name; group = group; cents = natural cents } in
      let sum = put bank_name bank_uses new sheet.banks in
      omega (arith, sum)
  exchanged (edits.Rein name group recoverables mitigation collateral) sheet =
      let new : Rein = record { name = name; group = group; recoverables = natural recoverables; mitigation = natural mitigation; collateral = natural collateral } in
      let sum = put rein_name rein_uses new sheet.reinsurers in
      omega (arith, sum)
  exchanged (edits.Flows security flows) sheet =
      let same = sum-changed position_name (λ p. count (position_uses p)) (λ p. record p { security = record p.security { flows = flows } }) security sheet.securities (λ p. refl) (λ p. refl) in
      omega (arith, same)
  exchanged (edits.LiabilityFlows liability projection flows) sheet =
      let same = sum-changed liability_name (λ l. count (liability_uses l)) (λ l. record l { flows = with_flows projection flows l.flows }) liability sheet.liabilities (λ l. refl) (λ l. refl) in
      omega (arith, same)
  exchanged (edits.Hold name cents) sheet =
      let positions = sum-changed position_name (λ p. count (position_uses p)) (λ p. record p { held = natural cents }) name sheet.securities (λ p. refl) (λ p. refl) in
      let stakes = sum-changed stake_name (λ s. count (stake_uses s)) (λ s. record s { held = natural cents }) name sheet.funds (λ s. refl) (λ s. refl) in
      omega (arith, positions, stakes)
  exchanged (edits.Remove tables.Security name) sheet = let sum = drop position_name position_uses name sheet.securities in omega (arith, sum)
  exchanged (edits.Remove tables.Fund name) sheet = let sum = drop stake_name stake_uses name sheet.funds in omega (arith, sum)
  exchanged (edits.Remove tables.Liability name) sheet = let sum = drop liability_name liability_uses name sheet.liabilities in omega (arith, sum)
  exchanged (edits.Remove tables.Bank name) sheet = let sum = drop bank_name bank_uses name sheet.banks in omega (arith, sum)
  exchanged (edits.Remove tables.Rein name) sheet = let sum = drop rein_name rein_uses name sheet.reinsurers in omega (arith, sum)
  exchanged (edits.Remove tables.Group name) sheet = refl
  exchanged (edits.Remove tables.Curve name) sheet = refl
  exchanged edit sheet = refl

-- a tally out of which the old went and into which the new came
pub counts-exchanged : (count : List ℕ → Used → ℕ) → ((name : List ℕ) → count name no_uses ≡ 0) → (edit : Edit) (sheet : BalanceSheet) (old new : Used) → old ≡ used_before edit sheet → new ≡ used_after edit
    → (before between after : Tallied) → Counts (λ name. all_uses (count name) sheet) before → Moves (λ name. count name old) nothing before between → Moves nothing (λ name. count name new) between after
    → Counts (λ name. all_uses (count name) (applied edit sheet)) after
counts-exchanged count none edit sheet old new was now before between after are gone come =
    record {
      counted = λ k name.
          let sum = exchanged (count name) (none name) edit sheet in
          let went = ap (count name) was in
          let came = ap (count name) now in
          let out = gone.moved (come.kept k) name in
          let own = come.moved k name in
          let all = are.counted (gone.kept (come.kept k)) name in
          omega (arith, sum, went, came, out, own, all);
    }

-- ---- rows counted one after another

pub moves-still : (users : List ℕ → ℕ) (tally : Tallied) → Moves users users tally tally
moves-still users tally = record { kept = λ k. k; moved = λ k name. refl }

pub moves-next : {Row : Type 0} (count : List ℕ → Row → ℕ) (row : Row) (rest rows : List Row) (before now after : Tallied) → Moves (λ name. sum_by (count name) (row ∷ rest)) (λ name. sum_by (count name) rows) before now
    → Moves nothing (λ name. count name row) now after → Moves (λ name. sum_by (count name) rest) (λ name. sum_by (count name) rows) before after
moves-next count row rest rows before now after so_far come =
    record {
      kept = λ k. so_far.kept (come.kept k);
      moved = λ k name.
          let all : sum_by (count name) (row ∷ rest) ≡ count name row + sum_by (count name) rest = sum_by-cons (count name) row rest in
          let own = come.moved k name in
          let others = so_far.moved (come.kept k) name in
          omega (arith, all, own, others);
    }

pub counts-all : (count : List ℕ → Used → ℕ) (sheet : BalanceSheet) (fresh positions stakes liabilities banks all : Tallied) → IsFresh fresh → Moves nothing (λ name. sum_by (λ p. count name (position_uses p)) sheet.securities) fresh positions
    → Moves nothing (λ name. sum_by (λ s. count name (stake_uses s)) sheet.funds) positions stakes → Moves nothing (λ name. sum_by (λ l. count name (liability_uses l)) sheet.liabilities) stakes liabilities
    → Moves nothing (λ name. sum_by (λ b. count name (bank_uses b)) sheet.banks) liabilities banks → Moves nothing (λ name. sum_by (λ r. count name (rein_uses r)) sheet.reinsurers) banks all
    → Counts (λ name. all_uses (count name) sheet) all
counts-all count sheet fresh positions stakes liabilities banks all none first second third fourth fifth =
    record {
      counted = λ k name.
          let e5 = fifth.moved k name in
          let e4 = fourth.moved (fifth.kept k) name in
          let e3 = third.moved (fourth.kept (fifth.kept k)) name in
          let e2 = second.moved (third.kept (fourth.kept (fifth.kept k))) name in
          let e1 = first.moved (second.kept (third.kept (fourth.kept (fifth.kept k)))) name in
          let e0 = none.none name in
          omega (arith, e0, e1, e2, e3, e4, e5);
    }

-- ---- what is not counted is not used

-- where no row uses anything, there is none of those that do
none-uses : {Row : Type 0} (f : Row → ℕ) (test : Row → Bool) → ((row : Row) → test row ≡ true → 0 < f row) → (rows : List Row) → sum_by f rows ≡ 0 → filter test rows ≡ []
none-uses f test counts [] none = refl
none-uses f test counts (row ∷ rows) none =
    let all : sum_by f (row ∷ rows) ≡ f row + sum_by f rows = sum_by-cons f row rows in
    passes_or_fails (test row)
    (λ e. let some = counts row e in absurd (omega (arith, all, some, none)))
    (λ e. ap (λ t. cond t (row ∷ filter test rows) (filter test rows)) e ∙ none-uses f test counts rows (omega (arith, all, none)))

one-counts : (name : List ℕ) (used : Option (List ℕ)) → option_map_or (same_name name) used false ≡ true → 0 < uses_one used name
one-counts name None some = absurd (cc)
one-counts name (Some own) some = let once : uses own name ≡ 1 = ap (λ (t : Bool). if t then 1 else 0) some in omega (arith, once)

each-counts : (name : List ℕ) (components : List (List ℕ × ℤ)) → list_any (λ c. same_name name c.0) components ≡ true → 0 < uses_each components name
each-counts name [] some = absurd (cc)
each-counts name (c ∷ components) some =
    let all : uses_each (c ∷ components) name ≡ uses c.0 name + uses_each components name = sum_by-cons (λ d. uses d.0 name) c components in
    passes_or_fails (same_name name c.0)
    (λ e. let once : uses c.0 name ≡ 1 = ap (λ (t : Bool). if t then 1 else 0) e in omega (arith, all, once))
    (λ e. let rest = each-counts name components (sym (ap (λ t. t || list_any (λ d. same_name name d.0) components) e) ∙ some) in omega (arith, all, rest))

module _ (name : List ℕ) (sheet : BalanceSheet) (tallies : Users) (are : AreUsersOf sheet tallies) where
  module _ (unused : IsUnused name tallies.names) where
    no_names : all_uses (of_name name) sheet ≡ 0
    no_names = sym (are.names.counted unused.kept name) ∙ unused.none

    pub unused-group : user_of tables.Group name sheet ≡ None
    unused-group =
        let positions = none-uses (λ p. of_name name (position_uses p)) (is_of_group name) (λ p e. let some = one-counts name p.security.group e in omega (arith, some)) sheet.securities (omega (arith, no_names)) in
        let banks = none-uses (λ b. of_name name (bank_uses b)) (λ b. same_name name b.group) (λ b e. let some = one-counts name (Some b.group) e in omega (arith, some)) sheet.banks (omega (arith, no_names)) in
        let reinsurers = none-uses (λ r. of_name name (rein_uses r)) (λ r. same_name name r.group) (λ r e. let some = one-counts name (Some r.group) e in omega (arith, some)) sheet.reinsurers (omega (arith, no_names)) in
        ap (λ (ps : List Position). first_row (map position_name ps ++ map bank_name (filter (λ b. same_name name b.group) sheet.banks) ++ map rein_name (filter (λ r. same_name name r.group) sheet.reinsurers))) positions
        ∙ ap (λ (bs : List Bank). first_row (map bank_name bs ++ map rein_name (filter (λ r. same_name name r.group) sheet.reinsurers))) banks
        ∙ ap (λ (rs : List Rein). first_row (map rein_name rs)) reinsurers

    pub unused-holding : held_of sheet name ≡ 0 → holder_of name sheet ≡ None
    unused-holding held =
        let funds = none-uses (λ s. of_name name (stake_uses s)) (has_component name) (λ s e. let some = each-counts name s.fund.components e in omega (arith, some)) sheet.funds (omega (arith, no_names)) in
        ap (λ (n : ℕ). option_or (unless_none n users.Hold) (first_row (names_of_holders name sheet))) held ∙ ap (λ (rows : List Stake). first_row (map stake_name rows)) funds

  pub unused-currency : IsUnused name tallies.currencies → same_name name sheet.numbers.currency ≡ false → absorption_of name sheet ≡ None → user_of tables.Curve name sheet ≡ None
  unused-currency unused other none =
      let no_currencies : all_uses (of_currency name) sheet ≡ 0 = sym (are.currencies.counted unused.kept name) ∙ unused.none in
      let positions = none-uses (λ p. of_currency name (position_uses p)) (λ p. same_name name p.security.currency) (λ p e. one-counts name (Some p.security.currency) e) sheet.securities (omega (arith, no_currencies)) in
      let liabilities = none-uses (λ l. of_currency name (liability_uses l)) (λ l. same_name name l.currency) (λ l e. one-counts name (Some l.currency) e) sheet.liabilities (omega (arith, no_currencies)) in
      ap (λ (t : Bool). option_or (if t then Some users.Asof else None) (option_or (absorption_of name sheet) (first_row (names_in_currency name sheet)))) other
      ∙ ap (λ (o : Option User). option_or o (first_row (names_in_currency name sheet))) none
      ∙ ap (λ (ps : List Position). first_row (map position_name ps ++ map liability_name (filter (λ l. same_name name l.currency) sheet.liabilities))) positions
      ∙ ap (λ (ls : List Liability). first_row (map liability_name ls)) liabilities
