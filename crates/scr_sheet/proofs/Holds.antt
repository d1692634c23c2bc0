-- Each row is found under its name, so what is held under the names of the securities and of the funds sums to all that is held.
use Rattle.std.proofs.Common.{◌≡◌, ℕ, ◌+◌, zero, suc, false, List, [], ◌∷◌, ◌++◌, map, slice_get, sum_by, Option, Some, None, refl, sym, ap, subst, ◌∙◌, arith}
use Rattle.std.specs.List.{AllByRecursion, IsDistinct}
use Rattle.std.specs.Option.{option_map_or}
use Rattle.std.proofs.lemmas.List.Sums.{sum_by-cons}
use Rattle.scr_tables.specs.Names.{same_name}
use Rattle.scr_tables.specs.Tables.{row_of}
use Rattle.scr_sheet.specs.BalanceSheet.{group_name, position_name, liability_name, bank_name, rein_name, stake_name, names_of, position_of, stake_of, held_of, held_total}
use Rattle.scr_sheet.specs.declared.{sheet.BalanceSheet.BalanceSheet, rows.Position.Position, rows.Stake.Stake}
use Rattle.scr_sheet.specs.Validity.{Valid}
use Rattle.scr_tables.proofs.TableRows.{IsFresh, All-both, All-row_of, name_of-row_of, same_name-is, same_name-itself, same_name-flip, row_of-here, row_of-later, row_of-fresh}

All-left : {X : Type 0} (P : X → Type 0) (xs ys : List X) → AllByRecursion P (xs ++ ys) → AllByRecursion P xs
All-left P [] ys all = tt
All-left P (x ∷ xs) ys all = (all.0, All-left P xs ys all.1)

pub distinct-left : (xs ys : List (List ℕ)) → IsDistinct same_name (xs ++ ys) → IsDistinct same_name xs
unfolding IsDistinct
distinct-left [] ys apart = tt
distinct-left (x ∷ xs) ys apart = (All-left (λ other. same_name x other ≡ false) xs ys apart.0, distinct-left xs ys apart.1)

pub distinct-right : (xs ys : List (List ℕ)) → IsDistinct same_name (xs ++ ys) → IsDistinct same_name ys
unfolding IsDistinct
distinct-right [] ys apart = apart
distinct-right (x ∷ xs) ys apart = distinct-right xs ys apart.1

pub All-right : {X : Type 0} (P : X → Type 0) (xs ys : List X) → AllByRecursion P (xs ++ ys) → AllByRecursion P ys
All-right P [] ys all = all
All-right P (x ∷ xs) ys all = All-right P xs ys all.1

-- no name of the one list is one of the other's
distinct-between : (xs ys : List (List ℕ)) → IsDistinct same_name (xs ++ ys) → AllByRecursion (λ x. IsFresh x ys) xs
unfolding IsDistinct
distinct-between [] ys apart = tt
distinct-between (x ∷ xs) ys apart = (All-right (λ other. same_name x other ≡ false) xs ys apart.0, distinct-between xs ys apart.1)

module _ {Row : Type 0} (name_of : Row → List ℕ) where
  found_later : (row : Row) (rows others : List Row) → AllByRecursion (λ n. same_name (name_of row) n ≡ false) (map name_of others) → AllByRecursion (λ other. row_of name_of (name_of other) rows ≡ Some other) others
      → AllByRecursion (λ other. row_of name_of (name_of other) (row ∷ rows) ≡ Some other) others
  found_later row rows [] apart found = tt
  found_later row rows (other ∷ others) apart found =
      (row_of-later name_of (name_of other) row rows (same_name-flip (name_of other) (name_of row) ∙ apart.0) ∙ found.0, found_later row rows others apart.1 found.1)

  -- each row is found under its own name
  pub row_of-own : (rows : List Row) → IsDistinct same_name (map name_of rows) → AllByRecursion (λ row. row_of name_of (name_of row) rows ≡ Some row) rows
  unfolding IsDistinct
  row_of-own [] apart = tt
  row_of-own (row ∷ rows) apart = (row_of-here name_of (name_of row) row rows (same_name-itself (name_of row)), found_later row rows rows apart.0 (row_of-own rows apart.1))

at_place : {X : Type 0} (P : X → Type 0) (xs : List X) (k : ℕ) (x : X) → slice_get xs k ≡ Some x → AllByRecursion P xs → P x
at_place P [] k x is all = absurd (cc)
at_place P (y ∷ ys) zero x is all = let same : y ≡ x = cc in subst P same all.0
at_place P (y ∷ ys) (suc k) x is all = at_place P ys k x is all.1

first_part : (a b m : ℕ) → a ≡ m → b ≡ 0 → a + b ≡ m
first_part a b m left right = omega (arith, left, right)

second_part : (a b n : ℕ) → a ≡ 0 → b ≡ n → a + b ≡ n
second_part a b n left right = omega (arith, left, right)

sum_by-same : {X : Type 0} (f h : X → ℕ) (ps : List X) → AllByRecursion (λ p. f p ≡ h p) ps → sum_by f ps ≡ sum_by h ps
sum_by-same f h [] same = refl
sum_by-same f h (p ∷ ps) same = sum_by-cons f p ps ∙ ap (λ n. n + sum_by f ps) same.0 ∙ ap (λ n. h p + n) (sum_by-same f h ps same.1) ∙ sym (sum_by-cons h p ps)

-- ---- the names of securities and funds

module _ (sheet : BalanceSheet) (apart : IsDistinct same_name (names_of sheet)) where
  -- the names of liabilities, banks, reinsurers and funds
  abbrev later : List (List ℕ)
  later = map liability_name sheet.liabilities ++ (map bank_name sheet.banks ++ (map rein_name sheet.reinsurers ++ map stake_name sheet.funds))

  from_securities : IsDistinct same_name (map position_name sheet.securities ++ later)
  from_securities = distinct-right (map group_name sheet.groups) _ apart

  pub distinct-securities : IsDistinct same_name (map position_name sheet.securities)
  distinct-securities = distinct-left (map position_name sheet.securities) later from_securities

  pub distinct-funds : IsDistinct same_name (map stake_name sheet.funds)
  distinct-funds =
      distinct-right (map rein_name sheet.reinsurers) _ (distinct-right (map bank_name sheet.banks) _ (distinct-right (map liability_name sheet.liabilities) _ (distinct-right (map position_name sheet.securities) later from_securities)))

  only_funds : (name : List ℕ) → IsFresh name later → IsFresh name (map stake_name sheet.funds)
  only_funds name fresh = All-right _ (map rein_name sheet.reinsurers) _ (All-right _ (map bank_name sheet.banks) _ (All-right _ (map liability_name sheet.liabilities) _ fresh))

  -- no fund has a security's name
  pub no_fund : AllByRecursion (λ p. stake_of (position_name p) sheet.funds ≡ None) sheet.securities
  no_fund = each sheet.securities (distinct-between (map position_name sheet.securities) later from_securities)
    where
      each : (ps : List Position) → AllByRecursion (λ n. IsFresh n later) (map position_name ps) → AllByRecursion (λ p. stake_of (position_name p) sheet.funds ≡ None) ps
      each [] fresh = tt
      each (p ∷ ps) fresh = (row_of-fresh stake_name (position_name p) sheet.funds (only_funds (position_name p) fresh.0), each ps fresh.1)

-- no security has a fund's name
pub no_security : (sheet : BalanceSheet) → IsDistinct same_name (names_of sheet) → AllByRecursion (λ s. position_of (stake_name s) sheet.securities ≡ None) sheet.funds
no_security sheet apart = each sheet.funds (row_of-own stake_name sheet.funds (distinct-funds sheet apart))
  where
    -- a security of the name would be a row of whose name no fund is
    by : (s : Stake) → stake_of (stake_name s) sheet.funds ≡ Some s → (found : Option Position) → position_of (stake_name s) sheet.securities ≡ found → found ≡ None
    by s own None e = refl
    by s own (Some p) e =
        let none : stake_of (position_name p) sheet.funds ≡ None = All-row_of position_name (λ q. stake_of (position_name q) sheet.funds ≡ None) (stake_name s) sheet.securities p e (no_fund sheet apart) in
        let one : stake_name s ≡ position_name p = same_name-is (stake_name s) (position_name p) (name_of-row_of position_name (stake_name s) sheet.securities p e) in
        let never : Some s ≡ None = sym own ∙ ap (λ n. stake_of n sheet.funds) one ∙ none in
        absurd (cc)

    each : (stakes : List Stake) → AllByRecursion (λ s. stake_of (stake_name s) sheet.funds ≡ Some s) stakes → AllByRecursion (λ s. position_of (stake_name s) sheet.securities ≡ None) stakes
    each [] own = tt
    each (s ∷ stakes) own = (by s own.0 (position_of (stake_name s) sheet.securities) refl, each stakes own.1)

-- ---- what is held under the name of a row is what the row says

module _ (sheet : BalanceSheet) (valid : Valid sheet) where
  held_positions : AllByRecursion (λ p. held_of sheet p.security.name ≡ p.held) sheet.securities
  held_positions =
      All-both (λ p. position_of (position_name p) sheet.securities ≡ Some p) (λ p. stake_of (position_name p) sheet.funds ≡ None) (λ p. held_of sheet p.security.name ≡ p.held) sheet.securities
      (λ p own none. first_part _ _ p.held (ap (λ o. option_map_or (λ q. q.held) o 0) own) (ap (λ o. option_map_or (λ s. s.held) o 0) none))
      (row_of-own position_name sheet.securities (distinct-securities sheet valid.named_once)) (no_fund sheet valid.named_once)

  held_stakes : AllByRecursion (λ s. held_of sheet s.fund.name ≡ s.held) sheet.funds
  held_stakes =
      All-both (λ s. stake_of (stake_name s) sheet.funds ≡ Some s) (λ s. position_of (stake_name s) sheet.securities ≡ None) (λ s. held_of sheet s.fund.name ≡ s.held) sheet.funds
      (λ s own none. second_part _ _ s.held (ap (λ o. option_map_or (λ q. q.held) o 0) none) (ap (λ o. option_map_or (λ q. q.held) o 0) own))
      (row_of-own stake_name sheet.funds (distinct-funds sheet valid.named_once)) (no_security sheet valid.named_once)

pub held_of-row : (sheet : BalanceSheet) (k : ℕ) (p : Position) → Valid sheet → slice_get sheet.securities k ≡ Some p → held_of sheet p.security.name ≡ p.held
held_of-row sheet k p valid is = at_place (λ q. held_of sheet q.security.name ≡ q.held) sheet.securities k p is (held_positions sheet valid)

pub held_of-fund : (sheet : BalanceSheet) (k : ℕ) (s : Stake) → Valid sheet → slice_get sheet.funds k ≡ Some s → held_of sheet s.fund.name ≡ s.held
held_of-fund sheet k s valid is = at_place (λ q. held_of sheet q.fund.name ≡ q.held) sheet.funds k s is (held_stakes sheet valid)

pub sum-held_of : (sheet : BalanceSheet) → Valid sheet → sum_by (λ p. held_of sheet p.security.name) sheet.securities + sum_by (λ s. held_of sheet s.fund.name) sheet.funds ≡ held_total sheet
sum-held_of sheet valid =
    let securities : sum_by (λ p. held_of sheet p.security.name) sheet.securities ≡ sum_by (λ p. p.held) sheet.securities = sum_by-same (λ p. held_of sheet p.security.name) (λ p. p.held) sheet.securities (held_positions sheet valid) in
    let funds : sum_by (λ s. held_of sheet s.fund.name) sheet.funds ≡ sum_by (λ s. s.held) sheet.funds = sum_by-same (λ s. held_of sheet s.fund.name) (λ s. s.held) sheet.funds (held_stakes sheet valid) in
    ap (λ n. n + sum_by (λ s. held_of sheet s.fund.name) sheet.funds) securities ∙ ap (λ n. sum_by (λ p. p.held) sheet.securities + n) funds
