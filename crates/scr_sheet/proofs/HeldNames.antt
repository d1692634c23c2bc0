-- The names of the funds and the securities of a balance sheet: no two of them are one, each stands in its own table, and
-- what is held of them all is all that is held directly.
use Rattle.std.proofs.Common.{◌≡◌, ℕ, true, false, List, [], ◌∷◌, ◌++◌, map, Some, None, is_some, Option, sum_by, refl, ap, ◌∙◌, arith}
use Rattle.std.specs.List.{AllByRecursion, IsDistinct}
use Rattle.std.specs.Option.{option_map_or}
use Rattle.std.proofs.lemmas.List.Sums.{sum_by-append}
use Rattle.scr_funds.proofs.Members.{IsMember, IsMember-left, IsMember-right}
use Rattle.scr_funds.proofs.SumsBy.{sum_by-map}
use Rattle.scr_tables.specs.Names.{same_name}
use Rattle.scr_tables.specs.Tables.{row_of, has_row}
use Rattle.scr_tables.proofs.TableRows.{IsFresh, All-append, All-map, All-row_of, same_name-flip, same_name-is, name_of-row_of, fresh_from_has_row}
use Rattle.scr_sheet.specs.BalanceSheet.{names_of, position_name, stake_name, position_of, stake_of, held_of, held_total}
use Rattle.scr_sheet.specs.declared.{sheet.BalanceSheet.BalanceSheet, rows.Position.Position}
use Rattle.scr_sheet.specs.Validity.{Valid, IsHeld}
use Rattle.scr_sheet.proofs.Holds.{distinct-securities, distinct-funds, no_fund, no_security, sum-held_of}

abbrev pub held_names : BalanceSheet → List (List ℕ)
held_names sheet = map stake_name sheet.funds ++ map position_name sheet.securities

-- two lists of names without repeats, none of the one in the other, are one such list
distinct-append : (xs ys : List (List ℕ)) → IsDistinct same_name xs → IsDistinct same_name ys → AllByRecursion (λ y. IsFresh y xs) ys → IsDistinct same_name (xs ++ ys)
unfolding IsDistinct
distinct-append [] ys left right fresh = right
distinct-append (x ∷ xs) ys left right fresh = (
  All-append (λ n. same_name x n ≡ false) xs ys left.0 (All-map (λ y. IsFresh y (x ∷ xs)) (λ y. same_name x y ≡ false) ys (λ y f. same_name-flip x y ∙ f.0) fresh),
  distinct-append xs ys left.1 right (All-map (λ y. IsFresh y (x ∷ xs)) (λ y. IsFresh y xs) ys (λ y f. f.1) fresh),
)

-- where a name has a row, it is one of the rows' names
pub member-row : {Row : Type 0} (name_of : Row → List ℕ) (name : List ℕ) (rows : List Row) → has_row name_of name rows ≡ true → IsMember name (map name_of rows)
member-row name_of name [] has = absurd (cc)
member-row name_of name (row ∷ rows) has = let rest = member-row name_of name rows in grind (arith, has, rest, same_name-is name (name_of row))

-- the row that a name has
pub row-there : {Row : Type 0} (name_of : Row → List ℕ) (name : List ℕ) (rows : List Row) → has_row name_of name rows ≡ true → (row : Row) × (row_of name_of name rows ≡ Some row)
row-there {Row} name_of name rows has = by (row_of name_of name rows) has
  where
    by : (found : Option Row) → is_some found ≡ true → (row : Row) × (found ≡ Some row)
    by None h = absurd (cc)
    by (Some row) h = (row, refl)

-- where no name of one table has a row in another, a name with a row in the one has none in the other
no-row-elsewhere : {Row Other : Type 0} (name_of : Row → List ℕ) (other_name : Other → List ℕ) (name : List ℕ) (rows : List Row) (others : List Other)
    → AllByRecursion (λ row. row_of other_name (name_of row) others ≡ None) rows → has_row name_of name rows ≡ true → row_of other_name name others ≡ None
no-row-elsewhere name_of other_name name rows others none has =
    let found = row-there name_of name rows has in
    ap (λ (n : List ℕ). row_of other_name n others) (same_name-is name (name_of found.0) (name_of-row_of name_of name rows found.0 found.1))
    ∙ All-row_of name_of (λ row. row_of other_name (name_of row) others ≡ None) name rows found.0 found.1 none

module _ (sheet : BalanceSheet) where
  pub security-member : (name : List ℕ) → has_row position_name name sheet.securities ≡ true → IsMember name (held_names sheet)
  security-member name has = IsMember-right (map stake_name sheet.funds) (map position_name sheet.securities) name (member-row position_name name sheet.securities has)

  pub fund-member : (name : List ℕ) → has_row stake_name name sheet.funds ≡ true → IsMember name (held_names sheet)
  fund-member name has = IsMember-left (map stake_name sheet.funds) (map position_name sheet.securities) name (member-row stake_name name sheet.funds has)

  pub held-member : (name : List ℕ) → IsHeld sheet name → IsMember name (held_names sheet)
  held-member name held =
      let security = security-member name in
      let fund = fund-member name in
      grind (arith, held, security, fund)

module _ (sheet : BalanceSheet) (apart : IsDistinct same_name (names_of sheet)) where
  pub names-once : IsDistinct same_name (held_names sheet)
  names-once =
      distinct-append (map stake_name sheet.funds) (map position_name sheet.securities) (distinct-funds sheet apart) (distinct-securities sheet apart)
      (each sheet.securities (no_fund sheet apart))
    where
      each : (ps : List Position) → AllByRecursion (λ p. stake_of (position_name p) sheet.funds ≡ None) ps → AllByRecursion (λ n. IsFresh n (map stake_name sheet.funds)) (map position_name ps)
      each [] none = tt
      each (p ∷ ps) none = (fresh_from_has_row stake_name (position_name p) sheet.funds (ap is_some none.0), each ps none.1)

  -- ---- what is held of a name stands in one table

  no-stake : (name : List ℕ) → has_row position_name name sheet.securities ≡ true → stake_of name sheet.funds ≡ None
  no-stake name has = no-row-elsewhere position_name stake_name name sheet.securities sheet.funds (no_fund sheet apart) has

  no-position : (name : List ℕ) → has_row stake_name name sheet.funds ≡ true → position_of name sheet.securities ≡ None
  no-position name has = no-row-elsewhere stake_name position_name name sheet.funds sheet.securities (no_security sheet apart) has

  pub held-of-security : (name : List ℕ) → has_row position_name name sheet.securities ≡ true
      → held_of sheet name ≡ option_map_or (λ p. p.held) (position_of name sheet.securities) 0
  held-of-security name has = let none = no-stake name has in grind (arith, none)

  pub held-of-fund : (name : List ℕ) → has_row stake_name name sheet.funds ≡ true
      → held_of sheet name ≡ option_map_or (λ s. s.held) (stake_of name sheet.funds) 0
  held-of-fund name has = let none = no-position name has in grind (arith, none)

-- all that is held directly
pub held-sum : (sheet : BalanceSheet) → Valid sheet → sum_by (held_of sheet) (held_names sheet) ≡ held_total sheet
held-sum sheet valid =
    let two = sum_by-append (held_of sheet) (map stake_name sheet.funds) (map position_name sheet.securities) in
    let funds = sum_by-map (held_of sheet) stake_name sheet.funds in
    let securities = sum_by-map (held_of sheet) position_name sheet.securities in
    omega (arith, two, funds, securities, sum-held_of sheet valid)
