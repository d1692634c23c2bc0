-- The components of the funds by number, as `scr_funds` takes them.
use Rattle.std.proofs.Common.{◌≡◌, ℕ, suc, ◌+◌, ◌^◌, ◌<◌, ◌≤◌, ℤ, List, [], ◌∷◌, map, length, slice_get, nat_eq, Some, refl, sym, ap, subst, ◌∙◌, arith}
use Rattle.std.specs.List.{All, AllByRecursion, enumerate_from}
use Rattle.std.specs.Option.{option_map}
use Rattle.std.proofs.lemmas.List.{length-map, get_or_append_left}
use Rattle.std.proofs.lemmas.List.Elements.{All-from_recursion}
use Rattle.std.proofs.lemmas.Option.{slice_get_within, get_or_from_slice_get, slice_get-map}
use Rattle.scr_funds.specs.ByNumber.{IsRow, numbered, renamed, named}
use Rattle.scr_funds.specs.Chains.{IsAcyclic}
use Rattle.scr_funds.specs.LookThrough.{Weighted, names_in}
use Rattle.scr_funds.proofs.NamedTotals.{acyclic-by_number}
use Rattle.scr_tables.specs.Names.{same_name}
use Rattle.scr_tables.proofs.TableRows.{same_name-is, same_name-itself, All-both}
use Rattle.scr_sheet.specs.Records.{natural}
use Rattle.scr_sheet.specs.Forms.{IsName}
use Rattle.scr_sheet.specs.Totals.{shared, shared_funds}
use Rattle.scr_sheet.specs.BalanceSheet.{stake_name, position_name}
use Rattle.scr_sheet.specs.declared.sheet.BalanceSheet.{BalanceSheet}
use Rattle.scr_sheet.specs.Validity.{Valid, IsHeld, IsStake, IsBetween}
use Rattle.scr_profile.specs.declared.limits.TheConstants.{MIN_WEIGHT, MAX_WEIGHT}
use Rattle.scr_sheet.specs.declared.rows.Stake.{Stake}
use Rattle.scr_sheet.proofs.HeldNames.{names-once}
use Rattle.scr_sheet.proofs.SeenThrough.{each-map, weighted, weight-within, acyclic-names}
use Rattle.scr_look_through.specs.ByNumber.{names_by_number, component_by_number, row_by_number, rows_by_number}
use Rattle.scr_look_through.proofs.HolderNames.{name_at, count-names, one_to_one, numbered-name}

module _ (sheet : BalanceSheet) (valid : Valid sheet) where
  pub apart-numbers : (j k : ℕ) → j < length (names_by_number sheet) → k < length (names_by_number sheet) → name_at sheet j ≡ name_at sheet k → j ≡ k
  apart-numbers j k l m e = one_to_one (names_by_number sheet) (names-once sheet valid.named_once) j k l m e

  -- under the names of their numbers, components are those of the sheet
  row-named : (cs : List (List ℕ × ℤ)) → AllByRecursion (λ c. IsHeld sheet c.0) cs
      → renamed (name_at sheet) (map (component_by_number sheet) cs) ≡ map weighted cs
  row-named [] held = refl
  row-named (c ∷ cs) held =
      ap (λ name. (name, natural c.1) ∷ renamed (name_at sheet) (map (component_by_number sheet) cs)) (numbered-name sheet c.0 held.0).0
      ∙ ap (λ rest. (c.0, natural c.1) ∷ rest) (row-named cs held.1)

  funds-named-from : (a : ℕ) (stakes : List Stake) → ((k : ℕ) (s : Stake) → slice_get stakes k ≡ Some s → name_at sheet (a + k) ≡ s.fund.name)
      → AllByRecursion (λ s. AllByRecursion (λ c. IsHeld sheet c.0) s.fund.components) stakes
      → named (name_at sheet) (enumerate_from a (map (row_by_number sheet) stakes)) ≡ map shared stakes
  funds-named-from a [] names held = refl
  funds-named-from a (s ∷ stakes) names held =
      ap (λ name. (name, renamed (name_at sheet) (row_by_number sheet s)) ∷ named (name_at sheet) (enumerate_from (a + 1) (map (row_by_number sheet) stakes))) first
      ∙ ap (λ row. (s.fund.name, row) ∷ named (name_at sheet) (enumerate_from (a + 1) (map (row_by_number sheet) stakes))) (row-named s.fund.components held.0)
      ∙ ap (λ rest. shared s ∷ rest) (funds-named-from (a + 1) stakes (λ k t is. ap (name_at sheet) (moved k) ∙ names (suc k) t is) held.1)
    where
      first : name_at sheet a ≡ s.fund.name
      first = ap (name_at sheet) (here) ∙ names 0 s refl
        where
          here : a ≡ a + 0
          here = omega arith

      moved : (k : ℕ) → a + 1 + k ≡ a + suc k
      moved k = omega arith

  -- the funds under the names of their numbers are those of the sheet
  pub funds-named : named (name_at sheet) (numbered (rows_by_number sheet)) ≡ shared_funds sheet
  funds-named = funds-named-from 0 sheet.funds names valid.known.components
    where
      names : (k : ℕ) (s : Stake) → slice_get sheet.funds k ≡ Some s → name_at sheet (0 + k) ≡ s.fund.name
      names k s is =
          let there : slice_get (map stake_name sheet.funds) k ≡ Some (stake_name s) = slice_get-map stake_name sheet.funds k ∙ ap (option_map stake_name) is in
          let same : 0 + k ≡ k = omega arith in
          ap (name_at sheet) same
          ∙ get_or_append_left (map stake_name sheet.funds) (map position_name sheet.securities) [] k (slice_get_within (map stake_name sheet.funds) k (stake_name s) there)
          ∙ get_or_from_slice_get (map stake_name sheet.funds) k (stake_name s) [] there

  -- ---- what is asked of them

  row-below : (cs : List (List ℕ × ℤ)) → AllByRecursion (λ c. IsHeld sheet c.0) cs → AllByRecursion (λ (c : ℕ × ℕ). c.0 < length (names_by_number sheet)) (map (component_by_number sheet) cs)
  row-below [] held = tt
  row-below (c ∷ cs) held = ((numbered-name sheet c.0 held.0).1, row-below cs held.1)

  row-positive : (cs : List (List ℕ × ℤ)) → AllByRecursion (λ c. IsName c.0 × IsBetween MIN_WEIGHT MAX_WEIGHT c.1) cs → AllByRecursion (λ (c : ℕ × ℕ). 1 ≤ c.1) (map (component_by_number sheet) cs)
  row-positive [] weights = tt
  row-positive (c ∷ cs) weights = ((weight-within c.1 weights.0.1).0, row-positive cs weights.1)

  row-small : (cs : List (List ℕ × ℤ)) → AllByRecursion (λ c. IsName c.0 × IsBetween MIN_WEIGHT MAX_WEIGHT c.1) cs → AllByRecursion (λ (c : ℕ × ℕ). c.1 ≤ 10 ^ 9) (map (component_by_number sheet) cs)
  row-small [] weights = tt
  row-small (c ∷ cs) weights = ((weight-within c.1 weights.0.1).1, row-small cs weights.1)

  row-sound : (s : Stake) → IsStake s → AllByRecursion (λ c. IsHeld sheet c.0) s.fund.components → IsRow (length (names_by_number sheet)) (row_by_number sheet s)
  row-sound s formed held = record {
    few = let l : length s.fund.components ≤ 1000 = formed.2 in let same : length (row_by_number sheet s) ≡ length s.fund.components = length-map s.fund.components (component_by_number sheet) in omega arith;
    below = All-from_recursion (λ c. c.0 < length (names_by_number sheet)) (row_by_number sheet s) (row-below s.fund.components held);
    positive = All-from_recursion (λ c. 1 ≤ c.1) (row_by_number sheet s) (row-positive s.fund.components formed.1);
    small = All-from_recursion (λ c. c.1 ≤ 10 ^ 9) (row_by_number sheet s) (row-small s.fund.components formed.1);
  }

  pub rows-sound : All (IsRow (length (names_by_number sheet))) (rows_by_number sheet)
  rows-sound = All-from_recursion (IsRow (length (names_by_number sheet))) (rows_by_number sheet)
      (each-map (IsRow (length (names_by_number sheet))) (row_by_number sheet) sheet.funds
      (All-both IsStake (λ s. AllByRecursion (λ c. IsHeld sheet c.0) s.fund.components) (λ s. IsRow (length (names_by_number sheet)) (row_by_number sheet s)) sheet.funds row-sound valid.funds valid.known.components))

  numbers-below : (a : ℕ) (rows : List (Weighted ℕ)) → a + length rows ≤ length (names_by_number sheet) → AllByRecursion (λ fund. fund.0 < length (names_by_number sheet)) (enumerate_from a rows)
  numbers-below a [] l = tt
  numbers-below a (row ∷ rows) l = (omega arith, numbers-below (a + 1) rows (omega arith))

  pub funds-below : All (λ fund. fund.0 < length (names_by_number sheet)) (numbered (rows_by_number sheet))
  funds-below = All-from_recursion (λ fund. fund.0 < length (names_by_number sheet)) (numbered (rows_by_number sheet))
      (let count : length (rows_by_number sheet) ≡ length sheet.funds = length-map sheet.funds (row_by_number sheet) in
      numbers-below 0 (rows_by_number sheet) (omega (arith, count-names sheet)))

  rows-below : (a : ℕ) (stakes : List Stake) → AllByRecursion (λ s. AllByRecursion (λ c. IsHeld sheet c.0) s.fund.components) stakes
      → AllByRecursion (λ fund. All (λ c. c.0 < length (names_by_number sheet)) fund.1) (enumerate_from a (map (row_by_number sheet) stakes))
  rows-below a [] held = tt
  rows-below a (s ∷ stakes) held =
      (All-from_recursion (λ c. c.0 < length (names_by_number sheet)) (row_by_number sheet s) (row-below s.fund.components held.0), rows-below (a + 1) stakes held.1)

  pub components-below : All (λ fund. All (λ c. c.0 < length (names_by_number sheet)) fund.1) (numbered (rows_by_number sheet))
  components-below = All-from_recursion (λ fund. All (λ c. c.0 < length (names_by_number sheet)) fund.1) (numbered (rows_by_number sheet)) (rows-below 0 sheet.funds valid.known.components)

  -- no fund leads to itself, by number
  pub acyclic-numbers : IsAcyclic (names_in nat_eq (numbered (rows_by_number sheet)))
  acyclic-numbers =
      acyclic-by_number same_name same_name-is same_name-itself (length (names_by_number sheet)) (name_at sheet) apart-numbers (numbered (rows_by_number sheet)) funds-below
      (subst (λ funds. IsAcyclic (names_in same_name funds)) (sym funds-named) (acyclic-names sheet valid))
