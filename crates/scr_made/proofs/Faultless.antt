-- The single tests for a fault, and why each finds none.
use Rattle.std.proofs.Common.{◌≡◌, ℕ, suc, ℤ, pos, ◌+◌, ◌*◌, ◌<◌, ◌≤◌, ◌^◌, ◌==◌, ◌&&◌, ◌||◌, ◌≤ℤ◌, Bool, true, false, not, if◌then◌else◌, List, [], ◌∷◌, Option, None, Some, is_some, refl, sym, ap, ◌∙◌, arith, le-ltb}
use Rattle.std.specs.List.{AllByRecursion}
use Rattle.std.specs.Option.{option_or}
use Rattle.std.proofs.lemmas.Int.{ints}
use Rattle.scr_tables.specs.Tables.{has_row}
use Rattle.scr_sheet.specs.BalanceSheet.{bank_name, curve_name, group_name, is_in, is_named, liability_name, position_name, rein_name, stake_name}
use Rattle.scr_sheet.specs.Faults.{above, cycle, fields_outside, first_fault, in_use, liability_flows_outside, list_fault, misplaced, misplaced_holding, outside, sheet_outside, too_long, unknown_currency, unknown_name, unknown_row, volumes_outside, wrong_kind}
use Rattle.scr_sheet.specs.Records.{applied}
use Rattle.scr_sheet.specs.declared.{edit.Edit.Edit, fault.Fault.Fault, fault.Quantity.Quantity, keys.Table.Table, sheet.BalanceSheet.BalanceSheet}
use Rattle.scr_sheet.specs.declared.fault.Fault.TheVariants as faults
use Rattle.scr_sheet.specs.declared.keys.Table.TheVariants as tables
use Rattle.scr_made.specs.Accepted.{IsSound}
use Rattle.scr_made.proofs.Built.{Built, Counts, euros_dollars_pounds, within}
use Rattle.scr_made.proofs.Numbered.{bank_letter, fund_letter, group_letter, has-foreign, has-fresh, has-there, has_names, liability_letter, or_true, row_name, security_letter, stands}

-- ---- none of several

pub two_none : {a b : Option Fault} → a ≡ None → b ≡ None → option_or a b ≡ None
two_none p q = cc

seven_none : {a b c d e f g : Option Fault} → a ≡ None → b ≡ None → c ≡ None → d ≡ None → e ≡ None → f ≡ None → g ≡ None
    → option_or a (option_or b (option_or c (option_or d (option_or e (option_or f g))))) ≡ None
seven_none p q r s t u v = cc

pub first_fault-none : {A : Type 0} (fault : A → Option Fault) (xs : List A) → AllByRecursion (λ x. fault x ≡ None) xs
    → first_fault fault xs ≡ None
first_fault-none fault [] all = refl
first_fault-none fault (x ∷ xs) all = two_none all.0 (first_fault-none fault xs all.1)

pub unless : (t : Bool) (fault : Option Fault) → fault ≡ None → (if t then None else fault) ≡ None
unless true fault h = refl
unless false fault h = h

-- the record has no fault where each test finds none, and the sheet that it leaves is one of those that are built
pub sound : (edit : Edit) (sheet : BalanceSheet) (n : Counts) → list_fault edit ≡ None → unknown_name edit sheet ≡ None
    → wrong_kind edit sheet ≡ None → in_use edit sheet ≡ None → cycle edit sheet ≡ None → fields_outside edit ≡ None
    → Built n (applied edit sheet) → liability_flows_outside edit (applied edit sheet) ≡ None
    → volumes_outside edit (applied edit sheet) ≡ None → IsSound edit sheet
unfolding IsSound
sound edit sheet n list known kind free ending fields b flows volumes =
    seven_none list known kind free ending fields (within n (applied edit sheet) b edit flows volumes)

-- and it leaves such a sheet
abbrev pub Step : Counts → Edit → BalanceSheet → Type 0
Step n edit sheet = IsSound edit sheet × Built n (applied edit sheet)

-- ---- fields

pub short : (first fields most number : ℕ) → number ≤ most → too_long first fields most number ≡ None
short first fields most number h =
    ap (λ t. if t then Some (faults.Syntax (first + fields * most)) else None) (le-ltb most number h)

pub inside : (quantity : Quantity) (low high value : ℤ) → low ≤ℤ value → value ≤ℤ high
    → outside quantity low high value ≡ None
inside quantity low high value h k = grind (arith, ints, h, k)

pub amount_inside : (quantity : Quantity) (n most : ℕ) → n ≤ most → outside quantity (pos 0) (pos most) (pos n) ≡ None
amount_inside quantity n most h = inside quantity (pos 0) (pos most) (pos n) (omega (arith, ints)) (omega (arith, ints, h))

-- ---- names

and_false : (t : Bool) → (t && false) ≡ false
and_false true = refl
and_false false = refl

right_kind : (t s : Bool) (fault : Fault) → s ≡ true → (if t && not s then Some fault else None) ≡ None
right_kind t s fault h = rw (h, and_false t) refl

none_of_six : (a b c d e f : Bool) → a ≡ false → b ≡ false → c ≡ false → d ≡ false → e ≡ false → f ≡ false
    → (a || b || c || d || e || f) ≡ false
none_of_six a b c d e f p q r s t u = grind (arith, p, q, r, s, t, u)

first_of_six : (a b c d e f : Bool) → a ≡ true → (a || b || c || d || e || f) ≡ true
first_of_six a b c d e f h = grind (arith, h)

second_of_six : (a b c d e f : Bool) → b ≡ true → (a || b || c || d || e || f) ≡ true
second_of_six a b c d e f h = grind (arith, h)

third_of_six : (a b c d e f : Bool) → c ≡ true → (a || b || c || d || e || f) ≡ true
third_of_six a b c d e f h = grind (arith, h)

last_of_six : (a b c d e f : Bool) → f ≡ true → (a || b || c || d || e || f) ≡ true
last_of_six a b c d e f h = grind (arith, h)

module _ (name : List ℕ) (sheet : BalanceSheet) where
  pub known_row : is_named name sheet ≡ true → unknown_row name sheet ≡ None
  known_row h = ap (λ t. if t then None else Some (faults.UnknownName name)) h

  pub known_currency : is_in tables.Curve name sheet ≡ true → unknown_currency name sheet ≡ None
  known_currency h = ap (λ t. if t then None else Some (faults.UnknownName name)) h

  pub new_name : (table : Table) → is_named name sheet ≡ false → misplaced table name sheet ≡ None
  new_name table h = ap (λ t. if t && not (is_in table name sheet) then Some (faults.WrongKind name) else None) h

  pub in_place : (table : Table) → is_in table name sheet ≡ true → misplaced table name sheet ≡ None
  in_place table h = right_kind (is_named name sheet) (is_in table name sheet) (faults.WrongKind name) h

  pub held_security : is_in tables.Security name sheet ≡ true → misplaced_holding name sheet ≡ None
  held_security h =
      right_kind (is_named name sheet) (is_in tables.Security name sheet || is_in tables.Fund name sheet) (faults.WrongKind name)
      (ap (λ t. t || is_in tables.Fund name sheet) h)

  pub held_fund : is_in tables.Fund name sheet ≡ true → misplaced_holding name sheet ≡ None
  held_fund h =
      right_kind (is_named name sheet) (is_in tables.Security name sheet || is_in tables.Fund name sheet) (faults.WrongKind name)
      (ap (λ t. is_in tables.Security name sheet || t) h ∙ or_true (is_in tables.Security name sheet))

  pub named-group : is_in tables.Group name sheet ≡ true → is_named name sheet ≡ true
  named-group h =
      first_of_six (is_in tables.Group name sheet) (is_in tables.Security name sheet) (is_in tables.Liability name sheet)
      (is_in tables.Bank name sheet) (is_in tables.Rein name sheet) (is_in tables.Fund name sheet) h

  pub named-security : is_in tables.Security name sheet ≡ true → is_named name sheet ≡ true
  named-security h =
      second_of_six (is_in tables.Group name sheet) (is_in tables.Security name sheet) (is_in tables.Liability name sheet)
      (is_in tables.Bank name sheet) (is_in tables.Rein name sheet) (is_in tables.Fund name sheet) h

  pub named-liability : is_in tables.Liability name sheet ≡ true → is_named name sheet ≡ true
  named-liability h =
      third_of_six (is_in tables.Group name sheet) (is_in tables.Security name sheet) (is_in tables.Liability name sheet)
      (is_in tables.Bank name sheet) (is_in tables.Rein name sheet) (is_in tables.Fund name sheet) h

  pub named-fund : is_in tables.Fund name sheet ≡ true → is_named name sheet ≡ true
  named-fund h =
      last_of_six (is_in tables.Group name sheet) (is_in tables.Security name sheet) (is_in tables.Liability name sheet)
      (is_in tables.Bank name sheet) (is_in tables.Rein name sheet) (is_in tables.Fund name sheet) h

  free : is_in tables.Group name sheet ≡ false → is_in tables.Security name sheet ≡ false → is_in tables.Liability name sheet ≡ false
      → is_in tables.Bank name sheet ≡ false → is_in tables.Rein name sheet ≡ false → is_in tables.Fund name sheet ≡ false
      → is_named name sheet ≡ false
  free p q r s t u =
      none_of_six (is_in tables.Group name sheet) (is_in tables.Security name sheet) (is_in tables.Liability name sheet)
      (is_in tables.Bank name sheet) (is_in tables.Rein name sheet) (is_in tables.Fund name sheet) p q r s t u

-- ---- the names of a sheet that is built

module _ (n : Counts) (sheet : BalanceSheet) (b : Built n sheet) where
  pub group_there : (k : ℕ) → k < n.groups → is_in tables.Group (row_name group_letter k) sheet ≡ true
  group_there k h = has-there group_name group_letter k n.groups sheet.groups h b.groups

  pub security_there : (k : ℕ) → k < n.securities → is_in tables.Security (row_name security_letter k) sheet ≡ true
  security_there k h = has-there position_name security_letter k n.securities sheet.securities h b.securities

  pub fund_there : (k : ℕ) → k < n.funds → is_in tables.Fund (row_name fund_letter k) sheet ≡ true
  fund_there k h = has-there stake_name fund_letter k n.funds sheet.funds h b.funds

  pub liability_there : (k : ℕ) → k < n.liabilities → is_in tables.Liability (row_name liability_letter k) sheet ≡ true
  liability_there k h = has-there liability_name liability_letter k n.liabilities sheet.liabilities h b.liabilities

  pub currency_there : (currency : List ℕ) → stands currency euros_dollars_pounds ≡ true → is_in tables.Curve currency sheet ≡ true
  currency_there currency h = has_names curve_name currency sheet.curves ∙ ap (stands currency) b.curves ∙ h

  -- ---- names of other letters

  no_group : (letter k : ℕ) → (letter == group_letter) ≡ false → is_in tables.Group (row_name letter k) sheet ≡ false
  no_group letter k apart = has-foreign group_name letter group_letter k n.groups sheet.groups apart b.groups

  pub no_security : (letter k : ℕ) → (letter == security_letter) ≡ false
      → is_in tables.Security (row_name letter k) sheet ≡ false
  no_security letter k apart =
      has-foreign position_name letter security_letter k n.securities sheet.securities apart b.securities

  pub no_fund : (letter k : ℕ) → (letter == fund_letter) ≡ false → is_in tables.Fund (row_name letter k) sheet ≡ false
  no_fund letter k apart = has-foreign stake_name letter fund_letter k n.funds sheet.funds apart b.funds

  no_liability : (letter k : ℕ) → (letter == liability_letter) ≡ false
      → is_in tables.Liability (row_name letter k) sheet ≡ false
  no_liability letter k apart =
      has-foreign liability_name letter liability_letter k n.liabilities sheet.liabilities apart b.liabilities

  no_bank : (letter k : ℕ) → (letter == bank_letter) ≡ false → is_in tables.Bank (row_name letter k) sheet ≡ false
  no_bank letter k apart = has-foreign bank_name letter bank_letter k n.banks sheet.banks apart b.banks

  no_reinsurer : (name : List ℕ) → is_in tables.Rein name sheet ≡ false
  no_reinsurer name = ap (has_row rein_name name) b.reinsurers

  -- ---- the next name of each letter

  pub group_free : is_named (row_name group_letter n.groups) sheet ≡ false
  group_free =
      let k = n.groups in
      free (row_name group_letter k) sheet
      (has-fresh group_name group_letter k sheet.groups (omega (arith, b.few.groups)) b.groups)
      (no_security group_letter k refl) (no_liability group_letter k refl) (no_bank group_letter k refl)
      (no_reinsurer (row_name group_letter k)) (no_fund group_letter k refl)

  pub security_free : is_named (row_name security_letter n.securities) sheet ≡ false
  security_free =
      let k = n.securities in
      free (row_name security_letter k) sheet (no_group security_letter k refl)
      (has-fresh position_name security_letter k sheet.securities (omega (arith, b.few.securities)) b.securities)
      (no_liability security_letter k refl) (no_bank security_letter k refl)
      (no_reinsurer (row_name security_letter k)) (no_fund security_letter k refl)

  pub liability_free : is_named (row_name liability_letter n.liabilities) sheet ≡ false
  liability_free =
      let k = n.liabilities in
      free (row_name liability_letter k) sheet (no_group liability_letter k refl) (no_security liability_letter k refl)
      (has-fresh liability_name liability_letter k sheet.liabilities (omega (arith, b.few.liabilities)) b.liabilities)
      (no_bank liability_letter k refl) (no_reinsurer (row_name liability_letter k)) (no_fund liability_letter k refl)

  pub bank_free : is_named (row_name bank_letter n.banks) sheet ≡ false
  bank_free =
      let k = n.banks in
      free (row_name bank_letter k) sheet (no_group bank_letter k refl) (no_security bank_letter k refl)
      (no_liability bank_letter k refl)
      (has-fresh bank_name bank_letter k sheet.banks (omega (arith, b.few.banks)) b.banks)
      (no_reinsurer (row_name bank_letter k)) (no_fund bank_letter k refl)

  pub fund_free : is_named (row_name fund_letter n.funds) sheet ≡ false
  fund_free =
      let k = n.funds in
      free (row_name fund_letter k) sheet (no_group fund_letter k refl) (no_security fund_letter k refl)
      (no_liability fund_letter k refl) (no_bank fund_letter k refl) (no_reinsurer (row_name fund_letter k))
      (has-fresh stake_name fund_letter k sheet.funds (omega (arith, b.few.funds)) b.funds)
