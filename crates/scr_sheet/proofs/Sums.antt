-- How the sums of a balance sheet move under each record.
use Rattle.std.proofs.Common.{◌≡◌, ℕ, ℤ, zero, suc, ◌+◌, ◌-◌, ◌≤◌, ◌==◌, ◌&&◌, ◌||◌, ◌++◌, Bool, true, false, List, [], ◌∷◌, ◌⊎◌, inl, inr, Option, Some, None, is_some, if◌then◌else◌, length, map, slice_get, set, get_or, sum_by, refl, sym, ap, subst, ◌∙◌, arith}
use Rattle.std.proofs.lemmas.Bool.{eqb-true}
use Rattle.std.proofs.lemmas.List.Sums.{sum_by-cons}
use Rattle.std.proofs.lemmas.Option.{get_or_from_slice_get}
use Rattle.std.specs.List.{IsDistinct}
use Rattle.std.specs.Option.{option_or, option_map, option_map_or}
use Rattle.scr_dates.specs.declared.day.Day.{Day}
use Rattle.scr_tables.specs.Names.{same_name}
use Rattle.scr_tables.specs.Tables.{row_of, has_row, with_row, changed}
use Rattle.scr_sheet.specs.CashFlows.{total, flows_under, with_flows, no_flows}
use Rattle.scr_sheet.specs.BalanceSheet.{group_name, position_name, stake_name, liability_name, bank_name, rein_name, volumes_of, is_in, held_of, held_total, liability_flows_total, volumes_total, defaults_total, components_total}
use Rattle.scr_sheet.specs.declared.{sheet.BalanceSheet.BalanceSheet, edit.Edit.Edit, keys.Projection.Projection, keys.Table.Table, numbers.Numbers.Numbers, rows.Bank.Bank, rows.Class.Class, rows.Liability.Liability, rows.LiabilityKind.LiabilityKind, rows.Position.Position, rows.Rein.Rein, rows.Stake.Stake}
use Rattle.scr_sheet.specs.Records.{applied, dropped, natural, kept_flows, kept_hold, with_volumes}
use Rattle.scr_sheet.specs.Users.{holder_of, first_row, names_of_holders}
use Rattle.scr_sheet.specs.Faults.{in_use}
use Rattle.scr_sheet.specs.Validity.{Valid}
use Rattle.scr_sheet.specs.Volumes.{volumes_in}
use Rattle.scr_profile.specs.declared.set.Set.{Set}
use Rattle.scr_profile.specs.declared.set.Set.TheVariants as sets
use Rattle.scr_sheet.specs.declared.edit.Edit.TheVariants as edits
use Rattle.scr_sheet.specs.declared.fault.Fault.TheVariants as faults
use Rattle.scr_sheet.specs.declared.fault.User.TheVariants as users
use Rattle.scr_sheet.specs.declared.keys.Table.TheVariants as tables
use Rattle.scr_tables.proofs.TableRows.{IsFresh, passes_or_fails, same_or_other, same_name-is, name_of-row_of, row_of-later, sum-with_row, sum-without, sum-changed}
use Rattle.scr_sheet.proofs.Holds.{All-right, distinct-right}
use Rattle.scr_sheet.proofs.Projections.{one_or_other, under-with, under-no_flows}

-- ---- sums over rows and lists

module _ {Row : Type 0} (name_of : Row → List ℕ) where
  -- what stood for a row goes out of the sum, and what stands for the changed row comes in
  pub sum-change : (f : Row → ℕ) (change : Row → Row) (name : List ℕ) (rows : List Row) (row : Row) → ((other : Row) → name_of (change other) ≡ name_of other) → row_of name_of name rows ≡ Some row
      → sum_by f (changed name_of change name rows) + f row ≡ sum_by f rows + f (change row)
  sum-change f change name rows row named is =
      let own : name ≡ name_of (change row) = same_name-is name (name_of row) (name_of-row_of name_of name rows row is) ∙ sym (named row) in
      let found : option_map_or f (row_of name_of (name_of (change row)) rows) 0 ≡ f row = ap (λ n. option_map_or f (row_of name_of n rows) 0) (sym own) ∙ ap (λ o. option_map_or f o 0) is in
      let moved : sum_by f (changed name_of change name rows) ≡ sum_by f (with_row name_of (change row) rows) = ap (λ o. sum_by f (option_map_or (λ other. with_row name_of (change other) rows) o rows)) is in
      let sum = sum-with_row name_of f (change row) rows in
      omega arith

  -- what stands for a name is a part of the sum
  pub part-le : (f : Row → ℕ) (name : List ℕ) (rows : List Row) → option_map_or f (row_of name_of name rows) 0 ≤ sum_by f rows
  part-le f name rows = let sum = sum-without name_of f name rows in omega arith

  pub row-le : (f : Row → ℕ) (name : List ℕ) (rows : List Row) (row : Row) → row_of name_of name rows ≡ Some row → f row ≤ sum_by f rows
  row-le f name rows row is =
      let own : option_map_or f (row_of name_of name rows) 0 ≡ f row = ap (λ o. option_map_or f o 0) is in
      let part = part-le f name rows in
      omega arith

  -- where there is no row of the name, none is changed
  pub changed-none : (change : Row → Row) (name : List ℕ) (rows : List Row) → has_row name_of name rows ≡ false → changed name_of change name rows ≡ rows
  changed-none change name rows has = grind (arith, has)

  pub part-none : (f : Row → ℕ) (name : List ℕ) (rows : List Row) → has_row name_of name rows ≡ false → option_map_or f (row_of name_of name rows) 0 ≡ 0
  part-none f name rows has = grind (arith, has)

  -- what stands for the row of a name, if there is one, goes out of the sum, and a number comes in
  pub sum-put : (f : Row → ℕ) (change : Row → Row) (n : ℕ) (name : List ℕ) (rows : List Row) → ((other : Row) → name_of (change other) ≡ name_of other) → ((other : Row) → f (change other) ≡ n) → has_row name_of name rows ≡ true
      → sum_by f (changed name_of change name rows) + option_map_or f (row_of name_of name rows) 0 ≡ sum_by f rows + n
  sum-put f change n name rows named put has = by (row_of name_of name rows) refl has
    where
      by : (found : Option Row) → row_of name_of name rows ≡ found → is_some found ≡ true → sum_by f (changed name_of change name rows) + option_map_or f (row_of name_of name rows) 0 ≡ sum_by f rows + n
      by None e some = absurd (cc)
      by (Some row) e some =
          let sum = sum-change f change name rows row named e in
          let old : option_map_or f (row_of name_of name rows) 0 ≡ f row = ap (λ o. option_map_or f o 0) e in
          let new : f (change row) ≡ n = put row in
          omega arith

-- a member written in its place
pub sum-set : {X : Type 0} (f : X → ℕ) (xs : List X) (k : ℕ) (old new : X) → slice_get xs k ≡ Some old → sum_by f (set xs k new) + f old ≡ sum_by f xs + f new
sum-set f [] k old new is = absurd (cc)
sum-set f (x ∷ xs) zero old new is = grind (arith, is, sum_by-cons)
sum-set f (x ∷ xs) (suc k) old new is = let rest = sum-set f xs k old new is in grind (arith, rest, sum_by-cons)

member-le : {X : Type 0} (f : X → ℕ) (xs : List X) (k : ℕ) (x : X) → slice_get xs k ≡ Some x → f x ≤ sum_by f xs
member-le f [] k x is = absurd (cc)
member-le f (y ∷ ys) zero x is = grind (arith, is, sum_by-cons)
member-le f (y ∷ ys) (suc k) x is = let rest = member-le f ys k x is in grind (arith, rest, sum_by-cons)

get_or-missing : {X : Type 0} (xs : List X) (k : ℕ) (d : X) → slice_get xs k ≡ None → get_or xs k d ≡ d
get_or-missing [] k d is = refl
get_or-missing (y ∷ ys) zero d is = absurd (cc)
get_or-missing (y ∷ ys) (suc k) d is = get_or-missing ys k d is

-- ---- a name stands in one table

module _ {Row : Type 0} (name_of : Row → List ℕ) where
  -- the name of a row is none of the names after those of its table
  fresh-after : (name : List ℕ) (rows : List Row) (after : List (List ℕ)) → IsDistinct same_name (map name_of rows ++ after) → has_row name_of name rows ≡ true → IsFresh name after
  unfolding IsDistinct
  fresh-after name [] after apart has = absurd (cc)
  fresh-after name (row ∷ rows) after apart has =
      same_or_other name (name_of row)
      (λ e. subst (λ n. IsFresh n after) (sym (same_name-is name (name_of row) e)) (All-right (λ other. same_name (name_of row) other ≡ false) (map name_of rows) after apart.0))
      (λ e. fresh-after name rows after apart.1 (ap is_some (sym (row_of-later name_of name row rows e)) ∙ has))

  has_row_from_fresh : (name : List ℕ) (rows : List Row) → IsFresh name (map name_of rows) → has_row name_of name rows ≡ false
  has_row_from_fresh name [] fresh = refl
  has_row_from_fresh name (row ∷ rows) fresh = ap is_some (row_of-later name_of name row rows fresh.0) ∙ has_row_from_fresh name rows fresh.1

-- no security and fund have one name
pub in_one_table : (sheet : BalanceSheet) → Valid sheet → (name : List ℕ) → (is_in tables.Security name sheet && is_in tables.Fund name sheet) ≡ false
in_one_table sheet valid name =
    passes_or_fails (is_in tables.Security name sheet)
    (λ e. let apart = distinct-right (map group_name sheet.groups) _ valid.named_once in
    let after = fresh-after position_name name sheet.securities _ apart e in
    let banks = All-right _ (map liability_name sheet.liabilities) _ after in
    let reinsurers = All-right _ (map bank_name sheet.banks) _ banks in
    let funds = All-right _ (map rein_name sheet.reinsurers) _ reinsurers in
    ap (λ t. t && is_in tables.Fund name sheet) e ∙ has_row_from_fresh stake_name name sheet.funds funds)
    (λ e. ap (λ t. t && is_in tables.Fund name sheet) e)

-- ---- all that is held directly

-- the records that move it
abbrev pub moves_held : Edit → Bool
moves_held (edits.Hold name cents) = true
moves_held edit = false

module _ (name : List ℕ) (cents : ℤ) (sheet : BalanceSheet) where
  -- a hold of a security
  pub held-hold_security : is_in tables.Security name sheet ≡ true → is_in tables.Fund name sheet ≡ false → held_total (applied (edits.Hold name cents) sheet) + held_of sheet name ≡ held_total sheet + natural cents
  held-hold_security has other =
      let securities = sum-put position_name (λ p. p.held) (λ p. record p { held = natural cents }) (natural cents) name sheet.securities (λ p. refl) (λ p. refl) has in
      let funds : sum_by (λ s. s.held) (applied (edits.Hold name cents) sheet).funds ≡ sum_by (λ s. s.held) sheet.funds = ap (sum_by (λ s. s.held)) (changed-none stake_name (λ s. record s { held = natural cents }) name sheet.funds other) in
      let none = part-none stake_name (λ s. s.held) name sheet.funds other in
      omega arith

  -- and of a fund
  pub held-hold_fund : is_in tables.Security name sheet ≡ false → is_in tables.Fund name sheet ≡ true → held_total (applied (edits.Hold name cents) sheet) + held_of sheet name ≡ held_total sheet + natural cents
  held-hold_fund other has =
      let funds = sum-put stake_name (λ s. s.held) (λ s. record s { held = natural cents }) (natural cents) name sheet.funds (λ s. refl) (λ s. refl) has in
      let securities : sum_by (λ p. p.held) (applied (edits.Hold name cents) sheet).securities ≡ sum_by (λ p. p.held) sheet.securities = ap (sum_by (λ p. p.held)) (changed-none position_name (λ p. record p { held = natural cents }) name sheet.securities other) in
      let none = part-none position_name (λ p. p.held) name sheet.securities other in
      omega arith

  -- what was held under the name goes out of the sum, and the record's cents come in
  pub held-hold : (is_in tables.Security name sheet || is_in tables.Fund name sheet) ≡ true → (is_in tables.Security name sheet && is_in tables.Fund name sheet) ≡ false
      → held_total (applied (edits.Hold name cents) sheet) + held_of sheet name ≡ held_total sheet + natural cents
  held-hold some once =
      passes_or_fails (is_in tables.Security name sheet) (λ e. held-hold_security e (sym (ap (λ t. t && is_in tables.Fund name sheet) e) ∙ once))
      (λ e. held-hold_fund e (sym (ap (λ t. t || is_in tables.Fund name sheet) e) ∙ some))

pub held-part : (name : List ℕ) (sheet : BalanceSheet) → held_of sheet name ≤ held_total sheet
held-part name sheet =
    let securities = part-le position_name (λ p. p.held) name sheet.securities in
    let funds = part-le stake_name (λ s. s.held) name sheet.funds in
    omega arith

-- a security that is made or replaced keeps what is held of it
held-security : (name : List ℕ) (class : Class) (group : Option (List ℕ)) (currency : List ℕ) (duration : ℤ) (sheet : BalanceSheet) → held_total (applied (edits.Security name class group currency duration) sheet) ≡ held_total sheet
held-security name class group currency duration sheet =
    let new : Position = record { security = record { name = name; class = class; group = group; currency = currency; duration = natural duration; flows = kept_flows name sheet.securities }; held = kept_hold name sheet.securities } in
    let sum = sum-with_row position_name (λ p. p.held) new sheet.securities in
    omega arith

-- and so does a fund
held-fund : (name : List ℕ) (components : List (List ℕ × ℤ)) (sheet : BalanceSheet) → held_total (applied (edits.Fund name components) sheet) ≡ held_total sheet
held-fund name components sheet =
    let new : Stake = record { fund = record { name = name; components = components }; held = option_map_or (λ s. s.held) (row_of stake_name name sheet.funds) 0 } in
    let sum = sum-with_row stake_name (λ s. s.held) new sheet.funds in
    omega arith

-- nothing is held under a name that no hold uses
held_of-idle : (name : List ℕ) (sheet : BalanceSheet) → option_map (λ user. faults.InUse name user) (holder_of name sheet) ≡ None → held_of sheet name ≡ 0
held_of-idle name sheet free =
    let cents : ℕ = held_of sheet name in
    passes_or_fails (cents == 0) (λ e. eqb-true cents 0 e)
    (λ e. let held : Some (faults.InUse name users.Hold) ≡ None =
    sym (ap (λ t. option_map (λ user. faults.InUse name user) (option_or (if t then None else Some users.Hold) (first_row (names_of_holders name sheet)))) e) ∙ free in
    absurd (cc))

-- a security that may be dropped is not held
pub held_of-unused : (name : List ℕ) (sheet : BalanceSheet) → in_use (edits.Remove tables.Security name) sheet ≡ None → held_of sheet name ≡ 0
held_of-unused name sheet free = held_of-idle name sheet free

-- and neither is such a fund
pub held_of-unused_fund : (name : List ℕ) (sheet : BalanceSheet) → in_use (edits.Remove tables.Fund name) sheet ≡ None → held_of sheet name ≡ 0
held_of-unused_fund name sheet free = held_of-idle name sheet free

held-drop : (name : List ℕ) (sheet : BalanceSheet) → in_use (edits.Remove tables.Security name) sheet ≡ None → held_total (applied (edits.Remove tables.Security name) sheet) ≡ held_total sheet
held-drop name sheet free =
    let sum = sum-without position_name (λ p. p.held) name sheet.securities in
    let none = held_of-unused name sheet free in
    omega arith

held-drop_fund : (name : List ℕ) (sheet : BalanceSheet) → in_use (edits.Remove tables.Fund name) sheet ≡ None → held_total (applied (edits.Remove tables.Fund name) sheet) ≡ held_total sheet
held-drop_fund name sheet free =
    let sum = sum-without stake_name (λ s. s.held) name sheet.funds in
    let none = held_of-unused_fund name sheet free in
    omega arith

held-flows : (security : List ℕ) (flows : List (Day × ℤ)) (sheet : BalanceSheet) → held_total (applied (edits.Flows security flows) sheet) ≡ held_total sheet
held-flows security flows sheet =
    let same = sum-changed position_name (λ p. p.held) (λ p. record p { security = record p.security { flows = flows } }) security sheet.securities (λ p. refl) (λ p. refl) in
    omega arith

-- every other record leaves it
pub held-same : (edit : Edit) (sheet : BalanceSheet) → moves_held edit ≡ false → in_use edit sheet ≡ None → held_total (applied edit sheet) ≡ held_total sheet
held-same (edits.Hold name cents) sheet other free = absurd (cc)
held-same (edits.Security name class group currency duration) sheet other free = held-security name class group currency duration sheet
held-same (edits.Flows security flows) sheet other free = held-flows security flows sheet
held-same (edits.Fund name components) sheet other free = held-fund name components sheet
held-same (edits.Remove tables.Security name) sheet other free = held-drop name sheet free
held-same (edits.Remove tables.Fund name) sheet other free = held-drop_fund name sheet free
held-same edit sheet other free = refl

-- ---- the components of all funds

abbrev pub moves_components : Edit → Bool
moves_components (edits.Fund name components) = true
moves_components (edits.Remove tables.Fund name) = true
moves_components edit = false

-- how many a fund has
abbrev pub stake_components : Stake → ℕ
stake_components stake = length stake.fund.components

-- those of the fund that is replaced go out of the sum, and those of the record come in
pub components-fund : (name : List ℕ) (components : List (List ℕ × ℤ)) (sheet : BalanceSheet)
    → components_total (applied (edits.Fund name components) sheet) + option_map_or stake_components (row_of stake_name name sheet.funds) 0 ≡ components_total sheet + length components
components-fund name components sheet =
    let new : Stake = record { fund = record { name = name; components = components }; held = option_map_or (λ s. s.held) (row_of stake_name name sheet.funds) 0 } in
    sum-with_row stake_name stake_components new sheet.funds

pub components-drop : (name : List ℕ) (sheet : BalanceSheet)
    → components_total (applied (edits.Remove tables.Fund name) sheet) + option_map_or stake_components (row_of stake_name name sheet.funds) 0 ≡ components_total sheet
components-drop name sheet = sum-without stake_name stake_components name sheet.funds

-- those of a fund are a part of the sum
pub components-part : (name : List ℕ) (sheet : BalanceSheet) → option_map_or stake_components (row_of stake_name name sheet.funds) 0 ≤ components_total sheet
components-part name sheet = part-le stake_name stake_components name sheet.funds

-- a hold leaves what funds hold
pub components-hold : (name : List ℕ) (cents : ℤ) (sheet : BalanceSheet) → components_total (applied (edits.Hold name cents) sheet) ≡ components_total sheet
components-hold name cents sheet = sum-changed stake_name stake_components (λ s. record s { held = natural cents }) name sheet.funds (λ s. refl) (λ s. refl)

pub components-same : (edit : Edit) (sheet : BalanceSheet) → moves_components edit ≡ false → components_total (applied edit sheet) ≡ components_total sheet
components-same (edits.Fund name components) sheet other = absurd (cc)
components-same (edits.Hold name cents) sheet other = components-hold name cents sheet
components-same (edits.Remove tables.Fund name) sheet other = absurd (cc)
components-same edit sheet other = refl

-- ---- the absolute flows of all liabilities under a projection

abbrev pub moves_liability_flows : Edit → Bool
moves_liability_flows (edits.LiabilityFlows liability projection flows) = true
moves_liability_flows (edits.Remove tables.Liability name) = true
moves_liability_flows edit = false

-- what a liability pays and receives under a projection
abbrev pub liability_total : Projection → Liability → ℕ
liability_total projection liability = total (flows_under projection liability.flows)

module _ (liability : List ℕ) (flows : List (Day × ℤ)) (sheet : BalanceSheet) where
  -- under the projection of the record
  pub liability_flows-own : (projection : Projection) (l : Liability) → row_of liability_name liability sheet.liabilities ≡ Some l
      → liability_flows_total projection (applied (edits.LiabilityFlows liability projection flows) sheet) + liability_total projection l ≡ liability_flows_total projection sheet + total flows
  liability_flows-own projection l is =
      let change : Liability → Liability = λ m. record m { flows = with_flows projection flows m.flows } in
      let sum = sum-change liability_name (liability_total projection) change liability sheet.liabilities l (λ m. refl) is in
      let new : liability_total projection (change l) ≡ total flows = ap total (under-with flows l.flows projection) in
      omega arith

  -- and under any other
  pub liability_flows-other : (p q : Projection) → (p ≡ q) ⊎ (liability_flows_total q (applied (edits.LiabilityFlows liability p flows) sheet) ≡ liability_flows_total q sheet)
  liability_flows-other p q =
      elim (one_or_other p q) [
        | inl e ↦ inl e
        | inr e ↦ inr (sum-changed liability_name (liability_total q) (λ l. record l { flows = with_flows p flows l.flows }) liability sheet.liabilities (λ l. refl) (λ l. ap total (e flows l.flows)))
      ]

pub liability_flows-part : (projection : Projection) (liability : List ℕ) (sheet : BalanceSheet) (l : Liability) → row_of liability_name liability sheet.liabilities ≡ Some l → liability_total projection l ≤ liability_flows_total projection sheet
liability_flows-part projection liability sheet l is = row-le liability_name (liability_total projection) liability sheet.liabilities l is

pub liability_flows-drop : (projection : Projection) (liability : List ℕ) (sheet : BalanceSheet)
    → liability_flows_total projection (applied (edits.Remove tables.Liability liability) sheet) + option_map_or (liability_total projection) (row_of liability_name liability sheet.liabilities) 0 ≡ liability_flows_total projection sheet
liability_flows-drop projection liability sheet = sum-without liability_name (liability_total projection) liability sheet.liabilities

liability_flows-liability : (projection : Projection) (name : List ℕ) (kind : LiabilityKind) (currency : List ℕ) (sheet : BalanceSheet) → liability_flows_total projection (applied (edits.Liability name kind currency) sheet) ≡ liability_flows_total projection sheet
liability_flows-liability projection name kind currency sheet =
    let new : Liability = record { name = name; kind = kind; currency = currency; flows = option_map_or (λ l. l.flows) (row_of liability_name name sheet.liabilities) no_flows } in
    let sum = sum-with_row liability_name (liability_total projection) new sheet.liabilities in
    let same : liability_total projection new ≡ option_map_or (liability_total projection) (row_of liability_name name sheet.liabilities) 0 = by (row_of liability_name name sheet.liabilities) in
    omega arith
  where
    by : (found : Option Liability) → total (flows_under projection (option_map_or (λ l. l.flows) found no_flows)) ≡ option_map_or (liability_total projection) found 0
    by None = ap total (under-no_flows projection)
    by (Some l) = refl

pub liability_flows-same : (projection : Projection) (edit : Edit) (sheet : BalanceSheet) → moves_liability_flows edit ≡ false → liability_flows_total projection (applied edit sheet) ≡ liability_flows_total projection sheet
liability_flows-same projection (edits.LiabilityFlows liability p flows) sheet other = absurd (cc)
liability_flows-same projection (edits.Liability name kind currency) sheet other = liability_flows-liability projection name kind currency sheet
liability_flows-same projection (edits.Remove tables.Liability name) sheet other = absurd (cc)
liability_flows-same projection edit sheet other = refl

-- ---- the volumes of a set

abbrev pub moves_volumes : Edit → Bool
moves_volumes (edits.Segment set number region premium reserve) = true
moves_volumes edit = false

abbrev volume : ℕ × ℕ → ℕ
volume v = v.0 + v.1

abbrev volume_total : List (ℕ × ℕ) → ℕ
volume_total segment = sum_by (λ v. v.0 + v.1) segment

abbrev nothing : List (ℕ × ℕ)
nothing = []

-- where a segment has a region, it is one of the segments
module _ (number region : ℕ) (old : ℕ × ℕ) (segments : List (List (ℕ × ℕ))) (is : slice_get (get_or segments (number - 1) nothing) (region - 1) ≡ Some old) where
  segment_at : (segment : List (ℕ × ℕ)) × (slice_get segments (number - 1) ≡ Some segment) × (get_or segments (number - 1) nothing ≡ segment) × (slice_get segment (region - 1) ≡ Some old)
  segment_at = by (slice_get segments (number - 1)) refl
    where
      by : (found : Option (List (ℕ × ℕ))) → slice_get segments (number - 1) ≡ found → (segment : List (ℕ × ℕ)) × (slice_get segments (number - 1) ≡ Some segment) × (get_or segments (number - 1) nothing ≡ segment) × (slice_get segment (region - 1) ≡ Some old)
      by None e =
          let missing : get_or segments (number - 1) nothing ≡ nothing = get_or-missing segments (number - 1) nothing e in
          let empty : slice_get nothing (region - 1) ≡ Some old = ap (λ (s : List (ℕ × ℕ)). slice_get s (region - 1)) (sym missing) ∙ is in
          absurd (cc)
      by (Some segment) e =
          let here : get_or segments (number - 1) nothing ≡ segment = get_or_from_slice_get segments (number - 1) segment nothing e in
          (segment, e, here, ap (λ (s : List (ℕ × ℕ)). slice_get s (region - 1)) (sym here) ∙ is)

  volumes-written : (new : ℕ × ℕ) → sum_by volume_total (with_volumes number region new segments) + volume old ≡ sum_by volume_total segments + volume new
  volumes-written new =
      let segment : List (ℕ × ℕ) = segment_at.0 in
      let written : List (ℕ × ℕ) = set segment (region - 1) new in
      let inner : volume_total written + volume old ≡ volume_total segment + volume new = sum-set volume segment (region - 1) old new segment_at.3 in
      let outer : sum_by volume_total (set segments (number - 1) written) + volume_total segment ≡ sum_by volume_total segments + volume_total written =
      sum-set volume_total segments (number - 1) segment written segment_at.1 in
      let same : sum_by volume_total (with_volumes number region new segments) ≡ sum_by volume_total (set segments (number - 1) written) =
      ap (λ (s : List (ℕ × ℕ)). sum_by volume_total (set segments (number - 1) (set s (region - 1) new))) segment_at.2 in
      omega arith

  volumes-within : volume old ≤ sum_by volume_total segments
  volumes-within =
      let inner = member-le volume segment_at.0 (region - 1) old segment_at.3 in
      let outer = member-le volume_total segments (number - 1) segment_at.0 segment_at.1 in
      omega arith

-- the volumes of the record's segment and region go out of the sum of its set, and the record's come in
pub volumes-segment : (set : Set) (number region : ℕ) (premium reserve : ℤ) (sheet : BalanceSheet) (old : ℕ × ℕ) → volumes_in set number region sheet.numbers ≡ Some old
    → volumes_total set (applied (edits.Segment set number region premium reserve) sheet) + (old.0 + old.1) ≡ volumes_total set sheet + (natural premium + natural reserve)
volumes-segment sets.Nl number region premium reserve sheet old is = volumes-written number region old sheet.numbers.nl is (natural premium, natural reserve)
volumes-segment sets.Nslt number region premium reserve sheet old is = volumes-written number region old sheet.numbers.nslt is (natural premium, natural reserve)

-- those of one segment and region are a part of the sum
pub volumes-part : (set : Set) (number region : ℕ) (sheet : BalanceSheet) (old : ℕ × ℕ) → volumes_in set number region sheet.numbers ≡ Some old → old.0 + old.1 ≤ volumes_total set sheet
volumes-part sets.Nl number region sheet old is = volumes-within number region old sheet.numbers.nl is
volumes-part sets.Nslt number region sheet old is = volumes-within number region old sheet.numbers.nslt is

pub volumes-same : (set : Set) (edit : Edit) (sheet : BalanceSheet) → moves_volumes edit ≡ false → volumes_total set (applied edit sheet) ≡ volumes_total set sheet
volumes-same set (edits.Segment own number region premium reserve) sheet other = absurd (cc)
volumes-same set (edits.Remove table name) sheet other = ap (λ (n : Numbers). sum_by (λ segment. sum_by (λ v. v.0 + v.1) segment) (volumes_of set n)) (numbers-dropped table name sheet)
  where
    numbers-dropped : (table : Table) (name : List ℕ) (sheet : BalanceSheet) → (dropped table name sheet).numbers ≡ sheet.numbers
    numbers-dropped tables.Group name sheet = refl
    numbers-dropped table name sheet = refl
volumes-same sets.Nl edit sheet other = refl
volumes-same sets.Nslt edit sheet other = refl

-- ---- the exposures of banks and reinsurers

abbrev pub moves_defaults : Edit → Bool
moves_defaults (edits.Bank name group cents) = true
moves_defaults (edits.Rein name group recoverables mitigation collateral) = true
moves_defaults (edits.Remove tables.Bank name) = true
moves_defaults (edits.Remove tables.Rein name) = true
moves_defaults edit = false

-- what a reinsurer comes to
abbrev pub rein_total : Rein → ℕ
rein_total rein = rein.recoverables + rein.mitigation

pub defaults-bank : (name group : List ℕ) (cents : ℤ) (sheet : BalanceSheet)
    → defaults_total (applied (edits.Bank name group cents) sheet) + option_map_or (λ b. b.cents) (row_of bank_name name sheet.banks) 0 ≡ defaults_total sheet + natural cents
defaults-bank name group cents sheet =
    let new : Bank = record { name = name; group = group; cents = natural cents } in
    let sum = sum-with_row bank_name (λ b. b.cents) new sheet.banks in
    omega arith

pub defaults-rein : (name group : List ℕ) (recoverables mitigation collateral : ℤ) (sheet : BalanceSheet)
    → defaults_total (applied (edits.Rein name group recoverables mitigation collateral) sheet) + option_map_or rein_total (row_of rein_name name sheet.reinsurers) 0
    ≡ defaults_total sheet + (natural recoverables + natural mitigation)
defaults-rein name group recoverables mitigation collateral sheet =
    let new : Rein = record { name = name; group = group; recoverables = natural recoverables; mitigation = natural mitigation; collateral = natural collateral } in
    let sum = sum-with_row rein_name rein_total new sheet.reinsurers in
    omega arith

pub defaults-drop_bank : (name : List ℕ) (sheet : BalanceSheet)
    → defaults_total (applied (edits.Remove tables.Bank name) sheet) + option_map_or (λ b. b.cents) (row_of bank_name name sheet.banks) 0 ≡ defaults_total sheet
defaults-drop_bank name sheet = let sum = sum-without bank_name (λ b. b.cents) name sheet.banks in omega arith

pub defaults-drop_rein : (name : List ℕ) (sheet : BalanceSheet)
    → defaults_total (applied (edits.Remove tables.Rein name) sheet) + option_map_or rein_total (row_of rein_name name sheet.reinsurers) 0 ≡ defaults_total sheet
defaults-drop_rein name sheet = let sum = sum-without rein_name rein_total name sheet.reinsurers in omega arith

-- a bank and a reinsurer are parts of the sum
pub defaults-part_bank : (name : List ℕ) (sheet : BalanceSheet) → option_map_or (λ b. b.cents) (row_of bank_name name sheet.banks) 0 ≤ defaults_total sheet
defaults-part_bank name sheet = let part = part-le bank_name (λ b. b.cents) name sheet.banks in omega arith

pub defaults-part_rein : (name : List ℕ) (sheet : BalanceSheet) → option_map_or rein_total (row_of rein_name name sheet.reinsurers) 0 ≤ defaults_total sheet
defaults-part_rein name sheet = let part = part-le rein_name rein_total name sheet.reinsurers in omega arith

pub defaults-same : (edit : Edit) (sheet : BalanceSheet) → moves_defaults edit ≡ false → defaults_total (applied edit sheet) ≡ defaults_total sheet
defaults-same (edits.Bank name group cents) sheet other = absurd (cc)
defaults-same (edits.Rein name group recoverables mitigation collateral) sheet other = absurd (cc)
defaults-same (edits.Remove tables.Bank name) sheet other = absurd (cc)
defaults-same (edits.Remove tables.Rein name) sheet other = absurd (cc)
defaults-same edit sheet other = refl
