-- What it says of a sheet that a row has no user.
use Rattle.std.proofs.Common.{◌≡◌, ℕ, Bool, true, false, List, [], ◌∷◌, ◌++◌, Some, None, is_some, if◌then◌else◌, cond, map, refl, sym, ap, ◌∙◌, arith}
use Rattle.std.specs.List.{fold, filter, list_any, AllByRecursion}
use Rattle.scr_tables.specs.Names.{same_name, earlier}
use Rattle.scr_sheet.specs.BalanceSheet.{position_name, liability_name, bank_name, rein_name, stake_name}
use Rattle.scr_sheet.specs.declared.sheet.BalanceSheet.{BalanceSheet}
use Rattle.scr_sheet.specs.Members.{is_of_group}
use Rattle.scr_sheet.specs.Users.{names_of_group, names_in_currency, has_component, names_of_holders, holder_of, first_row, user_of}
use Rattle.scr_sheet.specs.declared.fault.User.TheVariants as users
use Rattle.scr_sheet.specs.declared.keys.Table.TheVariants as tables
use Rattle.scr_tables.proofs.TableRows.{All-map, passes_or_fails}
use Rattle.scr_sheet.proofs.Bounds.{neither}
use Rattle.scr_sheet.proofs.Projections.{or_false}

some_stays : (first : List ℕ) (names : List (List ℕ)) → is_some (fold earlier (Some first) names) ≡ true
some_stays first [] = refl
some_stays first (name ∷ names) =
    let sooner = some_stays name names in
    let later = some_stays first names in
    grind (arith, sooner, later)

none_from_first_row : (names : List (List ℕ)) → first_row names ≡ None → names ≡ []
none_from_first_row [] h = refl
none_from_first_row (name ∷ names) h = let some = some_stays name names in grind (arith, h, some)

append_none : {X : Type 0} (xs ys : List X) → xs ++ ys ≡ [] → (xs ≡ []) × (ys ≡ [])
append_none [] ys h = (refl, h)
append_none (x ∷ xs) ys h = absurd (cc)

filter_none : {X : Type 0} (test : X → Bool) (name_of : X → List ℕ) (xs : List X) → map name_of (filter test xs) ≡ [] → AllByRecursion (λ x. test x ≡ false) xs
filter_none test name_of [] h = tt
filter_none test name_of (x ∷ xs) h =
    passes_or_fails (test x)
    (λ e. let some : name_of x ∷ map name_of (filter test xs) ≡ [] = sym (ap (λ t. map name_of (cond t (x ∷ filter test xs) (filter test xs))) e) ∙ h in absurd (cc))
    (λ e. (e, filter_none test name_of xs (sym (ap (λ t. map name_of (cond t (x ∷ filter test xs) (filter test xs))) e) ∙ h)))

-- no security, bank or reinsurer is of the group
pub record HasNoMember (name : List ℕ) (sheet : BalanceSheet) : Type 0 where
  pub securities : AllByRecursion (λ p. is_of_group name p ≡ false) sheet.securities
  pub banks : AllByRecursion (λ b. same_name name b.group ≡ false) sheet.banks
  pub reinsurers : AllByRecursion (λ r. same_name name r.group ≡ false) sheet.reinsurers

pub no_member : (name : List ℕ) (sheet : BalanceSheet) → user_of tables.Group name sheet ≡ None → HasNoMember name sheet
no_member name sheet h =
    let all = append_none _ _ (none_from_first_row (names_of_group name sheet) h) in
    let first = append_none _ _ all.0 in
    record {
      securities = filter_none (is_of_group name) position_name sheet.securities first.0;
      banks = filter_none (λ b. same_name name b.group) bank_name sheet.banks first.1;
      reinsurers = filter_none (λ r. same_name name r.group) rein_name sheet.reinsurers all.1;
    }

-- it is not the reporting currency, and no security or liability is in it
pub record IsIdle (currency : List ℕ) (sheet : BalanceSheet) : Type 0 where
  pub reporting : same_name currency sheet.numbers.currency ≡ false
  pub securities : AllByRecursion (λ p. same_name currency p.security.currency ≡ false) sheet.securities
  pub liabilities : AllByRecursion (λ l. same_name currency l.currency ≡ false) sheet.liabilities

unless_asof : (t : Bool) → (if t then Some users.Asof else None) ≡ None → t ≡ false
unless_asof true h = absurd (cc)
unless_asof false h = refl

pub idle : (currency : List ℕ) (sheet : BalanceSheet) → user_of tables.Curve currency sheet ≡ None → IsIdle currency sheet
idle currency sheet h =
    let reporting = neither _ _ h in
    let absorption = neither _ _ reporting.1 in
    let all = append_none _ _ (none_from_first_row (names_in_currency currency sheet) absorption.1) in
    record {
      reporting = unless_asof _ reporting.0;
      securities = filter_none (λ p. same_name currency p.security.currency) position_name sheet.securities all.0;
      liabilities = filter_none (λ l. same_name currency l.currency) liability_name sheet.liabilities all.1;
    }

pub none_passes : {X : Type 0} (test : X → Bool) (xs : List X) → list_any test xs ≡ false → AllByRecursion (λ x. test x ≡ false) xs
none_passes test [] h = tt
none_passes test (x ∷ xs) h = let both = or_false (test x) (list_any test xs) h in (both.0, none_passes test xs both.1)

-- no fund has the component
pub no_holder : (name : List ℕ) (sheet : BalanceSheet) → holder_of name sheet ≡ None → AllByRecursion (λ s. AllByRecursion (λ c. same_name name c.0 ≡ false) s.fund.components) sheet.funds
no_holder name sheet h =
    let rows = neither _ _ h in
    All-map _ _ sheet.funds (λ s none. none_passes (λ c. same_name name c.0) s.fund.components none)
    (filter_none (has_component name) stake_name sheet.funds (none_from_first_row (names_of_holders name sheet) rows.1))
