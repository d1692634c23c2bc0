-- What a valid sheet needs of a table, or of the numbers, that take the place of its own.
use Rattle.std.proofs.Common.{◌≡◌, ℕ, false, List, [], ◌++◌, map, sym, subst, append_assoc, append-nil}
use Rattle.std.specs.List.{AllByRecursion, IsDistinct}
use Rattle.scr_funds.specs.Chains.{IsAcyclic}
use Rattle.scr_tables.specs.Names.{same_name}
use Rattle.scr_tables.specs.Tables.{has_row, with_row, without}
use Rattle.scr_sheet.specs.BalanceSheet.{group_name, position_name, liability_name, bank_name, rein_name, curve_name, stake_name, names_of, components_of, is_named}
use Rattle.scr_sheet.specs.declared.{sheet.BalanceSheet.BalanceSheet, rows.Group.Group, rows.Position.Position, rows.Stake.Stake, rows.Liability.Liability, rows.Bank.Bank, rows.Rein.Rein, rows.Curve.Curve, numbers.Numbers.Numbers}
use Rattle.scr_sheet.specs.Validity.{Valid, AreWithin, AreNumbers, IsGroup, IsSecurity, IsStake, IsLiability, IsBank, IsRein, IsCurve, HasGroup, HasGroupOrNone, HasCurrency, IsHeld}
use Rattle.scr_tables.proofs.TableRows.{IsFresh, All-append, fresh_from_has_row, distinct-with_row, distinct-without}
use Rattle.scr_sheet.proofs.Projections.{or_false}

module _ (sheet : BalanceSheet) (valid : Valid sheet) where
  -- the groups, and the liabilities, banks and reinsurers
  valid-beside : (groups : List Group) (liabilities : List Liability) (banks : List Bank) (reinsurers : List Rein)
      → let after : BalanceSheet = record sheet { groups = groups; liabilities = liabilities; banks = banks; reinsurers = reinsurers } in
      AllByRecursion IsGroup groups → AllByRecursion IsLiability liabilities → AllByRecursion IsBank banks → AllByRecursion IsRein reinsurers → IsDistinct same_name (names_of after)
      → AllByRecursion (λ p. HasGroupOrNone groups p.security.group) sheet.securities → AllByRecursion (λ l. HasCurrency sheet.curves l.currency) liabilities
      → AllByRecursion (λ b. HasGroup groups b.group) banks → AllByRecursion (λ r. HasGroup groups r.group) reinsurers → AreWithin after → Valid after
  valid-beside groups liabilities banks reinsurers all_groups all_liabilities all_banks all_reinsurers named securities currencies in_banks in_reinsurers within =
      record {
        groups = all_groups;
        securities = valid.securities;
        funds = valid.funds;
        liabilities = all_liabilities;
        banks = all_banks;
        reinsurers = all_reinsurers;
        curves = valid.curves;
        numbers = valid.numbers;
        named_once = named;
        currencies_once = valid.currencies_once;
        acyclic = valid.acyclic;
        within = within;
        known = record {
          security_groups = securities;
          bank_groups = in_banks;
          rein_groups = in_reinsurers;
          security_currencies = valid.known.security_currencies;
          liability_currencies = currencies;
          components = valid.known.components;
          reporting = valid.known.reporting;
        };
      }

  pub valid-groups : (groups : List Group) → let after : BalanceSheet = record sheet { groups = groups } in AllByRecursion IsGroup groups → IsDistinct same_name (names_of after)
      → AllByRecursion (λ p. HasGroupOrNone groups p.security.group) sheet.securities → AllByRecursion (λ b. HasGroup groups b.group) sheet.banks → AllByRecursion (λ r. HasGroup groups r.group) sheet.reinsurers
      → AreWithin after → Valid after
  valid-groups groups all named securities banks reinsurers within =
      valid-beside groups sheet.liabilities sheet.banks sheet.reinsurers all valid.liabilities valid.banks valid.reinsurers named securities valid.known.liability_currencies banks reinsurers within

  pub valid-liabilities : (liabilities : List Liability) → let after : BalanceSheet = record sheet { liabilities = liabilities } in AllByRecursion IsLiability liabilities → IsDistinct same_name (names_of after)
      → AllByRecursion (λ l. HasCurrency sheet.curves l.currency) liabilities → AreWithin after → Valid after
  valid-liabilities liabilities all named currencies within =
      valid-beside sheet.groups liabilities sheet.banks sheet.reinsurers valid.groups all valid.banks valid.reinsurers named valid.known.security_groups currencies valid.known.bank_groups valid.known.rein_groups within

  pub valid-banks : (banks : List Bank) → let after : BalanceSheet = record sheet { banks = banks } in AllByRecursion IsBank banks → IsDistinct same_name (names_of after)
      → AllByRecursion (λ b. HasGroup sheet.groups b.group) banks → AreWithin after → Valid after
  valid-banks banks all named groups within =
      valid-beside sheet.groups sheet.liabilities banks sheet.reinsurers valid.groups valid.liabilities all valid.reinsurers named valid.known.security_groups valid.known.liability_currencies groups valid.known.rein_groups within

  pub valid-reinsurers : (reinsurers : List Rein) → let after : BalanceSheet = record sheet { reinsurers = reinsurers } in AllByRecursion IsRein reinsurers → IsDistinct same_name (names_of after)
      → AllByRecursion (λ r. HasGroup sheet.groups r.group) reinsurers → AreWithin after → Valid after
  valid-reinsurers reinsurers all named groups within =
      valid-beside sheet.groups sheet.liabilities sheet.banks reinsurers valid.groups valid.liabilities valid.banks all named valid.known.security_groups valid.known.liability_currencies valid.known.bank_groups groups within

  -- the securities and the funds, and what is held of both
  pub valid-holdings : (securities : List Position) (funds : List Stake) → let after : BalanceSheet = record sheet { securities = securities; funds = funds } in AllByRecursion IsSecurity securities → AllByRecursion IsStake funds
      → IsDistinct same_name (names_of after) → AllByRecursion (λ p. HasGroupOrNone sheet.groups p.security.group) securities → AllByRecursion (λ p. HasCurrency sheet.curves p.security.currency) securities
      → AllByRecursion (λ s. AllByRecursion (λ c. IsHeld after c.0) s.fund.components) funds → IsAcyclic (components_of funds) → AreWithin after → Valid after
  valid-holdings securities funds all each named groups currencies components acyclic within =
      record {
        groups = valid.groups;
        securities = all;
        funds = each;
        liabilities = valid.liabilities;
        banks = valid.banks;
        reinsurers = valid.reinsurers;
        curves = valid.curves;
        numbers = valid.numbers;
        named_once = named;
        currencies_once = valid.currencies_once;
        acyclic = acyclic;
        within = within;
        known = record {
          security_groups = groups;
          bank_groups = valid.known.bank_groups;
          rein_groups = valid.known.rein_groups;
          security_currencies = currencies;
          liability_currencies = valid.known.liability_currencies;
          components = components;
          reporting = valid.known.reporting;
        };
      }

  pub valid-securities : (securities : List Position) → let after : BalanceSheet = record sheet { securities = securities } in AllByRecursion IsSecurity securities → IsDistinct same_name (names_of after)
      → AllByRecursion (λ p. HasGroupOrNone sheet.groups p.security.group) securities → AllByRecursion (λ p. HasCurrency sheet.curves p.security.currency) securities
      → AllByRecursion (λ s. AllByRecursion (λ c. IsHeld after c.0) s.fund.components) sheet.funds → AreWithin after → Valid after
  valid-securities securities all named groups currencies components within =
      valid-holdings securities sheet.funds all valid.funds named groups currencies components valid.acyclic within

  pub valid-funds : (funds : List Stake) → let after : BalanceSheet = record sheet { funds = funds } in AllByRecursion IsStake funds → IsDistinct same_name (names_of after)
      → AllByRecursion (λ s. AllByRecursion (λ c. IsHeld after c.0) s.fund.components) funds → IsAcyclic (components_of funds) → AreWithin after → Valid after
  valid-funds funds each named components acyclic within =
      valid-holdings sheet.securities funds valid.securities each named valid.known.security_groups valid.known.security_currencies components acyclic within

  pub valid-curves : (curves : List Curve) (numbers : Numbers) → let after : BalanceSheet = record sheet { curves = curves; numbers = numbers } in AllByRecursion IsCurve curves → AreNumbers numbers
      → IsDistinct same_name (map curve_name curves) → AllByRecursion (λ p. HasCurrency curves p.security.currency) sheet.securities → AllByRecursion (λ l. HasCurrency curves l.currency) sheet.liabilities
      → HasCurrency curves numbers.currency → AreWithin after → Valid after
  valid-curves curves numbers all formed once securities liabilities reporting within =
      record {
        groups = valid.groups;
        securities = valid.securities;
        funds = valid.funds;
        liabilities = valid.liabilities;
        banks = valid.banks;
        reinsurers = valid.reinsurers;
        curves = all;
        numbers = formed;
        named_once = valid.named_once;
        currencies_once = once;
        acyclic = valid.acyclic;
        within = within;
        known = record {
          security_groups = valid.known.security_groups;
          bank_groups = valid.known.bank_groups;
          rein_groups = valid.known.rein_groups;
          security_currencies = securities;
          liability_currencies = liabilities;
          components = valid.known.components;
          reporting = reporting;
        };
      }

  -- numbers of the same reporting currency
  pub valid-numbers : (numbers : Numbers) → let after : BalanceSheet = record sheet { numbers = numbers } in AreNumbers numbers → HasCurrency sheet.curves numbers.currency → AreWithin after → Valid after
  valid-numbers numbers formed reporting within =
      valid-curves sheet.curves numbers valid.curves formed valid.currencies_once valid.known.security_currencies valid.known.liability_currencies reporting within

-- ---- the names of all tables, after one of them changes

-- a name that stands in none of the tables
pub record IsNew (name : List ℕ) (sheet : BalanceSheet) : Type 0 where
  pub groups : IsFresh name (map group_name sheet.groups)
  pub securities : IsFresh name (map position_name sheet.securities)
  pub liabilities : IsFresh name (map liability_name sheet.liabilities)
  pub banks : IsFresh name (map bank_name sheet.banks)
  pub reinsurers : IsFresh name (map rein_name sheet.reinsurers)
  pub funds : IsFresh name (map stake_name sheet.funds)

pub new_from_is_named : (name : List ℕ) (sheet : BalanceSheet) → is_named name sheet ≡ false → IsNew name sheet
new_from_is_named name sheet h =
    let to_reinsurers = or_false _ _ h in
    let to_banks = or_false _ _ to_reinsurers.0 in
    let to_liabilities = or_false _ _ to_banks.0 in
    let to_securities = or_false _ _ to_liabilities.0 in
    let to_groups = or_false _ _ to_securities.0 in
    record {
      groups = fresh_from_has_row group_name name sheet.groups to_groups.0;
      securities = fresh_from_has_row position_name name sheet.securities to_groups.1;
      liabilities = fresh_from_has_row liability_name name sheet.liabilities to_securities.1;
      banks = fresh_from_has_row bank_name name sheet.banks to_liabilities.1;
      reinsurers = fresh_from_has_row rein_name name sheet.reinsurers to_banks.1;
      funds = fresh_from_has_row stake_name name sheet.funds to_reinsurers.1;
    }

-- the six lists of names in a row, put together in other ways
module _ (g s l b r f : List (List ℕ)) where
  third : (g ++ s) ++ (l ++ (b ++ (r ++ f))) ≡ g ++ (s ++ (l ++ (b ++ (r ++ f))))
  third = append_assoc g s (l ++ (b ++ (r ++ f)))

  fourth : (g ++ (s ++ l)) ++ (b ++ (r ++ f)) ≡ g ++ (s ++ (l ++ (b ++ (r ++ f))))
  fourth = simp append_assoc

  fifth : (g ++ (s ++ (l ++ b))) ++ (r ++ f) ≡ g ++ (s ++ (l ++ (b ++ (r ++ f))))
  fifth = simp append_assoc

  sixth : (g ++ (s ++ (l ++ (b ++ r)))) ++ (f ++ []) ≡ g ++ (s ++ (l ++ (b ++ (r ++ f))))
  sixth = simp (append_assoc, append-nil)

module _ (sheet : BalanceSheet) (apart : IsDistinct same_name (names_of sheet)) where
  abbrev g : List (List ℕ)
  g = map group_name sheet.groups

  abbrev s : List (List ℕ)
  s = map position_name sheet.securities

  abbrev l : List (List ℕ)
  l = map liability_name sheet.liabilities

  abbrev b : List (List ℕ)
  b = map bank_name sheet.banks

  abbrev r : List (List ℕ)
  r = map rein_name sheet.reinsurers

  abbrev f : List (List ℕ)
  f = map stake_name sheet.funds

  pub named-with_group : (new : Group) → (has_row group_name new.name sheet.groups ≡ false → IsNew new.name sheet) → IsDistinct same_name (names_of (record sheet { groups = with_row group_name new sheet.groups }))
  named-with_group new is_new =
      distinct-with_row group_name [] (s ++ (l ++ (b ++ (r ++ f)))) new sheet.groups
      (λ has. let n = is_new has in (tt, All-append _ s _ n.securities (All-append _ l _ n.liabilities (All-append _ b _ n.banks (All-append _ r _ n.reinsurers n.funds))))) apart

  pub named-with_position : (new : Position) → (has_row position_name new.security.name sheet.securities ≡ false → IsNew new.security.name sheet) → IsDistinct same_name (names_of (record sheet { securities = with_row position_name new sheet.securities }))
  named-with_position new is_new =
      distinct-with_row position_name g (l ++ (b ++ (r ++ f))) new sheet.securities
      (λ has. let n = is_new has in (n.groups, All-append _ l _ n.liabilities (All-append _ b _ n.banks (All-append _ r _ n.reinsurers n.funds)))) apart

  pub named-with_liability : (new : Liability) → (has_row liability_name new.name sheet.liabilities ≡ false → IsNew new.name sheet) → IsDistinct same_name (names_of (record sheet { liabilities = with_row liability_name new sheet.liabilities }))
  named-with_liability new is_new =
      subst (IsDistinct same_name) (third g s (map liability_name (with_row liability_name new sheet.liabilities)) b r f)
      (distinct-with_row liability_name (g ++ s) (b ++ (r ++ f)) new sheet.liabilities
      (λ has. let n = is_new has in (All-append _ g _ n.groups n.securities, All-append _ b _ n.banks (All-append _ r _ n.reinsurers n.funds))) (subst (IsDistinct same_name) (sym (third g s l b r f)) apart))

  pub named-with_bank : (new : Bank) → (has_row bank_name new.name sheet.banks ≡ false → IsNew new.name sheet) → IsDistinct same_name (names_of (record sheet { banks = with_row bank_name new sheet.banks }))
  named-with_bank new is_new =
      subst (IsDistinct same_name) (fourth g s l (map bank_name (with_row bank_name new sheet.banks)) r f)
      (distinct-with_row bank_name (g ++ (s ++ l)) (r ++ f) new sheet.banks
      (λ has. let n = is_new has in (All-append _ g _ n.groups (All-append _ s _ n.securities n.liabilities), All-append _ r _ n.reinsurers n.funds)) (subst (IsDistinct same_name) (sym (fourth g s l b r f)) apart))

  pub named-with_rein : (new : Rein) → (has_row rein_name new.name sheet.reinsurers ≡ false → IsNew new.name sheet) → IsDistinct same_name (names_of (record sheet { reinsurers = with_row rein_name new sheet.reinsurers }))
  named-with_rein new is_new =
      subst (IsDistinct same_name) (fifth g s l b (map rein_name (with_row rein_name new sheet.reinsurers)) f)
      (distinct-with_row rein_name (g ++ (s ++ (l ++ b))) f new sheet.reinsurers
      (λ has. let n = is_new has in (All-append _ g _ n.groups (All-append _ s _ n.securities (All-append _ l _ n.liabilities n.banks)), n.funds)) (subst (IsDistinct same_name) (sym (fifth g s l b r f)) apart))

  pub named-with_fund : (new : Stake) → (has_row stake_name new.fund.name sheet.funds ≡ false → IsNew new.fund.name sheet) → IsDistinct same_name (names_of (record sheet { funds = with_row stake_name new sheet.funds }))
  named-with_fund new is_new =
      subst (IsDistinct same_name) (sixth g s l b r (map stake_name (with_row stake_name new sheet.funds)))
      (distinct-with_row stake_name (g ++ (s ++ (l ++ (b ++ r)))) [] new sheet.funds
      (λ has. let n = is_new has in (All-append _ g _ n.groups (All-append _ s _ n.securities (All-append _ l _ n.liabilities (All-append _ b _ n.banks n.reinsurers))), tt)) (subst (IsDistinct same_name) (sym (sixth g s l b r f)) apart))

  module _ (name : List ℕ) where
    pub named-without_group : IsDistinct same_name (names_of (record sheet { groups = without group_name name sheet.groups }))
    named-without_group = distinct-without group_name [] (s ++ (l ++ (b ++ (r ++ f)))) name sheet.groups apart

    pub named-without_position : IsDistinct same_name (names_of (record sheet { securities = without position_name name sheet.securities }))
    named-without_position = distinct-without position_name g (l ++ (b ++ (r ++ f))) name sheet.securities apart

    pub named-without_liability : IsDistinct same_name (names_of (record sheet { liabilities = without liability_name name sheet.liabilities }))
    named-without_liability =
        subst (IsDistinct same_name) (third g s (map liability_name (without liability_name name sheet.liabilities)) b r f)
        (distinct-without liability_name (g ++ s) (b ++ (r ++ f)) name sheet.liabilities (subst (IsDistinct same_name) (sym (third g s l b r f)) apart))

    pub named-without_bank : IsDistinct same_name (names_of (record sheet { banks = without bank_name name sheet.banks }))
    named-without_bank =
        subst (IsDistinct same_name) (fourth g s l (map bank_name (without bank_name name sheet.banks)) r f)
        (distinct-without bank_name (g ++ (s ++ l)) (r ++ f) name sheet.banks (subst (IsDistinct same_name) (sym (fourth g s l b r f)) apart))

    pub named-without_rein : IsDistinct same_name (names_of (record sheet { reinsurers = without rein_name name sheet.reinsurers }))
    named-without_rein =
        subst (IsDistinct same_name) (fifth g s l b (map rein_name (without rein_name name sheet.reinsurers)) f)
        (distinct-without rein_name (g ++ (s ++ (l ++ b))) f name sheet.reinsurers (subst (IsDistinct same_name) (sym (fifth g s l b r f)) apart))

    pub named-without_fund : IsDistinct same_name (names_of (record sheet { funds = without stake_name name sheet.funds }))
    named-without_fund =
        subst (IsDistinct same_name) (sixth g s l b r (map stake_name (without stake_name name sheet.funds)))
        (distinct-without stake_name (g ++ (s ++ (l ++ (b ++ r)))) [] name sheet.funds (subst (IsDistinct same_name) (sym (sixth g s l b r f)) apart))

-- ---- the currencies

pub currencies-with_curve : (new : Curve) (curves : List Curve) → IsDistinct same_name (map curve_name curves) → IsDistinct same_name (map curve_name (with_row curve_name new curves))
currencies-with_curve new curves apart =
    subst (IsDistinct same_name) (append-nil (map curve_name (with_row curve_name new curves)))
    (distinct-with_row curve_name [] [] new curves (λ has. (tt, tt)) (subst (IsDistinct same_name) (sym (append-nil (map curve_name curves))) apart))

pub currencies-without : (currency : List ℕ) (curves : List Curve) → IsDistinct same_name (map curve_name curves) → IsDistinct same_name (map curve_name (without curve_name currency curves))
currencies-without currency curves apart =
    subst (IsDistinct same_name) (append-nil (map curve_name (without curve_name currency curves)))
    (distinct-without curve_name [] [] currency curves (subst (IsDistinct same_name) (sym (append-nil (map curve_name curves))) apart))
