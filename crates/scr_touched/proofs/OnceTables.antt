-- No figure stands twice among those of payments, of the reporting currency, of the single numbers, or of a fund and its
-- components before and after.
use Rattle.std.specs.Prelude.{⊤}
use Rattle.std.proofs.Common.{Contains, ◌≡◌, ◌⊎◌, inl, inr, ℕ, ℤ, ◌||◌, Bool, true, false, not, List, [], ◌∷◌, ◌++◌, map, flat_map, Option, Some, None, is_some, refl, sym, ap, subst, ◌∙◌}
use Rattle.std.specs.List.{AllByRecursion, IsDistinct, list_all, list_any}
use Rattle.std.specs.Option.{option_map, option_map_or}
use Rattle.scr_dates.specs.declared.day.Day.{Day}
use Rattle.scr_funds.proofs.Members.{IsMember, IsMember-cases, IsMember-mapped, IsMember-right, Contains-from_IsMember, at_member}
use Rattle.scr_tables.specs.Names.{same_name}
use Rattle.scr_tables.specs.Tables.{row_of}
use Rattle.scr_tables.proofs.TableRows.{passes_or_fails, same_name-is, same_name-itself}
use Rattle.scr_sheet.specs.BalanceSheet.{liability_name, position_name, position_of, stake_name, stake_of}
use Rattle.scr_sheet.specs.Faults.{list_fault}
use Rattle.scr_sheet.specs.Records.{natural}
use Rattle.scr_sheet.specs.Validity.{IsStake, Valid}
use Rattle.scr_sheet.specs.declared.edit.Edit.{Edit}
use Rattle.scr_sheet.specs.declared.edit.Edit.TheVariants as edits
use Rattle.scr_sheet.specs.declared.keys.AbsorbKey.TheVariants as absorb
use Rattle.scr_sheet.specs.declared.keys.Table.TheVariants as tables
use Rattle.scr_profile.specs.declared.limits.TheConstants.{MAX_FUND_COMPONENTS}
use Rattle.scr_sheet.specs.declared.{sheet.BalanceSheet.BalanceSheet, rows.Curve.Curve, rows.Liability.Liability, rows.Position.Position, rows.Stake.Stake}
use Rattle.scr_sheet.specs.declared.rows.Class.TheVariants as classes
use Rattle.scr_sheet.proofs.Holds.{distinct-securities}
use Rattle.scr_sheet.proofs.Preserved.{once}
use Rattle.scr_nodes.specs.Rows.{is_component}
use Rattle.scr_nodes.specs.declared.node.Node.{Node}
use Rattle.scr_nodes.specs.declared.node.Direction.TheVariants.{Up, Down}
use Rattle.scr_nodes.specs.declared.node.Measure.TheVariants.{Gross, Net}
use Rattle.scr_nodes.specs.declared.node.Node.TheVariants as nodes
use Rattle.scr_nodes.specs.declared.node.OfFund.TheVariants as of_funds
use Rattle.scr_nodes.specs.declared.node.OfSecurity.TheVariants as of_securities
use Rattle.scr_nodes.specs.declared.node.OfLiability.TheVariants as of_liabilities
use Rattle.scr_nodes.specs.declared.node.OfCurrency.TheVariants as of_currencies
use Rattle.scr_nodes.specs.declared.node.Whole.TheVariants as wholes
use Rattle.scr_nodes.proofs.Apart.{AreApart, apart-append}
use Rattle.scr_nodes.proofs.OwnRows.{distinct-liabilities}
use Rattle.scr_nodes.proofs.Chosen.{each-tested}
use Rattle.scr_row_change.specs.Changes.{change_of, hold_change}
use Rattle.scr_row_change.specs.Comparisons.{same_rates}
use Rattle.scr_row_change.specs.Readings.{rates_by}
use Rattle.scr_row_change.specs.declared.change.Change.{Change}
use Rattle.scr_row_change.specs.declared.change.Change.TheVariants as changes
use Rattle.scr_row_change.proofs.LookedUp.{found-member}
use Rattle.scr_touched.specs.Curves.{currency_nodes, curve_nodes, foreign_nodes, moved_nodes}
use Rattle.scr_touched.specs.Funds.{component_nodes, fund_nodes, is_of_stake, share_of, totals_of}
use Rattle.scr_touched.specs.Payments.{liability_figures, payment_figures, security_figures}
use Rattle.scr_touched.specs.ReferenceDates.{date_nodes, is_of_currency, reporting_nodes, same_date}
use Rattle.scr_touched.proofs.Once.{AreSplit, apart-by, split-none}
use Rattle.scr_touched.proofs.OnceRows.{kind}
use Rattle.scr_touched.proofs.ToldFunds.{has-share, in-components}

-- the name of what a figure is of
abbrev name_in : Node → List ℕ
name_in (nodes.Fund x of_funds.Total) = x
name_in (nodes.Security x of_securities.Total) = x
name_in (nodes.Security x (of_securities.UnitLoss direction)) = x
name_in (nodes.Liability x (of_liabilities.Rate direction)) = x
name_in (nodes.Liability x of_liabilities.Present) = x
name_in (nodes.Liability x (of_liabilities.Loss projection)) = x
name_in node = []

-- ---- the figures of all rows of a table

module _ {Row : Type 0} (name_of : Row → List ℕ) (figures : Row → List Node)
    (own : (row : Row) → AllByRecursion (λ n. name_in n ≡ name_of row) (figures row))
    (apart : (row : Row) → AreApart (figures row)) where
  row-in : (rows : List Row) (x : Node) → IsMember x (flat_map figures rows)
      → (row : Row) × IsMember row rows × IsMember x (figures row)
  row-in [] x m = absurd m
  row-in (row ∷ rows) x m = by (row-in rows x) (IsMember-cases (figures row) (flat_map figures rows) x m)
    where
      by : (IsMember x (flat_map figures rows) → (r : Row) × IsMember r rows × IsMember x (figures r))
          → IsMember x (figures row) ⊎ IsMember x (flat_map figures rows)
          → (r : Row) × IsMember r (row ∷ rows) × IsMember x (figures r)
      by on (inl n) = (row, inl refl, n)
      by on (inr n) = let later = on n in (later.0, inr later.1, later.2)

  named : (row : Row) (x : Node) → IsMember x (figures row) → name_in x ≡ name_of row
  named row x m = at_member (λ n. name_in n ≡ name_of row) (figures row) x (own row) m

  apart-flat : (rows : List Row) → IsDistinct same_name (map name_of rows) → AreApart (flat_map figures rows)
  unfolding IsDistinct
  apart-flat [] distinct = tt
  apart-flat (row ∷ rows) distinct =
      apart-append (figures row) (flat_map figures rows) (apart row) (apart-flat rows distinct.1)
      (λ x m n. let found = row-in rows x n in
      let other : same_name (name_of row) (name_of found.0) ≡ false =
      at_member (λ y. same_name (name_of row) y ≡ false) (map name_of rows) (name_of found.0) distinct.0
      (IsMember-mapped name_of rows found.0 found.1) in
      let same : name_of row ≡ name_of found.0 = sym (named row x m) ∙ named found.0 x found.2 in
      let clash : true ≡ false = sym (same_name-itself (name_of row)) ∙ ap (same_name (name_of row)) same ∙ other in
      absurd (cc))

  tested-flat : (test : Node → Bool) → ((row : Row) → list_all test (figures row) ≡ true) → (rows : List Row) (x : Node)
      → IsMember x (flat_map figures rows) → test x ≡ true
  tested-flat test each rows x m =
      let found = row-in rows x m in
      at_member (λ n. test n ≡ true) (figures found.0) x (each-tested test (figures found.0) (each found.0)) found.2

-- ---- payments

abbrev is_unit : Node → Bool
is_unit (nodes.Security x (of_securities.UnitLoss direction)) = true
is_unit node = false

abbrev is_owed : Node → Bool
is_owed (nodes.Liability x (of_liabilities.Rate direction)) = true
is_owed (nodes.Liability x of_liabilities.Present) = true
is_owed (nodes.Liability x (of_liabilities.Loss projection)) = true
is_owed node = false

security-own : (p : Position) → AllByRecursion (λ n. name_in n ≡ position_name p) (security_figures p)
security-own p = (refl, (refl, tt))

liability-own : (l : Liability) → AllByRecursion (λ n. name_in n ≡ liability_name l) (liability_figures l)
liability-own l =
    (refl, (refl, (refl, (refl, (refl, (refl, (refl, (refl, (refl, (refl, (refl, (refl, tt))))))))))))

security-apart : (p : Position) → AreApart (security_figures p)
security-apart p = apart-by kind (security_figures p) refl

liability-apart : (l : Liability) → AreApart (liability_figures l)
liability-apart l = apart-by kind (liability_figures l) refl

unit-or-owed : (x : Node) → is_unit x ≡ true → is_owed x ≡ true → ⊥
unit-or-owed (nodes.Security x (of_securities.UnitLoss direction)) e f = absurd (cc)
unit-or-owed x e f = absurd (cc)

-- it is a figure of payments
abbrev is_paid : Node → Bool
is_paid node = is_unit node || is_owed node

either-true : (a b : Bool) → (a ≡ true) ⊎ (b ≡ true) → (a || b) ≡ true
either-true true b h = refl
either-true false b (inl e) = absurd (cc)
either-true false b (inr e) = e

module _ (sheet : BalanceSheet) where
  units : List Node
  units = flat_map security_figures sheet.securities

  owed : List Node
  owed = flat_map liability_figures sheet.liabilities

  are-units : (x : Node) → IsMember x units → is_unit x ≡ true
  unfolding units
  are-units x m =
      tested-flat position_name security_figures security-own security-apart is_unit (λ p. refl) sheet.securities x m

  are-owed : (x : Node) → IsMember x owed → is_owed x ≡ true
  unfolding owed
  are-owed x m =
      tested-flat liability_name liability_figures liability-own liability-apart is_owed (λ l. refl) sheet.liabilities x m

  payments-paid : (x : Node) → IsMember x (payment_figures sheet) → is_paid x ≡ true
  unfolding units owed
  payments-paid x m = by (IsMember-cases units owed x m)
    where
      by : IsMember x units ⊎ IsMember x owed → is_paid x ≡ true
      by (inl n) = either-true (is_unit x) (is_owed x) (inl (are-units x n))
      by (inr n) = either-true (is_unit x) (is_owed x) (inr (are-owed x n))

  payments-apart : Valid sheet → AreApart (payment_figures sheet)
  unfolding units owed
  payments-apart valid =
      apart-append units owed
      (apart-flat position_name security_figures security-own security-apart sheet.securities
      (distinct-securities sheet valid.named_once))
      (apart-flat liability_name liability_figures liability-own liability-apart sheet.liabilities
      (distinct-liabilities sheet valid))
      (λ x m n. unit-or-owed x (are-units x m) (are-owed x n))

  moved-paid : (same : Bool) (x : Node) → IsMember x (moved_nodes sheet same) → is_paid x ≡ true
  moved-paid true x m = absurd m
  moved-paid false x m = payments-paid x m

  moved-apart : Valid sheet → (same : Bool) → AreApart (moved_nodes sheet same)
  moved-apart valid true = tt
  moved-apart valid false = payments-apart valid

  -- figures of payments and others have nothing in common
  beside-moved : (same : Bool) (others : List Node) → list_all (λ n. not (is_paid n)) others ≡ true → (x : Node)
      → IsMember x (moved_nodes sheet same) → IsMember x others → ⊥
  beside-moved same others none x m n =
      let other : not (is_paid x) ≡ true =
      at_member (λ y. not (is_paid y) ≡ true) others x (each-tested (λ y. not (is_paid y)) others none) n in
      let clash : false ≡ true = sym (ap not (moved-paid same x m)) ∙ other in
      absurd (cc)

  pub curve-split : Valid sheet → (name : List ℕ) (old new : Option Curve)
      → AreSplit (λ x. false) (curve_nodes sheet name old new) []
  curve-split valid name old new =
      let same = same_rates (rates_by old) (rates_by new) in
      split-none (curve_nodes sheet name old new)
      (apart-append (moved_nodes sheet same) (currency_nodes name) (moved-apart valid same)
      (apart-by kind (currency_nodes name) refl) (beside-moved same (currency_nodes name) refl))

  -- ---- the reporting currency

  foreign-known : (currency : List ℕ) (x : Node) → IsMember x (foreign_nodes currency)
      → is_of_currency currency x ≡ true
  foreign-known currency x (inl e) = ap (is_of_currency currency) e ∙ same_name-itself currency
  foreign-known currency x (inr (inl e)) = ap (is_of_currency currency) e ∙ same_name-itself currency
  foreign-known currency x (inr (inr (inl e))) = ap (is_of_currency currency) e ∙ same_name-itself currency
  foreign-known currency x (inr (inr (inr (inl e)))) = ap (is_of_currency currency) e ∙ same_name-itself currency
  foreign-known currency x (inr (inr (inr (inr (inl e))))) = ap (is_of_currency currency) e ∙ same_name-itself currency
  foreign-known currency x (inr (inr (inr (inr (inr (inl e)))))) =
      ap (is_of_currency currency) e ∙ same_name-itself currency
  foreign-known currency x (inr (inr (inr (inr (inr (inr (inl e))))))) =
      ap (is_of_currency currency) e ∙ same_name-itself currency
  foreign-known currency x (inr (inr (inr (inr (inr (inr (inr m))))))) = absurd m

  foreign-there : (currency : List ℕ) (x : Node) → is_of_currency currency x ≡ true
      → IsMember x (foreign_nodes currency)
  foreign-there currency (nodes.Currency x (of_currencies.Scenario Up Gross)) e =
      inl (ap (λ n. nodes.Currency n (of_currencies.Scenario Up Gross)) (same_name-is x currency e))
  foreign-there currency (nodes.Currency x (of_currencies.Scenario Up Net)) e =
      inr (inl (ap (λ n. nodes.Currency n (of_currencies.Scenario Up Net)) (same_name-is x currency e)))
  foreign-there currency (nodes.Currency x (of_currencies.Scenario Down Gross)) e =
      inr (inr (inl (ap (λ n. nodes.Currency n (of_currencies.Scenario Down Gross)) (same_name-is x currency e))))
  foreign-there currency (nodes.Currency x (of_currencies.Scenario Down Net)) e =
      inr (inr (inr (inl (ap (λ n. nodes.Currency n (of_currencies.Scenario Down Net)) (same_name-is x currency e)))))
  foreign-there currency (nodes.Currency x of_currencies.Choice) e =
      inr (inr (inr (inr (inl (ap (λ name. nodes.Currency name of_currencies.Choice) (same_name-is x currency e))))))
  foreign-there currency (nodes.Currency x (of_currencies.Picked Gross)) e =
      inr (inr (inr (inr (inr (inl (ap (λ n. nodes.Currency n (of_currencies.Picked Gross)) (same_name-is x currency e)))))))
  foreign-there currency (nodes.Currency x (of_currencies.Picked Net)) e =
      inr (inr (inr (inr (inr (inr (inl (ap (λ n. nodes.Currency n (of_currencies.Picked Net)) (same_name-is x currency e))))))))
  foreign-there currency x e = absurd (cc)

  pub date-split : Valid sheet → (date : Day) (currency : List ℕ)
      → AreSplit (is_of_currency sheet.numbers.currency) (date_nodes sheet date) (reporting_nodes currency)
  date-split valid date currency = by (same_date sheet date)
    where
      by : (same : Bool) → AreSplit (is_of_currency sheet.numbers.currency)
          (moved_nodes sheet same ++ foreign_nodes sheet.numbers.currency) (reporting_nodes currency)
      by same =
          let reporting = sheet.numbers.currency in
          record {
            first_apart = apart-append (moved_nodes sheet same) (foreign_nodes reporting) (moved-apart valid same)
                (apart-by kind (foreign_nodes reporting) refl) (beside-moved same (foreign_nodes reporting) refl);
            later_apart = apart-by kind (reporting_nodes currency) refl;
            known = λ x m n. either x same n (IsMember-cases (moved_nodes sheet same) (foreign_nodes reporting) x m);
            there = λ x e. IsMember-right (moved_nodes sheet same) (foreign_nodes reporting) x
                (foreign-there reporting x e);
          }
        where
          either : (x : Node) (same : Bool) → IsMember x (reporting_nodes currency)
              → IsMember x (moved_nodes sheet same) ⊎ IsMember x (foreign_nodes sheet.numbers.currency)
              → is_of_currency sheet.numbers.currency x ≡ true
          either x same n (inl m) = absurd (beside-moved same (reporting_nodes currency) refl x m n)
          either x same n (inr m) = foreign-known sheet.numbers.currency x m

-- ---- funds

abbrev is_total : Node → Bool
is_total (nodes.Fund x of_funds.Total) = true
is_total (nodes.Security x of_securities.Total) = true
is_total node = false

component-own : (c : List ℕ × ℤ) → AllByRecursion (λ n. name_in n ≡ c.0) (totals_of c.0)
component-own c = (refl, (refl, tt))

component-apart : (c : List ℕ × ℤ) → AreApart (totals_of c.0)
component-apart c = apart-by kind (totals_of c.0) refl

any-member : (components : List (List ℕ × ℤ)) (c : List ℕ × ℤ) → IsMember c components
    → list_any (is_component c.0) components ≡ true
any-member [] c m = absurd m
any-member (d ∷ ds) c (inl e) =
    ap (λ b. b || list_any (is_component c.0) ds) (ap (λ (y : List ℕ × ℤ). same_name c.0 y.0) (sym e) ∙ same_name-itself c.0)
any-member (d ∷ ds) c (inr m) = either-true (same_name c.0 d.0) _ (inr (any-member ds c m))

-- the names of the components of a fund, if there is one
abbrev pub components_at : Option Stake → List (List ℕ)
components_at stake = option_map_or (λ (s : Stake). map (λ c. c.0) s.fund.components) stake []

-- the totals of components are of those that the fund holds
component-known : (name : List ℕ) (s : Stake) (x : Node) → IsMember x (component_nodes (Some s))
    → is_of_stake name (Some s) x ≡ true
component-known name s x m =
    let found = row-in (λ c. c.0) (λ c. totals_of c.0) component-own component-apart s.fund.components x m in
    by found.0 (has-share found.0.0 (Some s) ∙ any-member s.fund.components found.0 found.1) found.2
  where
    by : (c : List ℕ × ℤ) → is_some (share_of c.0 (Some s)) ≡ true → IsMember x (totals_of c.0)
        → is_of_stake name (Some s) x ≡ true
    by c held (inl e) = ap (is_of_stake name (Some s)) e ∙ either-true (same_name c.0 name) _ (inr held)
    by c held (inr (inl e)) = ap (is_of_stake name (Some s)) e ∙ held
    by c held (inr (inr n)) = absurd n

pub none-twice : IsDistinct same_name (components_at None)
unfolding IsDistinct
none-twice = tt

components-apart : (stake : Option Stake) → IsDistinct same_name (components_at stake)
    → AreApart (component_nodes stake)
components-apart None distinct = tt
components-apart (Some s) distinct =
    apart-flat (λ c. c.0) (λ c. totals_of c.0) component-own component-apart s.fund.components distinct

-- a component's figure is a total
not-class : (stake : Option Stake) → IsMember (nodes.Whole (wholes.ClassSum classes.Type2Equity)) (component_nodes stake) → ⊥
not-class None m = m
not-class (Some s) m =
    let total : is_total (nodes.Whole (wholes.ClassSum classes.Type2Equity)) ≡ true =
    tested-flat (λ c. c.0) (λ c. totals_of c.0) component-own component-apart is_total (λ c. refl) s.fund.components
    (nodes.Whole (wholes.ClassSum classes.Type2Equity)) m in
    absurd (cc)

module _ (sheet : BalanceSheet) (valid : Valid sheet) (name : List ℕ) where
  abbrev old : Option Stake
  old = row_of stake_name name sheet.funds

  -- the fund is none of its components
  not-itself : (stake : Option Stake) → row_of stake_name name sheet.funds ≡ stake
      → IsMember (nodes.Fund name of_funds.Total) (component_nodes stake) → ⊥
  not-itself None is m = m
  not-itself (Some s) is m =
      let found = row-in (λ c. c.0) (λ c. totals_of c.0) component-own component-apart s.fund.components
      (nodes.Fund name of_funds.Total) m in
      let own : name ≡ found.0.0 = named (λ c. c.0) (λ c. totals_of c.0) component-own component-apart found.0 (nodes.Fund name of_funds.Total) found.2 in
      let among : IsMember name (map (λ c. c.0) s.fund.components) =
      subst (λ n. IsMember n (map (λ c. c.0) s.fund.components)) (sym own)
      (IsMember-mapped (λ c. c.0) s.fund.components found.0 found.1) in
      valid.acyclic name (
        [],
        subst (λ stake. Contains (components_at stake) name) (sym is)
            (Contains-from_IsMember (map (λ c. c.0) s.fund.components) name among),
      )

  old-distinct : IsDistinct same_name (components_at (row_of stake_name name sheet.funds))
  old-distinct = by (row_of stake_name name sheet.funds) refl
    where
      by : (found : Option Stake) → row_of stake_name name sheet.funds ≡ found
          → IsDistinct same_name (components_at found)
      by None e = none-twice
      by (Some s) e = (at_member IsStake sheet.funds s valid.funds (found-member stake_name name sheet.funds s e)).3

  pub fund-split : (new : Option Stake) → IsDistinct same_name (components_at new)
      → AreSplit (is_of_stake name old) (fund_nodes name old) (component_nodes new)
  fund-split new distinct = record {
    first_apart = (first, (not-class old, components-apart old old-distinct));
    later_apart = components-apart new distinct;
    known = λ x m n. known old x m n;
    there = λ x e. there old x e;
  }
    where
      first : IsMember (nodes.Fund name of_funds.Total) (nodes.Whole (wholes.ClassSum classes.Type2Equity) ∷ component_nodes old) → ⊥
      first (inl e) = absurd (cc)
      first (inr m) = not-itself old refl m

      known : (stake : Option Stake) (x : Node) → IsMember x (fund_nodes name stake) → IsMember x (component_nodes new)
          → is_of_stake name stake x ≡ true
      known stake x (inl e) n = ap (is_of_stake name stake) e ∙ either-true (same_name name name) _ (inl (same_name-itself name))
      known stake x (inr (inl e)) n = absurd (not-class new (subst (λ y. IsMember y (component_nodes new)) e n))
      known None x (inr (inr m)) n = absurd m
      known (Some s) x (inr (inr m)) n = component-known name s x m

      held : (stake : Option Stake) (y : List ℕ) → is_some (share_of y stake) ≡ true
          → IsMember (nodes.Fund y of_funds.Total) (component_nodes stake) × IsMember (nodes.Security y of_securities.Total) (component_nodes stake)
      held None y e = absurd (cc)
      held (Some s) y e = in-components y s.fund.components (sym (has-share y (Some s)) ∙ e)

      there : (stake : Option Stake) (x : Node) → is_of_stake name stake x ≡ true → IsMember x (fund_nodes name stake)
      there stake (nodes.Fund y of_funds.Total) e =
          passes_or_fails (same_name y name)
          (λ f. inl (ap (λ name. nodes.Fund name of_funds.Total) (same_name-is y name f)))
          (λ f. inr (inr ((held stake y (ap (λ b. b || is_some (share_of y stake)) (sym f) ∙ e)).0)))
      there stake (nodes.Security y of_securities.Total) e = inr (inr ((held stake y e).1))
      there stake x e = absurd (cc)

-- what a fund becomes has no component twice
abbrev pub HasDistinct : Change → Type 0
HasDistinct (changes.Fund name new) = IsDistinct same_name (components_at new)
HasDistinct change = ⊤

module _ (sheet : BalanceSheet) (valid : Valid sheet) where
  held-distinct : (name : List ℕ) (cents : ℕ) (found : Option Position)
      → HasDistinct (hold_change name cents found (stake_of name sheet.funds))
  held-distinct name cents None = by (stake_of name sheet.funds) (old-distinct sheet valid name)
    where
      by : (stake : Option Stake) → IsDistinct same_name (components_at stake)
          → IsDistinct same_name (components_at (option_map (λ (s : Stake). record s { held = cents }) stake))
      by None distinct = distinct
      by (Some s) distinct = distinct
  held-distinct name cents (Some position) = tt

  -- by its own list where it is put in, else as it was
  pub distinct-change : (edit : Edit) → list_fault edit ≡ None → HasDistinct (change_of edit sheet)
  distinct-change (edits.Fund name components) none = (once 2 MAX_FUND_COMPONENTS [] components none).apart
  distinct-change (edits.Hold name cents) none = held-distinct name (natural cents) (position_of name sheet.securities)
  distinct-change (edits.Absorb (absorb.CurrencyUp currency) cents) none = tt
  distinct-change (edits.Absorb (absorb.CurrencyDown currency) cents) none = tt
  distinct-change (edits.Absorb key cents) none = tt
  distinct-change (edits.Remove tables.Group name) none = tt
  distinct-change (edits.Remove tables.Security name) none = tt
  distinct-change (edits.Remove tables.Fund name) none = none-twice
  distinct-change (edits.Remove tables.Liability name) none = tt
  distinct-change (edits.Remove tables.Bank name) none = tt
  distinct-change (edits.Remove tables.Rein name) none = tt
  distinct-change (edits.Remove tables.Curve name) none = tt
  distinct-change edit none = tt
