-- A record whose names are in order has no fault by its names.
use Rattle.std.proofs.Common.{◌≡◌, ℕ, ℤ, ◌||◌, ◌&&◌, Bool, true, false, not, cond, List, [], ◌∷◌, Option, Some, None, is_some, refl, sym, ap, ◌∙◌}
use Rattle.std.specs.List.{list_all}
use Rattle.std.specs.Option.{option_or, option_map_or}
use Rattle.std.proofs.lemmas.Bool.{true≢false}
use Rattle.scr_tables.specs.Names.{same_name}
use Rattle.scr_tables.specs.Tables.{row_of}
use Rattle.scr_sheet.specs.BalanceSheet.{is_in, is_named, liability_name}
use Rattle.scr_sheet.specs.CashFlows.{has_projection}
use Rattle.scr_sheet.specs.Faults.{first_fault, unknown_row, unknown_currency, unknown_component, unknown_name, misplaced, misplaced_component, lacking, wrong_kind}
use Rattle.scr_sheet.specs.declared.edit.Edit.{Edit}
use Rattle.scr_sheet.specs.declared.edit.Edit.TheVariants as edits
use Rattle.scr_sheet.specs.declared.fault.Fault.{Fault}
use Rattle.scr_sheet.specs.declared.fault.Fault.TheVariants as faults
use Rattle.scr_sheet.specs.declared.keys.Projection.{Projection}
use Rattle.scr_sheet.specs.declared.keys.Table.{Table}
use Rattle.scr_sheet.specs.declared.keys.Table.TheVariants as tables
use Rattle.scr_sheet.specs.declared.rows.Liability.{Liability}
use Rattle.scr_sheet.specs.declared.sheet.BalanceSheet.{BalanceSheet}
use Rattle.scr_book.specs.Holdings.{is_component, are_components, is_apart, is_group, is_projected, are_in_order}

both : (a b : Bool) → (a && b) ≡ true → (a ≡ true) × (b ≡ true)
both true b e = (refl, e)
both false b e = absurd (true≢false (sym e))

-- by what six tables have of a name, and whether it is the fund's own
known-by : (g s l b r f same : Bool) (fault : Option Fault) → (s || f || same) ≡ true → cond same None (cond (g || s || l || b || r || f) None fault) ≡ None
known-by g s l b r f true fault is = refl
known-by true s l b r f false fault is = refl
known-by false true l b r f false fault is = refl
known-by false false true b r f false fault is = refl
known-by false false false true r f false fault is = refl
known-by false false false false true f false fault is = refl
known-by false false false false false true false fault is = refl
known-by false false false false false false false fault is = absurd (true≢false (sym is))

placed-by : (s f same named : Bool) (fault : Option Fault) → (s || f || same) ≡ true → cond same None (cond (named && not (s || f)) fault None) ≡ None
placed-by s f true named fault is = refl
placed-by true f false true fault is = refl
placed-by true f false false fault is = refl
placed-by false true false true fault is = refl
placed-by false true false false fault is = refl
placed-by false false false named fault is = absurd (true≢false (sym is))

apart-by : (t named : Bool) (fault : Option Fault) → (not named || t) ≡ true → cond (named && not t) fault None ≡ None
apart-by true true fault is = refl
apart-by true false fault is = refl
apart-by false false fault is = refl
apart-by false true fault is = absurd (true≢false (sym is))

placed-in : (t named : Bool) (fault : Option Fault) → t ≡ true → cond (named && not t) fault None ≡ None
placed-in true true fault is = refl
placed-in true false fault is = refl
placed-in false named fault is = absurd (true≢false (sym is))

known-if : (t : Bool) (fault : Option Fault) → t ≡ true → cond t None fault ≡ None
known-if t fault is = ap (λ (s : Bool). cond s None fault) is

three : (a b c : Bool) → (a && b && c) ≡ true → (a ≡ true) × (b ≡ true) × (c ≡ true)
three true true c e = (refl, refl, e)
three true false c e = absurd (true≢false (sym e))
three false b c e = absurd (true≢false (sym e))

group-by : (g s l b r f : Bool) → g ≡ true → (g || s || l || b || r || f) ≡ true
group-by true s l b r f is = refl
group-by false s l b r f is = absurd (true≢false (sym is))

holding-by : (g s l b r f : Bool) → (s || f) ≡ true → (g || s || l || b || r || f) ≡ true
holding-by true s l b r f is = refl
holding-by false true l b r f is = refl
holding-by false false true b r f is = refl
holding-by false false false true r f is = refl
holding-by false false false false true f is = refl
holding-by false false false false false f is = is

liability-by : (g s l b r f : Bool) → l ≡ true → (g || s || l || b || r || f) ≡ true
liability-by true s l b r f is = refl
liability-by false true l b r f is = refl
liability-by false false true b r f is = refl
liability-by false false false b r f is = absurd (true≢false (sym is))

or-left : (a b : Bool) → a ≡ true → (a || b) ≡ true
or-left true b is = refl
or-left false b is = absurd (true≢false (sym is))

group-known : (name : List ℕ) (sheet : BalanceSheet) → is_in tables.Group name sheet ≡ true → unknown_row name sheet ≡ None
group-known name sheet is =
    known-if (is_named name sheet) (Some (faults.UnknownName name))
    (group-by (is_in tables.Group name sheet) (is_in tables.Security name sheet) (is_in tables.Liability name sheet) (is_in tables.Bank name sheet) (is_in tables.Rein name sheet) (is_in tables.Fund name sheet) is)

holding-known : (name : List ℕ) (sheet : BalanceSheet) → (is_in tables.Security name sheet || is_in tables.Fund name sheet) ≡ true → unknown_row name sheet ≡ None
holding-known name sheet is =
    known-if (is_named name sheet) (Some (faults.UnknownName name))
    (holding-by (is_in tables.Group name sheet) (is_in tables.Security name sheet) (is_in tables.Liability name sheet) (is_in tables.Bank name sheet) (is_in tables.Rein name sheet) (is_in tables.Fund name sheet) is)

liability-known : (name : List ℕ) (sheet : BalanceSheet) → is_in tables.Liability name sheet ≡ true → unknown_row name sheet ≡ None
liability-known name sheet is =
    known-if (is_named name sheet) (Some (faults.UnknownName name))
    (liability-by (is_in tables.Group name sheet) (is_in tables.Security name sheet) (is_in tables.Liability name sheet) (is_in tables.Bank name sheet) (is_in tables.Rein name sheet) (is_in tables.Fund name sheet) is)

currency-known : (name : List ℕ) (sheet : BalanceSheet) → is_in tables.Curve name sheet ≡ true → unknown_currency name sheet ≡ None
currency-known name sheet is = known-if (is_in tables.Curve name sheet) (Some (faults.UnknownName name)) is

-- a liability that has the projection is there, and lacks it not
there-by : (o : Option Liability) (p : Projection) → option_map_or (λ l. has_projection l.kind p) o false ≡ true → is_some o ≡ true
there-by None p is = absurd (true≢false (sym is))
there-by (Some l) p is = refl

has-by : (o : Option Liability) (p : Projection) → option_map_or (λ l. has_projection l.kind p) o false ≡ true → option_map_or (λ l. has_projection l.kind p) o true ≡ true
has-by None p is = absurd (true≢false (sym is))
has-by (Some l) p is = is

projected-there : (p : Projection) (name : List ℕ) (sheet : BalanceSheet) → is_projected p name sheet ≡ true → is_in tables.Liability name sheet ≡ true
projected-there p name sheet is = there-by (row_of liability_name name sheet.liabilities) p is

projected-has : (p : Projection) (name : List ℕ) (sheet : BalanceSheet) → is_projected p name sheet ≡ true → lacking p name sheet ≡ None
projected-has p name sheet is =
    known-if (option_map_or (λ l. has_projection l.kind p) (row_of liability_name name sheet.liabilities) true) (Some (faults.WrongKind name))
    (has-by (row_of liability_name name sheet.liabilities) p is)

apart-placed : (table : Table) (name : List ℕ) (sheet : BalanceSheet) → is_apart table name sheet ≡ true → misplaced table name sheet ≡ None
apart-placed table name sheet is = apart-by (is_in table name sheet) (is_named name sheet) (Some (faults.WrongKind name)) is

in-placed : (table : Table) (name : List ℕ) (sheet : BalanceSheet) → is_in table name sheet ≡ true → misplaced table name sheet ≡ None
in-placed table name sheet is = placed-in (is_in table name sheet) (is_named name sheet) (Some (faults.WrongKind name)) is

component-known : (fund : List ℕ) (sheet : BalanceSheet) (c : List ℕ × ℤ) → is_component fund sheet c.0 ≡ true → unknown_component fund sheet c ≡ None
component-known fund sheet c is =
    known-by (is_in tables.Group c.0 sheet) (is_in tables.Security c.0 sheet) (is_in tables.Liability c.0 sheet) (is_in tables.Bank c.0 sheet) (is_in tables.Rein c.0 sheet) (is_in tables.Fund c.0 sheet)
    (same_name c.0 fund) (Some (faults.UnknownName c.0)) is

component-placed : (fund : List ℕ) (sheet : BalanceSheet) (c : List ℕ × ℤ) → is_component fund sheet c.0 ≡ true → misplaced_component fund sheet c ≡ None
component-placed fund sheet c is =
    placed-by (is_in tables.Security c.0 sheet) (is_in tables.Fund c.0 sheet) (same_name c.0 fund) (is_named c.0 sheet) (Some (faults.WrongKind c.0)) is

-- where no member is at fault, there is no first one
none-first : {A : Type 0} (fault : A → Option Fault) (test : A → Bool) → ((x : A) → test x ≡ true → fault x ≡ None) → (xs : List A) → list_all test xs ≡ true → first_fault fault xs ≡ None
none-first fault test none [] all = refl
none-first fault test none (x ∷ xs) all =
    let split = both (test x) (list_all test xs) all in
    ap (λ o. option_or o (first_fault fault xs)) (none x split.0) ∙ none-first fault test none xs split.1

all-known : (fund : List ℕ) (sheet : BalanceSheet) (components : List (List ℕ × ℤ)) → are_components fund sheet components ≡ true → first_fault (unknown_component fund sheet) components ≡ None
all-known fund sheet = none-first (unknown_component fund sheet) (λ c. is_component fund sheet c.0) (component-known fund sheet)

all-placed : (fund : List ℕ) (sheet : BalanceSheet) (components : List (List ℕ × ℤ)) → are_components fund sheet components ≡ true → first_fault (misplaced_component fund sheet) components ≡ None
all-placed fund sheet = none-first (misplaced_component fund sheet) (λ c. is_component fund sheet c.0) (component-placed fund sheet)

pub in_order-known : (edit : Edit) (sheet : BalanceSheet) → are_in_order edit sheet ≡ true → unknown_name edit sheet ≡ None
in_order-known (edits.Security name class None currency duration) sheet order =
    let split = three (is_apart tables.Security name sheet) (is_group None sheet) (is_in tables.Curve currency sheet) order in
    currency-known currency sheet split.2
in_order-known (edits.Security name class (Some group) currency duration) sheet order =
    let split = three (is_apart tables.Security name sheet) (is_group (Some group) sheet) (is_in tables.Curve currency sheet) order in
    ap (λ o. option_or o (unknown_currency currency sheet)) (group-known group sheet split.1) ∙ currency-known currency sheet split.2
in_order-known (edits.Flows security flows) sheet order =
    holding-known security sheet (or-left (is_in tables.Security security sheet) (is_in tables.Fund security sheet) order)
in_order-known (edits.Hold name cents) sheet order = holding-known name sheet order
in_order-known (edits.LiabilityFlows liability projection flows) sheet order =
    liability-known liability sheet (projected-there projection liability sheet order)
in_order-known (edits.Fund name components) sheet order =
    all-known name sheet components (both (is_apart tables.Fund name sheet) (are_components name sheet components) order).1
in_order-known edit sheet order = absurd (cc)

pub in_order-placed : (edit : Edit) (sheet : BalanceSheet) → are_in_order edit sheet ≡ true → wrong_kind edit sheet ≡ None
in_order-placed (edits.Security name class None currency duration) sheet order =
    let split = three (is_apart tables.Security name sheet) (is_group None sheet) (is_in tables.Curve currency sheet) order in
    ap (λ o. option_or o None) (apart-placed tables.Security name sheet split.0)
in_order-placed (edits.Security name class (Some group) currency duration) sheet order =
    let split = three (is_apart tables.Security name sheet) (is_group (Some group) sheet) (is_in tables.Curve currency sheet) order in
    ap (λ o. option_or o (misplaced tables.Group group sheet)) (apart-placed tables.Security name sheet split.0) ∙ in-placed tables.Group group sheet split.1
in_order-placed (edits.Flows security flows) sheet order = in-placed tables.Security security sheet order
in_order-placed (edits.Hold name cents) sheet order =
    placed-in (is_in tables.Security name sheet || is_in tables.Fund name sheet) (is_named name sheet) (Some (faults.WrongKind name)) order
in_order-placed (edits.LiabilityFlows liability projection flows) sheet order =
    ap (λ o. option_or o (lacking projection liability sheet)) (in-placed tables.Liability liability sheet (projected-there projection liability sheet order))
    ∙ projected-has projection liability sheet order
in_order-placed (edits.Fund name components) sheet order =
    let split = both (is_apart tables.Fund name sheet) (are_components name sheet components) order in
    ap (λ o. option_or o (first_fault (misplaced_component name sheet) components)) (apart-placed tables.Fund name sheet split.0) ∙ all-placed name sheet components split.1
in_order-placed edit sheet order = absurd (cc)
