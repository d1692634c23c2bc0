-- No figure stands twice among those of a security, a liability, a group of counterparties or a debt before and after.
use Rattle.std.proofs.Common.{◌≡◌, ◌⊎◌, inl, inr, ℕ, ◌+◌, Bool, true, false, List, ◌∷◌, ◌++◌, Option, Some, None, refl, ap, ◌∙◌, sym, arith}
use Rattle.std.specs.Option.{option_map_or}
use Rattle.std.proofs.lemmas.Bool.Decides.{Decides-eqb}
use Rattle.scr_funds.proofs.Members.{IsMember, IsMember-cases, IsMember-right}
use Rattle.scr_tables.specs.Names.{same_name}
use Rattle.scr_tables.proofs.TableRows.{same_name-is, same_name-itself}
use Rattle.scr_profile.specs.DefaultClasses.{class_of_step, first_step}
use Rattle.scr_profile.proofs.Words.{class-told}
use Rattle.scr_sheet.specs.BalanceSheet.{position_name}
use Rattle.scr_sheet.specs.Validity.{Valid}
use Rattle.scr_sheet.specs.declared.{sheet.BalanceSheet.BalanceSheet, rows.Class.Class, rows.Group.Group, rows.Liability.Liability, rows.Position.Position}
use Rattle.scr_sheet.specs.declared.rows.Class.TheVariants as classes
use Rattle.scr_sheet.proofs.Holds.{distinct-securities}
use Rattle.scr_nodes.specs.Rows.{has_class, is_held_in, is_of_class, is_of_default_class, is_of_group, is_owed_in}
use Rattle.scr_nodes.specs.Sources.{security_spread}
use Rattle.scr_nodes.specs.declared.node.Node.{Node}
use Rattle.scr_nodes.specs.declared.node.Direction.TheVariants.{Up, Down}
use Rattle.scr_nodes.specs.declared.node.Measure.TheVariants.{Gross, Net}
use Rattle.scr_nodes.specs.declared.node.Node.TheVariants as nodes
use Rattle.scr_nodes.specs.declared.node.OfFund.TheVariants as of_funds
use Rattle.scr_nodes.specs.declared.node.OfSecurity.TheVariants as of_securities
use Rattle.scr_nodes.specs.declared.node.OfLiability.TheVariants as of_liabilities
use Rattle.scr_nodes.specs.declared.node.OfCurrency.TheVariants as of_currencies
use Rattle.scr_nodes.specs.declared.node.OfGroup.TheVariants as of_groups
use Rattle.scr_nodes.specs.declared.node.Whole.TheVariants as wholes
use Rattle.scr_nodes.proofs.Apart.{AreApart, apart-append, apart-chosen, chosen-member}
use Rattle.scr_nodes.proofs.Parts.{loss_place, part_of}
use Rattle.scr_nodes.proofs.Told.{told-spread}
use Rattle.scr_row_change.specs.Comparisons.{passes}
use Rattle.scr_row_change.specs.Debts.{is_owed_by}
use Rattle.scr_row_change.specs.declared.debts.Debt.{Debt}
use Rattle.scr_touched.specs.Debts.{debt_losses, is_of_debtor}
use Rattle.scr_touched.specs.Groups as groups
use Rattle.scr_touched.specs.Groups.{class_nodes, is_of_class_of, later_group_nodes, spread_nodes}
use Rattle.scr_touched.specs.Liabilities.{is_of_liability, liability_nodes, owed_nodes}
use Rattle.scr_touched.specs.Securities as securities
use Rattle.scr_touched.specs.Securities.{is_of_position, row_nodes, security_nodes}
use Rattle.scr_touched.proofs.Once.{AreSplit, apart-back, apart-between, apart-by}

-- a number for each family, and for each direction and measure of it
abbrev pub kind : Node → ℕ
kind (nodes.Fund x of_funds.Total) = 1
kind (nodes.Security x of_securities.Total) = 2
kind (nodes.Security x (of_securities.UnitLoss Up)) = 3
kind (nodes.Security x (of_securities.UnitLoss Down)) = 4
kind (nodes.Security x (of_securities.Rate Up)) = 5
kind (nodes.Security x (of_securities.Rate Down)) = 6
kind (nodes.Liability x (of_liabilities.Rate Up)) = 7
kind (nodes.Liability x (of_liabilities.Rate Down)) = 8
kind (nodes.Liability x of_liabilities.Present) = 9
kind (nodes.Liability x (of_liabilities.Loss projection)) = 10 + loss_place projection
kind (nodes.Currency x (of_currencies.Loss Up)) = 20
kind (nodes.Currency x (of_currencies.Loss Down)) = 21
kind (nodes.Currency x (of_currencies.Scenario Up Gross)) = 22
kind (nodes.Currency x (of_currencies.Scenario Up Net)) = 23
kind (nodes.Currency x (of_currencies.Scenario Down Gross)) = 24
kind (nodes.Currency x (of_currencies.Scenario Down Net)) = 25
kind (nodes.Currency x of_currencies.Choice) = 26
kind (nodes.Currency x (of_currencies.Picked Gross)) = 27
kind (nodes.Currency x (of_currencies.Picked Net)) = 28
kind (nodes.Whole (wholes.ClassSum class)) = 29
kind (nodes.Security x of_securities.Spread) = 30
kind (nodes.Whole wholes.Spread) = 31
kind (nodes.Whole wholes.Assets) = 32
kind (nodes.Group x of_groups.Total) = 33
kind (nodes.Group x of_groups.ConcentrationSquare) = 34
kind (nodes.Group x of_groups.Loss) = 35
kind (nodes.Whole wholes.Concentration) = 36
kind (nodes.Whole (wholes.ClassLoss class)) = 37
kind (nodes.Whole (wholes.ClassSquare class)) = 38
kind (nodes.Whole (wholes.InterestScenario Up measure)) = 39
kind (nodes.Whole (wholes.InterestScenario Down measure)) = 40
kind (nodes.Whole (wholes.Currency Gross)) = 41
kind (nodes.Whole (wholes.Currency Net)) = 42
kind node = 50 + part_of node

-- a row that passes a test has a figure
given-row : {Row : Type 0} (test : Row → Bool) (of : Option Row → List Node) (x : Node)
    → ((row : Row) → test row ≡ true → IsMember x (of (Some row))) → (row : Option Row) → passes test row ≡ true
    → IsMember x (of row)
given-row test of x each None e = absurd (cc)
given-row test of x each (Some row) e = each row e

-- ---- securities

same_class : (a b : Class) → is_of_class a b ≡ true → a ≡ b
same_class classes.Type1Equity classes.Type1Equity e = refl
same_class classes.Type1Strategic classes.Type1Strategic e = refl
same_class classes.Type2Equity classes.Type2Equity e = refl
same_class classes.Type2Strategic classes.Type2Strategic e = refl
same_class classes.Infrastructure classes.Infrastructure e = refl
same_class classes.InfrastructureCorporate classes.InfrastructureCorporate e = refl
same_class classes.Property classes.Property e = refl
same_class classes.Bond classes.Bond e = refl
same_class classes.Government classes.Government e = refl
same_class classes.Other classes.Other e = refl
same_class a b e = absurd (cc)

class-itself : (class : Class) → is_of_class class class ≡ true
class-itself classes.Type1Equity = refl
class-itself class = refl

in-group : (group : List ℕ) (own : Option (List ℕ)) → option_map_or (same_name group) own false ≡ true
    → IsMember (nodes.Group group of_groups.Total) (securities.group_nodes own)
in-group group None e = absurd (cc)
in-group group (Some own) e = inl (ap (λ name. nodes.Group name of_groups.Total) (same_name-is group own e))

security-apart : (name : List ℕ) (row : Option Position) → AreApart (security_nodes name row)
security-apart name None = apart-by kind (security_nodes name None) refl
security-apart name (Some p) = by p.security.group
  where
    figures : Option (List ℕ) → List Node
    figures group =
        securities.own_nodes name ++ (nodes.Currency p.security.currency (of_currencies.Loss Up)
        ∷ nodes.Currency p.security.currency (of_currencies.Loss Down) ∷ nodes.Currency p.security.currency (of_currencies.Scenario Up Gross)
        ∷ nodes.Currency p.security.currency (of_currencies.Scenario Down Gross) ∷ nodes.Whole (wholes.ClassSum p.security.class)
        ∷ securities.group_nodes group)

    by : (group : Option (List ℕ)) → AreApart (figures group)
    by None = apart-by kind (figures None) refl
    by (Some group) = apart-by kind (figures (Some group)) refl

position-known : (p : Position) (x : Node) → IsMember x (row_nodes (Some p)) → is_of_position (Some p) x ≡ true
position-known p x (inl e) = ap (is_of_position (Some p)) e ∙ same_name-itself p.security.currency
position-known p x (inr (inl e)) = ap (is_of_position (Some p)) e ∙ same_name-itself p.security.currency
position-known p x (inr (inr (inl e))) = ap (is_of_position (Some p)) e ∙ same_name-itself p.security.currency
position-known p x (inr (inr (inr (inl e)))) = ap (is_of_position (Some p)) e ∙ same_name-itself p.security.currency
position-known p x (inr (inr (inr (inr (inl e))))) = ap (is_of_position (Some p)) e ∙ class-itself p.security.class
position-known p x (inr (inr (inr (inr (inr m))))) = by p.security.group refl m
  where
    by : (group : Option (List ℕ)) → p.security.group ≡ group → IsMember x (securities.group_nodes group)
        → is_of_position (Some p) x ≡ true
    by None own n = absurd n
    by (Some group) own (inl e) =
        ap (is_of_position (Some p)) e ∙ ap (λ g. option_map_or (same_name group) g false) own ∙ same_name-itself group
    by (Some group) own (inr n) = absurd n

position-there : (name : List ℕ) (old : Option Position) (x : Node) → is_of_position old x ≡ true
    → IsMember x (security_nodes name old)
position-there name old (nodes.Currency currency (of_currencies.Loss Up)) e =
    IsMember-right (securities.own_nodes name) (row_nodes old) (nodes.Currency currency (of_currencies.Loss Up))
    (given-row (is_held_in currency) row_nodes (nodes.Currency currency (of_currencies.Loss Up))
    (λ row f. inl (ap (λ n. nodes.Currency n (of_currencies.Loss Up)) (same_name-is currency row.security.currency f))) old e)
position-there name old (nodes.Currency currency (of_currencies.Loss Down)) e =
    IsMember-right (securities.own_nodes name) (row_nodes old) (nodes.Currency currency (of_currencies.Loss Down))
    (given-row (is_held_in currency) row_nodes (nodes.Currency currency (of_currencies.Loss Down))
    (λ row f. inr (inl (ap (λ n. nodes.Currency n (of_currencies.Loss Down)) (same_name-is currency row.security.currency f)))) old e)
position-there name old (nodes.Currency currency (of_currencies.Scenario Up Gross)) e =
    IsMember-right (securities.own_nodes name) (row_nodes old) (nodes.Currency currency (of_currencies.Scenario Up Gross))
    (given-row (is_held_in currency) row_nodes (nodes.Currency currency (of_currencies.Scenario Up Gross))
    (λ row f. inr (inr (inl (ap (λ n. nodes.Currency n (of_currencies.Scenario Up Gross))
    (same_name-is currency row.security.currency f))))) old e)
position-there name old (nodes.Currency currency (of_currencies.Scenario Down Gross)) e =
    IsMember-right (securities.own_nodes name) (row_nodes old) (nodes.Currency currency (of_currencies.Scenario Down Gross))
    (given-row (is_held_in currency) row_nodes (nodes.Currency currency (of_currencies.Scenario Down Gross))
    (λ row f. inr (inr (inr (inl (ap (λ n. nodes.Currency n (of_currencies.Scenario Down Gross))
    (same_name-is currency row.security.currency f)))))) old e)
position-there name old (nodes.Whole (wholes.ClassSum class)) e =
    IsMember-right (securities.own_nodes name) (row_nodes old) (nodes.Whole (wholes.ClassSum class))
    (given-row (has_class class) row_nodes (nodes.Whole (wholes.ClassSum class))
    (λ row f. inr (inr (inr (inr (inl (ap (λ name. nodes.Whole (wholes.ClassSum name)) (same_class class row.security.class f))))))) old e)
position-there name old (nodes.Group group of_groups.Total) e =
    IsMember-right (securities.own_nodes name) (row_nodes old) (nodes.Group group of_groups.Total)
    (given-row (is_of_group group) row_nodes (nodes.Group group of_groups.Total)
    (λ row f. inr (inr (inr (inr (inr (in-group group row.security.group f)))))) old e)
position-there name old x e = absurd (cc)

pub security-split : (name : List ℕ) (old new : Option Position)
    → AreSplit (is_of_position old) (security_nodes name old) (row_nodes new)
security-split name old new = record {
  first_apart = security-apart name old;
  later_apart = apart-back (securities.own_nodes name) (row_nodes new) (security-apart name new);
  known = λ x m n. by old x (IsMember-cases (securities.own_nodes name) (row_nodes old) x m) n;
  there = position-there name old;
}
  where
    by : (row : Option Position) (x : Node) → IsMember x (securities.own_nodes name) ⊎ IsMember x (row_nodes row)
        → IsMember x (row_nodes new) → is_of_position row x ≡ true
    by row x (inl m) n =
        absurd (apart-between (securities.own_nodes name) (row_nodes new) (security-apart name new) x m n)
    by None x (inr m) n = absurd m
    by (Some p) x (inr m) n = position-known p x m

-- ---- liabilities

abbrev liability_figures : List ℕ → List Node
liability_figures name = liability_nodes name None

liability-apart : (name : List ℕ) (row : Option Liability) → AreApart (liability_nodes name row)
liability-apart name None = apart-by kind (liability_nodes name None) refl
liability-apart name (Some l) = apart-by kind (liability_nodes name (Some l)) refl

liability-known : (l : Liability) (x : Node) → IsMember x (owed_nodes (Some l)) → is_of_liability (Some l) x ≡ true
liability-known l x (inl e) = ap (is_of_liability (Some l)) e ∙ same_name-itself l.currency
liability-known l x (inr (inl e)) = ap (is_of_liability (Some l)) e ∙ same_name-itself l.currency
liability-known l x (inr (inr (inl e))) = ap (is_of_liability (Some l)) e ∙ same_name-itself l.currency
liability-known l x (inr (inr (inr (inl e)))) = ap (is_of_liability (Some l)) e ∙ same_name-itself l.currency
liability-known l x (inr (inr (inr (inr m)))) = absurd m

liability-there : (name : List ℕ) (old : Option Liability) (x : Node) → is_of_liability old x ≡ true
    → IsMember x (liability_figures name ++ owed_nodes old)
liability-there name old (nodes.Currency currency (of_currencies.Loss Up)) e =
    IsMember-right (liability_figures name) (owed_nodes old) (nodes.Currency currency (of_currencies.Loss Up))
    (given-row (is_owed_in currency) owed_nodes (nodes.Currency currency (of_currencies.Loss Up))
    (λ row f. inl (ap (λ n. nodes.Currency n (of_currencies.Loss Up)) (same_name-is currency row.currency f))) old e)
liability-there name old (nodes.Currency currency (of_currencies.Loss Down)) e =
    IsMember-right (liability_figures name) (owed_nodes old) (nodes.Currency currency (of_currencies.Loss Down))
    (given-row (is_owed_in currency) owed_nodes (nodes.Currency currency (of_currencies.Loss Down))
    (λ row f. inr (inl (ap (λ n. nodes.Currency n (of_currencies.Loss Down)) (same_name-is currency row.currency f)))) old e)
liability-there name old (nodes.Currency currency (of_currencies.Scenario Up Gross)) e =
    IsMember-right (liability_figures name) (owed_nodes old) (nodes.Currency currency (of_currencies.Scenario Up Gross))
    (given-row (is_owed_in currency) owed_nodes (nodes.Currency currency (of_currencies.Scenario Up Gross))
    (λ row f. inr (inr (inl (ap (λ n. nodes.Currency n (of_currencies.Scenario Up Gross)) (same_name-is currency row.currency f)))))
    old e)
liability-there name old (nodes.Currency currency (of_currencies.Scenario Down Gross)) e =
    IsMember-right (liability_figures name) (owed_nodes old) (nodes.Currency currency (of_currencies.Scenario Down Gross))
    (given-row (is_owed_in currency) owed_nodes (nodes.Currency currency (of_currencies.Scenario Down Gross))
    (λ row f. inr (inr (inr (inl (ap (λ n. nodes.Currency n (of_currencies.Scenario Down Gross))
    (same_name-is currency row.currency f)))))) old e)
liability-there name old x e = absurd (cc)

pub liability-split : (name : List ℕ) (old new : Option Liability)
    → AreSplit (is_of_liability old) (liability_nodes name old) (owed_nodes new)
liability-split name old new = record {
  first_apart = liability-apart name old;
  later_apart = apart-back (liability_figures name) (owed_nodes new) (liability-apart name new);
  known = λ x m n. by old x (IsMember-cases (liability_figures name) (owed_nodes old) x m) n;
  there = liability-there name old;
}
  where
    by : (row : Option Liability) (x : Node) → IsMember x (liability_figures name) ⊎ IsMember x (owed_nodes row)
        → IsMember x (owed_nodes new) → is_of_liability row x ≡ true
    by row x (inl m) n =
        absurd (apart-between (liability_figures name) (owed_nodes new) (liability-apart name new) x m n)
    by None x (inr m) n = absurd m
    by (Some l) x (inr m) n = liability-known l x m

-- ---- groups of counterparties

group-apart : (name : List ℕ) (row : Option Group) → AreApart (groups.group_nodes name row)
group-apart name None = apart-by kind (groups.group_nodes name None) refl
group-apart name (Some g) = apart-by kind (groups.group_nodes name (Some g)) refl

group-known : (g : Group) (x : Node) → IsMember x (class_nodes (Some g)) → is_of_class_of (Some g) x ≡ true
group-known g x (inl e) =
    ap (is_of_class_of (Some g)) e ∙ (Decides-eqb (first_step (class_of_step g.step)) (first_step (class_of_step g.step))).1 refl
group-known g x (inr (inl e)) =
    ap (is_of_class_of (Some g)) e ∙ (Decides-eqb (first_step (class_of_step g.step)) (first_step (class_of_step g.step))).1 refl
group-known g x (inr (inr m)) = absurd m

group-there : (name : List ℕ) (old : Option Group) (x : Node) → is_of_class_of old x ≡ true
    → IsMember x (groups.group_nodes name old)
group-there name old (nodes.Whole (wholes.ClassLoss class)) e =
    IsMember-right (groups.own_nodes name) (class_nodes old) (nodes.Whole (wholes.ClassLoss class))
    (given-row (is_of_default_class class) class_nodes (nodes.Whole (wholes.ClassLoss class))
    (λ row f. inl (ap (λ name. nodes.Whole (wholes.ClassLoss name)) (sym (class-told (class_of_step row.step) class ((Decides-eqb (first_step (class_of_step row.step)) (first_step class)).0 f))))) old e)
group-there name old (nodes.Whole (wholes.ClassSquare class)) e =
    IsMember-right (groups.own_nodes name) (class_nodes old) (nodes.Whole (wholes.ClassSquare class))
    (given-row (is_of_default_class class) class_nodes (nodes.Whole (wholes.ClassSquare class))
    (λ row f. inr (inl (ap (λ name. nodes.Whole (wholes.ClassSquare name)) (sym (class-told (class_of_step row.step) class ((Decides-eqb (first_step (class_of_step row.step)) (first_step class)).0 f)))))) old e)
group-there name old x e = absurd (cc)

-- a figure of a bond is no other
not-spread : (name : List ℕ) (row : Option Group) (p : Position) (x : Node) → IsMember x (groups.group_nodes name row)
    → security_spread p ≡ x → ⊥
not-spread name row p x m e = by (ap kind e) (each row m)
  where
    by : 30 ≡ kind x → (kind x ≡ 30 → ⊥) → ⊥
    by same other = other (sym same)

    each : (g : Option Group) → IsMember x (groups.group_nodes name g) → kind x ≡ 30 → ⊥
    each g (inl own) same = absurd (let clash : 33 ≡ 30 = sym (ap kind own) ∙ same in omega arith)
    each g (inr (inl own)) same = absurd (let clash : 34 ≡ 30 = sym (ap kind own) ∙ same in omega arith)
    each g (inr (inr (inl own))) same = absurd (let clash : 35 ≡ 30 = sym (ap kind own) ∙ same in omega arith)
    each g (inr (inr (inr (inl own)))) same = absurd (let clash : 36 ≡ 30 = sym (ap kind own) ∙ same in omega arith)
    each None (inr (inr (inr (inr n)))) same = n
    each (Some g) (inr (inr (inr (inr (inl own))))) same =
        absurd (let clash : 37 ≡ 30 = sym (ap kind own) ∙ same in omega arith)
    each (Some g) (inr (inr (inr (inr (inr (inl own)))))) same =
        absurd (let clash : 38 ≡ 30 = sym (ap kind own) ∙ same in omega arith)
    each (Some g) (inr (inr (inr (inr (inr (inr n)))))) same = n

pub group-split : (sheet : BalanceSheet) → Valid sheet → (name : List ℕ) (old new : Option Group)
    → AreSplit (is_of_class_of old) (groups.group_nodes name old) (later_group_nodes sheet name new)
group-split sheet valid name old new = record {
  first_apart = group-apart name old;
  later_apart = apart-append (class_nodes new) spreads (apart-back (groups.own_nodes name) (class_nodes new) (group-apart name new))
      (apart-chosen security_spread (is_of_group name) position_name told-spread sheet.securities
      (distinct-securities sheet valid.named_once))
      (λ x m n. let found = chosen-member security_spread (is_of_group name) sheet.securities x n in
      not-spread name new found.0 x (IsMember-right (groups.own_nodes name) (class_nodes new) x m) found.3);
  known = λ x m n. by x m (IsMember-cases (class_nodes new) spreads x n);
  there = group-there name old;
}
  where
    spreads : List Node
    spreads = spread_nodes sheet name

    of : (row : Option Group) (x : Node) → IsMember x (groups.own_nodes name) ⊎ IsMember x (class_nodes row)
        → IsMember x (class_nodes new) → is_of_class_of row x ≡ true
    of row x (inl m) n = absurd (apart-between (groups.own_nodes name) (class_nodes new) (group-apart name new) x m n)
    of None x (inr m) n = absurd m
    of (Some g) x (inr m) n = group-known g x m

    by : (x : Node) → IsMember x (groups.group_nodes name old) → IsMember x (class_nodes new) ⊎ IsMember x spreads
        → is_of_class_of old x ≡ true
    by x m (inl n) = of old x (IsMember-cases (groups.own_nodes name) (class_nodes old) x m) n
    by x m (inr n) =
        let found = chosen-member security_spread (is_of_group name) sheet.securities x n in
        absurd (not-spread name old found.0 x m found.3)

-- ---- debts

debt-apart : (debt : Option Debt) → AreApart (debt_losses debt)
debt-apart None = tt
debt-apart (Some debt) = ((λ m. m), tt)

pub debt-split : (old new : Option Debt) → AreSplit (is_of_debtor old) (debt_losses old) (debt_losses new)
debt-split old new = record {
  first_apart = debt-apart old;
  later_apart = debt-apart new;
  known = λ x m n. known old x m;
  there = there;
}
  where
    known : (debt : Option Debt) (x : Node) → IsMember x (debt_losses debt) → is_of_debtor debt x ≡ true
    known None x m = absurd m
    known (Some debt) x (inl e) = ap (is_of_debtor (Some debt)) e ∙ same_name-itself debt.group
    known (Some debt) x (inr m) = absurd m

    there : (x : Node) → is_of_debtor old x ≡ true → IsMember x (debt_losses old)
    there (nodes.Group group of_groups.Loss) e =
        given-row (is_owed_by group) debt_losses (nodes.Group group of_groups.Loss)
        (λ debt f. inl (ap (λ name. nodes.Group name of_groups.Loss) (same_name-is group debt.group f))) old e
    there x e = absurd (cc)
