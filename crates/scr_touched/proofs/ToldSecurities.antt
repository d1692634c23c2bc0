-- An exchanged security touches just the figures that its test tells, and they are among its candidates.
use Rattle.std.proofs.Common.{◌≡◌, ℕ, ℤ, ◌==◌, ◌&&◌, Bool, true, false, List, [], ◌++◌, map, filter, Option, Some, None, is_some, nat_eq, refl, sym, ap, ◌∙◌, inl, inr}
use Rattle.std.specs.Bool.{Decides}
use Rattle.std.specs.Option.{option_eq, option_map_or}
use Rattle.std.proofs.lemmas.Bool.Decides.{Decides-and, Decides-eqb, Decides-like}
use Rattle.scr_dates.specs.declared.day.Day.{Day}
use Rattle.scr_factors.specs.Values.{FactorValues}
use Rattle.scr_funds.proofs.Members.{IsMember, IsMember-right}
use Rattle.scr_tables.specs.Names.{same_name}
use Rattle.scr_tables.specs.Tables.{has_row}
use Rattle.scr_tables.proofs.TableRows.{same_name-is}
use Rattle.scr_sheet.specs.BalanceSheet.{curve_name, position_name, position_of}
use Rattle.scr_sheet.specs.Validity.{Valid}
use Rattle.scr_sheet.specs.declared.rows.Class.{Class}
use Rattle.scr_sheet.specs.declared.rows.Class.TheVariants as classes
use Rattle.scr_sheet.specs.declared.rows.Position.{Position}
use Rattle.scr_sheet.specs.declared.sheet.BalanceSheet.{BalanceSheet}
use Rattle.scr_sheet.proofs.Holds.{distinct-securities}
use Rattle.scr_nodes.specs.Live.{is_foreign_currency, is_group}
use Rattle.scr_nodes.specs.Own.{Own, Paid, Share}
use Rattle.scr_nodes.specs.Own.Own.{Foreign, Held, Loss, Stressed}
use Rattle.scr_nodes.specs.OwnOf.{bond_stressed, nothing_paid, paid_by_security}
use Rattle.scr_nodes.specs.Rows.{has_class, has_group, holders, is_held_in, is_of_class, is_of_group, is_paying, is_paying_in, share_in}
use Rattle.scr_nodes.specs.Sources.{security_rate, security_spread, security_total, sources_of}
use Rattle.scr_nodes.specs.declared.node.Adjustment.TheVariants as adjustments
use Rattle.scr_nodes.specs.declared.node.Direction.{Direction}
use Rattle.scr_nodes.specs.declared.node.Direction.TheVariants as directions
use Rattle.scr_nodes.specs.declared.node.Measure.TheVariants as measures
use Rattle.scr_nodes.specs.declared.node.Node.{Node}
use Rattle.scr_nodes.specs.declared.node.Node.TheVariants as nodes
use Rattle.scr_nodes.specs.declared.node.OfSecurity.TheVariants as of_securities
use Rattle.scr_nodes.specs.declared.node.OfCurrency.TheVariants as of_currencies
use Rattle.scr_nodes.specs.declared.node.OfGroup.TheVariants as of_groups
use Rattle.scr_nodes.specs.declared.node.Whole.TheVariants as wholes
use Rattle.scr_row_change.specs.Changes.{after}
use Rattle.scr_row_change.specs.Comparisons.{passes, is_kept, same_payments, same_rates}
use Rattle.scr_touched.specs.Comparisons.{is_touched}
use Rattle.scr_row_change.specs.Exchanges.{HasName}
use Rattle.scr_row_change.specs.Readings.{duration_of, flows_of, position_held}
use Rattle.scr_touched.specs.Securities.{group_nodes, rates_for, rate_touched, row_nodes, own_nodes, security_nodes, security_touches, spread_touched, step_for, total_touched, unit_touched}
use Rattle.scr_row_change.specs.declared.change.Change.TheVariants as changes
use Rattle.scr_row_change.proofs.Compared.{always, Decides-number_or_none, Decides-payments, Decides-rates, first_of_both}
use Rattle.scr_touched.proofs.Decided.{Tells, Tells-at, moved, told-by, unread, untouched}
use Rattle.scr_row_change.proofs.Covered.{in-either}
use Rattle.scr_row_change.proofs.Exchanged.{counted, followed, listed, one-row}

-- ---- what of a security's own data is read

held-same : (shares : List Share) (a b : ℕ) → Decides (a == b) (Held a shares ≡ Held b shares)
held-same shares a b = Decides-like (a == b) (λ e. ap (λ n. Held n shares) e) (λ e. cc) (Decides-eqb a b)

foreign-same : (direction : Direction) (same : Bool) (a b : ℕ) → Decides same (a ≡ b)
    → Decides same (Foreign direction a ≡ Foreign direction b)
foreign-same direction same a b told = Decides-like same (λ e. ap (Foreign direction) e) (λ e. cc) told

stressed-same : (factors : FactorValues) (s t : Option ℕ) (d e : ℕ)
    → Decides (option_eq nat_eq s t && (d == e)) (Stressed factors s d ≡ Stressed factors t e)
stressed-same factors s t d e =
    Decides-like (option_eq nat_eq s t && (d == e)) (λ h. λ i. Stressed factors (h.0 i) (h.1 i)) (λ h. (cc, cc))
    (Decides-and (option_eq nat_eq s t) (d == e) (Decides-number_or_none s t) (Decides-eqb d e))

loss-same : (asof : ℤ) (direction : Direction) (p q : List (Day × ℤ)) (r s : List ℤ)
    → Decides (same_payments p q && same_rates r s)
    (Loss (record { asof = asof; payments = p; rates = r; direction = direction })
    ≡ Loss (record { asof = asof; payments = q; rates = s; direction = direction }))
loss-same asof direction p q r s =
    Decides-like (same_payments p q && same_rates r s)
    (λ h. λ i. Loss (record { asof = asof; payments = h.0 i; rates = h.1 i; direction = direction }))
    (λ h. (ap (λ own. (paid_in own).payments) h, ap (λ own. (paid_in own).rates) h))
    (Decides-and (same_payments p q) (same_rates r s) (Decides-payments p q) (Decides-rates r s))
  where
    paid_in : Own → Paid
    paid_in (Loss paid) = paid
    paid_in own = record { asof = asof; payments = []; rates = []; direction = direction }

-- ---- names and classes that tests tell

same_class : (a b : Class) → is_of_class a b ≡ true → a ≡ b
same_class classes.Type1Equity classes.Type1Equity e = refl
same_class classes.Type1Strategic classes.Type1Strategic e = refl
same_class classes.Type2Equity classes.Type2Equity e = refl
same_class classes.Type2Strategic classes.Type2Strategic e = refl
same_class classes.Infrastructure classes.Infrastructure e = refl
same_class classes.InfrastructureCorporate classes.InfrastructureCorporate e = refl
same_class classes.Property classes.Property e = refl
same_class classes.Bond classes.Bond e = refl
same_class classes.Government classes.Government e = refl
same_class classes.Other classes.Other e = refl
same_class a b e = absurd (cc)

in-group : (group : List ℕ) (own : Option (List ℕ)) → option_map_or (same_name group) own false ≡ true
    → IsMember (nodes.Group group of_groups.Total) (group_nodes own)
in-group group None e = absurd (cc)
in-group group (Some own) e = inl (ap (λ name. nodes.Group name of_groups.Total) (same_name-is group own e))

twice : (b : Bool) → (b && b) ≡ false → b ≡ false
twice true e = absurd (cc)
twice false e = refl

module _ (factors : FactorValues) (sheet : BalanceSheet) (name : List ℕ) (new : Option Position)
    (valid : Valid sheet) (named : HasName position_name name new) where
  abbrev pub old : Option Position
  old = position_of name sheet.securities

  abbrev later : BalanceSheet
  later = after (changes.Security name new) sheet

  -- the security of a name before and after
  abbrev found : List ℕ → Option Position
  found x = position_of x sheet.securities

  abbrev found_after : List ℕ → Option Position
  found_after x = position_of x later.securities

  own-row : (test : Option Position → Option Position → Bool) → ((row : Option Position) → test row row ≡ false)
      → (node : Node) (x : List ℕ) → Tells factors sheet later node (test (found x) (found_after x))
      → Tells factors sheet later node (same_name x name && test old new)
  own-row test still node x told =
      Tells-at factors sheet later node (same_name x name && test old new) (test (found x) (found_after x))
      (one-row position_name name new sheet.securities (distinct-securities sheet valid.named_once) named test still x)
      told

  itself : (n : ℕ) → (n == n) ≡ true
  itself n = (Decides-eqb n n).1 refl

  both : (a b : Bool) → a ≡ true → b ≡ true → (a && b) ≡ true
  both a b e f = λ i. e i && f i

  -- what pays, of the security that is found or of none
  paid-is : (direction : Direction) (p : Option Position)
      → option_map_or (paid_by_security sheet direction) p (nothing_paid sheet direction)
      ≡ record {
        asof = sheet.numbers.asof.number;
        payments = flows_of p;
        rates = rates_for sheet p;
        direction = direction;
      }
  paid-is direction None = refl
  paid-is direction (Some p) = refl

  unit-same : (direction : Direction) (p q : Option Position)
      → Decides (same_payments (flows_of p) (flows_of q) && same_rates (rates_for sheet p) (rates_for sheet q))
      (Loss (option_map_or (paid_by_security sheet direction) p (nothing_paid sheet direction))
      ≡ Loss (option_map_or (paid_by_security sheet direction) q (nothing_paid sheet direction)))
  unit-same direction p q =
      Decides-like _ (λ e. ap Loss (paid-is direction p) ∙ e ∙ sym (ap Loss (paid-is direction q)))
      (λ e. sym (ap Loss (paid-is direction p)) ∙ e ∙ ap Loss (paid-is direction q))
      (loss-same sheet.numbers.asof.number direction (flows_of p) (flows_of q) (rates_for sheet p) (rates_for sheet q))

  bond-is : (p : Option Position) → option_map_or (bond_stressed factors sheet) p (Stressed factors None 0)
      ≡ Stressed factors (step_for sheet p) (duration_of p)
  bond-is None = refl
  bond-is (Some p) = refl

  spread-same : (p q : Option Position)
      → Decides (option_eq nat_eq (step_for sheet p) (step_for sheet q) && (duration_of p == duration_of q))
      (option_map_or (bond_stressed factors sheet) p (Stressed factors None 0)
      ≡ option_map_or (bond_stressed factors sheet) q (Stressed factors None 0))
  spread-same p q =
      Decides-like _ (λ e. bond-is p ∙ e ∙ sym (bond-is q)) (λ e. sym (bond-is p) ∙ e ∙ bond-is q)
      (stressed-same factors (step_for sheet p) (step_for sheet q) (duration_of p) (duration_of q))

  total-still : (p : Option Position) → total_touched p p ≡ false
  total-still p = untouched (is_some p) (position_held p == position_held p) true (itself (position_held p)) refl

  unit-still : (p : Option Position) → unit_touched sheet p p ≡ false
  unit-still p =
      untouched (passes is_paying p) _ true ((unit-same directions.Up p p).1 refl) refl

  rate-still : (p : Option Position) → rate_touched p p ≡ false
  rate-still p = untouched (passes is_paying p) true true refl refl

  spread-still : (p : Option Position) → spread_touched sheet p p ≡ false
  spread-still p = untouched (passes (has_class classes.Bond) p) _ true ((spread-same p p).1 refl) refl

  total-of : (a b : Position) → position_name a ≡ position_name b → security_total a ≡ security_total b
  total-of a b e = ap (λ name. nodes.Security name of_securities.Total) e

  totals : (test : Position → Bool) → Decides (is_kept test old new)
      (map security_total (filter test sheet.securities) ≡ map security_total (filter test later.securities))
  totals test = listed position_name name new sheet.securities named test security_total total-of

  pub told : (node : Node) → Tells factors sheet later node (security_touches sheet name old new node)
  told (nodes.Security x of_securities.Total) =
      own-row total_touched total-still (nodes.Security x of_securities.Total) x
      (told-by factors sheet later (nodes.Security x of_securities.Total) (is_some (found x)) (is_some (found_after x))
      (position_held (found x) == position_held (found_after x)) true refl refl
      (held-same (map (share_in x) (holders x sheet)) (position_held (found x)) (position_held (found_after x))) (always refl))
  told (nodes.Security x (of_securities.UnitLoss direction)) =
      own-row (unit_touched sheet) unit-still (nodes.Security x (of_securities.UnitLoss direction)) x
      (told-by factors sheet later (nodes.Security x (of_securities.UnitLoss direction)) (passes is_paying (found x))
      (passes is_paying (found_after x)) _ true refl refl
      (unit-same direction (found x) (found_after x)) (always refl))
  told (nodes.Security x (of_securities.Rate direction)) =
      own-row rate_touched rate-still (nodes.Security x (of_securities.Rate direction)) x
      (told-by factors sheet later (nodes.Security x (of_securities.Rate direction)) (passes is_paying (found x))
      (passes is_paying (found_after x)) true true refl refl (always refl) (always refl))
  told (nodes.Currency currency (of_currencies.Loss direction)) =
      told-by factors sheet later (nodes.Currency currency (of_currencies.Loss direction)) _ _ true
      (is_kept (is_paying_in currency) old new) refl refl (always refl)
      (followed (is_kept (is_paying_in currency) old new) _ _ _
      (listed position_name name new sheet.securities named (is_paying_in currency) (security_rate direction)
      (λ a b e. ap (λ n. nodes.Security n (of_securities.Rate direction)) e)))
  told (nodes.Currency currency (of_currencies.Scenario direction measures.Gross)) =
      told-by factors sheet later (nodes.Currency currency (of_currencies.Scenario direction measures.Gross)) _ _
      (is_kept (is_held_in currency) old new) (is_kept (is_held_in currency) old new) refl refl
      (foreign-same direction (is_kept (is_held_in currency) old new) _ _
      (counted position_name name new sheet.securities named (is_held_in currency)))
      (followed (is_kept (is_held_in currency) old new) _ _ _ (totals (is_held_in currency)))
  told (nodes.Currency currency (of_currencies.Scenario direction measures.Net)) =
      unread factors sheet later (nodes.Currency currency (of_currencies.Scenario direction measures.Net))
      (record { live = refl; own = refl; sources = refl })
  told (nodes.Whole (wholes.ClassSum class)) =
      told-by factors sheet later (nodes.Whole (wholes.ClassSum class)) true true true (is_kept (has_class class) old new) refl refl
      (always refl) (of-class class)
    where
      of-class : (c : Class) → Decides (is_kept (has_class c) old new)
          (sources_of sheet (nodes.Whole (wholes.ClassSum c)) ≡ sources_of later (nodes.Whole (wholes.ClassSum c)))
      of-class classes.Type2Equity =
          followed (is_kept (has_class classes.Type2Equity) old new) _ _ _ (totals (has_class classes.Type2Equity))
      of-class c = followed (is_kept (has_class c) old new) _ _ _ (totals (has_class c))
  told (nodes.Security x of_securities.Spread) =
      own-row (spread_touched sheet) spread-still (nodes.Security x of_securities.Spread) x
      (told-by factors sheet later (nodes.Security x of_securities.Spread) (passes (has_class classes.Bond) (found x))
      (passes (has_class classes.Bond) (found_after x)) _ true refl refl
      (spread-same (found x) (found_after x)) (always refl))
  told (nodes.Whole wholes.Spread) =
      told-by factors sheet later (nodes.Whole wholes.Spread) true true true (is_kept (has_class classes.Bond) old new) refl refl
      (always refl)
      (listed position_name name new sheet.securities named (has_class classes.Bond) security_spread
      (λ a b e. ap (λ name. nodes.Security name of_securities.Spread) e))
  told (nodes.Group group of_groups.Total) =
      told-by factors sheet later (nodes.Group group of_groups.Total) _ _ true (is_kept (is_of_group group) old new) refl refl
      (always refl) (totals (is_of_group group))
  told (nodes.Whole wholes.Assets) =
      told-by factors sheet later (nodes.Whole wholes.Assets) true true true (is_kept has_group old new) refl refl (always refl)
      (totals has_group)
  told (nodes.Whole (wholes.InterestScenario direction measures.Gross)) =
      unread factors sheet later (nodes.Whole (wholes.InterestScenario direction measures.Gross))
      (record { live = refl; own = refl; sources = refl })
  told (nodes.Whole (wholes.BioScenario biometric projection measures.Gross)) =
      unread factors sheet later (nodes.Whole (wholes.BioScenario biometric projection measures.Gross))
      (record { live = refl; own = refl; sources = refl })
  told (nodes.Whole (wholes.Adjust adjustments.TechnicalProvisions)) =
      unread factors sheet later (nodes.Whole (wholes.Adjust adjustments.TechnicalProvisions))
      (record { live = refl; own = refl; sources = refl })
  told node = unread factors sheet later node (record { live = refl; own = refl; sources = refl })

  -- ---- candidates

  abbrev rows_of_figures : List Node
  rows_of_figures = row_nodes old ++ row_nodes new

  in-rows : (node : Node) → IsMember node rows_of_figures → IsMember node (security_nodes name old ++ row_nodes new)
  in-rows node m = IsMember-right (own_nodes name) rows_of_figures node m

  name-is : (x : List ℕ) (b : Bool) → (same_name x name && b) ≡ true → x ≡ name
  name-is x b e = same_name-is x name (first_of_both (same_name x name) b e)

  -- a figure of the rows that a test chooses, where a row passes it before and not after, or after and not before
  of-rows : (node : Node) (test : Position → Bool) (live own : Bool)
      → is_touched live live own (is_kept test old new) ≡ true → own ≡ true
      → ((row : Position) → test row ≡ true → IsMember node (row_nodes (Some row)))
      → IsMember node (security_nodes name old ++ row_nodes new)
  of-rows node test live own e always_own each =
      in-rows node (in-either test row_nodes node each old new
      (ap (λ b. b && is_kept test old new) (sym always_own) ∙ moved live own (is_kept test old new) e))

  -- where both what is held and how many are changes
  not-kept : (currency : List ℕ) → security_touches sheet name old new
      (nodes.Currency currency (of_currencies.Scenario directions.Up measures.Gross)) ≡ true
      → is_kept (is_held_in currency) old new ≡ false
  not-kept currency e =
      let kept : Bool = is_kept (is_held_in currency) old new in
      twice kept (moved (is_foreign_currency sheet currency) kept kept e)

  pub covers : (node : Node) → security_touches sheet name old new node ≡ true
      → IsMember node (security_nodes name old ++ row_nodes new)
  covers (nodes.Security x of_securities.Total) e = inl (ap (λ name. nodes.Security name of_securities.Total) (name-is x _ e))
  covers (nodes.Security x (of_securities.UnitLoss directions.Up)) e = inr (inl (ap (λ n. nodes.Security n (of_securities.UnitLoss directions.Up)) (name-is x _ e)))
  covers (nodes.Security x (of_securities.UnitLoss directions.Down)) e =
      inr (inr (inl (ap (λ n. nodes.Security n (of_securities.UnitLoss directions.Down)) (name-is x _ e))))
  covers (nodes.Security x (of_securities.Rate directions.Up)) e =
      inr (inr (inr (inl (ap (λ n. nodes.Security n (of_securities.Rate directions.Up)) (name-is x _ e)))))
  covers (nodes.Security x (of_securities.Rate directions.Down)) e =
      inr (inr (inr (inr (inl (ap (λ n. nodes.Security n (of_securities.Rate directions.Down)) (name-is x _ e))))))
  covers (nodes.Security x of_securities.Spread) e = inr (inr (inr (inr (inr (inl (ap (λ name. nodes.Security name of_securities.Spread) (name-is x _ e)))))))
  covers (nodes.Whole wholes.Spread) e = inr (inr (inr (inr (inr (inr (inl refl))))))
  covers (nodes.Whole wholes.Assets) e = inr (inr (inr (inr (inr (inr (inr (inl refl)))))))
  covers (nodes.Currency currency (of_currencies.Loss directions.Up)) e =
      of-rows (nodes.Currency currency (of_currencies.Loss directions.Up)) (is_paying_in currency)
      (has_row curve_name currency sheet.curves)
      true e refl
      (λ row f. inl (ap (λ n. nodes.Currency n (of_currencies.Loss directions.Up))
      (same_name-is currency row.security.currency (first_of_both _ _ f))))
  covers (nodes.Currency currency (of_currencies.Loss directions.Down)) e =
      of-rows (nodes.Currency currency (of_currencies.Loss directions.Down)) (is_paying_in currency)
      (has_row curve_name currency sheet.curves) true e refl
      (λ row f. inr (inl (ap (λ n. nodes.Currency n (of_currencies.Loss directions.Down))
      (same_name-is currency row.security.currency (first_of_both _ _ f)))))
  covers (nodes.Currency currency (of_currencies.Scenario directions.Up measures.Gross)) e =
      in-rows (nodes.Currency currency (of_currencies.Scenario directions.Up measures.Gross))
      (in-either (is_held_in currency) row_nodes (nodes.Currency currency (of_currencies.Scenario directions.Up measures.Gross))
      (λ row f. inr (inr (inl (ap (λ n. nodes.Currency n (of_currencies.Scenario directions.Up measures.Gross))
      (same_name-is currency row.security.currency f)))))
      old new (not-kept currency e))
  covers (nodes.Currency currency (of_currencies.Scenario directions.Down measures.Gross)) e =
      in-rows (nodes.Currency currency (of_currencies.Scenario directions.Down measures.Gross))
      (in-either (is_held_in currency) row_nodes (nodes.Currency currency (of_currencies.Scenario directions.Down measures.Gross))
      (λ row f. inr (inr (inr (inl (ap (λ n. nodes.Currency n (of_currencies.Scenario directions.Down measures.Gross))
      (same_name-is currency row.security.currency f))))))
      old new (not-kept currency e))
  covers (nodes.Whole (wholes.ClassSum class)) e =
      of-rows (nodes.Whole (wholes.ClassSum class)) (has_class class) true true e refl
      (λ row f. inr (inr (inr (inr (inl (ap (λ name. nodes.Whole (wholes.ClassSum name)) (same_class class row.security.class f)))))))
  covers (nodes.Group group of_groups.Total) e =
      of-rows (nodes.Group group of_groups.Total) (is_of_group group) (is_group sheet group) true e refl
      (λ row f. inr (inr (inr (inr (inr (in-group group row.security.group f))))))
  covers node e = absurd (cc)
