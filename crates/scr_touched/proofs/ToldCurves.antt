-- An exchanged curve touches just the figures that its test tells, and they are among its candidates.
use Rattle.std.proofs.Common.{◌≡◌, ℕ, ℤ, ◌==◌, ◌&&◌, ◌||◌, not, Bool, true, false, List, [], Option, Some, None, is_some, inl, inr, refl, ap, subst}
use Rattle.std.specs.Bool.{Decides, beq}
use Rattle.std.specs.Option.{option_map_or}
use Rattle.std.proofs.lemmas.Bool.Decides.{Decides-eqb, Decides-like}
use Rattle.scr_factors.specs.Values.{FactorValues}
use Rattle.scr_funds.proofs.Members.{IsMember, IsMember-left, IsMember-right}
use Rattle.scr_tables.specs.Names.{same_name}
use Rattle.scr_tables.specs.Tables.{row_of}
use Rattle.scr_tables.proofs.TableRows.{same_name-is}
use Rattle.scr_sheet.specs.BalanceSheet.{curve_name, position_of}
use Rattle.scr_sheet.specs.Validity.{Valid}
use Rattle.scr_sheet.specs.declared.keys.Projection.{Projection}
use Rattle.scr_sheet.specs.declared.keys.Projection.TheVariants as projections
use Rattle.scr_sheet.specs.declared.rows.Class.TheVariants as classes
use Rattle.scr_sheet.specs.declared.rows.Curve.{Curve}
use Rattle.scr_sheet.specs.declared.rows.Liability.{Liability}
use Rattle.scr_sheet.specs.declared.rows.Position.{Position}
use Rattle.scr_sheet.specs.declared.sheet.BalanceSheet.{BalanceSheet}
use Rattle.scr_nodes.specs.Own.{Paid, Valued}
use Rattle.scr_nodes.specs.Own.Own.{Net}
use Rattle.scr_nodes.specs.OwnOf.{nothing_paid, paid_by_liability, paid_by_security, paid_under, valued}
use Rattle.scr_nodes.specs.Rows.{is_foreign, is_paying, is_stress, liability_of, rates_of}
use Rattle.scr_nodes.specs.Sources.{currency_loss, currency_picked}
use Rattle.scr_nodes.specs.declared.node.Adjustment.TheVariants as adjustments
use Rattle.scr_nodes.specs.declared.node.Direction.{Direction}
use Rattle.scr_nodes.specs.declared.node.Direction.TheVariants as directions
use Rattle.scr_nodes.specs.declared.node.Measure.TheVariants as measures
use Rattle.scr_nodes.specs.declared.node.Node.{Node}
use Rattle.scr_nodes.specs.declared.node.Node.TheVariants as nodes
use Rattle.scr_nodes.specs.declared.node.OfSecurity.TheVariants as of_securities
use Rattle.scr_nodes.specs.declared.node.OfLiability.TheVariants as of_liabilities
use Rattle.scr_nodes.specs.declared.node.OfCurrency.TheVariants as of_currencies
use Rattle.scr_nodes.specs.declared.node.Whole.TheVariants as wholes
use Rattle.scr_row_change.specs.Readings.{keeps_liability, keeps_rates, keeps_security, rates_by}
use Rattle.scr_touched.specs.Curves.{absorption_by, currency_nodes, currency_touched, curve_nodes, curve_touches, foreign_nodes, foreign_touched, loss_moved, moved_nodes, net_touched, unit_moved, value_moved}
use Rattle.scr_row_change.specs.Changes.{after}
use Rattle.scr_row_change.specs.Comparisons.{passes, is_kept, same_rates}
use Rattle.scr_touched.specs.Comparisons.{is_touched}
use Rattle.scr_row_change.specs.Exchanges.{HasName}
use Rattle.scr_touched.specs.Liabilities.{is_under}
use Rattle.scr_touched.specs.Payments.{payment_figures, value_figures}
use Rattle.scr_row_change.specs.declared.change.Change.TheVariants as changes
use Rattle.scr_row_change.proofs.Compared.{always, Decides-rates, first_of_both}
use Rattle.scr_touched.proofs.Decided.{Tells, Tells-at, told-by, unread, untouched}
use Rattle.scr_row_change.proofs.Exchanged.{listed, listed_all, one-row}
use Rattle.scr_row_change.proofs.LookedUp.{looked-up}
use Rattle.scr_touched.proofs.PaidFigures.{cost-told, excess-told, loss-listed, loss-told, paid-rates, present-in, rate-in, unit-listed, value-listed, worth, worth-rates, worth-told}

net-told : (a b : ℕ) → Decides (a == b) (Net a ≡ Net b)
net-told a b = Decides-like (a == b) (λ e. ap Net e) (λ e. cc) (Decides-eqb a b)

-- figures of payments are listed where what they are discounted by changes
pub moved-in : (sheet : BalanceSheet) (same : Bool) (node : Node) → same ≡ false → IsMember node (payment_figures sheet)
    → IsMember node (moved_nodes sheet same)
moved-in sheet true node e m = absurd (cc)
moved-in sheet false node e m = m

-- a figure that stays is touched only where its own data is not the same
pub not-same : (live same : Bool) → is_touched live live same true ≡ true → same ≡ false
not-same false same e = absurd (cc)
not-same true true e = absurd (cc)
not-same true false e = refl

not-either : (a b : Bool) → (a || b) ≡ false → b ≡ false
not-either true b e = absurd (cc)
not-either false b e = e

-- a figure under a stress that is touched is one under a stress
pub under-stress : (projection : Projection) (has same : Bool)
    → is_touched (is_stress projection && has) (is_stress projection && has) same true ≡ true
    → is_stress projection ≡ true
under-stress projections.Base has same e = absurd (cc)
under-stress projection has same e = refl

module _ (factors : FactorValues) (sheet : BalanceSheet) (name : List ℕ) (new : Option Curve)
    (valid : Valid sheet) (named : HasName curve_name name new) where
  abbrev pub old : Option Curve
  old = row_of curve_name name sheet.curves

  abbrev later : BalanceSheet
  later = after (changes.Curve name new) sheet

  -- the curve of a currency before and after
  abbrev found : List ℕ → Option Curve
  found x = row_of curve_name x sheet.curves

  abbrev found_after : List ℕ → Option Curve
  found_after x = row_of curve_name x later.curves

  own-row : (test : Option Curve → Option Curve → Bool) → ((row : Option Curve) → test row row ≡ false)
      → (node : Node) (x : List ℕ) → Tells factors sheet later node (test (found x) (found_after x))
      → Tells factors sheet later node (same_name x name && test old new)
  own-row test still node x told =
      Tells-at factors sheet later node (same_name x name && test old new) (test (found x) (found_after x))
      (one-row curve_name name new sheet.curves valid.currencies_once named test still x) told

  -- ---- figures of payments

  abbrev asof : ℤ
  asof = sheet.numbers.asof.number

  rates-kept : (currency : List ℕ)
      → Decides (keeps_rates name old new currency) (rates_of currency sheet ≡ rates_of currency later)
  rates-kept currency =
      looked-up curve_name name new sheet.curves valid.currencies_once named rates_by
      (same_rates (rates_by old) (rates_by new)) (Decides-rates (rates_by old) (rates_by new)) currency

  abbrev paid_of : Direction → BalanceSheet → Option Position → Paid
  paid_of direction s p = option_map_or (paid_by_security s direction) p (nothing_paid s direction)

  abbrev owed_of : Direction → BalanceSheet → Option Liability → Paid
  owed_of direction s l = option_map_or (paid_by_liability s direction) l (nothing_paid s direction)

  abbrev worth_of : BalanceSheet → Option Liability → Valued
  worth_of s l = option_map_or (valued s) l (worth asof [] [])

  security-same : (direction : Direction) (p : Option Position)
      → Decides (keeps_security name old new p) (paid_of direction sheet p ≡ paid_of direction later p)
  security-same direction None = always refl
  security-same direction (Some p) =
      paid-rates direction asof p.security.flows (keeps_rates name old new p.security.currency)
      (rates_of p.security.currency sheet) (rates_of p.security.currency later) (rates-kept p.security.currency)

  liability-same : (direction : Direction) (l : Option Liability)
      → Decides (keeps_liability name old new l) (owed_of direction sheet l ≡ owed_of direction later l)
  liability-same direction None = always refl
  liability-same direction (Some l) =
      paid-rates direction asof l.flows.base (keeps_rates name old new l.currency)
      (rates_of l.currency sheet) (rates_of l.currency later) (rates-kept l.currency)

  worth-same : (l : Option Liability)
      → Decides (keeps_liability name old new l) (worth_of sheet l ≡ worth_of later l)
  worth-same None = always refl
  worth-same (Some l) =
      worth-rates asof l.flows.base (keeps_rates name old new l.currency)
      (rates_of l.currency sheet) (rates_of l.currency later) (rates-kept l.currency)

  -- ---- what does not change touches nothing

  currency-still : (c : Option Curve) → currency_touched c c ≡ false
  currency-still c = untouched (is_some c) true true refl refl

  foreign-still : (c : Option Curve) → foreign_touched sheet c c ≡ false
  foreign-still c = untouched (passes (is_foreign sheet) c) true true refl refl

  net-still : (direction : Direction) (c : Option Curve) → net_touched sheet direction c c ≡ false
  net-still direction c =
      untouched (passes (is_foreign sheet) c) (absorption_by direction c == absorption_by direction c) true
      ((Decides-eqb (absorption_by direction c) (absorption_by direction c)).1 refl) refl

  -- ---- all figures

  pub told : (node : Node)
      → Tells factors sheet (after (changes.Curve name new) sheet) node (curve_touches sheet name old new node)
  told (nodes.Security x (of_securities.UnitLoss direction)) =
      told-by factors sheet later (nodes.Security x (of_securities.UnitLoss direction)) _ _
      (keeps_security name old new (position_of x sheet.securities)) true refl refl
      (loss-told (keeps_security name old new (position_of x sheet.securities))
      (paid_of direction sheet (position_of x sheet.securities))
      (paid_of direction later (position_of x sheet.securities))
      (security-same direction (position_of x sheet.securities))) (always refl)
  told (nodes.Liability x (of_liabilities.Rate direction)) =
      told-by factors sheet later (nodes.Liability x (of_liabilities.Rate direction)) _ _
      (keeps_liability name old new (liability_of x sheet.liabilities)) true refl refl
      (cost-told (keeps_liability name old new (liability_of x sheet.liabilities))
      (owed_of direction sheet (liability_of x sheet.liabilities))
      (owed_of direction later (liability_of x sheet.liabilities))
      (liability-same direction (liability_of x sheet.liabilities))) (always refl)
  told (nodes.Liability x of_liabilities.Present) =
      told-by factors sheet later (nodes.Liability x of_liabilities.Present) _ _
      (keeps_liability name old new (liability_of x sheet.liabilities)) true refl refl
      (worth-told (keeps_liability name old new (liability_of x sheet.liabilities))
      (worth_of sheet (liability_of x sheet.liabilities)) (worth_of later (liability_of x sheet.liabilities))
      (worth-same (liability_of x sheet.liabilities))) (always refl)
  told (nodes.Liability x (of_liabilities.Loss projection)) =
      told-by factors sheet later (nodes.Liability x (of_liabilities.Loss projection)) _ _
      (keeps_liability name old new (liability_of x sheet.liabilities)) true refl refl
      (excess-told (keeps_liability name old new (liability_of x sheet.liabilities))
      (worth_of sheet (liability_of x sheet.liabilities)) (worth_of later (liability_of x sheet.liabilities))
      (paid_under sheet x projection) (worth-same (liability_of x sheet.liabilities))) (always refl)
  told (nodes.Currency x (of_currencies.Loss direction)) =
      own-row currency_touched currency-still (nodes.Currency x (of_currencies.Loss direction)) x
      (told-by factors sheet later (nodes.Currency x (of_currencies.Loss direction)) (is_some (found x)) (is_some (found_after x))
      true true refl refl (always refl) (always refl))
  told (nodes.Whole (wholes.InterestScenario direction measures.Gross)) =
      told-by factors sheet later (nodes.Whole (wholes.InterestScenario direction measures.Gross)) true true true
      (beq (is_some old) (is_some new)) refl refl (always refl)
      (listed_all curve_name name new sheet.curves named (currency_loss direction)
      (λ a b e. ap (λ n. nodes.Currency n (of_currencies.Loss direction)) e))
  told (nodes.Currency x (of_currencies.Scenario direction measures.Gross)) =
      own-row (foreign_touched sheet) foreign-still (nodes.Currency x (of_currencies.Scenario direction measures.Gross)) x
      (told-by factors sheet later (nodes.Currency x (of_currencies.Scenario direction measures.Gross))
      (passes (is_foreign sheet) (found x)) (passes (is_foreign sheet) (found_after x)) true true refl refl
      (always refl) (always refl))
  told (nodes.Currency x (of_currencies.Scenario direction measures.Net)) =
      own-row (net_touched sheet direction) (net-still direction) (nodes.Currency x (of_currencies.Scenario direction measures.Net)) x
      (told-by factors sheet later (nodes.Currency x (of_currencies.Scenario direction measures.Net))
      (passes (is_foreign sheet) (found x)) (passes (is_foreign sheet) (found_after x))
      (absorption_by direction (found x) == absorption_by direction (found_after x)) true refl refl
      (net-told (absorption_by direction (found x)) (absorption_by direction (found_after x))) (always refl))
  told (nodes.Currency x of_currencies.Choice) =
      own-row (foreign_touched sheet) foreign-still (nodes.Currency x of_currencies.Choice) x
      (told-by factors sheet later (nodes.Currency x of_currencies.Choice)
      (passes (is_foreign sheet) (found x)) (passes (is_foreign sheet) (found_after x)) true true refl refl
      (always refl) (always refl))
  told (nodes.Currency x (of_currencies.Picked measure)) =
      own-row (foreign_touched sheet) foreign-still (nodes.Currency x (of_currencies.Picked measure)) x
      (told-by factors sheet later (nodes.Currency x (of_currencies.Picked measure))
      (passes (is_foreign sheet) (found x)) (passes (is_foreign sheet) (found_after x)) true true refl refl
      (always refl) (always refl))
  told (nodes.Whole (wholes.Currency measure)) =
      told-by factors sheet later (nodes.Whole (wholes.Currency measure)) true true true (is_kept (is_foreign sheet) old new) refl refl
      (always refl)
      (listed curve_name name new sheet.curves named (is_foreign sheet) (currency_picked measure)
      (λ a b e. ap (λ n. nodes.Currency n (of_currencies.Picked measure)) e))
  told (nodes.Whole (wholes.ClassSum classes.Type2Equity)) =
      unread factors sheet later (nodes.Whole (wholes.ClassSum classes.Type2Equity))
      (record { live = refl; own = refl; sources = refl })
  told (nodes.Whole (wholes.BioScenario biometric projection measures.Gross)) =
      unread factors sheet later (nodes.Whole (wholes.BioScenario biometric projection measures.Gross))
      (record { live = refl; own = refl; sources = refl })
  told (nodes.Whole (wholes.Adjust adjustments.TechnicalProvisions)) =
      unread factors sheet later (nodes.Whole (wholes.Adjust adjustments.TechnicalProvisions))
      (record { live = refl; own = refl; sources = refl })
  told node = unread factors sheet later node (record { live = refl; own = refl; sources = refl })

  -- ---- candidates

  abbrev same : Bool
  same = same_rates (rates_by old) (rates_by new)

  name-is : (x : List ℕ) (b : Bool) → (same_name x name && b) ≡ true → x ≡ name
  name-is x b e = same_name-is x name (first_of_both (same_name x name) b e)

  of-payments : (node : Node) → same ≡ false → IsMember node (payment_figures sheet)
      → IsMember node (curve_nodes sheet name old new)
  of-payments node e m =
      IsMember-left (moved_nodes sheet same) (currency_nodes name) node (moved-in sheet same node e m)

  of-currency : (node : Node) → IsMember node (currency_nodes name) → IsMember node (curve_nodes sheet name old new)
  of-currency node m = IsMember-right (moved_nodes sheet same) (currency_nodes name) node m

  unit-covered : (x : List ℕ) (direction : Direction) (p : Option Position) → position_of x sheet.securities ≡ p
      → unit_moved name old new p ≡ true → IsMember (nodes.Security x (of_securities.UnitLoss direction)) (curve_nodes sheet name old new)
  unit-covered x direction None found e = absurd (cc)
  unit-covered x direction (Some p) found e =
      of-payments (nodes.Security x (of_securities.UnitLoss direction))
      (not-either (not (same_name p.security.currency name)) same
      (not-same (is_paying p) (keeps_rates name old new p.security.currency) e))
      (unit-listed sheet x p found direction)

  value-covered : (x : List ℕ) (node : Node) → IsMember node (value_figures x) → (l : Option Liability)
      → liability_of x sheet.liabilities ≡ l → value_moved name old new l ≡ true
      → IsMember node (curve_nodes sheet name old new)
  value-covered x node m None found e = absurd (cc)
  value-covered x node m (Some l) found e =
      of-payments node
      (not-either (not (same_name l.currency name)) same (not-same true (keeps_rates name old new l.currency) e))
      (value-listed sheet x l found node m)

  loss-covered : (x : List ℕ) (projection : Projection) (l : Option Liability) → liability_of x sheet.liabilities ≡ l
      → loss_moved name old new projection l ≡ true
      → IsMember (nodes.Liability x (of_liabilities.Loss projection)) (curve_nodes sheet name old new)
  loss-covered x projection None found e =
      let never : true ≡ false = not-same (is_under projection None) true e in absurd (cc)
  loss-covered x projection (Some l) found e =
      of-payments (nodes.Liability x (of_liabilities.Loss projection))
      (not-either (not (same_name l.currency name)) same
      (not-same (is_under projection (Some l)) (keeps_rates name old new l.currency) e))
      (loss-listed sheet x l found projection
      (under-stress projection _ (keeps_rates name old new l.currency) e))

  foreign-covered : (x : List ℕ) (f : List ℕ → Node) (b : Bool) → (same_name x name && b) ≡ true
      → ((n : List ℕ) → IsMember (f n) (foreign_nodes n)) → IsMember (f x) (curve_nodes sheet name old new)
  foreign-covered x f b e each =
      of-currency (f x)
      (inr (inr (inr (inr (inr (inr (subst (λ n. IsMember (f x) (foreign_nodes n)) (name-is x b e) (each x))))))))

  pub covers : (node : Node) → curve_touches sheet name old new node ≡ true
      → IsMember node (curve_nodes sheet name old new)
  covers (nodes.Security x (of_securities.UnitLoss direction)) e = unit-covered x direction (position_of x sheet.securities) refl e
  covers (nodes.Liability x (of_liabilities.Rate direction)) e =
      value-covered x (nodes.Liability x (of_liabilities.Rate direction)) (rate-in x direction) (liability_of x sheet.liabilities) refl e
  covers (nodes.Liability x of_liabilities.Present) e =
      value-covered x (nodes.Liability x of_liabilities.Present) (present-in x) (liability_of x sheet.liabilities) refl e
  covers (nodes.Liability x (of_liabilities.Loss projection)) e =
      loss-covered x projection (liability_of x sheet.liabilities) refl e
  covers (nodes.Currency x (of_currencies.Loss directions.Up)) e =
      of-currency (nodes.Currency x (of_currencies.Loss directions.Up))
      (inl (ap (λ n. nodes.Currency n (of_currencies.Loss directions.Up)) (name-is x (currency_touched old new) e)))
  covers (nodes.Currency x (of_currencies.Loss directions.Down)) e =
      of-currency (nodes.Currency x (of_currencies.Loss directions.Down))
      (inr (inl (ap (λ n. nodes.Currency n (of_currencies.Loss directions.Down)) (name-is x (currency_touched old new) e))))
  covers (nodes.Whole (wholes.InterestScenario directions.Up measures.Gross)) e =
      of-currency (nodes.Whole (wholes.InterestScenario directions.Up measures.Gross)) (inr (inr (inl refl)))
  covers (nodes.Whole (wholes.InterestScenario directions.Down measures.Gross)) e =
      of-currency (nodes.Whole (wholes.InterestScenario directions.Down measures.Gross)) (inr (inr (inr (inl refl))))
  covers (nodes.Whole (wholes.Currency measures.Gross)) e =
      of-currency (nodes.Whole (wholes.Currency measures.Gross)) (inr (inr (inr (inr (inl refl)))))
  covers (nodes.Whole (wholes.Currency measures.Net)) e =
      of-currency (nodes.Whole (wholes.Currency measures.Net)) (inr (inr (inr (inr (inr (inl refl))))))
  covers (nodes.Currency x (of_currencies.Scenario directions.Up measures.Gross)) e =
      foreign-covered x (λ n. nodes.Currency n (of_currencies.Scenario directions.Up measures.Gross)) (foreign_touched sheet old new) e
      (λ n. inl refl)
  covers (nodes.Currency x (of_currencies.Scenario directions.Up measures.Net)) e =
      foreign-covered x (λ n. nodes.Currency n (of_currencies.Scenario directions.Up measures.Net))
      (net_touched sheet directions.Up old new) e (λ n. inr (inl refl))
  covers (nodes.Currency x (of_currencies.Scenario directions.Down measures.Gross)) e =
      foreign-covered x (λ n. nodes.Currency n (of_currencies.Scenario directions.Down measures.Gross)) (foreign_touched sheet old new) e
      (λ n. inr (inr (inl refl)))
  covers (nodes.Currency x (of_currencies.Scenario directions.Down measures.Net)) e =
      foreign-covered x (λ n. nodes.Currency n (of_currencies.Scenario directions.Down measures.Net))
      (net_touched sheet directions.Down old new) e (λ n. inr (inr (inr (inl refl))))
  covers (nodes.Currency x of_currencies.Choice) e =
      foreign-covered x (λ name. nodes.Currency name of_currencies.Choice) (foreign_touched sheet old new) e (λ n. inr (inr (inr (inr (inl refl)))))
  covers (nodes.Currency x (of_currencies.Picked measures.Gross)) e =
      foreign-covered x (λ n. nodes.Currency n (of_currencies.Picked measures.Gross)) (foreign_touched sheet old new) e
      (λ n. inr (inr (inr (inr (inr (inl refl))))))
  covers (nodes.Currency x (of_currencies.Picked measures.Net)) e =
      foreign-covered x (λ n. nodes.Currency n (of_currencies.Picked measures.Net)) (foreign_touched sheet old new) e
      (λ n. inr (inr (inr (inr (inr (inr (inl refl)))))))
  covers node e = absurd (cc)
