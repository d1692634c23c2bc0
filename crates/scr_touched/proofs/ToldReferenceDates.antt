-- Another reference date or reporting currency touches just the figures that the test tells, and they are among the
-- candidates.
use Rattle.std.proofs.Common.{◌≡◌, ◌⊎◌, ℕ, ◌&&◌, ◌++◌, not, Bool, true, false, List, [], ◌∷◌, map, filter, Option, Some, None, is_some, inl, inr, refl, sym, ap, subst, ◌∙◌, append_assoc}
use Rattle.std.specs.Bool.{Decides}
use Rattle.std.specs.Option.{option_map_or}
use Rattle.std.proofs.lemmas.Bool.Decides.{Decides-int_eq}
use Rattle.scr_dates.specs.declared.day.Day.{Day}
use Rattle.scr_factors.specs.Values.{FactorValues}
use Rattle.scr_funds.proofs.Members.{IsMember, IsMember-left, IsMember-right}
use Rattle.scr_tables.specs.Names.{same_name}
use Rattle.scr_tables.specs.Tables.{row_of}
use Rattle.scr_tables.proofs.TableRows.{same_name-is, same_name-itself}
use Rattle.scr_profile.specs.declared.segment.Segment.TheVariants as segments
use Rattle.scr_sheet.specs.BalanceSheet.{curve_name, position_of}
use Rattle.scr_sheet.specs.Validity.{Valid}
use Rattle.scr_sheet.specs.declared.keys.Projection.{Projection}
use Rattle.scr_sheet.specs.declared.rows.Class.TheVariants as classes
use Rattle.scr_sheet.specs.declared.rows.Curve.{Curve}
use Rattle.scr_sheet.specs.declared.rows.Liability.{Liability}
use Rattle.scr_sheet.specs.declared.rows.Position.{Position}
use Rattle.scr_sheet.specs.declared.sheet.BalanceSheet.{BalanceSheet}
use Rattle.scr_nodes.proofs.Apart.{chosen-member, member-chosen}
use Rattle.scr_nodes.proofs.Told.{told-picked}
use Rattle.scr_nodes.specs.Own.{Paid, Valued}
use Rattle.scr_nodes.specs.OwnOf.{nothing_paid, paid_by_liability, paid_by_security, paid_under, valued}
use Rattle.scr_nodes.specs.Rows.{is_foreign, is_paying, is_stress, liability_of, rates_of}
use Rattle.scr_nodes.specs.Sources.{currency_picked}
use Rattle.scr_nodes.specs.declared.node.Adjustment.TheVariants as adjustments
use Rattle.scr_nodes.specs.declared.node.Direction.{Direction}
use Rattle.scr_nodes.specs.declared.node.Direction.TheVariants as directions
use Rattle.scr_nodes.specs.declared.node.Measure.{Measure}
use Rattle.scr_nodes.specs.declared.node.Measure.TheVariants as measures
use Rattle.scr_nodes.specs.declared.node.Node.{Node}
use Rattle.scr_nodes.specs.declared.node.Node.TheVariants as nodes
use Rattle.scr_nodes.specs.declared.node.OfSecurity.TheVariants as of_securities
use Rattle.scr_nodes.specs.declared.node.OfLiability.TheVariants as of_liabilities
use Rattle.scr_nodes.specs.declared.node.OfCurrency.TheVariants as of_currencies
use Rattle.scr_nodes.specs.declared.node.Whole.TheVariants as wholes
use Rattle.scr_nodes.specs.declared.node.Operational.TheVariants as operations
use Rattle.scr_row_change.specs.Changes.{after}
use Rattle.scr_row_change.specs.Comparisons.{passes}
use Rattle.scr_touched.specs.Comparisons.{is_touched}
use Rattle.scr_touched.specs.Curves.{foreign_nodes, moved_nodes}
use Rattle.scr_touched.specs.Liabilities.{is_under}
use Rattle.scr_touched.specs.Payments.{payment_figures, value_figures}
use Rattle.scr_touched.specs.ReferenceDates.{date_nodes, reporting_nodes, date_touches, dated_touched, same_date}
use Rattle.scr_row_change.specs.declared.change.Change.TheVariants as changes
use Rattle.scr_row_change.proofs.Compared.{always}
use Rattle.scr_touched.proofs.Decided.{Tells, told-by, unread}
use Rattle.scr_row_change.proofs.LookedUp.{found-member, found-name}
use Rattle.scr_touched.proofs.PaidFigures.{cost-told, excess-told, loss-listed, loss-told, paid-dated, present-in, rate-in, unit-listed, value-listed, worth, worth-dated, worth-told}
use Rattle.scr_touched.proofs.ToldCurves.{moved-in, not-same, under-stress}

-- a currency that is foreign by one of two reporting currencies alone is the other of them
one-reports : (a b : Bool) → is_touched (not a) (not b) true true ≡ true → (a ≡ true) ⊎ (b ≡ true)
one-reports true b e = inl refl
one-reports false true e = inr refl
one-reports false false e = absurd (cc)

module _ (factors : FactorValues) (sheet : BalanceSheet) (date : Day) (currency : List ℕ) (valid : Valid sheet) where
  abbrev later : BalanceSheet
  later = after (changes.Asof date currency) sheet

  abbrev reporting : List ℕ
  reporting = sheet.numbers.currency

  -- ---- figures of payments

  abbrev same : Bool
  same = same_date sheet date

  dates-told : Decides same (sheet.numbers.asof.number ≡ date.number)
  dates-told = Decides-int_eq sheet.numbers.asof.number date.number

  abbrev paid_of : Direction → BalanceSheet → Option Position → Paid
  paid_of direction s p = option_map_or (paid_by_security s direction) p (nothing_paid s direction)

  abbrev owed_of : Direction → BalanceSheet → Option Liability → Paid
  owed_of direction s l = option_map_or (paid_by_liability s direction) l (nothing_paid s direction)

  abbrev worth_of : BalanceSheet → Option Liability → Valued
  worth_of s l = option_map_or (valued s) l (worth s.numbers.asof.number [] [])

  security-same : (direction : Direction) (p : Option Position)
      → Decides same (paid_of direction sheet p ≡ paid_of direction later p)
  security-same direction None = paid-dated direction sheet.numbers.asof.number date.number [] [] same dates-told
  security-same direction (Some p) =
      paid-dated direction sheet.numbers.asof.number date.number p.security.flows
      (rates_of p.security.currency sheet) same dates-told

  liability-same : (direction : Direction) (l : Option Liability)
      → Decides same (owed_of direction sheet l ≡ owed_of direction later l)
  liability-same direction None = paid-dated direction sheet.numbers.asof.number date.number [] [] same dates-told
  liability-same direction (Some l) =
      paid-dated direction sheet.numbers.asof.number date.number l.flows.base (rates_of l.currency sheet) same
      dates-told

  worth-same : (l : Option Liability) → Decides same (worth_of sheet l ≡ worth_of later l)
  worth-same None = worth-dated sheet.numbers.asof.number date.number [] [] same dates-told
  worth-same (Some l) =
      worth-dated sheet.numbers.asof.number date.number l.flows.base (rates_of l.currency sheet) same dates-told

  -- ---- the list of foreign currencies

  abbrev picked : Measure → (Curve → Bool) → List Node
  picked measure test = map (currency_picked measure) (filter test sheet.curves)

  abbrev is_other : List ℕ → Curve → Bool
  is_other name curve = not (same_name name curve.currency)

  -- the choice of the reporting currency before is in the list after, and not in the one before
  moved-list : (measure : Measure) (home : Option Curve) → row_of curve_name reporting sheet.curves ≡ home
      → is_some home ≡ true → picked measure (is_other reporting) ≡ picked measure (is_other currency)
      → same_name reporting currency ≡ true
  moved-list measure None found known e = absurd (cc)
  moved-list measure (Some home) found known e = by (same_name currency home.currency) refl
    where
      one : reporting ≡ home.currency
      one = found-name curve_name reporting sheet.curves home found

      by : (b : Bool) → same_name currency home.currency ≡ b → same_name reporting currency ≡ true
      by true f =
          subst (λ n. same_name reporting n ≡ true) (one ∙ sym (same_name-is currency home.currency f))
          (same_name-itself reporting)
      by false f =
          let there = member-chosen (currency_picked measure) (is_other currency) sheet.curves home
          (found-member curve_name reporting sheet.curves home found) (ap not f) in
          let before = chosen-member (currency_picked measure) (is_other reporting) sheet.curves
          (currency_picked measure home) (subst (λ list. IsMember (currency_picked measure home) list) (sym e) there) in
          let other : not (same_name reporting before.0.currency) ≡ true = before.2 in
          let same_row : before.0.currency ≡ home.currency = told-picked measure before.0 home before.3 in
          let itself : same_name reporting before.0.currency ≡ true =
          subst (λ n. same_name reporting n ≡ true) (one ∙ sym same_row) (same_name-itself reporting) in
          let never : false ≡ true = sym (ap not itself) ∙ other in
          absurd (cc)

  lists-told : (measure : Measure) → Decides (same_name reporting currency)
      (picked measure (is_foreign sheet) ≡ picked measure (is_foreign later))
  lists-told measure = (
    (λ e. ap (λ n. picked measure (is_other n)) (same_name-is reporting currency e)),
    (λ e. moved-list measure (row_of curve_name reporting sheet.curves) refl valid.known.reporting e),
  )

  -- ---- all figures

  pub told : (node : Node)
      → Tells factors sheet (after (changes.Asof date currency) sheet) node (date_touches sheet date currency node)
  told (nodes.Security x (of_securities.UnitLoss direction)) =
      told-by factors sheet later (nodes.Security x (of_securities.UnitLoss direction)) _ _ same true refl refl
      (loss-told same (paid_of direction sheet (position_of x sheet.securities))
      (paid_of direction later (position_of x sheet.securities))
      (security-same direction (position_of x sheet.securities))) (always refl)
  told (nodes.Liability x (of_liabilities.Rate direction)) =
      told-by factors sheet later (nodes.Liability x (of_liabilities.Rate direction)) _ _ same true refl refl
      (cost-told same (owed_of direction sheet (liability_of x sheet.liabilities))
      (owed_of direction later (liability_of x sheet.liabilities))
      (liability-same direction (liability_of x sheet.liabilities))) (always refl)
  told (nodes.Liability x of_liabilities.Present) =
      told-by factors sheet later (nodes.Liability x of_liabilities.Present) _ _ same true refl refl
      (worth-told same (worth_of sheet (liability_of x sheet.liabilities))
      (worth_of later (liability_of x sheet.liabilities)) (worth-same (liability_of x sheet.liabilities)))
      (always refl)
  told (nodes.Liability x (of_liabilities.Loss projection)) =
      told-by factors sheet later (nodes.Liability x (of_liabilities.Loss projection)) _ _ same true refl refl
      (excess-told same (worth_of sheet (liability_of x sheet.liabilities))
      (worth_of later (liability_of x sheet.liabilities)) (paid_under sheet x projection)
      (worth-same (liability_of x sheet.liabilities))) (always refl)
  told (nodes.Currency x (of_currencies.Scenario direction measures.Gross)) =
      told-by factors sheet later (nodes.Currency x (of_currencies.Scenario direction measures.Gross)) _ _ true true refl refl
      (always refl) (always refl)
  told (nodes.Currency x (of_currencies.Scenario direction measures.Net)) =
      told-by factors sheet later (nodes.Currency x (of_currencies.Scenario direction measures.Net)) _ _ true true refl refl
      (always refl) (always refl)
  told (nodes.Currency x of_currencies.Choice) =
      told-by factors sheet later (nodes.Currency x of_currencies.Choice) _ _ true true refl refl (always refl) (always refl)
  told (nodes.Currency x (of_currencies.Picked measure)) =
      told-by factors sheet later (nodes.Currency x (of_currencies.Picked measure)) _ _ true true refl refl (always refl) (always refl)
  told (nodes.Whole (wholes.Currency measure)) =
      told-by factors sheet later (nodes.Whole (wholes.Currency measure)) true true true (same_name reporting currency) refl refl
      (always refl) (lists-told measure)
  told (nodes.Whole (wholes.InterestScenario direction measures.Gross)) =
      unread factors sheet later (nodes.Whole (wholes.InterestScenario direction measures.Gross))
      (record { live = refl; own = refl; sources = refl })
  told (nodes.Whole (wholes.ClassSum classes.Type2Equity)) =
      unread factors sheet later (nodes.Whole (wholes.ClassSum classes.Type2Equity))
      (record { live = refl; own = refl; sources = refl })
  told (nodes.Whole (wholes.BioScenario biometric projection measures.Gross)) =
      unread factors sheet later (nodes.Whole (wholes.BioScenario biometric projection measures.Gross))
      (record { live = refl; own = refl; sources = refl })
  told (nodes.Whole (wholes.Segment segments.MotorLiability)) =
      unread factors sheet later (nodes.Whole (wholes.Segment segments.MotorLiability)) (record { live = refl; own = refl; sources = refl })
  told (nodes.Whole (wholes.OpPart operations.Premiums)) =
      unread factors sheet later (nodes.Whole (wholes.OpPart operations.Premiums))
      (record { live = refl; own = refl; sources = refl })
  told (nodes.Whole (wholes.Adjust adjustments.TechnicalProvisions)) =
      unread factors sheet later (nodes.Whole (wholes.Adjust adjustments.TechnicalProvisions))
      (record { live = refl; own = refl; sources = refl })
  told node = unread factors sheet later node (record { live = refl; own = refl; sources = refl })

  -- ---- candidates

  abbrev reporting_figures : List Node
  reporting_figures =
      foreign_nodes reporting ++ (foreign_nodes currency
      ++ nodes.Whole (wholes.Currency measures.Gross) ∷ nodes.Whole (wholes.Currency measures.Net) ∷ [])

  abbrev whole : List Node
  whole = moved_nodes sheet same ++ reporting_figures

  of-payments : (node : Node) → same ≡ false → IsMember node (payment_figures sheet)
      → IsMember node whole
  of-payments node e m = IsMember-left (moved_nodes sheet same) reporting_figures node (moved-in sheet same node e m)

  unit-covered : (x : List ℕ) (direction : Direction) (p : Option Position) → position_of x sheet.securities ≡ p
      → dated_touched sheet date (passes is_paying p) ≡ true
      → IsMember (nodes.Security x (of_securities.UnitLoss direction)) whole
  unit-covered x direction None found e = absurd (cc)
  unit-covered x direction (Some p) found e =
      of-payments (nodes.Security x (of_securities.UnitLoss direction)) (not-same (is_paying p) same e) (unit-listed sheet x p found direction)

  value-covered : (x : List ℕ) (node : Node) → IsMember node (value_figures x) → (l : Option Liability)
      → liability_of x sheet.liabilities ≡ l → dated_touched sheet date (is_some l) ≡ true
      → IsMember node whole
  value-covered x node m None found e = absurd (cc)
  value-covered x node m (Some l) found e =
      of-payments node (not-same true same e) (value-listed sheet x l found node m)

  loss-covered : (x : List ℕ) (projection : Projection) (l : Option Liability) → liability_of x sheet.liabilities ≡ l
      → dated_touched sheet date (is_under projection l) ≡ true
      → IsMember (nodes.Liability x (of_liabilities.Loss projection)) whole
  loss-covered x projection None found e = absurd (never (is_stress projection) e)
    where
      never : (b : Bool) → dated_touched sheet date (b && false) ≡ true → ⊥
      never true f = absurd (cc)
      never false f = absurd (cc)
  loss-covered x projection (Some l) found e =
      of-payments (nodes.Liability x (of_liabilities.Loss projection)) (not-same (is_under projection (Some l)) same e)
      (loss-listed sheet x l found projection (under-stress projection _ same e))

  -- a figure of a currency that becomes foreign, or ceases to be so
  foreign-covered : (x : List ℕ) (f : List ℕ → Node) → ((n : List ℕ) → IsMember (f n) (foreign_nodes n))
      → (c : Option Curve) → row_of curve_name x sheet.curves ≡ c
      → is_touched (passes (is_other reporting) c) (passes (is_other currency) c) true true ≡ true
      → IsMember (f x) whole
  foreign-covered x f each None found e = absurd (cc)
  foreign-covered x f each (Some c) found e =
      IsMember-right (moved_nodes sheet same) reporting_figures (f x)
      (by (one-reports (same_name reporting c.currency) (same_name currency c.currency) e))
    where
      one : (name : List ℕ) → same_name name c.currency ≡ true → IsMember (f x) (foreign_nodes name)
      one name g =
          subst (λ n. IsMember (f x) (foreign_nodes n))
          (found-name curve_name x sheet.curves c found ∙ sym (same_name-is name c.currency g)) (each x)

      by : (same_name reporting c.currency ≡ true) ⊎ (same_name currency c.currency ≡ true)
          → IsMember (f x) reporting_figures
      by (inl g) =
          IsMember-left (foreign_nodes reporting) (foreign_nodes currency
          ++ nodes.Whole (wholes.Currency measures.Gross) ∷ nodes.Whole (wholes.Currency measures.Net) ∷ []) (f x) (one reporting g)
      by (inr g) =
          IsMember-right (foreign_nodes reporting) (foreign_nodes currency
          ++ nodes.Whole (wholes.Currency measures.Gross) ∷ nodes.Whole (wholes.Currency measures.Net) ∷ []) (f x)
          (IsMember-left (foreign_nodes currency) (nodes.Whole (wholes.Currency measures.Gross) ∷ nodes.Whole (wholes.Currency measures.Net) ∷ [])
          (f x) (one currency g))

  sum-covered : (node : Node) → IsMember node (nodes.Whole (wholes.Currency measures.Gross) ∷ nodes.Whole (wholes.Currency measures.Net) ∷ [])
      → IsMember node whole
  sum-covered node m =
      IsMember-right (moved_nodes sheet same) reporting_figures node
      (IsMember-right (foreign_nodes reporting) (foreign_nodes currency
      ++ nodes.Whole (wholes.Currency measures.Gross) ∷ nodes.Whole (wholes.Currency measures.Net) ∷ []) node
      (IsMember-right (foreign_nodes currency) (nodes.Whole (wholes.Currency measures.Gross) ∷ nodes.Whole (wholes.Currency measures.Net) ∷ [])
      node m))

  whole-covers : (node : Node) → date_touches sheet date currency node ≡ true
      → IsMember node whole
  whole-covers (nodes.Security x (of_securities.UnitLoss direction)) e = unit-covered x direction (position_of x sheet.securities) refl e
  whole-covers (nodes.Liability x (of_liabilities.Rate direction)) e =
      value-covered x (nodes.Liability x (of_liabilities.Rate direction)) (rate-in x direction) (liability_of x sheet.liabilities) refl e
  whole-covers (nodes.Liability x of_liabilities.Present) e =
      value-covered x (nodes.Liability x of_liabilities.Present) (present-in x) (liability_of x sheet.liabilities) refl e
  whole-covers (nodes.Liability x (of_liabilities.Loss projection)) e =
      loss-covered x projection (liability_of x sheet.liabilities) refl e
  whole-covers (nodes.Currency x (of_currencies.Scenario directions.Up measures.Gross)) e =
      foreign-covered x (λ n. nodes.Currency n (of_currencies.Scenario directions.Up measures.Gross)) (λ n. inl refl)
      (row_of curve_name x sheet.curves) refl e
  whole-covers (nodes.Currency x (of_currencies.Scenario directions.Up measures.Net)) e =
      foreign-covered x (λ n. nodes.Currency n (of_currencies.Scenario directions.Up measures.Net)) (λ n. inr (inl refl))
      (row_of curve_name x sheet.curves) refl e
  whole-covers (nodes.Currency x (of_currencies.Scenario directions.Down measures.Gross)) e =
      foreign-covered x (λ n. nodes.Currency n (of_currencies.Scenario directions.Down measures.Gross)) (λ n. inr (inr (inl refl)))
      (row_of curve_name x sheet.curves) refl e
  whole-covers (nodes.Currency x (of_currencies.Scenario directions.Down measures.Net)) e =
      foreign-covered x (λ n. nodes.Currency n (of_currencies.Scenario directions.Down measures.Net)) (λ n. inr (inr (inr (inl refl))))
      (row_of curve_name x sheet.curves) refl e
  whole-covers (nodes.Currency x of_currencies.Choice) e =
      foreign-covered x (λ name. nodes.Currency name of_currencies.Choice) (λ n. inr (inr (inr (inr (inl refl)))))
      (row_of curve_name x sheet.curves) refl e
  whole-covers (nodes.Currency x (of_currencies.Picked measures.Gross)) e =
      foreign-covered x (λ n. nodes.Currency n (of_currencies.Picked measures.Gross)) (λ n. inr (inr (inr (inr (inr (inl refl))))))
      (row_of curve_name x sheet.curves) refl e
  whole-covers (nodes.Currency x (of_currencies.Picked measures.Net)) e =
      foreign-covered x (λ n. nodes.Currency n (of_currencies.Picked measures.Net)) (λ n. inr (inr (inr (inr (inr (inr (inl refl)))))))
      (row_of curve_name x sheet.curves) refl e
  whole-covers (nodes.Whole (wholes.Currency measures.Gross)) e = sum-covered (nodes.Whole (wholes.Currency measures.Gross)) (inl refl)
  whole-covers (nodes.Whole (wholes.Currency measures.Net)) e = sum-covered (nodes.Whole (wholes.Currency measures.Net)) (inr (inl refl))
  whole-covers node e = absurd (cc)

  pub covers : (node : Node) → date_touches sheet date currency node ≡ true
      → IsMember node (date_nodes sheet date ++ reporting_nodes currency)
  covers node e =
      subst (IsMember node) (sym (append_assoc (moved_nodes sheet same) (foreign_nodes reporting) (reporting_nodes currency)))
      (whole-covers node e)
