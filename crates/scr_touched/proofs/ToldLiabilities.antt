-- An exchanged liability touches just the figures that its test tells, and they are among its candidates.
use Rattle.std.proofs.Common.{◌≡◌, ℕ, ℤ, ◌&&◌, Bool, true, false, List, [], ◌++◌, Option, Some, None, is_some, inl, inr, refl, sym, ap, subst, ◌∙◌}
use Rattle.std.specs.Bool.{Decides}
use Rattle.std.specs.Option.{option_map_or}
use Rattle.std.proofs.lemmas.Bool.Decides.{Decides-like}
use Rattle.scr_factors.specs.Values.{FactorValues}
use Rattle.scr_funds.proofs.Members.{IsMember, IsMember-left, IsMember-mapped, IsMember-right}
use Rattle.scr_tables.specs.Names.{same_name}
use Rattle.scr_tables.specs.Tables.{has_row, row_of}
use Rattle.scr_tables.proofs.TableRows.{same_name-is}
use Rattle.scr_sheet.specs.BalanceSheet.{curve_name, liability_name}
use Rattle.scr_sheet.specs.Validity.{Valid}
use Rattle.scr_sheet.specs.declared.keys.Projection.{Projection}
use Rattle.scr_sheet.specs.declared.keys.Projection.TheVariants as projections
use Rattle.scr_sheet.specs.declared.rows.Class.TheVariants as classes
use Rattle.scr_sheet.specs.declared.rows.Liability.{Liability}
use Rattle.scr_sheet.specs.declared.sheet.BalanceSheet.{BalanceSheet}
use Rattle.scr_nodes.proofs.OwnRows.{distinct-liabilities}
use Rattle.scr_nodes.specs.Live.{is_foreign_currency}
use Rattle.scr_nodes.specs.Own.{Paid, Valued}
use Rattle.scr_nodes.specs.Own.Own.{Excess}
use Rattle.scr_nodes.specs.OwnOf.{nothing_paid, paid_by_liability, valued}
use Rattle.scr_nodes.specs.Rows.{has_stress, is_owed_in, is_stress, is_stressed, liability_of}
use Rattle.scr_nodes.specs.Sources.{liability_loss, liability_present, liability_rate}
use Rattle.scr_nodes.specs.declared.node.Adjustment.TheVariants as adjustments
use Rattle.scr_nodes.specs.declared.node.Biometric.{Biometric}
use Rattle.scr_nodes.specs.declared.node.Biometric.TheVariants as biometrics
use Rattle.scr_nodes.specs.declared.node.Direction.{Direction}
use Rattle.scr_nodes.specs.declared.node.Direction.TheVariants as directions
use Rattle.scr_nodes.specs.declared.node.Measure.TheVariants as measures
use Rattle.scr_nodes.specs.declared.node.Node.{Node}
use Rattle.scr_nodes.specs.declared.node.Node.TheVariants as nodes
use Rattle.scr_nodes.specs.declared.node.OfLiability.TheVariants as of_liabilities
use Rattle.scr_nodes.specs.declared.node.OfCurrency.TheVariants as of_currencies
use Rattle.scr_nodes.specs.declared.node.Whole.TheVariants as wholes
use Rattle.scr_row_change.specs.Changes.{after}
use Rattle.scr_row_change.specs.Comparisons.{is_kept, same_payments}
use Rattle.scr_touched.specs.Comparisons.{is_touched}
use Rattle.scr_row_change.specs.Exchanges.{HasName}
use Rattle.scr_row_change.specs.Readings.{best_estimate_of, paid_for}
use Rattle.scr_touched.specs.Liabilities.{is_under, liability_nodes, liability_touches, loss_touched, owed_nodes, rates_for, same_value, stress_nodes, value_touched}
use Rattle.scr_touched.specs.Payments.{loss_figures, stresses, value_figures}
use Rattle.scr_row_change.specs.declared.change.Change.TheVariants as changes
use Rattle.scr_row_change.proofs.Covered.{in-either}
use Rattle.scr_row_change.proofs.Compared.{always, first_of_both, second_of_both}
use Rattle.scr_touched.proofs.Decided.{Tells, Tells-at, moved, told-by, unread, untouched}
use Rattle.scr_row_change.proofs.Exchanged.{listed, one-row, preceded}
use Rattle.scr_touched.proofs.PaidFigures.{cost-told, excess-both, loss-in, paid, paid-compared, present-in, rate-in, stress-in, worth, worth-compared, worth-told}

module _ (factors : FactorValues) (sheet : BalanceSheet) (name : List ℕ) (new : Option Liability)
    (valid : Valid sheet) (named : HasName liability_name name new) where
  abbrev pub old : Option Liability
  old = row_of liability_name name sheet.liabilities

  abbrev later : BalanceSheet
  later = after (changes.Liability name new) sheet

  -- the liability of a name before and after
  abbrev found : List ℕ → Option Liability
  found x = liability_of x sheet.liabilities

  abbrev found_after : List ℕ → Option Liability
  found_after x = liability_of x later.liabilities

  own-row : (test : Option Liability → Option Liability → Bool) → ((row : Option Liability) → test row row ≡ false)
      → (node : Node) (x : List ℕ) → Tells factors sheet later node (test (found x) (found_after x))
      → Tells factors sheet later node (same_name x name && test old new)
  own-row test still node x told =
      Tells-at factors sheet later node (same_name x name && test old new) (test (found x) (found_after x))
      (one-row liability_name name new sheet.liabilities (distinct-liabilities sheet valid) named test still x) told

  -- ---- what is paid, for the liability that is found or for none

  abbrev asof : ℤ
  asof = sheet.numbers.asof.number

  abbrev paid_of : Direction → Option Liability → Paid
  paid_of direction l = option_map_or (paid_by_liability sheet direction) l (nothing_paid sheet direction)

  abbrev worth_of : Option Liability → Valued
  worth_of l = option_map_or (valued sheet) l (worth asof [] [])

  paid-is : (direction : Direction) (l : Option Liability)
      → paid_of direction l ≡ paid direction asof (best_estimate_of l) (rates_for sheet l)
  paid-is direction None = refl
  paid-is direction (Some l) = refl

  worth-is : (l : Option Liability) → worth_of l ≡ worth asof (best_estimate_of l) (rates_for sheet l)
  worth-is None = refl
  worth-is (Some l) = refl

  paid-same : (direction : Direction) (k l : Option Liability)
      → Decides (same_value sheet k l) (paid_of direction k ≡ paid_of direction l)
  paid-same direction k l =
      Decides-like (same_value sheet k l) (λ e. paid-is direction k ∙ e ∙ sym (paid-is direction l))
      (λ e. sym (paid-is direction k) ∙ e ∙ paid-is direction l)
      (paid-compared direction asof (best_estimate_of k) (best_estimate_of l) (rates_for sheet k) (rates_for sheet l))

  worth-same : (k l : Option Liability) → Decides (same_value sheet k l) (worth_of k ≡ worth_of l)
  worth-same k l =
      Decides-like (same_value sheet k l) (λ e. worth-is k ∙ e ∙ sym (worth-is l))
      (λ e. sym (worth-is k) ∙ e ∙ worth-is l)
      (worth-compared asof (best_estimate_of k) (best_estimate_of l) (rates_for sheet k) (rates_for sheet l))

  loss-same : (projection : Projection) (k l : Option Liability)
      → Decides (same_value sheet k l && same_payments (paid_for projection k) (paid_for projection l))
      (Excess (worth_of k) (paid_for projection k) ≡ Excess (worth_of l) (paid_for projection l))
  loss-same projection k l =
      excess-both (same_value sheet k l) (worth_of k) (worth_of l) (paid_for projection k) (paid_for projection l)
      (worth-same k l)

  -- what does not change touches nothing
  value-still : (l : Option Liability) → value_touched sheet l l ≡ false
  value-still l = untouched (is_some l) (same_value sheet l l) true ((worth-same l l).1 refl) refl

  loss-still : (projection : Projection) (l : Option Liability) → loss_touched sheet projection l l ≡ false
  loss-still projection l =
      untouched (is_under projection l)
      (same_value sheet l l && same_payments (paid_for projection l) (paid_for projection l)) true
      ((loss-same projection l l).1 refl) refl

  -- ---- all figures

  pub told : (node : Node)
      → Tells factors sheet (after (changes.Liability name new) sheet) node (liability_touches sheet name old new node)
  told (nodes.Liability x (of_liabilities.Rate direction)) =
      own-row (value_touched sheet) value-still (nodes.Liability x (of_liabilities.Rate direction)) x
      (told-by factors sheet later (nodes.Liability x (of_liabilities.Rate direction)) (is_some (found x)) (is_some (found_after x))
      (same_value sheet (found x) (found_after x)) true refl refl
      (cost-told (same_value sheet (found x) (found_after x)) (paid_of direction (found x))
      (paid_of direction (found_after x)) (paid-same direction (found x) (found_after x))) (always refl))
  told (nodes.Liability x of_liabilities.Present) =
      own-row (value_touched sheet) value-still (nodes.Liability x of_liabilities.Present) x
      (told-by factors sheet later (nodes.Liability x of_liabilities.Present) (is_some (found x)) (is_some (found_after x))
      (same_value sheet (found x) (found_after x)) true refl refl
      (worth-told (same_value sheet (found x) (found_after x)) (worth_of (found x)) (worth_of (found_after x))
      (worth-same (found x) (found_after x))) (always refl))
  told (nodes.Liability x (of_liabilities.Loss projection)) =
      own-row (loss_touched sheet projection) (loss-still projection) (nodes.Liability x (of_liabilities.Loss projection)) x
      (told-by factors sheet later (nodes.Liability x (of_liabilities.Loss projection)) (is_under projection (found x))
      (is_under projection (found_after x)) _ true refl refl (loss-same projection (found x) (found_after x))
      (always refl))
  told (nodes.Currency currency (of_currencies.Loss direction)) =
      told-by factors sheet later (nodes.Currency currency (of_currencies.Loss direction)) _ _ true
      (is_kept (is_owed_in currency) old new) refl refl (always refl)
      (preceded (is_kept (is_owed_in currency) old new) _ _ _
      (listed liability_name name new sheet.liabilities named (is_owed_in currency) (liability_rate direction)
      (λ a b e. ap (λ n. nodes.Liability n (of_liabilities.Rate direction)) e)))
  told (nodes.Currency currency (of_currencies.Scenario direction measures.Gross)) =
      told-by factors sheet later (nodes.Currency currency (of_currencies.Scenario direction measures.Gross)) _ _ true
      (is_kept (is_owed_in currency) old new) refl refl (always refl)
      (preceded (is_kept (is_owed_in currency) old new) _ _ _
      (listed liability_name name new sheet.liabilities named (is_owed_in currency) liability_present
      (λ a b e. ap (λ name. nodes.Liability name of_liabilities.Present) e)))
  told (nodes.Whole (wholes.BioScenario biometric projection measures.Gross)) =
      told-by factors sheet later (nodes.Whole (wholes.BioScenario biometric projection measures.Gross)) _ _ true
      (is_kept (is_stressed biometric projection) old new) refl refl (always refl)
      (listed liability_name name new sheet.liabilities named (is_stressed biometric projection)
      (liability_loss projection) (λ a b e. ap (λ n. nodes.Liability n (of_liabilities.Loss projection)) e))
  told (nodes.Currency currency (of_currencies.Scenario direction measures.Net)) =
      unread factors sheet later (nodes.Currency currency (of_currencies.Scenario direction measures.Net))
      (record { live = refl; own = refl; sources = refl })
  told (nodes.Whole (wholes.InterestScenario direction measures.Gross)) =
      unread factors sheet later (nodes.Whole (wholes.InterestScenario direction measures.Gross))
      (record { live = refl; own = refl; sources = refl })
  told (nodes.Whole (wholes.ClassSum classes.Type2Equity)) =
      unread factors sheet later (nodes.Whole (wholes.ClassSum classes.Type2Equity))
      (record { live = refl; own = refl; sources = refl })
  told (nodes.Whole (wholes.Adjust adjustments.TechnicalProvisions)) =
      unread factors sheet later (nodes.Whole (wholes.Adjust adjustments.TechnicalProvisions))
      (record { live = refl; own = refl; sources = refl })
  told node = unread factors sheet later node (record { live = refl; own = refl; sources = refl })

  -- ---- candidates

  name-is : (x : List ℕ) (b : Bool) → (same_name x name && b) ≡ true → x ≡ name
  name-is x b e = same_name-is x name (first_of_both (same_name x name) b e)

  abbrev life : List Node
  life = stress_nodes biometrics.Life

  abbrev health : List Node
  health = stress_nodes biometrics.Health

  abbrev owed : List Node
  owed = owed_nodes old ++ owed_nodes new

  abbrev stress_figures : List Node
  stress_figures = life ++ (health ++ owed)

  of-value : (node : Node) → IsMember node (value_figures name) → IsMember node (liability_nodes name old ++ owed_nodes new)
  of-value node m = IsMember-left (value_figures name) (loss_figures name ++ stress_figures) node m

  of-stress : (node : Node) → IsMember node stress_figures → IsMember node (liability_nodes name old ++ owed_nodes new)
  of-stress node m =
      IsMember-right (value_figures name) (loss_figures name ++ stress_figures) node
      (IsMember-right (loss_figures name) stress_figures node m)

  of-owed : (node : Node) (currency : List ℕ) (live : Bool)
      → is_touched live live true (is_kept (is_owed_in currency) old new) ≡ true
      → ((row : Liability) → currency ≡ row.currency → IsMember node (owed_nodes (Some row)))
      → IsMember node (liability_nodes name old ++ owed_nodes new)
  of-owed node currency live e each =
      of-stress node
      (IsMember-right life (health ++ owed) node
      (IsMember-right health owed node
      (in-either (is_owed_in currency) owed_nodes node (λ row f. each row (same_name-is currency row.currency f)) old
      new
      (moved live true (is_kept (is_owed_in currency) old new) e))))

  -- a projection that is touched is a stress
  is-stress : (projection : Projection) → loss_touched sheet projection old new ≡ true → is_stress projection ≡ true
  is-stress projections.Base e = absurd (cc)
  is-stress projection e = refl

  in-stresses : (biometric : Biometric) (projection : Projection) → (kept : Bool)
      → is_touched (has_stress biometric projection) (has_stress biometric projection) true kept ≡ true
      → IsMember (nodes.Whole (wholes.BioScenario biometric projection measures.Gross)) (stress_nodes biometric)
  in-stresses biometric projection kept e =
      IsMember-mapped (λ p. nodes.Whole (wholes.BioScenario biometric p measures.Gross)) stresses projection
      (stress-in projection (of biometric projection e))
    where
      of : (b : Biometric) (p : Projection) → is_touched (has_stress b p) (has_stress b p) true kept ≡ true
          → is_stress p ≡ true
      of b projections.Base f = absurd (cc)
      of b p f = refl

  pub covers : (node : Node) → liability_touches sheet name old new node ≡ true
      → IsMember node (liability_nodes name old ++ owed_nodes new)
  covers (nodes.Liability x (of_liabilities.Rate direction)) e =
      of-value (nodes.Liability x (of_liabilities.Rate direction))
      (subst (λ n. IsMember (nodes.Liability x (of_liabilities.Rate direction)) (value_figures n)) (name-is x _ e) (rate-in x direction))
  covers (nodes.Liability x of_liabilities.Present) e =
      of-value (nodes.Liability x of_liabilities.Present)
      (subst (λ n. IsMember (nodes.Liability x of_liabilities.Present) (value_figures n)) (name-is x _ e) (present-in x))
  covers (nodes.Liability x (of_liabilities.Loss projection)) e =
      IsMember-right (value_figures name) (loss_figures name ++ stress_figures) (nodes.Liability x (of_liabilities.Loss projection))
      (IsMember-left (loss_figures name) stress_figures (nodes.Liability x (of_liabilities.Loss projection))
      (subst (λ n. IsMember (nodes.Liability x (of_liabilities.Loss projection)) (loss_figures n)) (name-is x _ e)
      (loss-in x projection
      (is-stress projection (second_of_both (same_name x name) (loss_touched sheet projection old new) e)))))
  covers (nodes.Currency currency (of_currencies.Loss directions.Up)) e =
      of-owed (nodes.Currency currency (of_currencies.Loss directions.Up)) currency (has_row curve_name currency sheet.curves) e
      (λ row f. inl (ap (λ n. nodes.Currency n (of_currencies.Loss directions.Up)) f))
  covers (nodes.Currency currency (of_currencies.Loss directions.Down)) e =
      of-owed (nodes.Currency currency (of_currencies.Loss directions.Down)) currency (has_row curve_name currency sheet.curves) e
      (λ row f. inr (inl (ap (λ n. nodes.Currency n (of_currencies.Loss directions.Down)) f)))
  covers (nodes.Currency currency (of_currencies.Scenario directions.Up measures.Gross)) e =
      of-owed (nodes.Currency currency (of_currencies.Scenario directions.Up measures.Gross)) currency
      (is_foreign_currency sheet currency) e
      (λ row f. inr (inr (inl (ap (λ n. nodes.Currency n (of_currencies.Scenario directions.Up measures.Gross)) f))))
  covers (nodes.Currency currency (of_currencies.Scenario directions.Down measures.Gross)) e =
      of-owed (nodes.Currency currency (of_currencies.Scenario directions.Down measures.Gross)) currency
      (is_foreign_currency sheet currency) e
      (λ row f. inr (inr (inr (inl (ap (λ n. nodes.Currency n (of_currencies.Scenario directions.Down measures.Gross)) f)))))
  covers (nodes.Whole (wholes.BioScenario biometrics.Life projection measures.Gross)) e =
      of-stress (nodes.Whole (wholes.BioScenario biometrics.Life projection measures.Gross))
      (IsMember-left life (health ++ owed)
      (nodes.Whole (wholes.BioScenario biometrics.Life projection measures.Gross))
      (in-stresses biometrics.Life projection (is_kept (is_stressed biometrics.Life projection) old new) e))
  covers (nodes.Whole (wholes.BioScenario biometrics.Health projection measures.Gross)) e =
      of-stress (nodes.Whole (wholes.BioScenario biometrics.Health projection measures.Gross))
      (IsMember-right life (health ++ owed)
      (nodes.Whole (wholes.BioScenario biometrics.Health projection measures.Gross))
      (IsMember-left health owed
      (nodes.Whole (wholes.BioScenario biometrics.Health projection measures.Gross))
      (in-stresses biometrics.Health projection (is_kept (is_stressed biometrics.Health projection) old new) e)))
  covers node e = absurd (cc)
