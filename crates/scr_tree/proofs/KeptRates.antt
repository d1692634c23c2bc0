-- All that is kept of rates stays where a record leaves the reference date and the rates of all currencies as they are.
use Rattle.std.proofs.Common.{◌≡◌, ℕ, ℤ, true, List, [], ◌∷◌, map, Option, Some, None, refl, sym, ap, subst, ◌∙◌}
use Rattle.std.specs.Option.{option_map_or}
use Rattle.scr_tables.specs.Tables.{row_of, with_row, changed}
use Rattle.scr_tables.proofs.TableRows.{same_or_other, same_name-is, name_of-row_of, row_of-here, row_of-later, with_row-here, with_row-later}
use Rattle.scr_sheet.specs.BalanceSheet.{curve_name}
use Rattle.scr_sheet.specs.Records.{applied, with_absorb}
use Rattle.scr_sheet.specs.declared.edit.Edit.{Edit}
use Rattle.scr_sheet.specs.declared.edit.Edit.TheVariants as edits
use Rattle.scr_sheet.specs.declared.keys.AbsorbKey.{AbsorbKey}
use Rattle.scr_sheet.specs.declared.keys.AbsorbKey.TheVariants as absorb
use Rattle.scr_sheet.specs.declared.keys.Table.TheVariants as tables
use Rattle.scr_sheet.specs.declared.rows.Curve.{Curve}
use Rattle.scr_sheet.specs.declared.sheet.BalanceSheet.{BalanceSheet}
use Rattle.scr_discounts.specs.Discounts.{CurrencyDiscounts, discounts_at}
use Rattle.scr_discounts.specs.Kept.{rows_of}
use Rattle.scr_discounts.specs.KeptRates.{AreKeptBut, KnownRates, all_rates, falls_at, falls_of, known_of}
use Rattle.scr_discounts.specs.declared.known.CurrencyFalls.{CurrencyFalls}
use Rattle.scr_discounts.specs.declared.known.Rates.{Rates}
use Rattle.scr_discounts.proofs.FallRows.{kept-but}
use Rattle.scr_tree.specs.KeptRates.{AreKeptFor, keeps_rates}

module _ {Row X : Type 0} (name_of : Row → List ℕ) (f : Row → X) where
  -- a row in the place of one of its name that is the same for the map
  map-with_row : (new old : Row) (rows : List Row) → row_of name_of (name_of new) rows ≡ Some old → f new ≡ f old
      → map f (with_row name_of new rows) ≡ map f rows
  map-with_row new old [] found same = let no : None ≡ Some old = found in absurd (cc)
  map-with_row new old (row ∷ rows) found same =
      same_or_other (name_of new) (name_of row)
      (λ e. let is : Some row ≡ Some old = sym (row_of-here name_of (name_of new) row rows e) ∙ found in
      ap (map f) (with_row-here name_of new row rows e) ∙ ap (λ x. x ∷ map f rows) (same ∙ ap f (sym (cc))))
      (λ e. ap (map f) (with_row-later name_of new row rows e)
      ∙ ap (λ xs. f row ∷ xs) (map-with_row new old rows (sym (row_of-later name_of (name_of new) row rows e) ∙ found) same))

  -- a row changed so that its name stays and it is the same for the map
  map-changed : (change : Row → Row) (name : List ℕ) (rows : List Row)
      → ((row : Row) → name_of (change row) ≡ name_of row) → ((row : Row) → f (change row) ≡ f row)
      → map f (changed name_of change name rows) ≡ map f rows
  map-changed change name rows named same = by (row_of name_of name rows) refl
    where
      by : (found : Option Row) → row_of name_of name rows ≡ found
          → map f (option_map_or (λ row. with_row name_of (change row) rows) found rows) ≡ map f rows
      by None e = refl
      by (Some row) e =
          let own : name ≡ name_of (change row) = same_name-is name (name_of row) (name_of-row_of name_of name rows row e)
          ∙ sym (named row) in
          map-with_row (change row) row rows (ap (λ n. row_of name_of n rows) (sym own) ∙ e) (same row)

abbrev at_rates : Curve → CurrencyDiscounts
at_rates curve = discounts_at curve.rates

abbrev falls_by : Curve → CurrencyFalls
falls_by curve = falls_at curve.rates (discounts_at curve.rates)

falls-by : (curves : List Curve) → falls_of curves (map at_rates curves) ≡ map falls_by curves
falls-by [] = refl
falls-by (curve ∷ curves) = ap (λ (falls : List CurrencyFalls). falls_by curve ∷ falls) (falls-by curves)

-- what is the same for each map of curves by their rates
absorb-keeps : {X : Type 0} (f : List ℤ → X) (key : AbsorbKey) (cents : ℕ) (curves : List Curve)
    → map (λ (c : Curve). f c.rates) (with_absorb key cents curves) ≡ map (λ (c : Curve). f c.rates) curves
absorb-keeps f (absorb.CurrencyUp currency) cents curves =
    map-changed curve_name (λ (c : Curve). f c.rates) (λ c. record c { absorb_up = cents }) currency curves (λ c. refl) (λ c. refl)
absorb-keeps f (absorb.CurrencyDown currency) cents curves =
    map-changed curve_name (λ (c : Curve). f c.rates) (λ c. record c { absorb_down = cents }) currency curves (λ c. refl) (λ c. refl)
absorb-keeps f key cents curves = refl

-- what is known of rates, of its three parts
abbrev known : List CurrencyDiscounts → ℤ → List CurrencyFalls → KnownRates
known rows asof falls = record { rows = rows; asof = asof; falls = falls }

known-kept : (before after : BalanceSheet) → after.numbers.asof.number ≡ before.numbers.asof.number → map at_rates after.curves ≡ map at_rates before.curves
    → map falls_by after.curves ≡ map falls_by before.curves → all_rates after ≡ all_rates before
known-kept before after asof rows falls =
    let same : falls_of after.curves (map at_rates after.curves) ≡ falls_of before.curves (map at_rates before.curves) =
    falls-by after.curves ∙ falls ∙ sym (falls-by before.curves) in
    ap (λ (found : List CurrencyDiscounts). known found after.numbers.asof.number (falls_of after.curves (map at_rates after.curves))) rows
    ∙ ap (λ (day : ℤ). known (map at_rates before.curves) day (falls_of after.curves (map at_rates after.curves))) asof
    ∙ ap (known (map at_rates before.curves) before.numbers.asof.number) same

pub rates-kept : (edit : Edit) (sheet : BalanceSheet) → keeps_rates edit ≡ true
    → all_rates (applied edit sheet) ≡ all_rates sheet
unfolding discounts_at
rates-kept (edits.Asof date currency) sheet keeps = absurd (cc)
rates-kept (edits.Curve currency rates) sheet keeps = absurd (cc)
rates-kept (edits.Remove tables.Curve name) sheet keeps = absurd (cc)
rates-kept (edits.Remove table name) sheet keeps = refl
rates-kept (edits.Absorb key cents) sheet keeps =
    known-kept sheet (applied (edits.Absorb key cents) sheet) refl (absorb-keeps discounts_at key _ sheet.curves) (absorb-keeps (λ rates. falls_at rates (discounts_at rates)) key _ sheet.curves)
rates-kept edit sheet keeps = refl

-- the rates that are kept of the currencies whose curves the record leaves
pub kept-for : (edit : Edit) (before after : BalanceSheet) (kept : Rates) → after ≡ applied edit before
    → known_of kept ≡ all_rates before → AreKeptFor edit after kept
kept-for (edits.Curve currency rates) before after kept is same =
    let old = row_of curve_name currency before.curves in
    let new : Curve = record {
      currency = currency;
      rates = rates;
      absorb_up = option_map_or (λ c. c.absorb_up) old 0;
      absorb_down = option_map_or (λ c. c.absorb_down) old 0;
    } in
    subst (λ (sheet : BalanceSheet). AreKeptBut currency sheet.curves (rows_of kept.curves)) (sym is)
    (subst (AreKeptBut currency (with_row curve_name new before.curves)) (sym (ap (λ (k : KnownRates). k.rows) same))
    (kept-but before.curves new))
kept-for edit before after kept is same = tt
