-- What stood in a sheet leads back to it from what a record leaves.
use Rattle.std.proofs.Common.{◌≡◌, ℕ, ℤ, true, List, Option, Some, None, refl, sym, ap, ◌∙◌, arith}
use Rattle.std.specs.Option.{option_map_or}
use Rattle.scr_tables.specs.Pasts.{restored, HasPlace, LeadsBack as RowsLeadBack}
use Rattle.scr_tables.specs.Tables.{row_of, has_row, with_row, changed}
use Rattle.scr_tables.proofs.PastRows.{missing}
use Rattle.scr_tables.proofs.TableRows.{same_name-is, name_of-row_of}
use Rattle.scr_tables.specs.declared.past.Past.{Past}
use Rattle.scr_sheet.specs.BalanceSheet.{position_name, liability_name, curve_name, stake_name}
use Rattle.scr_sheet.specs.Earlier.{with_earlier, FitsIn, LeadsBack}
use Rattle.scr_sheet.specs.Records.{natural}
use Rattle.scr_sheet.specs.Validity.{Valid}
use Rattle.scr_sheet.specs.declared.earlier.Earlier.TheVariants as earlier
use Rattle.scr_sheet.specs.declared.edit.Edit.TheVariants as edits
use Rattle.scr_sheet.specs.declared.keys.AbsorbKey.TheVariants as absorb
use Rattle.scr_sheet.specs.declared.{rows.Curve.Curve, rows.Liability.Liability, rows.Position.Position, rows.Stake.Stake, sheet.BalanceSheet.BalanceSheet}
use Rattle.scr_sheet.proofs.Sums.{in_one_table}

-- where no row has the name, a change of it leaves the rows
still : {Row : Type 0} (name_of : Row → List ℕ) (change : Row → Row) (name : List ℕ) (rows : List Row) → row_of name_of name rows ≡ None → changed name_of change name rows ≡ rows
still name_of change name rows none = ap (λ o. option_map_or (λ row. with_row name_of (change row) rows) o rows) none

-- a row changed so that its name stays
back-changed : {Row : Type 0} (name_of : Row → List ℕ) (change : Row → Row) (name : List ℕ) (past : Past Row) (rows : List Row) → ((row : Row) → name_of (change row) ≡ name_of row) → RowsLeadBack name_of name past rows
    → (restored name_of past (changed name_of change name rows) ≡ rows) × HasPlace name_of past (changed name_of change name rows)
back-changed {Row} name_of change name past rows named back = by (row_of name_of name rows) refl
  where
    by : (found : Option Row) → row_of name_of name rows ≡ found → let after = option_map_or (λ row. with_row name_of (change row) rows) found rows in
        (restored name_of past after ≡ rows) × HasPlace name_of past after
    by None e = back.still
    by (Some row) e = back.put (change row) (named row ∙ sym (same_name-is name (name_of row) (name_of-row_of name_of name rows row e)))

module _ (sheet : BalanceSheet) where
  pub back-securities : (name : List ℕ) (past : Past Position) (change : Position → Position) → ((p : Position) → position_name (change p) ≡ position_name p) → RowsLeadBack position_name name past sheet.securities
      → let after : BalanceSheet = record sheet { securities = changed position_name change name sheet.securities } in (with_earlier (earlier.Securities past) after ≡ sheet) × FitsIn (earlier.Securities past) after
  back-securities name past change named back =
      let rows = back-changed position_name change name past sheet.securities named back in
      (ap (λ rs. record sheet { securities = rs }) rows.0, rows.1)

  pub back-liabilities : (name : List ℕ) (past : Past Liability) (change : Liability → Liability) → ((l : Liability) → liability_name (change l) ≡ liability_name l) → RowsLeadBack liability_name name past sheet.liabilities
      → let after : BalanceSheet = record sheet { liabilities = changed liability_name change name sheet.liabilities } in (with_earlier (earlier.Liabilities past) after ≡ sheet) × FitsIn (earlier.Liabilities past) after
  back-liabilities name past change named back =
      let rows = back-changed liability_name change name past sheet.liabilities named back in
      (ap (λ rs. record sheet { liabilities = rs }) rows.0, rows.1)

  -- a hold, where no security has the name
  pub back-hold_fund : (name : List ℕ) (cents : ℤ) (past : Past Stake) → row_of position_name name sheet.securities ≡ None → RowsLeadBack stake_name name past sheet.funds → LeadsBack (earlier.Funds past) (edits.Hold name cents) sheet
  back-hold_fund name cents past none back =
      let held : Stake → Stake = λ s. record s { held = natural cents } in
      let rows = back-changed stake_name held name past sheet.funds (λ s. refl) back in
      record {
        back = (λ i. record sheet { securities = still position_name (λ p. record p { held = natural cents }) name sheet.securities none i; funds = rows.0 i });
        fits = rows.1;
      }

  -- and where no fund has it
  pub back-hold_security : (name : List ℕ) (cents : ℤ) (past : Past Position) → row_of stake_name name sheet.funds ≡ None → RowsLeadBack position_name name past sheet.securities → LeadsBack (earlier.Securities past) (edits.Hold name cents) sheet
  back-hold_security name cents past none back =
      let held : Position → Position = λ p. record p { held = natural cents } in
      let rows = back-changed position_name held name past sheet.securities (λ p. refl) back in
      record {
        back = (λ i. record sheet { securities = rows.0 i; funds = still stake_name (λ s. record s { held = natural cents }) name sheet.funds none i });
        fits = rows.1;
      }

  -- a fund of the name leaves none among the securities
  pub no_security : Valid sheet → (name : List ℕ) → has_row stake_name name sheet.funds ≡ true → row_of position_name name sheet.securities ≡ None
  no_security valid name has =
      let once = in_one_table sheet valid name in
      missing (row_of position_name name sheet.securities) (grind (arith, has, once))

  pub back-absorb_up : (currency : List ℕ) (cents : ℤ) (past : Past Curve) → RowsLeadBack curve_name currency past sheet.curves → LeadsBack (earlier.Curves past) (edits.Absorb (absorb.CurrencyUp currency) cents) sheet
  back-absorb_up currency cents past back =
      let rows = back-changed curve_name (λ c. record c { absorb_up = natural cents }) currency past sheet.curves (λ c. refl) back in
      record { back = ap (λ rs. record sheet { curves = rs }) rows.0; fits = rows.1 }

  pub back-absorb_down : (currency : List ℕ) (cents : ℤ) (past : Past Curve) → RowsLeadBack curve_name currency past sheet.curves → LeadsBack (earlier.Curves past) (edits.Absorb (absorb.CurrencyDown currency) cents) sheet
  back-absorb_down currency cents past back =
      let rows = back-changed curve_name (λ c. record c { absorb_down = natural cents }) currency past sheet.curves (λ c. refl) back in
      record { back = ap (λ rs. record sheet { curves = rs }) rows.0; fits = rows.1 }
