-- A record as what it exchanges.
use Rattle.std.proofs.Common.{◌≡◌, ℕ, List, [], ◌∷◌, Option, Some, None, option_map, refl, sym, ap, ◌∙◌}
use Rattle.std.specs.Option.{option_map_or}
use Rattle.scr_tables.specs.Tables.{row_of, with_row, without, changed}
use Rattle.scr_tables.proofs.TableRows.{All-row_of, name_of-row_of, same_name-is, same_or_other, row_of-here, row_of-later, without-later}
use Rattle.scr_sheet.specs.BalanceSheet.{position_name, stake_name, liability_name, curve_name, position_of, stake_of}
use Rattle.scr_sheet.specs.CashFlows.{with_flows}
use Rattle.scr_sheet.specs.Records.{applied, natural}
use Rattle.scr_sheet.specs.Validity.{Valid}
use Rattle.scr_sheet.specs.declared.edit.Edit.{Edit}
use Rattle.scr_sheet.specs.declared.edit.Edit.TheVariants as edits
use Rattle.scr_sheet.specs.declared.keys.AbsorbKey.TheVariants as absorb
use Rattle.scr_sheet.specs.declared.keys.Table.TheVariants as tables
use Rattle.scr_sheet.specs.declared.rows.Position.{Position}
use Rattle.scr_sheet.specs.declared.sheet.BalanceSheet.{BalanceSheet}
use Rattle.scr_sheet.proofs.Holds.{no_fund}
use Rattle.scr_row_change.specs.Changes.{after, change_of, hold_change, IsNamed}
use Rattle.scr_row_change.specs.Exchanges.{exchanged, HasName}

module _ {Row : Type 0} (name_of : Row → List ℕ) where
  without-none : (name : List ℕ) (rows : List Row) → row_of name_of name rows ≡ None
      → without name_of name rows ≡ rows
  without-none name [] none = refl
  without-none name (row ∷ rows) none =
      same_or_other name (name_of row)
      (λ e. let never : Some row ≡ None = sym (row_of-here name_of name row rows e) ∙ none in absurd (cc))
      (λ e. without-later name_of name row rows e
      ∙ ap (λ rs. row ∷ rs) (without-none name rows (sym (row_of-later name_of name row rows e) ∙ none)))

  -- a row changed in its place is the row exchanged
  as-exchanged : (change : Row → Row) (name : List ℕ) (rows : List Row)
      → changed name_of change name rows
      ≡ exchanged name_of name (option_map change (row_of name_of name rows)) rows
  as-exchanged change name rows = by (row_of name_of name rows) refl
    where
      by : (found : Option Row) → row_of name_of name rows ≡ found
          → option_map_or (λ row. with_row name_of (change row) rows) found rows
          ≡ exchanged name_of name (option_map change found) rows
      by None e = sym (without-none name rows e)
      by (Some row) e = refl

  unchanged : (change : Row → Row) (name : List ℕ) (rows : List Row) → row_of name_of name rows ≡ None
      → changed name_of change name rows ≡ rows
  unchanged change name rows none =
      ap (λ found. option_map_or (λ row. with_row name_of (change row) rows) found rows) none

  -- and keeps its name
  named-changed : (change : Row → Row) → ((row : Row) → name_of (change row) ≡ name_of row)
      → (name : List ℕ) (rows : List Row)
      → HasName name_of name (option_map change (row_of name_of name rows))
  named-changed change keeps name rows = by (row_of name_of name rows) refl
    where
      by : (found : Option Row) → row_of name_of name rows ≡ found → HasName name_of name (option_map change found)
      by None e = tt
      by (Some row) e = keeps row ∙ sym (same_name-is name (name_of row) (name_of-row_of name_of name rows row e))

module _ (sheet : BalanceSheet) (name : List ℕ) (cents : ℕ) where
  abbrev held : BalanceSheet
  held = record sheet {
    securities = changed position_name (λ p. record p { held = cents }) name sheet.securities;
    funds = changed stake_name (λ s. record s { held = cents }) name sheet.funds;
  }

  -- what is held is a security's or a fund's, and never both
  hold-exchanged : Valid sheet
      → held ≡ after (hold_change name cents (position_of name sheet.securities) (stake_of name sheet.funds)) sheet
  hold-exchanged valid = by (position_of name sheet.securities) refl
    where
      by : (found : Option Position) → position_of name sheet.securities ≡ found
          → held ≡ after (hold_change name cents found (stake_of name sheet.funds)) sheet
      by None e =
          λ i. record sheet {
            securities = unchanged position_name (λ p. record p { held = cents }) name sheet.securities e i;
            funds = as-exchanged stake_name (λ s. record s { held = cents }) name sheet.funds i;
          }
      by (Some p) e =
          let with_held : Position → List Position =
          λ q. with_row position_name (record q { held = cents }) sheet.securities in
          let none : stake_of (position_name p) sheet.funds ≡ None =
          All-row_of position_name (λ q. stake_of (position_name q) sheet.funds ≡ None) name sheet.securities p e
          (no_fund sheet valid.named_once) in
          let one : name ≡ position_name p =
          same_name-is name (position_name p) (name_of-row_of position_name name sheet.securities p e) in
          let none_here : stake_of name sheet.funds ≡ None = ap (λ n. stake_of n sheet.funds) one ∙ none in
          λ i. record sheet {
            securities = ap (λ it. option_map_or with_held it sheet.securities) e i;
            funds = unchanged stake_name (λ s. record s { held = cents }) name sheet.funds none_here i;
          }

  hold-named : IsNamed (hold_change name cents (position_of name sheet.securities) (stake_of name sheet.funds))
  hold-named = by (position_of name sheet.securities) refl
    where
      by : (found : Option Position) → position_of name sheet.securities ≡ found
          → IsNamed (hold_change name cents found (stake_of name sheet.funds))
      by None e = named-changed stake_name (λ s. record s { held = cents }) (λ s. refl) name sheet.funds
      by (Some p) e = sym (same_name-is name (position_name p) (name_of-row_of position_name name sheet.securities p e))

pub as-change : (edit : Edit) (sheet : BalanceSheet) → Valid sheet
    → applied edit sheet ≡ after (change_of edit sheet) sheet
as-change (edits.Flows security flows) sheet valid =
    ap (λ rows. record sheet { securities = rows })
    (as-exchanged position_name (λ p. record p { security = record p.security { flows = flows } }) security
    sheet.securities)
as-change (edits.LiabilityFlows liability projection flows) sheet valid =
    ap (λ rows. record sheet { liabilities = rows })
    (as-exchanged liability_name (λ l. record l { flows = with_flows projection flows l.flows }) liability
    sheet.liabilities)
as-change (edits.Absorb (absorb.CurrencyUp currency) cents) sheet valid =
    ap (λ rows. record sheet { curves = rows })
    (as-exchanged curve_name (λ c. record c { absorb_up = natural cents }) currency sheet.curves)
as-change (edits.Absorb (absorb.CurrencyDown currency) cents) sheet valid =
    ap (λ rows. record sheet { curves = rows })
    (as-exchanged curve_name (λ c. record c { absorb_down = natural cents }) currency sheet.curves)
as-change (edits.Absorb key cents) sheet valid = refl
as-change (edits.Hold name cents) sheet valid = hold-exchanged sheet name (natural cents) valid
as-change (edits.Remove tables.Group name) sheet valid = refl
as-change (edits.Remove tables.Security name) sheet valid = refl
as-change (edits.Remove tables.Fund name) sheet valid = refl
as-change (edits.Remove tables.Liability name) sheet valid = refl
as-change (edits.Remove tables.Bank name) sheet valid = refl
as-change (edits.Remove tables.Rein name) sheet valid = refl
as-change (edits.Remove tables.Curve name) sheet valid = refl
as-change edit sheet valid = refl

pub named-change : (edit : Edit) (sheet : BalanceSheet) → IsNamed (change_of edit sheet)
named-change (edits.Flows security flows) sheet =
    named-changed position_name (λ p. record p { security = record p.security { flows = flows } }) (λ p. refl) security
    sheet.securities
named-change (edits.LiabilityFlows liability projection flows) sheet =
    named-changed liability_name (λ l. record l { flows = with_flows projection flows l.flows }) (λ l. refl) liability
    sheet.liabilities
named-change (edits.Absorb (absorb.CurrencyUp currency) cents) sheet =
    named-changed curve_name (λ c. record c { absorb_up = natural cents }) (λ c. refl) currency sheet.curves
named-change (edits.Absorb (absorb.CurrencyDown currency) cents) sheet =
    named-changed curve_name (λ c. record c { absorb_down = natural cents }) (λ c. refl) currency sheet.curves
named-change (edits.Absorb key cents) sheet = tt
named-change (edits.Hold name cents) sheet = hold-named sheet name (natural cents)
named-change (edits.Remove tables.Group name) sheet = tt
named-change (edits.Remove tables.Security name) sheet = tt
named-change (edits.Remove tables.Fund name) sheet = tt
named-change (edits.Remove tables.Liability name) sheet = tt
named-change (edits.Remove tables.Bank name) sheet = tt
named-change (edits.Remove tables.Rein name) sheet = tt
named-change (edits.Remove tables.Curve name) sheet = tt
named-change (edits.Asof date currency) sheet = tt
named-change (edits.Curve currency rates) sheet = refl
named-change (edits.Group name kind step) sheet = refl
named-change (edits.Security name class group currency duration) sheet = refl
named-change (edits.Fund name components) sheet = refl
named-change (edits.Liability name kind currency) sheet = refl
named-change (edits.Rein name group recoverables mitigation collateral) sheet = refl
named-change (edits.Bank name group cents) sheet = refl
named-change edit sheet = tt
