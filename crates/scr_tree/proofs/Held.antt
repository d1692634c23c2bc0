-- Who holds a fund or a security, no record changes but that of a fund. One that comes or goes nobody holds.
use Rattle.std.proofs.Common.{◌≡◌, ◌||◌, Bool, true, false, cond, Option, Some, None, List, [], ◌∷◌, filter, map, refl, sym, ap, ap₂, subst, ◌∙◌, ℕ, ℤ}
use Rattle.std.specs.Prelude.{is_some}
use Rattle.std.specs.List.{AllByRecursion, list_any}
use Rattle.std.specs.Option.{option_map_or}
use Rattle.std.proofs.lemmas.Bool.{not-true}
use Rattle.scr_tables.specs.Names.{same_name}
use Rattle.scr_tables.specs.Tables.{changed, has_row, row_of, with_row}
use Rattle.scr_tables.proofs.TableRows.{All-row_of, name_of-row_of, row_of-here, row_of-later, same_name-is, same_or_other, with_row-here, with_row-later}
use Rattle.scr_sheet.specs.BalanceSheet.{position_name, stake_name, stake_of}
use Rattle.scr_sheet.specs.Records.{applied, natural}
use Rattle.scr_sheet.specs.Validity.{IsHeld, Valid}
use Rattle.scr_sheet.specs.declared.edit.Edit.{Edit}
use Rattle.scr_sheet.specs.declared.edit.Edit.TheVariants as edits
use Rattle.scr_sheet.specs.declared.keys.Table.TheVariants as tables
use Rattle.scr_sheet.specs.declared.rows.{Fund.Fund, Position.Position, Stake.Stake}
use Rattle.scr_sheet.specs.declared.sheet.BalanceSheet.{BalanceSheet}
use Rattle.scr_sheet.proofs.Holds.{no_fund}
use Rattle.scr_nodes.specs.Live.{is_live}
use Rattle.scr_nodes.specs.Rows.{holders, holds, is_component}
use Rattle.scr_nodes.specs.Sources.{fund_total, sources_of}
use Rattle.scr_nodes.specs.declared.node.Node.{Node}
use Rattle.scr_nodes.specs.declared.node.Node.TheVariants as nodes
use Rattle.scr_nodes.specs.declared.node.OfFund.TheVariants as of_funds
use Rattle.scr_nodes.specs.declared.node.OfSecurity.TheVariants as of_securities
use Rattle.scr_tree.specs.Points.{is_linked}
use Rattle.scr_tree.specs.Starts.{is_of_fund, keeps_links}

-- ---- the same funds, whatever is held of them

abbrev fund_of : Stake → Fund
fund_of stake = stake.fund

abbrev AreSameFunds : List Stake → List Stake → Type 0
AreSameFunds one other = map fund_of one ≡ map fund_of other

put-same : (new : Stake) (rows : List Stake) (row : Stake) → row_of stake_name (stake_name new) rows ≡ Some row → new.fund ≡ row.fund
    → AreSameFunds (with_row stake_name new rows) rows
put-same new [] row is same = absurd (let clash : None ≡ Some row = is in cc)
put-same new (first ∷ rows) row is same =
    same_or_other (stake_name new) (stake_name first)
    (λ e.
    let both : Some first ≡ Some row = sym (row_of-here stake_name (stake_name new) first rows e) ∙ is in
    let one : first ≡ row = cc in
    ap (map fund_of) (with_row-here stake_name new first rows e) ∙ ap (λ fund. fund ∷ map fund_of rows) (same ∙ ap fund_of (sym one)))
    (λ e.
    ap (map fund_of) (with_row-later stake_name new first rows e)
    ∙ ap (λ funds. first.fund ∷ funds)
    (put-same new rows row (sym (row_of-later stake_name (stake_name new) first rows e) ∙ is) same))

held-same : (change : Stake → Stake) → ((stake : Stake) → (change stake).fund ≡ stake.fund) → (name : List ℕ) (rows : List Stake)
    → AreSameFunds (changed stake_name change name rows) rows
held-same change same name rows = by (row_of stake_name name rows) refl
  where
    by : (found : Option Stake) → row_of stake_name name rows ≡ found
        → AreSameFunds (option_map_or (λ row. with_row stake_name (change row) rows) found rows) rows
    by None e = refl
    by (Some row) e =
        let own : name ≡ stake_name row = same_name-is name (stake_name row) (name_of-row_of stake_name name rows row e) in
        let named : stake_name (change row) ≡ name = ap (λ (fund : Fund). fund.name) (same row) ∙ sym own in
        put-same (change row) rows row (ap (λ n. row_of stake_name n rows) named ∙ e) (same row)

funds-same : (edit : Edit) (sheet : BalanceSheet) → is_of_fund edit ≡ false → AreSameFunds (applied edit sheet).funds sheet.funds
funds-same (edits.Fund name components) sheet e = absurd (cc)
funds-same (edits.Remove tables.Fund name) sheet e = absurd (cc)
funds-same (edits.Remove table name) sheet e = refl
funds-same (edits.Hold name cents) sheet e = held-same (λ s. record s { held = natural cents }) (λ stake. refl) name sheet.funds
funds-same edit sheet e = refl

-- ---- what follows of the same funds

abbrev total_of : Fund → Node
total_of fund = nodes.Fund fund.name of_funds.Total

abbrev has_component : List ℕ → Fund → Bool
has_component name fund = list_any (is_component name) fund.components

totals-chosen : (name : List ℕ) (rows : List Stake)
    → map fund_total (filter (holds name) rows) ≡ map total_of (filter (has_component name) (map fund_of rows))
totals-chosen name [] = refl
totals-chosen name (row ∷ rows) = by (holds name row) (totals-chosen name rows)
  where
    by : (t : Bool) → map fund_total (filter (holds name) rows) ≡ map total_of (filter (has_component name) (map fund_of rows))
        → map fund_total (cond t (row ∷ filter (holds name) rows) (filter (holds name) rows))
        ≡ map total_of (cond t (fund_of row ∷ filter (has_component name) (map fund_of rows)) (filter (has_component name) (map fund_of rows)))
    by true rest = ap (λ list. fund_total row ∷ list) rest
    by false rest = rest

holders-same : (name : List ℕ) (one other : List Stake) → AreSameFunds one other
    → map fund_total (filter (holds name) one) ≡ map fund_total (filter (holds name) other)
holders-same name one other same =
    totals-chosen name one ∙ ap (λ funds. map total_of (filter (has_component name) funds)) same ∙ sym (totals-chosen name other)

named-chosen : (name : List ℕ) (rows : List Stake)
    → has_row stake_name name rows ≡ list_any (λ (fund : Fund). same_name name fund.name) (map fund_of rows)
named-chosen name [] = refl
named-chosen name (row ∷ rows) = by (same_name name (stake_name row)) (named-chosen name rows)
  where
    by : (t : Bool) → has_row stake_name name rows ≡ list_any (λ (fund : Fund). same_name name fund.name) (map fund_of rows)
        → is_some (cond t (Some row) (row_of stake_name name rows)) ≡ (t || list_any (λ (fund : Fund). same_name name fund.name) (map fund_of rows))
    by true rest = refl
    by false rest = rest

has-same : (name : List ℕ) (one other : List Stake) → AreSameFunds one other → has_row stake_name name one ≡ has_row stake_name name other
has-same name one other same =
    named-chosen name one ∙ ap (list_any (λ (fund : Fund). same_name name fund.name)) same ∙ sym (named-chosen name other)

-- ---- what is not there nobody holds

module _ (sheet : BalanceSheet) (name : List ℕ) (no_row : has_row position_name name sheet.securities ≡ false)
    (no_stake : has_row stake_name name sheet.funds ≡ false) where
  not-held : (components : List (List ℕ × ℤ)) → AllByRecursion (λ c. IsHeld sheet c.0) components
      → list_any (is_component name) components ≡ false
  not-held [] all = refl
  not-held (c ∷ components) all =
      same_or_other name c.0
      (λ e.
      let is : name ≡ c.0 = same_name-is name c.0 e in
      let there : (has_row position_name name sheet.securities || has_row stake_name name sheet.funds) ≡ true = subst (IsHeld sheet) (sym is) all.0 in
      let clash : false ≡ true = sym (ap₂ (λ (a b : Bool). a || b) no_row no_stake) ∙ there in absurd (cc))
      (λ e. ap (λ t. t || list_any (is_component name) components) e ∙ not-held components all.1)

  no-holders : (rows : List Stake) → AllByRecursion (λ (s : Stake). AllByRecursion (λ c. IsHeld sheet c.0) s.fund.components) rows
      → filter (holds name) rows ≡ []
  no-holders [] all = refl
  no-holders (row ∷ rows) all =
      ap (λ t. cond t (row ∷ filter (holds name) rows) (filter (holds name) rows)) (not-held row.fund.components all.0) ∙ no-holders rows all.1

  pub nobody : Valid sheet → map fund_total (holders name sheet) ≡ []
  nobody valid = ap (map fund_total) (no-holders sheet.funds valid.known.components)

-- a security's name is no fund's
no-stake : (sheet : BalanceSheet) → Valid sheet → (name : List ℕ) → has_row position_name name sheet.securities ≡ true
    → has_row stake_name name sheet.funds ≡ false
no-stake sheet valid name has = by (row_of position_name name sheet.securities) refl
  where
    by : (found : Option Position) → row_of position_name name sheet.securities ≡ found → has_row stake_name name sheet.funds ≡ false
    by None e = absurd (let clash : false ≡ true = sym (ap is_some e) ∙ has in cc)
    by (Some row) e =
        let none : stake_of (position_name row) sheet.funds ≡ None =
        All-row_of position_name (λ p. stake_of (position_name p) sheet.funds ≡ None) name sheet.securities row e (no_fund sheet valid.named_once) in
        let own : name ≡ position_name row = same_name-is name (position_name row) (name_of-row_of position_name name sheet.securities row e) in
        ap (λ n. has_row stake_name n sheet.funds) own ∙ ap is_some none

-- ---- the figures of which a record keeps the links

module _ (edit : Edit) (sheet : BalanceSheet) where
  pub holders-kept : (node : Node) → is_linked node ≡ true → keeps_links edit node ≡ true → sources_of (applied edit sheet) node ≡ sources_of sheet node
  holders-kept (nodes.Fund name of_funds.Total) linked keeps =
      holders-same name (applied edit sheet).funds sheet.funds (funds-same edit sheet (not-true (is_of_fund edit) keeps))
  holders-kept (nodes.Security name of_securities.Total) linked keeps =
      holders-same name (applied edit sheet).funds sheet.funds (funds-same edit sheet (not-true (is_of_fund edit) keeps))
  holders-kept node linked keeps = absurd (cc)

  module _ (valid : Valid sheet) (later : Valid (applied edit sheet)) where
    -- one that goes
    pub gone-held : (node : Node) → is_linked node ≡ true → keeps_links edit node ≡ true → is_live sheet node ≡ true
        → is_live (applied edit sheet) node ≡ false → sources_of (applied edit sheet) node ≡ []
    gone-held (nodes.Fund name of_funds.Total) linked keeps live dead =
        let same = has-same name (applied edit sheet).funds sheet.funds (funds-same edit sheet (not-true (is_of_fund edit) keeps)) in
        let clash : false ≡ true = sym dead ∙ same ∙ live in absurd (cc)
    gone-held (nodes.Security name of_securities.Total) linked keeps live dead =
        let same = has-same name (applied edit sheet).funds sheet.funds (funds-same edit sheet (not-true (is_of_fund edit) keeps)) in
        nobody (applied edit sheet) name dead (same ∙ no-stake sheet valid name live) later
    gone-held node linked keeps live dead = absurd (cc)

    -- one that comes
    pub new-held : (node : Node) → is_linked node ≡ true → keeps_links edit node ≡ true → is_live sheet node ≡ false
        → is_live (applied edit sheet) node ≡ true → sources_of sheet node ≡ []
    new-held (nodes.Fund name of_funds.Total) linked keeps dead live =
        let same = has-same name (applied edit sheet).funds sheet.funds (funds-same edit sheet (not-true (is_of_fund edit) keeps)) in
        let clash : false ≡ true = sym dead ∙ sym same ∙ live in absurd (cc)
    new-held (nodes.Security name of_securities.Total) linked keeps dead live =
        let same = has-same name (applied edit sheet).funds sheet.funds (funds-same edit sheet (not-true (is_of_fund edit) keeps)) in
        nobody sheet name dead (sym same ∙ no-stake (applied edit sheet) later name live) valid
    new-held node linked keeps dead live = absurd (cc)
