-- Each record takes the step that is told of it.
use Rattle.std.proofs.Common.{◌≡◌, ℕ, ◌<◌, Bool, true, false, List, [], ◌∷◌, ◌++◌, Option, Some, None, length, map, refl, sym, ap, subst, ◌∙◌}
use Rattle.std.specs.List.{remove}
use Rattle.std.specs.Option.{option_map_or}
use Rattle.std.proofs.lemmas.Option.{slice_get_within}
use Rattle.scr_tables.specs.Tables.{has_row, row_of, with_row, without}
use Rattle.scr_tables.proofs.TableRows.{names-changed}
use Rattle.scr_ids.specs.declared.table.Table.{Table}
use Rattle.scr_ids.specs.declared.table.Table.TheVariants as tables
use Rattle.scr_sheet.specs.BalanceSheet.{curve_name, group_name, liability_name, position_name, stake_name}
use Rattle.scr_sheet.specs.CashFlows.{no_flows, with_flows}
use Rattle.scr_sheet.specs.Records.{applied, dropped, kept_flows, kept_hold, natural, with_absorb}
use Rattle.scr_sheet.specs.declared.{edit.Edit.Edit, keys.AbsorbKey.AbsorbKey, sheet.BalanceSheet.BalanceSheet, rows.Curve.Curve, rows.Group.Group, rows.Liability.Liability, rows.Position.Position, rows.Stake.Stake}
use Rattle.scr_sheet.specs.declared.keys.Table.{Table as SheetTable}
use Rattle.scr_sheet.specs.declared.edit.Edit.TheVariants as edits
use Rattle.scr_sheet.specs.declared.keys.AbsorbKey.TheVariants as absorb
use Rattle.scr_sheet.specs.declared.keys.Table.TheVariants as sheet_tables
use Rattle.scr_figure_ids.specs.Numbers.{names_in}
use Rattle.scr_figure_ids.specs.Records.{drop_step, gone_step, made_step, place_in, step_of}
use Rattle.scr_figure_ids.specs.Steps.{AreOthersKept, LeadsTo}
use Rattle.scr_figure_ids.proofs.RowNames.{names-less, names-more, names-replaced, placed-some}
use Rattle.scr_ids.proofs.Views.{of_all}

-- where only one table's rows may be others
all-same : (table : Table) (s t : BalanceSheet) → AreOthersKept table s t → names_in t table ≡ names_in s table
    → (any : Table) → names_in t any ≡ names_in s any
all-same table s t others same = of_all (λ any. names_in t any ≡ names_in s any) table same others

-- a row is made
module _ {Row : Type 0} (name_of : Row → List ℕ) (table : Table) (new : Row) (rows : List Row) (s t : BalanceSheet)
    (others : AreOthersKept table s t) (before : names_in s table ≡ map name_of rows)
    (after : names_in t table ≡ map name_of (with_row name_of new rows)) where
  pub made-leads : (there : Bool) → has_row name_of (name_of new) rows ≡ there → LeadsTo (made_step table there) s t
  made-leads true has = all-same table s t others (after ∙ names-replaced name_of new rows has ∙ sym before)
  made-leads false has = record {
    name = name_of new;
    rows = after ∙ names-more name_of new rows has ∙ ap (λ ns. ns ++ name_of new ∷ []) (sym before);
    others = others;
  }

-- a row is dropped
module _ {Row : Type 0} (name_of : Row → List ℕ) (table : Table) (name : List ℕ) (rows : List Row) (s t : BalanceSheet)
    (others : AreOthersKept table s t) (before : names_in s table ≡ map name_of rows)
    (after : names_in t table ≡ map name_of (without name_of name rows)) where
  pub dropped-leads : (place : Option ℕ) → place_in name (map name_of rows) ≡ place → LeadsTo (gone_step table place) s t
  dropped-leads None e =
      all-same table s t others (after ∙ names-less name_of name rows
      ∙ ap (λ p. option_map_or (λ k. remove (map name_of rows) k) p (map name_of rows)) e ∙ sym before)
  dropped-leads (Some k) e = record {
    place = subst (λ ns. k < length ns) (sym before)
        (slice_get_within (map name_of rows) k name (placed-some name (map name_of rows) k e));
    rows = after ∙ names-less name_of name rows
        ∙ ap (λ p. option_map_or (λ n. remove (map name_of rows) n) p (map name_of rows)) e ∙ ap (λ ns. remove ns k) (sym before);
    others = others;
  }

absorbed : (key : AbsorbKey) (cents : ℕ) (curves : List Curve) → map curve_name (with_absorb key cents curves) ≡ map curve_name curves
absorbed (absorb.CurrencyUp currency) cents curves =
    names-changed curve_name (λ c. record c { absorb_up = cents }) currency curves (λ c. refl)
absorbed (absorb.CurrencyDown currency) cents curves =
    names-changed curve_name (λ c. record c { absorb_down = cents }) currency curves (λ c. refl)
absorbed key cents curves = refl

-- the names of each table stay
same-tables : (s t : BalanceSheet) → map stake_name t.funds ≡ map stake_name s.funds
    → map position_name t.securities ≡ map position_name s.securities
    → map liability_name t.liabilities ≡ map liability_name s.liabilities
    → map group_name t.groups ≡ map group_name s.groups → map curve_name t.curves ≡ map curve_name s.curves
    → (table : Table) → names_in t table ≡ names_in s table
same-tables s t funds securities liabilities groups curves tables.Whole = refl
same-tables s t funds securities liabilities groups curves tables.Fund = funds
same-tables s t funds securities liabilities groups curves tables.Security = securities
same-tables s t funds securities liabilities groups curves tables.Liability = liabilities
same-tables s t funds securities liabilities groups curves tables.Group = groups
same-tables s t funds securities liabilities groups curves tables.Currency = curves
same-tables s t funds securities liabilities groups curves tables.Part = refl

others-funds : (s : BalanceSheet) (rows : List Stake) → AreOthersKept tables.Fund s (record s { funds = rows })
others-funds s rows tables.Fund f = absurd (cc)
others-funds s rows tables.Whole f = refl
others-funds s rows tables.Security f = refl
others-funds s rows tables.Liability f = refl
others-funds s rows tables.Group f = refl
others-funds s rows tables.Currency f = refl
others-funds s rows tables.Part f = refl

others-securities : (s : BalanceSheet) (rows : List Position) → AreOthersKept tables.Security s (record s { securities = rows })
others-securities s rows tables.Security f = absurd (cc)
others-securities s rows tables.Whole f = refl
others-securities s rows tables.Fund f = refl
others-securities s rows tables.Liability f = refl
others-securities s rows tables.Group f = refl
others-securities s rows tables.Currency f = refl
others-securities s rows tables.Part f = refl

others-liabilities : (s : BalanceSheet) (rows : List Liability) → AreOthersKept tables.Liability s (record s { liabilities = rows })
others-liabilities s rows tables.Liability f = absurd (cc)
others-liabilities s rows tables.Whole f = refl
others-liabilities s rows tables.Fund f = refl
others-liabilities s rows tables.Security f = refl
others-liabilities s rows tables.Group f = refl
others-liabilities s rows tables.Currency f = refl
others-liabilities s rows tables.Part f = refl

others-groups : (s : BalanceSheet) (rows : List Group) → AreOthersKept tables.Group s (record s { groups = rows })
others-groups s rows tables.Group f = absurd (cc)
others-groups s rows tables.Whole f = refl
others-groups s rows tables.Fund f = refl
others-groups s rows tables.Security f = refl
others-groups s rows tables.Liability f = refl
others-groups s rows tables.Currency f = refl
others-groups s rows tables.Part f = refl

others-curves : (s : BalanceSheet) (rows : List Curve) → AreOthersKept tables.Currency s (record s { curves = rows })
others-curves s rows tables.Currency f = absurd (cc)
others-curves s rows tables.Whole f = refl
others-curves s rows tables.Fund f = refl
others-curves s rows tables.Security f = refl
others-curves s rows tables.Liability f = refl
others-curves s rows tables.Group f = refl
others-curves s rows tables.Part f = refl

drop-leads : (table : SheetTable) (name : List ℕ) (s : BalanceSheet) → LeadsTo (drop_step table name s) s (dropped table name s)
drop-leads sheet_tables.Group name s =
    dropped-leads group_name tables.Group name s.groups s (dropped sheet_tables.Group name s)
    (others-groups s (without group_name name s.groups)) refl refl (place_in name (map group_name s.groups)) refl
drop-leads sheet_tables.Security name s =
    dropped-leads position_name tables.Security name s.securities s (dropped sheet_tables.Security name s)
    (others-securities s (without position_name name s.securities)) refl refl (place_in name (map position_name s.securities)) refl
drop-leads sheet_tables.Fund name s =
    dropped-leads stake_name tables.Fund name s.funds s (dropped sheet_tables.Fund name s)
    (others-funds s (without stake_name name s.funds)) refl refl (place_in name (map stake_name s.funds)) refl
drop-leads sheet_tables.Liability name s =
    dropped-leads liability_name tables.Liability name s.liabilities s (dropped sheet_tables.Liability name s)
    (others-liabilities s (without liability_name name s.liabilities)) refl refl (place_in name (map liability_name s.liabilities)) refl
drop-leads sheet_tables.Curve name s =
    dropped-leads curve_name tables.Currency name s.curves s (dropped sheet_tables.Curve name s)
    (others-curves s (without curve_name name s.curves)) refl refl (place_in name (map curve_name s.curves)) refl
drop-leads sheet_tables.Bank name s = same-tables s (dropped sheet_tables.Bank name s) refl refl refl refl refl
drop-leads sheet_tables.Rein name s = same-tables s (dropped sheet_tables.Rein name s) refl refl refl refl refl

pub record-leads : (edit : Edit) (s : BalanceSheet) → LeadsTo (step_of edit s) s (applied edit s)
record-leads (edits.Curve currency rates) s =
    let old = row_of curve_name currency s.curves in
    let new : Curve = record {
      currency = currency;
      rates = rates;
      absorb_up = option_map_or (λ c. c.absorb_up) old 0;
      absorb_down = option_map_or (λ c. c.absorb_down) old 0;
    } in
    made-leads curve_name tables.Currency new s.curves s (applied (edits.Curve currency rates) s)
    (others-curves s (with_row curve_name new s.curves)) refl refl (has_row curve_name currency s.curves) refl
record-leads (edits.Group name kind step) s =
    let new : Group = record { name = name; kind = kind; step = step } in
    made-leads group_name tables.Group new s.groups s (applied (edits.Group name kind step) s)
    (others-groups s (with_row group_name new s.groups)) refl refl (has_row group_name name s.groups) refl
record-leads (edits.Security name class group currency duration) s =
    let new : Position = record {
      security = record {
        name = name;
        class = class;
        group = group;
        currency = currency;
        duration = natural duration;
        flows = kept_flows name s.securities;
      };
      held = kept_hold name s.securities;
    } in
    made-leads position_name tables.Security new s.securities s (applied (edits.Security name class group currency duration) s)
    (others-securities s (with_row position_name new s.securities)) refl refl (has_row position_name name s.securities) refl
record-leads (edits.Fund name components) s =
    let new : Stake = record {
      fund = record { name = name; components = components };
      held = option_map_or (λ st. st.held) (row_of stake_name name s.funds) 0;
    } in
    made-leads stake_name tables.Fund new s.funds s (applied (edits.Fund name components) s)
    (others-funds s (with_row stake_name new s.funds)) refl refl (has_row stake_name name s.funds) refl
record-leads (edits.Liability name kind currency) s =
    let new : Liability = record {
      name = name;
      kind = kind;
      currency = currency;
      flows = option_map_or (λ l. l.flows) (row_of liability_name name s.liabilities) no_flows;
    } in
    made-leads liability_name tables.Liability new s.liabilities s (applied (edits.Liability name kind currency) s)
    (others-liabilities s (with_row liability_name new s.liabilities)) refl refl (has_row liability_name name s.liabilities) refl
record-leads (edits.Remove table name) s = drop-leads table name s
record-leads (edits.Flows security flows) s =
    same-tables s (applied (edits.Flows security flows) s) refl
    (names-changed position_name (λ p. record p { security = record p.security { flows = flows } }) security s.securities (λ p. refl))
    refl refl refl
record-leads (edits.Hold name cents) s =
    same-tables s (applied (edits.Hold name cents) s)
    (names-changed stake_name (λ st. record st { held = natural cents }) name s.funds (λ st. refl))
    (names-changed position_name (λ p. record p { held = natural cents }) name s.securities (λ p. refl))
    refl refl refl
record-leads (edits.LiabilityFlows liability projection flows) s =
    same-tables s (applied (edits.LiabilityFlows liability projection flows) s) refl refl
    (names-changed liability_name (λ l. record l { flows = with_flows projection flows l.flows }) liability s.liabilities (λ l. refl))
    refl refl
record-leads (edits.Absorb key cents) s =
    same-tables s (applied (edits.Absorb key cents) s) refl refl refl refl (absorbed key (natural cents) s.curves)
record-leads edit s = same-tables s (applied edit s) refl refl refl refl refl
