-- What a record exchanges (this project's own): one row of one table, the reference date with the reporting currency,
-- or the other single numbers.
use Rattle.std.specs.Prelude.{ℕ, ⊤, List, Option, Some, None}
use Rattle.std.specs.Option.{option_map, option_map_or}
use Rattle.scr_tables.specs.Tables.{row_of}
use Rattle.scr_sheet.specs.BalanceSheet.{group_name, position_name, stake_name, liability_name, bank_name, rein_name, curve_name, position_of, stake_of}
use Rattle.scr_sheet.specs.CashFlows.{with_flows, no_flows}
use Rattle.scr_sheet.specs.Records.{applied, absorb_place, placed, natural, kept_flows, kept_hold}
use Rattle.scr_sheet.specs.declared.edit.Edit.{Edit}
use Rattle.scr_sheet.specs.declared.edit.Edit.TheVariants as edits
use Rattle.scr_sheet.specs.declared.keys.AbsorbKey.{AbsorbKey}
use Rattle.scr_sheet.specs.declared.keys.AbsorbKey.TheVariants as absorb
use Rattle.scr_sheet.specs.declared.keys.Table.{Table}
use Rattle.scr_sheet.specs.declared.keys.Table.TheVariants as tables
use Rattle.scr_sheet.specs.declared.rows.Curve.{Curve}
use Rattle.scr_sheet.specs.declared.rows.Liability.{Liability}
use Rattle.scr_sheet.specs.declared.rows.Position.{Position}
use Rattle.scr_sheet.specs.declared.rows.Stake.{Stake}
use Rattle.scr_sheet.specs.declared.sheet.BalanceSheet.{BalanceSheet}
use Rattle.scr_row_change.specs.Exchanges.{exchanged, HasName}
use Rattle.scr_row_change.specs.declared.change.Change.{Change}
use Rattle.scr_row_change.specs.declared.change.Change.TheVariants as changes

-- the balance sheet after what is exchanged
abbrev pub after : Change → BalanceSheet → BalanceSheet
after (changes.Security name new) sheet =
    record sheet { securities = exchanged position_name name new sheet.securities }
after (changes.Fund name new) sheet = record sheet { funds = exchanged stake_name name new sheet.funds }
after (changes.Group name new) sheet = record sheet { groups = exchanged group_name name new sheet.groups }
after (changes.Bank name new) sheet = record sheet { banks = exchanged bank_name name new sheet.banks }
after (changes.Rein name new) sheet = record sheet { reinsurers = exchanged rein_name name new sheet.reinsurers }
after (changes.Liability name new) sheet =
    record sheet { liabilities = exchanged liability_name name new sheet.liabilities }
after (changes.Curve currency new) sheet = record sheet { curves = exchanged curve_name currency new sheet.curves }
after (changes.Asof date currency) sheet =
    record sheet { numbers = record sheet.numbers { asof = date; currency = currency } }
after (changes.Numbers numbers) sheet =
    record sheet { numbers = record numbers { asof = sheet.numbers.asof; currency = sheet.numbers.currency } }

-- a row that is put in has the name under which it is put in
abbrev pub IsNamed : Change → Type 0
IsNamed (changes.Security name new) = HasName position_name name new
IsNamed (changes.Fund name new) = HasName stake_name name new
IsNamed (changes.Group name new) = HasName group_name name new
IsNamed (changes.Bank name new) = HasName bank_name name new
IsNamed (changes.Rein name new) = HasName rein_name name new
IsNamed (changes.Liability name new) = HasName liability_name name new
IsNamed (changes.Curve currency new) = HasName curve_name currency new
IsNamed change = ⊤

-- what is held of a security, where one has the name, and else of a fund
abbrev pub hold_change : List ℕ → ℕ → Option Position → Option Stake → Change
hold_change name cents None stake = changes.Fund name (option_map (λ (s : Stake). record s { held = cents }) stake)
hold_change name cents (Some position) stake = changes.Security name (Some (record position { held = cents }))

-- an absorption of a currency stands with its curve
abbrev pub absorb_change : AbsorbKey → ℕ → BalanceSheet → Change
absorb_change (absorb.CurrencyUp currency) cents sheet =
    changes.Curve currency
    (option_map (λ (c : Curve). record c { absorb_up = cents }) (row_of curve_name currency sheet.curves))
absorb_change (absorb.CurrencyDown currency) cents sheet =
    changes.Curve currency
    (option_map (λ (c : Curve). record c { absorb_down = cents }) (row_of curve_name currency sheet.curves))
absorb_change key cents sheet =
    changes.Numbers (record sheet.numbers { absorb = placed (absorb_place key) cents sheet.numbers.absorb })

abbrev pub drop_change : Table → List ℕ → Change
drop_change tables.Group name = changes.Group name None
drop_change tables.Security name = changes.Security name None
drop_change tables.Fund name = changes.Fund name None
drop_change tables.Liability name = changes.Liability name None
drop_change tables.Bank name = changes.Bank name None
drop_change tables.Rein name = changes.Rein name None
drop_change tables.Curve name = changes.Curve name None

abbrev pub change_of : Edit → BalanceSheet → Change
change_of (edits.Asof date currency) sheet = changes.Asof date currency
change_of (edits.Curve currency rates) sheet =
    let old = row_of curve_name currency sheet.curves in
    changes.Curve currency (Some (record {
      currency = currency;
      rates = rates;
      absorb_up = option_map_or (λ c. c.absorb_up) old 0;
      absorb_down = option_map_or (λ c. c.absorb_down) old 0;
    }))
change_of (edits.Group name kind step) sheet =
    changes.Group name (Some (record { name = name; kind = kind; step = step }))
change_of (edits.Security name class group currency duration) sheet =
    changes.Security name (Some (record {
      security = record {
        name = name;
        class = class;
        group = group;
        currency = currency;
        duration = natural duration;
        flows = kept_flows name sheet.securities;
      };
      held = kept_hold name sheet.securities;
    }))
change_of (edits.Flows security flows) sheet =
    changes.Security security
    (option_map (λ (p : Position). record p { security = record p.security { flows = flows } })
    (position_of security sheet.securities))
change_of (edits.Fund name components) sheet =
    changes.Fund name (Some (record {
      fund = record { name = name; components = components };
      held = option_map_or (λ s. s.held) (stake_of name sheet.funds) 0;
    }))
change_of (edits.Hold name cents) sheet =
    hold_change name (natural cents) (position_of name sheet.securities) (stake_of name sheet.funds)
change_of (edits.Liability name kind currency) sheet =
    changes.Liability name (Some (record {
      name = name;
      kind = kind;
      currency = currency;
      flows = option_map_or (λ l. l.flows) (row_of liability_name name sheet.liabilities) no_flows;
    }))
change_of (edits.LiabilityFlows liability projection flows) sheet =
    changes.Liability liability
    (option_map (λ (l : Liability). record l { flows = with_flows projection flows l.flows })
    (row_of liability_name liability sheet.liabilities))
change_of (edits.Absorb key cents) sheet = absorb_change key (natural cents) sheet
change_of (edits.Rein name group recoverables mitigation collateral) sheet =
    changes.Rein name (Some (record {
      name = name;
      group = group;
      recoverables = natural recoverables;
      mitigation = natural mitigation;
      collateral = natural collateral;
    }))
change_of (edits.Bank name group cents) sheet =
    changes.Bank name (Some (record { name = name; group = group; cents = natural cents }))
change_of (edits.Remove table name) sheet = drop_change table name
change_of edit sheet = changes.Numbers (applied edit sheet).numbers
