-- The balance sheet as a record would leave it (this project's own).
use Rattle.std.specs.Prelude.{ℕ, ℤ, pos, negsuc, ◌-◌, List, [], ◌∷◌, Option, Some, None, slice_set}
use Rattle.std.specs.List.{slice_index_or}
use Rattle.std.specs.Option.{option_map_or}
use Rattle.scr_dates.specs.declared.day.Day.{Day}
use Rattle.scr_tables.specs.Tables.{row_of, with_row, without, changed}
use Rattle.scr_sheet.specs.CashFlows.{with_flows, no_flows}
use Rattle.scr_sheet.specs.BalanceSheet.{group_name, position_name, liability_name, bank_name, rein_name, curve_name, stake_name}
use Rattle.scr_sheet.specs.declared.{sheet.BalanceSheet.BalanceSheet, edit.Edit.Edit, keys.Table.Table, keys.AbsorbKey.AbsorbKey, keys.CatKey.CatKey, rows.Curve.Curve, rows.Position.Position, rows.Stake.Stake}
use Rattle.scr_sheet.specs.declared.edit.Edit.TheVariants as edits
use Rattle.scr_profile.specs.declared.set.Set.{Set}
use Rattle.scr_profile.specs.declared.set.Set.TheVariants as sets
use Rattle.scr_sheet.specs.declared.keys.Table.TheVariants as tables
use Rattle.scr_sheet.specs.declared.keys.AbsorbKey.TheVariants as absorb
use Rattle.scr_sheet.specs.declared.keys.CatKey.TheVariants as cats

-- a number that is at least 0; one below 0 is a fault where none may be, so what stands for it here is never kept
abbrev pub natural : ℤ → ℕ
natural (pos n) = n
natural (negsuc n) = 0

-- ---- what the lists of keys stand for in the numbers

-- the place of a scenario's absorption, none for those of a currency, which stand with its curve
abbrev pub absorb_place : AbsorbKey → Option ℕ
absorb_place absorb.InterestUp = Some 0
absorb_place absorb.InterestDown = Some 1
absorb_place absorb.Equity = Some 2
absorb_place absorb.Property = Some 3
absorb_place absorb.Spread = Some 4
absorb_place absorb.Concentration = Some 5
absorb_place (absorb.CurrencyUp currency) = None
absorb_place (absorb.CurrencyDown currency) = None
absorb_place absorb.Default = Some 6
absorb_place absorb.LifeMortality = Some 7
absorb_place absorb.LifeLongevity = Some 8
absorb_place absorb.LifeDisability = Some 9
absorb_place absorb.LifeExpense = Some 10
absorb_place absorb.LifeRevision = Some 11
absorb_place absorb.LifeLapseUp = Some 12
absorb_place absorb.LifeLapseDown = Some 13
absorb_place absorb.LifeLapseMass = Some 14
absorb_place absorb.LifeCatastrophe = Some 15
absorb_place absorb.HealthMortality = Some 16
absorb_place absorb.HealthLongevity = Some 17
absorb_place absorb.HealthDisability = Some 18
absorb_place absorb.HealthExpense = Some 19
absorb_place absorb.HealthRevision = Some 20
absorb_place absorb.HealthLapseUp = Some 21
absorb_place absorb.HealthLapseDown = Some 22
absorb_place absorb.HealthLapseMass = Some 23
absorb_place absorb.HealthCatastrophe = Some 24

-- the place of a catastrophe charge of non-life
abbrev pub cat_place : CatKey → Option ℕ
cat_place cats.Windstorm = Some 0
cat_place cats.Earthquake = Some 1
cat_place cats.Flood = Some 2
cat_place cats.Hail = Some 3
cat_place cats.Subsidence = Some 4
cat_place cats.NonProportionalProperty = Some 5
cat_place cats.Motor = Some 6
cat_place cats.Marine = Some 7
cat_place cats.Aviation = Some 8
cat_place cats.Fire = Some 9
cat_place cats.Liability = Some 10
cat_place cats.Credit = Some 11
cat_place cats.Other = Some 12
cat_place key = None

-- the place of one of health
abbrev pub health_cat_place : CatKey → Option ℕ
health_cat_place cats.MassAccident = Some 0
health_cat_place cats.AccidentConcentration = Some 1
health_cat_place cats.Pandemic = Some 2
health_cat_place key = None

-- the amounts with this one, where it has a place among them
abbrev pub placed : Option ℕ → ℕ → List ℕ → List ℕ
placed place cents amounts = option_map_or (λ k. slice_set amounts k cents) place amounts

-- a segment with the volumes of one region, numbered from 1
abbrev pub with_region : ℕ → ℕ × ℕ → List (ℕ × ℕ) → List (ℕ × ℕ)
with_region region new segment = slice_set segment (region - 1) new

-- the segments with the volumes of one of them, numbered from 1, in one region
abbrev pub with_volumes : ℕ → ℕ → ℕ × ℕ → List (List (ℕ × ℕ)) → List (List (ℕ × ℕ))
with_volumes number region new segments = slice_set segments (number - 1) (with_region region new (slice_index_or segments (number - 1) []))

-- the volumes of `own` where they are those of the set of the record, which is `set`
abbrev pub with_segment : Set → Set → ℕ → ℕ → ℕ × ℕ → List (List (ℕ × ℕ)) → List (List (ℕ × ℕ))
with_segment sets.Nl sets.Nl number region new volumes = with_volumes number region new volumes
with_segment sets.Nslt sets.Nslt number region new volumes = with_volumes number region new volumes
with_segment own set number region new volumes = volumes

abbrev pub lapse_place : Set → ℕ
lapse_place sets.Nl = 0
lapse_place sets.Nslt = 1

-- ---- rows that keep something of the row that they replace

-- what a security promised before, nothing where it is new
abbrev pub kept_flows : List ℕ → List Position → List (Day × ℤ)
kept_flows name positions = option_map_or (λ p. p.security.flows) (row_of position_name name positions) []

-- what was held of it before, nothing where it is new
abbrev pub kept_hold : List ℕ → List Position → ℕ
kept_hold name positions = option_map_or (λ p. p.held) (row_of position_name name positions) 0

-- the funds with one more, or with other components in the place of its own; what is held of it stays
abbrev pub with_fund : List ℕ → List (List ℕ × ℤ) → List Stake → List Stake
with_fund name components funds =
    with_row stake_name (record {
      fund = record { name = name; components = components };
      held = option_map_or (λ s. s.held) (row_of stake_name name funds) 0;
    }) funds

-- ---- the sheet as the record would leave it

-- the curves with this absorption, where it is one of a currency
abbrev pub with_absorb : AbsorbKey → ℕ → List Curve → List Curve
with_absorb (absorb.CurrencyUp currency) cents curves = changed curve_name (λ c. record c { absorb_up = cents }) currency curves
with_absorb (absorb.CurrencyDown currency) cents curves = changed curve_name (λ c. record c { absorb_down = cents }) currency curves
with_absorb key cents curves = curves

-- the sheet without the row of this name in this table
abbrev pub dropped : Table → List ℕ → BalanceSheet → BalanceSheet
dropped tables.Group name sheet = record sheet { groups = without group_name name sheet.groups }
dropped tables.Security name sheet = record sheet { securities = without position_name name sheet.securities }
dropped tables.Fund name sheet = record sheet { funds = without stake_name name sheet.funds }
dropped tables.Liability name sheet = record sheet { liabilities = without liability_name name sheet.liabilities }
dropped tables.Bank name sheet = record sheet { banks = without bank_name name sheet.banks }
dropped tables.Rein name sheet = record sheet { reinsurers = without rein_name name sheet.reinsurers }
dropped tables.Curve name sheet = record sheet { curves = without curve_name name sheet.curves }

-- A row is made, last in its table, or replaced in its place. A replaced security keeps its flows and what is held of
-- it, a replaced fund what is held of it, a replaced liability its flows, a replaced curve its two absorptions.
abbrev pub applied : Edit → BalanceSheet → BalanceSheet
applied (edits.Asof date currency) sheet = record sheet { numbers = record sheet.numbers { asof = date; currency = currency } }
applied (edits.Curve currency rates) sheet =
    let old = row_of curve_name currency sheet.curves in
    record sheet { curves = with_row curve_name (record { currency = currency; rates = rates; absorb_up = option_map_or (λ c. c.absorb_up) old 0; absorb_down = option_map_or (λ c. c.absorb_down) old 0 }) sheet.curves }
applied (edits.Group name kind step) sheet = record sheet { groups = with_row group_name (record { name = name; kind = kind; step = step }) sheet.groups }
applied (edits.Security name class group currency duration) sheet =
    record sheet {
      securities = with_row position_name (record {
        security = record { name = name; class = class; group = group; currency = currency; duration = natural duration; flows = kept_flows name sheet.securities };
        held = kept_hold name sheet.securities;
      }) sheet.securities;
    }
applied (edits.Flows security flows) sheet =
    record sheet { securities = changed position_name (λ p. record p { security = record p.security { flows = flows } }) security sheet.securities }
applied (edits.Fund name components) sheet = record sheet { funds = with_fund name components sheet.funds }
applied (edits.Hold name cents) sheet =
    record sheet {
      securities = changed position_name (λ p. record p { held = natural cents }) name sheet.securities;
      funds = changed stake_name (λ s. record s { held = natural cents }) name sheet.funds;
    }
applied (edits.Liability name kind currency) sheet =
    record sheet {
      liabilities = with_row liability_name (record {
        name = name;
        kind = kind;
        currency = currency;
        flows = option_map_or (λ l. l.flows) (row_of liability_name name sheet.liabilities) no_flows;
      }) sheet.liabilities;
    }
applied (edits.LiabilityFlows liability projection flows) sheet = record sheet { liabilities = changed liability_name (λ l. record l { flows = with_flows projection flows l.flows }) liability sheet.liabilities }
applied (edits.Absorb key cents) sheet =
    record sheet {
      curves = with_absorb key (natural cents) sheet.curves;
      numbers = record sheet.numbers { absorb = placed (absorb_place key) (natural cents) sheet.numbers.absorb };
    }
applied (edits.Segment set number region premium reserve) sheet =
    let new : ℕ × ℕ = (natural premium, natural reserve) in
    record sheet {
      numbers = record sheet.numbers { nl = with_segment sets.Nl set number region new sheet.numbers.nl; nslt = with_segment sets.Nslt set number region new sheet.numbers.nslt };
    }
applied (edits.Cat key cents) sheet =
    record sheet {
      numbers = record sheet.numbers {
        cat = placed (cat_place key) (natural cents) sheet.numbers.cat;
        health_cat = placed (health_cat_place key) (natural cents) sheet.numbers.health_cat;
      };
    }
applied (edits.Lapse set cents) sheet = record sheet { numbers = record sheet.numbers { lapse = slice_set sheet.numbers.lapse (lapse_place set) (natural cents) } }
applied (edits.Rein name group recoverables mitigation collateral) sheet =
    record sheet {
      reinsurers = with_row rein_name (record {
        name = name;
        group = group;
        recoverables = natural recoverables;
        mitigation = natural mitigation;
        collateral = natural collateral;
      }) sheet.reinsurers;
    }
applied (edits.Bank name group cents) sheet = record sheet { banks = with_row bank_name (record { name = name; group = group; cents = natural cents }) sheet.banks }
applied (edits.Due overdue other) sheet = record sheet { numbers = record sheet.numbers { due = natural overdue ∷ natural other ∷ [] } }
applied (edits.Op tpl tpul tpn el eul pel peul en pen expul) sheet =
    record sheet {
      numbers = record sheet.numbers {
        provisions = tpl ∷ tpul ∷ tpn ∷ [];
        earned = natural el ∷ natural eul ∷ natural pel ∷ natural peul ∷ natural en ∷ natural pen ∷ natural expul ∷ [];
      };
    }
applied (edits.Sym millionths) sheet = record sheet { numbers = record sheet.numbers { sym = millionths } }
applied (edits.Tax millionths most) sheet = record sheet { numbers = record sheet.numbers { tax = natural millionths; cap = natural most } }
applied (edits.Fdb cents) sheet = record sheet { numbers = record sheet.numbers { fdb = natural cents } }
applied (edits.Intangible cents) sheet = record sheet { numbers = record sheet.numbers { intangible = natural cents } }
applied (edits.Remove table name) sheet = dropped table name sheet
