-- What is read of a balance sheet (this project's own): its tables, each as the list of its rows in the order in which their
-- names first came, and the single numbers.
use Rattle.std.specs.Prelude.{ℕ, ℤ, pos, ◌+◌, ◌++◌, ◌||◌, Bool, List, [], ◌∷◌, Option, map, length, max, replicate, sum_by}
use Rattle.std.specs.Option.{option_map_or}
use Rattle.scr_tables.specs.Tables.{row_of, has_row}
use Rattle.scr_sheet.specs.CashFlows.{total, flows_under, greatest_years, all_projections}
use Rattle.scr_profile.specs.declared.set.Set.{Set}
use Rattle.scr_profile.specs.declared.set.Set.TheVariants as sets
use Rattle.scr_sheet.specs.declared.{keys.Table.Table, keys.Projection.Projection, rows.Group.Group, rows.Position.Position, rows.Stake.Stake, rows.Liability.Liability, rows.Bank.Bank, rows.Rein.Rein, rows.Curve.Curve, numbers.Numbers.Numbers, sheet.BalanceSheet.BalanceSheet}
use Rattle.scr_sheet.specs.declared.keys.Table.TheVariants as tables

-- ---- the sheet before the first record

-- the letters EUR
abbrev pub euro : List ℕ
euro = 69 ∷ 85 ∷ 82 ∷ []

-- a segment without volumes
abbrev pub no_volumes : List (ℕ × ℕ)
no_volumes = replicate 18 (0, 0)

-- every number is 0, the reference date is 1 January 2000 and the reporting currency the euro
abbrev pub opening_numbers : Numbers
opening_numbers = record {
  asof = record { number = pos 10_957 };
  currency = euro;
  absorb = replicate 25 0;
  nl = replicate 12 no_volumes;
  nslt = replicate 4 no_volumes;
  cat = replicate 13 0;
  health_cat = replicate 3 0;
  lapse = replicate 2 0;
  due = replicate 2 0;
  provisions = replicate 3 (pos 0);
  earned = replicate 7 0;
  sym = pos 0;
  tax = 0;
  cap = 0;
  fdb = 0;
  intangible = 0;
}

-- one curve, the euro's with the single rate 0, and nothing else
abbrev pub opening : BalanceSheet
opening = record {
  groups = [];
  securities = [];
  funds = [];
  liabilities = [];
  banks = [];
  reinsurers = [];
  curves = record { currency = euro; rates = pos 0 ∷ []; absorb_up = 0; absorb_down = 0 } ∷ [];
  numbers = opening_numbers;
}

-- ---- look-ups

abbrev pub group_name : Group → List ℕ
group_name group = group.name

abbrev pub position_name : Position → List ℕ
position_name position = position.security.name

abbrev pub stake_name : Stake → List ℕ
stake_name stake = stake.fund.name

abbrev pub liability_name : Liability → List ℕ
liability_name liability = liability.name

abbrev pub bank_name : Bank → List ℕ
bank_name bank = bank.name

abbrev pub rein_name : Rein → List ℕ
rein_name rein = rein.name

abbrev pub curve_name : Curve → List ℕ
curve_name curve = curve.currency

-- the security of this name, with what is held of it
abbrev pub position_of : List ℕ → List Position → Option Position
position_of name positions = row_of position_name name positions

-- the fund of this name, with what is held of it
abbrev pub stake_of : List ℕ → List Stake → Option Stake
stake_of name stakes = row_of stake_name name stakes

-- the cents held directly under a name, of a security or a fund; 0 where nothing is held
abbrev pub held_of : BalanceSheet → List ℕ → ℕ
held_of sheet name =
    option_map_or (λ p. p.held) (position_of name sheet.securities) 0 + option_map_or (λ s. s.held) (stake_of name sheet.funds) 0

-- the name stands in this table
abbrev pub is_in : Table → List ℕ → BalanceSheet → Bool
is_in tables.Group name sheet = has_row group_name name sheet.groups
is_in tables.Security name sheet = has_row position_name name sheet.securities
is_in tables.Fund name sheet = has_row stake_name name sheet.funds
is_in tables.Liability name sheet = has_row liability_name name sheet.liabilities
is_in tables.Bank name sheet = has_row bank_name name sheet.banks
is_in tables.Rein name sheet = has_row rein_name name sheet.reinsurers
is_in tables.Curve name sheet = has_row curve_name name sheet.curves

-- the name stands in one of the tables that share one set of names; currencies are apart
abbrev pub is_named : List ℕ → BalanceSheet → Bool
is_named name sheet =
    is_in tables.Group name sheet || is_in tables.Security name sheet || is_in tables.Liability name sheet
    || is_in tables.Bank name sheet || is_in tables.Rein name sheet || is_in tables.Fund name sheet

-- the names of these tables
abbrev pub names_of : BalanceSheet → List (List ℕ)
names_of sheet =
    map group_name sheet.groups ++ (map position_name sheet.securities ++ (map liability_name sheet.liabilities
    ++ (map bank_name sheet.banks ++ (map rein_name sheet.reinsurers ++ map stake_name sheet.funds))))

-- ---- sums, in cents

-- all that is held directly
abbrev pub held_total : BalanceSheet → ℕ
held_total sheet = sum_by (λ p. p.held) sheet.securities + sum_by (λ s. s.held) sheet.funds

-- the absolute flows of all liabilities under a projection
abbrev pub liability_flows_total : Projection → BalanceSheet → ℕ
liability_flows_total projection sheet = sum_by (λ l. total (flows_under projection l.flows)) sheet.liabilities

-- the segments of a set, each with its volumes in each region
abbrev pub volumes_of : Set → Numbers → List (List (ℕ × ℕ))
volumes_of sets.Nl numbers = numbers.nl
volumes_of sets.Nslt numbers = numbers.nslt

-- the premium and reserve volumes of all segments and regions of a set
abbrev pub volumes_total : Set → BalanceSheet → ℕ
volumes_total set sheet = sum_by (λ segment. sum_by (λ v. v.0 + v.1) segment) (volumes_of set sheet.numbers)

-- the exposures to all banks, and the recoverables and risk-mitigating effects of all reinsurers (Article 189)
abbrev pub defaults_total : BalanceSheet → ℕ
defaults_total sheet = sum_by (λ b. b.cents) sheet.banks + sum_by (λ r. r.recoverables + r.mitigation) sheet.reinsurers

-- ---- what funds hold

-- the components of all funds, counted
abbrev pub components_total : BalanceSheet → ℕ
components_total sheet = sum_by (λ s. length s.fund.components) sheet.funds

-- the names of the components of the fund of this name, in the order of its record; none where no fund has the name
abbrev pub components_of : List Stake → List ℕ → List (List ℕ)
components_of funds name = option_map_or (λ s. map (λ c. c.0) s.fund.components) (stake_of name funds) []

-- ---- the greatest number of years from the reference date to a payment

abbrev pub greatest : {Row : Type 0} → (Row → ℕ) → List Row → ℕ
greatest measure [] = 0
greatest measure (row ∷ rows) = max (measure row) (greatest measure rows)

abbrev pub security_years : ℤ → Position → ℕ
security_years asof position = greatest_years asof position.security.flows

abbrev pub liability_years : ℤ → Liability → ℕ
liability_years asof liability = greatest (λ projection. greatest_years asof (flows_under projection liability.flows)) all_projections

abbrev pub sheet_years : BalanceSheet → ℕ
sheet_years sheet =
    let asof = sheet.numbers.asof.number in
    max (greatest (security_years asof) sheet.securities) (greatest (liability_years asof) sheet.liabilities)
