-- What is true of every balance sheet that a book keeps (this project's own).
use Rattle.std.specs.Prelude.{ℕ, ℤ, pos, neg_ℤ, ◌+◌, ◌≤◌, ◌≤ℤ◌, ◌||◌, IsTrue, List, Option, Some, None, length, map}
use Rattle.std.specs.List.{AllByRecursion, IsDistinct}
use Rattle.scr_dates.specs.declared.day.Day.{Day}
use Rattle.scr_dates.specs.Civil.{IsDay}
use Rattle.scr_funds.specs.Chains.{IsAcyclic}
use Rattle.scr_tables.specs.Names.{same_name}
use Rattle.scr_tables.specs.Tables.{has_row}
use Rattle.scr_sheet.specs.Forms.{IsName, IsCurrency, IsNameOrNone, IsStepOrNone, AreOnDays}
use Rattle.scr_sheet.specs.CashFlows.{total, flows_under, suits}
use Rattle.scr_sheet.specs.BalanceSheet.{group_name, position_name, stake_name, curve_name, names_of, components_of, components_total, held_total, liability_flows_total, volumes_total, defaults_total, sheet_years}
use Rattle.scr_sheet.specs.declared.{sheet.BalanceSheet.BalanceSheet, keys.Projection.Projection, rows.Group.Group, rows.Position.Position, rows.Stake.Stake, rows.Liability.Liability, rows.Bank.Bank, rows.Rein.Rein, rows.Curve.Curve, numbers.Numbers.Numbers}
use Rattle.scr_profile.specs.declared.set.Set.{Set}
use Rattle.scr_profile.specs.declared.limits.TheConstants.{MIN_RATE, MAX_RATE, MAX_RATES, MAX_DURATION, MAX_FLOWS, MAX_PROMISED, MAX_AMOUNT, MAX_SYM, MAX_TAX, MAX_HELD, MAX_LIABILITY_FLOWS, MAX_YEARS, MAX_CURRENCIES, MAX_SECURITIES, MAX_FUNDS, MAX_COMPONENTS, MAX_FUND_COMPONENTS, MIN_WEIGHT, MAX_WEIGHT, MAX_LIABILITIES, MAX_GROUPS, MAX_EXPOSURES}

-- ---- rows, each with its form and within its own limits

abbrev pub IsBetween : ℤ → ℤ → ℤ → Type 0
IsBetween low high value = (low ≤ℤ value) × (value ≤ℤ high)

abbrev pub IsAmount : ℕ → Type 0
IsAmount cents = cents ≤ MAX_AMOUNT

abbrev pub IsGroup : Group → Type 0
IsGroup group = IsName group.name × IsStepOrNone group.step

-- each payment of a security is at least 0, and together they are within their limit
abbrev pub IsPromise : List (Day × ℤ) → Type 0
IsPromise flows =
    AreOnDays flows × AllByRecursion (λ flow. IsBetween (pos 0) (pos MAX_PROMISED) flow.1) flows × (length flows ≤ MAX_FLOWS) × (total flows ≤ MAX_PROMISED)

abbrev pub IsSecurity : Position → Type 0
IsSecurity position =
    let security = position.security in
    IsName security.name × IsNameOrNone security.group × IsCurrency security.currency × (pos security.duration ≤ℤ MAX_DURATION) × IsPromise security.flows

-- no component comes twice, and each has a weight above 0
abbrev pub IsStake : Stake → Type 0
IsStake stake =
    let components = stake.fund.components in
    IsName stake.fund.name × AllByRecursion (λ c. IsName c.0 × IsBetween MIN_WEIGHT MAX_WEIGHT c.1) components × (length components ≤ MAX_FUND_COMPONENTS)
    × IsDistinct same_name (map (λ c. c.0) components)

-- on days of the calendar, and not too many
abbrev pub IsProjected : List (Day × ℤ) → Type 0
IsProjected flows = AreOnDays flows × (length flows ≤ MAX_FLOWS)

abbrev pub IsLiability : Liability → Type 0
IsLiability liability =
    IsName liability.name × IsCurrency liability.currency × IsTrue (suits liability.kind liability.flows) × ((projection : Projection) → IsProjected (flows_under projection liability.flows))

abbrev pub IsBank : Bank → Type 0
IsBank bank = IsName bank.name × IsName bank.group × IsAmount bank.cents

abbrev pub IsRein : Rein → Type 0
IsRein rein = IsName rein.name × IsName rein.group × IsAmount rein.recoverables × IsAmount rein.mitigation × IsAmount rein.collateral

abbrev pub IsCurve : Curve → Type 0
IsCurve curve =
    IsCurrency curve.currency × AllByRecursion (IsBetween MIN_RATE MAX_RATE) curve.rates × (1 ≤ length curve.rates) × (length curve.rates ≤ MAX_RATES)
    × IsAmount curve.absorb_up × IsAmount curve.absorb_down

abbrev pub AreVolumes : List (List (ℕ × ℕ)) → Type 0
AreVolumes segments = AllByRecursion (λ segment. AllByRecursion (λ v. IsAmount v.0 × IsAmount v.1) segment) segments

-- the single numbers, each within its own limits
pub record AreNumbers (numbers : Numbers) : Type 0 where
  pub asof : IsDay numbers.asof.number
  pub currency : IsCurrency numbers.currency
  pub absorb : AllByRecursion IsAmount numbers.absorb
  pub nl : AreVolumes numbers.nl
  pub nslt : AreVolumes numbers.nslt
  pub cat : AllByRecursion IsAmount numbers.cat
  pub health_cat : AllByRecursion IsAmount numbers.health_cat
  pub lapse : AllByRecursion IsAmount numbers.lapse
  pub due : AllByRecursion IsAmount numbers.due
  pub provisions : AllByRecursion (IsBetween (neg_ℤ (pos MAX_AMOUNT)) (pos MAX_AMOUNT)) numbers.provisions
  pub earned : AllByRecursion IsAmount numbers.earned
  pub sym : IsBetween (neg_ℤ MAX_SYM) MAX_SYM numbers.sym
  pub tax : pos numbers.tax ≤ℤ MAX_TAX
  pub cap : IsAmount numbers.cap
  pub fdb : IsAmount numbers.fdb
  pub intangible : IsAmount numbers.intangible

-- ---- names that are used stand in the right table

abbrev pub HasGroup : List Group → List ℕ → Type 0
HasGroup groups name = IsTrue (has_row group_name name groups)

abbrev pub HasGroupOrNone : List Group → Option (List ℕ) → Type 0
HasGroupOrNone groups None = Unit {0}
HasGroupOrNone groups (Some name) = HasGroup groups name

abbrev pub HasCurrency : List Curve → List ℕ → Type 0
HasCurrency curves currency = IsTrue (has_row curve_name currency curves)

-- a security or a fund
abbrev pub IsHeld : BalanceSheet → List ℕ → Type 0
IsHeld sheet name = IsTrue (has_row position_name name sheet.securities || has_row stake_name name sheet.funds)

pub record AreKnown (sheet : BalanceSheet) : Type 0 where
  pub security_groups : AllByRecursion (λ p. HasGroupOrNone sheet.groups p.security.group) sheet.securities
  pub bank_groups : AllByRecursion (λ b. HasGroup sheet.groups b.group) sheet.banks
  pub rein_groups : AllByRecursion (λ r. HasGroup sheet.groups r.group) sheet.reinsurers
  pub security_currencies : AllByRecursion (λ p. HasCurrency sheet.curves p.security.currency) sheet.securities
  pub liability_currencies : AllByRecursion (λ l. HasCurrency sheet.curves l.currency) sheet.liabilities
  pub components : AllByRecursion (λ s. AllByRecursion (λ c. IsHeld sheet c.0) s.fund.components) sheet.funds
  pub reporting : HasCurrency sheet.curves sheet.numbers.currency

-- ---- the quantities of the whole book are within their limits

pub record AreWithin (sheet : BalanceSheet) : Type 0 where
  pub held : held_total sheet ≤ MAX_HELD
  pub liability_flows : (projection : Projection) → liability_flows_total projection sheet ≤ MAX_LIABILITY_FLOWS
  pub volumes : (set : Set) → volumes_total set sheet ≤ MAX_AMOUNT
  pub defaults : defaults_total sheet ≤ MAX_AMOUNT
  pub years : sheet_years sheet ≤ MAX_YEARS
  pub currencies : length sheet.curves ≤ MAX_CURRENCIES
  pub securities : length sheet.securities ≤ MAX_SECURITIES
  pub funds : length sheet.funds ≤ MAX_FUNDS
  pub components : components_total sheet ≤ MAX_COMPONENTS
  pub liabilities : length sheet.liabilities ≤ MAX_LIABILITIES
  pub groups : length sheet.groups ≤ MAX_GROUPS
  pub exposures : length sheet.banks + length sheet.reinsurers ≤ MAX_EXPOSURES

-- Each row has its form, no two rows of the tables that share one set of names have one name and no two curves one
-- currency, what is used exists, no fund leads to itself, and every quantity is within its limits. That nothing is held
-- twice, that what is held is a security's or a fund's, and that no security has two lists of flows lie in the form of
-- the sheet.
pub record Valid (sheet : BalanceSheet) : Type 0 where
  pub groups : AllByRecursion IsGroup sheet.groups
  pub securities : AllByRecursion IsSecurity sheet.securities
  pub funds : AllByRecursion IsStake sheet.funds
  pub liabilities : AllByRecursion IsLiability sheet.liabilities
  pub banks : AllByRecursion IsBank sheet.banks
  pub reinsurers : AllByRecursion IsRein sheet.reinsurers
  pub curves : AllByRecursion IsCurve sheet.curves
  pub numbers : AreNumbers sheet.numbers
  pub named_once : IsDistinct same_name (names_of sheet)
  pub currencies_once : IsDistinct same_name (map curve_name sheet.curves)
  pub known : AreKnown sheet
  pub acyclic : IsAcyclic (components_of sheet.funds)
  pub within : AreWithin sheet
