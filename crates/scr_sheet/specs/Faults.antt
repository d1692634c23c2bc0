-- Why a record is refused (this project's own): the first of its faults, in a fixed order.
use Rattle.std.specs.Prelude.{◌≡◌, ℕ, zero, suc, ℤ, pos, neg_ℤ, ◌+◌, ◌*◌, true, not, ◌&&◌, ◌||◌, List, [], ◌∷◌, Option, Some, None, Result, Ok, Err, if◌then◌else◌, length, nat_le, nat_lt, int_lt}
use Rattle.std.specs.List.{list_any}
use Rattle.std.specs.Option.{option_or, option_map, option_map_or}
use Rattle.scr_dates.specs.declared.day.Day.{Day}
use Rattle.scr_funds.specs.Paths.{path_within}
use Rattle.scr_tables.specs.Names.{same_name}
use Rattle.scr_tables.specs.Tables.{row_of}
use Rattle.scr_sheet.specs.CashFlows.{total, has_projection, suits}
use Rattle.scr_sheet.specs.BalanceSheet.{liability_name, is_in, is_named, held_total, liability_flows_total, volumes_total, defaults_total, components_total, components_of, sheet_years}
use Rattle.scr_sheet.specs.declared.{sheet.BalanceSheet.BalanceSheet, edit.Edit.Edit, fault.Fault.Fault, fault.Quantity.Quantity, keys.AbsorbKey.AbsorbKey, keys.Projection.Projection, keys.Table.Table}
use Rattle.scr_sheet.specs.Records.{applied, with_fund}
use Rattle.scr_sheet.specs.Users.{user_of}
use Rattle.scr_sheet.specs.declared.edit.Edit.TheVariants as edits
use Rattle.scr_sheet.specs.declared.fault.Fault.TheVariants as faults
use Rattle.scr_sheet.specs.declared.fault.Quantity.TheVariants as quantities
use Rattle.scr_sheet.specs.declared.fault.User.TheVariants as users
use Rattle.scr_sheet.specs.declared.keys.AbsorbKey.TheVariants as absorb
use Rattle.scr_sheet.specs.declared.keys.Table.TheVariants as tables
use Rattle.scr_profile.specs.declared.limits.TheConstants.{MIN_RATE, MAX_RATE, MAX_RATES, MAX_DURATION, MAX_FLOWS, MAX_PROMISED, MAX_AMOUNT, MAX_SYM, MAX_TAX, MAX_HELD, MAX_LIABILITY_FLOWS, MAX_YEARS, MAX_CURRENCIES, MAX_SECURITIES, MAX_FUNDS, MAX_COMPONENTS, MAX_FUND_COMPONENTS, MIN_WEIGHT, MAX_WEIGHT, MAX_LIABILITIES, MAX_GROUPS, MAX_EXPOSURES}

-- the first fault of a list's members
abbrev pub first_fault : {A : Type 0} → (A → Option Fault) → List A → Option Fault
first_fault fault [] = None
first_fault fault (x ∷ xs) = option_or (fault x) (first_fault fault xs)

-- ---- syntax: how long a list is

-- More members than a list has: the first field of the next one is told. `first` is the number of the list's first
-- field, and each member has so many fields.
abbrev pub too_long : ℕ → ℕ → ℕ → ℕ → Option Fault
too_long first fields most number = if nat_lt most number then Some (faults.Syntax (first + fields * most)) else None

-- a curve has 1 to 100 rates; where it has none, the first is missing
abbrev pub rates_fault : List ℤ → Option Fault
rates_fault [] = Some (faults.Syntax 2)
rates_fault (rate ∷ rates) = too_long 2 1 MAX_RATES (length (rate ∷ rates))

-- The first field that repeats a component, or that lies beyond the greatest length: `field` is the number of the next
-- component's name, `left` how many components may still come, and `met` holds the names before it.
abbrev pub components_fault : ℕ → ℕ → List (List ℕ) → List (List ℕ × ℤ) → Option Fault
components_fault field left met [] = None
components_fault field zero met (c ∷ cs) = Some (faults.Syntax field)
components_fault field (suc left) met (c ∷ cs) =
    if list_any (same_name c.0) met then Some (faults.Syntax field) else components_fault (field + 2) left (c.0 ∷ met) cs

-- payments come to 1,200 pairs at most, components to 1,000
abbrev pub list_fault : Edit → Option Fault
list_fault (edits.Curve currency rates) = rates_fault rates
list_fault (edits.Flows security flows) = too_long 2 2 MAX_FLOWS (length flows)
list_fault (edits.Fund name components) = components_fault 2 MAX_FUND_COMPONENTS [] components
list_fault (edits.LiabilityFlows liability projection flows) = too_long 3 2 MAX_FLOWS (length flows)
list_fault edit = None

-- ---- a name must exist and does not

abbrev pub unknown_row : List ℕ → BalanceSheet → Option Fault
unknown_row name sheet = if is_named name sheet then None else Some (faults.UnknownName name)

abbrev pub unknown_currency : List ℕ → BalanceSheet → Option Fault
unknown_currency currency sheet = if is_in tables.Curve currency sheet then None else Some (faults.UnknownName currency)

abbrev pub unknown_group : Option (List ℕ) → BalanceSheet → Option Fault
unknown_group None sheet = None
unknown_group (Some name) sheet = unknown_row name sheet

abbrev pub unknown_in_key : AbsorbKey → BalanceSheet → Option Fault
unknown_in_key (absorb.CurrencyUp currency) sheet = unknown_currency currency sheet
unknown_in_key (absorb.CurrencyDown currency) sheet = unknown_currency currency sheet
unknown_in_key key sheet = None

abbrev pub unknown_in_table : Table → List ℕ → BalanceSheet → Option Fault
unknown_in_table tables.Curve name sheet = unknown_currency name sheet
unknown_in_table table name sheet = unknown_row name sheet

-- a component of a fund, which itself counts as existing
abbrev pub unknown_component : List ℕ → BalanceSheet → List ℕ × ℤ → Option Fault
unknown_component name sheet component = if same_name component.0 name then None else unknown_row component.0 sheet

-- the first field from the left that names what does not exist
abbrev pub unknown_name : Edit → BalanceSheet → Option Fault
unknown_name (edits.Asof date currency) sheet = unknown_currency currency sheet
unknown_name (edits.Security name class group currency duration) sheet = option_or (unknown_group group sheet) (unknown_currency currency sheet)
unknown_name (edits.Flows security flows) sheet = unknown_row security sheet
unknown_name (edits.Fund name components) sheet = first_fault (unknown_component name sheet) components
unknown_name (edits.Hold name cents) sheet = unknown_row name sheet
unknown_name (edits.Liability name kind currency) sheet = unknown_currency currency sheet
unknown_name (edits.LiabilityFlows liability projection flows) sheet = unknown_row liability sheet
unknown_name (edits.Absorb key cents) sheet = unknown_in_key key sheet
unknown_name (edits.Rein name group recoverables mitigation collateral) sheet = unknown_row group sheet
unknown_name (edits.Bank name group cents) sheet = unknown_row group sheet
unknown_name (edits.Remove table name) sheet = unknown_in_table table name sheet
unknown_name edit sheet = None

-- ---- a name stands in another table than its field allows, or a liability's kind lacks the projection

abbrev pub misplaced : Table → List ℕ → BalanceSheet → Option Fault
misplaced table name sheet = if is_named name sheet && not (is_in table name sheet) then Some (faults.WrongKind name) else None

abbrev pub misplaced_group : Option (List ℕ) → BalanceSheet → Option Fault
misplaced_group None sheet = None
misplaced_group (Some name) sheet = misplaced tables.Group name sheet

-- what may be held: a security or a fund
abbrev pub misplaced_holding : List ℕ → BalanceSheet → Option Fault
misplaced_holding name sheet =
    if is_named name sheet && not (is_in tables.Security name sheet || is_in tables.Fund name sheet) then Some (faults.WrongKind name) else None

-- a component of a fund, which itself counts as a fund
abbrev pub misplaced_component : List ℕ → BalanceSheet → List ℕ × ℤ → Option Fault
misplaced_component name sheet component = if same_name component.0 name then None else misplaced_holding component.0 sheet

-- currencies are apart, so a currency never stands elsewhere
abbrev pub misplaced_drop : Table → List ℕ → BalanceSheet → Option Fault
misplaced_drop tables.Curve name sheet = None
misplaced_drop table name sheet = misplaced table name sheet

abbrev pub lacking : Projection → List ℕ → BalanceSheet → Option Fault
lacking projection name sheet =
    if option_map_or (λ l. has_projection l.kind projection) (row_of liability_name name sheet.liabilities) true then None else Some (faults.WrongKind name)

abbrev pub wrong_kind : Edit → BalanceSheet → Option Fault
wrong_kind (edits.Group name kind step) sheet = misplaced tables.Group name sheet
wrong_kind (edits.Security name class group currency duration) sheet = option_or (misplaced tables.Security name sheet) (misplaced_group group sheet)
wrong_kind (edits.Flows security flows) sheet = misplaced tables.Security security sheet
wrong_kind (edits.Fund name components) sheet = option_or (misplaced tables.Fund name sheet) (first_fault (misplaced_component name sheet) components)
wrong_kind (edits.Hold name cents) sheet = misplaced_holding name sheet
wrong_kind (edits.Liability name kind currency) sheet = misplaced tables.Liability name sheet
wrong_kind (edits.LiabilityFlows liability projection flows) sheet = option_or (misplaced tables.Liability liability sheet) (lacking projection liability sheet)
wrong_kind (edits.Rein name group recoverables mitigation collateral) sheet = option_or (misplaced tables.Rein name sheet) (misplaced tables.Group group sheet)
wrong_kind (edits.Bank name group cents) sheet = option_or (misplaced tables.Bank name sheet) (misplaced tables.Group group sheet)
wrong_kind (edits.Remove table name) sheet = misplaced_drop table name sheet
wrong_kind edit sheet = None

-- ---- a row is used that would be dropped, or flows stand under a projection that the liability's new kind lacks

abbrev pub in_use : Edit → BalanceSheet → Option Fault
in_use (edits.Liability name kind currency) sheet =
    if option_map_or (λ l. suits kind l.flows) (row_of liability_name name sheet.liabilities) true then None else Some (faults.InUse name users.Lflow)
in_use (edits.Remove table name) sheet = option_map (λ user. faults.InUse name user) (user_of table name sheet)
in_use edit sheet = None

-- ---- a fund would hold itself through a chain of components

-- In the book as the record would leave it no chain without repeats is longer than the funds are many.
abbrev pub cycle : Edit → BalanceSheet → Option Fault
cycle (edits.Fund name components) sheet =
    let funds = with_fund name components sheet.funds in
    option_map (λ path. faults.Cycle path) (path_within same_name (components_of funds) (length funds) name name)
cycle edit sheet = None

-- ---- a quantity lies outside its limits, and is told with the bound that it crosses

abbrev pub outside : Quantity → ℤ → ℤ → ℤ → Option Fault
outside quantity low high value =
    if int_lt value low then Some (faults.Range quantity value low)
    else (if int_lt high value then Some (faults.Range quantity value high) else None)

abbrev pub above : Quantity → ℕ → ℕ → Option Fault
above quantity value limit = if nat_le value limit then None else Some (faults.Range quantity (pos value) (pos limit))

abbrev pub outside_rates : ℤ → Option Fault
outside_rates rate = outside quantities.Rate MIN_RATE MAX_RATE rate

abbrev pub outside_weight : List ℕ × ℤ → Option Fault
outside_weight component = outside quantities.Weight MIN_WEIGHT MAX_WEIGHT component.1

abbrev pub outside_promise : Day × ℤ → Option Fault
outside_promise flow = outside quantities.Flow (pos 0) (pos MAX_PROMISED) flow.1

abbrev pub below_zero : ℤ → Option Fault
below_zero cents = if int_lt cents (pos 0) then Some (faults.Range quantities.Hold cents (pos 0)) else None

abbrev pub outside_amounts : List ℤ → Option Fault
outside_amounts amounts = first_fault (outside quantities.Amount (pos 0) (pos MAX_AMOUNT)) amounts

abbrev pub outside_provisions : List ℤ → Option Fault
outside_provisions provisions = first_fault (outside quantities.Provision (neg_ℤ (pos MAX_AMOUNT)) (pos MAX_AMOUNT)) provisions

-- The quantities that a record gives itself, in order: `rate`, `duration`, `weight`, `flow`, `hold`, `amount`, `provision`,
-- `sym`, `taxrate`, `secflows`; among fields of one quantity the first from the left.
abbrev pub fields_outside : Edit → Option Fault
fields_outside (edits.Curve currency rates) = first_fault outside_rates rates
fields_outside (edits.Security name class group currency duration) = outside quantities.Duration (pos 0) MAX_DURATION duration
fields_outside (edits.Flows security flows) = option_or (first_fault outside_promise flows) (above quantities.SecFlows (total flows) MAX_PROMISED)
fields_outside (edits.Fund name components) = first_fault outside_weight components
fields_outside (edits.Hold name cents) = below_zero cents
fields_outside (edits.Absorb key cents) = outside_amounts (cents ∷ [])
fields_outside (edits.Segment set number region premium reserve) = outside_amounts (premium ∷ reserve ∷ [])
fields_outside (edits.Cat key cents) = outside_amounts (cents ∷ [])
fields_outside (edits.Lapse set cents) = outside_amounts (cents ∷ [])
fields_outside (edits.Rein name group recoverables mitigation collateral) = outside_amounts (recoverables ∷ mitigation ∷ collateral ∷ [])
fields_outside (edits.Bank name group cents) = outside_amounts (cents ∷ [])
fields_outside (edits.Due overdue other) = outside_amounts (overdue ∷ other ∷ [])
fields_outside (edits.Op tpl tpul tpn el eul pel peul en pen expul) =
    option_or (outside_amounts (el ∷ eul ∷ pel ∷ peul ∷ en ∷ pen ∷ expul ∷ [])) (outside_provisions (tpl ∷ tpul ∷ tpn ∷ []))
fields_outside (edits.Sym millionths) = outside quantities.Sym (neg_ℤ MAX_SYM) MAX_SYM millionths
fields_outside (edits.Tax millionths most) = option_or (outside_amounts (most ∷ [])) (outside quantities.TaxRate (pos 0) MAX_TAX millionths)
fields_outside (edits.Fdb cents) = outside_amounts (cents ∷ [])
fields_outside (edits.Intangible cents) = outside_amounts (cents ∷ [])
fields_outside edit = None

-- for the projection of a record of flows, the absolute flows of all liabilities
abbrev pub liability_flows_outside : Edit → BalanceSheet → Option Fault
liability_flows_outside (edits.LiabilityFlows liability projection flows) after = above quantities.LiabilityFlows (liability_flows_total projection after) MAX_LIABILITY_FLOWS
liability_flows_outside edit after = None

-- for the set of a record of volumes, all its volumes
abbrev pub volumes_outside : Edit → BalanceSheet → Option Fault
volumes_outside (edits.Segment set number region premium reserve) after = above quantities.Volumes (volumes_total set after) MAX_AMOUNT
volumes_outside edit after = None

-- the quantities of the whole book as the record would leave it, in their order
abbrev pub sheet_outside : Edit → BalanceSheet → Option Fault
sheet_outside edit after =
    option_or (above quantities.Held (held_total after) MAX_HELD)
    (option_or (liability_flows_outside edit after)
    (option_or (volumes_outside edit after)
    (option_or (above quantities.Defaults (defaults_total after) MAX_AMOUNT)
    (option_or (above quantities.Years (sheet_years after) MAX_YEARS)
    (option_or (above quantities.Currencies (length after.curves) MAX_CURRENCIES)
    (option_or (above quantities.Securities (length after.securities) MAX_SECURITIES)
    (option_or (above quantities.Funds (length after.funds) MAX_FUNDS)
    (option_or (above quantities.Components (components_total after) MAX_COMPONENTS)
    (option_or (above quantities.Liabilities (length after.liabilities) MAX_LIABILITIES)
    (option_or (above quantities.Groups (length after.groups) MAX_GROUPS)
    (above quantities.Exposures (length after.banks + length after.reinsurers) MAX_EXPOSURES)))))))))))

-- in the book as the record would leave it, the first quantity outside its limits
abbrev pub out_of_range : Edit → BalanceSheet → Option Fault
out_of_range edit sheet = option_or (fields_outside edit) (sheet_outside edit (applied edit sheet))

-- ---- the first fault

abbrev pub fault_of : Edit → BalanceSheet → Option Fault
fault_of edit sheet =
    option_or (list_fault edit)
    (option_or (unknown_name edit sheet)
    (option_or (wrong_kind edit sheet)
    (option_or (in_use edit sheet)
    (option_or (cycle edit sheet) (out_of_range edit sheet)))))

-- An answer is the fault that is due, or none where none is due. Want of memory may come in place of either.
abbrev pub Answers : {A : Type 0} → Option Fault → Result A Fault → Type 0
Answers due (Ok a) = due ≡ None
Answers due (Err (faults.Syntax k)) = due ≡ Some (faults.Syntax k)
Answers due (Err (faults.UnknownName name)) = due ≡ Some (faults.UnknownName name)
Answers due (Err (faults.WrongKind name)) = due ≡ Some (faults.WrongKind name)
Answers due (Err (faults.InUse name user)) = due ≡ Some (faults.InUse name user)
Answers due (Err (faults.Cycle path)) = due ≡ Some (faults.Cycle path)
Answers due (Err (faults.Range quantity value limit)) = due ≡ Some (faults.Range quantity value limit)
Answers due (Err faults.NoMemory) = Unit {0}
