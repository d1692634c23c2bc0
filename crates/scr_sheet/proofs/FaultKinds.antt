-- The fault of a record is never want of memory.
use Rattle.std.proofs.Common.{◌≡◌, ℕ, zero, suc, ℤ, pos, neg_ℤ, ◌+◌, Bool, true, false, List, [], ◌∷◌, Option, Some, None, if◌then◌else◌, length, refl, sym, ap, ◌∙◌}
use Rattle.std.specs.List.{list_any}
use Rattle.std.specs.Option.{option_or, option_map, option_map_or}
use Rattle.scr_dates.specs.declared.day.Day.{Day}
use Rattle.scr_tables.specs.Names.{same_name}
use Rattle.scr_tables.specs.Tables.{row_of}
use Rattle.scr_sheet.specs.BalanceSheet.{liability_name, is_in, is_named, held_total, volumes_total, liability_flows_total, defaults_total, components_total, sheet_years}
use Rattle.scr_sheet.specs.Faults.{first_fault, components_fault, list_fault, unknown_row, unknown_currency, unknown_component, unknown_name, misplaced, misplaced_group, misplaced_holding, misplaced_component, lacking, wrong_kind, in_use, cycle, outside, above, outside_rates, outside_weight, outside_promise, outside_amounts, outside_provisions, fields_outside, liability_flows_outside, volumes_outside, sheet_outside, out_of_range, fault_of}
use Rattle.scr_sheet.specs.Records.{applied}
use Rattle.scr_sheet.specs.Users.{user_of}
use Rattle.scr_sheet.specs.CashFlows.{total, suits}
use Rattle.scr_sheet.specs.declared.{sheet.BalanceSheet.BalanceSheet, edit.Edit.Edit, fault.Fault.Fault, fault.Quantity.Quantity, fault.User.User, keys.Projection.Projection, keys.Table.Table}
use Rattle.scr_sheet.specs.declared.edit.Edit.TheVariants as edits
use Rattle.scr_sheet.specs.declared.fault.Fault.TheVariants as faults
use Rattle.scr_sheet.specs.declared.fault.Quantity.TheVariants as quantities
use Rattle.scr_sheet.specs.declared.fault.User.TheVariants as users
use Rattle.scr_sheet.specs.declared.keys.AbsorbKey.TheVariants as absorb
use Rattle.scr_sheet.specs.declared.keys.Table.TheVariants as tables
use Rattle.scr_profile.specs.declared.limits.TheConstants.{MIN_RATE, MAX_RATE, MAX_DURATION, MAX_PROMISED, MAX_AMOUNT, MAX_SYM, MAX_TAX, MAX_HELD, MAX_LIABILITY_FLOWS, MAX_YEARS, MAX_CURRENCIES, MAX_SECURITIES, MAX_FUNDS, MAX_COMPONENTS, MAX_FUND_COMPONENTS, MIN_WEIGHT, MAX_WEIGHT, MAX_LIABILITIES, MAX_GROUPS, MAX_EXPOSURES}

abbrev wants_memory : Option Fault → Bool
wants_memory (Some faults.NoMemory) = true
wants_memory fault = false

record IsOther (fault : Option Fault) : Type 0 where
  is : wants_memory fault ≡ false

-- ---- faults made of others

none : IsOther None
none = record { is = refl }

either : (a b : Option Fault) → IsOther a → IsOther b → IsOther (option_or a b)
either None b p q = q
either (Some fault) b p q = p

choice : (test : Bool) (a b : Option Fault) → IsOther a → IsOther b → IsOther (if test then a else b)
choice true a b p q = p
choice false a b p q = q

first : {A : Type 0} (fault : A → Option Fault) (xs : List A) → ((x : A) → IsOther (fault x)) → IsOther (first_fault fault xs)
first fault [] each = none
first fault (x ∷ xs) each = either (fault x) (first_fault fault xs) (each x) (first fault xs each)

told : {A : Type 0} (fault : A → Fault) (found : Option A) → ((x : A) → IsOther (Some (fault x))) → IsOther (option_map fault found)
told fault None each = none
told fault (Some x) each = each x

-- ---- the length of a list

syntax_at : (field : ℕ) → IsOther (Some (faults.Syntax field))
syntax_at field = record { is = refl }

of_components : (field left : ℕ) (met : List (List ℕ)) (components : List (List ℕ × ℤ)) → IsOther (components_fault field left met components)
of_components field left met [] = none
of_components field zero met (c ∷ cs) = syntax_at field
of_components field (suc left) met (c ∷ cs) =
    choice (list_any (same_name c.0) met) (Some (faults.Syntax field)) (components_fault (field + 2) left (c.0 ∷ met) cs) (syntax_at field) (of_components (field + 2) left (c.0 ∷ met) cs)

of_list : (edit : Edit) → IsOther (list_fault edit)
of_list (edits.Curve currency []) = syntax_at 2
of_list (edits.Curve currency (rate ∷ rates)) = choice _ (Some (faults.Syntax _)) None (syntax_at _) none
of_list (edits.Flows security flows) = choice _ (Some (faults.Syntax _)) None (syntax_at _) none
of_list (edits.Fund name components) = of_components 2 MAX_FUND_COMPONENTS [] components
of_list (edits.LiabilityFlows liability projection flows) = choice _ (Some (faults.Syntax _)) None (syntax_at _) none
of_list edit = none

-- ---- names

module _ (sheet : BalanceSheet) where
  of_row : (name : List ℕ) → IsOther (unknown_row name sheet)
  of_row name = choice (is_named name sheet) None (Some (faults.UnknownName name)) none (record { is = refl })

  of_currency : (name : List ℕ) → IsOther (unknown_currency name sheet)
  of_currency name = choice (is_in tables.Curve name sheet) None (Some (faults.UnknownName name)) none (record { is = refl })

  of_component : (name : List ℕ) (c : List ℕ × ℤ) → IsOther (unknown_component name sheet c)
  of_component name c = choice (same_name c.0 name) None (unknown_row c.0 sheet) none (of_row c.0)

  of_name : (edit : Edit) → IsOther (unknown_name edit sheet)
  of_name (edits.Asof date currency) = of_currency currency
  of_name (edits.Security name class None currency duration) = of_currency currency
  of_name (edits.Security name class (Some group) currency duration) = either (unknown_row group sheet) (unknown_currency currency sheet) (of_row group) (of_currency currency)
  of_name (edits.Flows security flows) = of_row security
  of_name (edits.Fund name components) = first (unknown_component name sheet) components (of_component name)
  of_name (edits.Hold name cents) = of_row name
  of_name (edits.Liability name kind currency) = of_currency currency
  of_name (edits.LiabilityFlows liability projection flows) = of_row liability
  of_name (edits.Absorb (absorb.CurrencyUp currency) cents) = of_currency currency
  of_name (edits.Absorb (absorb.CurrencyDown currency) cents) = of_currency currency
  of_name (edits.Rein name group recoverables mitigation collateral) = of_row group
  of_name (edits.Bank name group cents) = of_row group
  of_name (edits.Remove tables.Curve name) = of_currency name
  of_name (edits.Remove table name) = of_row name
  of_name edit = none

  -- ---- kinds

  of_place : (table : Table) (name : List ℕ) → IsOther (misplaced table name sheet)
  of_place table name = choice _ (Some (faults.WrongKind name)) None (record { is = refl }) none

  of_group : (group : Option (List ℕ)) → IsOther (misplaced_group group sheet)
  of_group None = none
  of_group (Some name) = of_place tables.Group name

  of_holding : (name : List ℕ) → IsOther (misplaced_holding name sheet)
  of_holding name = choice _ (Some (faults.WrongKind name)) None (record { is = refl }) none

  of_part : (name : List ℕ) (c : List ℕ × ℤ) → IsOther (misplaced_component name sheet c)
  of_part name c = choice (same_name c.0 name) None (misplaced_holding c.0 sheet) none (of_holding c.0)

  of_projection : (projection : Projection) (name : List ℕ) → IsOther (lacking projection name sheet)
  of_projection projection name = choice _ None (Some (faults.WrongKind name)) none (record { is = refl })

  of_kind : (edit : Edit) → IsOther (wrong_kind edit sheet)
  of_kind (edits.Group name kind step) = of_place tables.Group name
  of_kind (edits.Security name class group currency duration) = either (misplaced tables.Security name sheet) (misplaced_group group sheet) (of_place tables.Security name) (of_group group)
  of_kind (edits.Flows security flows) = of_place tables.Security security
  of_kind (edits.Fund name components) =
      either (misplaced tables.Fund name sheet) (first_fault (misplaced_component name sheet) components) (of_place tables.Fund name) (first (misplaced_component name sheet) components (of_part name))
  of_kind (edits.Hold name cents) = of_holding name
  of_kind (edits.Liability name kind currency) = of_place tables.Liability name
  of_kind (edits.LiabilityFlows liability projection flows) =
      either (misplaced tables.Liability liability sheet) (lacking projection liability sheet) (of_place tables.Liability liability) (of_projection projection liability)
  of_kind (edits.Rein name group recoverables mitigation collateral) = either (misplaced tables.Rein name sheet) (misplaced tables.Group group sheet) (of_place tables.Rein name) (of_place tables.Group group)
  of_kind (edits.Bank name group cents) = either (misplaced tables.Bank name sheet) (misplaced tables.Group group sheet) (of_place tables.Bank name) (of_place tables.Group group)
  of_kind (edits.Remove tables.Curve name) = none
  of_kind (edits.Remove table name) = of_place table name
  of_kind edit = none

  -- ---- uses and cycles

  of_use : (edit : Edit) → IsOther (in_use edit sheet)
  of_use (edits.Liability name kind currency) = choice (option_map_or (λ l. suits kind l.flows) (row_of liability_name name sheet.liabilities) true) None (Some (faults.InUse name users.Lflow)) none (record { is = refl })
  of_use (edits.Remove table name) = told (λ (user : User). faults.InUse name user) (user_of table name sheet) (λ user. record { is = refl })
  of_use edit = none

  of_cycle : (edit : Edit) → IsOther (cycle edit sheet)
  of_cycle (edits.Fund name components) = told (λ (path : List (List ℕ)). faults.Cycle path) _ (λ path. record { is = refl })
  of_cycle edit = none

-- ---- quantities

of_span : (quantity : Quantity) (low high value : ℤ) → IsOther (outside quantity low high value)
of_span quantity low high value = choice _ (Some (faults.Range quantity value low)) _ (record { is = refl }) (choice _ (Some (faults.Range quantity value high)) None (record { is = refl }) none)

of_limit : (quantity : Quantity) (value limit : ℕ) → IsOther (above quantity value limit)
of_limit quantity value limit = choice _ None (Some (faults.Range quantity (pos value) (pos limit))) none (record { is = refl })

of_amounts : (amounts : List ℤ) → IsOther (outside_amounts amounts)
of_amounts amounts = first (outside quantities.Amount (pos 0) (pos MAX_AMOUNT)) amounts (of_span quantities.Amount (pos 0) (pos MAX_AMOUNT))

of_provisions : (provisions : List ℤ) → IsOther (outside_provisions provisions)
of_provisions provisions =
    first (outside quantities.Provision (neg_ℤ (pos MAX_AMOUNT)) (pos MAX_AMOUNT)) provisions (of_span quantities.Provision (neg_ℤ (pos MAX_AMOUNT)) (pos MAX_AMOUNT))

of_fields : (edit : Edit) → IsOther (fields_outside edit)
of_fields (edits.Curve currency rates) = first outside_rates rates (λ rate. of_span quantities.Rate MIN_RATE MAX_RATE rate)
of_fields (edits.Security name class group currency duration) = of_span quantities.Duration (pos 0) MAX_DURATION duration
of_fields (edits.Flows security flows) =
    either (first_fault outside_promise flows) (above quantities.SecFlows (total flows) MAX_PROMISED) (first outside_promise flows (λ flow. of_span quantities.Flow (pos 0) (pos MAX_PROMISED) flow.1))
    (of_limit quantities.SecFlows (total flows) MAX_PROMISED)
of_fields (edits.Fund name components) = first outside_weight components (λ c. of_span quantities.Weight MIN_WEIGHT MAX_WEIGHT c.1)
of_fields (edits.Hold name cents) = choice _ (Some (faults.Range quantities.Hold cents (pos 0))) None (record { is = refl }) none
of_fields (edits.Absorb key cents) = of_amounts (cents ∷ [])
of_fields (edits.Segment set number region premium reserve) = of_amounts (premium ∷ reserve ∷ [])
of_fields (edits.Cat key cents) = of_amounts (cents ∷ [])
of_fields (edits.Lapse set cents) = of_amounts (cents ∷ [])
of_fields (edits.Rein name group recoverables mitigation collateral) = of_amounts (recoverables ∷ mitigation ∷ collateral ∷ [])
of_fields (edits.Bank name group cents) = of_amounts (cents ∷ [])
of_fields (edits.Due overdue other) = of_amounts (overdue ∷ other ∷ [])
of_fields (edits.Op tpl tpul tpn el eul pel peul en pen expul) =
    either (outside_amounts (el ∷ eul ∷ pel ∷ peul ∷ en ∷ pen ∷ expul ∷ [])) (outside_provisions (tpl ∷ tpul ∷ tpn ∷ []))
    (of_amounts (el ∷ eul ∷ pel ∷ peul ∷ en ∷ pen ∷ expul ∷ [])) (of_provisions (tpl ∷ tpul ∷ tpn ∷ []))
of_fields (edits.Sym millionths) = of_span quantities.Sym (neg_ℤ MAX_SYM) MAX_SYM millionths
of_fields (edits.Tax millionths most) =
    either (outside_amounts (most ∷ [])) (outside quantities.TaxRate (pos 0) MAX_TAX millionths) (of_amounts (most ∷ [])) (of_span quantities.TaxRate (pos 0) MAX_TAX millionths)
of_fields (edits.Fdb cents) = of_amounts (cents ∷ [])
of_fields (edits.Intangible cents) = of_amounts (cents ∷ [])
of_fields edit = none

of_flows : (edit : Edit) (after : BalanceSheet) → IsOther (liability_flows_outside edit after)
of_flows (edits.LiabilityFlows liability projection flows) after = of_limit quantities.LiabilityFlows (liability_flows_total projection after) MAX_LIABILITY_FLOWS
of_flows edit after = none

of_volumes : (edit : Edit) (after : BalanceSheet) → IsOther (volumes_outside edit after)
of_volumes (edits.Segment set number region premium reserve) after = of_limit quantities.Volumes (volumes_total set after) MAX_AMOUNT
of_volumes edit after = none

of_sheet : (edit : Edit) (after : BalanceSheet) → IsOther (sheet_outside edit after)
of_sheet edit after =
    either _ _ (of_limit quantities.Held (held_total after) MAX_HELD)
    (either _ _ (of_flows edit after)
    (either _ _ (of_volumes edit after)
    (either _ _ (of_limit quantities.Defaults (defaults_total after) MAX_AMOUNT)
    (either _ _ (of_limit quantities.Years (sheet_years after) MAX_YEARS)
    (either _ _ (of_limit quantities.Currencies (length after.curves) MAX_CURRENCIES)
    (either _ _ (of_limit quantities.Securities (length after.securities) MAX_SECURITIES)
    (either _ _ (of_limit quantities.Funds (length after.funds) MAX_FUNDS)
    (either _ _ (of_limit quantities.Components (components_total after) MAX_COMPONENTS)
    (either _ _ (of_limit quantities.Liabilities (length after.liabilities) MAX_LIABILITIES)
    (either _ _ (of_limit quantities.Groups (length after.groups) MAX_GROUPS)
    (of_limit quantities.Exposures (length after.banks + length after.reinsurers) MAX_EXPOSURES)))))))))))

-- ---- the first fault

of_record : (edit : Edit) (sheet : BalanceSheet) → IsOther (fault_of edit sheet)
of_record edit sheet =
    either (list_fault edit) _ (of_list edit)
    (either (unknown_name edit sheet) _ (of_name sheet edit)
    (either (wrong_kind edit sheet) _ (of_kind sheet edit)
    (either (in_use edit sheet) _ (of_use sheet edit)
    (either (cycle edit sheet) (out_of_range edit sheet) (of_cycle sheet edit)
    (either (fields_outside edit) (sheet_outside edit (applied edit sheet)) (of_fields edit) (of_sheet edit (applied edit sheet)))))))

pub never_memory : (edit : Edit) (sheet : BalanceSheet) → ¬ (fault_of edit sheet ≡ Some faults.NoMemory)
never_memory edit sheet memory =
    let wanted : false ≡ true = sym (of_record edit sheet).is ∙ ap wants_memory memory in
    absurd (cc)
