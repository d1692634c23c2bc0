-- A record that has its form and no fault leads from a valid sheet to a valid one.
use Rattle.std.proofs.Common.{◌≡◌, ℕ, zero, suc, replicate, ℤ, pos, neg_ℤ, ◌+◌, ◌≤◌, ◌≤ℤ◌, Bool, true, false, not, ◌&&◌, ◌||◌, inl, inr, IsTrue, List, [], ◌∷◌, ◌++◌, length, map, sum_by, Option, Some, None, is_some, ◌⊎◌, if◌then◌else◌, refl, sym, ap, subst, ◌∙◌, arith}
use Rattle.std.proofs.lemmas.Bool.{ltb-false, or_right}
use Rattle.std.proofs.lemmas.Int.{ints}
use Rattle.std.specs.List.{AllByRecursion, IsDistinct, list_any}
use Rattle.std.specs.Option.{option_map, option_map_or}
use Rattle.scr_dates.specs.declared.day.Day.{Day}
use Rattle.scr_tables.specs.Names.{same_name}
use Rattle.scr_tables.specs.Tables.{row_of, has_row, with_row, without, changed}
use Rattle.scr_sheet.specs.CashFlows.{total, flows_under, with_flows, no_flows, has_projection, suits}
use Rattle.scr_sheet.specs.BalanceSheet.{opening, no_volumes, group_name, position_name, liability_name, bank_name, rein_name, curve_name, stake_name, names_of, is_in, is_named, held_total, components_total, liability_flows_total, volumes_total, defaults_total, sheet_years}
use Rattle.scr_sheet.specs.declared.{sheet.BalanceSheet.BalanceSheet, edit.Edit.Edit, fault.Fault.Fault, fault.User.User, keys.AbsorbKey.AbsorbKey, keys.Projection.Projection, keys.Table.Table, rows.Group.Group, rows.Position.Position, rows.Stake.Stake, rows.Liability.Liability, rows.LiabilityKind.LiabilityKind, rows.Bank.Bank, rows.Rein.Rein, rows.Curve.Curve}
use Rattle.scr_sheet.specs.Records.{applied, with_fund, natural, kept_flows, kept_hold, absorb_place, cat_place, health_cat_place, with_absorb, lapse_place}
use Rattle.scr_sheet.specs.Users.{holder_of}
use Rattle.scr_sheet.specs.Forms.{Formed, IsName, AreFlows, AreOnDays}
use Rattle.scr_sheet.specs.Faults.{fault_of, list_fault, too_long, components_fault, unknown_name, unknown_row, unknown_group, unknown_component, wrong_kind, misplaced, misplaced_group, misplaced_holding, misplaced_component, in_use, cycle, fields_outside, first_fault, outside, outside_rates, outside_weight, outside_promise, above, liability_flows_outside, volumes_outside}
use Rattle.scr_sheet.specs.Validity.{Valid, AreWithin, AreVolumes, IsAmount, IsBetween, IsGroup, IsSecurity, IsStake, IsPromise, IsProjected, IsLiability, IsBank, IsRein, IsCurve, HasGroup, HasGroupOrNone, HasCurrency, IsHeld}
use Rattle.scr_sheet.specs.declared.edit.Edit.TheVariants as edits
use Rattle.scr_sheet.specs.declared.fault.Fault.TheVariants as faults
use Rattle.scr_sheet.specs.declared.fault.Quantity.TheVariants as quantities
use Rattle.scr_sheet.specs.declared.keys.AbsorbKey.TheVariants as absorb
use Rattle.scr_profile.specs.declared.set.Set.{Set}
use Rattle.scr_profile.specs.declared.set.Set.TheVariants as sets
use Rattle.scr_sheet.specs.declared.keys.Table.TheVariants as tables
use Rattle.scr_profile.specs.declared.limits.TheConstants.{MIN_RATE, MAX_RATE, MAX_RATES, MAX_DURATION, MAX_FLOWS, MAX_PROMISED, MAX_AMOUNT, MAX_SYM, MAX_TAX, MAX_HELD, MAX_LIABILITY_FLOWS, MAX_YEARS, MAX_CURRENCIES, MAX_SECURITIES, MAX_FUNDS, MAX_COMPONENTS, MAX_FUND_COMPONENTS, MIN_WEIGHT, MAX_WEIGHT, MAX_LIABILITIES, MAX_GROUPS, MAX_EXPOSURES}
use Rattle.scr_tables.proofs.TableRows.{IsFresh, same_name-is, same_name-flip, row_of-with_row_own, All-map, All-both, All-with_row, All-without, All-row_of, All-changed, has_row-with_row, has_row-without, has_row-changed, names-changed, sum-with_row, sum-without, sum-changed}
use Rattle.scr_sheet.proofs.Bounds.{neither, within_from_above, between_from_outside, all_from_first_fault, natural-le, natural-is}
use Rattle.scr_sheet.proofs.Projections.{one_or_other, each-with_flows, suits-with_flows, suits-no_flows, under-no_flows, or_false}
use Rattle.scr_sheet.proofs.Amounts.{All-set, All-placed, volumes-with_segment, with_asof, with_absorb as numbers-with_absorb, with_both_volumes, with_cats, with_lapse, with_due, with_op, with_sym, with_tax, with_fdb, with_intangible}
use Rattle.scr_sheet.proofs.Changes.{IsNew, new_from_is_named, valid-groups, valid-holdings, valid-securities, valid-funds, valid-liabilities, valid-banks, valid-reinsurers, valid-curves, valid-numbers, named-with_group, named-with_position, named-with_liability, named-with_bank, named-with_rein, named-with_fund, named-without_group, named-without_position, named-without_liability, named-without_bank, named-without_rein, named-without_fund, currencies-with_curve, currencies-without}
use Rattle.scr_sheet.proofs.Unused.{HasNoMember, no_member, IsIdle, idle, no_holder}
use Rattle.scr_sheet.proofs.FundChains.{acyclic-none, acyclic-with_fund, acyclic-without, acyclic-changed}
use Rattle.scr_sheet.proofs.Holds.{distinct-funds}

-- ---- what it says that a record has no fault

-- none of the kinds of faults
pub record Passes (edit : Edit) (sheet : BalanceSheet) : Type 0 where
  pub list : list_fault edit ≡ None
  pub known : unknown_name edit sheet ≡ None
  pub kind : wrong_kind edit sheet ≡ None
  pub free : in_use edit sheet ≡ None
  pub ending : cycle edit sheet ≡ None
  pub fields : fields_outside edit ≡ None
  pub liability_flows : liability_flows_outside edit (applied edit sheet) ≡ None
  pub volumes : volumes_outside edit (applied edit sheet) ≡ None
  pub held : held_total (applied edit sheet) ≤ MAX_HELD
  pub defaults : defaults_total (applied edit sheet) ≤ MAX_AMOUNT
  pub years : sheet_years (applied edit sheet) ≤ MAX_YEARS
  pub currencies : length (applied edit sheet).curves ≤ MAX_CURRENCIES
  pub securities : length (applied edit sheet).securities ≤ MAX_SECURITIES
  pub funds : length (applied edit sheet).funds ≤ MAX_FUNDS
  pub components : components_total (applied edit sheet) ≤ MAX_COMPONENTS
  pub liabilities : length (applied edit sheet).liabilities ≤ MAX_LIABILITIES
  pub groups : length (applied edit sheet).groups ≤ MAX_GROUPS
  pub exposures : length (applied edit sheet).banks + length (applied edit sheet).reinsurers ≤ MAX_EXPOSURES

pub passes : (edit : Edit) (sheet : BalanceSheet) → fault_of edit sheet ≡ None → Passes edit sheet
passes edit sheet none =
    let list = neither (list_fault edit) _ none in
    let known = neither (unknown_name edit sheet) _ list.1 in
    let kind = neither (wrong_kind edit sheet) _ known.1 in
    let free = neither (in_use edit sheet) _ kind.1 in
    let ending = neither (cycle edit sheet) _ free.1 in
    let fields = neither (fields_outside edit) _ ending.1 in
    let held = neither (above quantities.Held (held_total (applied edit sheet)) MAX_HELD) _ fields.1 in
    let flows = neither (liability_flows_outside edit (applied edit sheet)) _ held.1 in
    let volumes = neither (volumes_outside edit (applied edit sheet)) _ flows.1 in
    let defaults = neither (above quantities.Defaults (defaults_total (applied edit sheet)) MAX_AMOUNT) _ volumes.1 in
    let years = neither (above quantities.Years (sheet_years (applied edit sheet)) MAX_YEARS) _ defaults.1 in
    let currencies = neither (above quantities.Currencies (length (applied edit sheet).curves) MAX_CURRENCIES) _ years.1 in
    let securities = neither (above quantities.Securities (length (applied edit sheet).securities) MAX_SECURITIES) _ currencies.1 in
    let funds = neither (above quantities.Funds (length (applied edit sheet).funds) MAX_FUNDS) _ securities.1 in
    let components = neither (above quantities.Components (components_total (applied edit sheet)) MAX_COMPONENTS) _ funds.1 in
    let liabilities = neither (above quantities.Liabilities (length (applied edit sheet).liabilities) MAX_LIABILITIES) _ components.1 in
    let groups = neither (above quantities.Groups (length (applied edit sheet).groups) MAX_GROUPS) _ liabilities.1 in
    record {
      list = list.0;
      known = known.0;
      kind = kind.0;
      free = free.0;
      ending = ending.0;
      fields = fields.0;
      liability_flows = flows.0;
      volumes = volumes.0;
      held = within_from_above _ _ _ held.0;
      defaults = within_from_above _ _ _ defaults.0;
      years = within_from_above _ _ _ years.0;
      currencies = within_from_above _ _ _ currencies.0;
      securities = within_from_above _ _ _ securities.0;
      funds = within_from_above _ _ _ funds.0;
      components = within_from_above _ _ _ components.0;
      liabilities = within_from_above _ _ _ liabilities.0;
      groups = within_from_above _ _ _ groups.0;
      exposures = within_from_above _ _ _ groups.1;
    }

-- a fault comes unless the test passes, or exactly where it does
pub passed : (t : Bool) (fault : Fault) → (if t then None else Some fault) ≡ None → t ≡ true
passed t fault h = grind (arith, h)

pub failed : (t : Bool) (fault : Fault) → (if t then Some fault else None) ≡ None → t ≡ false
failed t fault h = grind (arith, h)

failed_first : (t : Bool) (fault : Fault) (rest : Option Fault) → (if t then Some fault else rest) ≡ None → (t ≡ false) × (rest ≡ None)
failed_first true fault rest h = absurd (cc)
failed_first false fault rest h = (refl, h)

no_user : (found : Option User) (name : List ℕ) → option_map (λ user. faults.InUse name user) found ≡ None → found ≡ None
no_user None name h = refl
no_user (Some user) name h = absurd (cc)

no_chain : (found : Option (List (List ℕ))) → option_map (λ path. faults.Cycle path) found ≡ None → found ≡ None
no_chain None h = refl
no_chain (Some path) h = absurd (cc)

-- a name that stands in no other table, and not in this one, is new
placed_well : (table : Table) (name : List ℕ) (sheet : BalanceSheet) → misplaced table name sheet ≡ None → is_in table name sheet ≡ false → is_named name sheet ≡ false
placed_well table name sheet none out =
    let well : (is_named name sheet && not (is_in table name sheet)) ≡ false = failed _ _ none in
    grind (arith, well, out)

new_name : (table : Table) (name : List ℕ) (sheet : BalanceSheet) → misplaced table name sheet ≡ None → is_in table name sheet ≡ false → IsNew name sheet
new_name table name sheet none out = new_from_is_named name sheet (placed_well table name sheet none out)

only_here : (named here : Bool) → named ≡ true → (named && not here) ≡ false → here ≡ true
only_here named here e h = grind (arith, e, h)

-- a name that exists, and in no other table, stands in this one
pub right_table : (table : Table) (name : List ℕ) (sheet : BalanceSheet) → unknown_row name sheet ≡ None → misplaced table name sheet ≡ None → is_in table name sheet ≡ true
right_table table name sheet known none = only_here (is_named name sheet) (is_in table name sheet) (passed _ _ known) (failed _ _ none)

-- what exists, and may be held, is a security or a fund
right_holding : (name : List ℕ) (sheet : BalanceSheet) → unknown_row name sheet ≡ None → misplaced_holding name sheet ≡ None → IsHeld sheet name
right_holding name sheet known none = only_here (is_named name sheet) (is_in tables.Security name sheet || is_in tables.Fund name sheet) (passed _ _ known) (failed _ _ none)

group_or_none : (group : Option (List ℕ)) (sheet : BalanceSheet) → unknown_group group sheet ≡ None → misplaced_group group sheet ≡ None → HasGroupOrNone sheet.groups group
group_or_none None sheet known none = tt
group_or_none (Some name) sheet known none = right_table tables.Group name sheet known none

not_longer : (first fields most number : ℕ) → too_long first fields most number ≡ None → number ≤ most
not_longer first fields most number none = ltb-false most number (failed _ _ none)

amounts : (values : List ℤ) → first_fault (outside quantities.Amount (pos 0) (pos MAX_AMOUNT)) values ≡ None → AllByRecursion (λ z. IsAmount (natural z)) values
amounts values none =
    All-map _ _ values (λ z h. natural-le MAX_AMOUNT z (between_from_outside quantities.Amount (pos 0) (pos MAX_AMOUNT) z h))
    (all_from_first_fault (outside quantities.Amount (pos 0) (pos MAX_AMOUNT)) values none)

on_days : (flows : List (Day × ℤ)) → AreFlows flows → AreOnDays flows
on_days flows formed = All-map _ _ flows (λ flow h. h.0) formed

-- ---- the quantities of the whole book

liability_flows_after : (edit : Edit) (sheet : BalanceSheet) → Valid sheet → liability_flows_outside edit (applied edit sheet) ≡ None → (projection : Projection) → liability_flows_total projection (applied edit sheet) ≤ MAX_LIABILITY_FLOWS
liability_flows_after (edits.Liability name kind currency) sheet valid none projection =
    let f : Liability → ℕ = λ l. total (flows_under projection l.flows) in
    let new : Liability = record { name = name; kind = kind; currency = currency; flows = option_map_or (λ l. l.flows) (row_of liability_name name sheet.liabilities) no_flows } in
    let sum = sum-with_row liability_name f new sheet.liabilities in
    let same : f new ≡ option_map_or f (row_of liability_name name sheet.liabilities) 0 = by (row_of liability_name name sheet.liabilities) in
    let most = valid.within.liability_flows projection in
    omega arith
  where
    by : (found : Option Liability) → total (flows_under projection (option_map_or (λ l. l.flows) found no_flows)) ≡ option_map_or (λ l. total (flows_under projection l.flows)) found 0
    by None = ap total (under-no_flows projection)
    by (Some l) = refl
liability_flows_after (edits.LiabilityFlows liability p flows) sheet valid none projection =
    elim (one_or_other p projection) [
      | inl e ↦ subst (λ (q : Projection). liability_flows_total q (applied (edits.LiabilityFlows liability p flows) sheet) ≤ MAX_LIABILITY_FLOWS) e (within_from_above quantities.LiabilityFlows _ _ none)
      | inr e ↦
          let f : Liability → ℕ = λ l. total (flows_under projection l.flows) in
          let same : liability_flows_total projection (applied (edits.LiabilityFlows liability p flows) sheet) ≡ sum_by f sheet.liabilities =
          sum-changed liability_name f (λ l. record l { flows = with_flows p flows l.flows }) liability sheet.liabilities (λ l. refl) (λ l. ap total (e flows l.flows)) in
          subst (λ (n : ℕ). n ≤ MAX_LIABILITY_FLOWS) (sym same) (valid.within.liability_flows projection)
    ]
liability_flows_after (edits.Remove tables.Liability name) sheet valid none projection =
    let f : Liability → ℕ = λ l. total (flows_under projection l.flows) in
    let sum = sum-without liability_name f name sheet.liabilities in
    let most = valid.within.liability_flows projection in
    omega arith
liability_flows_after edit sheet valid none projection = valid.within.liability_flows projection

volumes_after : (edit : Edit) (sheet : BalanceSheet) → Valid sheet → volumes_outside edit (applied edit sheet) ≡ None → (set : Set) → volumes_total set (applied edit sheet) ≤ MAX_AMOUNT
volumes_after (edits.Segment sets.Nl number region premium reserve) sheet valid none sets.Nl = within_from_above quantities.Volumes _ _ none
volumes_after (edits.Segment sets.Nslt number region premium reserve) sheet valid none sets.Nslt = within_from_above quantities.Volumes _ _ none
volumes_after (edits.Remove tables.Group name) sheet valid none set = valid.within.volumes set
volumes_after edit sheet valid none sets.Nl = valid.within.volumes sets.Nl
volumes_after edit sheet valid none sets.Nslt = valid.within.volumes sets.Nslt

within_after : (edit : Edit) (sheet : BalanceSheet) → Valid sheet → Passes edit sheet → AreWithin (applied edit sheet)
within_after edit sheet valid p =
    record {
      held = p.held;
      liability_flows = liability_flows_after edit sheet valid p.liability_flows;
      volumes = volumes_after edit sheet valid p.volumes;
      defaults = p.defaults;
      years = p.years;
      currencies = p.currencies;
      securities = p.securities;
      funds = p.funds;
      components = p.components;
      liabilities = p.liabilities;
      groups = p.groups;
      exposures = p.exposures;
    }

-- ---- record by record

valid_asof : (date : Day) (currency : List ℕ) (sheet : BalanceSheet) → Formed (edits.Asof date currency) → Valid sheet → Passes (edits.Asof date currency) sheet → Valid (applied (edits.Asof date currency) sheet)
valid_asof date currency sheet formed valid p =
    valid-numbers sheet valid _ (with_asof sheet.numbers date currency valid.numbers formed.0 formed.1) (passed _ _ p.known) (within_after (edits.Asof date currency) sheet valid p)

-- the securities, the liabilities and the reporting currency keep their curves where each currency keeps its own
module _ (sheet : BalanceSheet) (valid : Valid sheet) (curves : List Curve) (kept : (currency : List ℕ) → HasCurrency sheet.curves currency → HasCurrency curves currency) where
  kept_securities : AllByRecursion (λ p. HasCurrency curves p.security.currency) sheet.securities
  kept_securities = All-map _ _ sheet.securities (λ s h. kept s.security.currency h) valid.known.security_currencies

  kept_liabilities : AllByRecursion (λ l. HasCurrency curves l.currency) sheet.liabilities
  kept_liabilities = All-map _ _ sheet.liabilities (λ l h. kept l.currency h) valid.known.liability_currencies

valid_curve : (currency : List ℕ) (rates : List ℤ) (sheet : BalanceSheet) → Formed (edits.Curve currency rates) → Valid sheet → Passes (edits.Curve currency rates) sheet → Valid (applied (edits.Curve currency rates) sheet)
valid_curve currency [] sheet formed valid p = let h = p.list in absurd (cc)
valid_curve currency (rate ∷ rates) sheet formed valid p =
    let old : Option Curve = row_of curve_name currency sheet.curves in
    let new : Curve = record { currency = currency; rates = rate ∷ rates; absorb_up = option_map_or (λ c. c.absorb_up) old 0; absorb_down = option_map_or (λ c. c.absorb_down) old 0 } in
    let within_rates : AllByRecursion (IsBetween MIN_RATE MAX_RATE) (rate ∷ rates) =
    All-map _ _ (rate ∷ rates) (λ z h. between_from_outside quantities.Rate MIN_RATE MAX_RATE z h) (all_from_first_fault outside_rates (rate ∷ rates) p.fields) in
    let kept : (other : List ℕ) → HasCurrency sheet.curves other → HasCurrency (with_row curve_name new sheet.curves) other = λ other h. has_row-with_row curve_name other new sheet.curves h in
    let own : IsCurve new = (formed.0, within_rates, omega arith, not_longer 2 1 MAX_RATES (length (rate ∷ rates)) p.list, up old refl, down old refl) in
    valid-curves sheet valid (with_row curve_name new sheet.curves) sheet.numbers (All-with_row curve_name IsCurve new sheet.curves own valid.curves) valid.numbers
    (currencies-with_curve new sheet.curves valid.currencies_once) (kept_securities sheet valid _ kept) (kept_liabilities sheet valid _ kept) (kept sheet.numbers.currency valid.known.reporting)
    (within_after (edits.Curve currency (rate ∷ rates)) sheet valid p)
  where
    up : (found : Option Curve) → row_of curve_name currency sheet.curves ≡ found → IsAmount (option_map_or (λ c. c.absorb_up) found 0)
    up None e = omega arith
    up (Some c) e = let own : IsCurve c = All-row_of curve_name IsCurve currency sheet.curves c e valid.curves in own.4

    down : (found : Option Curve) → row_of curve_name currency sheet.curves ≡ found → IsAmount (option_map_or (λ c. c.absorb_down) found 0)
    down None e = omega arith
    down (Some c) e = let own : IsCurve c = All-row_of curve_name IsCurve currency sheet.curves c e valid.curves in own.5

-- the securities, banks and reinsurers keep their groups where each group that is there stays
module _ (sheet : BalanceSheet) (valid : Valid sheet) (groups : List Group) (kept : (name : List ℕ) → HasGroup sheet.groups name → HasGroup groups name) where
  kept_or_none : (group : Option (List ℕ)) → HasGroupOrNone sheet.groups group → HasGroupOrNone groups group
  kept_or_none None h = tt
  kept_or_none (Some name) h = kept name h

  kept_security_groups : AllByRecursion (λ p. HasGroupOrNone groups p.security.group) sheet.securities
  kept_security_groups = All-map _ _ sheet.securities (λ s h. kept_or_none s.security.group h) valid.known.security_groups

  kept_bank_groups : AllByRecursion (λ b. HasGroup groups b.group) sheet.banks
  kept_bank_groups = All-map _ _ sheet.banks (λ b h. kept b.group h) valid.known.bank_groups

  kept_rein_groups : AllByRecursion (λ r. HasGroup groups r.group) sheet.reinsurers
  kept_rein_groups = All-map _ _ sheet.reinsurers (λ r h. kept r.group h) valid.known.rein_groups

valid_group : (new : Group) (sheet : BalanceSheet) → Formed (edits.Group new.name new.kind new.step) → Valid sheet → Passes (edits.Group new.name new.kind new.step) sheet → Valid (applied (edits.Group new.name new.kind new.step) sheet)
valid_group new sheet formed valid p =
    let groups : List Group = with_row group_name new sheet.groups in
    let kept : (other : List ℕ) → HasGroup sheet.groups other → HasGroup groups other = λ other h. has_row-with_row group_name other new sheet.groups h in
    valid-groups sheet valid groups (All-with_row group_name IsGroup new sheet.groups formed valid.groups)
    (named-with_group sheet valid.named_once new (λ out. new_name tables.Group new.name sheet p.kind out))
    (kept_security_groups sheet valid groups kept) (kept_bank_groups sheet valid groups kept) (kept_rein_groups sheet valid groups kept)
    (within_after (edits.Group new.name new.kind new.step) sheet valid p)

-- the components of funds exist still where each security and fund is there still
kept_components : (sheet : BalanceSheet) → Valid sheet → (after : BalanceSheet) → ((name : List ℕ) → IsHeld sheet name → IsHeld after name) → AllByRecursion (λ s. AllByRecursion (λ c. IsHeld after c.0) s.fund.components) sheet.funds
kept_components sheet valid after kept = All-map _ _ sheet.funds (λ s all. All-map _ _ s.fund.components (λ c h. kept c.0 h) all) valid.known.components

-- one of two still holds
or_kept : (a b c d : Bool) → (a ≡ true → c ≡ true) → (b ≡ true → d ≡ true) → (a || b) ≡ true → (c || d) ≡ true
or_kept a b c d left right h = grind (arith, left, right, h)

-- ---- securities

within_duration : (z : ℤ) → outside quantities.Duration (pos 0) MAX_DURATION z ≡ None → pos (natural z) ≤ℤ MAX_DURATION
within_duration z none =
    let between = between_from_outside quantities.Duration (pos 0) MAX_DURATION z none in
    subst (λ (v : ℤ). v ≤ℤ MAX_DURATION) (sym (natural-is z between.0)) between.1

module _ (sheet : BalanceSheet) (valid : Valid sheet) where
  promise_kept : (name : List ℕ) → IsPromise (kept_flows name sheet.securities)
  promise_kept name = by (row_of position_name name sheet.securities) refl
    where
      by : (found : Option Position) → row_of position_name name sheet.securities ≡ found → IsPromise (option_map_or (λ p. p.security.flows) found [])
      by None e = (tt, tt, omega arith, omega arith)
      by (Some position) e = let own : IsSecurity position = All-row_of position_name IsSecurity name sheet.securities position e valid.securities in own.4

  -- a security changed, but for its name, its group and its currency
  changed_securities : (change : Position → Position) (name : List ℕ) → ((position : Position) → position_name (change position) ≡ position_name position) → ((position : Position) → (change position).security.group ≡ position.security.group)
      → ((position : Position) → (change position).security.currency ≡ position.security.currency) → ((position : Position) → IsSecurity position → IsSecurity (change position))
      → let after : BalanceSheet = record sheet { securities = changed position_name change name sheet.securities } in AreWithin after → Valid after
  changed_securities change name named grouped priced keeps within =
      let securities : List Position = changed position_name change name sheet.securities in
      valid-securities sheet valid securities (All-changed position_name IsSecurity change name sheet.securities (λ position e h. keeps position h) valid.securities)
      (let same : names_of sheet ≡ names_of (record sheet { securities = securities }) = ap (λ ns. map group_name sheet.groups ++ (ns ++ (map liability_name sheet.liabilities ++ (map bank_name sheet.banks ++ (map rein_name sheet.reinsurers ++ map stake_name sheet.funds))))) (sym (names-changed position_name change name sheet.securities named)) in
      subst (IsDistinct same_name) same valid.named_once)
      (All-changed position_name (λ s. HasGroupOrNone sheet.groups s.security.group) change name sheet.securities (λ position e h. subst (HasGroupOrNone sheet.groups) (sym (grouped position)) h) valid.known.security_groups)
      (All-changed position_name (λ s. HasCurrency sheet.curves s.security.currency) change name sheet.securities (λ position e h. subst (HasCurrency sheet.curves) (sym (priced position)) h) valid.known.security_currencies)
      (kept_components sheet valid (record sheet { securities = securities }) (λ other h. or_kept _ _ _ _ (has_row-changed position_name other change name sheet.securities) (λ e. e) h)) within

valid_security : (new : Position) (duration : ℤ) (sheet : BalanceSheet) → new.security.duration ≡ natural duration → new.security.flows ≡ kept_flows new.security.name sheet.securities
    → Formed (edits.Security new.security.name new.security.class new.security.group new.security.currency duration) → Valid sheet
    → Passes (edits.Security new.security.name new.security.class new.security.group new.security.currency duration) sheet
    → AreWithin (record sheet { securities = with_row position_name new sheet.securities }) → Valid (record sheet { securities = with_row position_name new sheet.securities })
valid_security new duration sheet long flows formed valid p within =
    let known = neither _ _ p.known in
    let kind = neither _ _ p.kind in
    let promise : IsPromise new.security.flows = subst IsPromise (sym flows) (promise_kept sheet valid new.security.name) in
    let short : pos new.security.duration ≤ℤ MAX_DURATION = subst (λ (n : ℕ). pos n ≤ℤ MAX_DURATION) (sym long) (within_duration duration p.fields) in
    let own : IsSecurity new = (formed.0, formed.1, formed.2, short, promise) in
    let currency : HasCurrency sheet.curves new.security.currency = passed _ _ known.1 in
    valid-securities sheet valid (with_row position_name new sheet.securities) (All-with_row position_name IsSecurity new sheet.securities own valid.securities)
    (named-with_position sheet valid.named_once new (λ out. new_name tables.Security new.security.name sheet kind.0 out))
    (All-with_row position_name (λ s. HasGroupOrNone sheet.groups s.security.group) new sheet.securities (group_or_none new.security.group sheet known.0 kind.1) valid.known.security_groups)
    (All-with_row position_name (λ s. HasCurrency sheet.curves s.security.currency) new sheet.securities currency valid.known.security_currencies)
    (kept_components sheet valid (record sheet { securities = with_row position_name new sheet.securities }) (λ other h. or_kept _ _ _ _ (has_row-with_row position_name other new sheet.securities) (λ e. e) h)) within

valid_flows : (security : List ℕ) (flows : List (Day × ℤ)) (sheet : BalanceSheet) → Formed (edits.Flows security flows) → Valid sheet → Passes (edits.Flows security flows) sheet → Valid (applied (edits.Flows security flows) sheet)
valid_flows security flows sheet formed valid p =
    let fields = neither (first_fault outside_promise flows) _ p.fields in
    let each : AllByRecursion (λ flow. IsBetween (pos 0) (pos MAX_PROMISED) flow.1) flows =
    All-map _ _ flows (λ flow h. between_from_outside quantities.Flow (pos 0) (pos MAX_PROMISED) flow.1 h) (all_from_first_fault outside_promise flows fields.0) in
    let promise : IsPromise flows = (on_days flows formed.1, each, not_longer 2 2 MAX_FLOWS (length flows) p.list, within_from_above quantities.SecFlows (total flows) MAX_PROMISED fields.1) in
    changed_securities sheet valid (λ s. record s { security = record s.security { flows = flows } }) security (λ s. refl) (λ s. refl) (λ s. refl)
    (λ s h. (h.0, h.1, h.2, h.3, promise)) (within_after (edits.Flows security flows) sheet valid p)

-- ---- funds

-- what it says that the components have no fault: there are not too many, none is one of those met before, and no two are one
pub record AreOnce (left : ℕ) (met : List (List ℕ)) (components : List (List ℕ × ℤ)) : Type 0 where
  pub count : length components ≤ left
  pub new : AllByRecursion (λ c. list_any (same_name c.0) met ≡ false) components
  pub apart : IsDistinct same_name (map (λ c. c.0) components)

pub fresh_components : (name : List ℕ) (met : List (List ℕ)) (components : List (List ℕ × ℤ)) → AllByRecursion (λ c. list_any (same_name c.0) (name ∷ met) ≡ false) components
    → IsFresh name (map (λ c. c.0) components) × AllByRecursion (λ c. list_any (same_name c.0) met ≡ false) components
fresh_components name met [] new = (tt, tt)
fresh_components name met (c ∷ cs) new =
    let both = or_false (same_name c.0 name) (list_any (same_name c.0) met) new.0 in
    let rest = fresh_components name met cs new.1 in
    ((same_name-flip name c.0 ∙ both.0, rest.0), (both.1, rest.1))

pub once : (field left : ℕ) (met : List (List ℕ)) (components : List (List ℕ × ℤ)) → components_fault field left met components ≡ None → AreOnce left met components
unfolding IsDistinct
once field left met [] none = record { count = omega arith; new = tt; apart = tt }
once field zero met (c ∷ cs) none = absurd (cc)
once field (suc left) met (c ∷ cs) none =
    let both = failed_first _ _ _ none in
    let rest = once (field + 2) left (c.0 ∷ met) cs both.1 in
    let apart = fresh_components c.0 met cs rest.new in
    let count = rest.count in
    record { count = omega (arith, count); new = (both.0, apart.1); apart = (apart.0, rest.apart) }

-- a component is the fund itself, or exists and may be held
pub known_component : (name : List ℕ) (sheet : BalanceSheet) (c : List ℕ × ℤ) → unknown_component name sheet c ≡ None → misplaced_component name sheet c ≡ None → (same_name c.0 name ≡ true) ⊎ IsHeld sheet c.0
known_component name sheet c known kind = by (same_name c.0 name) known kind
  where
    by : (t : Bool) → (if t then None else unknown_row c.0 sheet) ≡ None → (if t then None else misplaced_holding c.0 sheet) ≡ None → (t ≡ true) ⊎ IsHeld sheet c.0
    by true known kind = inl refl
    by false known kind = inr (right_holding c.0 sheet known kind)

valid_fund : (name : List ℕ) (components : List (List ℕ × ℤ)) (sheet : BalanceSheet) → Formed (edits.Fund name components) → Valid sheet → Passes (edits.Fund name components) sheet → Valid (applied (edits.Fund name components) sheet)
valid_fund name components sheet formed valid p =
    let new : Stake = record { fund = record { name = name; components = components }; held = option_map_or (λ s. s.held) (row_of stake_name name sheet.funds) 0 } in
    let after : BalanceSheet = applied (edits.Fund name components) sheet in
    let kind = neither _ _ p.kind in
    let listed = once 2 MAX_FUND_COMPONENTS [] components p.list in
    let weighed = all_from_first_fault outside_weight components p.fields in
    let own : IsStake new =
    (formed.0, All-both _ _ (λ c. IsName c.0 × IsBetween MIN_WEIGHT MAX_WEIGHT c.1) components (λ c h w. (h.0, between_from_outside quantities.Weight MIN_WEIGHT MAX_WEIGHT c.1 w)) formed.1 weighed, listed.count, listed.apart) in
    let kept : (other : List ℕ) → IsHeld sheet other → IsHeld after other = λ other h. or_kept _ _ _ _ (λ e. e) (has_row-with_row stake_name other new sheet.funds) h in
    let known : AllByRecursion (λ c. IsHeld after c.0) components =
    All-both _ _ (λ c. IsHeld after c.0) components (λ c known kind. held_component kept c (known_component name sheet c known kind)) (all_from_first_fault (unknown_component name sheet) components p.known)
    (all_from_first_fault (misplaced_component name sheet) components kind.1) in
    valid-funds sheet valid (with_row stake_name new sheet.funds) (All-with_row stake_name IsStake new sheet.funds own valid.funds)
    (named-with_fund sheet valid.named_once new (λ out. new_name tables.Fund name sheet kind.0 out))
    (All-with_row stake_name (λ s. AllByRecursion (λ c. IsHeld after c.0) s.fund.components) new sheet.funds known (kept_components sheet valid after kept))
    (acyclic-with_fund sheet.funds valid.acyclic name components (no_chain _ p.ending)) (within_after (edits.Fund name components) sheet valid p)
  where
    held_component : ((other : List ℕ) → IsHeld sheet other → IsHeld (applied (edits.Fund name components) sheet) other) → (c : List ℕ × ℤ) → (same_name c.0 name ≡ true) ⊎ IsHeld sheet c.0
        → IsHeld (applied (edits.Fund name components) sheet) c.0
    held_component kept c (inl e) =
        let found : has_row stake_name c.0 (with_fund name components sheet.funds) ≡ true = ap (λ n. has_row stake_name n (with_fund name components sheet.funds)) (same_name-is c.0 name e) ∙ ap is_some (row_of-with_row_own stake_name _ sheet.funds) in
        or_right (has_row position_name c.0 sheet.securities) _ found
    held_component kept c (inr h) = kept c.0 h

-- ---- what is held

valid_hold : (name : List ℕ) (cents : ℤ) (sheet : BalanceSheet) → Valid sheet → Passes (edits.Hold name cents) sheet → Valid (applied (edits.Hold name cents) sheet)
valid_hold name cents sheet valid p =
    let position_now : Position → Position = λ s. record s { held = natural cents } in
    let stake_now : Stake → Stake = λ s. record s { held = natural cents } in
    let after : BalanceSheet = applied (edits.Hold name cents) sheet in
    let same_positions : map position_name after.securities ≡ map position_name sheet.securities = names-changed position_name position_now name sheet.securities (λ s. refl) in
    let same_stakes : map stake_name after.funds ≡ map stake_name sheet.funds = names-changed stake_name stake_now name sheet.funds (λ s. refl) in
    let same : names_of sheet ≡ names_of after =
    ap (λ ns. map group_name sheet.groups ++ (ns ++ (map liability_name sheet.liabilities ++ (map bank_name sheet.banks ++ (map rein_name sheet.reinsurers ++ map stake_name sheet.funds))))) (sym same_positions)
    ∙ ap (λ ns. map group_name sheet.groups ++ (map position_name after.securities ++ (map liability_name sheet.liabilities ++ (map bank_name sheet.banks ++ (map rein_name sheet.reinsurers ++ ns))))) (sym same_stakes) in
    let kept : (other : List ℕ) → IsHeld sheet other → IsHeld after other =
    λ other h. or_kept _ _ _ _ (has_row-changed position_name other position_now name sheet.securities) (has_row-changed stake_name other stake_now name sheet.funds) h in
    valid-holdings sheet valid after.securities after.funds (All-changed position_name IsSecurity position_now name sheet.securities (λ s e h. h) valid.securities)
    (All-changed stake_name IsStake stake_now name sheet.funds (λ s e h. h) valid.funds) (subst (IsDistinct same_name) same valid.named_once)
    (All-changed position_name (λ s. HasGroupOrNone sheet.groups s.security.group) position_now name sheet.securities (λ s e h. h) valid.known.security_groups)
    (All-changed position_name (λ s. HasCurrency sheet.curves s.security.currency) position_now name sheet.securities (λ s e h. h) valid.known.security_currencies)
    (All-changed stake_name (λ s. AllByRecursion (λ c. IsHeld after c.0) s.fund.components) stake_now name sheet.funds (λ s e h. h) (kept_components sheet valid after kept))
    (acyclic-changed sheet.funds valid.acyclic stake_now name (λ s. refl) (λ s. refl)) (within_after (edits.Hold name cents) sheet valid p)

-- ---- liabilities

valid_liability : (name : List ℕ) (kind : LiabilityKind) (currency : List ℕ) (sheet : BalanceSheet) → Formed (edits.Liability name kind currency) → Valid sheet → Passes (edits.Liability name kind currency) sheet → Valid (applied (edits.Liability name kind currency) sheet)
valid_liability name kind currency sheet formed valid p =
    let new : Liability = record { name = name; kind = kind; currency = currency; flows = option_map_or (λ l. l.flows) (row_of liability_name name sheet.liabilities) no_flows } in
    let own : IsLiability new = (formed.0, formed.1, suit (row_of liability_name name sheet.liabilities) (passed _ _ p.free), projected (row_of liability_name name sheet.liabilities) refl) in
    let known : HasCurrency sheet.curves currency = passed _ _ p.known in
    valid-liabilities sheet valid (with_row liability_name new sheet.liabilities) (All-with_row liability_name IsLiability new sheet.liabilities own valid.liabilities)
    (named-with_liability sheet valid.named_once new (λ out. new_name tables.Liability name sheet p.kind out))
    (All-with_row liability_name (λ l. HasCurrency sheet.curves l.currency) new sheet.liabilities known valid.known.liability_currencies) (within_after (edits.Liability name kind currency) sheet valid p)
  where
    suit : (found : Option Liability) → option_map_or (λ l. suits kind l.flows) found true ≡ true → IsTrue (suits kind (option_map_or (λ l. l.flows) found no_flows))
    suit None h = suits-no_flows kind
    suit (Some l) h = h

    projected : (found : Option Liability) → row_of liability_name name sheet.liabilities ≡ found → (projection : Projection) → IsProjected (flows_under projection (option_map_or (λ l. l.flows) found no_flows))
    projected None e projection = subst IsProjected (sym (under-no_flows projection)) (tt, omega arith)
    projected (Some l) e projection = let old : IsLiability l = All-row_of liability_name IsLiability name sheet.liabilities l e valid.liabilities in old.3 projection

valid_liability_flows : (liability : List ℕ) (q : Projection) (flows : List (Day × ℤ)) (sheet : BalanceSheet) → Formed (edits.LiabilityFlows liability q flows) → Valid sheet → Passes (edits.LiabilityFlows liability q flows) sheet → Valid (applied (edits.LiabilityFlows liability q flows) sheet)
valid_liability_flows liability q flows sheet formed valid p =
    let change : Liability → Liability = λ l. record l { flows = with_flows q flows l.flows } in
    let liabilities : List Liability = changed liability_name change liability sheet.liabilities in
    let kind = neither _ _ p.kind in
    let new : IsProjected flows = (on_days flows formed.1, not_longer 3 2 MAX_FLOWS (length flows) p.list) in
    let has : (l : Liability) → row_of liability_name liability sheet.liabilities ≡ Some l → has_projection l.kind q ≡ true = λ l e. sym (ap (λ o. option_map_or (λ r. has_projection r.kind q) o true) e) ∙ passed _ _ kind.1 in
    let keeps : (l : Liability) → row_of liability_name liability sheet.liabilities ≡ Some l → IsLiability l → IsLiability (change l) =
    λ l e h. (h.0, h.1, suits-with_flows l.kind flows l.flows q (has l e) h.2, each-with_flows IsProjected flows l.flows q new h.3) in
    let same : names_of sheet ≡ names_of (record sheet { liabilities = liabilities }) =
    ap (λ ns. map group_name sheet.groups ++ (map position_name sheet.securities ++ (ns ++ (map bank_name sheet.banks ++ (map rein_name sheet.reinsurers ++ map stake_name sheet.funds))))) (sym (names-changed liability_name change liability sheet.liabilities (λ l. refl))) in
    valid-liabilities sheet valid liabilities (All-changed liability_name IsLiability change liability sheet.liabilities keeps valid.liabilities) (subst (IsDistinct same_name) same valid.named_once)
    (All-changed liability_name (λ l. HasCurrency sheet.curves l.currency) change liability sheet.liabilities (λ l e h. h) valid.known.liability_currencies) (within_after (edits.LiabilityFlows liability q flows) sheet valid p)

-- ---- absorptions

module _ (cents : ℕ) (small : IsAmount cents) (curves : List Curve) where
  absorbing_curves : (key : AbsorbKey) → AllByRecursion IsCurve curves → AllByRecursion IsCurve (with_absorb key cents curves)
  absorbing_curves (absorb.CurrencyUp currency) all = All-changed curve_name IsCurve (λ c. record c { absorb_up = cents }) currency curves (λ c e h. (h.0, h.1, h.2, h.3, small, h.5)) all
  absorbing_curves (absorb.CurrencyDown currency) all = All-changed curve_name IsCurve (λ c. record c { absorb_down = cents }) currency curves (λ c e h. (h.0, h.1, h.2, h.3, h.4, small)) all
  absorbing_curves key all = all

absorbing_names : (key : AbsorbKey) (cents : ℕ) (curves : List Curve) → map curve_name (with_absorb key cents curves) ≡ map curve_name curves
absorbing_names (absorb.CurrencyUp currency) cents curves = names-changed curve_name (λ c. record c { absorb_up = cents }) currency curves (λ c. refl)
absorbing_names (absorb.CurrencyDown currency) cents curves = names-changed curve_name (λ c. record c { absorb_down = cents }) currency curves (λ c. refl)
absorbing_names key cents curves = refl

absorbing_has : (key : AbsorbKey) (cents : ℕ) (curves : List Curve) (other : List ℕ) → HasCurrency curves other → HasCurrency (with_absorb key cents curves) other
absorbing_has (absorb.CurrencyUp currency) cents curves other h = has_row-changed curve_name other (λ c. record c { absorb_up = cents }) currency curves h
absorbing_has (absorb.CurrencyDown currency) cents curves other h = has_row-changed curve_name other (λ c. record c { absorb_down = cents }) currency curves h
absorbing_has key cents curves other h = h

valid_absorb : (key : AbsorbKey) (cents : ℤ) (sheet : BalanceSheet) → Valid sheet → Passes (edits.Absorb key cents) sheet → Valid (applied (edits.Absorb key cents) sheet)
valid_absorb key cents sheet valid p =
    let small : IsAmount (natural cents) = (amounts (cents ∷ []) p.fields).0 in
    let curves : List Curve = with_absorb key (natural cents) sheet.curves in
    let kept : (other : List ℕ) → HasCurrency sheet.curves other → HasCurrency curves other = λ other h. absorbing_has key (natural cents) sheet.curves other h in
    valid-curves sheet valid curves _ (absorbing_curves (natural cents) small sheet.curves key valid.curves)
    (numbers-with_absorb sheet.numbers _ valid.numbers (All-placed (absorb_place key) (natural cents) sheet.numbers.absorb small valid.numbers.absorb))
    (subst (IsDistinct same_name) (sym (absorbing_names key (natural cents) sheet.curves)) valid.currencies_once)
    (kept_securities sheet valid curves kept) (kept_liabilities sheet valid curves kept) (kept sheet.numbers.currency valid.known.reporting) (within_after (edits.Absorb key cents) sheet valid p)

-- ---- banks and reinsurers

valid_bank : (name group : List ℕ) (cents : ℤ) (sheet : BalanceSheet) → Formed (edits.Bank name group cents) → Valid sheet → Passes (edits.Bank name group cents) sheet → Valid (applied (edits.Bank name group cents) sheet)
valid_bank name group cents sheet formed valid p =
    let new : Bank = record { name = name; group = group; cents = natural cents } in
    let kind = neither _ _ p.kind in
    let own : IsBank new = (formed.0, formed.1, (amounts (cents ∷ []) p.fields).0) in
    let has : HasGroup sheet.groups group = right_table tables.Group group sheet p.known kind.1 in
    valid-banks sheet valid (with_row bank_name new sheet.banks) (All-with_row bank_name IsBank new sheet.banks own valid.banks)
    (named-with_bank sheet valid.named_once new (λ out. new_name tables.Bank name sheet kind.0 out))
    (All-with_row bank_name (λ b. HasGroup sheet.groups b.group) new sheet.banks has valid.known.bank_groups) (within_after (edits.Bank name group cents) sheet valid p)

valid_rein : (name group : List ℕ) (recoverables mitigation collateral : ℤ) (sheet : BalanceSheet) → Formed (edits.Rein name group recoverables mitigation collateral) → Valid sheet
    → Passes (edits.Rein name group recoverables mitigation collateral) sheet → Valid (applied (edits.Rein name group recoverables mitigation collateral) sheet)
valid_rein name group recoverables mitigation collateral sheet formed valid p =
    let new : Rein = record { name = name; group = group; recoverables = natural recoverables; mitigation = natural mitigation; collateral = natural collateral } in
    let kind = neither _ _ p.kind in
    let small = amounts (recoverables ∷ mitigation ∷ collateral ∷ []) p.fields in
    let own : IsRein new = (formed.0, formed.1, small.0, small.1.0, small.1.1.0) in
    let has : HasGroup sheet.groups group = right_table tables.Group group sheet p.known kind.1 in
    valid-reinsurers sheet valid (with_row rein_name new sheet.reinsurers) (All-with_row rein_name IsRein new sheet.reinsurers own valid.reinsurers)
    (named-with_rein sheet valid.named_once new (λ out. new_name tables.Rein name sheet kind.0 out))
    (All-with_row rein_name (λ r. HasGroup sheet.groups r.group) new sheet.reinsurers has valid.known.rein_groups) (within_after (edits.Rein name group recoverables mitigation collateral) sheet valid p)

-- ---- rows dropped

without_group : (name : List ℕ) (sheet : BalanceSheet) → Valid sheet → Passes (edits.Remove tables.Group name) sheet → Valid (applied (edits.Remove tables.Group name) sheet)
without_group name sheet valid p =
    let free : HasNoMember name sheet = no_member name sheet (no_user _ name p.free) in
    let groups : List Group = without group_name name sheet.groups in
    let kept : (other : List ℕ) → same_name name other ≡ false → HasGroup sheet.groups other → HasGroup groups other = λ other apart h. has_row-without group_name other name sheet.groups apart h in
    valid-groups sheet valid groups (All-without group_name IsGroup name sheet.groups valid.groups) (named-without_group sheet valid.named_once name)
    (All-both _ _ (λ s. HasGroupOrNone groups s.security.group) sheet.securities (λ s h apart. kept_group s.security.group h apart) valid.known.security_groups free.securities)
    (All-both _ _ (λ b. HasGroup groups b.group) sheet.banks (λ b h apart. kept b.group apart h) valid.known.bank_groups free.banks)
    (All-both _ _ (λ r. HasGroup groups r.group) sheet.reinsurers (λ r h apart. kept r.group apart h) valid.known.rein_groups free.reinsurers)
    (within_after (edits.Remove tables.Group name) sheet valid p)
  where
    kept_group : (group : Option (List ℕ)) → HasGroupOrNone sheet.groups group → option_map_or (same_name name) group false ≡ false → HasGroupOrNone (without group_name name sheet.groups) group
    kept_group None h apart = tt
    kept_group (Some other) h apart = has_row-without group_name other name sheet.groups apart h

without_curve : (name : List ℕ) (sheet : BalanceSheet) → Valid sheet → Passes (edits.Remove tables.Curve name) sheet → Valid (applied (edits.Remove tables.Curve name) sheet)
without_curve name sheet valid p =
    let free : IsIdle name sheet = idle name sheet (no_user _ name p.free) in
    let curves : List Curve = without curve_name name sheet.curves in
    let kept : (other : List ℕ) → HasCurrency sheet.curves other → same_name name other ≡ false → HasCurrency curves other = λ other h apart. has_row-without curve_name other name sheet.curves apart h in
    valid-curves sheet valid curves sheet.numbers (All-without curve_name IsCurve name sheet.curves valid.curves) valid.numbers (currencies-without name sheet.curves valid.currencies_once)
    (All-both _ _ (λ s. HasCurrency curves s.security.currency) sheet.securities (λ s h apart. kept s.security.currency h apart) valid.known.security_currencies free.securities)
    (All-both _ _ (λ l. HasCurrency curves l.currency) sheet.liabilities (λ l h apart. kept l.currency h apart) valid.known.liability_currencies free.liabilities)
    (kept sheet.numbers.currency valid.known.reporting free.reporting) (within_after (edits.Remove tables.Curve name) sheet valid p)

-- no component is the name that goes, so each is there still
module _ (name : List ℕ) (sheet : BalanceSheet) (valid : Valid sheet) (unused : holder_of name sheet ≡ None) (after : BalanceSheet) (kept : (other : List ℕ) → same_name name other ≡ false → IsHeld sheet other → IsHeld after other) where
  unused_components : AllByRecursion (λ s. AllByRecursion (λ c. IsHeld after c.0) s.fund.components) sheet.funds
  unused_components =
      All-both _ _ (λ s. AllByRecursion (λ c. IsHeld after c.0) s.fund.components) sheet.funds
      (λ s all apart. All-both _ _ (λ c. IsHeld after c.0) s.fund.components (λ c h e. kept c.0 e h) all apart) valid.known.components (no_holder name sheet unused)

without_security : (name : List ℕ) (sheet : BalanceSheet) → Valid sheet → Passes (edits.Remove tables.Security name) sheet → Valid (applied (edits.Remove tables.Security name) sheet)
without_security name sheet valid p =
    let after : BalanceSheet = applied (edits.Remove tables.Security name) sheet in
    let kept : (other : List ℕ) → same_name name other ≡ false → IsHeld sheet other → IsHeld after other = λ other apart h. or_kept _ _ _ _ (has_row-without position_name other name sheet.securities apart) (λ e. e) h in
    valid-securities sheet valid (without position_name name sheet.securities) (All-without position_name IsSecurity name sheet.securities valid.securities) (named-without_position sheet valid.named_once name)
    (All-without position_name _ name sheet.securities valid.known.security_groups) (All-without position_name _ name sheet.securities valid.known.security_currencies)
    (unused_components name sheet valid (no_user _ name p.free) after kept) (within_after (edits.Remove tables.Security name) sheet valid p)

without_fund : (name : List ℕ) (sheet : BalanceSheet) → Valid sheet → Passes (edits.Remove tables.Fund name) sheet → Valid (applied (edits.Remove tables.Fund name) sheet)
without_fund name sheet valid p =
    let after : BalanceSheet = applied (edits.Remove tables.Fund name) sheet in
    let kept : (other : List ℕ) → same_name name other ≡ false → IsHeld sheet other → IsHeld after other = λ other apart h. or_kept _ _ _ _ (λ e. e) (has_row-without stake_name other name sheet.funds apart) h in
    valid-funds sheet valid (without stake_name name sheet.funds) (All-without stake_name IsStake name sheet.funds valid.funds) (named-without_fund sheet valid.named_once name)
    (All-without stake_name (λ s. AllByRecursion (λ c. IsHeld after c.0) s.fund.components) name sheet.funds (unused_components name sheet valid (no_user _ name p.free) after kept))
    (acyclic-without sheet.funds valid.acyclic name (distinct-funds sheet valid.named_once)) (within_after (edits.Remove tables.Fund name) sheet valid p)

valid_drop : (table : Table) (name : List ℕ) (sheet : BalanceSheet) → Valid sheet → Passes (edits.Remove table name) sheet → Valid (applied (edits.Remove table name) sheet)
valid_drop tables.Group name sheet valid p = without_group name sheet valid p
valid_drop tables.Security name sheet valid p = without_security name sheet valid p
valid_drop tables.Fund name sheet valid p = without_fund name sheet valid p
valid_drop tables.Liability name sheet valid p =
    valid-liabilities sheet valid (without liability_name name sheet.liabilities) (All-without liability_name IsLiability name sheet.liabilities valid.liabilities) (named-without_liability sheet valid.named_once name)
    (All-without liability_name _ name sheet.liabilities valid.known.liability_currencies) (within_after (edits.Remove tables.Liability name) sheet valid p)
valid_drop tables.Bank name sheet valid p =
    valid-banks sheet valid (without bank_name name sheet.banks) (All-without bank_name IsBank name sheet.banks valid.banks) (named-without_bank sheet valid.named_once name)
    (All-without bank_name _ name sheet.banks valid.known.bank_groups) (within_after (edits.Remove tables.Bank name) sheet valid p)
valid_drop tables.Rein name sheet valid p =
    valid-reinsurers sheet valid (without rein_name name sheet.reinsurers) (All-without rein_name IsRein name sheet.reinsurers valid.reinsurers) (named-without_rein sheet valid.named_once name)
    (All-without rein_name _ name sheet.reinsurers valid.known.rein_groups) (within_after (edits.Remove tables.Rein name) sheet valid p)
valid_drop tables.Curve name sheet valid p = without_curve name sheet valid p

-- ---- all records

pub Valid-applied : (edit : Edit) (sheet : BalanceSheet) → Formed edit → Valid sheet → fault_of edit sheet ≡ None → Valid (applied edit sheet)
Valid-applied (edits.Asof date currency) sheet formed valid none = valid_asof date currency sheet formed valid (passes _ sheet none)
Valid-applied (edits.Curve currency rates) sheet formed valid none = valid_curve currency rates sheet formed valid (passes _ sheet none)
Valid-applied (edits.Group name kind step) sheet formed valid none = valid_group (record { name = name; kind = kind; step = step }) sheet formed valid (passes (edits.Group name kind step) sheet none)
Valid-applied (edits.Security name class group currency duration) sheet formed valid none =
    let p = passes (edits.Security name class group currency duration) sheet none in
    let new : Position = record { security = record { name = name; class = class; group = group; currency = currency; duration = natural duration; flows = kept_flows name sheet.securities }; held = kept_hold name sheet.securities } in
    valid_security new duration sheet refl refl formed valid p (within_after (edits.Security name class group currency duration) sheet valid p)
Valid-applied (edits.Flows security flows) sheet formed valid none = valid_flows security flows sheet formed valid (passes _ sheet none)
Valid-applied (edits.Fund name components) sheet formed valid none = valid_fund name components sheet formed valid (passes _ sheet none)
Valid-applied (edits.Hold name cents) sheet formed valid none = valid_hold name cents sheet valid (passes _ sheet none)
Valid-applied (edits.Liability name kind currency) sheet formed valid none = valid_liability name kind currency sheet formed valid (passes _ sheet none)
Valid-applied (edits.LiabilityFlows liability projection flows) sheet formed valid none = valid_liability_flows liability projection flows sheet formed valid (passes _ sheet none)
Valid-applied (edits.Absorb key cents) sheet formed valid none = valid_absorb key cents sheet valid (passes _ sheet none)
Valid-applied (edits.Segment set number region premium reserve) sheet formed valid none =
    let p = passes (edits.Segment set number region premium reserve) sheet none in
    let small = amounts (premium ∷ reserve ∷ []) p.fields in
    let new : ℕ × ℕ = (natural premium, natural reserve) in
    valid-numbers sheet valid _
    (with_both_volumes sheet.numbers _ _ valid.numbers (volumes-with_segment sets.Nl set number region new sheet.numbers.nl small.0 small.1.0 valid.numbers.nl)
    (volumes-with_segment sets.Nslt set number region new sheet.numbers.nslt small.0 small.1.0 valid.numbers.nslt))
    valid.known.reporting (within_after (edits.Segment set number region premium reserve) sheet valid p)
Valid-applied (edits.Cat key cents) sheet formed valid none =
    let p = passes (edits.Cat key cents) sheet none in
    let small = (amounts (cents ∷ []) p.fields).0 in
    valid-numbers sheet valid _
    (with_cats sheet.numbers _ _ valid.numbers (All-placed (cat_place key) (natural cents) sheet.numbers.cat small valid.numbers.cat)
    (All-placed (health_cat_place key) (natural cents) sheet.numbers.health_cat small valid.numbers.health_cat))
    valid.known.reporting (within_after (edits.Cat key cents) sheet valid p)
Valid-applied (edits.Lapse set cents) sheet formed valid none =
    let p = passes (edits.Lapse set cents) sheet none in
    valid-numbers sheet valid _ (with_lapse sheet.numbers _ valid.numbers (All-set IsAmount sheet.numbers.lapse (lapse_place set) (natural cents) (amounts (cents ∷ []) p.fields).0 valid.numbers.lapse))
    valid.known.reporting (within_after (edits.Lapse set cents) sheet valid p)
Valid-applied (edits.Rein name group recoverables mitigation collateral) sheet formed valid none = valid_rein name group recoverables mitigation collateral sheet formed valid (passes _ sheet none)
Valid-applied (edits.Bank name group cents) sheet formed valid none = valid_bank name group cents sheet formed valid (passes _ sheet none)
Valid-applied (edits.Due overdue other) sheet formed valid none =
    let p = passes (edits.Due overdue other) sheet none in
    let small = amounts (overdue ∷ other ∷ []) p.fields in
    valid-numbers sheet valid _ (with_due sheet.numbers _ valid.numbers (small.0, (small.1.0, tt))) valid.known.reporting (within_after (edits.Due overdue other) sheet valid p)
Valid-applied (edits.Op tpl tpul tpn el eul pel peul en pen expul) sheet formed valid none =
    let p = passes (edits.Op tpl tpul tpn el eul pel peul en pen expul) sheet none in
    let fields = neither _ _ p.fields in
    let e = amounts (el ∷ eul ∷ pel ∷ peul ∷ en ∷ pen ∷ expul ∷ []) fields.0 in
    let earned : List ℕ = natural el ∷ natural eul ∷ natural pel ∷ natural peul ∷ natural en ∷ natural pen ∷ natural expul ∷ [] in
    let all_earned : AllByRecursion IsAmount earned = (e.0, (e.1.0, (e.1.1.0, (e.1.1.1.0, (e.1.1.1.1.0, (e.1.1.1.1.1.0, (e.1.1.1.1.1.1.0, tt))))))) in
    let provisions : List ℤ = tpl ∷ tpul ∷ tpn ∷ [] in
    let all_provisions : AllByRecursion (IsBetween (neg_ℤ (pos MAX_AMOUNT)) (pos MAX_AMOUNT)) provisions =
    All-map _ _ provisions (λ z h. between_from_outside quantities.Provision (neg_ℤ (pos MAX_AMOUNT)) (pos MAX_AMOUNT) z h) (all_from_first_fault (outside quantities.Provision (neg_ℤ (pos MAX_AMOUNT)) (pos MAX_AMOUNT)) provisions fields.1) in
    valid-numbers sheet valid _ (with_op sheet.numbers provisions earned valid.numbers all_provisions all_earned) valid.known.reporting
    (within_after (edits.Op tpl tpul tpn el eul pel peul en pen expul) sheet valid p)
Valid-applied (edits.Sym millionths) sheet formed valid none =
    let p = passes (edits.Sym millionths) sheet none in
    valid-numbers sheet valid _ (with_sym sheet.numbers millionths valid.numbers (between_from_outside quantities.Sym (neg_ℤ MAX_SYM) MAX_SYM millionths p.fields)) valid.known.reporting
    (within_after (edits.Sym millionths) sheet valid p)
Valid-applied (edits.Tax millionths most) sheet formed valid none =
    let p = passes (edits.Tax millionths most) sheet none in
    let fields = neither _ _ p.fields in
    let between = between_from_outside quantities.TaxRate (pos 0) MAX_TAX millionths fields.1 in
    let rate : pos (natural millionths) ≤ℤ MAX_TAX = subst (λ (v : ℤ). v ≤ℤ MAX_TAX) (sym (natural-is millionths between.0)) between.1 in
    valid-numbers sheet valid _ (with_tax sheet.numbers (natural millionths) (natural most) valid.numbers rate (amounts (most ∷ []) fields.0).0) valid.known.reporting
    (within_after (edits.Tax millionths most) sheet valid p)
Valid-applied (edits.Fdb cents) sheet formed valid none =
    let p = passes (edits.Fdb cents) sheet none in
    valid-numbers sheet valid _ (with_fdb sheet.numbers (natural cents) valid.numbers (amounts (cents ∷ []) p.fields).0) valid.known.reporting (within_after (edits.Fdb cents) sheet valid p)
Valid-applied (edits.Intangible cents) sheet formed valid none =
    let p = passes (edits.Intangible cents) sheet none in
    valid-numbers sheet valid _ (with_intangible sheet.numbers (natural cents) valid.numbers (amounts (cents ∷ []) p.fields).0) valid.known.reporting (within_after (edits.Intangible cents) sheet valid p)
Valid-applied (edits.Remove table name) sheet formed valid none = valid_drop table name sheet valid (passes _ sheet none)

-- ---- the opening sheet

no_amounts : (n : ℕ) → AllByRecursion IsAmount (replicate n 0)
no_amounts zero = tt
no_amounts (suc n) = (omega arith, no_amounts n)

all_nothing : (m : ℕ) → AllByRecursion (λ (v : ℕ × ℕ). IsAmount v.0 × IsAmount v.1) (replicate m (0, 0))
all_nothing zero = tt
all_nothing (suc m) = ((omega arith, omega arith), all_nothing m)

no_segments : (n : ℕ) → AreVolumes (replicate n no_volumes)
no_segments zero = tt
no_segments (suc n) = (all_nothing 18, no_segments n)

nothing_projected : (projection : Projection) → liability_flows_total projection opening ≤ MAX_LIABILITY_FLOWS
nothing_projected projection = omega arith

nothing_written : (set : Set) → volumes_total set opening ≤ MAX_AMOUNT
nothing_written sets.Nl = omega arith
nothing_written sets.Nslt = omega arith

no_provision : IsBetween (neg_ℤ (pos MAX_AMOUNT)) (pos MAX_AMOUNT) (pos 0)
no_provision = (omega (arith, ints), omega (arith, ints))

pub Valid-opening : Valid opening
unfolding IsDistinct
Valid-opening =
    record {
      groups = tt;
      securities = tt;
      funds = tt;
      liabilities = tt;
      banks = tt;
      reinsurers = tt;
      curves = ((refl, ((omega (arith, ints), omega (arith, ints)), tt), omega arith, omega arith, omega arith, omega arith), tt);
      numbers = record {
        asof = (omega (arith, ints), omega (arith, ints));
        currency = refl;
        absorb = no_amounts 25;
        nl = no_segments 12;
        nslt = no_segments 4;
        cat = no_amounts 13;
        health_cat = no_amounts 3;
        lapse = no_amounts 2;
        due = no_amounts 2;
        provisions = (no_provision, (no_provision, (no_provision, tt)));
        earned = no_amounts 7;
        sym = (omega (arith, ints), omega (arith, ints));
        tax = omega (arith, ints);
        cap = omega arith;
        fdb = omega arith;
        intangible = omega arith;
      };
      named_once = tt;
      currencies_once = (tt, tt);
      known = record { security_groups = tt; bank_groups = tt; rein_groups = tt; security_currencies = tt; liability_currencies = tt; components = tt; reporting = refl };
      acyclic = acyclic-none;
      within = record {
        held = omega arith;
        liability_flows = nothing_projected;
        volumes = nothing_written;
        defaults = omega arith;
        years = omega arith;
        currencies = omega arith;
        securities = omega arith;
        funds = omega arith;
        components = omega arith;
        liabilities = omega arith;
        groups = omega arith;
        exposures = omega arith;
      };
    }
