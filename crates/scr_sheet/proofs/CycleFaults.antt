-- A record of a fund is refused for a cycle exactly where the fund would hold itself, by the first shortest chain.
use Rattle.std.proofs.Common.{◌≡◌, ◌↔◌, ℕ, ℤ, ◌+◌, ◌≤◌, Bool, true, false, List, [], ◌∷◌, length, map, Option, Some, None, if◌then◌else◌, nat_le, int_lt, sym, ap, ◌∙◌, pos, arith}
use Rattle.std.specs.Option.{option_or, option_map}
use Rattle.std.proofs.lemmas.List.{length-map}
use Rattle.scr_funds.specs.Chains.{IsFirstShortest}
use Rattle.scr_funds.specs.Paths.{path_within}
use Rattle.scr_funds.proofs.EarliestPaths.{path_within-told, path_within-is}
use Rattle.scr_tables.specs.Names.{same_name}
use Rattle.scr_tables.proofs.TableRows.{same_name-is, same_name-itself}
use Rattle.scr_sheet.specs.BalanceSheet.{stake_name, components_of, held_total, defaults_total, components_total, sheet_years}
use Rattle.scr_sheet.specs.Faults.{above, outside, outside_weight, first_fault, fault_of, list_fault, unknown_name, wrong_kind, cycle, out_of_range}
use Rattle.scr_sheet.specs.Records.{applied, with_fund}
use Rattle.scr_sheet.specs.declared.{edit.Edit.Edit, fault.Fault.Fault, fault.Quantity.Quantity, rows.Stake.Stake, sheet.BalanceSheet.BalanceSheet}
use Rattle.scr_sheet.specs.declared.edit.Edit.TheVariants as edits
use Rattle.scr_sheet.specs.declared.fault.Fault.TheVariants as faults
use Rattle.scr_sheet.specs.declared.fault.Quantity.TheVariants as quantities
use Rattle.scr_profile.specs.declared.limits.TheConstants.{MIN_WEIGHT, MAX_WEIGHT, MAX_HELD, MAX_AMOUNT, MAX_YEARS, MAX_CURRENCIES, MAX_SECURITIES, MAX_FUNDS, MAX_COMPONENTS, MAX_LIABILITIES, MAX_GROUPS, MAX_EXPOSURES}
use Rattle.scr_sheet.proofs.FundChains.{holder-named}

-- ---- a quantity outside its limits is no cycle

abbrev IsNoCycle : Option Fault → Type 0
IsNoCycle found = (path : List (List ℕ)) → found ≡ Some (faults.Cycle path) → ⊥

none-no_cycle : IsNoCycle None
none-no_cycle path e = absurd (cc)

range-no_cycle : (quantity : Quantity) (value limit : ℤ) → IsNoCycle (Some (faults.Range quantity value limit))
range-no_cycle quantity value limit path e = absurd (cc)

or-no_cycle : (a b : Option Fault) → IsNoCycle a → IsNoCycle b → IsNoCycle (option_or a b)
or-no_cycle None b first second path e = second path e
or-no_cycle (Some f) b first second path e = first path e

if-no_cycle : (t : Bool) (a b : Option Fault) → IsNoCycle a → IsNoCycle b → IsNoCycle (if t then a else b)
if-no_cycle true a b first second = first
if-no_cycle false a b first second = second

above-no_cycle : (quantity : Quantity) (value limit : ℕ) → IsNoCycle (above quantity value limit)
above-no_cycle quantity value limit = if-no_cycle (nat_le value limit) None (Some (faults.Range quantity (pos value) (pos limit))) none-no_cycle (range-no_cycle quantity (pos value) (pos limit))

outside-no_cycle : (quantity : Quantity) (low high value : ℤ) → IsNoCycle (outside quantity low high value)
outside-no_cycle quantity low high value =
    if-no_cycle (int_lt value low) (Some (faults.Range quantity value low)) (if int_lt high value then Some (faults.Range quantity value high) else None) (range-no_cycle quantity value low)
    (if-no_cycle (int_lt high value) (Some (faults.Range quantity value high)) None (range-no_cycle quantity value high) none-no_cycle)

weights-no_cycle : (components : List (List ℕ × ℤ)) → IsNoCycle (first_fault outside_weight components)
weights-no_cycle [] = none-no_cycle
weights-no_cycle (c ∷ components) = or-no_cycle (outside_weight c) (first_fault outside_weight components) (outside-no_cycle quantities.Weight MIN_WEIGHT MAX_WEIGHT c.1) (weights-no_cycle components)

and-above : (quantity : Quantity) (value limit : ℕ) (rest : Option Fault) → IsNoCycle rest → IsNoCycle (option_or (above quantity value limit) rest)
and-above quantity value limit rest no_cycle = or-no_cycle (above quantity value limit) rest (above-no_cycle quantity value limit) no_cycle

range-of_fund : (name : List ℕ) (components : List (List ℕ × ℤ)) (sheet : BalanceSheet) → IsNoCycle (out_of_range (edits.Fund name components) sheet)
range-of_fund name components sheet =
    let after = applied (edits.Fund name components) sheet in
    let exposures = above quantities.Exposures (length after.banks + length after.reinsurers) MAX_EXPOSURES in
    let groups = option_or (above quantities.Groups (length after.groups) MAX_GROUPS) exposures in
    let liabilities = option_or (above quantities.Liabilities (length after.liabilities) MAX_LIABILITIES) groups in
    let parts = option_or (above quantities.Components (components_total after) MAX_COMPONENTS) liabilities in
    let stakes = option_or (above quantities.Funds (length after.funds) MAX_FUNDS) parts in
    let securities = option_or (above quantities.Securities (length after.securities) MAX_SECURITIES) stakes in
    let currencies = option_or (above quantities.Currencies (length after.curves) MAX_CURRENCIES) securities in
    let years = option_or (above quantities.Years (sheet_years after) MAX_YEARS) currencies in
    let defaults = option_or (above quantities.Defaults (defaults_total after) MAX_AMOUNT) years in
    or-no_cycle (first_fault outside_weight components) (option_or (above quantities.Held (held_total after) MAX_HELD) defaults) (weights-no_cycle components)
    (and-above quantities.Held (held_total after) MAX_HELD defaults
    (and-above quantities.Defaults (defaults_total after) MAX_AMOUNT years
    (and-above quantities.Years (sheet_years after) MAX_YEARS currencies
    (and-above quantities.Currencies (length after.curves) MAX_CURRENCIES securities
    (and-above quantities.Securities (length after.securities) MAX_SECURITIES stakes
    (and-above quantities.Funds (length after.funds) MAX_FUNDS parts
    (and-above quantities.Components (components_total after) MAX_COMPONENTS liabilities
    (and-above quantities.Liabilities (length after.liabilities) MAX_LIABILITIES groups
    (and-above quantities.Groups (length after.groups) MAX_GROUPS exposures
    (above-no_cycle quantities.Exposures (length after.banks + length after.reinsurers) MAX_EXPOSURES))))))))))

-- ---- the path that is told

told : (o : Option (List (List ℕ))) (range : Option Fault) (path : List (List ℕ)) → IsNoCycle range → option_or (option_map (λ p. faults.Cycle p) o) range ≡ Some (faults.Cycle path) → o ≡ Some path
told None range path none e = absurd (none path e)
told (Some p) range path none e = let same : p ≡ path = cc in ap Some same

module _ (name : List ℕ) (components : List (List ℕ × ℤ)) (sheet : BalanceSheet) where
  abbrev funds : List Stake
  funds = with_fund name components sheet.funds

  abbrev edit : Edit
  edit = edits.Fund name components

  abbrev found : Option (List (List ℕ))
  found = path_within same_name (components_of funds) (length funds) name name

  enough : length (map stake_name funds) ≤ length funds
  enough = let same = length-map funds stake_name in omega (arith, same)

  module _ (list : list_fault edit ≡ None) (known : unknown_name edit sheet ≡ None) (kind : wrong_kind edit sheet ≡ None) where
    first : fault_of edit sheet ≡ option_or (cycle edit sheet) (out_of_range edit sheet)
    first =
        ap (λ o. option_or o (option_or (unknown_name edit sheet) (option_or (wrong_kind edit sheet) (option_or (cycle edit sheet) (out_of_range edit sheet))))) list
        ∙ ap (λ o. option_or o (option_or (wrong_kind edit sheet) (option_or (cycle edit sheet) (out_of_range edit sheet)))) known
        ∙ ap (λ o. option_or o (option_or (cycle edit sheet) (out_of_range edit sheet))) kind

    pub cycle-told : (path : List (List ℕ)) → (fault_of edit sheet ≡ Some (faults.Cycle path)) ↔ IsFirstShortest (components_of funds) name name path
    cycle-told path = (
      λ due. path_within-told same_name same_name-is same_name-itself (components_of funds) (length funds) name name path
          (told found (out_of_range edit sheet) path (range-of_fund name components sheet) (sym first ∙ due)),
      λ shortest. first ∙ ap (λ o. option_or (option_map (λ p. faults.Cycle p) o) (out_of_range edit sheet))
          (path_within-is same_name same_name-is same_name-itself (components_of funds) (length funds) (map stake_name funds) (holder-named funds) enough name name path shortest),
    )
