-- Which quantities of the whole book a record can take outside their limits. From a valid sheet, all others stay
-- within them.
use Rattle.std.proofs.Common.{◌≡◌, ℕ, ℤ, ◌+◌, ◌-◌, ◌≤◌, Bool, true, false, ◌||◌, List, [], ◌∷◌, length, map, Option, Some, None, is_some, if◌then◌else◌, set, refl, sym, ap, subst, ◌∙◌, arith}
use Rattle.std.specs.Prelude.{max}
use Rattle.std.specs.Option.{option_or, option_map_or}
use Rattle.std.proofs.lemmas.List.{length-map}
use Rattle.scr_dates.specs.declared.day.Day.{Day}
use Rattle.scr_profile.specs.declared.{set.Set.Set, group_kind.GroupKind.GroupKind}
use Rattle.scr_tables.specs.Tables.{row_of, with_row, without, changed}
use Rattle.scr_sheet.specs.CashFlows.{total, greatest_years, with_flows, no_flows}
use Rattle.scr_sheet.specs.BalanceSheet.{group_name, position_name, stake_name, liability_name, bank_name, rein_name, curve_name, held_of, held_total, liability_flows_total, volumes_total, defaults_total, components_total, greatest, security_years, liability_years, sheet_years, is_in}
use Rattle.scr_sheet.specs.declared.{sheet.BalanceSheet.BalanceSheet, edit.Edit.Edit, fault.Fault.Fault, fault.Quantity.Quantity, keys.AbsorbKey.AbsorbKey, keys.Projection.Projection, keys.Table.Table, rows.Bank.Bank, rows.Class.Class, rows.Curve.Curve, rows.Group.Group, rows.Liability.Liability, rows.LiabilityKind.LiabilityKind, rows.Position.Position, rows.Rein.Rein, rows.Stake.Stake}
use Rattle.scr_sheet.specs.Records.{applied, natural, kept_flows, kept_hold, with_absorb}
use Rattle.scr_sheet.specs.Faults.{above, sheet_outside}
use Rattle.scr_sheet.specs.Validity.{Valid}
use Rattle.scr_sheet.specs.declared.edit.Edit.TheVariants as edits
use Rattle.scr_sheet.specs.declared.fault.Quantity.TheVariants as quantities
use Rattle.scr_sheet.specs.declared.keys.AbsorbKey.TheVariants as absorb
use Rattle.scr_sheet.specs.declared.keys.Table.TheVariants as tables
use Rattle.scr_profile.specs.declared.limits.TheConstants.{MAX_AMOUNT, MAX_HELD, MAX_LIABILITY_FLOWS, MAX_YEARS, MAX_CURRENCIES, MAX_SECURITIES, MAX_FUNDS, MAX_COMPONENTS, MAX_LIABILITIES, MAX_GROUPS, MAX_EXPOSURES}
use Rattle.scr_tables.proofs.TableRows.{added, names-changed, sum-without, length-with_row}
use Rattle.scr_sheet.proofs.Bounds.{above-within, option_or-none}
use Rattle.scr_sheet.proofs.Greatest.{greatest-with_row-le, row_of-le-greatest, greatest-without-le, greatest-changed-le, le-greatest-changed, liability_years-with_flows-le, le-liability_years-with_flows}
use Rattle.scr_sheet.proofs.Sums.{in_one_table, held-hold, held-part, held-same, stake_components, components-fund, components-drop, components-part, components-hold, liability_total, liability_flows-own, liability_flows-part, volumes-segment, volumes-part, rein_total, defaults-bank, defaults-rein, defaults-part_bank, defaults-part_rein}
use Rattle.scr_sheet.specs.Verbs.{changes_numbers_alone}
use Rattle.scr_sheet.specs.Volumes.{volumes_in}

-- ---- the tests of the whole book, one after another, where all but one or two pass

-- the first of twelve faults, in their order
abbrev first_of : Option Fault → Option Fault → Option Fault → Option Fault → Option Fault → Option Fault → Option Fault → Option Fault → Option Fault → Option Fault → Option Fault → Option Fault → Option Fault
first_of a b c d e f g h i j k l = option_or a (option_or b (option_or c (option_or d (option_or e (option_or f (option_or g (option_or h (option_or i (option_or j (option_or k l))))))))))

first_of-same : {a b c d e f g h i j k l a' b' c' d' e' f' g' h' i' j' k' l' : Option Fault} → a ≡ a' → b ≡ b' → c ≡ c' → d ≡ d' → e ≡ e' → f ≡ f' → g ≡ g' → h ≡ h' → i ≡ i' → j ≡ j' → k ≡ k' → l ≡ l'
    → first_of a b c d e f g h i j k l ≡ first_of a' b' c' d' e' f' g' h' i' j' k' l'
first_of-same p q r s t u v w x y z o = cc

module _ (held : ℕ) (liability_flows volumes : Option Fault) (defaults years currencies securities funds components liabilities groups exposures : ℕ) where
  -- the first of the tests that fails, in their order
  abbrev first_outside : Option Fault
  first_outside =
      first_of (above quantities.Held held MAX_HELD) liability_flows volumes (above quantities.Defaults defaults MAX_AMOUNT) (above quantities.Years years MAX_YEARS)
      (above quantities.Currencies currencies MAX_CURRENCIES) (above quantities.Securities securities MAX_SECURITIES) (above quantities.Funds funds MAX_FUNDS)
      (above quantities.Components components MAX_COMPONENTS) (above quantities.Liabilities liabilities MAX_LIABILITIES) (above quantities.Groups groups MAX_GROUPS) (above quantities.Exposures exposures MAX_EXPOSURES)

  first_outside-none : held ≤ MAX_HELD → liability_flows ≡ None → volumes ≡ None → defaults ≤ MAX_AMOUNT → years ≤ MAX_YEARS → currencies ≤ MAX_CURRENCIES → securities ≤ MAX_SECURITIES → funds ≤ MAX_FUNDS → components ≤ MAX_COMPONENTS → liabilities ≤ MAX_LIABILITIES → groups ≤ MAX_GROUPS → exposures ≤ MAX_EXPOSURES → first_outside ≡ None
  first_outside-none h_held h_liability_flows h_volumes h_defaults h_years h_currencies h_securities h_funds h_components h_liabilities h_groups h_exposures =
      first_of-same (above-within quantities.Held held MAX_HELD h_held) h_liability_flows h_volumes (above-within quantities.Defaults defaults MAX_AMOUNT h_defaults) (above-within quantities.Years years MAX_YEARS h_years) (above-within quantities.Currencies currencies MAX_CURRENCIES h_currencies) (above-within quantities.Securities securities MAX_SECURITIES h_securities) (above-within quantities.Funds funds MAX_FUNDS h_funds) (above-within quantities.Components components MAX_COMPONENTS h_components) (above-within quantities.Liabilities liabilities MAX_LIABILITIES h_liabilities) (above-within quantities.Groups groups MAX_GROUPS h_groups) (above-within quantities.Exposures exposures MAX_EXPOSURES h_exposures)

  first_outside-held : liability_flows ≡ None → volumes ≡ None → defaults ≤ MAX_AMOUNT → years ≤ MAX_YEARS → currencies ≤ MAX_CURRENCIES → securities ≤ MAX_SECURITIES → funds ≤ MAX_FUNDS → components ≤ MAX_COMPONENTS → liabilities ≤ MAX_LIABILITIES → groups ≤ MAX_GROUPS → exposures ≤ MAX_EXPOSURES → first_outside ≡ above quantities.Held held MAX_HELD
  first_outside-held h_liability_flows h_volumes h_defaults h_years h_currencies h_securities h_funds h_components h_liabilities h_groups h_exposures =
      first_of-same refl h_liability_flows h_volumes (above-within quantities.Defaults defaults MAX_AMOUNT h_defaults) (above-within quantities.Years years MAX_YEARS h_years) (above-within quantities.Currencies currencies MAX_CURRENCIES h_currencies) (above-within quantities.Securities securities MAX_SECURITIES h_securities) (above-within quantities.Funds funds MAX_FUNDS h_funds) (above-within quantities.Components components MAX_COMPONENTS h_components) (above-within quantities.Liabilities liabilities MAX_LIABILITIES h_liabilities) (above-within quantities.Groups groups MAX_GROUPS h_groups) (above-within quantities.Exposures exposures MAX_EXPOSURES h_exposures) ∙ option_or-none (above quantities.Held held MAX_HELD)

  first_outside-liability_flows : held ≤ MAX_HELD → volumes ≡ None → defaults ≤ MAX_AMOUNT → currencies ≤ MAX_CURRENCIES → securities ≤ MAX_SECURITIES → funds ≤ MAX_FUNDS → components ≤ MAX_COMPONENTS → liabilities ≤ MAX_LIABILITIES → groups ≤ MAX_GROUPS → exposures ≤ MAX_EXPOSURES → first_outside ≡ option_or liability_flows (above quantities.Years years MAX_YEARS)
  first_outside-liability_flows h_held h_volumes h_defaults h_currencies h_securities h_funds h_components h_liabilities h_groups h_exposures =
      first_of-same (above-within quantities.Held held MAX_HELD h_held) refl h_volumes (above-within quantities.Defaults defaults MAX_AMOUNT h_defaults) refl (above-within quantities.Currencies currencies MAX_CURRENCIES h_currencies) (above-within quantities.Securities securities MAX_SECURITIES h_securities) (above-within quantities.Funds funds MAX_FUNDS h_funds) (above-within quantities.Components components MAX_COMPONENTS h_components) (above-within quantities.Liabilities liabilities MAX_LIABILITIES h_liabilities) (above-within quantities.Groups groups MAX_GROUPS h_groups) (above-within quantities.Exposures exposures MAX_EXPOSURES h_exposures) ∙ ap (option_or liability_flows) (option_or-none (above quantities.Years years MAX_YEARS))

  first_outside-volumes : held ≤ MAX_HELD → liability_flows ≡ None → defaults ≤ MAX_AMOUNT → years ≤ MAX_YEARS → currencies ≤ MAX_CURRENCIES → securities ≤ MAX_SECURITIES → funds ≤ MAX_FUNDS → components ≤ MAX_COMPONENTS → liabilities ≤ MAX_LIABILITIES → groups ≤ MAX_GROUPS → exposures ≤ MAX_EXPOSURES → first_outside ≡ volumes
  first_outside-volumes h_held h_liability_flows h_defaults h_years h_currencies h_securities h_funds h_components h_liabilities h_groups h_exposures =
      first_of-same (above-within quantities.Held held MAX_HELD h_held) h_liability_flows refl (above-within quantities.Defaults defaults MAX_AMOUNT h_defaults) (above-within quantities.Years years MAX_YEARS h_years) (above-within quantities.Currencies currencies MAX_CURRENCIES h_currencies) (above-within quantities.Securities securities MAX_SECURITIES h_securities) (above-within quantities.Funds funds MAX_FUNDS h_funds) (above-within quantities.Components components MAX_COMPONENTS h_components) (above-within quantities.Liabilities liabilities MAX_LIABILITIES h_liabilities) (above-within quantities.Groups groups MAX_GROUPS h_groups) (above-within quantities.Exposures exposures MAX_EXPOSURES h_exposures) ∙ option_or-none volumes

  first_outside-years : held ≤ MAX_HELD → liability_flows ≡ None → volumes ≡ None → defaults ≤ MAX_AMOUNT → currencies ≤ MAX_CURRENCIES → securities ≤ MAX_SECURITIES → funds ≤ MAX_FUNDS → components ≤ MAX_COMPONENTS → liabilities ≤ MAX_LIABILITIES → groups ≤ MAX_GROUPS → exposures ≤ MAX_EXPOSURES → first_outside ≡ above quantities.Years years MAX_YEARS
  first_outside-years h_held h_liability_flows h_volumes h_defaults h_currencies h_securities h_funds h_components h_liabilities h_groups h_exposures =
      first_of-same (above-within quantities.Held held MAX_HELD h_held) h_liability_flows h_volumes (above-within quantities.Defaults defaults MAX_AMOUNT h_defaults) refl (above-within quantities.Currencies currencies MAX_CURRENCIES h_currencies) (above-within quantities.Securities securities MAX_SECURITIES h_securities) (above-within quantities.Funds funds MAX_FUNDS h_funds) (above-within quantities.Components components MAX_COMPONENTS h_components) (above-within quantities.Liabilities liabilities MAX_LIABILITIES h_liabilities) (above-within quantities.Groups groups MAX_GROUPS h_groups) (above-within quantities.Exposures exposures MAX_EXPOSURES h_exposures) ∙ option_or-none (above quantities.Years years MAX_YEARS)

  first_outside-currencies : held ≤ MAX_HELD → liability_flows ≡ None → volumes ≡ None → defaults ≤ MAX_AMOUNT → years ≤ MAX_YEARS → securities ≤ MAX_SECURITIES → funds ≤ MAX_FUNDS → components ≤ MAX_COMPONENTS → liabilities ≤ MAX_LIABILITIES → groups ≤ MAX_GROUPS → exposures ≤ MAX_EXPOSURES → first_outside ≡ above quantities.Currencies currencies MAX_CURRENCIES
  first_outside-currencies h_held h_liability_flows h_volumes h_defaults h_years h_securities h_funds h_components h_liabilities h_groups h_exposures =
      first_of-same (above-within quantities.Held held MAX_HELD h_held) h_liability_flows h_volumes (above-within quantities.Defaults defaults MAX_AMOUNT h_defaults) (above-within quantities.Years years MAX_YEARS h_years) refl (above-within quantities.Securities securities MAX_SECURITIES h_securities) (above-within quantities.Funds funds MAX_FUNDS h_funds) (above-within quantities.Components components MAX_COMPONENTS h_components) (above-within quantities.Liabilities liabilities MAX_LIABILITIES h_liabilities) (above-within quantities.Groups groups MAX_GROUPS h_groups) (above-within quantities.Exposures exposures MAX_EXPOSURES h_exposures) ∙ option_or-none (above quantities.Currencies currencies MAX_CURRENCIES)

  first_outside-securities : held ≤ MAX_HELD → liability_flows ≡ None → volumes ≡ None → defaults ≤ MAX_AMOUNT → years ≤ MAX_YEARS → currencies ≤ MAX_CURRENCIES → funds ≤ MAX_FUNDS → components ≤ MAX_COMPONENTS → liabilities ≤ MAX_LIABILITIES → groups ≤ MAX_GROUPS → exposures ≤ MAX_EXPOSURES → first_outside ≡ above quantities.Securities securities MAX_SECURITIES
  first_outside-securities h_held h_liability_flows h_volumes h_defaults h_years h_currencies h_funds h_components h_liabilities h_groups h_exposures =
      first_of-same (above-within quantities.Held held MAX_HELD h_held) h_liability_flows h_volumes (above-within quantities.Defaults defaults MAX_AMOUNT h_defaults) (above-within quantities.Years years MAX_YEARS h_years) (above-within quantities.Currencies currencies MAX_CURRENCIES h_currencies) refl (above-within quantities.Funds funds MAX_FUNDS h_funds) (above-within quantities.Components components MAX_COMPONENTS h_components) (above-within quantities.Liabilities liabilities MAX_LIABILITIES h_liabilities) (above-within quantities.Groups groups MAX_GROUPS h_groups) (above-within quantities.Exposures exposures MAX_EXPOSURES h_exposures) ∙ option_or-none (above quantities.Securities securities MAX_SECURITIES)

  first_outside-funds : held ≤ MAX_HELD → liability_flows ≡ None → volumes ≡ None → defaults ≤ MAX_AMOUNT → years ≤ MAX_YEARS → currencies ≤ MAX_CURRENCIES → securities ≤ MAX_SECURITIES → liabilities ≤ MAX_LIABILITIES → groups ≤ MAX_GROUPS → exposures ≤ MAX_EXPOSURES → first_outside ≡ option_or (above quantities.Funds funds MAX_FUNDS) (above quantities.Components components MAX_COMPONENTS)
  first_outside-funds h_held h_liability_flows h_volumes h_defaults h_years h_currencies h_securities h_liabilities h_groups h_exposures =
      first_of-same (above-within quantities.Held held MAX_HELD h_held) h_liability_flows h_volumes (above-within quantities.Defaults defaults MAX_AMOUNT h_defaults) (above-within quantities.Years years MAX_YEARS h_years) (above-within quantities.Currencies currencies MAX_CURRENCIES h_currencies) (above-within quantities.Securities securities MAX_SECURITIES h_securities) refl refl (above-within quantities.Liabilities liabilities MAX_LIABILITIES h_liabilities) (above-within quantities.Groups groups MAX_GROUPS h_groups) (above-within quantities.Exposures exposures MAX_EXPOSURES h_exposures) ∙ ap (option_or (above quantities.Funds funds MAX_FUNDS)) (option_or-none (above quantities.Components components MAX_COMPONENTS))

  first_outside-liabilities : held ≤ MAX_HELD → liability_flows ≡ None → volumes ≡ None → defaults ≤ MAX_AMOUNT → years ≤ MAX_YEARS → currencies ≤ MAX_CURRENCIES → securities ≤ MAX_SECURITIES → funds ≤ MAX_FUNDS → components ≤ MAX_COMPONENTS → groups ≤ MAX_GROUPS → exposures ≤ MAX_EXPOSURES → first_outside ≡ above quantities.Liabilities liabilities MAX_LIABILITIES
  first_outside-liabilities h_held h_liability_flows h_volumes h_defaults h_years h_currencies h_securities h_funds h_components h_groups h_exposures =
      first_of-same (above-within quantities.Held held MAX_HELD h_held) h_liability_flows h_volumes (above-within quantities.Defaults defaults MAX_AMOUNT h_defaults) (above-within quantities.Years years MAX_YEARS h_years) (above-within quantities.Currencies currencies MAX_CURRENCIES h_currencies) (above-within quantities.Securities securities MAX_SECURITIES h_securities) (above-within quantities.Funds funds MAX_FUNDS h_funds) (above-within quantities.Components components MAX_COMPONENTS h_components) refl (above-within quantities.Groups groups MAX_GROUPS h_groups) (above-within quantities.Exposures exposures MAX_EXPOSURES h_exposures) ∙ option_or-none (above quantities.Liabilities liabilities MAX_LIABILITIES)

  first_outside-groups : held ≤ MAX_HELD → liability_flows ≡ None → volumes ≡ None → defaults ≤ MAX_AMOUNT → years ≤ MAX_YEARS → currencies ≤ MAX_CURRENCIES → securities ≤ MAX_SECURITIES → funds ≤ MAX_FUNDS → components ≤ MAX_COMPONENTS → liabilities ≤ MAX_LIABILITIES → exposures ≤ MAX_EXPOSURES → first_outside ≡ above quantities.Groups groups MAX_GROUPS
  first_outside-groups h_held h_liability_flows h_volumes h_defaults h_years h_currencies h_securities h_funds h_components h_liabilities h_exposures =
      first_of-same (above-within quantities.Held held MAX_HELD h_held) h_liability_flows h_volumes (above-within quantities.Defaults defaults MAX_AMOUNT h_defaults) (above-within quantities.Years years MAX_YEARS h_years) (above-within quantities.Currencies currencies MAX_CURRENCIES h_currencies) (above-within quantities.Securities securities MAX_SECURITIES h_securities) (above-within quantities.Funds funds MAX_FUNDS h_funds) (above-within quantities.Components components MAX_COMPONENTS h_components) (above-within quantities.Liabilities liabilities MAX_LIABILITIES h_liabilities) refl (above-within quantities.Exposures exposures MAX_EXPOSURES h_exposures) ∙ option_or-none (above quantities.Groups groups MAX_GROUPS)

  first_outside-exposures : held ≤ MAX_HELD → liability_flows ≡ None → volumes ≡ None → years ≤ MAX_YEARS → currencies ≤ MAX_CURRENCIES → securities ≤ MAX_SECURITIES → funds ≤ MAX_FUNDS → components ≤ MAX_COMPONENTS → liabilities ≤ MAX_LIABILITIES → groups ≤ MAX_GROUPS → first_outside ≡ option_or (above quantities.Defaults defaults MAX_AMOUNT) (above quantities.Exposures exposures MAX_EXPOSURES)
  first_outside-exposures h_held h_liability_flows h_volumes h_years h_currencies h_securities h_funds h_components h_liabilities h_groups =
      first_of-same (above-within quantities.Held held MAX_HELD h_held) h_liability_flows h_volumes refl (above-within quantities.Years years MAX_YEARS h_years) (above-within quantities.Currencies currencies MAX_CURRENCIES h_currencies) (above-within quantities.Securities securities MAX_SECURITIES h_securities) (above-within quantities.Funds funds MAX_FUNDS h_funds) (above-within quantities.Components components MAX_COMPONENTS h_components) (above-within quantities.Liabilities liabilities MAX_LIABILITIES h_liabilities) (above-within quantities.Groups groups MAX_GROUPS h_groups) refl

-- ---- numbers of rows

module _ {Row : Type 0} (name_of : Row → List ℕ) where
  length-changed : (change : Row → Row) (name : List ℕ) (rows : List Row) → ((row : Row) → name_of (change row) ≡ name_of row) → length (changed name_of change name rows) ≡ length rows
  length-changed change name rows named =
      let after : List Row = changed name_of change name rows in
      let names : map name_of after ≡ map name_of rows = names-changed name_of change name rows named in
      sym (length-map after name_of) ∙ ap length names ∙ length-map rows name_of

  length-without-le : (name : List ℕ) (rows : List Row) → length (without name_of name rows) ≤ length rows
  length-without-le name [] = omega arith
  length-without-le name (row ∷ rows) = let rest = length-without-le name rows in grind (arith, rest)

-- a row of a name comes as one more where none was found
pub added-is : {Row : Type 0} (found : Option Row) (n : ℕ) → (if is_some found then n else n + 1) ≡ n + added found
added-is None n = refl
added-is (Some row) n = omega arith

-- ---- one quantity that takes its value from a part of it

-- of two numbers, of which one is the other or within the limit
above-part : (quantity : Quantity) (value part limit : ℕ) → part ≤ value → value ≤ max limit part → above quantity value limit ≡ above quantity part limit
above-part quantity value part limit low high = grind (arith, low, high)

-- the records that take no quantity of the whole book outside its limits: absorptions, charges, single numbers, drops
abbrev pub is_quiet : Edit → Bool
is_quiet (edits.Absorb key cents) = true
is_quiet (edits.Remove table name) = true
is_quiet (edits.Asof date currency) = false
is_quiet (edits.Segment set number region premium reserve) = false
is_quiet edit = changes_numbers_alone edit

-- ---- record by record

module _ (sheet : BalanceSheet) (valid : Valid sheet) where
  abbrev asof : ℤ
  asof = sheet.numbers.asof.number

  abbrev exposures : ℕ
  exposures = length sheet.banks + length sheet.reinsurers

  -- the largest number of years of all flows
  abbrev security_most : ℕ
  security_most = greatest (security_years asof) sheet.securities

  abbrev liability_most : ℕ
  liability_most = greatest (liability_years asof) sheet.liabilities

  pub outside-curve : (currency : List ℕ) (rates : List ℤ) → let edit = edits.Curve currency rates in
      sheet_outside edit (applied edit sheet) ≡ above quantities.Currencies (length sheet.curves + added (row_of curve_name currency sheet.curves)) MAX_CURRENCIES
  outside-curve currency rates =
      let w = valid.within in
      let old : Option Curve = row_of curve_name currency sheet.curves in
      let new : Curve = record { currency = currency; rates = rates; absorb_up = option_map_or (λ c. c.absorb_up) old 0; absorb_down = option_map_or (λ c. c.absorb_down) old 0 } in
      first_outside-currencies _ _ _ _ _ _ _ _ _ _ _ _ w.held refl refl w.defaults w.years w.securities w.funds w.components w.liabilities w.groups w.exposures
      ∙ ap (λ n. above quantities.Currencies n MAX_CURRENCIES) (length-with_row curve_name new sheet.curves)

  pub outside-group : (name : List ℕ) (kind : GroupKind) (step : Option ℕ) → let edit = edits.Group name kind step in
      sheet_outside edit (applied edit sheet) ≡ above quantities.Groups (length sheet.groups + added (row_of group_name name sheet.groups)) MAX_GROUPS
  outside-group name kind step =
      let w = valid.within in
      let new : Group = record { name = name; kind = kind; step = step } in
      first_outside-groups _ _ _ _ _ _ _ _ _ _ _ _ w.held refl refl w.defaults w.years w.currencies w.securities w.funds w.components w.liabilities w.exposures
      ∙ ap (λ n. above quantities.Groups n MAX_GROUPS) (length-with_row group_name new sheet.groups)

  pub outside-security : (name : List ℕ) (class : Class) (group : Option (List ℕ)) (currency : List ℕ) (duration : ℤ) → let edit = edits.Security name class group currency duration in
      sheet_outside edit (applied edit sheet) ≡ above quantities.Securities (length sheet.securities + added (row_of position_name name sheet.securities)) MAX_SECURITIES
  outside-security name class group currency duration =
      let w = valid.within in
      let edit : Edit = edits.Security name class group currency duration in
      let new : Position = record { security = record { name = name; class = class; group = group; currency = currency; duration = natural duration; flows = kept_flows name sheet.securities }; held = kept_hold name sheet.securities } in
      let same : held_total (applied edit sheet) ≡ held_total sheet = held-same edit sheet refl refl in
      let held : held_total (applied edit sheet) ≤ MAX_HELD = subst (λ (n : ℕ). n ≤ MAX_HELD) (sym same) w.held in
      let kept : greatest (security_years asof) (with_row position_name new sheet.securities) ≤ security_most =
      greatest-with_row-le (security_years asof) position_name security_most new sheet.securities (own (row_of position_name name sheet.securities) refl) (omega arith) in
      let few = w.years in
      let years : sheet_years (applied edit sheet) ≤ MAX_YEARS = omega arith in
      first_outside-securities _ _ _ _ _ _ _ _ _ _ _ _ held refl refl w.defaults years w.currencies w.funds w.components w.liabilities w.groups w.exposures
      ∙ ap (λ n. above quantities.Securities n MAX_SECURITIES) (length-with_row position_name new sheet.securities)
    where
      own : (found : Option Position) → row_of position_name name sheet.securities ≡ found → greatest_years asof (option_map_or (λ p. p.security.flows) found []) ≤ security_most
      own None e = omega arith
      own (Some p) e = row_of-le-greatest (security_years asof) position_name name sheet.securities p e

  -- where the security exists, a record of its flows fails by the years of those flows alone
  pub outside-flows : (security : List ℕ) (flows : List (Day × ℤ)) → is_in tables.Security security sheet ≡ true → let edit = edits.Flows security flows in
      sheet_outside edit (applied edit sheet) ≡ above quantities.Years (greatest_years asof flows) MAX_YEARS
  outside-flows security flows known = by (row_of position_name security sheet.securities) refl known
    where
      by : (found : Option Position) → row_of position_name security sheet.securities ≡ found → is_some found ≡ true → let edit = edits.Flows security flows in
          sheet_outside edit (applied edit sheet) ≡ above quantities.Years (greatest_years asof flows) MAX_YEARS
      by None e some = absurd (cc)
      by (Some p) e some =
          let w = valid.within in
          let edit : Edit = edits.Flows security flows in
          let change : Position → Position = λ s. record s { security = record s.security { flows = flows } } in
          let after : List Position = changed position_name change security sheet.securities in
          let same : held_total (applied edit sheet) ≡ held_total sheet = held-same edit sheet refl refl in
          let held : held_total (applied edit sheet) ≤ MAX_HELD = subst (λ (n : ℕ). n ≤ MAX_HELD) (sym same) w.held in
          let long : length after ≡ length sheet.securities = length-changed position_name change security sheet.securities (λ s. refl) in
          let few : length after ≤ MAX_SECURITIES = subst (λ (n : ℕ). n ≤ MAX_SECURITIES) (sym long) w.securities in
          let own : ℕ = greatest_years asof flows in
          let most : ℕ = max security_most own in
          let low : own ≤ greatest (security_years asof) after = le-greatest-changed (security_years asof) position_name change security sheet.securities p e in
          let high : greatest (security_years asof) after ≤ most = greatest-changed-le (security_years asof) position_name most change security sheet.securities (λ s h. omega arith) (omega arith) in
          let before = w.years in
          first_outside-years _ _ _ _ _ _ _ _ _ _ _ _ held refl refl w.defaults w.currencies few w.funds w.components w.liabilities w.groups w.exposures
          ∙ above-part quantities.Years (sheet_years (applied edit sheet)) own MAX_YEARS (omega arith) (omega arith)

  -- a fund fails by the number of funds, or by that of the components of all of them
  pub outside-fund : (name : List ℕ) (components : List (List ℕ × ℤ)) → let edit = edits.Fund name components in
      sheet_outside edit (applied edit sheet)
      ≡ option_or (above quantities.Funds (length sheet.funds + added (row_of stake_name name sheet.funds)) MAX_FUNDS)
      (above quantities.Components (components_total sheet - option_map_or stake_components (row_of stake_name name sheet.funds) 0 + length components) MAX_COMPONENTS)
  outside-fund name components =
      let w = valid.within in
      let edit : Edit = edits.Fund name components in
      let new : Stake = record { fund = record { name = name; components = components }; held = option_map_or (λ s. s.held) (row_of stake_name name sheet.funds) 0 } in
      let old : ℕ = option_map_or stake_components (row_of stake_name name sheet.funds) 0 in
      let same : held_total (applied edit sheet) ≡ held_total sheet = held-same edit sheet refl refl in
      let held : held_total (applied edit sheet) ≤ MAX_HELD = subst (λ (n : ℕ). n ≤ MAX_HELD) (sym same) w.held in
      let sum = components-fund name components sheet in
      let part = components-part name sheet in
      let value : components_total (applied edit sheet) ≡ components_total sheet - old + length components = omega arith in
      let number : length (applied edit sheet).funds ≡ length sheet.funds + added (row_of stake_name name sheet.funds) = length-with_row stake_name new sheet.funds in
      first_outside-funds _ _ _ _ _ _ _ (length (applied edit sheet).funds) (components_total (applied edit sheet)) _ _ _ held refl refl w.defaults w.years w.currencies w.securities w.liabilities w.groups w.exposures
      ∙ ap (λ n. option_or (above quantities.Funds n MAX_FUNDS) (above quantities.Components (components_total (applied edit sheet)) MAX_COMPONENTS)) number
      ∙ ap (λ n. option_or (above quantities.Funds (length sheet.funds + added (row_of stake_name name sheet.funds)) MAX_FUNDS) (above quantities.Components n MAX_COMPONENTS)) value

  -- where the security or the fund exists, a hold fails by what is then held in all alone
  pub outside-hold : (name : List ℕ) (cents : ℤ) → (is_in tables.Security name sheet || is_in tables.Fund name sheet) ≡ true → let edit = edits.Hold name cents in
      sheet_outside edit (applied edit sheet) ≡ above quantities.Held (held_total sheet - held_of sheet name + natural cents) MAX_HELD
  outside-hold name cents known =
      let w = valid.within in
      let edit : Edit = edits.Hold name cents in
      let change : Position → Position = λ p. record p { held = natural cents } in
      let change_stake : Stake → Stake = λ s. record s { held = natural cents } in
      let after : List Position = changed position_name change name sheet.securities in
      let after_funds : List Stake = changed stake_name change_stake name sheet.funds in
      let sum = held-hold name cents sheet known (in_one_table sheet valid name) in
      let all = held-part name sheet in
      let held : held_total (applied edit sheet) ≡ held_total sheet - held_of sheet name + natural cents = omega arith in
      let long : length after ≡ length sheet.securities = length-changed position_name change name sheet.securities (λ p. refl) in
      let few : length after ≤ MAX_SECURITIES = subst (λ (n : ℕ). n ≤ MAX_SECURITIES) (sym long) w.securities in
      let long_funds : length after_funds ≡ length sheet.funds = length-changed stake_name change_stake name sheet.funds (λ s. refl) in
      let few_funds : length after_funds ≤ MAX_FUNDS = subst (λ (n : ℕ). n ≤ MAX_FUNDS) (sym long_funds) w.funds in
      let components : components_total (applied edit sheet) ≤ MAX_COMPONENTS = subst (λ (n : ℕ). n ≤ MAX_COMPONENTS) (sym (components-hold name cents sheet)) w.components in
      let high : greatest (security_years asof) after ≤ security_most = greatest-changed-le (security_years asof) position_name security_most change name sheet.securities (λ p h. h) (omega arith) in
      let before = w.years in
      let years : sheet_years (applied edit sheet) ≤ MAX_YEARS = omega arith in
      first_outside-held _ _ _ _ _ _ _ _ _ _ _ _ refl refl w.defaults years w.currencies few few_funds components w.liabilities w.groups w.exposures
      ∙ ap (λ n. above quantities.Held n MAX_HELD) held

  pub outside-liability : (name : List ℕ) (kind : LiabilityKind) (currency : List ℕ) → let edit = edits.Liability name kind currency in
      sheet_outside edit (applied edit sheet) ≡ above quantities.Liabilities (length sheet.liabilities + added (row_of liability_name name sheet.liabilities)) MAX_LIABILITIES
  outside-liability name kind currency =
      let w = valid.within in
      let edit : Edit = edits.Liability name kind currency in
      let new : Liability = record { name = name; kind = kind; currency = currency; flows = option_map_or (λ l. l.flows) (row_of liability_name name sheet.liabilities) no_flows } in
      let kept : greatest (liability_years asof) (with_row liability_name new sheet.liabilities) ≤ liability_most =
      greatest-with_row-le (liability_years asof) liability_name liability_most new sheet.liabilities (own (row_of liability_name name sheet.liabilities) refl) (omega arith) in
      let before = w.years in
      let years : sheet_years (applied edit sheet) ≤ MAX_YEARS = omega arith in
      first_outside-liabilities _ _ _ _ _ _ _ _ _ _ _ _ w.held refl refl w.defaults years w.currencies w.securities w.funds w.components w.groups w.exposures
      ∙ ap (λ n. above quantities.Liabilities n MAX_LIABILITIES) (length-with_row liability_name new sheet.liabilities)
    where
      own : (found : Option Liability) → row_of liability_name name sheet.liabilities ≡ found → liability_years asof (record { name = name; kind = kind; currency = currency; flows = option_map_or (λ l. l.flows) found no_flows }) ≤ liability_most
      own None e = omega arith
      own (Some l) e = row_of-le-greatest (liability_years asof) liability_name name sheet.liabilities l e

  -- where the liability exists, a record of its flows fails by the flows of all liabilities under its projection, or by the years
  -- of the flows that it gives
  pub outside-liability_flows : (liability : List ℕ) (projection : Projection) (flows : List (Day × ℤ)) → is_in tables.Liability liability sheet ≡ true → let edit = edits.LiabilityFlows liability projection flows in
      sheet_outside edit (applied edit sheet)
      ≡ option_or (above quantities.LiabilityFlows (liability_flows_total projection sheet - option_map_or (liability_total projection) (row_of liability_name liability sheet.liabilities) 0 + total flows) MAX_LIABILITY_FLOWS)
      (above quantities.Years (greatest_years asof flows) MAX_YEARS)
  outside-liability_flows liability projection flows known = by (row_of liability_name liability sheet.liabilities) refl known
    where
      by : (found : Option Liability) → row_of liability_name liability sheet.liabilities ≡ found → is_some found ≡ true → let edit = edits.LiabilityFlows liability projection flows in
          sheet_outside edit (applied edit sheet)
          ≡ option_or (above quantities.LiabilityFlows (liability_flows_total projection sheet - option_map_or (liability_total projection) (row_of liability_name liability sheet.liabilities) 0 + total flows) MAX_LIABILITY_FLOWS)
          (above quantities.Years (greatest_years asof flows) MAX_YEARS)
      by None e some = absurd (cc)
      by (Some l) e some =
          let w = valid.within in
          let edit : Edit = edits.LiabilityFlows liability projection flows in
          let change : Liability → Liability = λ m. record m { flows = with_flows projection flows m.flows } in
          let after : List Liability = changed liability_name change liability sheet.liabilities in
          let sum = liability_flows-own liability flows sheet projection l e in
          let old : option_map_or (liability_total projection) (row_of liability_name liability sheet.liabilities) 0 ≡ liability_total projection l = ap (λ o. option_map_or (liability_total projection) o 0) e in
          let all = liability_flows-part projection liability sheet l e in
          let value : liability_flows_total projection (applied edit sheet) ≡ liability_flows_total projection sheet - option_map_or (liability_total projection) (row_of liability_name liability sheet.liabilities) 0 + total flows = omega arith in
          let long : length after ≡ length sheet.liabilities = length-changed liability_name change liability sheet.liabilities (λ m. refl) in
          let few : length after ≤ MAX_LIABILITIES = subst (λ (n : ℕ). n ≤ MAX_LIABILITIES) (sym long) w.liabilities in
          let own : ℕ = greatest_years asof flows in
          let most : ℕ = max liability_most own in
          let changed_low : own ≤ liability_years asof (change l) = le-liability_years-with_flows asof projection flows l in
          let changed_in : liability_years asof (change l) ≤ greatest (liability_years asof) after = le-greatest-changed (liability_years asof) liability_name change liability sheet.liabilities l e in
          let high : greatest (liability_years asof) after ≤ most =
          greatest-changed-le (liability_years asof) liability_name most change liability sheet.liabilities (λ m h. liability_years-with_flows-le asof most projection flows m (omega arith) h) (omega arith) in
          let before = w.years in
          first_outside-liability_flows _ _ _ _ _ _ _ _ _ _ _ _ w.held refl w.defaults w.currencies w.securities w.funds w.components few w.groups w.exposures
          ∙ ap (λ n. option_or (above quantities.LiabilityFlows n MAX_LIABILITY_FLOWS) (above quantities.Years (sheet_years (applied edit sheet)) MAX_YEARS)) value
          ∙ ap (λ o. option_or (above quantities.LiabilityFlows (liability_flows_total projection sheet - option_map_or (liability_total projection) (row_of liability_name liability sheet.liabilities) 0 + total flows) MAX_LIABILITY_FLOWS) o)
          (above-part quantities.Years (sheet_years (applied edit sheet)) own MAX_YEARS (omega arith) (omega arith))

  pub outside-segment : (set : Set) (number region : ℕ) (premium reserve : ℤ) (old : ℕ × ℕ) → volumes_in set number region sheet.numbers ≡ Some old → let edit = edits.Segment set number region premium reserve in
      sheet_outside edit (applied edit sheet) ≡ above quantities.Volumes (volumes_total set sheet - (old.0 + old.1) + (natural premium + natural reserve)) MAX_AMOUNT
  outside-segment set number region premium reserve old is =
      let w = valid.within in
      let edit : Edit = edits.Segment set number region premium reserve in
      let sum = volumes-segment set number region premium reserve sheet old is in
      let all = volumes-part set number region sheet old is in
      let value : volumes_total set (applied edit sheet) ≡ volumes_total set sheet - (old.0 + old.1) + (natural premium + natural reserve) = omega arith in
      first_outside-volumes _ _ _ _ _ _ _ _ _ _ _ _ w.held refl w.defaults w.years w.currencies w.securities w.funds w.components w.liabilities w.groups w.exposures
      ∙ ap (λ n. above quantities.Volumes n MAX_AMOUNT) value

  pub outside-bank : (name group : List ℕ) (cents : ℤ) → let edit = edits.Bank name group cents in
      sheet_outside edit (applied edit sheet)
      ≡ option_or (above quantities.Defaults (defaults_total sheet - option_map_or (λ b. b.cents) (row_of bank_name name sheet.banks) 0 + natural cents) MAX_AMOUNT)
      (above quantities.Exposures (length sheet.banks + length sheet.reinsurers + added (row_of bank_name name sheet.banks)) MAX_EXPOSURES)
  outside-bank name group cents =
      let w = valid.within in
      let edit : Edit = edits.Bank name group cents in
      let new : Bank = record { name = name; group = group; cents = natural cents } in
      let old : ℕ = option_map_or (λ b. b.cents) (row_of bank_name name sheet.banks) 0 in
      let sum = defaults-bank name group cents sheet in
      let part = defaults-part_bank name sheet in
      let value : defaults_total (applied edit sheet) ≡ defaults_total sheet - old + natural cents = omega arith in
      let long = length-with_row bank_name new sheet.banks in
      let number : length (applied edit sheet).banks + length sheet.reinsurers ≡ exposures + added (row_of bank_name name sheet.banks) = omega arith in
      first_outside-exposures _ _ _ _ _ _ _ _ _ _ _ _ w.held refl refl w.years w.currencies w.securities w.funds w.components w.liabilities w.groups
      ∙ ap (λ n. option_or (above quantities.Defaults n MAX_AMOUNT) (above quantities.Exposures (length (applied edit sheet).banks + length sheet.reinsurers) MAX_EXPOSURES)) value
      ∙ ap (λ n. option_or (above quantities.Defaults (defaults_total sheet - old + natural cents) MAX_AMOUNT) (above quantities.Exposures n MAX_EXPOSURES)) number

  pub outside-rein : (name group : List ℕ) (recoverables mitigation collateral : ℤ) → let edit = edits.Rein name group recoverables mitigation collateral in
      sheet_outside edit (applied edit sheet)
      ≡ option_or (above quantities.Defaults (defaults_total sheet - option_map_or rein_total (row_of rein_name name sheet.reinsurers) 0 + (natural recoverables + natural mitigation)) MAX_AMOUNT)
      (above quantities.Exposures (length sheet.banks + length sheet.reinsurers + added (row_of rein_name name sheet.reinsurers)) MAX_EXPOSURES)
  outside-rein name group recoverables mitigation collateral =
      let w = valid.within in
      let edit : Edit = edits.Rein name group recoverables mitigation collateral in
      let new : Rein = record { name = name; group = group; recoverables = natural recoverables; mitigation = natural mitigation; collateral = natural collateral } in
      let old : ℕ = option_map_or rein_total (row_of rein_name name sheet.reinsurers) 0 in
      let sum = defaults-rein name group recoverables mitigation collateral sheet in
      let part = defaults-part_rein name sheet in
      let value : defaults_total (applied edit sheet) ≡ defaults_total sheet - old + (natural recoverables + natural mitigation) = omega arith in
      let long = length-with_row rein_name new sheet.reinsurers in
      let number : length sheet.banks + length (applied edit sheet).reinsurers ≡ exposures + added (row_of rein_name name sheet.reinsurers) = omega arith in
      first_outside-exposures _ _ _ _ _ _ _ _ _ _ _ _ w.held refl refl w.years w.currencies w.securities w.funds w.components w.liabilities w.groups
      ∙ ap (λ n. option_or (above quantities.Defaults n MAX_AMOUNT) (above quantities.Exposures (length sheet.banks + length (applied edit sheet).reinsurers) MAX_EXPOSURES)) value
      ∙ ap (λ n. option_or (above quantities.Defaults (defaults_total sheet - old + (natural recoverables + natural mitigation)) MAX_AMOUNT) (above quantities.Exposures n MAX_EXPOSURES)) number

  -- ---- records that take no quantity of the whole book outside its limits

  length-with_absorb : (key : AbsorbKey) (cents : ℕ) → length (with_absorb key cents sheet.curves) ≡ length sheet.curves
  length-with_absorb (absorb.CurrencyUp currency) cents = length-changed curve_name (λ c. record c { absorb_up = cents }) currency sheet.curves (λ c. refl)
  length-with_absorb (absorb.CurrencyDown currency) cents = length-changed curve_name (λ c. record c { absorb_down = cents }) currency sheet.curves (λ c. refl)
  length-with_absorb key cents = refl

  outside-absorb : (key : AbsorbKey) (cents : ℤ) → let edit = edits.Absorb key cents in sheet_outside edit (applied edit sheet) ≡ None
  outside-absorb key cents =
      let w = valid.within in
      let few : length (with_absorb key (natural cents) sheet.curves) ≤ MAX_CURRENCIES = subst (λ (n : ℕ). n ≤ MAX_CURRENCIES) (sym (length-with_absorb key (natural cents))) w.currencies in
      first_outside-none _ _ _ _ _ _ _ _ _ _ _ _ w.held refl refl w.defaults w.years few w.securities w.funds w.components w.liabilities w.groups w.exposures

  outside-remove : (table : Table) (name : List ℕ) → let edit = edits.Remove table name in sheet_outside edit (applied edit sheet) ≡ None
  outside-remove tables.Group name =
      let w = valid.within in
      let fewer = length-without-le group_name name sheet.groups in
      let groups : length (without group_name name sheet.groups) ≤ MAX_GROUPS = let before = w.groups in omega arith in
      first_outside-none _ _ _ _ _ _ _ _ _ _ _ _ w.held refl refl w.defaults w.years w.currencies w.securities w.funds w.components w.liabilities groups w.exposures
  outside-remove tables.Security name =
      let w = valid.within in
      let edit : Edit = edits.Remove tables.Security name in
      let fewer = length-without-le position_name name sheet.securities in
      let securities : length (without position_name name sheet.securities) ≤ MAX_SECURITIES = let before = w.securities in omega arith in
      let sum = sum-without position_name (λ p. p.held) name sheet.securities in
      let held : held_total (applied edit sheet) ≤ MAX_HELD = let before = w.held in omega arith in
      let sooner = greatest-without-le (security_years asof) position_name name sheet.securities in
      let years : sheet_years (applied edit sheet) ≤ MAX_YEARS = let before = w.years in omega arith in
      first_outside-none _ _ _ _ _ _ _ _ _ _ _ _ held refl refl w.defaults years w.currencies securities w.funds w.components w.liabilities w.groups w.exposures
  outside-remove tables.Fund name =
      let w = valid.within in
      let edit : Edit = edits.Remove tables.Fund name in
      let fewer = length-without-le stake_name name sheet.funds in
      let funds : length (without stake_name name sheet.funds) ≤ MAX_FUNDS = let before = w.funds in omega arith in
      let sum = sum-without stake_name (λ s. s.held) name sheet.funds in
      let held : held_total (applied edit sheet) ≤ MAX_HELD = let before = w.held in omega arith in
      let count = components-drop name sheet in
      let components : components_total (applied edit sheet) ≤ MAX_COMPONENTS = let before = w.components in omega arith in
      first_outside-none _ _ _ _ _ _ _ _ _ _ _ _ held refl refl w.defaults w.years w.currencies w.securities funds components w.liabilities w.groups w.exposures
  outside-remove tables.Liability name =
      let w = valid.within in
      let edit : Edit = edits.Remove tables.Liability name in
      let fewer = length-without-le liability_name name sheet.liabilities in
      let liabilities : length (without liability_name name sheet.liabilities) ≤ MAX_LIABILITIES = let before = w.liabilities in omega arith in
      let sooner = greatest-without-le (liability_years asof) liability_name name sheet.liabilities in
      let years : sheet_years (applied edit sheet) ≤ MAX_YEARS = let before = w.years in omega arith in
      first_outside-none _ _ _ _ _ _ _ _ _ _ _ _ w.held refl refl w.defaults years w.currencies w.securities w.funds w.components liabilities w.groups w.exposures
  outside-remove tables.Bank name =
      let w = valid.within in
      let edit : Edit = edits.Remove tables.Bank name in
      let fewer = length-without-le bank_name name sheet.banks in
      let exposures_after : length (without bank_name name sheet.banks) + length sheet.reinsurers ≤ MAX_EXPOSURES = let before = w.exposures in omega arith in
      let sum = sum-without bank_name (λ b. b.cents) name sheet.banks in
      let defaults : defaults_total (applied edit sheet) ≤ MAX_AMOUNT = let before = w.defaults in omega arith in
      first_outside-none _ _ _ _ _ _ _ _ _ _ _ _ w.held refl refl defaults w.years w.currencies w.securities w.funds w.components w.liabilities w.groups exposures_after
  outside-remove tables.Rein name =
      let w = valid.within in
      let edit : Edit = edits.Remove tables.Rein name in
      let fewer = length-without-le rein_name name sheet.reinsurers in
      let exposures_after : length sheet.banks + length (without rein_name name sheet.reinsurers) ≤ MAX_EXPOSURES = let before = w.exposures in omega arith in
      let sum = sum-without rein_name rein_total name sheet.reinsurers in
      let defaults : defaults_total (applied edit sheet) ≤ MAX_AMOUNT = let before = w.defaults in omega arith in
      first_outside-none _ _ _ _ _ _ _ _ _ _ _ _ w.held refl refl defaults w.years w.currencies w.securities w.funds w.components w.liabilities w.groups exposures_after
  outside-remove tables.Curve name =
      let w = valid.within in
      let fewer = length-without-le curve_name name sheet.curves in
      let currencies : length (without curve_name name sheet.curves) ≤ MAX_CURRENCIES = let before = w.currencies in omega arith in
      first_outside-none _ _ _ _ _ _ _ _ _ _ _ _ w.held refl refl w.defaults w.years currencies w.securities w.funds w.components w.liabilities w.groups w.exposures

  -- other numbers, of the same reference date
  outside-numbers : first_outside (held_total sheet) None None (defaults_total sheet) (sheet_years sheet) (length sheet.curves) (length sheet.securities) (length sheet.funds) (components_total sheet) (length sheet.liabilities) (length sheet.groups) exposures ≡ None
  outside-numbers =
      let w = valid.within in
      first_outside-none _ _ _ _ _ _ _ _ _ _ _ _ w.held refl refl w.defaults w.years w.currencies w.securities w.funds w.components w.liabilities w.groups w.exposures

  pub outside-quiet : (edit : Edit) → is_quiet edit ≡ true → sheet_outside edit (applied edit sheet) ≡ None
  outside-quiet (edits.Absorb key cents) quiet = outside-absorb key cents
  outside-quiet (edits.Cat key cents) quiet = outside-numbers
  outside-quiet (edits.Lapse set cents) quiet = outside-numbers
  outside-quiet (edits.Due overdue other) quiet = outside-numbers
  outside-quiet (edits.Op tpl tpul tpn el eul pel peul en pen expul) quiet = outside-numbers
  outside-quiet (edits.Sym millionths) quiet = outside-numbers
  outside-quiet (edits.Tax millionths most) quiet = outside-numbers
  outside-quiet (edits.Fdb cents) quiet = outside-numbers
  outside-quiet (edits.Intangible cents) quiet = outside-numbers
  outside-quiet (edits.Remove table name) quiet = outside-remove table name
  outside-quiet edit quiet = absurd (cc)
