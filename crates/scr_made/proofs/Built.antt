-- What holds of the balance sheet while a made book is built: its names, and what each row is at most. The bounds of
-- the rows and their numbers are those of the whole book, so they bound every sum, in whatever order records come.
use Rattle.std.proofs.Common.{◌≡◌, ℕ, suc, ℤ, pos, ◌+◌, ◌*◌, ◌<◌, ◌≤◌, ◌^◌, false, List, [], ◌∷◌, map, length, sum_by, Option, None, refl, sym, ap, ◌∙◌, arith}
use Rattle.std.specs.Prelude.{codes}
use Rattle.std.specs.List.{AllByRecursion}
use Rattle.std.specs.Option.{option_or}
use Rattle.std.proofs.Math.Nat.{mul-le-mul_right}
use Rattle.std.proofs.lemmas.List.{length-map}
use Rattle.std.proofs.lemmas.List.Sums.{sum_by-cons}
use Rattle.scr_dates.specs.declared.day.Day.{Day}
use Rattle.scr_tables.specs.Names.{same_name}
use Rattle.scr_tables.proofs.TableRows.{All-map}
use Rattle.scr_profile.specs.declared.set.Set.TheVariants as sets
use Rattle.scr_profile.specs.declared.limits.TheConstants.{MAX_AMOUNT, MAX_COMPONENTS, MAX_CURRENCIES, MAX_EXPOSURES, MAX_FUNDS, MAX_GROUPS, MAX_HELD, MAX_LIABILITIES, MAX_LIABILITY_FLOWS, MAX_SECURITIES, MAX_YEARS}
use Rattle.scr_sheet.specs.BalanceSheet.{bank_name, components_total, curve_name, defaults_total, group_name, held_total, liability_flows_total, liability_name, liability_years, position_name, security_years, sheet_years, stake_name, volumes_total}
use Rattle.scr_sheet.specs.CashFlows.{all_projections, flows_under, greatest_years, total}
use Rattle.scr_sheet.specs.Faults.{above, liability_flows_outside, sheet_outside, volumes_outside}
use Rattle.scr_sheet.specs.declared.{edit.Edit.Edit, keys.Projection.Projection, numbers.Numbers.Numbers, rows.Bank.Bank, rows.Liability.Liability, rows.Position.Position, rows.Stake.Stake, sheet.BalanceSheet.BalanceSheet}
use Rattle.scr_sheet.specs.declared.fault.Fault.{Fault}
use Rattle.scr_sheet.specs.declared.fault.Quantity.TheVariants as quantities
use Rattle.scr_sheet.proofs.Bounds.{above-within}
use Rattle.scr_sheet.proofs.Greatest.{greatest-le}
use Rattle.scr_sheet.proofs.Projections.{every_projection}
use Rattle.scr_made.specs.Made.{liability_kind}
use Rattle.scr_made.proofs.Numbered.{bank_letter, fund_letter, group_letter, length-names_to, liability_letter, names_to, row_name, security_letter}
use Rattle.scr_made.proofs.Sight.{ArePaid, InSight, greatest-in_sight}

-- ---- what each row is at most

pub record PositionBounds (p : Position) : Type 0 where
  pub held : p.held ≤ 500000000
  pub paid : ArePaid p.security.flows

-- no component is a fund of this number or a greater one
abbrev pub AreBelow : ℕ → List (List ℕ × ℤ) → Type 0
AreBelow u components =
    AllByRecursion (λ c. (k : ℕ) → u ≤ k → k < 2 ^ 32 → same_name c.0 (row_name fund_letter k) ≡ false) components

pub record StakeBounds (u : ℕ) (s : Stake) : Type 0 where
  pub held : s.held ≤ 13000000000
  pub few : length s.fund.components ≤ 21
  pub below : AreBelow u s.fund.components

-- the payments under one projection
pub record FlowBounds (flows : List (Day × ℤ)) : Type 0 where
  pub sum : total flows ≤ 3090000000
  pub paid : ArePaid flows

-- a liability has the kind of its number
pub record LineBounds (l : Liability) : Type 0 where
  pub flows : (projection : Projection) → FlowBounds (flows_under projection l.flows)
  pub kind : (k : ℕ) → k < 2 ^ 32 → l.name ≡ row_name liability_letter k → l.kind ≡ liability_kind k

abbrev pub BankBounds : Bank → Type 0
BankBounds b = b.cents ≤ 50000000

pub record SegmentBounds (segment : List (ℕ × ℕ)) : Type 0 where
  pub regions : length segment ≤ 18
  pub volumes : AllByRecursion (λ (v : ℕ × ℕ). v.0 + v.1 ≤ 4000000000) segment

-- ---- the tables

abbrev pub euros_dollars_pounds : List (List ℕ)
euros_dollars_pounds = codes "EUR" ∷ codes "USD" ∷ codes "GBP" ∷ []

-- so many rows of each kind
pub record Counts : Type 0 where
  pub groups : ℕ
  pub securities : ℕ
  pub funds : ℕ
  pub liabilities : ℕ
  pub banks : ℕ

pub record AreFew (n : Counts) : Type 0 where
  pub groups : n.groups ≤ 400
  pub securities : n.securities ≤ 8000
  pub funds : n.funds ≤ 60
  pub liabilities : n.liabilities ≤ 200
  pub banks : n.banks ≤ 20

pub record Built (n : Counts) (sheet : BalanceSheet) : Type 0 where
  pub few : AreFew n
  pub groups : map group_name sheet.groups ≡ names_to group_letter n.groups
  pub securities : map position_name sheet.securities ≡ names_to security_letter n.securities
  pub positions : AllByRecursion PositionBounds sheet.securities
  pub funds : map stake_name sheet.funds ≡ names_to fund_letter n.funds
  pub stakes : AllByRecursion (StakeBounds n.funds) sheet.funds
  pub liabilities : map liability_name sheet.liabilities ≡ names_to liability_letter n.liabilities
  pub lines : AllByRecursion LineBounds sheet.liabilities
  pub banks : map bank_name sheet.banks ≡ names_to bank_letter n.banks
  pub exposures : AllByRecursion BankBounds sheet.banks
  pub reinsurers : sheet.reinsurers ≡ []
  pub curves : map curve_name sheet.curves ≡ euros_dollars_pounds
  pub segments : length sheet.numbers.nl ≤ 12
  pub volumes : AllByRecursion SegmentBounds sheet.numbers.nl
  pub sight : InSight sheet.numbers.asof.number

-- ---- sums over rows

sum-le : {Row : Type 0} (f : Row → ℕ) (P : Row → Type 0) (most : ℕ) → ((row : Row) → P row → f row ≤ most)
    → (rows : List Row) → AllByRecursion P rows → sum_by f rows ≤ length rows * most
sum-le f P most each [] all = omega arith
sum-le f P most each (row ∷ rows) all =
    let here = each row all.0 in
    let rest = sum-le f P most each rows all.1 in
    omega (arith, here, rest, sum_by-cons f row rows)

sum-within_rows : {Row : Type 0} (f : Row → ℕ) (P : Row → Type 0) (most limit : ℕ) → ((row : Row) → P row → f row ≤ most)
    → (rows : List Row) → length rows ≤ limit → AllByRecursion P rows → sum_by f rows ≤ limit * most
sum-within_rows f P most limit each rows few all =
    let sum = sum-le f P most each rows all in
    let many : length rows * most ≤ limit * most = mul-le-mul_right most few in
    omega (arith, sum, many)

counted : {Row : Type 0} (name_of : Row → List ℕ) (letter n : ℕ) (rows : List Row)
    → map name_of rows ≡ names_to letter n → length rows ≡ n
counted name_of letter n rows is = sym (length-map rows name_of) ∙ ap length is ∙ length-names_to letter n

sum-within : {Row : Type 0} (f : Row → ℕ) (P : Row → Type 0) (most : ℕ) → ((row : Row) → P row → f row ≤ most)
    → (name_of : Row → List ℕ) (letter n limit : ℕ) → n ≤ limit → (rows : List Row)
    → map name_of rows ≡ names_to letter n → AllByRecursion P rows → sum_by f rows ≤ limit * most
sum-within f P most each name_of letter n limit few rows is all =
    let count = counted name_of letter n rows is in
    sum-within_rows f P most limit each rows (omega (arith, count, few)) all

all_none : {a b c d e f g h i j k l : Option Fault} → a ≡ None → b ≡ None → c ≡ None → d ≡ None → e ≡ None → f ≡ None
    → g ≡ None → h ≡ None → i ≡ None → j ≡ None → k ≡ None → l ≡ None
    → option_or a (option_or b (option_or c (option_or d (option_or e (option_or f (option_or g (option_or h (option_or i
    (option_or j (option_or k l)))))))))) ≡ None
all_none m n o p q r s t u v w x = cc

module _ (n : Counts) (sheet : BalanceSheet) (b : Built n sheet) where
  held-within : held_total sheet ≤ MAX_HELD
  held-within =
      let securities = sum-within (λ p. p.held) PositionBounds 500000000 (λ p h. h.held) position_name security_letter n.securities 8000 b.few.securities sheet.securities b.securities b.positions in
      let funds = sum-within (λ s. s.held) (StakeBounds n.funds) 13000000000 (λ s h. h.held) stake_name fund_letter n.funds 60 b.few.funds sheet.funds b.funds b.stakes in
      omega (arith, securities, funds)

  pub flows-within : (projection : Projection) → liability_flows_total projection sheet ≤ MAX_LIABILITY_FLOWS
  flows-within projection =
      let flows = sum-within (λ l. total (flows_under projection l.flows)) LineBounds 3090000000 (λ l h. (h.flows projection).sum) liability_name liability_letter n.liabilities 200 b.few.liabilities sheet.liabilities b.liabilities b.lines in
      omega (arith, flows)

  pub volumes-within : volumes_total sets.Nl sheet ≤ MAX_AMOUNT
  volumes-within =
      let of_segment : (segment : List (ℕ × ℕ)) → SegmentBounds segment → sum_by (λ (v : ℕ × ℕ). v.0 + v.1) segment ≤ 72000000000 =
      λ segment h. sum-within_rows (λ (v : ℕ × ℕ). v.0 + v.1) (λ (v : ℕ × ℕ). v.0 + v.1 ≤ 4000000000) 4000000000 18 (λ v most. most) segment h.regions h.volumes in
      let volumes = sum-within_rows (λ segment. sum_by (λ (v : ℕ × ℕ). v.0 + v.1) segment) SegmentBounds 72000000000 12 of_segment sheet.numbers.nl b.segments b.volumes in
      omega (arith, volumes)

  defaults-within : defaults_total sheet ≤ MAX_AMOUNT
  defaults-within =
      let banks = sum-within (λ b. b.cents) BankBounds 50000000 (λ b h. h) bank_name bank_letter n.banks 20 b.few.banks sheet.banks b.banks b.exposures in
      let reinsurers : sum_by (λ r. r.recoverables + r.mitigation) sheet.reinsurers ≡ 0 = ap (sum_by (λ r. r.recoverables + r.mitigation)) b.reinsurers in
      omega (arith, banks, reinsurers)

  components-within : components_total sheet ≤ MAX_COMPONENTS
  components-within =
      let components = sum-within (λ s. length s.fund.components) (StakeBounds n.funds) 21 (λ s h. h.few) stake_name fund_letter n.funds 60 b.few.funds sheet.funds b.funds b.stakes in
      omega (arith, components)

  years-within : sheet_years sheet ≤ MAX_YEARS
  years-within =
      let asof = sheet.numbers.asof.number in
      let of_line : (l : Liability) → LineBounds l → liability_years asof l ≤ 100 =
      λ l h. greatest-le (λ projection. greatest_years asof (flows_under projection l.flows)) 100 all_projections
      (every_projection (λ projection. greatest_years asof (flows_under projection l.flows) ≤ 100)
      (λ projection. greatest-in_sight asof b.sight (flows_under projection l.flows) (h.flows projection).paid)) in
      let securities = greatest-le (security_years asof) 100 sheet.securities
      (All-map PositionBounds (λ p. security_years asof p ≤ 100) sheet.securities (λ p h. greatest-in_sight asof b.sight p.security.flows h.paid) b.positions) in
      let liabilities = greatest-le (liability_years asof) 100 sheet.liabilities
      (All-map LineBounds (λ l. liability_years asof l ≤ 100) sheet.liabilities of_line b.lines) in
      omega (arith, securities, liabilities)

  -- so no quantity of the sheet is outside its limits, whatever the record
  pub within : (edit : Edit) → liability_flows_outside edit sheet ≡ None → volumes_outside edit sheet ≡ None
      → sheet_outside edit sheet ≡ None
  within edit flows volumes =
      let groups = counted group_name group_letter n.groups sheet.groups b.groups in
      let securities = counted position_name security_letter n.securities sheet.securities b.securities in
      let funds = counted stake_name fund_letter n.funds sheet.funds b.funds in
      let liabilities = counted liability_name liability_letter n.liabilities sheet.liabilities b.liabilities in
      let banks = counted bank_name bank_letter n.banks sheet.banks b.banks in
      let currencies : length sheet.curves ≡ 3 = sym (length-map sheet.curves curve_name) ∙ ap length b.curves in
      let none : length sheet.reinsurers ≡ 0 = ap length b.reinsurers in
      all_none (above-within quantities.Held (held_total sheet) MAX_HELD held-within) flows volumes
      (above-within quantities.Defaults (defaults_total sheet) MAX_AMOUNT defaults-within)
      (above-within quantities.Years (sheet_years sheet) MAX_YEARS years-within)
      (above-within quantities.Currencies (length sheet.curves) MAX_CURRENCIES (omega (arith, currencies)))
      (above-within quantities.Securities (length sheet.securities) MAX_SECURITIES (omega (arith, securities, b.few.securities)))
      (above-within quantities.Funds (length sheet.funds) MAX_FUNDS (omega (arith, funds, b.few.funds)))
      (above-within quantities.Components (components_total sheet) MAX_COMPONENTS components-within)
      (above-within quantities.Liabilities (length sheet.liabilities) MAX_LIABILITIES (omega (arith, liabilities, b.few.liabilities)))
      (above-within quantities.Groups (length sheet.groups) MAX_GROUPS (omega (arith, groups, b.few.groups)))
      (above-within quantities.Exposures (length sheet.banks + length sheet.reinsurers) MAX_EXPOSURES (omega (arith, banks, none, b.few.banks)))

  -- single numbers of which the invariant says nothing may change
  pub with_numbers : (numbers : Numbers) → length numbers.nl ≤ 12 → AllByRecursion SegmentBounds numbers.nl
      → InSight numbers.asof.number → Built n (record sheet { numbers = numbers })
  with_numbers numbers segments volumes sight = record {
    few = b.few;
    groups = b.groups;
    securities = b.securities;
    positions = b.positions;
    funds = b.funds;
    stakes = b.stakes;
    liabilities = b.liabilities;
    lines = b.lines;
    banks = b.banks;
    exposures = b.exposures;
    reinsurers = b.reinsurers;
    curves = b.curves;
    segments = segments;
    volumes = volumes;
    sight = sight;
  }
