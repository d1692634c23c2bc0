-- The made book and its script of edits (this project's own): what records they have, each drawn in its turn.
use Rattle.std.specs.Prelude.{ℕ, zero, suc, ℤ, pos, ◌+◌, ◌*◌, ◌/◌, ◌%◌, ◌==◌, ◌++◌, Bool, true, false, List, [], ◌∷◌}
use Rattle.std.specs.Prelude.{Some, codes, map, nat_lt, if◌then◌else◌}
use Rattle.scr_dates.specs.declared.day.Day.{Day}
use Rattle.scr_profile.specs.declared.group_kind.GroupKind.{GroupKind}
use Rattle.scr_profile.specs.declared.group_kind.GroupKind.TheVariants as kinds
use Rattle.scr_profile.specs.declared.set.Set.TheVariants as sets
use Rattle.scr_sheet.specs.declared.edit.Edit.{Edit}
use Rattle.scr_sheet.specs.declared.edit.Edit.TheVariants as edits
use Rattle.scr_sheet.specs.declared.keys.CatKey.TheVariants as cats
use Rattle.scr_sheet.specs.declared.keys.Projection.{Projection}
use Rattle.scr_sheet.specs.declared.keys.Projection.TheVariants as projections
use Rattle.scr_sheet.specs.declared.rows.Class.{Class}
use Rattle.scr_sheet.specs.declared.rows.Class.TheVariants as classes
use Rattle.scr_sheet.specs.declared.rows.LiabilityKind.{LiabilityKind}
use Rattle.scr_sheet.specs.declared.rows.LiabilityKind.TheVariants as liabilities
use Rattle.scr_made.specs.Days.{midyear, year_end}
use Rattle.scr_made.specs.Draws.{Drawn, ◌>>=◌, ◌>>◌, draw, given, each}
use Rattle.scr_made.specs.Names.{group_name, security_name, fund_name, liability_name, bank_name}
use Rattle.scr_made.specs.Records.{records_text}
use Rattle.scr_made.specs.declared.making.TheConstants.{SECURITIES, FUNDS, LIABILITIES}

-- what stands for each of the years 1 to n
unfoldable pub for_years : {A : Type 0} → ℕ → (ℕ → A) → List A
for_years zero value = []
for_years (suc n) value = for_years n value ++ (value (suc n) ∷ [])

-- ---- the reference date, and the curves

-- a rate that rises with the maturity
abbrev pub rising_rate : ℕ → ℕ → ℕ → ℤ
rising_rate base step year = pos (base + step * year)

unfoldable pub rising_rates : ℕ → ℕ → List ℤ
rising_rates base step = for_years 30 (rising_rate base step)

abbrev pub opening_date : Edit
opening_date = edits.Asof (year_end 2024) (codes "EUR")

abbrev pub euro_curve : Edit
euro_curve = edits.Curve (codes "EUR") (rising_rates 20000 300)

abbrev pub dollar_curve : Edit
dollar_curve = edits.Curve (codes "USD") (rising_rates 35000 100)

abbrev pub pound_curve : Edit
pound_curve = edits.Curve (codes "GBP") (pos 40000 ∷ [])

unfoldable pub market : List Edit
market = opening_date ∷ euro_curve ∷ dollar_curve ∷ pound_curve ∷ []

-- ---- groups

abbrev pub group_kind : ℕ → GroupKind
group_kind k = if nat_lt k 20 then kinds.State else (if nat_lt k 40 then kinds.Covered else kinds.Name)

unfoldable pub group : ℕ → Drawn (List Edit)
group k = do
  step ← draw 5
  given (edits.Group (group_name k) (group_kind k) (Some step) ∷ [])

-- ---- securities, each with its flows at once

abbrev pub class_drawn : ℕ → Class
class_drawn n =
    if nat_lt n 2 then classes.Government
    else (if nat_lt n 6 then classes.Bond
    else (if n == 6 then classes.Type1Equity
    else (if n == 7 then classes.Type2Equity
    else (if n == 8 then classes.Property else classes.Other))))

abbrev pub currency_drawn : ℕ → List ℕ
currency_drawn n = if n == 0 then codes "USD" else (if n == 1 then codes "GBP" else codes "EUR")

-- a bond pays its coupon each midyear, and in the last year its face too
abbrev pub payment : ℕ → ℕ → Day × ℤ
payment years year = (midyear (2024 + year), if year == years then pos 1030000 else pos 30000)

unfoldable pub payments : ℕ → List (Day × ℤ)
payments years = for_years years (payment years)

-- the flows of 1 to 20 years
unfoldable pub flows : ℕ → Drawn (List Edit)
flows k = do
  more ← draw 20
  given (edits.Flows (security_name k) (payments (1 + more)) ∷ [])

abbrev pub promises : Class → Bool
promises classes.Government = true
promises classes.Bond = true
promises class = false

abbrev pub promised : ℕ → Class → Drawn (List Edit)
promised k class = if promises class then flows k else given []

unfoldable pub security : ℕ → Drawn (List Edit)
security k = do
  class ← draw 10
  group ← draw 400
  currency ← draw 10
  duration ← draw 14001
  promised ← promised k (class_drawn class)
  given (edits.Security (security_name k) (class_drawn class) (Some (group_name group)) (currency_drawn currency)
      (pos (1000 + duration)) ∷ promised)

-- ---- funds

-- a component with its weight
unfoldable pub component : List ℕ → Drawn (List (List ℕ × ℤ))
component name = do
  weight ← draw 1000
  given ((name, pos (1 + weight)) ∷ [])

-- every 397th security from this one on
abbrev pub spread_component : ℕ → ℕ → Drawn (List (List ℕ × ℤ))
spread_component first j = component (security_name ((first + 397 * j) % SECURITIES))

-- one of the funds before it
unfoldable pub fund_component : ℕ → Drawn (List (List ℕ × ℤ))
fund_component k = do
  fund ← draw k
  component (fund_name fund)

-- the first fund has none before it
abbrev pub held_fund : ℕ → Drawn (List (List ℕ × ℤ))
held_fund k = if k == 0 then given [] else fund_component k

unfoldable pub components : ℕ → Drawn (List (List ℕ × ℤ))
components k = do
  first ← draw SECURITIES
  each 20 (spread_component first) >> held_fund k

unfoldable pub fund : ℕ → Drawn (List Edit)
fund k = do
  components ← components k
  given (edits.Fund (fund_name k) components ∷ [])

-- ---- what is held

unfoldable pub holding : ℕ → Drawn (List Edit)
holding security = do
  cents ← draw 200000001
  given (edits.Hold (security_name security) (pos (300000000 + cents)) ∷ [])

-- a new holding of some security
unfoldable pub trade : Drawn (List Edit)
trade = do
  security ← draw SECURITIES
  holding security

unfoldable pub stake : ℕ → List Edit
stake k = edits.Hold (fund_name k) (pos 13000000000) ∷ []

-- ---- liabilities

abbrev pub liability_kind : ℕ → LiabilityKind
liability_kind k =
    if nat_lt k 120 then liabilities.Life else (if nat_lt k 160 then liabilities.Health else liabilities.Other)

-- a payment of the best estimate at the end of a year
unfoldable pub best_payment : ℕ → Drawn (List (Day × ℕ))
best_payment k = do
  cents ← draw 50000001
  given ((year_end (2025 + k), 50000000 + cents) ∷ [])

-- a projection, and by how many thousandths of the best estimate its payments are higher
abbrev pub Stress : Type 0
Stress = Projection × ℕ

abbrev pub best_estimate : Stress
best_estimate = (projections.Base, 0)

abbrev pub common_stresses : List Stress
common_stresses =
    (projections.Mortality, 15) ∷ (projections.Longevity, 20) ∷ (projections.Disability, 10)
    ∷ (projections.Expense, 25) ∷ (projections.Revision, 5) ∷ (projections.LapseUp, 12)
    ∷ (projections.LapseDown, 18) ∷ (projections.LapseMass, 30) ∷ []

-- the projections of a liability of each kind, in their order
abbrev pub stresses : LiabilityKind → List Stress
stresses liabilities.Life = best_estimate ∷ common_stresses ++ ((projections.Catastrophe, 8) ∷ [])
stresses liabilities.Health = best_estimate ∷ common_stresses
stresses liabilities.Other = best_estimate ∷ []

-- the payment higher by so many thousandths, rounded down
abbrev pub raised : ℕ → Day × ℕ → Day × ℤ
raised thousandths payment = (payment.0, pos (payment.1 + payment.1 * thousandths / 1000))

abbrev pub projection_of : ℕ → List (Day × ℕ) → Stress → Edit
projection_of k best stress = edits.LiabilityFlows (liability_name k) stress.0 (map (raised stress.1) best)

unfoldable pub projections_of : ℕ → List (Day × ℕ) → List Edit
projections_of k best = map (projection_of k best) (stresses (liability_kind k))

unfoldable pub best_payments : Drawn (List (Day × ℕ))
best_payments = each 30 best_payment

unfoldable pub liability : ℕ → Drawn (List Edit)
liability k = do
  best ← best_payments
  given (edits.Liability (liability_name k) (liability_kind k) (codes "EUR") ∷ projections_of k best)

-- ---- segments, banks, and single numbers

unfoldable pub segment : ℕ → Drawn (List Edit)
segment k = do
  premium ← draw 1000000001
  reserve ← draw 1000000001
  given (edits.Segment sets.Nl (1 + k) 1 (pos (1000000000 + premium)) (pos (1000000000 + reserve)) ∷ [])

unfoldable pub bank : ℕ → Drawn (List Edit)
bank k = do
  group ← draw 380
  given (edits.Bank (bank_name k) (group_name (20 + group)) (pos 50000000) ∷ [])

abbrev pub windstorm : Edit
windstorm = edits.Cat cats.Windstorm (pos 2000000000)

abbrev pub fire : Edit
fire = edits.Cat cats.Fire (pos 1000000000)

abbrev pub operations : Edit
operations =
    edits.Op (pos 100000000000) (pos 0) (pos 20000000000) (pos 10000000000) (pos 0) (pos 9000000000) (pos 0)
    (pos 15000000000) (pos 14000000000) (pos 0)

abbrev pub taxes : Edit
taxes = edits.Tax (pos 250000) (pos 10000000000)

unfoldable pub charges : List Edit
charges = windstorm ∷ fire ∷ operations ∷ taxes ∷ []

-- ---- the whole

unfoldable pub assets : Drawn (List Edit)
assets =
    ((((given market >> each 400 group) >> each SECURITIES security) >> each FUNDS fund) >> each SECURITIES holding)
    >> each FUNDS (λ k. given (stake k))

unfoldable pub book : Drawn (List Edit)
book = (((assets >> each LIABILITIES liability) >> each 12 segment) >> each 20 bank) >> given charges

abbrev pub closing_date : Edit
closing_date = edits.Asof (year_end 2025) (codes "EUR")

unfoldable pub closing : List Edit
closing = edits.Sym (pos 20000) ∷ closing_date ∷ []

unfoldable pub script : Drawn (List Edit)
script = each 18 (λ k. trade) >> given closing

-- the edits of the book and those of its script, made from a number
unfoldable pub made_book : ℕ → List Edit
made_book number = (book number).0

unfoldable pub made_script : ℕ → List Edit
made_script number = (script (book number).1).0

-- their texts
unfoldable pub book_text : ℕ → List ℕ
book_text number = records_text (made_book number)

unfoldable pub script_text : ℕ → List ℕ
script_text number = records_text (made_script number)
