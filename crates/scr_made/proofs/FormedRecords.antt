-- Each record that is made has its form.
use Rattle.std.proofs.Common.{◌≡◌, ℕ, zero, suc, ◌+◌, ◌*◌, ◌/◌, ◌%◌, ◌^◌, ◌<◌, ◌≤◌, ◌==◌, false, List, []}
use Rattle.std.proofs.Common.{codes, refl, arith, rules, lit<, lit≤, ℤ, pos}
use Rattle.std.specs.List.{AllByRecursion}
use Rattle.std.proofs.Math.Nat.{div-le_self, mul-le-mul}
use Rattle.std.proofs.lemmas.Nat.{mod_below}
use Rattle.jiff_core.specs.Calendar.{IsCivilDate, IsYear}
use Rattle.jiff_core.proofs.SignedLemmas.{signed_arith}
use Rattle.scr_dates.specs.declared.day.Day.{Day}
use Rattle.scr_dates.specs.Civil.{IsDay}
use Rattle.scr_dates.proofs.Dates.{day_in_range}
use Rattle.scr_sheet.specs.declared.edit.Edit.{Edit}
use Rattle.scr_sheet.specs.declared.rows.Class.{Class}
use Rattle.scr_sheet.specs.declared.rows.LiabilityKind.{LiabilityKind}
use Rattle.scr_sheet.specs.declared.rows.LiabilityKind.TheVariants as kinds
use Rattle.scr_sheet.specs.Forms.{Formed, IsName, IsCurrency, IsNumber, AreFlows}
use Rattle.scr_made.specs.Days.{day_on, midyear, year_end}
use Rattle.scr_made.specs.Draws.{Drawn, draw, given, each, ◌>>◌}
use Rattle.scr_made.specs.Made as spec
use Rattle.scr_made.specs.Made.{payments, payment, rising_rates, rising_rate, Stress, raised}
use Rattle.scr_made.specs.Names.{numbered, IsLetter, group_name, security_name, fund_name, liability_name, bank_name}
use Rattle.scr_made.specs.declared.making.TheConstants.{SECURITIES, FUNDS, LIABILITIES}
use Rattle.scr_made.proofs.Members.{AllMade, all_map, all_then, all_each, all_years, either, draw_below}
use Rattle.scr_made.proofs.NamesRead.{numbered_name}

-- ---- names, days and numbers

named : (letter : List ℕ) (k : ℕ) → IsLetter letter → k < 2 ^ 32 → IsName (numbered letter k)
unfolding numbered
named letter k h small = numbered_name letter k h small

security_named : (k : ℕ) → k < 2 ^ 32 → IsName (security_name k)
security_named k small = named (codes "S") k (83, refl, refl) small

group_named : (k : ℕ) → k < 2 ^ 32 → IsName (group_name k)
group_named k small = named (codes "G") k (71, refl, refl) small

fund_named : (k : ℕ) → k < 2 ^ 32 → IsName (fund_name k)
fund_named k small = named (codes "U") k (85, refl, refl) small

liability_named : (k : ℕ) → k < 2 ^ 32 → IsName (liability_name k)
liability_named k small = named (codes "L") k (76, refl, refl) small

bank_named : (k : ℕ) → k < 2 ^ 32 → IsName (bank_name k)
bank_named k small = named (codes "B") k (66, refl, refl) small

-- a year of those that days are taken from
record Taken (year : ℕ) : Type 0 where
  since : 1900 ≤ year
  until : year ≤ 2200

is_year : (year : ℕ) → Taken year → IsYear (pos year)
is_year year h = (omega (arith, signed_arith), omega (arith, signed_arith))

in_range : (year month day : ℕ) → Taken year → IsCivilDate (pos year) month day → IsDay (day_on year month day).number
unfolding day_on
in_range year month day h civil =
    day_in_range (pos year) month day civil (omega (arith, signed_arith, h.since))
    (omega (arith, signed_arith, h.until))

midyear_in_range : (year : ℕ) → Taken year → IsDay (midyear year).number
midyear_in_range year h = in_range year 6 30 h (is_year year h, (lit≤ tt, lit≤ tt), (lit≤ tt, lit≤ tt))

year_end_in_range : (year : ℕ) → Taken year → IsDay (year_end year).number
year_end_in_range year h = in_range year 12 31 h (is_year year h, (lit≤ tt, lit≤ tt), (lit≤ tt, lit≤ tt))

number : (n : ℕ) → n ≤ 1000000000000 → IsNumber (pos n)
number n h = omega (arith, h)

-- ---- the reference date, the curves and the groups

rates_formed : (base step : ℕ) → base ≤ 40000 → step ≤ 300 → AllByRecursion IsNumber (rising_rates base step)
unfolding rising_rates
rates_formed base step low few = all_years IsNumber 30 (rising_rate base step)
    (λ year le. number (base + step * year) (omega (arith, low, mul-le-mul few le)))

market_formed : AllByRecursion Formed spec.market
unfolding spec.market
market_formed = (
  (year_end_in_range 2024 (record { since = lit≤ tt; until = lit≤ tt }), refl),
  (
    (refl, rates_formed 20000 300 (lit≤ tt) (lit≤ tt)),
    ((refl, rates_formed 35000 100 (lit≤ tt) (lit≤ tt)), ((refl, (number 40000 (lit≤ tt), tt)), tt)),
  ),
)

group_formed : (k : ℕ) → k < 400 → AllMade Formed (spec.group k)
unfolding spec.group
group_formed k h state = ((group_named k (omega (arith, h)), omega (arith, draw_below 5 state (lit< tt))), tt)

-- ---- securities

currency_formed : (n : ℕ) → IsCurrency (spec.currency_drawn n)
currency_formed n =
    either IsCurrency (n == 0) (codes "USD") _ refl (either IsCurrency (n == 1) (codes "GBP") _ refl refl)

payment_formed : (years year : ℕ) → year ≤ 20 → IsDay (payment years year).0.number × IsNumber (payment years year).1
payment_formed years year le = (
  midyear_in_range (2024 + year) (record { since = omega arith; until = omega (arith, le) }),
  either IsNumber (year == years) (pos 1030000) (pos 30000) (number 1030000 (lit≤ tt)) (number 30000 (lit≤ tt)),
)

payments_formed : (years : ℕ) → years ≤ 20 → AreFlows (payments years)
unfolding payments
payments_formed years few = all_years (λ flow. IsDay flow.0.number × IsNumber flow.1) years (payment years)
    (λ year le. payment_formed years year (omega (arith, le, few)))

flows_formed : (k : ℕ) → k < SECURITIES → AllMade Formed (spec.flows k)
unfolding spec.flows
flows_formed k h state = (
  (
    security_named k (omega (arith, h)),
    payments_formed (1 + (draw 20 state).0)
        (omega (arith, draw_below 20 state (lit< tt))),
  ),
  tt,
)

promised_formed : (k : ℕ) (class : Class) → k < SECURITIES → AllMade Formed (spec.promised k class)
promised_formed k class h =
    either (AllMade Formed) (spec.promises class) (spec.flows k) (given []) (flows_formed k h) (λ state. tt)

security_formed : (k : ℕ) → k < SECURITIES → AllMade Formed (spec.security k)
unfolding spec.security
security_formed k h state =
    let second = (draw 10 state).1 in
    let third = (draw 400 second).1 in
    let fourth = (draw 10 third).1 in (
      (
        security_named k (omega (arith, h)),
        group_named (draw 400 second).0 (omega (arith, draw_below 400 second (lit< tt))),
        currency_formed (draw 10 third).0,
        number (1000 + (draw 14001 fourth).0) (omega (arith, draw_below 14001 fourth (lit< tt))),
      ),
      promised_formed k (spec.class_drawn (draw 10 state).0) h (draw 14001 fourth).1,
    )

-- ---- funds

abbrev IsComponent : List ℕ × ℤ → Type 0
IsComponent component = IsName component.0 × IsNumber component.1

component_formed : (name : List ℕ) → IsName name → AllMade IsComponent (spec.component name)
unfolding spec.component
component_formed name h state =
    ((h, number (1 + (draw 1000 state).0) (omega (arith, draw_below 1000 state (lit< tt)))), tt)

spread_formed : (first j : ℕ) → AllMade IsComponent (spec.spread_component first j)
spread_formed first j =
    let k = (first + 397 * j) % SECURITIES in
    component_formed (security_name k)
    (security_named k (omega (arith, mod_below (first + 397 * j) SECURITIES (lit< tt))))

fund_component_formed : (k : ℕ) → 0 < k → k < FUNDS → AllMade IsComponent (spec.fund_component k)
unfolding spec.fund_component
fund_component_formed k some h state =
    component_formed (fund_name (draw k state).0)
    (fund_named (draw k state).0 (omega (arith, h, draw_below k state some))) (draw k state).1

held_fund_formed : (k : ℕ) → k < FUNDS → AllMade IsComponent (spec.held_fund k)
held_fund_formed zero h state = tt
held_fund_formed (suc k) h state =
    let later : (suc k == 0) ≡ false = grind arith in
    rw later (fund_component_formed (suc k) (omega arith) h state)

components_formed : (k : ℕ) → k < FUNDS → AllMade IsComponent (spec.components k)
unfolding spec.components
components_formed k h state =
    let first = (draw SECURITIES state).0 in
    all_then IsComponent (each 20 (spec.spread_component first)) (spec.held_fund k)
    (all_each IsComponent 20 (spec.spread_component first) (λ j lt. spread_formed first j)) (held_fund_formed k h)
    (draw SECURITIES state).1

fund_formed : (k : ℕ) → k < FUNDS → AllMade Formed (spec.fund k)
unfolding spec.fund
fund_formed k h state = ((fund_named k (omega (arith, h)), components_formed k h state), tt)

-- ---- what is held

holding_formed : (security : ℕ) → security < SECURITIES → AllMade Formed (spec.holding security)
unfolding spec.holding
holding_formed security h state = (
  (
    security_named security (omega (arith, h)),
    number (300000000 + (draw 200000001 state).0) (omega (arith, draw_below 200000001 state (lit< tt))),
  ),
  tt,
)

trade_formed : AllMade Formed spec.trade
unfolding spec.trade
trade_formed state =
    holding_formed (draw SECURITIES state).0 (draw_below SECURITIES state (lit< tt)) (draw SECURITIES state).1

stake_formed : (k : ℕ) → k < FUNDS → AllByRecursion Formed (spec.stake k)
unfolding spec.stake
stake_formed k h = ((fund_named k (omega (arith, h)), number 13000000000 (lit≤ tt)), tt)

-- ---- liabilities

abbrev IsBest : Day × ℕ → Type 0
IsBest payment = IsDay payment.0.number × (payment.1 ≤ 100000000)

best_payment_formed : (k : ℕ) → k < 30 → AllMade IsBest (spec.best_payment k)
unfolding spec.best_payment
best_payment_formed k h state = (
  (
    year_end_in_range (2025 + k) (record { since = omega arith; until = omega (arith, h) }),
    omega (arith, draw_below 50000001 state (lit< tt)),
  ),
  tt,
)

best_formed : AllMade IsBest spec.best_payments
unfolding spec.best_payments
best_formed state = all_each IsBest 30 spec.best_payment best_payment_formed state

abbrev IsSmall : Stress → Type 0
IsSmall stress = stress.1 ≤ 1000

stresses_small : (kind : LiabilityKind) → AllByRecursion IsSmall (spec.stresses kind)
stresses_small kinds.Life = search rules
stresses_small kinds.Health = search rules
stresses_small kinds.Other = search rules

raised_formed : (thousandths : ℕ) → thousandths ≤ 1000 → (payment : Day × ℕ) → IsBest payment
    → IsDay (raised thousandths payment).0.number × IsNumber (raised thousandths payment).1
raised_formed thousandths few payment h = (
  h.0,
  number (payment.1 + payment.1 * thousandths / 1000)
      (omega (arith, h.1, mul-le-mul h.1 few, div-le_self (payment.1 * thousandths) 1000)),
)

projection_formed : (k : ℕ) → k < LIABILITIES → (best : List (Day × ℕ)) → AllByRecursion IsBest best
    → (stress : Stress) → IsSmall stress → Formed (spec.projection_of k best stress)
projection_formed k h best all stress few = (
  liability_named k (omega (arith, h)),
  all_map IsBest (λ flow. IsDay flow.0.number × IsNumber flow.1)
      (raised stress.1) (raised_formed stress.1 few) best all,
)

projections_formed : (k : ℕ) → k < LIABILITIES → (best : List (Day × ℕ)) → AllByRecursion IsBest best
    → AllByRecursion Formed (spec.projections_of k best)
unfolding spec.projections_of
projections_formed k h best all =
    all_map IsSmall Formed (spec.projection_of k best) (projection_formed k h best all)
    (spec.stresses (spec.liability_kind k)) (stresses_small (spec.liability_kind k))

liability_formed : (k : ℕ) → k < LIABILITIES → AllMade Formed (spec.liability k)
unfolding spec.liability
liability_formed k h state = (
  (liability_named k (omega (arith, h)), refl),
  projections_formed k h (spec.best_payments state).0 (best_formed state),
)

-- ---- segments, banks, and single numbers

segment_formed : (k : ℕ) → k < 12 → AllMade Formed (spec.segment k)
unfolding spec.segment
segment_formed k h state =
    let second = (draw 1000000001 state).1 in (
      (
        omega arith,
        omega (arith, h),
        lit≤ tt,
        lit≤ tt,
        number (1000000000 + (draw 1000000001 state).0) (omega (arith, draw_below 1000000001 state (lit< tt))),
        number (1000000000 + (draw 1000000001 second).0) (omega (arith, draw_below 1000000001 second (lit< tt))),
      ),
      tt,
    )

bank_formed : (k : ℕ) → k < 20 → AllMade Formed (spec.bank k)
unfolding spec.bank
bank_formed k h state = (
  (
    bank_named k (omega (arith, h)),
    group_named (20 + (draw 380 state).0) (omega (arith, draw_below 380 state (lit< tt))),
    number 50000000 (lit≤ tt),
  ),
  tt,
)

charges_formed : AllByRecursion Formed spec.charges
unfolding spec.charges
charges_formed = search rules

closing_formed : AllByRecursion Formed spec.closing
unfolding spec.closing
closing_formed = (
  number 20000 (lit≤ tt),
  ((year_end_in_range 2025 (record { since = lit≤ tt; until = lit≤ tt }), refl), tt),
)

-- ---- the whole

assets_formed : AllMade Formed spec.assets
unfolding spec.assets
assets_formed state =
    let groups : Drawn (List Edit) = given spec.market >> each 400 spec.group in
    let securities : Drawn (List Edit) = groups >> each SECURITIES spec.security in
    let funds : Drawn (List Edit) = securities >> each FUNDS spec.fund in
    let holdings : Drawn (List Edit) = funds >> each SECURITIES spec.holding in
    let with_groups = all_then Formed (given spec.market) (each 400 spec.group) (λ s. market_formed)
    (all_each Formed 400 spec.group group_formed) in
    let with_securities = all_then Formed groups (each SECURITIES spec.security) with_groups
    (all_each Formed SECURITIES spec.security security_formed) in
    let with_funds = all_then Formed securities (each FUNDS spec.fund) with_securities
    (all_each Formed FUNDS spec.fund fund_formed) in
    let with_holdings = all_then Formed funds (each SECURITIES spec.holding) with_funds
    (all_each Formed SECURITIES spec.holding holding_formed) in
    all_then Formed holdings (each FUNDS (λ k. given (spec.stake k))) with_holdings
    (all_each Formed FUNDS (λ k. given (spec.stake k)) (λ k h s. stake_formed k h)) state

pub book_formed : AllMade Formed spec.book
unfolding spec.book
book_formed state =
    let liabilities : Drawn (List Edit) = spec.assets >> each LIABILITIES spec.liability in
    let segments : Drawn (List Edit) = liabilities >> each 12 spec.segment in
    let banks : Drawn (List Edit) = segments >> each 20 spec.bank in
    let with_liabilities = all_then Formed spec.assets (each LIABILITIES spec.liability) assets_formed
    (all_each Formed LIABILITIES spec.liability liability_formed) in
    let with_segments = all_then Formed liabilities (each 12 spec.segment) with_liabilities
    (all_each Formed 12 spec.segment segment_formed) in
    let with_banks = all_then Formed segments (each 20 spec.bank) with_segments
    (all_each Formed 20 spec.bank bank_formed) in
    all_then Formed banks (given spec.charges) with_banks (λ s. charges_formed) state

pub script_formed : AllMade Formed spec.script
unfolding spec.script
script_formed state =
    all_then Formed (each 18 (λ k. spec.trade)) (given spec.closing)
    (all_each Formed 18 (λ k. spec.trade) (λ k h. trade_formed)) (λ s. closing_formed) state
