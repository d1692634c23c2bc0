-- How many records a made book has, and that each has few fields.
use Rattle.std.proofs.Common.{◌≡◌, ℕ, zero, suc, ℤ, ◌+◌, ◌*◌, ◌<◌, ◌≤◌, ◌++◌, List, [], ◌∷◌, length, map, refl, arith, lit<, lit≤}
use Rattle.std.specs.List.{AllByRecursion}
use Rattle.std.proofs.lemmas.List.{length-append, length-map}
use Rattle.scr_dates.specs.declared.day.Day.{Day}
use Rattle.scr_sheet.specs.declared.{edit.Edit.Edit, rows.Class.Class, rows.LiabilityKind.LiabilityKind}
use Rattle.scr_sheet.specs.declared.rows.LiabilityKind.TheVariants as kinds
use Rattle.scr_made.specs.Draws.{Drawn, ◌>>◌, draw, each, given}
use Rattle.scr_made.specs.Made as spec
use Rattle.scr_made.specs.Made.{Stress, liability_kind, payments, rising_rate, rising_rates}
use Rattle.scr_made.specs.declared.making.TheConstants.{FUNDS, LIABILITIES, SECURITIES}
use Rattle.scr_made.proofs.Members.{all-append, draw_below, either}
use Rattle.scr_made.proofs.Components.{components_made}
use Rattle.scr_made.proofs.Lengths.{IsBrief}
use Rattle.scr_made.proofs.Payments.{length-best, length-each, length-for_years, length-payments}

-- so many records at most, each with few fields
pub record AreBrief (most : ℕ) (made : List Edit) : Type 0 where
  pub each : AllByRecursion IsBrief made
  pub count : length made ≤ most

-- whatever the state of the draws
abbrev BriefMade : ℕ → Drawn (List Edit) → Type 0
BriefMade most made = (state : ℕ) → AreBrief most (made state).0

brief-append : (m n most : ℕ) (xs ys : List Edit) → m + n ≤ most → AreBrief m xs → AreBrief n ys → AreBrief most (xs ++ ys)
brief-append m n most xs ys le h k =
    let first = h.count in
    let second = k.count in
    record { each = all-append IsBrief xs ys h.each k.each; count = omega (arith, le, first, second, length-append xs ys) }

brief_then : (m n most : ℕ) (first second : Drawn (List Edit)) → m + n ≤ most → BriefMade m first → BriefMade n second
    → BriefMade most (first >> second)
brief_then m n most first second le h k state =
    brief-append m n most (first state).0 (second (first state).1).0 le (h state) (k (first state).1)

brief_each : (most n : ℕ) (make : ℕ → Drawn (List Edit)) → ((k : ℕ) → k < n → BriefMade most (make k))
    → BriefMade (n * most) (each n make)
unfolding each
brief_each most zero make h state = record { each = tt; count = omega arith }
brief_each most (suc n) make h state =
    brief_then (n * most) most (suc n * most) (each n make) (make n) (omega arith)
    (brief_each most n make (λ k lt. h k (omega arith))) (h n (omega arith)) state

-- ---- the sections

market_brief : AreBrief 4 spec.market
unfolding spec.market rising_rates
market_brief =
    let long : length (rising_rates 20000 300) ≤ 30 = rates 20000 300 in
    let also : length (rising_rates 35000 100) ≤ 30 = rates 35000 100 in
    record { each = (tt, (long, (also, (lit≤ tt, tt)))); count = lit≤ tt }
  where
    rates : (base step : ℕ) → length (rising_rates base step) ≤ 30
    rates base step = let count = length-for_years 30 (rising_rate base step) in omega (arith, count)

group_brief : (k : ℕ) → BriefMade 1 (spec.group k)
unfolding spec.group
group_brief k state = record { each = (tt, tt); count = lit≤ tt }

flows_brief : (k : ℕ) → BriefMade 1 (spec.flows k)
unfolding spec.flows
flows_brief k state =
    let few = draw_below 20 state (lit< tt) in
    let short : length (payments (1 + (draw 20 state).0)) ≤ 30 = omega (arith, few, length-payments (1 + (draw 20 state).0)) in
    record { each = (short, tt); count = lit≤ tt }

promised_brief : (k : ℕ) (class : Class) → BriefMade 1 (spec.promised k class)
promised_brief k class =
    either (BriefMade 1) (spec.promises class) (spec.flows k) (given []) (flows_brief k)
    (λ state. record { each = tt; count = lit≤ tt })

security_brief : (k : ℕ) → BriefMade 2 (spec.security k)
unfolding spec.security
security_brief k state =
    let fourth = (draw 10 (draw 400 (draw 10 state).1).1).1 in
    let promised = promised_brief k (spec.class_drawn (draw 10 state).0) (draw 14001 fourth).1 in
    let count = promised.count in
    record { each = (tt, promised.each); count = omega (arith, count) }

fund_brief : (k : ℕ) → BriefMade 1 (spec.fund k)
unfolding spec.fund
fund_brief k state =
    let few = (components_made k state).few in
    let short : length (spec.components k state).0 ≤ 30 = omega (arith, few) in
    record { each = (short, tt); count = lit≤ tt }

holding_brief : (k : ℕ) → BriefMade 1 (spec.holding k)
unfolding spec.holding
holding_brief k state = record { each = (tt, tt); count = lit≤ tt }

trade_brief : BriefMade 1 spec.trade
unfolding spec.trade
trade_brief state = holding_brief (draw SECURITIES state).0 (draw SECURITIES state).1

stake_brief : (k : ℕ) → BriefMade 1 (given (spec.stake k))
unfolding spec.stake
stake_brief k state = record { each = (tt, tt); count = lit≤ tt }

ten_stresses : (kind : LiabilityKind) → length (spec.stresses kind) ≤ 10
ten_stresses kinds.Life = lit≤ tt
ten_stresses kinds.Health = lit≤ tt
ten_stresses kinds.Other = lit≤ tt

projections_brief : (k : ℕ) (best : List (Day × ℕ)) → length best ≡ 30 → (stresses : List Stress)
    → AllByRecursion IsBrief (map (spec.projection_of k best) stresses)
projections_brief k best count [] = tt
projections_brief k best count (stress ∷ stresses) = (
  omega (arith, count, length-map best (spec.raised stress.1)),
  projections_brief k best count stresses,
)

liability_brief : (k : ℕ) → BriefMade 11 (spec.liability k)
unfolding spec.liability spec.projections_of
liability_brief k state =
    let best = (spec.best_payments state).0 in
    let kind = liability_kind k in
    let ten = ten_stresses kind in
    record {
      each = (tt, projections_brief k best (length-best state) (spec.stresses kind));
      count = omega (arith, ten, length-map (spec.stresses kind) (spec.projection_of k best));
    }

segment_brief : (k : ℕ) → BriefMade 1 (spec.segment k)
unfolding spec.segment
segment_brief k state = record { each = (tt, tt); count = lit≤ tt }

bank_brief : (k : ℕ) → BriefMade 1 (spec.bank k)
unfolding spec.bank
bank_brief k state = record { each = (tt, tt); count = lit≤ tt }

charges_brief : AreBrief 4 spec.charges
unfolding spec.charges
charges_brief = record { each = (tt, (tt, (tt, (tt, tt)))); count = lit≤ tt }

closing_brief : AreBrief 2 spec.closing
unfolding spec.closing
closing_brief = record { each = (tt, (tt, tt)); count = lit≤ tt }

-- ---- the whole

assets_brief : BriefMade 24524 spec.assets
unfolding spec.assets
assets_brief =
    let groups : Drawn (List Edit) = given spec.market >> each 400 spec.group in
    let securities : Drawn (List Edit) = groups >> each SECURITIES spec.security in
    let funds : Drawn (List Edit) = securities >> each FUNDS spec.fund in
    let holdings : Drawn (List Edit) = funds >> each SECURITIES spec.holding in
    let with_groups = brief_then 4 400 404 (given spec.market) (each 400 spec.group) (lit≤ tt) (λ state. market_brief)
    (brief_each 1 400 spec.group (λ k h. group_brief k)) in
    let with_securities = brief_then 404 16000 16404 groups (each SECURITIES spec.security) (lit≤ tt) with_groups
    (brief_each 2 SECURITIES spec.security (λ k h. security_brief k)) in
    let with_funds = brief_then 16404 60 16464 securities (each FUNDS spec.fund) (lit≤ tt) with_securities
    (brief_each 1 FUNDS spec.fund (λ k h. fund_brief k)) in
    let with_holdings = brief_then 16464 8000 24464 funds (each SECURITIES spec.holding) (lit≤ tt) with_funds
    (brief_each 1 SECURITIES spec.holding (λ k h. holding_brief k)) in
    brief_then 24464 60 24524 holdings (each FUNDS (λ k. given (spec.stake k))) (lit≤ tt) with_holdings
    (brief_each 1 FUNDS (λ k. given (spec.stake k)) (λ k h. stake_brief k))

pub book_brief : BriefMade 26760 spec.book
unfolding spec.book
book_brief =
    let liabilities : Drawn (List Edit) = spec.assets >> each LIABILITIES spec.liability in
    let segments : Drawn (List Edit) = liabilities >> each 12 spec.segment in
    let banks : Drawn (List Edit) = segments >> each 20 spec.bank in
    let with_liabilities = brief_then 24524 2200 26724 spec.assets (each LIABILITIES spec.liability) (lit≤ tt) assets_brief
    (brief_each 11 LIABILITIES spec.liability (λ k h. liability_brief k)) in
    let with_segments = brief_then 26724 12 26736 liabilities (each 12 spec.segment) (lit≤ tt) with_liabilities
    (brief_each 1 12 spec.segment (λ k h. segment_brief k)) in
    let with_banks = brief_then 26736 20 26756 segments (each 20 spec.bank) (lit≤ tt) with_segments
    (brief_each 1 20 spec.bank (λ k h. bank_brief k)) in
    brief_then 26756 4 26760 banks (given spec.charges) (lit≤ tt) with_banks (λ state. charges_brief)

pub script_brief : BriefMade 20 spec.script
unfolding spec.script
script_brief =
    brief_then 18 2 20 (each 18 (λ k. spec.trade)) (given spec.closing) (lit≤ tt)
    (brief_each 1 18 (λ k. spec.trade) (λ k h. trade_brief)) (λ state. closing_brief)

-- ---- the script has twenty records

one_holding : (k state : ℕ) → length (spec.holding k state).0 ≡ 1
unfolding spec.holding
one_holding k state = refl

one_trade : (k state : ℕ) → length (spec.trade state).0 ≡ 1
unfolding spec.trade
one_trade k state = one_holding (draw SECURITIES state).0 (draw SECURITIES state).1

two_closing : length spec.closing ≡ 2
unfolding spec.closing
two_closing = refl

pub length-script : (number : ℕ) → length (spec.made_script number) ≡ 20
unfolding spec.made_script spec.script
length-script number =
    let start = (spec.book number).1 in
    let trades = length-each 18 (λ k. spec.trade) one_trade start in
    omega (arith, trades, two_closing, length-append (each 18 (λ k. spec.trade) start).0 spec.closing)
