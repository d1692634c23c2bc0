-- The records of a made book and of its script, section by section: none of them is refused.
use Rattle.std.proofs.Common.{◌≡◌, ℕ, suc, pos, ◌+◌, ◌<◌, ◌≤◌, ◌==◌, true, List, [], ◌∷◌, map, length, Some, refl, arith, lit<, lit≤}
use Rattle.std.specs.Prelude.{codes}
use Rattle.std.specs.List.{AllByRecursion}
use Rattle.std.proofs.lemmas.List.{length-map}
use Rattle.scr_dates.specs.declared.day.Day.{Day}
use Rattle.scr_profile.specs.declared.limits.TheConstants.{MAX_AMOUNT}
use Rattle.scr_sheet.specs.BalanceSheet.{opening}
use Rattle.scr_sheet.specs.CashFlows.{has_projection}
use Rattle.scr_sheet.specs.declared.{edit.Edit.Edit, rows.Class.Class, rows.LiabilityKind.LiabilityKind, sheet.BalanceSheet.BalanceSheet}
use Rattle.scr_sheet.specs.declared.edit.Edit.TheVariants as edits
use Rattle.scr_sheet.specs.declared.keys.CatKey.TheVariants as cats
use Rattle.scr_sheet.specs.declared.rows.LiabilityKind.TheVariants as kinds
use Rattle.scr_profile.specs.declared.set.Set.TheVariants as sets
use Rattle.scr_made.specs.Draws.{Drawn, ◌>>◌, draw, each, given}
use Rattle.scr_made.specs.Made as spec
use Rattle.scr_made.specs.Made.{Stress, liability_kind, payments, raised}
use Rattle.scr_made.specs.declared.making.TheConstants.{FUNDS, LIABILITIES, SECURITIES}
use Rattle.scr_made.proofs.Members.{draw_below, either}
use Rattle.scr_made.proofs.Built.{Built, Counts, FlowBounds, euros_dollars_pounds}
use Rattle.scr_made.proofs.Components.{components_made}
use Rattle.scr_made.proofs.FundSteps.{with_fund_record, with_hold, with_stake}
use Rattle.scr_made.proofs.FirstRecords.{market_made}
use Rattle.scr_made.proofs.NumberSteps.{with_adjustment, with_cat, with_closing_date, with_operations, with_segment_record, with_taxes}
use Rattle.scr_made.proofs.Numbered.{bank_letter, fund_letter, group_letter, liability_letter, row_name, security_letter, stands}
use Rattle.scr_made.proofs.Payments.{best_made, length-best, length-payments, promises_inside, promises_paid, promises_within, raised_bounds}
use Rattle.scr_made.proofs.RowSteps.{with_bank, with_group, with_liability, with_projection, with_promise, with_security}
use Rattle.scr_made.proofs.Runs.{Leads, LeadsMade, leads-append, leads-one, made_each, made_then}

-- ---- how many rows there are before each record

abbrev groups_to : ℕ → Counts
groups_to k = record { groups = k; securities = 0; funds = 0; liabilities = 0; banks = 0 }

abbrev securities_to : ℕ → Counts
securities_to k = record { groups = 400; securities = k; funds = 0; liabilities = 0; banks = 0 }

abbrev funds_to : ℕ → Counts
funds_to k = record { groups = 400; securities = 8000; funds = k; liabilities = 0; banks = 0 }

abbrev liabilities_to : ℕ → Counts
liabilities_to k = record { groups = 400; securities = 8000; funds = 60; liabilities = k; banks = 0 }

abbrev banks_to : ℕ → Counts
banks_to k = record { groups = 400; securities = 8000; funds = 60; liabilities = 200; banks = k }

-- ---- groups

group_leads : (k : ℕ) → k < 400 → LeadsMade (Built (groups_to k)) (spec.group k) (Built (groups_to (suc k)))
unfolding spec.group
group_leads k h state =
    leads-one (Built (groups_to k)) (Built (groups_to (suc k)))
    (edits.Group (row_name group_letter k) (spec.group_kind k) (Some (draw 5 state).0))
    (λ sheet b. with_group (groups_to k) sheet b (omega (arith, h)) (spec.group_kind k) (Some (draw 5 state).0))

-- ---- securities

has_curve : (n : ℕ) → stands (spec.currency_drawn n) euros_dollars_pounds ≡ true
has_curve n =
    either (λ currency. stands currency euros_dollars_pounds ≡ true) (n == 0) (codes "USD") _ refl
    (either (λ currency. stands currency euros_dollars_pounds ≡ true) (n == 1) (codes "GBP") (codes "EUR") refl refl)

flows_lead : (n : Counts) (k : ℕ) → k < n.securities → LeadsMade (Built n) (spec.flows k) (Built n)
unfolding spec.flows
flows_lead n k h state =
    let more = (draw 20 state).0 in
    let few = draw_below 20 state (lit< tt) in
    leads-one (Built n) (Built n) (edits.Flows (row_name security_letter k) (payments (1 + more)))
    (λ sheet b. with_promise n sheet b k h (payments (1 + more)) (omega (arith, few, length-payments (1 + more)))
    (promises_inside (1 + more)) (promises_within more few) (promises_paid (1 + more) (omega (arith, few))))

promised_leads : (n : Counts) (k : ℕ) (class : Class) → k < n.securities → LeadsMade (Built n) (spec.promised k class) (Built n)
promised_leads n k class h =
    either (λ made. LeadsMade (Built n) made (Built n)) (spec.promises class) (spec.flows k) (given []) (flows_lead n k h)
    (λ state sheet b. (tt, b))

security_leads : (k : ℕ) → k < SECURITIES
    → LeadsMade (Built (securities_to k)) (spec.security k) (Built (securities_to (suc k)))
unfolding spec.security
security_leads k h state =
    let before = Built (securities_to k) in
    let after = Built (securities_to (suc k)) in
    let second = (draw 10 state).1 in
    let third = (draw 400 second).1 in
    let fourth = (draw 10 third).1 in
    let class = spec.class_drawn (draw 10 state).0 in
    let group = (draw 400 second).0 in
    let currency = spec.currency_drawn (draw 10 third).0 in
    let duration = 1000 + (draw 14001 fourth).0 in
    let long = draw_below 14001 fourth (lit< tt) in
    let edit = edits.Security (row_name security_letter k) class (Some (row_name group_letter group)) currency (pos duration) in
    leads-append before after after (edit ∷ []) (spec.promised k class (draw 14001 fourth).1).0
    (leads-one before after edit
    (λ sheet b. with_security (securities_to k) sheet b (omega (arith, h)) class group (draw_below 400 second (lit< tt)) currency
    (has_curve (draw 10 third).0) duration (omega (arith, long))))
    (promised_leads (securities_to (suc k)) k class (omega arith) (draw 14001 fourth).1)

-- ---- funds, and what is held

fund_leads : (k : ℕ) → k < FUNDS → LeadsMade (Built (funds_to k)) (spec.fund k) (Built (funds_to (suc k)))
unfolding spec.fund
fund_leads k h state =
    let taken = components_made k state in
    leads-one (Built (funds_to k)) (Built (funds_to (suc k))) (edits.Fund (row_name fund_letter k) (spec.components k state).0)
    (λ sheet b. with_fund_record (funds_to k) sheet b (omega (arith, h)) (spec.components k state).0 taken.each taken.once taken.few)

holding_leads : (n : Counts) (k : ℕ) → k < n.securities → LeadsMade (Built n) (spec.holding k) (Built n)
unfolding spec.holding
holding_leads n k h state =
    let more = draw_below 200000001 state (lit< tt) in
    leads-one (Built n) (Built n) (edits.Hold (row_name security_letter k) (pos (300000000 + (draw 200000001 state).0)))
    (λ sheet b. with_hold n sheet b k h (300000000 + (draw 200000001 state).0) (omega (arith, more)))

stake_leads : (n : Counts) (k : ℕ) → k < n.funds → LeadsMade (Built n) (given (spec.stake k)) (Built n)
unfolding spec.stake
stake_leads n k h state =
    leads-one (Built n) (Built n) (edits.Hold (row_name fund_letter k) (pos 13000000000))
    (λ sheet b. with_stake n sheet b k h 13000000000 (lit≤ tt))

trade_leads : (n : Counts) → 8000 ≤ n.securities → LeadsMade (Built n) spec.trade (Built n)
unfolding spec.trade
trade_leads n many state =
    let one = draw_below SECURITIES state (lit< tt) in
    holding_leads n (draw SECURITIES state).0 (omega (arith, one, many)) (draw SECURITIES state).1

-- ---- liabilities

-- a kind has the projection, and its payments are few thousandths higher
abbrev IsSuited : LiabilityKind → Stress → Type 0
IsSuited kind stress = (has_projection kind stress.0 ≡ true) × (stress.1 ≤ 30)

stresses_suited : (kind : LiabilityKind) → AllByRecursion (IsSuited kind) (spec.stresses kind)
stresses_suited kinds.Life = ((refl, lit≤ tt), ((refl, lit≤ tt), ((refl, lit≤ tt), ((refl, lit≤ tt), ((refl, lit≤ tt), ((refl, lit≤ tt), ((refl, lit≤ tt), ((refl, lit≤ tt), ((refl, lit≤ tt), ((refl, lit≤ tt), tt))))))))))
stresses_suited kinds.Health = ((refl, lit≤ tt), ((refl, lit≤ tt), ((refl, lit≤ tt), ((refl, lit≤ tt), ((refl, lit≤ tt), ((refl, lit≤ tt), ((refl, lit≤ tt), ((refl, lit≤ tt), ((refl, lit≤ tt), tt)))))))))
stresses_suited kinds.Other = ((refl, lit≤ tt), tt)

projections_lead : (n : Counts) (k : ℕ) → k < n.liabilities → (best : List (Day × ℕ)) → length best ≡ 30
    → ((thousandths : ℕ) → thousandths ≤ 30 → FlowBounds (map (raised thousandths) best)) → (stresses : List Stress)
    → AllByRecursion (IsSuited (liability_kind k)) stresses
    → Leads (Built n) (map (spec.projection_of k best) stresses) (Built n)
projections_lead n k h best count bounds [] all = λ sheet b. (tt, b)
projections_lead n k h best count bounds (stress ∷ stresses) all =
    leads-append (Built n) (Built n) (Built n) (spec.projection_of k best stress ∷ []) (map (spec.projection_of k best) stresses)
    (leads-one (Built n) (Built n) (edits.LiabilityFlows (row_name liability_letter k) stress.0 (map (raised stress.1) best))
    (λ sheet b. with_projection n sheet b k h stress.0 all.0.0 (map (raised stress.1) best)
    (omega (arith, count, length-map best (raised stress.1))) (bounds stress.1 all.0.1)))
    (projections_lead n k h best count bounds stresses all.1)

liability_leads : (k : ℕ) → k < LIABILITIES
    → LeadsMade (Built (liabilities_to k)) (spec.liability k) (Built (liabilities_to (suc k)))
unfolding spec.liability spec.projections_of
liability_leads k h state =
    let before = Built (liabilities_to k) in
    let after = Built (liabilities_to (suc k)) in
    let best = (spec.best_payments state).0 in
    let kind = liability_kind k in
    let edit = edits.Liability (row_name liability_letter k) kind (codes "EUR") in
    leads-append before after after (edit ∷ []) (map (spec.projection_of k best) (spec.stresses kind))
    (leads-one before after edit
    (λ sheet b. with_liability (liabilities_to k) sheet b (omega (arith, h)) (codes "EUR") refl))
    (projections_lead (liabilities_to (suc k)) k (omega arith) best (length-best state)
    (λ thousandths few. raised_bounds thousandths few best (best_made state) (length-best state)) (spec.stresses kind)
    (stresses_suited kind))

-- ---- segments, banks, and single numbers

segment_leads : (n : Counts) (k : ℕ) → LeadsMade (Built n) (spec.segment k) (Built n)
unfolding spec.segment
segment_leads n k state =
    let second = (draw 1000000001 state).1 in
    let premium = draw_below 1000000001 state (lit< tt) in
    let reserve = draw_below 1000000001 second (lit< tt) in
    leads-one (Built n) (Built n)
    (edits.Segment sets.Nl (1 + k) 1 (pos (1000000000 + (draw 1000000001 state).0)) (pos (1000000000 + (draw 1000000001 second).0)))
    (λ sheet b. with_segment_record n sheet b (1 + k) (1000000000 + (draw 1000000001 state).0)
    (1000000000 + (draw 1000000001 second).0) (omega (arith, premium)) (omega (arith, reserve)))

bank_leads : (k : ℕ) → k < 20 → LeadsMade (Built (banks_to k)) (spec.bank k) (Built (banks_to (suc k)))
unfolding spec.bank
bank_leads k h state =
    let group = draw_below 380 state (lit< tt) in
    leads-one (Built (banks_to k)) (Built (banks_to (suc k)))
    (edits.Bank (row_name bank_letter k) (row_name group_letter (20 + (draw 380 state).0)) (pos 50000000))
    (λ sheet b. with_bank (banks_to k) sheet b (omega (arith, h)) (20 + (draw 380 state).0) (omega (arith, group)) 50000000 (lit≤ tt))

charges_lead : (n : Counts) → LeadsMade (Built n) (given spec.charges) (Built n)
unfolding spec.charges
charges_lead n state sheet b =
    let windstorm = with_cat n sheet b cats.Windstorm 2000000000 (lit≤ tt) in
    let fire = with_cat n _ windstorm.1 cats.Fire 1000000000 (lit≤ tt) in
    let operations = with_operations n _ fire.1 in
    let taxes = with_taxes n _ operations.1 in
    ((windstorm.0, (fire.0, (operations.0, (taxes.0, tt)))), taxes.1)

closing_leads : (n : Counts) → LeadsMade (Built n) (given spec.closing) (Built n)
unfolding spec.closing
closing_leads n state sheet b =
    let adjustment = with_adjustment n sheet b in
    let date = with_closing_date n _ adjustment.1 in
    ((adjustment.0, (date.0, tt)), date.1)

-- ---- the whole

abbrev IsOpening : BalanceSheet → Type 0
IsOpening sheet = sheet ≡ opening

assets_lead : LeadsMade IsOpening spec.assets (Built (funds_to 60))
unfolding spec.assets
assets_lead =
    let groups : Drawn (List Edit) = given spec.market >> each 400 spec.group in
    let securities : Drawn (List Edit) = groups >> each SECURITIES spec.security in
    let funds : Drawn (List Edit) = securities >> each FUNDS spec.fund in
    let holdings : Drawn (List Edit) = funds >> each SECURITIES spec.holding in
    let with_groups = made_then IsOpening (Built (groups_to 0)) (Built (groups_to 400)) (given spec.market)
    (each 400 spec.group) market_made (made_each (λ k. Built (groups_to k)) 400 spec.group group_leads) in
    let with_securities = made_then IsOpening (Built (groups_to 400)) (Built (securities_to 8000)) groups
    (each SECURITIES spec.security) with_groups
    (made_each (λ k. Built (securities_to k)) SECURITIES spec.security security_leads) in
    let with_funds = made_then IsOpening (Built (securities_to 8000)) (Built (funds_to 60)) securities
    (each FUNDS spec.fund) with_securities (made_each (λ k. Built (funds_to k)) FUNDS spec.fund fund_leads) in
    let with_holdings = made_then IsOpening (Built (funds_to 60)) (Built (funds_to 60)) funds
    (each SECURITIES spec.holding) with_funds
    (made_each (λ k. Built (funds_to 60)) SECURITIES spec.holding (λ k h. holding_leads (funds_to 60) k h)) in
    made_then IsOpening (Built (funds_to 60)) (Built (funds_to 60)) holdings (each FUNDS (λ k. given (spec.stake k)))
    with_holdings
    (made_each (λ k. Built (funds_to 60)) FUNDS (λ k. given (spec.stake k)) (λ k h. stake_leads (funds_to 60) k h))

pub book_leads : LeadsMade IsOpening spec.book (Built (banks_to 20))
unfolding spec.book
book_leads =
    let liabilities : Drawn (List Edit) = spec.assets >> each LIABILITIES spec.liability in
    let segments : Drawn (List Edit) = liabilities >> each 12 spec.segment in
    let banks : Drawn (List Edit) = segments >> each 20 spec.bank in
    let with_liabilities = made_then IsOpening (Built (funds_to 60)) (Built (liabilities_to 200)) spec.assets
    (each LIABILITIES spec.liability) assets_lead
    (made_each (λ k. Built (liabilities_to k)) LIABILITIES spec.liability liability_leads) in
    let with_segments = made_then IsOpening (Built (liabilities_to 200)) (Built (liabilities_to 200)) liabilities
    (each 12 spec.segment) with_liabilities
    (made_each (λ k. Built (liabilities_to 200)) 12 spec.segment (λ k h. segment_leads (liabilities_to 200) k)) in
    let with_banks = made_then IsOpening (Built (banks_to 0)) (Built (banks_to 20)) segments (each 20 spec.bank)
    with_segments (made_each (λ k. Built (banks_to k)) 20 spec.bank bank_leads) in
    made_then IsOpening (Built (banks_to 20)) (Built (banks_to 20)) banks (given spec.charges) with_banks
    (charges_lead (banks_to 20))

pub script_leads : LeadsMade (Built (banks_to 20)) spec.script (Built (banks_to 20))
unfolding spec.script
script_leads =
    made_then (Built (banks_to 20)) (Built (banks_to 20)) (Built (banks_to 20)) (each 18 (λ k. spec.trade))
    (given spec.closing)
    (made_each (λ k. Built (banks_to 20)) 18 (λ k. spec.trade) (λ k h. trade_leads (banks_to 20) (lit≤ tt)))
    (closing_leads (banks_to 20))
