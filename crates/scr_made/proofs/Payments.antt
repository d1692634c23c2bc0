-- The payments of a made book: what they come to, and when the last one is.
use Rattle.std.proofs.Common.{◌≡◌, ℕ, zero, suc, ℤ, pos, ◌+◌, ◌*◌, ◌/◌, ◌<◌, ◌≤◌, ◌==◌, ◌++◌, ◌≤ℤ◌, Bool, true, false, if◌then◌else◌, List, [], ◌∷◌, map, length, None, unsigned_abs, refl, sym, ap, ◌∙◌, arith, lit<, lit≤}
use Rattle.std.specs.List.{AllByRecursion}
use Rattle.std.proofs.Math.Nat.{mul-le-mul}
use Rattle.std.proofs.lemmas.List.{length-append}
use Rattle.std.proofs.lemmas.List.Sums.{sum_by-append, sum_by-cons}
use Rattle.scr_dates.specs.declared.day.Day.{Day}
use Rattle.scr_profile.specs.declared.limits.TheConstants.{MAX_PROMISED}
use Rattle.scr_sheet.specs.CashFlows.{total}
use Rattle.scr_sheet.specs.Faults.{outside, outside_promise}
use Rattle.scr_sheet.specs.declared.fault.Quantity.TheVariants as quantities
use Rattle.scr_made.specs.Draws.{Drawn, draw, each}
use Rattle.scr_made.specs.Made as spec
use Rattle.scr_made.specs.Made.{for_years, payment, payments, raised}
use Rattle.scr_made.proofs.Members.{AllMade, all_each, all_years, draw_below, either}
use Rattle.scr_made.proofs.Built.{FlowBounds}
use Rattle.scr_made.proofs.Sight.{ArePaid, last_paid, midyear_paid, year_end_paid}

-- ---- how many there are

pub length-for_years : {A : Type 0} (n : ℕ) (value : ℕ → A) → length (for_years n value) ≡ n
unfolding for_years
length-for_years zero value = refl
length-for_years (suc n) value =
    let rest = length-for_years n value in
    omega (arith, rest, length-append (for_years n value) (value (suc n) ∷ []))

pub length-each : {A : Type 0} (n : ℕ) (make : ℕ → Drawn (List A)) → ((k state : ℕ) → length (make k state).0 ≡ 1)
    → (state : ℕ) → length (each n make state).0 ≡ n
unfolding each
length-each zero make one state = refl
length-each (suc n) make one state =
    let rest = length-each n make one state in
    let now = one n (each n make state).1 in
    omega (arith, rest, now, length-append (each n make state).0 (make n (each n make state).1).0)

-- ---- those of a security, in 1 to 20 years

pub promises_inside : (years : ℕ) → AllByRecursion (λ flow. outside_promise flow ≡ None) (payments years)
unfolding payments
promises_inside years =
    all_years (λ flow. outside_promise flow ≡ None) years (payment years)
    (λ year le. either (λ cents. outside quantities.Flow (pos 0) (pos MAX_PROMISED) cents ≡ None) (year == years) (pos 1030000) (pos 30000) refl refl)

pub promises_paid : (years : ℕ) → years ≤ 20 → ArePaid (payments years)
unfolding payments
promises_paid years few =
    all_years (λ flow. flow.0.number ≤ℤ last_paid) years (payment years)
    (λ year le. midyear_paid (2024 + year) (omega arith) (omega (arith, few, le)))

pub length-payments : (years : ℕ) → length (payments years) ≡ years
unfolding payments
length-payments years = length-for_years years (payment years)

total-push : (flows : List (Day × ℤ)) (flow : Day × ℤ) → total (flows ++ (flow ∷ [])) ≡ total flows + unsigned_abs flow.1
total-push flows flow =
    omega (arith, sum_by-append (λ (f : Day × ℤ). unsigned_abs f.1) flows (flow ∷ []), sum_by-cons (λ (f : Day × ℤ). unsigned_abs f.1) flow [])

coupon : (t : Bool) → t ≡ false → unsigned_abs (if t then pos 1030000 else pos 30000) ≡ 30000
coupon t h = rw h refl

with_face : (t : Bool) → unsigned_abs (if t then pos 1030000 else pos 30000) ≤ 1030000
with_face true = lit≤ tt
with_face false = lit≤ tt

-- before the last year there are only coupons
coupons : (years n : ℕ) → n < years → total (for_years n (payment years)) ≤ 30000 * n
unfolding for_years
coupons years zero h = omega arith
coupons years (suc n) h =
    let rest = coupons years n (omega arith) in
    let early : (suc n == years) ≡ false = grind (arith, h) in
    let now = coupon (suc n == years) early in
    omega (arith, rest, now, total-push (for_years n (payment years)) (payment years (suc n)))

pub promises_within : (more : ℕ) → more < 20 → total (payments (1 + more)) ≤ MAX_PROMISED
unfolding payments for_years
promises_within more few =
    let years : 1 + more ≡ suc more = omega arith in
    let early = coupons (suc more) more (omega arith) in
    let last = with_face (suc more == suc more) in
    let whole : total (for_years (suc more) (payment (suc more))) ≤ MAX_PROMISED =
    omega (arith, few, early, last, total-push (for_years more (payment (suc more))) (payment (suc more) (suc more))) in
    rw years whole

-- ---- those of a liability

-- in sight, and of at most 100,000,000 cents
abbrev pub IsBest : Day × ℕ → Type 0
IsBest payment = (payment.0.number ≤ℤ last_paid) × (payment.1 ≤ 100000000)

best_payment_made : (k : ℕ) → k < 30 → AllMade IsBest (spec.best_payment k)
unfolding spec.best_payment
best_payment_made k h state = (
  (
    year_end_paid (2025 + k) (omega arith) (omega (arith, h)),
    omega (arith, draw_below 50000001 state (lit< tt)),
  ),
  tt,
)

pub best_made : AllMade IsBest spec.best_payments
unfolding spec.best_payments
best_made state = all_each IsBest 30 spec.best_payment best_payment_made state

one_payment : (k state : ℕ) → length (spec.best_payment k state).0 ≡ 1
unfolding spec.best_payment
one_payment k state = refl

pub length-best : (state : ℕ) → length (spec.best_payments state).0 ≡ 30
unfolding spec.best_payments
length-best state = length-each 30 spec.best_payment one_payment state

raised-le : (cents thousandths : ℕ) → cents ≤ 100000000 → thousandths ≤ 30
    → cents + cents * thousandths / 1000 ≤ 103000000
raised-le cents thousandths low few = let product = mul-le-mul low few in omega (arith, low, product)

raised_total : (thousandths : ℕ) → thousandths ≤ 30 → (best : List (Day × ℕ)) → AllByRecursion IsBest best
    → total (map (raised thousandths) best) ≤ 103000000 * length best
raised_total thousandths few [] all = omega arith
raised_total thousandths few (payment ∷ best) all =
    let rest = raised_total thousandths few best all.1 in
    let now = raised-le payment.1 thousandths all.0.1 few in
    omega (arith, rest, now, sum_by-cons (λ (f : Day × ℤ). unsigned_abs f.1) (raised thousandths payment) (map (raised thousandths) best))

raised_paid : (thousandths : ℕ) (best : List (Day × ℕ)) → AllByRecursion IsBest best
    → ArePaid (map (raised thousandths) best)
raised_paid thousandths [] all = tt
raised_paid thousandths (payment ∷ best) all = (all.0.0, raised_paid thousandths best all.1)

pub raised_bounds : (thousandths : ℕ) → thousandths ≤ 30 → (best : List (Day × ℕ)) → AllByRecursion IsBest best
    → length best ≡ 30 → FlowBounds (map (raised thousandths) best)
raised_bounds thousandths few best all count =
    let sum = raised_total thousandths few best all in
    record { sum = omega (arith, sum, count); paid = raised_paid thousandths best all }
