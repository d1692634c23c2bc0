use Rattle.std.proofs.Common.{◌≡◌, ◌<◌, ℕ, List, length, subst, arith}
use Rattle.std.specs.List.{position_or_len}
use Rattle.scr_tables.specs.Names.{same_name}
use Rattle.scr_ids.specs.Ranges.{first}
use Rattle.scr_member_lists.specs.declared.seats.Seats.{Seats}
use Rattle.scr_sum_slots.specs.Filling.{IsEntered}
use Rattle.scr_sum_slots.proofs.Filled.{AreFilled, all-firsts, filled-more, none-filled}
use Rattle.scr_sum_slots.proofs.firsts.Firsts.of.Goals as goal

pub loop-k-init : goal.loop-k-init
loop-k-init g c = λ names seated once. none-filled names c.args.seating.now (λ name. first c.args.places.now c.args.table (position_or_len (same_name name) names)) c.in_ok-firsts.firsts c.in_ok-firsts.ensures.none

pub bench-requires : goal.bench-requires
bench-requires g c = let few = c.if-this-gt-SEATS.false in omega (arith, few, c.loop-k-test.true, c.rows-k-end.ensures)

pub enter-requires : goal.enter-requires
enter-requires g c = let few = c.if-this-gt-SEATS.false in omega (arith, few)

pub loop-k-preserved : goal.loop-k-preserved
loop-k-preserved g c = λ names seated once.
    let low : c.loop-k.k < length names = omega (arith, c.loop-k-test.true, c.rows-k-end.ensures, seated.beside) in
    filled-more names c.args.seating.now seated once (first c.args.places.now c.args.table) c.loop-k.k low c.loop-k.firsts c.enter.new.self
    (c.loop-k.invariant names seated once)
    (subst (λ (seats : Seats). IsEntered seats (first c.args.places.now c.args.table c.loop-k.k) 11 c.loop-k.firsts c.enter.new.self) c.bench.ensures
    (subst (λ (number : ℕ). IsEntered c.bench.result.now number 11 c.loop-k.firsts c.enter.new.self) c.first.ensures.first c.in_ok-enter.ensures))

pub returns : goal.returns
returns g c = λ names seated once.
    let all : c.loop-k.k ≡ length names = omega (arith, c.loop-k-test.false, c.loop-k.auto.k-end, c.rows-k-end.ensures, seated.beside) in
    let of : List ℕ → ℕ = λ name. first c.args.places.now c.args.table (position_or_len (same_name name) names) in
    all-firsts names c.args.seating.now seated of c.loop-k.firsts
    (subst (λ (k : ℕ). AreFilled names c.args.seating.now of k c.loop-k.firsts) all (c.loop-k.invariant names seated once))
