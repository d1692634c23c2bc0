use Rattle.std.proofs.Common.{◌≡◌, ℕ, ◌+◌, ◌<◌, List, Some, None, length, set, replicate, sym, ap, subst, ◌∙◌, arith}
use Rattle.scr_counters.specs.Counts.{count_at}
use Rattle.scr_counters.specs.Blocks.{count_in, IsCountWritten}
use Rattle.scr_counters.specs.Seats.{seat_of, by_block}
use Rattle.scr_counters.proofs.Seats.{seat-read, count-before, count-written, count-zeros, none-before, seats-left, seats-given, count-given}
use Rattle.scr_counters.proofs.blocks.Blocks.add.Goals.{After-index_mut, After-len}
use Rattle.scr_counters.proofs.blocks.Blocks.add.Goals as goal

seat_is : (c : After-index_mut) → seat_of c.self.inside.seats.items c.args.block ≡ Some c.in-Some.seat
seat_is c = seat-read c.self.inside.seats.items c.self.inside.counts.items _ c.self.invariant c.args.block c.index.result.now _ c.requires.block c.index.ensures c.in-Some.is

pub index_mut-requires : goal.index_mut-requires
index_mut-requires c =
    let within = c.self.invariant.within c.args.block c.in-Some.seat (seat-read c.self.inside.seats.items c.self.inside.counts.items _ c.self.invariant c.args.block c.index.result.now _ c.requires.block c.index.ensures c.in-Some.is) in omega (arith, within, c.self.inside.counts.ok.0)

read : (c : After-index_mut) → count_in c.args.self.now c.args.block c.args.place ≡ count_at c.index_mut.result.now c.args.place
read c =
    sym (ap (λ (blocks : List (List ℕ)). count_in blocks c.args.block c.args.place) c.self.view_is)
    ∙ count-before c.self.inside.seats.items c.self.inside.counts.items _ c.self.invariant c.args.block c.in-Some.seat c.index_mut.result.now (seat_is c) c.index_mut.ensures.value c.args.place

pub add-requires-clause-fits : goal.add-requires-clause-fits
add-requires-clause-fits c = let at = read c in omega (arith, at, c.requires.fits)

pub returns-in-Some : goal.returns-in-Some
returns-in-Some c =
    let before = (goal.at.returns-in-Some c).After-index_mut in
    let n : ℕ = count_in c.args.self.now c.args.block c.args.place + 1 in
    subst (λ (blocks : List (List ℕ)). IsCountWritten c.args.block c.args.place n blocks (by_block c.self.inside.seats.items (set c.self.inside.counts.items c.in-Some.seat c.add.new.self))) c.self.view_is
    (count-written c.self.inside.seats.items c.self.inside.counts.items _ c.self.invariant c.args.block c.args.place c.in-Some.seat n c.index_mut.result.now c.add.new.self (seat_is before) c.index_mut.ensures.value c.requires.place
    (c.add.ensures ∙ ap (λ (k : ℕ). set c.index_mut.result.now c.args.place (k + 1)) (sym (read before))))

none_is : (c : After-len) → seat_of c.self.inside.seats.items c.args.block ≡ None
none_is c = seat-read c.self.inside.seats.items c.self.inside.counts.items _ c.self.invariant c.args.block c.index.result.now _ c.requires.block c.index.ensures c.in-None.is

pub add-requires-in-None-clause-fits : goal.add-requires-in-None-clause-fits
add-requires-in-None-clause-fits c =
    let zero : count_at c.new-counts.result c.args.place ≡ 0 = ap (λ (counts : List ℕ). count_at counts c.args.place) c.new-counts.ensures ∙ count-zeros 438 c.args.place in
    omega (arith, zero)

left : (c : After-len) → length c.self.inside.counts.items < 251
left c = seats-left c.self.inside.seats.items c.self.inside.counts.items _ c.self.invariant c.args.block (none_is c) c.requires.block

pub overflow_cast-len : goal.overflow_cast-len
overflow_cast-len c =
    let few = left c in omega (arith, few, c.len.ensures, c.self.inside.counts.ok.0)

pub push_reserved-requires : goal.push_reserved-requires
push_reserved-requires c =
    let few = left (goal.at.push_reserved-requires c).After-len in omega (arith, few, c.self.inside.counts.ok.0, c.self.invariant.room)

-- the count that was written in the new block
one : (c : After-len) → c.add-in-None.new.self ≡ set (replicate 438 0) c.args.place (count_in c.args.self.now c.args.block c.args.place + 1)
one c =
    let none = none-before c.self.inside.seats.items c.self.inside.counts.items _ c.self.invariant c.args.block (none_is c) c.args.place in
    c.add-in-None.ensures
    ∙ ap (λ (counts : List ℕ). set counts c.args.place (count_at counts c.args.place + 1)) c.new-counts.ensures
    ∙ ap (λ (k : ℕ). set (replicate 438 0) c.args.place (k + 1)) (count-zeros 438 c.args.place ∙ sym none ∙ ap (λ (blocks : List (List ℕ)). count_in blocks c.args.block c.args.place) c.self.view_is)

pub invariant_of-self-in-None : goal.invariant_of-self-in-None
invariant_of-self-in-None c =
    let before = (goal.at.invariant_of-self-in-None c).After-len in
    seats-given c.self.inside.seats.items c.self.inside.counts.items _ c.self.invariant c.args.block c.args.place _ c.add-in-None.new.self c.requires.block (none_is before) c.requires.place (one before)
    c.len.result _ c.push_reserved.new.self.items (c.len.ensures ∙ c.self.inside.counts.ok.0) c.push_reserved.ensures.items c.push_reserved.ensures.capacity

pub returns-in-None : goal.returns-in-None
returns-in-None c =
    let before = (goal.at.returns-in-None c).After-len in
    let n : ℕ = count_in c.args.self.now c.args.block c.args.place + 1 in
    subst (λ (blocks : List (List ℕ)). IsCountWritten c.args.block c.args.place n blocks (by_block (set c.self.inside.seats.items c.args.block (Some c.len.result)) c.push_reserved.new.self.items)) c.self.view_is
    (count-given c.self.inside.seats.items c.self.inside.counts.items _ c.self.invariant c.args.block c.args.place n c.add-in-None.new.self c.requires.block (none_is before) c.requires.place (one before)
    c.len.result 0 c.push_reserved.new.self.items (c.len.ensures ∙ c.self.inside.counts.ok.0) c.push_reserved.ensures.items)
