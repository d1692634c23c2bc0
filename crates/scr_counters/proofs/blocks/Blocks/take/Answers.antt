use Rattle.std.proofs.Common.{◌≡◌, ℕ, ◌-◌, List, Some, set, sym, ap, subst, ◌∙◌, arith}
use Rattle.scr_counters.specs.Counts.{count_at}
use Rattle.scr_counters.specs.Blocks.{count_in, IsCountWritten}
use Rattle.scr_counters.specs.Seats.{seat_of, by_block}
use Rattle.scr_counters.proofs.Seats.{seat-read, count-before, count-written}
use Rattle.scr_counters.proofs.blocks.Blocks.take.Goals.{After-index_mut}
use Rattle.scr_counters.proofs.blocks.Blocks.take.Goals as goal

seat_is : (c : After-index_mut) → seat_of c.self.inside.seats.items c.args.block ≡ Some c.in-Some.seat
seat_is c = seat-read c.self.inside.seats.items c.self.inside.counts.items _ c.self.invariant c.args.block c.index.result.now _ c.requires.block c.index.ensures c.in-Some.is

pub index_mut-requires : goal.index_mut-requires
index_mut-requires c =
    let within = c.self.invariant.within c.args.block c.in-Some.seat (seat-read c.self.inside.seats.items c.self.inside.counts.items _ c.self.invariant c.args.block c.index.result.now _ c.requires.block c.index.ensures c.in-Some.is) in omega (arith, within, c.self.inside.counts.ok.0)

read : (c : After-index_mut) → count_in c.args.self.now c.args.block c.args.place ≡ count_at c.index_mut.result.now c.args.place
read c =
    sym (ap (λ (blocks : List (List ℕ)). count_in blocks c.args.block c.args.place) c.self.view_is)
    ∙ count-before c.self.inside.seats.items c.self.inside.counts.items _ c.self.invariant c.args.block c.in-Some.seat c.index_mut.result.now (seat_is c) c.index_mut.ensures.value c.args.place

pub take-requires-clause-some : goal.take-requires-clause-some
take-requires-clause-some c = let at = read c in omega (arith, at, c.requires.some)

pub returns-in-Some : goal.returns-in-Some
returns-in-Some c =
    let before = (goal.at.returns-in-Some c).After-index_mut in
    let n : ℕ = count_in c.args.self.now c.args.block c.args.place - 1 in
    subst (λ (blocks : List (List ℕ)). IsCountWritten c.args.block c.args.place n blocks (by_block c.self.inside.seats.items (set c.self.inside.counts.items c.in-Some.seat c.take.new.self))) c.self.view_is
    (count-written c.self.inside.seats.items c.self.inside.counts.items _ c.self.invariant c.args.block c.args.place c.in-Some.seat n c.index_mut.result.now c.take.new.self (seat_is before) c.index_mut.ensures.value c.requires.place
    (c.take.ensures ∙ ap (λ (k : ℕ). set c.index_mut.result.now c.args.place (k - 1)) (sym (read before))))
