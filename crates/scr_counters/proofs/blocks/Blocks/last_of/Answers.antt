use Rattle.std.proofs.Common.{◌≡◌, ℕ, List, Some, sym, subst, arith}
use Rattle.scr_counters.specs.Counts.{IsLastPlace}
use Rattle.scr_counters.specs.Blocks.{block_at}
use Rattle.scr_counters.specs.Seats.{seat_of}
use Rattle.scr_counters.proofs.Seats.{seat-read, block-before, old-long, place-within}
use Rattle.scr_counters.proofs.blocks.Blocks.last_of.Goals.{After-last}
use Rattle.scr_counters.proofs.blocks.Blocks.last_of.Goals as goal

seat_is : (c : After-last) → seat_of c.self.inside.seats.items c.args.block ≡ Some c.in-Some.seat
seat_is c = seat-read c.self.inside.seats.items c.self.inside.counts.items _ c.self.invariant c.args.block c.index.result.now _ c.requires c.index.ensures c.in-Some.is

pub index-requires-in-Some : goal.index-requires-in-Some
index-requires-in-Some c =
    let within = c.self.invariant.within c.args.block c.in-Some.seat (seat-read c.self.inside.seats.items c.self.inside.counts.items _ c.self.invariant c.args.block c.index.result.now _ c.requires c.index.ensures c.in-Some.is) in omega (arith, within, c.self.inside.counts.ok.0)

pub returns-in-Some-clause-last : goal.returns-in-Some-clause-last
returns-in-Some-clause-last c =
    let before = block-before c.self.inside.seats.items c.self.inside.counts.items _ c.self.invariant c.args.block c.in-Some.seat c.index-in-Some.result.now (seat_is c) c.index-in-Some.ensures in
    subst (λ (blocks : List (List ℕ)). IsLastPlace (block_at blocks c.args.block) c.last.result) c.self.view_is
    (subst (λ (counts : List ℕ). IsLastPlace counts c.last.result) (sym before) c.last.ensures)

pub returns-in-Some-clause-within : goal.returns-in-Some-clause-within
returns-in-Some-clause-within c =
    let long = old-long c.self.inside.seats.items c.self.inside.counts.items _ c.self.invariant c.args.block c.in-Some.seat c.index-in-Some.result.now (seat_is c) c.index-in-Some.ensures in
    place-within c.index-in-Some.result.now c.last.result long c.last.ensures
