use Rattle.std.proofs.Common.{ℕ, List, ap, length, refl, arith}
use Rattle.scr_ids.specs.Kept.{numbered_of, owners, ranges_of}
use Rattle.scr_ids.specs.declared.places.Places.TheInside.{Inside}
use Rattle.scr_ids.specs.declared.table.Table.TheVariants as tables
use Rattle.scr_ids.proofs.Additions.{count-none, empty-kept, made-none, new-is}
use Rattle.scr_ids.proofs.places.Places.with_room.Goals as goal

pub invariant_of-numbers : goal.invariant_of-numbers
invariant_of-numbers c =
    let empty : Inside = record { rolls = c.in_ok-rolls.rolls; runs = c.in_ok-runs.runs; places = c.in_ok-places.places; size = 0 } in
    empty-kept empty c.in_ok-rolls.ensures.tables c.in_ok-rolls.ensures.empty c.in_ok-runs.ensures c.in_ok-places.ensures.items refl

pub revive-requires : goal.revive-requires
revive-requires c =
    let start : Inside = record { rolls = c.in_ok-rolls.rolls; runs = c.in_ok-runs.runs; places = c.in_ok-places.places; size = 0 } in
    let none = count-none (numbered_of start) c.in_ok-rolls.ensures.empty tables.Whole in
    let nothing = made-none (numbered_of start) c.in_ok-rolls.ensures.empty tables.Whole in
    omega (arith, none, nothing, c.in_ok-make.ensures.ok.counts, c.in_ok-make.ensures.ok.ranges)

pub returns : goal.returns
returns c =
    let start : Inside = record { rolls = c.in_ok-rolls.rolls; runs = c.in_ok-runs.runs; places = c.in_ok-places.places; size = 0 } in
    new-is (numbered_of start) c.in_ok-rolls.ensures.empty c.make.new.self c.revive.new.self (ap (λ (ps : List ℕ). length (owners (ranges_of c.in_ok-runs.runs.items ps))) c.in_ok-places.ensures.items)
    c.in_ok-make.ensures.ok c.revive.ensures
