use Rattle.std.proofs.Common.{◌≡◌, ℕ, ◌+◌, ◌<◌, List, ap, length, refl, set, sym, subst, ◌∙◌, arith}
use Rattle.std.proofs.lemmas.List.{length-set}
use Rattle.scr_ids.specs.Ranges.{Numbered, RangeList, first, made, roll_at}
use Rattle.scr_ids.specs.Steps.{Sinking}
use Rattle.scr_ids.specs.Kept.{AreInTurn, IsOwner, Range, numbered_of, owner_at, owners, range_at, ranges_in, ranges_of}
use Rattle.scr_ids.specs.declared.places.Places.TheInside.{Inside}
use Rattle.scr_ids.specs.declared.places.Owner.{Owner}
use Rattle.scr_ids.specs.declared.places.Run.{Run}
use Rattle.scr_ids.specs.declared.table.Table.{Table}
use Rattle.scr_ids.proofs.Runs.{ranges-set}
use Rattle.scr_ids.proofs.Views.{found-is, found-known}
use Rattle.scr_ids.proofs.Exchanges.{exchange-kept, exchange-sinks, read-below, read-id, read-room}
use Rattle.scr_ids.proofs.places.Places.exchange.Goals as goal

-- both places are among the table's ranges
high-room : (places : Inside) (value : Numbered) → numbered_of places ≡ value → (table : Table) (k : ℕ) → k + 1 < made value table
    → k + 1 < made (numbered_of places) table
high-room places value view table k room = subst (λ v. k + 1 < made v table) (sym view) room

low-room : (places : Inside) (value : Numbered) → numbered_of places ≡ value → (table : Table) (k : ℕ) → k + 1 < made value table
    → k < made (numbered_of places) table
low-room places value view table k room = let high = high-room places value view table k room in omega (arith, high)

roll-is : (rolls shown : List RangeList) (table : Table) (roll : RangeList) → roll ≡ roll_at shown table → shown ≡ rolls
    → roll ≡ roll_at rolls table
roll-is rolls shown table roll is same = is ∙ ap (λ rs. roll_at rs table) same

pub first-requires : goal.first-requires
first-requires c = read-room c.self.inside c.self.invariant c.args.table c.args.k (low-room c.self.inside c.args.self.now c.self.view_is c.args.table c.args.k c.requires) c.roll_of-roll.result.now (roll-is c.self.inside.rolls.items c.deref.result.now c.args.table c.roll_of-roll.result.now c.roll_of-roll.ensures c.deref.ensures.value)

turn-is : (runs shown : List Run) → AreInTurn runs → shown ≡ runs → AreInTurn shown
turn-is runs shown turn same = subst AreInTurn (sym same) turn

owner-of : (runs shown : List Run) (number : ℕ) (owner : Owner) → IsOwner shown number owner → shown ≡ runs → IsOwner runs number owner
owner-of runs shown number owner found same = subst (λ rs. IsOwner rs number owner) same found

pub owner_of-low-requires : goal.owner_of-low-requires
owner_of-low-requires c = turn-is c.self.inside.runs.items c.deref-2.result.now c.self.invariant.runs.turn c.deref-2.ensures.value

pub owner_of-high-requires : goal.owner_of-high-requires
owner_of-high-requires c = turn-is c.self.inside.runs.items c.deref-3.result.now c.self.invariant.runs.turn c.deref-3.ensures.value

pub first-requires-2 : goal.first-requires-2
first-requires-2 c = read-room c.self.inside c.self.invariant c.args.table (c.args.k + 1) (high-room c.self.inside c.args.self.now c.self.view_is c.args.table c.args.k c.requires) c.roll_of-roll.result.now (roll-is c.self.inside.rolls.items c.deref.result.now c.args.table c.roll_of-roll.result.now c.roll_of-roll.ensures c.deref.ensures.value)

pub exchange_rolls-requires-clause-place : goal.exchange_rolls-requires-clause-place
exchange_rolls-requires-clause-place c =
    read-room c.self.inside c.self.invariant c.args.table (c.args.k + 1) (high-room c.self.inside c.args.self.now c.self.view_is c.args.table c.args.k c.requires) (roll_at c.self.inside.rolls.items c.args.table) refl

-- the numbers at which both begin are below the size
low-below : (c : goal.After-move_range-2) → c.first.result < length (owners (ranges_in c.self.inside))
low-below c =
    read-below c.self.inside c.self.invariant c.args.table c.args.k (low-room c.self.inside c.args.self.now c.self.view_is c.args.table c.args.k c.requires)
    c.roll_of-roll.result.now (roll-is c.self.inside.rolls.items c.deref.result.now c.args.table c.roll_of-roll.result.now c.roll_of-roll.ensures c.deref.ensures.value) c.first.result c.first.ensures

high-below : (c : goal.After-move_range-2) → c.first-2.result < length (owners (ranges_in c.self.inside))
high-below c =
    read-below c.self.inside c.self.invariant c.args.table (c.args.k + 1) (high-room c.self.inside c.args.self.now c.self.view_is c.args.table c.args.k c.requires)
    c.roll_of-roll.result.now (roll-is c.self.inside.rolls.items c.deref.result.now c.args.table c.roll_of-roll.result.now c.roll_of-roll.ensures c.deref.ensures.value) c.first-2.result c.first-2.ensures

pub move_range-requires : goal.move_range-requires
move_range-requires c =
    found-known c.self.inside c.self.invariant c.args.self.now c.self.view_is c.first.result
    (read-below c.self.inside c.self.invariant c.args.table c.args.k (low-room c.self.inside c.args.self.now c.self.view_is c.args.table c.args.k c.requires)
    c.roll_of-roll.result.now (roll-is c.self.inside.rolls.items c.deref.result.now c.args.table c.roll_of-roll.result.now c.roll_of-roll.ensures c.deref.ensures.value) c.first.result c.first.ensures)
    c.owner_of-low.result (owner-of c.self.inside.runs.items c.deref-2.result.now c.first.result c.owner_of-low.result c.owner_of-low.ensures c.deref-2.ensures.value)

pub move_range-requires-2 : goal.move_range-requires-2
move_range-requires-2 c =
    let known = found-known c.self.inside c.self.invariant c.args.self.now c.self.view_is c.first-2.result
    (read-below c.self.inside c.self.invariant c.args.table (c.args.k + 1) (high-room c.self.inside c.args.self.now c.self.view_is c.args.table c.args.k c.requires)
    c.roll_of-roll.result.now (roll-is c.self.inside.rolls.items c.deref.result.now c.args.table c.roll_of-roll.result.now c.roll_of-roll.ensures c.deref.ensures.value) c.first-2.result c.first-2.ensures)
    c.owner_of-high.result (owner-of c.self.inside.runs.items c.deref-3.result.now c.first-2.result c.owner_of-high.result c.owner_of-high.ensures c.deref-3.ensures.value) in
    let long = ap length c.move_range.ensures ∙ length-set c.self.inside.places.items c.owner_of-low.result.id (c.args.k + 1) in
    omega (arith, known, long)

abbrev after : goal.After-move_range-2 → Inside
after c = record { rolls = c.exchange_rolls.new.rolls; runs = c.self.inside.runs; places = c.move_range-2.new.places; size = c.self.inside.size }

-- what the two writes make of the ranges
module _ (c : goal.After-move_range-2) where
  abbrev once : List Range
  once = ranges_of c.self.inside.runs.items c.move_range.new.places.items

  low-found : IsOwner c.self.inside.runs.items c.first.result c.owner_of-low.result
  low-found = owner-of c.self.inside.runs.items c.deref-2.result.now c.first.result c.owner_of-low.result c.owner_of-low.ensures c.deref-2.ensures.value

  high-found : IsOwner c.self.inside.runs.items c.first-2.result c.owner_of-high.result
  high-found = owner-of c.self.inside.runs.items c.deref-3.result.now c.first-2.result c.owner_of-high.result c.owner_of-high.ensures c.deref-3.ensures.value

  low-known : c.owner_of-low.result.id < length c.self.inside.places.items
  low-known = found-known c.self.inside c.self.invariant c.args.self.now c.self.view_is c.first.result (low-below c) c.owner_of-low.result low-found

  high-known : c.owner_of-high.result.id < length c.self.inside.places.items
  high-known = found-known c.self.inside c.self.invariant c.args.self.now c.self.view_is c.first-2.result (high-below c) c.owner_of-high.result high-found

  long : length c.move_range.new.places.items ≡ length c.self.inside.places.items
  long = ap length c.move_range.ensures ∙ length-set c.self.inside.places.items c.owner_of-low.result.id (c.args.k + 1)

  many : length (after c).places.items ≡ length c.self.inside.places.items
  many = ap length c.move_range-2.ensures ∙ length-set c.move_range.new.places.items c.owner_of-high.result.id c.args.k ∙ long

  low-is : c.owner_of-low.result.id ≡ owner_at (owners (ranges_in c.self.inside)) (first (numbered_of c.self.inside) c.args.table c.args.k)
  low-is =
      read-id c.self.inside c.self.invariant c.args.table c.args.k (low-room c.self.inside c.args.self.now c.self.view_is c.args.table c.args.k c.requires)
      c.roll_of-roll.result.now (roll-is c.self.inside.rolls.items c.deref.result.now c.args.table c.roll_of-roll.result.now c.roll_of-roll.ensures c.deref.ensures.value) c.first.result c.first.ensures c.owner_of-low.result.id
      (found-is c.self.inside c.self.invariant c.args.self.now c.self.view_is c.first.result (low-below c) c.owner_of-low.result low-found)

  high-is : c.owner_of-high.result.id ≡ owner_at (owners (ranges_in c.self.inside)) (first (numbered_of c.self.inside) c.args.table (c.args.k + 1))
  high-is =
      read-id c.self.inside c.self.invariant c.args.table (c.args.k + 1) (high-room c.self.inside c.args.self.now c.self.view_is c.args.table c.args.k c.requires)
      c.roll_of-roll.result.now (roll-is c.self.inside.rolls.items c.deref.result.now c.args.table c.roll_of-roll.result.now c.roll_of-roll.ensures c.deref.ensures.value) c.first-2.result c.first-2.ensures c.owner_of-high.result.id
      (found-is c.self.inside c.self.invariant c.args.self.now c.self.view_is c.first-2.result (high-below c) c.owner_of-high.result high-found)

  first-write : once ≡ set (ranges_in c.self.inside) c.owner_of-low.result.id
      (record (range_at (ranges_in c.self.inside) c.owner_of-low.result.id) { place = c.args.k + 1 })
  first-write = ap (ranges_of c.self.inside.runs.items) c.move_range.ensures
      ∙ ranges-set c.self.inside.runs.items 0 c.self.inside.places.items c.owner_of-low.result.id (c.args.k + 1) low-known

  second-write : ranges_in (after c) ≡ set once c.owner_of-high.result.id (record (range_at once c.owner_of-high.result.id) { place = c.args.k })
  second-write = ap (ranges_of c.self.inside.runs.items) c.move_range-2.ensures
      ∙ ranges-set c.self.inside.runs.items 0 c.move_range.new.places.items c.owner_of-high.result.id c.args.k (omega (arith, high-known, long))

pub invariant_of-self : goal.invariant_of-self
invariant_of-self c =
    exchange-kept c.self.inside (after c) c.self.invariant c.args.table c.args.k (high-room c.self.inside c.args.self.now c.self.view_is c.args.table c.args.k c.requires)
    c.exchange_rolls.ensures.others c.exchange_rolls.ensures.firsts c.exchange_rolls.ensures.len c.exchange_rolls.ensures.live refl (many c) refl
    c.owner_of-low.result.id c.owner_of-high.result.id (once c) (low-is c) (high-is c) (first-write c) (second-write c)

pub returns : goal.returns
returns c =
    subst (λ (v : Numbered). Sinking c.args.table c.args.k (c.args.k + 1) v (numbered_of (after c))) c.self.view_is
    (exchange-sinks c.self.inside (after c) c.self.invariant c.args.table c.args.k (high-room c.self.inside c.args.self.now c.self.view_is c.args.table c.args.k c.requires)
    c.exchange_rolls.ensures.others c.exchange_rolls.ensures.firsts c.exchange_rolls.ensures.len c.exchange_rolls.ensures.live refl (many c) refl
    c.owner_of-low.result.id c.owner_of-high.result.id (once c) (low-is c) (high-is c) (first-write c) (second-write c))
