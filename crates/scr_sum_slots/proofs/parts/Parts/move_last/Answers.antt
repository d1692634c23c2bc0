use Rattle.std.proofs.Common.{◌≡◌, ℕ, length, set, ap, sym, subst, ◌∙◌, arith}
use Rattle.scr_sum_slots.specs.Parts.{NumberList, Parted, room_in, slots_in}
use Rattle.scr_sum_slots.specs.Moves.{Moved}
use Rattle.scr_sum_slots.specs.Kept.{parted_of}
use Rattle.scr_sum_slots.specs.declared.parts.Parts.TheInside.{Inside}
use Rattle.scr_sum_slots.proofs.Moving.{kept-through, moved, moved-kept, taken-within, there-room}
use Rattle.scr_sum_slots.proofs.Standing.{at-place}
use Rattle.scr_sum_slots.proofs.parts.Parts.move_last.Goals as goal

pub take_last-slot-requires : goal.take_last-slot-requires
take_last-slot-requires c =
    let view = ap (λ (v : Parted). length (slots_in c.args.from v)) c.self.view_is in
    omega (arith, view, c.requires.some)

pub put_last-index-requires : goal.put_last-index-requires
put_last-index-requires c =
    let same = ap (λ (l : NumberList). l.room) (c.take_last-slot.ensures.others.others c.args.to (λ e. c.requires.apart (sym e))) in
    let view = ap (λ (v : Parted). room_in c.args.to v) c.self.view_is in
    omega (arith, same, view, c.requires.room)

pub set_owner-requires : goal.set_owner-requires
set_owner-requires c =
    taken-within (parted_of c.self.inside) c.take_last-slot.new.self c.args.from c.take_last-slot.result c.self.invariant.slots c.take_last-slot.ensures.slots

abbrev after : goal.After-set_owner → Inside
after c = record { lists = c.put_last-index.new.self; owner = c.set_owner.new.owners }

index-is : (c : goal.After-set_owner) → c.put_last-index.result ≡ length (slots_in c.args.to (parted_of c.self.inside))
index-is c =
    c.put_last-index.ensures.place
    ∙ ap (λ (l : NumberList). length l.items) (c.take_last-slot.ensures.others.others c.args.to (λ e. c.requires.apart (sym e)))

owner-is : (c : goal.After-set_owner) → (after c).owner.items
    ≡ set c.self.inside.owner.items c.take_last-slot.result (at-place c.args.to (length (slots_in c.args.to (parted_of c.self.inside))))
owner-is c =
    c.set_owner.ensures
    ∙ ap (λ (n : ℕ). set c.self.inside.owner.items c.take_last-slot.result (at-place c.args.to n)) (index-is c)

moved-now : (c : goal.After-set_owner) → Moved c.args.from c.args.to (parted_of c.self.inside) (parted_of (after c))
moved-now c =
    moved (parted_of c.self.inside) (parted_of (after c)) c.take_last-slot.new.self c.args.from c.args.to c.take_last-slot.result c.requires.apart
    c.take_last-slot.ensures.slots c.take_last-slot.ensures.room c.take_last-slot.ensures.others c.put_last-index.ensures.slots c.put_last-index.ensures.room
    c.put_last-index.ensures.others (owner-is c)

pub invariant_of-self : goal.invariant_of-self
invariant_of-self c =
    kept-through c.self.inside (after c) c.self.invariant (c.put_last-index.ensures.others.lists ∙ c.take_last-slot.ensures.others.lists)
    (moved-now c).size (moved-now c).room
    (moved-kept (parted_of c.self.inside) (parted_of (after c)) c.take_last-slot.new.self c.args.from c.args.to c.take_last-slot.result c.requires.apart
    c.take_last-slot.ensures.slots c.take_last-slot.ensures.room c.take_last-slot.ensures.others c.put_last-index.ensures.slots c.put_last-index.ensures.room
    c.put_last-index.ensures.others (owner-is c) c.self.invariant.slots)

pub returns : goal.returns
returns c =
    subst (λ (v : Parted). Moved c.args.from c.args.to v (parted_of (after c))) c.self.view_is (moved-now c)

pub overflow_cast-to : goal.overflow_cast-to
overflow_cast-to c =
    let view = ap (λ (v : Parted). room_in c.args.to v) c.self.view_is in
    let there = there-room c.args.to c.self.inside.lists (omega (arith, view, c.requires.room)) in
    let few = c.self.invariant.lists in
    omega (arith, there, few)
