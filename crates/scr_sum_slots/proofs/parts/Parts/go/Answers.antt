use Rattle.std.proofs.Common.{ℕ, ◌<◌, length, ap, sym, subst, ◌∙◌, arith}
use Rattle.scr_sum_slots.specs.Parts.{FREE, Parted, key_of, room_in, slots_in}
use Rattle.scr_sum_slots.specs.Moves.{Moved}
use Rattle.scr_sum_slots.specs.Kept.{parted_of}
use Rattle.scr_sum_slots.proofs.Fronts.{key-some}
use Rattle.scr_sum_slots.proofs.Standing.{free-few}
use Rattle.scr_sum_slots.proofs.parts.Parts.go.Goals as goal

pub move_last-requires-clause-apart : goal.move_last-requires-clause-apart
move_last-requires-clause-apart c = λ e. key-some c.args.list c.args.level (sym c.key_of.ensures ∙ e)

pub move_last-requires-clause-some : goal.move_last-requires-clause-some
move_last-requires-clause-some c = subst (λ (k : ℕ). 0 < length (slots_in k c.args.self.now)) (sym c.key_of.ensures) c.requires

pub move_last-requires-clause-room : goal.move_last-requires-clause-room
move_last-requires-clause-room c =
    let some = subst (λ (v : Parted). 0 < length (slots_in (key_of c.args.list c.args.level) v)) (sym c.self.view_is) c.requires in
    let few = free-few (parted_of c.self.inside) c.self.invariant.slots (key_of c.args.list c.args.level) (key-some c.args.list c.args.level) some in
    let view = ap (room_in FREE) c.self.view_is in
    let all = c.self.invariant.room in
    omega (arith, few, view, all)

pub returns : goal.returns
returns c = subst (λ (k : ℕ). Moved k FREE c.args.self.now c.move_last.new.self) c.key_of.ensures c.move_last.ensures
