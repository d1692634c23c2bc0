use Rattle.std.proofs.Common.{ℕ, ◌<◌, sym, subst, ◌∙◌}
use Rattle.scr_sum_slots.specs.Parts.{FREE, room_in}
use Rattle.scr_sum_slots.specs.Moves.{Moved}
use Rattle.scr_sum_slots.proofs.Fronts.{key-some}
use Rattle.scr_sum_slots.proofs.parts.Parts.go_back.Goals as goal

pub move_last-requires-clause-apart : goal.move_last-requires-clause-apart
move_last-requires-clause-apart c = λ e. key-some c.args.list c.args.level (sym c.key_of.ensures ∙ sym e)

pub move_last-requires-clause-room : goal.move_last-requires-clause-room
move_last-requires-clause-room c = subst (λ (k : ℕ). 0 < room_in k c.args.self.now) (sym c.key_of.ensures) c.requires.room

pub returns : goal.returns
returns c = subst (λ (k : ℕ). Moved FREE k c.args.self.now c.move_last.new.self) c.key_of.ensures c.move_last.ensures
