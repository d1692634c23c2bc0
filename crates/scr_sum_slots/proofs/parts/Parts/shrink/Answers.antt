use Rattle.std.proofs.Common.{ℕ, ◌-◌, subst}
use Rattle.scr_sum_tree.specs.Blocks.{blocks_at}
use Rattle.scr_sum_tree.specs.declared.blocks.Level.TheVariants as levels
use Rattle.scr_sum_slots.specs.Parts.{count_of}
use Rattle.scr_sum_slots.specs.Moves.{HaveGone}
use Rattle.scr_sum_slots.proofs.Freed.{gone-both, room-trans}
use Rattle.scr_sum_slots.proofs.parts.Parts.shrink.Goals as goal

pub returns-clause-gone : goal.returns-clause-gone
returns-clause-gone c =
    let list = c.args.list in
    let was = c.args.self.now in
    let new = c.cut-2.new.self in
    subst (λ (n : ℕ). HaveGone list (count_of list levels.First was - n) (count_of list levels.Second was - blocks_at c.args.members levels.Second) was new)
    c.blocks_at.ensures
    (subst (λ (n : ℕ). HaveGone list (count_of list levels.First was - c.blocks_at.result) (count_of list levels.Second was - n) was new) c.blocks_at-2.ensures
    (gone-both list c.blocks_at.result c.blocks_at-2.result was c.cut.new.self new c.cut.ensures.gone c.cut.ensures.front c.cut-2.ensures.gone))

pub returns-clause-room : goal.returns-clause-room
returns-clause-room c = room-trans c.args.self.now c.cut.new.self c.cut-2.new.self c.cut.ensures.room c.cut-2.ensures.room
