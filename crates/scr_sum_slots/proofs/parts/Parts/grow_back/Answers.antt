use Rattle.std.proofs.Common.{ℕ, ◌-◌, subst, arith}
use Rattle.scr_sum_tree.specs.Blocks.{blocks_at}
use Rattle.scr_sum_tree.specs.declared.blocks.Level.TheVariants as levels
use Rattle.scr_sum_slots.specs.Parts.{count_of}
use Rattle.scr_sum_slots.specs.Moves.{HaveGone}
use Rattle.scr_sum_slots.proofs.Freed.{back-both, free-firsts, room-firsts, room-trans}
use Rattle.scr_sum_slots.proofs.parts.Parts.grow_back.Goals as goal

pub regain-requires-clause-free : goal.regain-requires-clause-free
regain-requires-clause-free c = let is = c.blocks_at.ensures in let all = c.requires.free in omega (arith, is, all)

pub regain-requires-clause-room : goal.regain-requires-clause-room
regain-requires-clause-room c = let is = c.blocks_at.ensures in let all = c.requires.room levels.Second in omega (arith, is, all)

pub regain-requires-2-clause-free : goal.regain-requires-2-clause-free
regain-requires-2-clause-free c =
    let list = c.args.list in
    let was = c.args.self.now in
    let one = c.blocks_at-2.ensures in
    let two = c.blocks_at.ensures in
    let all = c.requires.free in
    free-firsts list c.blocks_at-2.result c.blocks_at.result was c.regain.new.self c.regain.ensures.gone c.regain.ensures.front (omega (arith, one, two, all))

pub regain-requires-2-clause-room : goal.regain-requires-2-clause-room
regain-requires-2-clause-room c =
    let one = c.blocks_at-2.ensures in
    let all = c.requires.room levels.First in
    room-firsts c.args.list c.blocks_at-2.result c.blocks_at.result c.args.self.now c.regain.new.self c.regain.ensures.gone c.regain.ensures.front
    (omega (arith, one, all)) c.regain.ensures.room

pub returns-clause-gone : goal.returns-clause-gone
returns-clause-gone c =
    let list = c.args.list in
    let was = c.args.self.now in
    let new = c.regain-2.new.self in
    subst (λ (n : ℕ). HaveGone list (n - count_of list levels.First was) (blocks_at c.args.members levels.Second - count_of list levels.Second was) new was)
    c.blocks_at-2.ensures
    (subst (λ (n : ℕ). HaveGone list (c.blocks_at-2.result - count_of list levels.First was) (n - count_of list levels.Second was) new was) c.blocks_at.ensures
    (back-both list c.blocks_at-2.result c.blocks_at.result was c.regain.new.self c.regain.ensures.gone c.regain.ensures.front new c.regain-2.ensures.gone))

pub returns-clause-room : goal.returns-clause-room
returns-clause-room c = room-trans c.args.self.now c.regain.new.self c.regain-2.new.self c.regain.ensures.room c.regain-2.ensures.room
