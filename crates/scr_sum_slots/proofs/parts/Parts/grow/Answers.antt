use Rattle.std.proofs.Common.{min, ap, ◌∙◌}
use Rattle.scr_sum_tree.specs.declared.blocks.Level.TheVariants as levels
use Rattle.scr_sum_slots.specs.Parts.{count_of}
use Rattle.scr_sum_slots.proofs.Fronts.{all-kept, as-before, on-err}
use Rattle.scr_sum_slots.proofs.parts.Parts.grow.Goals as goal

pub returns-then-is_err-clause-err : goal.returns-then-is_err-clause-err
returns-then-is_err-clause-err c =
    on-err c.add_both-grown.result
    (as-before c.args.list c.args.self.now c.add_both-grown.new.self c.cut.new.self c.cut-then-is_err.new.self
    c.add_both-grown.ensures.kept c.add_both-grown.ensures.others c.cut.ensures.front c.cut-then-is_err.ensures.front
    (c.cut.ensures.count ∙ ap (min (count_of c.args.list levels.First c.add_both-grown.new.self)) c.count-first.ensures)
    (c.cut-then-is_err.ensures.count ∙ ap (min (count_of c.args.list levels.Second c.cut.new.self)) c.count-second.ensures))

pub returns-then-is_err-clause-kept : goal.returns-then-is_err-clause-kept
returns-then-is_err-clause-kept c =
    all-kept c.args.list c.args.self.now c.add_both-grown.new.self c.cut.new.self c.cut-then-is_err.new.self
    c.add_both-grown.ensures.kept c.add_both-grown.ensures.others c.cut.ensures.front c.cut-then-is_err.ensures.front
    (c.cut.ensures.count ∙ ap (min (count_of c.args.list levels.First c.add_both-grown.new.self)) c.count-first.ensures)
    (c.cut-then-is_err.ensures.count ∙ ap (min (count_of c.args.list levels.Second c.cut.new.self)) c.count-second.ensures)
