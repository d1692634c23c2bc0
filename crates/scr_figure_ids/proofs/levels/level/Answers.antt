use Rattle.std.proofs.Common.{◌<◌, subst, sym, ◌∙◌}
use Rattle.scr_ids.specs.Ranges.{stride}
use Rattle.scr_figure_ids.proofs.Leveled.{whole-level}
use Rattle.scr_figure_ids.proofs.levels.level.Goals as goal

pub returns-in-Whole-clause-level : goal.returns-in-Whole-clause-level
returns-in-Whole-clause-level c = λ node t f.
    let low = subst (λ t. c.args.family < stride t) c.in-Whole.is c.requires in
    whole-level c.args.family c.whole_at.result c.whole_at.ensures low node (t ∙ c.in-Whole.is) f ∙ sym c.whole_level.ensures.level
