use Rattle.scr_plan.proofs.WorkedPoints.{worked-by-rule}
use Rattle.scr_plan.proofs.evaluation.evaluate.Goals as goal
use Rattle.scr_discounts.specs.Kept.{rows_of}
use Rattle.scr_num.specs.Rounding.{ends}
use Rattle.std.proofs.Common.{map, ◌∙◌}

pub returns-clause-worked : goal.returns-clause-worked
returns-clause-worked g c = λ all are.
    c.by_rule.ensures.rule
    ∙ worked-by-rule c.args.factors.now c.args.book.now c.known.ensures.valid c.known.ensures.rolls c.args.node (rows_of c.args.curves.now)
    (map ends c.args.spans.now) c.requires.fits all are
