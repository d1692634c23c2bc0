use Rattle.std.proofs.Common.{ℤ, List, ap, ap₂, ◌∙◌}
use Rattle.scr_num.specs.Rounding.{max_ends}
use Rattle.scr_flow.specs.LossEnds.{present_ends}
use Rattle.scr_discounts.specs.Kept.{tables}
use Rattle.scr_rules.proofs.life_rules.worth_above.Goals as goal

pub base_worth-requires-clause-small : goal.base_worth-requires-clause-small
base_worth-requires-clause-small c = rw c.less.ensures.value c.requires.small

pub returns : goal.returns
returns c =
    c.max.ensures.ends
    ∙ ap₂ max_ends (c.base_worth.ensures ∙ ap (λ (xs : List ℤ). present_ends xs (tables c.args.row.now).base) c.less.ensures.value) c.exact.ensures.ends
