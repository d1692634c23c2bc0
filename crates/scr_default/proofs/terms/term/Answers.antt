use Rattle.std.proofs.Common.{ap, ap₂, ◌∙◌}
use Rattle.scr_num.specs.Rounding.{Ends, add_ends, scale_ends}
use Rattle.scr_default.proofs.Parts.{split}
use Rattle.scr_default.proofs.terms.term.Goals as goal

pub returns : goal.returns
returns c =
    c.add.ensures.ends
    ∙ ap₂ add_ends c.number-whole.ensures.ends
    (c.scale.ensures.ends ∙ ap (λ (e : Ends). scale_ends e c.args.by.num c.args.by.den) c.number.ensures.ends)
    ∙ split c.args.x c.args.by.num c.args.by.den c.args.by.positive
