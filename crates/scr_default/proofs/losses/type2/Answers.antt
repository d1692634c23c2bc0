use Rattle.std.proofs.Common.{ap, ◌∙◌, pos}
use Rattle.scr_num.specs.Rounding.{Ends, exact_ends}
use Rattle.scr_num.proofs.Enclosing.{Encloses-same}
use Rattle.scr_default.proofs.Roots.{type2-encloses}
use Rattle.scr_default.proofs.losses.type2.Goals as goal

pub returns-clause-encloses : goal.returns-clause-encloses
returns-clause-encloses c =
    let e = c.number.ensures.ends ∙ ap (λ n. exact_ends (pos n)) c.from.ensures in
    Encloses-same 1000 _ _ _ _ _ (ap (λ (x : Ends). x.low) e) (ap (λ (x : Ends). x.high) e)
    (type2-encloses c.args.overdue c.args.other)
