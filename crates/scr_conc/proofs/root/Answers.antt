use Rattle.std.proofs.Common.{◌∙◌, ap}
use Rattle.scr_num.specs.Rounding.{Ends, scale_ends, root_ends}
use Rattle.scr_num.proofs.Enclosing.{Encloses-same}
use Rattle.scr_conc.proofs.Squares.{root-encloses, root-size}
use Rattle.scr_conc.proofs.root.Goals as goal

pub returns-clause-ends : goal.returns-clause-ends
returns-clause-ends c =
    c.scale.ensures.ends
    ∙ ap (λ (e : Ends). scale_ends e 1 100) (c.root_of.ensures.ends ∙ ap root_ends c.number.ensures.ends)

pub returns-clause-encloses : goal.returns-clause-encloses
returns-clause-encloses c =
    let e = returns-clause-ends c in
    λ figure h. Encloses-same 1000 _ _ _ _ _ (ap (λ (x : Ends). x.low) e) (ap (λ (x : Ends). x.high) e)
    (root-encloses c.args.sum figure h)

pub returns-clause-size : goal.returns-clause-size
returns-clause-size c = rw (returns-clause-ends c) (root-size c.args.sum c.requires)
