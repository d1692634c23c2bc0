use Rattle.std.proofs.Common.{ap}
use Rattle.scr_num.specs.Rounding.{Ends, ends}
use Rattle.scr_num.proofs.Enclosing.{Encloses-same}
use Rattle.scr_default.proofs.Roots.{default-encloses, default-size}
use Rattle.scr_default.proofs.default.Goals as goal

pub returns-clause-encloses : goal.returns-clause-encloses
returns-clause-encloses c =
    let e = c.quad.ensures.ends in
    λ unit positive type1 type2 h k. Encloses-same unit _ _ _ _ _ (ap (λ (x : Ends). x.low) e)
    (ap (λ (x : Ends). x.high) e)
    (default-encloses unit (ends c.args.s1) (ends c.args.s2) type1 type2 positive c.requires.type1_low
    c.requires.type2_low h k)

pub returns-clause-size : goal.returns-clause-size
returns-clause-size c = λ m n h k. rw c.quad.ensures.ends (default-size m n (ends c.args.s1) (ends c.args.s2) h k)
