use Rattle.std.proofs.Common.{◌≡◌, false, w64, of_z, ap, sym, ◌∙◌, pos}
use Rattle.std.specs.Ordering.{int_eq}
use Rattle.std.proofs.lemmas.Bool.{cond-false, false_from_ne_true}
use Rattle.std.proofs.lemmas.Bool.Decides.{Decides-int_eq}
use Rattle.scr_num.specs.Rounding.{ends, exact_ends, sub_ends}
use Rattle.scr_yield_curve.proofs.falls.fall_of.Goals as goal

pub returns-else-base-stressed-clause-ends : goal.returns-else-base-stressed-clause-ends
returns-else-base-stressed-clause-ends c =
    let base = c.args.base in
    let stressed = c.args.stressed in
    let other : int_eq base stressed ≡ false =
    false_from_ne_true (int_eq base stressed) (λ same. c.if-base-stressed.false (ap (of_z w64) ((Decides-int_eq base stressed).0 same))) in
    c.sub.ensures.ends ∙ sym (cond-false (int_eq base stressed) (exact_ends (pos 0)) (sub_ends (ends c.args.from) (ends c.args.to)) other)
