use Rattle.std.proofs.Common.{map, ap, arith}
use Rattle.scr_num.specs.Rounding.{Ends, ends}
use Rattle.scr_num.proofs.Enclosing.{Encloses-same}
use Rattle.scr_num.proofs.SumLemmas.{Encloses-sum, sum_ends-within}
use Rattle.scr_num.proofs.Totals.{summed-start, summed-next, summed-end}
use Rattle.scr_num.proofs.total.Goals as goal

pub loop-span-init : goal.loop-span-init
loop-span-init c = summed-start c.args.spans.now c.exact-sum.result c.exact-sum.ensures.ends

pub loop-span-preserved : goal.loop-span-preserved
loop-span-preserved c =
    summed-next c.args.spans.now c.loop-span.sum c.span-item.result c.add-sum.result c.loop-span.span-index
    c.loop-span-test.true c.span-item.is c.add-sum.ensures.ends
    c.loop-span.invariant

pub returns-clause-ends : goal.returns-clause-ends
returns-clause-ends c = summed-end c.args.spans.now c.loop-span.sum c.loop-span.span-index c.loop-span-test.false
    c.loop-span.invariant

pub returns-clause-encloses : goal.returns-clause-encloses
returns-clause-encloses c =
    let e = returns-clause-ends c in
    λ unit positive figures h. Encloses-same unit _ _ _ _ _ (ap (λ (x : Ends). x.low) e) (ap (λ (x : Ends). x.high) e)
    (Encloses-sum unit positive (map ends c.args.spans.now) figures h)

pub returns-clause-size : goal.returns-clause-size
returns-clause-size c = λ most h. rw (returns-clause-ends c) (sum_ends-within most (map ends c.args.spans.now) h)
