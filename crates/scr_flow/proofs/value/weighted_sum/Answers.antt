use Rattle.std.proofs.Common.{◌≡◌, pos, FitsSigned, w64, length, get_or, map, to_z-of_z, arith, rules}
use Rattle.std.proofs.lemmas.List.{get_or-map, length-map}
use Rattle.scr_num.specs.Rounding.{ends}
use Rattle.scr_flow.specs.Sums.{flow_ends, weighted_ends}
use Rattle.scr_flow.proofs.SumLemmas.{sum_more, sum_passed, all_added}
use Rattle.scr_flow.proofs.value.weighted_sum.Goals as goal

pub loop-i-preserved-then-flow-eq0 : goal.loop-i-preserved-then-flow-eq0
loop-i-preserved-then-flow-eq0 c =
    let flows = c.args.flows.now in
    let at = c.args.spans.now in
    let count : length c.args.flows.now ≡ 100 = search rules in
    let places : length c.args.spans.now ≡ 100 = search rules in
    let same : length flows ≡ length (map ends at) = rw length-map (omega arith) in
    sum_passed c.loop-i.i c.passed-i.result flows (map ends at) (ends c.loop-i.sum) (omega (arith, c.passed-i.ensures.later)) (omega (arith, c.passed-i.ensures.most)) same
    c.passed-i.ensures.nothing c.loop-i.invariant

pub loop-i-preserved : goal.loop-i-preserved
loop-i-preserved c =
    let flows = c.args.flows.now in
    let at = c.args.spans.now in
    let i = c.loop-i.i in
    let fits : FitsSigned w64 (get_or c.args.flows.now c.loop-i.i (pos 0)) = search rules in
    let count : length c.args.flows.now ≡ 100 = search rules in
    let places : length c.args.spans.now ≡ 100 = search rules in
    let same : length flows ≡ length (map ends at) = rw length-map (omega arith) in
    let span = c.index-spans-i.result in
    let here : get_or (map ends at) i (ends span) ≡ ends (get_or at i span) = get_or-map ends c.args.spans.now i span (ends span) (omega arith) in
    let term : ends c.weighted.result ≡ flow_ends (get_or flows i (pos 0)) (get_or (map ends at) i (ends span)) = rw here (simp to_z-of_z at c.weighted.ensures.ends) in
    rw c.add-sum.ensures.ends
    (sum_more i flows (map ends at) (ends c.loop-i.sum) (ends c.weighted.result) (pos 0) (ends span) (omega arith) same term
    (simp to_z-of_z at c.weighted.ensures.low_size) (simp to_z-of_z at c.weighted.ensures.high_size) c.loop-i.invariant)

pub returns-clause-ends : goal.returns-clause-ends
returns-clause-ends c =
    all_added (ends c.loop-i.sum) (weighted_ends c.args.flows.now (map ends c.args.spans.now)) c.args.flows.now (map ends c.args.spans.now) c.loop-i.i (omega arith) c.loop-i.invariant.so_far

pub returns-clause-places : goal.returns-clause-places
returns-clause-places c = c.loop-i.invariant.places (omega arith)
