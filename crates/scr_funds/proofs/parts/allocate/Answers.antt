use Rattle.std.proofs.Common.{◌≡◌, ◌+◌, ◌*◌, ◌≤◌, sum, take, get_or, length, arith, sym, ap, ◌∙◌}
use Rattle.std.proofs.lemmas.List.{take_all}
use Rattle.std.proofs.lemmas.List.Sums.{sum_by-le, sum_by_more_le}
use Rattle.scr_funds.specs.Parts.{first_parts}
use Rattle.scr_funds.proofs.Shares.{first_parts-all}
use Rattle.scr_funds.proofs.parts.allocate.Goals as goal

pub total_of-total-requires : goal.total_of-total-requires
total_of-total-requires c =
    let bound : sum c.args.weights.now ≤ length c.args.weights.now * 1000000000 =
    sum_by-le (λ w. w) 1000000000 c.args.weights.now c.requires.small in
    omega arith

pub overflow_add-weight : goal.overflow_add-weight
overflow_add-weight c =
    let within : sum (take c.loop-k.k c.args.weights.now) + get_or c.args.weights.now c.loop-k.k 0
    ≤ sum c.args.weights.now = sum_by_more_le (λ w. w) c.args.weights.now c.loop-k.k 0 c.loop-k-test.true in
    omega arith

pub share-next-requires-clause-within : goal.share-next-requires-clause-within
share-next-requires-clause-within c =
    let within : sum (take c.loop-k.k c.args.weights.now) + get_or c.args.weights.now c.loop-k.k 0
    ≤ sum c.args.weights.now = sum_by_more_le (λ w. w) c.args.weights.now c.loop-k.k 0 c.loop-k-test.true in
    omega arith

-- all components together have the whole value
pub returns-clause-whole : goal.returns-clause-whole
returns-clause-whole c =
    let weights = c.args.weights.now in
    let first : sum (take 0 weights) + get_or weights 0 0 ≤ sum weights =
    sum_by_more_le (λ w. w) weights 0 0 c.requires.some in
    let one : 1 ≤ get_or weights 0 0 = c.requires.positive 0 0 c.requires.some in
    let last : c.loop-k.k ≡ length weights = omega arith in
    ap sum (sym (take_all c.loop-k.k c.loop-k.out (omega arith))) ∙ c.loop-k.invariant.whole ∙ c.loop-k.invariant.shared
    ∙ ap (first_parts c.args.value weights) last ∙ first_parts-all c.args.value weights (omega arith)
