use Rattle.std.proofs.Common.{◌≡◌, map, arith}
use Rattle.std.proofs.lemmas.List.{length-map}
use Rattle.scr_num.specs.Rounding.{ends}
use Rattle.scr_rules.specs.Figures.{amount_of}
use Rattle.scr_rules.proofs.DefaultCode.{loss-within, squared-more, squared-within, squared-all, squares-small}
use Rattle.scr_rules.proofs.default_rules.square_sum.Goals as goal

pub loss-requires : goal.loss-requires
loss-requires c = loss-within c.args.spans.now c.loop-span.span-index c.span-item.result c.loop-span-test.true c.span-item.is c.requires.each

pub overflow_add-sum : goal.overflow_add-sum
overflow_add-sum c =
    let same : c.from-amount.result ≡ amount_of (ends c.span-item.result) = cc in
    let within = squared-within c.args.spans.now c.loop-span.span-index c.span-item.result c.loop-span-test.true c.span-item.is c.loop-span.sum c.from-amount.result same c.loop-span.invariant in
    omega (arith, within, squares-small (map ends c.args.spans.now) c.requires)

pub loop-span-preserved : goal.loop-span-preserved
loop-span-preserved c =
    let same : c.from-amount.result ≡ amount_of (ends c.span-item.result) = cc in
    squared-more c.args.spans.now c.loop-span.span-index c.span-item.result c.loop-span-test.true c.span-item.is c.loop-span.sum c.from-amount.result same c.loop-span.invariant

pub returns : goal.returns
returns c =
    let figures = map ends c.args.spans.now in
    let all = squared-all figures c.loop-span.span-index c.loop-span.sum (omega (arith, length-map c.args.spans.now ends)) c.loop-span.invariant in
    record { value = all; small = omega (arith, all, squares-small figures c.requires) }
