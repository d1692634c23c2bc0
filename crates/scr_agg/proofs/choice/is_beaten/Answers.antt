use Rattle.std.proofs.Common.{arith, sym, ap₂, ◌∙◌, below_more, ltb}
use Rattle.scr_agg.specs.Unbeaten.{alternatives, beats}
use Rattle.scr_agg.proofs.Alternatives.{length-alternatives, alternative_of, is_beaten-found, is_beaten-none}
use Rattle.scr_agg.proofs.choice.is_beaten.Goals as goal

pub loop-j-preserved : goal.loop-j-preserved
loop-j-preserved c =
    let here = alternative_of c.args.list.now c.loop-j.j c.index-list-j.result c.loop-j-test.true c.index-list-j.is in
    let there = alternative_of c.args.list.now c.args.place c.index-list-place.result c.requires c.index-list-place.is
    in
    below_more _ c.loop-j.j c.loop-j.invariant
    (ap₂ (λ a b. beats (ltb c.loop-j.j c.args.place) a b) here there ∙ sym c.beats.ensures ∙ c.if-beats.false)

pub returns-then-beats : goal.returns-then-beats
returns-then-beats c =
    let here = alternative_of c.args.list.now c.loop-j.j c.index-list-j.result c.loop-j-test.true c.index-list-j.is in
    let there = alternative_of c.args.list.now c.args.place c.index-list-place.result c.requires c.index-list-place.is
    in
    sym (is_beaten-found (alternatives c.args.list.now) c.args.place c.loop-j.j
    (rw length-alternatives c.loop-j-test.true)
    (ap₂ (λ a b. beats (ltb c.loop-j.j c.args.place) a b) here there ∙ sym c.beats.ensures ∙ c.if-beats.true))

pub returns : goal.returns
returns c =
    sym (is_beaten-none (alternatives c.args.list.now) c.args.place
    (λ j lt. c.loop-j.invariant j (let below = rw length-alternatives at lt in omega arith)))
