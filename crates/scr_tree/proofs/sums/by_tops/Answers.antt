use Rattle.std.proofs.Common.{◌^◌, map, length, refl, sym, ap, subst, ◌∙◌, arith}
use Rattle.std.specs.Prelude.{is_some}
use Rattle.std.proofs.lemmas.List.{length-drop, length-map, length-take}
use Rattle.scr_num.specs.Rounding.{ends}
use Rattle.scr_num.specs.Sizes.{AreTogether}
use Rattle.scr_num.specs.Sums.{sum_ends}
use Rattle.scr_sum_tree.specs.Blocks.{top_count}
use Rattle.scr_book.specs.Rolls.{roll_of}
use Rattle.scr_rules.proofs.MarketCode.{first-spans, other-spans}
use Rattle.scr_tree.proofs.SumWorth.{left-small, left-sum, taken-small, taken-sum, within}
use Rattle.scr_tree.proofs.Upright.{rolls-are}
use Rattle.scr_tree.proofs.sums.by_tops.Goals as goal

pub slice_bounds-front-end : goal.slice_bounds-front-end
slice_bounds-front-end g c =
    let count = c.top_count-count.ensures
    ∙ ap (λ names. top_count (length names)) (c.roll-members.ensures.names ∙ ap (λ roll. roll_of roll c.args.inputs.book.now.rolls) c.roll.ensures) in
    let low = within c.args.inputs.factors.now c.args.inputs.book.now c.known.ensures.valid (rolls-are c.args.inputs.book.now c.known.ensures.rolls)
    c.known.ensures.form c.args.node.now (ap is_some c.requires.first) (map ends c.args.below.now) c.requires.below c.args.first.now c.requires.first
    c.top_count-count.result count in
    let long = length-map c.args.below.now ends in
    let front = length-take c.top_count-count.result c.args.below.now in
    let back = length-drop c.top_count-count.result c.args.below.now in
    omega (arith, low, long, front, back)

pub slice_bounds-back-count : goal.slice_bounds-back-count
slice_bounds-back-count g c =
    let count = c.top_count-count.ensures
    ∙ ap (λ names. top_count (length names)) (c.roll-members.ensures.names ∙ ap (λ roll. roll_of roll c.args.inputs.book.now.rolls) c.roll.ensures) in
    let low = within c.args.inputs.factors.now c.args.inputs.book.now c.known.ensures.valid (rolls-are c.args.inputs.book.now c.known.ensures.rolls)
    c.known.ensures.form c.args.node.now (ap is_some c.requires.first) (map ends c.args.below.now) c.requires.below c.args.first.now c.requires.first
    c.top_count-count.result count in
    let long = length-map c.args.below.now ends in
    let front = length-take c.top_count-count.result c.args.below.now in
    let back = length-drop c.top_count-count.result c.args.below.now in
    omega (arith, low, long, front, back)

pub slice_bounds-back-start : goal.slice_bounds-back-start
slice_bounds-back-start g c =
    let count = c.top_count-count.ensures
    ∙ ap (λ names. top_count (length names)) (c.roll-members.ensures.names ∙ ap (λ roll. roll_of roll c.args.inputs.book.now.rolls) c.roll.ensures) in
    let low = within c.args.inputs.factors.now c.args.inputs.book.now c.known.ensures.valid (rolls-are c.args.inputs.book.now c.known.ensures.rolls)
    c.known.ensures.form c.args.node.now (ap is_some c.requires.first) (map ends c.args.below.now) c.requires.below c.args.first.now c.requires.first
    c.top_count-count.result count in
    let long = length-map c.args.below.now ends in
    let front = length-take c.top_count-count.result c.args.below.now in
    let back = length-drop c.top_count-count.result c.args.below.now in
    omega (arith, low, long, front, back)

pub total-held-requires : goal.total-held-requires
total-held-requires g c =
    let count = c.top_count-count.ensures
    ∙ ap (λ names. top_count (length names)) (c.roll-members.ensures.names ∙ ap (λ roll. roll_of roll c.args.inputs.book.now.rolls) c.roll.ensures) in
    record {
      together = subst (AreTogether (2 ^ 124)) (first-spans c.args.below.now c.top_count-count.result c.top_count-count.result refl)
          (taken-small c.args.inputs.factors.now c.args.inputs.book.now c.known.ensures.valid (rolls-are c.args.inputs.book.now c.known.ensures.rolls)
          c.known.ensures.form c.args.node.now (ap is_some c.requires.first) (map ends c.args.below.now) c.requires.below c.args.first.now c.requires.first
          c.top_count-count.result count c.requires.live);
    }

pub total-owed-requires : goal.total-owed-requires
total-owed-requires g c =
    let count = c.top_count-count.ensures
    ∙ ap (λ names. top_count (length names)) (c.roll-members.ensures.names ∙ ap (λ roll. roll_of roll c.args.inputs.book.now.rolls) c.roll.ensures) in
    record {
      together = subst (AreTogether (2 ^ 124)) (other-spans c.args.below.now c.top_count-count.result c.top_count-count.result refl)
          (left-small c.args.inputs.factors.now c.args.inputs.book.now c.known.ensures.valid (rolls-are c.args.inputs.book.now c.known.ensures.rolls)
          c.known.ensures.form c.args.node.now (ap is_some c.requires.first) (map ends c.args.below.now) c.requires.below c.args.first.now c.requires.first
          c.top_count-count.result count c.requires.live);
    }

pub by_sums-requires-clause-summed : goal.by_sums-requires-clause-summed
by_sums-requires-clause-summed g c = ap is_some c.requires.first

pub by_sums-requires-clause-held : goal.by_sums-requires-clause-held
by_sums-requires-clause-held g c =
    let count = c.top_count-count.ensures
    ∙ ap (λ names. top_count (length names)) (c.roll-members.ensures.names ∙ ap (λ roll. roll_of roll c.args.inputs.book.now.rolls) c.roll.ensures) in
    c.total-held.ensures.ends
    ∙ ap sum_ends (sym (first-spans c.args.below.now c.top_count-count.result c.top_count-count.result refl))
    ∙ taken-sum c.args.inputs.factors.now c.args.inputs.book.now c.known.ensures.valid (rolls-are c.args.inputs.book.now c.known.ensures.rolls)
    c.known.ensures.form c.args.node.now (ap is_some c.requires.first) (map ends c.args.below.now) c.requires.below c.args.first.now c.requires.first
    c.top_count-count.result count

pub by_sums-requires-clause-owed : goal.by_sums-requires-clause-owed
by_sums-requires-clause-owed g c =
    let count = c.top_count-count.ensures
    ∙ ap (λ names. top_count (length names)) (c.roll-members.ensures.names ∙ ap (λ roll. roll_of roll c.args.inputs.book.now.rolls) c.roll.ensures) in
    c.total-owed.ensures.ends
    ∙ ap sum_ends (sym (other-spans c.args.below.now c.top_count-count.result c.top_count-count.result refl))
    ∙ left-sum c.args.inputs.factors.now c.args.inputs.book.now c.known.ensures.valid (rolls-are c.args.inputs.book.now c.known.ensures.rolls)
    c.known.ensures.form c.args.node.now (ap is_some c.requires.first) (map ends c.args.below.now) c.requires.below c.args.first.now c.requires.first
    c.top_count-count.result count
