use Rattle.std.proofs.Common.{◌≡◌, arith, ◌∙◌}
use Rattle.std.proofs.lemmas.Int.{ints}
use mir.Syntax.{w128}
use mir.Val.{of_z, to_z}
use Rattle.std.specs.Mem.Slots.{slots_items}
use Rattle.scr_board.proofs.Reading.{ends_of, found_at, ordered_of}
use Rattle.scr_board.proofs.closing.figure_at.Goals as goal

pub invariant_of-result : goal.invariant_of-result
invariant_of-result c =
    let shown = c.requires.shown.1 in
    let words = slots_items c.args.closed.now.words in
    let low : to_z w128 (of_z w128 c.whole-low.result) ≡ c.whole-low.result = omega (arith, ints) in
    let high : to_z w128 (of_z w128 c.whole-high.result) ≡ c.whole-high.result = omega (arith, ints) in
    record {
      ordered = ordered_of c.requires.shown.0 _ _ _ _ c.word-first.type_inv (found_at words _ _ c.word-first.ensures ∙ shown.first)
          (found_at words _ _ c.word-second.ensures ∙ shown.second) (found_at words _ _ c.word-third.ensures ∙ shown.third)
          (found_at words _ _ c.word-fourth.ensures ∙ shown.fourth) _ _ (λ v within x y. low ∙ c.whole-low.ensures v within x y) (λ v within x y. high ∙ c.whole-high.ensures v within x y);
    }

pub returns : goal.returns
returns c = λ figure shown.
    let words = slots_items c.args.closed.now.words in
    let low : to_z w128 (of_z w128 c.whole-low.result) ≡ c.whole-low.result = omega (arith, ints) in
    let high : to_z w128 (of_z w128 c.whole-high.result) ≡ c.whole-high.result = omega (arith, ints) in
    ends_of figure _ _ _ _ c.word-first.type_inv (found_at words _ _ c.word-first.ensures ∙ shown.first)
    (found_at words _ _ c.word-second.ensures ∙ shown.second) (found_at words _ _ c.word-third.ensures ∙ shown.third)
    (found_at words _ _ c.word-fourth.ensures ∙ shown.fourth) _ _ (λ v within x y. low ∙ c.whole-low.ensures v within x y) (λ v within x y. high ∙ c.whole-high.ensures v within x y)
