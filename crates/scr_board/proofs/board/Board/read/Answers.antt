use Rattle.std.proofs.Common.{◌≡◌, Some, ap, arith, sym, ◌∙◌}
use Rattle.std.proofs.lemmas.Int.{ints}
use mir.Syntax.{w128}
use mir.Val.{of_z, to_z}
use Rattle.scr_board.specs.Rounds.{word_of}
use Rattle.scr_board.specs.declared.views.View.{View}
use Rattle.scr_board.specs.Passes.{view}
use Rattle.scr_board.proofs.Figures.{figure-of, figure-word}
use Rattle.scr_board.proofs.Reading.{ends_of, ordered_of, same_count}
use Rattle.scr_board.proofs.Seats.{can_node}
use Rattle.scr_board.proofs.board.Board.read.Goals as goal

pub invariant_of-result : goal.invariant_of-result
invariant_of-result c =
    let seat = c.requires.pass.seat in
    let n = c.args.n in
    let round = seat.round in
    let lists = (view c.args.pass.now).round in
    let figure = figure-of round n seat.formed (can_node c.args.self.now c.args.pass.now.seat seat n c.requires.may) in
    let one = c.load_word-first.ensures.view in
    let two = c.load_word-second.ensures.view ∙ one in
    let three = c.load_word-third.ensures.view ∙ two in
    let low : to_z w128 (of_z w128 c.whole-low.result) ≡ c.whole-low.result = omega (arith, ints) in
    let high : to_z w128 (of_z w128 c.whole-high.result) ≡ c.whole-high.result = omega (arith, ints) in
    record {
      ordered = ordered_of figure.0 _ _ _ _ c.load_word-first.type_inv
          (c.load_word-first.ensures.word ∙ figure-word round lists n 0 figure.0 seat.lists figure.1)
          (c.load_word-second.ensures.word ∙ ap (λ (w : View). word_of w.round n 1) one ∙ figure-word round lists n 1 figure.0 seat.lists figure.1)
          (c.load_word-third.ensures.word ∙ ap (λ (w : View). word_of w.round n 2) two ∙ figure-word round lists n 2 figure.0 seat.lists figure.1)
          (c.load_word-fourth.ensures.word ∙ ap (λ (w : View). word_of w.round n 3) three ∙ figure-word round lists n 3 figure.0 seat.lists figure.1)
          _ _ (λ v is x y. low ∙ c.whole-low.ensures v is x y) (λ v is x y. high ∙ c.whole-high.ensures v is x y);
    }

pub returns-clause-read : goal.returns-clause-read
returns-clause-read c = λ round formed is.
    let seat = c.requires.pass.seat in
    let n = c.args.n in
    let lists = (view c.args.pass.now).round in
    let node = can_node c.args.self.now c.args.pass.now.seat seat n c.requires.may in
    let same = same_count seat.round round lists seat.lists is in
    let figure = figure-of round n formed (omega (arith, node, same)) in
    let one = c.load_word-first.ensures.view in
    let two = c.load_word-second.ensures.view ∙ one in
    let three = c.load_word-third.ensures.view ∙ two in
    let low : to_z w128 (of_z w128 c.whole-low.result) ≡ c.whole-low.result = omega (arith, ints) in
    let high : to_z w128 (of_z w128 c.whole-high.result) ≡ c.whole-high.result = omega (arith, ints) in
    figure.1 ∙ ap Some (sym (ends_of figure.0 _ _ _ _ c.load_word-first.type_inv
    (c.load_word-first.ensures.word ∙ figure-word round lists n 0 figure.0 is figure.1)
    (c.load_word-second.ensures.word ∙ ap (λ (w : View). word_of w.round n 1) one ∙ figure-word round lists n 1 figure.0 is figure.1)
    (c.load_word-third.ensures.word ∙ ap (λ (w : View). word_of w.round n 2) two ∙ figure-word round lists n 2 figure.0 is figure.1)
    (c.load_word-fourth.ensures.word ∙ ap (λ (w : View). word_of w.round n 3) three ∙ figure-word round lists n 3 figure.0 is figure.1)
    _ _ (λ v within x y. low ∙ c.whole-low.ensures v within x y) (λ v within x y. high ∙ c.whole-high.ensures v within x y)))
