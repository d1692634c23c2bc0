use Rattle.std.proofs.Common.{◌≡◌, Some, refl, sym, ap, ◌∙◌, arith}
use Rattle.scr_sum_slots.proofs.Views.{no-some, one-some}
use Rattle.scr_book.specs.Rolls.{number_of_roll}
use Rattle.scr_block_graph.specs.BlockNumbers.{list_number}
use Rattle.scr_block_graph.specs.Sums.{roll_of}
use Rattle.scr_block_graph.proofs.numbers.sum_place.Goals as goal

pub returns-in_err-number-clause-absent : goal.returns-in_err-number-clause-absent
returns-in_err-number-clause-absent c = λ none list place at.
    absurd (no-some (sym (sym c.roll_number.ensures.number ∙ c.in_err-number.was)
    ∙ ap (λ roll. number_of_roll roll c.args.book.now.rolls) c.roll-roll.ensures ∙ at.numbered))

pub returns-in_err-list-clause-absent : goal.returns-in_err-list-clause-absent
returns-in_err-list-clause-absent c = λ none list place at.
    let past = c.in_err-list.ensures.absent refl in
    let named : number_of_roll (roll_of c.args.sum.now) c.args.book.now.rolls ≡ Some c.in_ok-number.number =
    ap (λ roll. number_of_roll roll c.args.book.now.rolls) (sym c.roll-roll.ensures) ∙ sym c.roll_number.ensures.number ∙ c.in_ok-number.was in
    let one : c.in_ok-number.number ≡ at.roll = one-some (sym named ∙ at.numbered) in
    let here : list ≡ list_number c.roll-roll.result c.in_ok-number.number =
    at.listed ∙ ap (list_number (roll_of c.args.sum.now)) (sym one)
    ∙ ap (λ roll. list_number roll c.in_ok-number.number) (sym c.roll-roll.ensures) in
    omega (arith, past, here)

pub returns-clause-there : goal.returns-clause-there
returns-clause-there c = record {
  roll = c.in_ok-number.number;
  numbered = ap (λ roll. number_of_roll roll c.args.book.now.rolls) (sym c.roll-roll.ensures) ∙ sym c.roll_number.ensures.number ∙ c.in_ok-number.was;
  listed = c.in_ok-list.ensures.there ∙ ap (λ roll. list_number roll c.in_ok-number.number) c.roll-roll.ensures;
  placed = c.place_of.ensures.place;
}
