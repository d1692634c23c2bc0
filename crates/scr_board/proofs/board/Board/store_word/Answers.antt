use Rattle.std.proofs.Common.{◌+◌, ◌*◌, rules, ap, refl, arith, ◌∙◌}
use mathlib.Core.Option.{none}
use Rattle.atomic_table.specs.Table.{step}
use Rattle.scr_board.specs.Plays.{Sat}
use Rattle.scr_board.proofs.Seats.{seat_stored, word_stands}
use Rattle.scr_board.proofs.Allowed.{store_allowed, stored_node}
use Rattle.scr_board.proofs.board.Board.store_word.Goals as goal

pub store-requires : goal.store-requires
store-requires c =
    let seat = c.requires.seat in
    let held = c.requires.hand in
    let node = seat.nodes c.args.node (omega (arith, held)) in (
      search rules,
      word_stands c.args.self.now c.args.seat.now seat c.args.node c.args.word node c.requires.word,
      store_allowed _ _ _ (step 0 (5 * c.args.node + 2 + c.args.word) 0 0 none) c.args.node c.args.word c.args.value refl seat.part held c.requires.stored c.requires.word c.requires.value,
    )

pub returns-clause-seat : goal.returns-clause-seat
returns-clause-seat c = seat_stored c.args.self.now c.args.seat.now c.store.new.seat c.requires.seat c.store.ensures.0 c.args.node c.requires.hand
    (c.store.ensures.2.0 ∙ stored_node c.args.seat.now.me c.args.node c.args.word c.requires.word)

pub returns-clause-view : goal.returns-clause-view
returns-clause-view c = ap (λ (m : Sat). m.0) (c.store.ensures.2.0 ∙ stored_node c.args.seat.now.me c.args.node c.args.word c.requires.word)

pub returns-clause-once : goal.returns-clause-once
returns-clause-once c = c.store.ensures.2.1
