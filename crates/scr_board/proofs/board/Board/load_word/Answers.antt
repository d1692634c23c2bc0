use Rattle.std.proofs.Common.{◌+◌, ◌*◌, rules, ap, refl, ◌∙◌}
use mathlib.Core.Option.{none}
use Rattle.atomic_table.specs.Table.{step}
use Rattle.scr_board.specs.Plays.{Sat}
use Rattle.scr_board.proofs.Seats.{can_node, seat_same, word_stands}
use Rattle.scr_board.proofs.Allowed.{load_allowed, loaded_word}
use Rattle.scr_board.proofs.board.Board.load_word.Goals as goal

pub load-requires : goal.load-requires
load-requires c =
    let node = can_node c.args.self.now c.args.seat.now c.requires.seat c.args.node c.requires.may in (
      search rules,
      word_stands c.args.self.now c.args.seat.now c.requires.seat c.args.node c.args.word node c.requires.word,
      load_allowed _ _ _ (step 0 (5 * c.args.node + 2 + c.args.word) 0 0 none) c.args.node c.args.word refl c.requires.seat.part c.requires.may c.requires.word,
    )

pub returns-clause-seat : goal.returns-clause-seat
returns-clause-seat c = seat_same c.args.self.now c.args.seat.now c.load.new.seat c.requires.seat c.load.ensures.0 c.load.ensures.2.0

pub returns-clause-view : goal.returns-clause-view
returns-clause-view c = ap (λ (m : Sat). m.0) c.load.ensures.2.0

pub returns-clause-word : goal.returns-clause-word
returns-clause-word c = c.load.ensures.2.1 ∙ loaded_word c.args.seat.now.me.0.round c.args.node c.args.word c.requires.word
