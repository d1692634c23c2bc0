use Rattle.std.proofs.Common.{rules, ap}
use mathlib.Core.Option.{none}
use Rattle.atomic_table.specs.Table.{step}
use Rattle.scr_board.specs.Plays.{Sat}
use Rattle.scr_board.proofs.Seats.{count_stands, dependant_node, seat_delivered}
use Rattle.scr_board.proofs.Allowed.{aim_allowed, gave_node, gave_once}
use Rattle.scr_board.proofs.board.Board.deliver_as.Goals as goal

pub fetch_sub-requires : goal.fetch_sub-requires
fetch_sub-requires g c =
    let seat = c.requires.seat in
    let node = dependant_node c.args.self.now c.args.seat.now seat c.args._node c.args._place c.args.dependant c.requires.place in (
      search rules,
      count_stands c.args.self.now c.args.seat.now seat c.args.dependant node,
      aim_allowed _ _ _ (step 0 0 0 0 none) _ _ c.args._node c.args._place c.args.dependant c.requires.aim.0 c.requires.aim.1 seat.part c.requires.put c.requires.place
          c.requires.new,
    )

pub returns-clause-seat : goal.returns-clause-seat
returns-clause-seat g c =
    seat_delivered c.args.self.now c.args.seat.now c.fetch_sub.new.seat c.requires.seat c.fetch_sub.ensures.0 c.args._node c.args._place c.args.dependant
    c.fetch_sub.result c.requires.put c.requires.place
    (gave_node c.args.seat.now.me c.fetch_sub.new.seat.me (step 0 0 0 0 none) c.fetch_sub.result _ _ c.args._node c.args._place c.args.dependant c.requires.aim.0
    c.requires.aim.1 c.requires.place c.fetch_sub.ensures.2)

pub returns-clause-view : goal.returns-clause-view
returns-clause-view g c = ap (λ (m : Sat). m.0)
    (gave_node c.args.seat.now.me c.fetch_sub.new.seat.me (step 0 0 0 0 none) c.fetch_sub.result _ _ c.args._node c.args._place c.args.dependant c.requires.aim.0
    c.requires.aim.1 c.requires.place c.fetch_sub.ensures.2)

pub returns-clause-once : goal.returns-clause-once
returns-clause-once g c =
    gave_once c.args.seat.now.me c.fetch_sub.new.seat.me (step 0 0 0 0 none) c.fetch_sub.result _ _ c.args._node c.args._place c.args.dependant c.requires.aim.0
    c.requires.aim.1 c.requires.place c.fetch_sub.ensures.2
