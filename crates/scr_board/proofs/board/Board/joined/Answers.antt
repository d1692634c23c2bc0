use Rattle.std.proofs.Common.{◌++◌, List, ap, arith, subst, ◌∙◌}
use Rattle.std.specs.Prelude.{option_to_list}
use Rattle.scr_board.specs.declared.board.Pass.{Pass}
use Rattle.scr_board.specs.Closing.{HasJoined}
use Rattle.scr_board.proofs.Allowed.{join_allowed}
use Rattle.scr_board.proofs.Joining.{joined_first, joined_next, last_done, rest_done}
use Rattle.scr_board.proofs.Rows.{none_in, popped_none}
use Rattle.scr_board.proofs.board.Board.joined.Goals as goal

pub loop-pass-init : goal.loop-pass-init
loop-pass-init c =
    let items = c.pop.ensures.items ∙ ap (λ o. c.pop.new.self.items ++ option_to_list o) c.in-Some.is in
    record {
      some_round = c.requires;
      joined = λ round done. joined_first c.args.self.now round c.args.passes.items c.pop.new.self.items c.in-Some.first items done;
      rest = λ round done. rest_done c.args.self.now round c.args.passes.items c.pop.new.self.items c.in-Some.first items done.each;
    }

pub join_seat-requires : goal.join_seat-requires
join_seat-requires c =
    let some = c.loop-pass.invariant.some_round in
    let joined = c.loop-pass.invariant.joined some.0 some.1 in
    let items = c.pop-in-loop-pass.ensures.items ∙ ap (λ o. c.pop-in-loop-pass.new.self.items ++ option_to_list o) c.in-Some-pop.is in
    let done = last_done c.args.self.now some.0 c.loop-pass.passes.items c.pop-in-loop-pass.new.self.items c.in-Some-pop.pass items
    (c.loop-pass.invariant.rest some.0 some.1) in
    let words = joined.of_board.words in (
      joined.of_board.table,
      done.of_board.seat.table,
      done.of_board.seat.slots,
      omega (arith, words),
      join_allowed _ _ _ _ joined.of_board.part done.of_board.seat.part joined.end.marked done.end.marked,
    )

pub loop-pass-preserved : goal.loop-pass-preserved
loop-pass-preserved c =
    let items = c.pop-in-loop-pass.ensures.items ∙ ap (λ o. c.pop-in-loop-pass.new.self.items ++ option_to_list o) c.in-Some-pop.is in
    let before = c.loop-pass.passes.items in
    let rest = c.pop-in-loop-pass.new.self.items in
    let other = c.in-Some-pop.pass in
    record {
      some_round = c.loop-pass.invariant.some_round;
      joined = λ round done.
          joined_next c.args.self.now round c.args.passes.items before rest other c.loop-pass.seat c.join_seat.new.seat items
          (c.loop-pass.invariant.joined round done)
          (last_done c.args.self.now round before rest other items (c.loop-pass.invariant.rest round done)) c.join_seat.ensures.0 c.join_seat.ensures.2;
      rest = λ round done. rest_done c.args.self.now round before rest other items (c.loop-pass.invariant.rest round done);
    }

pub returns : goal.returns
returns c = λ round done.
    let none = (popped_none c.pop-in-loop-pass.result _ _ c.in_default-pop.is c.pop-in-loop-pass.ensures.cases).0 in
    let ok = c.loop-pass.passes.ok in
    let empty = none_in c.loop-pass.passes.items (omega (arith, none, ok)) in
    subst (λ (xs : List Pass). HasJoined c.args.self.now round c.args.passes.items xs c.loop-pass.seat) empty (c.loop-pass.invariant.joined round done)
