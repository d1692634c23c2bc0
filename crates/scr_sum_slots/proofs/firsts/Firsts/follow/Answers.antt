use Rattle.std.proofs.Common.{refl, ◌∙◌, arith}
use Rattle.scr_sum_slots.proofs.Followed.{can-still, followed-all, followed-more, none-followed}
use Rattle.scr_sum_slots.proofs.firsts.Firsts.follow.Goals as goal

pub loop-seat-init : goal.loop-seat-init
loop-seat-init c = record {
  followed = λ seat_of one two. none-followed seat_of c.args.was.now c.args.now.now c.args.first c.args.self.now;
  nowhere = refl;
  room = λ list. omega arith;
}

pub reseat-requires-clause-can : goal.reseat-requires-clause-can
reseat-requires-clause-can c =
    let own = c.requires.own in
    can-still own.0 c.args.was.now c.args.now.now c.args.first c.loop-seat.seat c.loop-seat-test.true own.1 own.2 c.args.self.now c.loop-seat.self
    (c.loop-seat.invariant.followed own.0 own.1 own.2) c.loop-seat.invariant.room (c.requires.can c.loop-seat.seat c.loop-seat-test.true)

pub loop-seat-preserved : goal.loop-seat-preserved
loop-seat-preserved c = record {
  followed = λ seat_of one two.
      followed-more seat_of c.args.was.now c.args.now.now c.args.first c.loop-seat.seat c.loop-seat-test.true one two c.args.self.now c.loop-seat.self c.reseat.new.self
      (c.loop-seat.invariant.followed seat_of one two) c.reseat.ensures;
  nowhere = c.reseat.ensures.nowhere ∙ c.loop-seat.invariant.nowhere;
  room = λ list. (let one = c.loop-seat.invariant.room list in let two = c.reseat.ensures.room list in omega (arith, one, two));
}

pub returns-clause-followed : goal.returns-clause-followed
returns-clause-followed c = λ seat_of one two.
    followed-all seat_of c.args.was.now c.args.now.now c.args.first c.loop-seat.seat c.args.self.now c.loop-seat.self c.loop-seat-test.false
    (c.loop-seat.invariant.followed seat_of one two) c.loop-seat.invariant.nowhere
