-- The block of the list is written, and in it the ends of the list.
use Rattle.std.proofs.Common.{ap, ◌∙◌, arith, eqb, cond}
use Rattle.scr_links.specs.Chains.{EndsByList, ends_at}
use Rattle.scr_links.proofs.Blocks.{set-at, set-seated}
use Rattle.scr_links.proofs.list_ends.ListEnds.set.Goals as goal

pub invariant_of-self : goal.invariant_of-self
invariant_of-self c =
    let room = ap (λ (v : EndsByList). v.room) c.self.view_is in
    record {
      seated = set-seated c.seat_for-seat.new.seats.items c.seat_for-seat.new.ends.items c.seat_for-seat.ensures.seated
          (omega (arith, c.seat_for-seat.ensures.longest c.self.inside.blocks (omega (arith, c.requires, room)) c.self.invariant.blocks, c.self.invariant.few))
          c.args.list c.seat_for-seat.result c.seat_for-seat.ensures.seat.is c.seat_for-seat.ensures.seat.there c.args.ends;
      blocks = c.seat_for-seat.ensures.longest c.self.inside.blocks (omega (arith, c.requires, room)) c.self.invariant.blocks;
      seats = omega (arith, c.self.invariant.seats, c.seat_for-seat.ensures.seats);
      ends = omega (arith, c.self.invariant.ends, c.seat_for-seat.ensures.ends);
      few = c.self.invariant.few;
    }

pub returns-clause-at : goal.returns-clause-at
returns-clause-at c = λ number.
    let room = ap (λ (v : EndsByList). v.room) c.self.view_is in
    set-at c.seat_for-seat.new.seats.items c.seat_for-seat.new.ends.items c.seat_for-seat.ensures.seated
    (omega (arith, c.seat_for-seat.ensures.longest c.self.inside.blocks (omega (arith, c.requires, room)) c.self.invariant.blocks, c.self.invariant.few))
    c.args.list c.seat_for-seat.result c.seat_for-seat.ensures.seat.is c.seat_for-seat.ensures.seat.there c.args.ends number
    ∙ ap (cond (eqb number c.args.list) c.args.ends) (c.seat_for-seat.ensures.same number ∙ ap (λ (v : EndsByList). ends_at v number) c.self.view_is)
