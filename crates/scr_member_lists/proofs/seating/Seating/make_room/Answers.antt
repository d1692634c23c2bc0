use Rattle.std.proofs.Common.{◌≡◌, slice_index_or, arith, ◌∙◌}
use Rattle.std.proofs.lemmas.List.{get_or_default}
use Rattle.scr_member_lists.specs.Seatings.{NOWHERE, target}
use Rattle.scr_member_lists.proofs.SeatGrowth.{grows-rows, roomy-none}
use Rattle.scr_member_lists.proofs.seating.Seating.make_room.Goals as goal

pub returns-in_err-reserve_row-clause-grows : goal.returns-in_err-reserve_row-clause-grows
returns-in_err-reserve_row-clause-grows g c =
    grows-rows c.args.self.now c.reserve_row.new.self c.reserve_row.ensures.rolls c.reserve_row.ensures.seats c.reserve_row.ensures.room

pub loop-roll-init : goal.loop-roll-init
loop-roll-init g c =
    roomy-none c.args.rolls.now c.args.self.now c.reserve_row.new.self c.in_ok-reserve_row.ensures.ok
    c.reserve_row.ensures.rolls c.reserve_row.ensures.seats c.reserve_row.ensures.room

pub reserve-requires : goal.reserve-requires
reserve-requires g c = (
  omega arith,
  λ one.
      let at : slice_index_or c.args.rolls.now c.loop-roll.roll-index 0 ≡ target c.loop-roll.roll-index c.args.rolls.now =
      get_or_default c.args.rolls.now c.loop-roll.roll-index 0 NOWHERE (omega (arith, c.loop-roll-test.true)) in
      let number = c.requires c.loop-roll.roll-index (λ e. one (at ∙ e)) in
      let count = c.loop-roll.invariant.keeps.count in
      omega (arith, at, number, count),
)
