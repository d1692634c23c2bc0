use Rattle.std.proofs.Common.{◌≡◌, ◌≢◌, ℕ, ◌<◌, length, map, eqb, slice_index_or, sym, ap, subst, ◌∙◌, arith}
use Rattle.std.specs.Prelude.{if◌then◌else◌}
use Rattle.std.proofs.lemmas.List.{get_or_default, length-map}
use Rattle.scr_member_lists.specs.Members.{has, moved, name_at}
use Rattle.scr_member_lists.specs.Seatings.{NOWHERE, IsFor, names_of, roll_in, roll_then, room_of, seat_at, seat_of}
use Rattle.scr_member_lists.proofs.SeatLoops.{done-more, for-mid, list-change, list-goes, list-names, room-mid}
use Rattle.scr_member_lists.proofs.seating.Seating.arrange.Goals as goal

pub seat-requires : goal.seat-requires
seat-requires g c =
    let table = map g.R.Row.name_of c.args.rows.now in
    let own = seat_at c.args.place c.args.self.now.seats in
    let few = c.requires.few in
    let inside : c.loop-seat.seat < length c.args.rolls.now = omega (arith, c.loop-seat-test.true) in
    let roll : ℕ = roll_then c.loop-seat.seat c.args.rolls.now own in
    let at : slice_index_or c.args.rolls.now c.loop-seat.seat 0 ≡ roll =
    get_or_default c.args.rolls.now c.loop-seat.seat 0 (roll_in c.loop-seat.seat own) inside in (
      omega arith,
      (
        c.loop-seat.invariant.seated,
        (
          c.requires.place,
          (
            omega (arith, inside, few),
            (
              subst (IsFor c.loop-seat.self.rolls c.loop-seat.seat) (sym at)
                  (for-mid table c.args.place (list-goes c.args.rolls.now own) (list-change c.args.rolls.now own (name_at c.args.place table))
                  c.loop-seat.seat c.args.self.now c.loop-seat.self c.loop-seat.invariant roll (c.requires.rolls c.loop-seat.seat inside)),
              subst (λ r. r ≢ NOWHERE → r ≢ roll_in c.loop-seat.seat (seat_at c.args.place c.loop-seat.self.seats) → 0 < room_of r c.loop-seat.self.rolls) (sym at)
                  (room-mid table c.args.place (list-goes c.args.rolls.now own) (list-change c.args.rolls.now own (name_at c.args.place table))
                  c.loop-seat.seat c.args.self.now c.loop-seat.self c.loop-seat.invariant roll (c.requires.rolls c.loop-seat.seat inside) (c.requires.room c.loop-seat.seat inside)),
            ),
          ),
        ),
      ),
    )

pub loop-seat-preserved : goal.loop-seat-preserved
loop-seat-preserved g c =
    let told = c.seat.ensures in
    let at : slice_index_or c.args.rolls.now c.loop-seat.seat 0 ≡ roll_then c.loop-seat.seat c.args.rolls.now (seat_at c.args.place c.args.self.now.seats) =
    get_or_default c.args.rolls.now c.loop-seat.seat 0 (roll_in c.loop-seat.seat (seat_at c.args.place c.args.self.now.seats)) (omega (arith, c.loop-seat-test.true)) in
    done-more (map g.R.Row.name_of c.args.rows.now) c.args.place (list-goes c.args.rolls.now (seat_at c.args.place c.args.self.now.seats))
    (list-change c.args.rolls.now (seat_at c.args.place c.args.self.now.seats) (name_at c.args.place (map g.R.Row.name_of c.args.rows.now)))
    c.loop-seat.seat c.args.self.now c.loop-seat.self c.loop-seat.invariant c.seat.new.self told.seated told.seats
    (λ s. told.own s ∙ ap (λ r. if eqb c.loop-seat.seat s then r else roll_in s (seat_at c.args.place c.loop-seat.self.seats)) at)
    (λ n h. told.names n h
    ∙ ap (λ r. if eqb (seat_of n c.loop-seat.self.rolls) c.loop-seat.seat
    then moved (name_at c.args.place (map g.R.Row.name_of c.args.rows.now)) (has (name_at c.args.place (map g.R.Row.name_of c.args.rows.now)) (names_of n c.loop-seat.self.rolls))
    (eqb r n) (names_of n c.loop-seat.self.rolls) else names_of n c.loop-seat.self.rolls) at)
    told.room told.rows

pub returns-clause-names : goal.returns-clause-names
returns-clause-names g c =
    let h = c.requires.place in
    let long = length-map c.args.rows.now g.R.Row.name_of in
    list-names (map g.R.Row.name_of c.args.rows.now) c.args.place c.args.rolls.now c.args.self.now c.loop-seat.self c.requires.seated c.len-count.ensures.apart
    (omega (arith, h, long)) c.loop-seat.seat (omega (arith, c.loop-seat-test.false)) c.loop-seat.invariant
