use Rattle.std.proofs.Common.{◌≡◌, ℕ, ◌-◌, ◌<◌, List, length, map, set, eqb, sym, ap, subst, ◌∙◌, arith, rules}
use Rattle.std.specs.Prelude.{if◌then◌else◌}
use Rattle.std.proofs.lemmas.List.{length-map}
use Rattle.scr_member_lists.specs.Seatings.{NOWHERE, Seated, AreSeated, names_of, place_in, roll_in, seat_at}
use Rattle.scr_member_lists.specs.declared.seats.Seats.{Seats}
use Rattle.scr_member_lists.proofs.Benches.{for-kind}
use Rattle.scr_member_lists.proofs.SeatGrowth.{keeps-is}
use Rattle.scr_member_lists.proofs.SeatLists.{at-any}
use Rattle.scr_member_lists.proofs.SeatMoves.{member-there, own-after, row-own, row-taken, vacated}
use Rattle.scr_member_lists.proofs.seating.Seating.quit.Goals as goal

module _ (g : Rattle.scr_member_lists.proofs.seating.Seating.quit.Given.Over) (c : goal.After-leave-arg-1 g) where
  abbrev names : List (List ℕ)
  names = map g.R.Row.name_of c.args.rows.now

  within : c.args.place < length names
  within = let h = c.requires.place in let long = length-map c.args.rows.now g.R.Row.name_of in omega (arith, h, long)

  own : seat_at c.args.place c.args.self.now.seats ≡ c.index-own.result.now
  own =
      let same : c.self.inside.seats.items ≡ c.args.self.now.seats = ap (λ (s : Seated). s.seats) c.self.view_is in
      let long = ap length same in
      let beside = c.requires.seated.beside in
      ap (seat_at c.args.place) (sym same) ∙ at-any c.self.inside.seats.items c.args.place c.index-own.result.now (omega (arith, long, beside, within)) c.index-own.ensures

  roll_is : roll_in c.args.seat (seat_at c.args.place c.args.self.now.seats) ≡ c.roll-roll.result
  roll_is = ap (roll_in c.args.seat) own ∙ sym c.roll-roll.ensures

  place_is : place_in c.args.seat (seat_at c.args.place c.args.self.now.seats) ≡ c.place-at.result
  place_is = ap (place_in c.args.seat) own ∙ sym c.place-at.ensures

  taken : (c.roll-roll.result < length c.args.self.now.rolls) × (c.place-at.result < length (names_of c.roll-roll.result c.args.self.now.rolls))
  taken = row-taken names c.args.self.now c.requires.seated c.requires.apart c.args.place within c.args.seat c.roll-roll.result c.place-at.result roll_is place_is c.requires.some

pub leave-requires : goal.leave-requires
leave-requires g c =
    let beside = c.requires.seated.beside in
    let long = length-map c.args.rows.now g.R.Row.name_of in (
      omega arith,
      (
        omega (arith, beside, long),
        (
          c.requires.apart,
          (
            c.requires.seat,
            (
              (taken g c).0,
              (
                row-own (names g c) c.args.self.now c.requires.seated c.requires.apart c.args.place (within g c) c.args.seat c.roll-roll.result (roll_is g c) c.requires.some,
                (
                  (taken g c).1,
                  λ more. let inside = (taken g c).1 in
                      member-there g.R.Row.name_of c.args.rows.now c.args.self.now c.requires.seated c.roll-roll.result
                      (length (names_of c.roll-roll.result c.args.self.now.rolls) - 1) (omega (arith, inside)),
                ),
              ),
            ),
          ),
        ),
      ),
    )

module _ (g : Rattle.scr_member_lists.proofs.seating.Seating.quit.Given.Over) (c : goal.After-self-1 g) where
  abbrev table : List (List ℕ)
  table = map g.R.Row.name_of c.args.rows.now

  inside : c.args.place < length table
  inside = let h = c.requires.place in let long = length-map c.args.rows.now g.R.Row.name_of in omega (arith, h, long)

  own_before : seat_at c.args.place c.args.self.now.seats ≡ c.index-own.result.now
  own_before =
      let same : c.self.inside.seats.items ≡ c.args.self.now.seats = ap (λ (s : Seated). s.seats) c.self.view_is in
      let long = ap length same in
      let beside = c.requires.seated.beside in
      ap (seat_at c.args.place) (sym same) ∙ at-any c.self.inside.seats.items c.args.place c.index-own.result.now (omega (arith, long, beside, inside)) c.index-own.ensures

  own_then : seat_at c.args.place c.leave.new.self.seats ≡ c.index_mut.result.now
  own_then =
      let same : c.self-2.inside.seats.items ≡ c.leave.new.self.seats = ap (λ (s : Seated). s.seats) c.self-2.view_is in
      let long = ap length same in
      let beside = c.requires.seated.beside in
      let kept = c.leave.ensures.beside in
      ap (seat_at c.args.place) (sym same) ∙ at-any c.self-2.inside.seats.items c.args.place c.index_mut.result.now (omega (arith, long, kept, beside, inside)) c.index_mut.ensures.value

  rolls_written : (t : ℕ) → roll_in t c.set_free.new.self ≡ (if eqb c.args.seat t then NOWHERE else roll_in t (seat_at c.args.place c.leave.new.self.seats))
  rolls_written t = c.set_free.ensures.rolls t ∙ ap (λ (o : Seats). if eqb c.args.seat t then NOWHERE else roll_in t o) (sym own_then)

  places_written : (t : ℕ) → place_in t c.set_free.new.self ≡ place_in t (seat_at c.args.place c.leave.new.self.seats)
  places_written t = c.set_free.ensures.places t ∙ ap (place_in t) (sym own_then)

pub set_free-requires : goal.set_free-requires
set_free-requires g c =
    let few = c.self.invariant.0 in
    let table = map g.R.Row.name_of c.args.rows.now in
    let h = c.requires.place in
    let long = length-map c.args.rows.now g.R.Row.name_of in
    let inside : c.args.place < length table = omega (arith, h, long) in
    let same : c.self.inside.seats.items ≡ c.args.self.now.seats = ap (λ (s : Seated). s.seats) c.self.view_is in
    let count = ap length same in
    let beside = c.requires.seated.beside in
    let own : seat_at c.args.place c.args.self.now.seats ≡ c.index-own.result.now =
    ap (seat_at c.args.place) (sym same) ∙ at-any c.self.inside.seats.items c.args.place c.index-own.result.now (omega (arith, count, beside, inside)) c.index-own.ensures in
    let roll_is : roll_in c.args.seat (seat_at c.args.place c.args.self.now.seats) ≡ c.roll-roll.result = ap (roll_in c.args.seat) own ∙ sym c.roll-roll.ensures in
    let kind = row-own table c.args.self.now c.requires.seated c.requires.apart c.args.place inside c.args.seat c.roll-roll.result roll_is c.requires.some in
    let taken = row-taken table c.args.self.now c.requires.seated c.requires.apart c.args.place inside c.args.seat c.roll-roll.result c.place-at.result roll_is
    (ap (place_in c.args.seat) own ∙ sym c.place-at.ensures) c.requires.some in
    let width : c.args.seat < g.row.N =
    for-kind g.row.N c.self.inside.rolls.items c.args.self.now.rolls c.self.invariant.1
    (keeps-is c.args.self.now.rolls c.self.inside.rolls.items (ap (λ (s : Seated). s.rolls) c.self.view_is)) c.roll-roll.result c.args.seat taken.0 kind in
    search (rules, width, few)

pub returns-clause-seated : goal.returns-clause-seated
returns-clause-seated g c =
    let e = c.leave.ensures in
    let room : ℕ = c.self-2.inside.seats.cap - length (set c.self-2.inside.seats.items c.args.place c.set_free.new.self) in
    subst (λ (mid : Seated). AreSeated (table g c) (record { rolls = mid.rolls; seats = set mid.seats c.args.place c.set_free.new.self; room = room })) (sym c.self-2.view_is)
    (vacated (table g c) c.args.self.now c.requires.seated c.requires.apart c.args.place (inside g c) c.leave.new.self room c.set_free.new.self c.args.seat e.beside e.seats
    c.roll-roll.result c.place-at.result (ap (roll_in c.args.seat) (own_before g c) ∙ sym c.roll-roll.ensures) (ap (place_in c.args.seat) (own_before g c) ∙ sym c.place-at.ensures)
    (λ z. c.requires.some (ap (roll_in c.args.seat) (own_before g c) ∙ sym c.roll-roll.ensures ∙ z))
    e.names e.rolls e.at e.drawn e.still (rolls_written g c) (places_written g c))

pub returns-clause-own : goal.returns-clause-own
returns-clause-own g c =
    let same : c.self-2.inside.seats.items ≡ c.leave.new.self.seats = ap (λ (s : Seated). s.seats) c.self-2.view_is in
    λ s. ap (λ (xs : List Seats). roll_in s (seat_at c.args.place (set xs c.args.place c.set_free.new.self))) same
    ∙ own-after (table g c) c.args.self.now c.requires.seated c.requires.apart c.args.place (inside g c) c.leave.new.self.seats c.set_free.new.self c.args.seat NOWHERE
    c.leave.ensures.beside c.leave.ensures.at (rolls_written g c) s
