use Rattle.std.proofs.Common.{◌≡◌, ℕ, ◌-◌, ◌<◌, Some, List, length, map, get_or, set, eqb, [], sym, ap, subst, ◌∙◌, arith, rules}
use Rattle.std.specs.Prelude.{if◌then◌else◌}
use Rattle.std.specs.Option.{option_map}
use Rattle.std.proofs.lemmas.List.{length-map}
use Rattle.scr_member_lists.specs.Members.{come}
use Rattle.scr_member_lists.specs.Seatings.{Seated, AreSeated, KeepsSeats, names_of, place_in, roll_in, seat_at, seats_of}
use Rattle.scr_member_lists.specs.declared.seats.Seats.{Seats}
use Rattle.scr_member_lists.proofs.Benches.{for-kind}
use Rattle.scr_member_lists.proofs.SeatLists.{at-any, named-at}
use Rattle.scr_member_lists.proofs.SeatMoves.{come-back, seated-back}
use Rattle.scr_member_lists.proofs.seating.Seating.occupy.Goals as goal

module _ (g : Rattle.scr_member_lists.proofs.seating.Seating.occupy.Given.Over) (c : goal.After-self-1 g) where
  abbrev table : List (List ℕ)
  table = map g.R.Row.name_of c.args.rows.now

  abbrev roll : List (List ℕ)
  roll = names_of c.args.roll c.args.self.now.rolls

  inside : c.args.place < length table
  inside = let h = c.requires.place in let long = length-map c.args.rows.now g.R.Row.name_of in omega (arith, h, long)

  same_seats : c.self.inside.seats.items ≡ c.args.self.now.seats
  same_seats = ap (λ (s : Seated). s.seats) c.self.view_is ∙ c.come-at.ensures.own

  own_then : seat_at c.args.place c.come-at.new.self.seats ≡ c.index_mut.result.now
  own_then =
      let long = ap length same_seats in
      let beside = c.requires.seated.beside in
      ap (seat_at c.args.place) (sym (ap (λ (s : Seated). s.seats) c.self.view_is))
      ∙ at-any c.self.inside.seats.items c.args.place c.index_mut.result.now (omega (arith, long, beside, inside)) c.index_mut.ensures.value

  row_name : get_or table c.args.place [] ≡ c.name-name.result
  row_name = (named-at g.R.Row.name_of c.args.rows.now c.args.place c.name-name.result (ap (option_map g.R.Row.name_of) c.at.ensures ∙ ap Some (sym c.name-name.ensures))).1

pub put-requires : goal.put-requires
put-requires g c =
    let few = c.self.invariant.0 in
    let width : c.args.seat < g.row.N =
    for-kind g.row.N c.self.inside.rolls.items c.args.self.now.rolls c.self.invariant.1
    (subst (λ rolls. KeepsSeats c.args.self.now.rolls rolls) (sym (ap (λ (s : Seated). s.rolls) c.self.view_is)) c.come-at.ensures.seats)
    c.args.roll c.args.seat c.requires.number c.requires.kind in
    search (rules, width, few)

pub returns-clause-seated : goal.returns-clause-seated
returns-clause-seated g c =
    let e = c.come-at.ensures in
    let room : ℕ = c.self.inside.seats.cap - length (set c.self.inside.seats.items c.args.place c.put.new.self) in
    subst (λ (mid : Seated). AreSeated (table g c) (record { rolls = mid.rolls; seats = set mid.seats c.args.place c.put.new.self; room = room })) (sym c.self.view_is)
    (seated-back (table g c) c.args.self.now c.requires.seated c.requires.apart c.args.place (inside g c) c.come-at.new.self room c.put.new.self c.args.seat (ap length e.own) e.seats
    c.args.roll (length (roll g c)) c.requires.none c.requires.number c.requires.kind (omega arith)
    (e.names ∙ ap (λ y. come y (roll g c)) (sym (row_name g c)) ∙ come-back (get_or (table g c) c.args.place []) (roll g c))
    e.rolls
    (λ y t. ap (λ (xs : List Seats). roll_in t (seats_of (table g c) xs y)) e.own)
    (λ more. absurd (omega (arith, more)))
    (λ y t side. ap (λ (xs : List Seats). place_in t (seats_of (table g c) xs y)) e.own)
    (λ t. c.put.ensures.rolls t ∙ ap (λ (o : Seats). if eqb c.args.seat t then c.args.roll else roll_in t o) (sym (own_then g c)))
    (λ t. c.put.ensures.places t ∙ ap (λ z. if eqb c.args.seat t then z else place_in t c.index_mut.result.now) e.place
    ∙ ap (λ (o : Seats). if eqb c.args.seat t then length (roll g c) else place_in t o) (sym (own_then g c))))
