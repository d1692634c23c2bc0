use Rattle.std.proofs.Common.{◌≡◌, ℕ, ◌-◌, ◌<◌, Some, List, length, map, get_or, set, eqb, [], sym, ap, subst, ◌∙◌, arith, rules}
use Rattle.std.specs.Prelude.{if◌then◌else◌}
use Rattle.std.specs.Option.{option_map}
use Rattle.std.proofs.lemmas.List.{length-map}
use Rattle.scr_member_lists.specs.Members.{back_at}
use Rattle.scr_member_lists.specs.Seatings.{Seated, AreSeated, KeepsSeats, names_of, place_in, roll_in, seat_at}
use Rattle.scr_member_lists.specs.declared.seats.Seats.{Seats}
use Rattle.scr_member_lists.proofs.Benches.{for-kind}
use Rattle.scr_member_lists.proofs.SeatLists.{at-any, named-at}
use Rattle.scr_member_lists.proofs.SeatMoves.{member-there, own-after, seated-back}
use Rattle.scr_member_lists.proofs.seating.Seating.go_back.Goals as goal

module _ (g : Rattle.scr_member_lists.proofs.seating.Seating.go_back.Given.Over) (c : goal.After-self-1 g) where
  abbrev table : List (List ℕ)
  table = map g.R.Row.name_of c.args.rows.now

  abbrev roll : List (List ℕ)
  roll = names_of c.args.roll c.args.self.now.rolls

  inside : c.args.place < length table
  inside = let h = c.requires.place in let long = length-map c.args.rows.now g.R.Row.name_of in omega (arith, h, long)

  own_then : seat_at c.args.place c.give_back.new.self.seats ≡ c.index_mut.result.now
  own_then =
      let same : c.self.inside.seats.items ≡ c.give_back.new.self.seats = ap (λ (s : Seated). s.seats) c.self.view_is in
      let long = ap length same in
      let kept = c.give_back.ensures.beside in
      let beside = c.requires.seated.beside in
      ap (seat_at c.args.place) (sym (ap (λ (s : Seated). s.seats) c.self.view_is))
      ∙ at-any c.self.inside.seats.items c.args.place c.index_mut.result.now (omega (arith, long, kept, beside, inside)) c.index_mut.ensures.value

  row_name : get_or table c.args.place [] ≡ c.name-name.result
  row_name = (named-at g.R.Row.name_of c.args.rows.now c.args.place c.name-name.result (ap (option_map g.R.Row.name_of) c.at.ensures ∙ ap Some (sym c.name-name.ensures))).1

pub put-requires : goal.put-requires
put-requires g c =
    let few = c.self.invariant.0 in
    let width : c.args.seat < g.row.N =
    for-kind g.row.N c.self.inside.rolls.items c.args.self.now.rolls c.self.invariant.1
    (subst (λ rolls. KeepsSeats c.args.self.now.rolls rolls) (sym (ap (λ (s : Seated). s.rolls) c.self.view_is)) c.give_back.ensures.seats)
    c.args.roll c.args.seat c.requires.number c.requires.kind in
    search (rules, width, few)

pub returns-clause-seated : goal.returns-clause-seated
returns-clause-seated g c =
    let e = c.give_back.ensures in
    let room : ℕ = c.self.inside.seats.cap - length (set c.self.inside.seats.items c.args.place c.put.new.self) in
    subst (λ (mid : Seated). AreSeated (table g c) (record { rolls = mid.rolls; seats = set mid.seats c.args.place c.put.new.self; room = room })) (sym c.self.view_is)
    (seated-back (table g c) c.args.self.now c.requires.seated c.requires.apart c.args.place (inside g c) c.give_back.new.self room c.put.new.self c.args.seat e.beside e.seats
    c.args.roll c.args.at c.requires.none c.requires.number c.requires.kind c.requires.at
    (e.names ∙ ap (λ y. back_at c.args.at y (roll g c)) (sym (row_name g c)))
    e.rolls e.at e.drawn e.still
    (λ t. c.put.ensures.rolls t ∙ ap (λ (o : Seats). if eqb c.args.seat t then c.args.roll else roll_in t o) (sym (own_then g c)))
    (λ t. c.put.ensures.places t ∙ ap (λ (o : Seats). if eqb c.args.seat t then c.args.at else place_in t o) (sym (own_then g c))))

pub give_back-requires : goal.give_back-requires
give_back-requires g c =
    let beside = c.requires.seated.beside in
    let long = length-map c.args.rows.now g.R.Row.name_of in (omega arith, (omega (arith, beside, long), (c.requires.apart, (c.requires.seat, (c.requires.number, (c.requires.kind, (c.requires.at, (c.requires.room, λ more. member-there g.R.Row.name_of c.args.rows.now c.args.self.now c.requires.seated c.args.roll c.args.at more))))))))

pub returns-clause-own : goal.returns-clause-own
returns-clause-own g c =
    let same : c.self.inside.seats.items ≡ c.give_back.new.self.seats = ap (λ (s : Seated). s.seats) c.self.view_is in
    λ s. ap (λ (xs : List Seats). roll_in s (seat_at c.args.place (set xs c.args.place c.put.new.self))) same
    ∙ own-after (table g c) c.args.self.now c.requires.seated c.requires.apart c.args.place (inside g c) c.give_back.new.self.seats c.put.new.self c.args.seat c.args.roll
    c.give_back.ensures.beside c.give_back.ensures.at
    (λ t. c.put.ensures.rolls t ∙ ap (λ (o : Seats). if eqb c.args.seat t then c.args.roll else roll_in t o) (sym (own_then g c))) s

pub returns-clause-names : goal.returns-clause-names
returns-clause-names g c =
    ap (λ (st : Seated). names_of c.args.roll st.rolls) c.self.view_is
    ∙ c.give_back.ensures.names ∙ ap (λ y. back_at c.args.at y (roll g c)) (sym (row_name g c))
