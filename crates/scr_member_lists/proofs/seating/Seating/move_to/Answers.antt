use Rattle.std.proofs.Common.{◌≡◌, length, map, eqb, sym, ap, ◌∙◌, arith}
use Rattle.std.specs.Prelude.{if◌then◌else◌}
use Rattle.std.proofs.lemmas.List.{length-map}
use Rattle.scr_member_lists.specs.Seatings.{Seated, place_in, seat_at, seats_of}
use Rattle.scr_member_lists.proofs.SeatLists.{at-any, named-at, write-own, write-others}
use Rattle.scr_member_lists.proofs.seating.Seating.move_to.Goals as goal

pub returns-in-Some-clause-own : goal.returns-in-Some-clause-own
returns-in-Some-clause-own g c =
    let names = map g.R.Row.name_of c.args.rows.now in
    let inside = c.self.inside.seats.items in
    let same : inside ≡ c.args.self.now.seats = ap (λ (s : Seated). s.seats) c.self.view_is in
    let beside : length inside ≡ length names = ap length same ∙ c.requires.beside ∙ sym (length-map c.args.rows.now g.R.Row.name_of) in
    let named = named-at g.R.Row.name_of c.args.rows.now c.in-Some.k c.args.name.now c.in-Some.ensures.place in
    let there : seat_at c.in-Some.k inside ≡ c.index_mut.result.now = at-any inside c.in-Some.k c.index_mut.result.now (omega (arith, beside, named)) c.index_mut.ensures.value in
    write-own names inside c.requires.apart beside c.in-Some.k c.args.name.now named.0 named.1 c.set_place.new.self place_in c.args.seat c.args.place
    (λ s. c.set_place.ensures.places s ∙ ap (λ z. if eqb c.args.seat s then c.args.place else place_in s z) (sym there))

pub returns-in-Some-clause-others : goal.returns-in-Some-clause-others
returns-in-Some-clause-others g c =
    let names = map g.R.Row.name_of c.args.rows.now in
    let inside = c.self.inside.seats.items in
    let same : inside ≡ c.args.self.now.seats = ap (λ (s : Seated). s.seats) c.self.view_is in
    let beside : length inside ≡ length names = ap length same ∙ c.requires.beside ∙ sym (length-map c.args.rows.now g.R.Row.name_of) in
    let named = named-at g.R.Row.name_of c.args.rows.now c.in-Some.k c.args.name.now c.in-Some.ensures.place in
    let there : seat_at c.in-Some.k inside ≡ c.index_mut.result.now = at-any inside c.in-Some.k c.index_mut.result.now (omega (arith, beside, named)) c.index_mut.ensures.value in
    λ other s side.
    write-others names inside c.requires.apart beside c.in-Some.k c.args.name.now named.0 named.1 c.set_place.new.self place_in c.args.seat c.args.place
    (λ t. c.set_place.ensures.places t ∙ ap (λ z. if eqb c.args.seat t then c.args.place else place_in t z) (sym there)) other s side
    ∙ ap (λ xs. place_in s (seats_of names xs other)) same
