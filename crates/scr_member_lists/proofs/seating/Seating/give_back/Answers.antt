use Rattle.std.proofs.Common.{◌≡◌, ◌≢◌, ◌⊎◌, inl, inr, ℕ, ◌<◌, true, List, length, map, sym, ap, subst, ◌∙◌, arith}
use Rattle.scr_tables.specs.Tables.{has_row}
use Rattle.scr_member_lists.specs.Members.{name_at}
use Rattle.scr_member_lists.specs.Seatings.{names_of, place_in, seats_of}
use Rattle.scr_member_lists.specs.declared.seats.Seats.{Seats}
use Rattle.scr_member_lists.proofs.SeatLists.{drawn-out}
use Rattle.scr_member_lists.proofs.seating.Seating.give_back.Goals as goal

pub move_to-requires : goal.move_to-requires
move_to-requires g c =
    let found = drawn-out c.args.place (names_of c.args.number c.args.self.now.rolls) c.in-Some.drawn (sym c.put_at.ensures.drawn ∙ c.in-Some.is) in (omega arith, (ap length c.put_at.ensures.own ∙ c.requires.beside, (c.requires.apart, (c.requires.seat, (subst (λ s. s < g.row.N) c.requires.kind c.count-last.ensures.width, subst (λ (x : List ℕ). has_row g.R.Row.name_of x c.args.rows.now ≡ true) (sym found.1) (c.requires.there found.0))))))

pub returns-in-Some-clause-still : goal.returns-in-Some-clause-still
returns-in-Some-clause-still g c =
    let roll = names_of c.args.number c.args.self.now.rolls in
    let found = drawn-out c.args.place roll c.in-Some.drawn (sym c.put_at.ensures.drawn ∙ c.in-Some.is) in
    λ other s side.
    c.move_to.ensures.others other s (pick roll c.args.place c.in-Some.drawn c.args.seat other s found.0 found.1 side)
    ∙ ap (λ (xs : List Seats). place_in s (seats_of (map g.R.Row.name_of c.args.rows.now) xs other)) c.put_at.ensures.own
  where
    pick : (roll : List (List ℕ)) (place : ℕ) (drawn : List ℕ) (seat : ℕ) (other : List ℕ) (s : ℕ) → place < length roll → drawn ≡ name_at place roll
        → ((place < length roll → other ≢ name_at place roll) ⊎ (s ≢ seat)) → ((other ≢ drawn) ⊎ (s ≢ seat))
    pick roll place drawn seat other s h is (inl e) = inl (λ z. e h (z ∙ is))
    pick roll place drawn seat other s h is (inr e) = inr e
