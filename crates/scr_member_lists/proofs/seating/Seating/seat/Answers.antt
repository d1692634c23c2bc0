use Rattle.std.proofs.Common.{◌≡◌, ◌≢◌, inl, inr, ℕ, ◌<◌, List, length, map, refl, sym, ap, ◌∙◌, arith}
use Rattle.std.proofs.lemmas.List.{length-map}
use Rattle.scr_member_lists.specs.Seatings.{NOWHERE, Seated, IsFor, names_of, roll_in, seat_at, seat_of}
use Rattle.scr_member_lists.specs.declared.seating.Numbered.{Numbered}
use Rattle.scr_member_lists.proofs.SeatLists.{at-any}
use Rattle.scr_member_lists.proofs.SeatRolls.{seat-moved, stays}
use Rattle.scr_member_lists.proofs.seating.Seating.seat.Goals as goal

-- the roll has its members in the seat, where there is one
target : (rolls : List Numbered) (seat number : ℕ) → IsFor rolls seat number → number ≢ NOWHERE → seat_of number rolls ≡ seat
target rolls seat number (inl e) some = absurd (some e)
target rolls seat number (inr e) some = e.1

module _ (g : Rattle.scr_member_lists.proofs.seating.Seating.seat.Given.Over) (c : goal.Then-roll g) where
  inside_there : c.args.place < length (map g.R.Row.name_of c.args.rows.now)
  inside_there = let h = c.requires.place in let long = length-map c.args.rows.now g.R.Row.name_of in omega (arith, h, long)

  from_there : roll_in c.args.seat (seat_at c.args.place c.args.self.now.seats) ≡ c.roll.result
  from_there =
      let same : c.self.inside.seats.items ≡ c.args.self.now.seats = ap (λ (s : Seated). s.seats) c.self.view_is in
      let long = ap length same in
      let beside = c.requires.seated.beside in
      let within = inside_there in
      ap (roll_in c.args.seat) (ap (seat_at c.args.place) (sym same) ∙ at-any c.self.inside.seats.items c.args.place c.index.result.now (omega (arith, long, beside, within)) c.index.ensures)
      ∙ sym c.roll.ensures

pub returns-then-roll-clause-names : goal.returns-then-roll-clause-names
returns-then-roll-clause-names g c =
    λ n. stays (map g.R.Row.name_of c.args.rows.now) c.args.self.now c.requires.seated c.len-count.ensures.apart c.args.place (inside_there g c) c.args.seat c.args.roll n (from_there g c ∙ c.if-roll.true)

module _ (g : Rattle.scr_member_lists.proofs.seating.Seating.seat.Given.Over) (c : goal.After-occupy g) where
  inside_then : c.args.place < length (map g.R.Row.name_of c.args.rows.now)
  inside_then = let h = c.requires.place in let long = length-map c.args.rows.now g.R.Row.name_of in omega (arith, h, long)

  from_then : roll_in c.args.seat (seat_at c.args.place c.args.self.now.seats) ≡ c.roll.result
  from_then =
      let same : c.self.inside.seats.items ≡ c.args.self.now.seats = ap (λ (s : Seated). s.seats) c.self.view_is in
      let long = ap length same in
      let beside = c.requires.seated.beside in
      let within = inside_then in
      ap (roll_in c.args.seat) (ap (seat_at c.args.place) (sym same) ∙ at-any c.self.inside.seats.items c.args.place c.index.result.now (omega (arith, long, beside, within)) c.index.ensures)
      ∙ sym c.roll.ensures

pub returns-then-roll-ne-NOWHERE-clause-names : goal.returns-then-roll-ne-NOWHERE-clause-names
returns-then-roll-ne-NOWHERE-clause-names g c =
    seat-moved (map g.R.Row.name_of c.args.rows.now) c.args.self.now c.requires.seated c.len-count.ensures.apart c.args.place (inside_then g c) c.args.seat c.args.roll (λ z. c.if-roll.false (sym (from_then g c) ∙ z)) (target c.args.self.now.rolls c.args.seat c.args.roll c.requires.roll)
    (λ m. names_of m c.clear.new.self.rolls) (λ m. names_of m c.occupy.new.self.rolls) c.clear.ensures.names c.clear.ensures.rolls c.occupy.ensures.rolls (λ some. c.occupy.ensures.names)

module _ (g : Rattle.scr_member_lists.proofs.seating.Seating.seat.Given.Over) (c : goal.Else-roll-ne-NOWHERE g) where
  inside_else : c.args.place < length (map g.R.Row.name_of c.args.rows.now)
  inside_else = let h = c.requires.place in let long = length-map c.args.rows.now g.R.Row.name_of in omega (arith, h, long)

  from_else : roll_in c.args.seat (seat_at c.args.place c.args.self.now.seats) ≡ c.roll.result
  from_else =
      let same : c.self.inside.seats.items ≡ c.args.self.now.seats = ap (λ (s : Seated). s.seats) c.self.view_is in
      let long = ap length same in
      let beside = c.requires.seated.beside in
      let within = inside_else in
      ap (roll_in c.args.seat) (ap (seat_at c.args.place) (sym same) ∙ at-any c.self.inside.seats.items c.args.place c.index.result.now (omega (arith, long, beside, within)) c.index.ensures)
      ∙ sym c.roll.ensures

pub returns-else-roll-ne-NOWHERE-clause-names : goal.returns-else-roll-ne-NOWHERE-clause-names
returns-else-roll-ne-NOWHERE-clause-names g c =
    seat-moved (map g.R.Row.name_of c.args.rows.now) c.args.self.now c.requires.seated c.len-count.ensures.apart c.args.place (inside_else g c) c.args.seat c.args.roll (λ z. c.if-roll.false (sym (from_else g c) ∙ z)) (target c.args.self.now.rolls c.args.seat c.args.roll c.requires.roll)
    (λ m. names_of m c.clear.new.self.rolls) (λ m. names_of m c.clear.new.self.rolls) c.clear.ensures.names c.clear.ensures.rolls (λ m z. refl) (λ some. absurd (some c.if-roll-ne-NOWHERE.false))
