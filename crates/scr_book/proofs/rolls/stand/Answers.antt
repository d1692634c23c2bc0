use Rattle.std.proofs.Common.{◌≡◌, ℕ, zero, suc, ◌<◌, true, List, [], ◌∷◌, map, refl, sym, ap, subst, ◌∙◌, arith}
use Rattle.std.specs.Prelude.{slice_index_or}
use Rattle.std.proofs.lemmas.List.{length-map}
use Rattle.scr_member_lists.specs.Members.{has}
use Rattle.scr_member_lists.specs.Seatings.{names_of, roll_in, seat_at, seats_of}
use Rattle.scr_member_lists.specs.declared.seating.Numbered.{Numbered}
use Rattle.scr_book.proofs.RollLaws.{own-before, row-listed}
use Rattle.scr_book.proofs.RollSteps.{told-by}
use Rattle.scr_book.proofs.rolls.stand.Goals as goal

-- a list of one roll names none for later seats
past-first : (number seat roll : ℕ) → 0 < seat → slice_index_or (number ∷ []) seat roll ≡ roll
past-first number zero roll later = absurd (omega (arith, later))
past-first number (suc seat) roll later = refl

pub returns-clause-own : goal.returns-clause-own
returns-clause-own g c =
    let place = c.placed-place.ensures.place in
    let long = length-map c.args.rows.now g.R.Row.name_of in
    ap (roll_in 0)
    (own-before (map g.R.Row.name_of c.args.rows.now) c.arrange.new.self c.arrange.ensures.seated c.len-count.ensures.apart c.placed-place.result (omega (arith, place, long)) c.args.name.now c.placed-place.ensures.name)
    ∙ c.arrange.ensures.own 0

-- in a seat other than the first it stands where it stood
pub returns-clause-stood : goal.returns-clause-stood
returns-clause-stood g c = λ seat later some.
    let place = c.placed-place.ensures.place in
    let long = length-map c.args.rows.now g.R.Row.name_of in
    let held =
    own-before (map g.R.Row.name_of c.args.rows.now) c.arrange.new.self c.arrange.ensures.seated c.len-count.ensures.apart c.placed-place.result (omega (arith, place, long)) c.args.name.now c.placed-place.ensures.name in
    let stays = ap (roll_in seat) held ∙ c.arrange.ensures.own seat ∙ past-first c.args.number seat (roll_in seat (seat_at c.placed-place.result c.placed-place.new.self.seats)) later in
    subst (λ (l : List Numbered). has c.args.name.now (names_of (roll_in seat (seats_of (map g.R.Row.name_of c.args.rows.now) c.arrange.new.self.seats c.args.name.now)) l) ≡ true) c.placed-place.ensures.rolls
    (subst (λ n. has c.args.name.now (names_of n c.placed-place.new.self.rolls) ≡ true) (sym stays)
    (row-listed (map g.R.Row.name_of c.args.rows.now) c.placed-place.new.self c.placed-place.ensures.seated c.len-count.ensures.apart c.placed-place.result (omega (arith, place, long)) c.args.name.now c.placed-place.ensures.name
    seat (λ e. some (stays ∙ e))))

pub returns-clause-names : goal.returns-clause-names
returns-clause-names g c =
    let place = c.placed-place.ensures.place in
    let long = length-map c.args.rows.now g.R.Row.name_of in
    told-by (map g.R.Row.name_of c.args.rows.now) c.args.name.now c.placed-place.result (c.args.number ∷ []) c.placed-place.new.self c.args.seating.now.rolls c.arrange.new.self
    (seats_of (map g.R.Row.name_of c.args.rows.now) c.arrange.new.self.seats c.args.name.now) c.placed-place.ensures.rolls c.placed-place.ensures.name
    (own-before (map g.R.Row.name_of c.args.rows.now) c.arrange.new.self c.arrange.ensures.seated c.len-count.ensures.apart c.placed-place.result (omega (arith, place, long)) c.args.name.now c.placed-place.ensures.name)
    c.arrange.ensures.own c.arrange.ensures.names
