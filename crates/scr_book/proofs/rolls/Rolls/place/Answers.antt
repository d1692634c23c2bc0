use Rattle.std.proofs.Common.{◌≡◌, ℕ, Some, ap₂, sym, ◌∙◌}
use Rattle.scr_member_lists.specs.Seatings.{seats_of, stood}
use Rattle.scr_member_lists.specs.declared.seats.Seats.{Seats}
use Rattle.scr_sheet.specs.BalanceSheet.{is_in}
use Rattle.scr_sheet.specs.Members.{table_of}
use Rattle.scr_book.specs.Places.{names_in}
use Rattle.scr_book.specs.Rolls.{number_of_roll, seated_in}
use Rattle.scr_book.proofs.RollPlaces.{none-if, place-absent, place-there, some-if}
use Rattle.scr_book.proofs.rolls.Rolls.place.Goals as goal

pub returns-in_err-seats : goal.returns-in_err-seats
returns-in_err-seats c =
    let sheet = c.args.sheet.now in
    let kept = c.args.self.now in
    let table = table_of c.args.roll in
    c.from_residual-in_err-seats.ensures
    ∙ place-absent sheet kept c.requires.valid c.requires.rolls c.args.roll c.args.name.now
    (none-if (is_in table c.args.name.now sheet) (seats_of (names_in table sheet) (seated_in table kept).seats c.args.name.now)
    (sym c.row_seats.ensures ∙ c.in_err-seats.was))

pub returns : goal.returns
returns c =
    let sheet = c.args.sheet.now in
    let kept = c.args.self.now in
    let table = table_of c.args.roll in
    let number : number_of_roll c.args.roll kept ≡ Some c.in_ok-number.number = sym c.number.ensures ∙ c.in_ok-number.was in
    let seats : seats_of (names_in table sheet) (seated_in table kept).seats c.args.name.now ≡ c.in_ok-seats.seats =
    some-if (is_in table c.args.name.now sheet) (seats_of (names_in table sheet) (seated_in table kept).seats c.args.name.now) c.in_ok-seats.seats
    (sym c.row_seats.ensures ∙ c.in_ok-seats.was) in
    c.stood.ensures
    ∙ ap₂ (λ (s : ℕ) (held : Seats). stood s c.in_ok-number.number held) c.seat_of_roll.ensures.seat (sym seats)
    ∙ place-there sheet kept c.requires.valid c.requires.rolls c.args.roll c.args.name.now c.in_ok-number.number number
