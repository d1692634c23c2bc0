use Rattle.std.proofs.Common.{◌≡◌, ◌<◌, ℕ, true, length, ap, subst, sym, ◌∙◌, arith}
use Rattle.scr_sheet.specs.declared.keys.Table.{Table}
use Rattle.scr_member_lists.specs.Seatings.{Seated, seat_at}
use Rattle.scr_book.specs.Places.{names_in}
use Rattle.scr_book.specs.RolledSheets.{RolledSheet}
use Rattle.scr_book.specs.Rolls.{AreRollsOf, same_table, seated_in}
use Rattle.scr_book.proofs.RollSteps.{seated-in}
use Rattle.scr_tree.proofs.graph.seats_at.Goals as goal

-- each row has seats
row-seated : (book : RolledSheet) (table : Table) (row : ℕ) → AreRollsOf book.sheet book.rolls → same_table table table ≡ true
    → row < length (names_in table book.sheet) → (seating : Seated) → seating ≡ seated_in table book.rolls → row < length seating.seats
row-seated book table row kept own low seating is =
    let seats = (seated-in table book.sheet book.rolls own (kept.seated table)).beside in
    subst (λ (s : Seated). row < length s.seats) (sym is) (omega (arith, low, seats))

pub seats-requires : goal.seats-requires
seats-requires c = (
  omega arith,
  row-seated c.args.book.now c.args.table c.args.row c.security_seats.ensures.kept c.requires.table c.requires.row c.security_seats.result.now
      (c.security_seats.ensures.seats ∙ ap (λ t. seated_in t c.args.book.now.rolls) (sym c.in-Security.is)),
)

pub returns-in-Security : goal.returns-in-Security
returns-in-Security c =
    c.seats.ensures
    ∙ ap (λ (s : Seated). seat_at c.args.row s.seats) (c.security_seats.ensures.seats ∙ ap (λ t. seated_in t c.args.book.now.rolls) (sym c.in-Security.is))

pub seats-requires-in-Liability : goal.seats-requires-in-Liability
seats-requires-in-Liability c = (
  omega arith,
  row-seated c.args.book.now c.args.table c.args.row c.liability_seats.ensures.kept c.requires.table c.requires.row c.liability_seats.result.now
      (c.liability_seats.ensures.seats ∙ ap (λ t. seated_in t c.args.book.now.rolls) (sym c.in-Liability.is)),
)

pub returns-in-Liability : goal.returns-in-Liability
returns-in-Liability c =
    c.seats-in-Liability.ensures
    ∙ ap (λ (s : Seated). seat_at c.args.row s.seats) (c.liability_seats.ensures.seats ∙ ap (λ t. seated_in t c.args.book.now.rolls) (sym c.in-Liability.is))

pub seats-requires-in-Fund : goal.seats-requires-in-Fund
seats-requires-in-Fund c = (
  omega arith,
  row-seated c.args.book.now c.args.table c.args.row c.fund_seats.ensures.kept c.requires.table c.requires.row c.fund_seats.result.now
      (c.fund_seats.ensures.seats ∙ ap (λ t. seated_in t c.args.book.now.rolls) (sym c.in-Fund.is)),
)

pub returns-in-Fund : goal.returns-in-Fund
returns-in-Fund c =
    c.seats-in-Fund.ensures
    ∙ ap (λ (s : Seated). seat_at c.args.row s.seats) (c.fund_seats.ensures.seats ∙ ap (λ t. seated_in t c.args.book.now.rolls) (sym c.in-Fund.is))

pub seats-requires-in-Group : goal.seats-requires-in-Group
seats-requires-in-Group c = (
  omega arith,
  row-seated c.args.book.now c.args.table c.args.row c.group_seats.ensures.kept c.requires.table c.requires.row c.group_seats.result.now
      (c.group_seats.ensures.seats ∙ ap (λ t. seated_in t c.args.book.now.rolls) (sym c.in-Group.is)),
)

pub returns-in-Group : goal.returns-in-Group
returns-in-Group c =
    c.seats-in-Group.ensures
    ∙ ap (λ (s : Seated). seat_at c.args.row s.seats) (c.group_seats.ensures.seats ∙ ap (λ t. seated_in t c.args.book.now.rolls) (sym c.in-Group.is))
