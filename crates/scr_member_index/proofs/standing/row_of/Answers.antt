use Rattle.std.proofs.Common.{refl, arith}
use Rattle.scr_sheet.specs.declared.keys.Table.TheVariants as tables
use Rattle.scr_member_index.proofs.Members.{rows-counted, rows-seated}
use Rattle.scr_member_index.proofs.standing.row_of.Goals as goal

pub row_at-requires : goal.row_at-requires
row_at-requires c = (
  omega arith,
  (
    rows-seated c.args.book.now c.args.places.now tables.Security refl c.sheet-sheet.result.now c.sheet-sheet.ensures.sheet
        c.security_seats.ensures.kept c.security_seats.result.now c.security_seats.ensures.seats,
    rows-counted c.args.book.now c.args.places.now tables.Security refl c.sheet-sheet.result.now c.sheet-sheet.ensures.sheet c.requires.ranges,
  ),
)

pub row_at-requires-in-Liability : goal.row_at-requires-in-Liability
row_at-requires-in-Liability c = (
  omega arith,
  (
    rows-seated c.args.book.now c.args.places.now tables.Liability refl c.sheet-sheet.result.now c.sheet-sheet.ensures.sheet
        c.liability_seats.ensures.kept c.liability_seats.result.now c.liability_seats.ensures.seats,
    rows-counted c.args.book.now c.args.places.now tables.Liability refl c.sheet-sheet.result.now c.sheet-sheet.ensures.sheet c.requires.ranges,
  ),
)

pub row_at-requires-in-Fund : goal.row_at-requires-in-Fund
row_at-requires-in-Fund c = (
  omega arith,
  (
    rows-seated c.args.book.now c.args.places.now tables.Fund refl c.sheet-sheet.result.now c.sheet-sheet.ensures.sheet
        c.fund_seats.ensures.kept c.fund_seats.result.now c.fund_seats.ensures.seats,
    rows-counted c.args.book.now c.args.places.now tables.Fund refl c.sheet-sheet.result.now c.sheet-sheet.ensures.sheet c.requires.ranges,
  ),
)

pub row_at-requires-in-Group : goal.row_at-requires-in-Group
row_at-requires-in-Group c = (
  omega arith,
  (
    rows-seated c.args.book.now c.args.places.now tables.Group refl c.sheet-sheet.result.now c.sheet-sheet.ensures.sheet
        c.group_seats.ensures.kept c.group_seats.result.now c.group_seats.ensures.seats,
    rows-counted c.args.book.now c.args.places.now tables.Group refl c.sheet-sheet.result.now c.sheet-sheet.ensures.sheet c.requires.ranges,
  ),
)
