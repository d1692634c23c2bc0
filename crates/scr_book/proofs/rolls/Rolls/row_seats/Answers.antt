use Rattle.std.proofs.Common.{arith}
use Rattle.scr_sheet.specs.declared.keys.Table.TheVariants as tables
use Rattle.scr_book.proofs.rolls.Rolls.row_seats.Goals as goal

pub seats_at-requires : goal.seats_at-requires
seats_at-requires c = (omega arith, c.requires.seated tables.Security)

pub seats_at-requires-in-Fund : goal.seats_at-requires-in-Fund
seats_at-requires-in-Fund c = (omega arith, c.requires.seated tables.Fund)

pub seats_at-requires-in-Liability : goal.seats_at-requires-in-Liability
seats_at-requires-in-Liability c = (omega arith, c.requires.seated tables.Liability)

pub seats_at-requires-in-Group : goal.seats_at-requires-in-Group
seats_at-requires-in-Group c = (omega arith, c.requires.seated tables.Group)
