use Rattle.std.proofs.Common.{arith}
use Rattle.scr_sheet.specs.declared.keys.Table.TheVariants as tables
use Rattle.scr_book.proofs.rolls.Rolls.standing.Goals as goal

pub seats_at-seats-requires : goal.seats_at-seats-requires
seats_at-seats-requires c =
    (omega arith, c.requires.seated tables.Security)

pub seats_at-seats-requires-in-Fund : goal.seats_at-seats-requires-in-Fund
seats_at-seats-requires-in-Fund c =
    (omega arith, c.requires.seated tables.Fund)

pub seats_at-seats-requires-in-Liability : goal.seats_at-seats-requires-in-Liability
seats_at-seats-requires-in-Liability c =
    (omega arith, c.requires.seated tables.Liability)

pub seats_at-seats-requires-in-Group : goal.seats_at-seats-requires-in-Group
seats_at-seats-requires-in-Group c =
    (omega arith, c.requires.seated tables.Group)
