use Rattle.scr_member_lists.proofs.SeatTables.{replaced, entered, gone, rejoined}
use Rattle.scr_member_lists.proofs.laws.tables.Goals as goal

pub returns-clause-replaced : goal.returns-clause-replaced
returns-clause-replaced g c = replaced

pub returns-clause-entered : goal.returns-clause-entered
returns-clause-entered g c = entered

pub returns-clause-gone : goal.returns-clause-gone
returns-clause-gone g c = gone

pub returns-clause-rejoined : goal.returns-clause-rejoined
returns-clause-rejoined g c = rejoined
