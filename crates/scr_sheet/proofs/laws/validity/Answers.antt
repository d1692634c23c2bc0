use Rattle.scr_sheet.proofs.Preserved.{Valid-opening, Valid-applied}
use Rattle.scr_sheet.proofs.laws.validity.Goals as goal

pub returns-clause-opening : goal.returns-clause-opening
returns-clause-opening c = Valid-opening

pub returns-clause-applied : goal.returns-clause-applied
returns-clause-applied c = Valid-applied
