use Rattle.scr_sheet.proofs.CycleFaults.{cycle-told}
use Rattle.scr_sheet.proofs.laws.cycles.Goals as goal

pub returns : goal.returns
returns c = λ name components sheet. cycle-told name components sheet
