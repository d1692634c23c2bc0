use Rattle.scr_sheet.proofs.FaultKinds.{never_memory}
use Rattle.scr_sheet.proofs.laws.fault_kinds.Goals as goal

pub returns : goal.returns
returns c = never_memory
